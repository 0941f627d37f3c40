-- A step, part by part: by a rule, it changes words of its own board (its state, a cell), and it adds to the sent words of the types that are new; a stop adds its board to the
-- stopped ones. So what each of these keeps, the step keeps, by one induction; Q-10 looks at no more than this. If steps get one more part, it is one more field of `Kept`, and each
-- use says how that part keeps it. No law asks how many words there are: past the end, a change changes nothing.
use mathlib.Core.Path.{◌≡◌, refl, sym, ◌∙◌}
use mathlib.Core.Logic.{◌≢◌}
use mathlib.Core.Bool.{Bool, true, false}
use mathlib.Core.List.{List}
use Prim.Native.Nat.{ℕ, zero, suc, ◌≤◌, ◌<◌}
use native.Mathlib.Nat.{le_refl}
use native.Mathlib.Omega.{arith}
use Rattle.senders.specs.Set.{insert}
use Rattle.fault.specs.Fault.{◌if◌else◌}
use Rattle.paper.specs.Paper.{Design, Step, newly, silent, is_stop, Kind}
use Rattle.paper.specs.Words.{cell_at, sent_at, stopped_at, cell, sent, stopped, hear, tell, stop}
use Rattle.paper.specs.Form.{wide, slot, bump}
use Rattle.paper.specs.Step.{column_of, receipt, heard, taken, stepped}
use Rattle.paper.proofs.WordLaws.{cell_below, cell_above, cell_inj}
use Rattle.paper.proofs.FormLaws.{slot-below}
use Rattle.paper.proofs.StepLaws.{by_kind, Named}
use Rattle.exchange.proofs.Changes.{change}

module _ (k : ℕ) (d : Design) where
  abbrev pub cell_in : ℕ → ℕ → ℕ → ℕ
  cell_in p m e = cell_at d.boards d.types (wide k) p m e

  abbrev pub sent_of : ℕ → ℕ
  sent_of m = sent_at d.boards d.types (wide k) m

  abbrev pub stopped_of : ℕ
  stopped_of = stopped_at d.boards d.types (wide k)

  -- ---- the places of board p
  pub data Place (p i : ℕ) : Type 0 where
    state_of : i ≡ p → Place p i
    cell_of : (m e : ℕ) → m < d.types → e < wide k → i ≡ cell_in p m e → Place p i

  -- none is that of a sent word
  pub not_sent : (p i m : ℕ) → p < d.boards → Place p i → i ≢ sent_of m
  unfolding sent_at
  not_sent p i m h (state_of e) = omega arith
  not_sent p i m h (cell_of n e hn he q) = omega (arith, cell_below d.boards d.types (wide k) p n e h hn he)

  -- none is that of the stopped boards, and no sent word is there either
  pub not_stopped : (p i : ℕ) → p < d.boards → Place p i → i ≢ stopped_of
  unfolding sent_at stopped_at
  not_stopped p i h (state_of e) = omega arith
  not_stopped p i h (cell_of n e hn he q) = omega (arith, cell_below d.boards d.types (wide k) p n e h hn he)

  pub sent_not_stopped : (m : ℕ) → m < d.types → sent_of m ≢ stopped_of
  unfolding sent_at stopped_at
  sent_not_stopped m h = omega arith

  -- and none is that of another board
  pub apart : (p q i j : ℕ) → p < d.boards → q < d.boards → p ≢ q → Place p i → Place q j → i ≢ j
  apart p q i j hp hq o (state_of a) (state_of b) = omega arith
  apart p q i j hp hq o (state_of a) (cell_of m e hm he b) = omega (arith, cell_above d.boards d.types (wide k) q m e)
  apart p q i j hp hq o (cell_of m e hm he a) (state_of b) = omega (arith, cell_above d.boards d.types (wide k) p m e)
  apart p q i j hp hq o (cell_of m e hm he a) (cell_of n c hn hc b) =
      λ z. o (cell_inj d.boards d.types (wide k) p m e q n c hm he hn hc (sym a ∙ z ∙ b)).0

  -- ---- a step whose board there is, and its message, if it has one
  pub record Formed (s : Step) : Type 0 where
    pub board : s.board < d.boards
    pub named : silent s ≡ false → Named k d s

  abbrev pub new : Step → ℕ → Bool
  new s m = newly d (d.from s.rule) (d.to s.rule) m

  abbrev pub adds : Step → ℕ → ℕ
  adds s = bump k ((column_of k d).own s.board)

  -- ---- a relation of two lists of words that each part of the step s keeps
  pub record Kept (s : Step) (R : List ℕ → List ℕ → Type 0) : Type 0 where
    pub own : (i : ℕ) (g : ℕ → ℕ) (w u : List ℕ) → Place s.board i → R w u → R (change i g w) (change i g u)
    pub sends : (m : ℕ) (w u : List ℕ) → m < d.types → new s m ≡ true → R w u → R (change (sent_of m) (adds s) w) (change (sent_of m) (adds s) u)
    pub stops : (w u : List ℕ) → is_stop s ≡ true → R w u → R (change stopped_of (insert s.board) w) (change stopped_of (insert s.board) u)

  module _ (s : Step) (F : Formed s) (R : List ℕ → List ℕ → Type 0) (K : Kept s R) where
    pub heard_kept : (w u : List ℕ) → R w u → R (heard k d w s) (heard k d u s)
    unfolding heard hear cell
    heard_kept w u r =
        by_kind (λ (κ : Kind). R (receipt k d w s.board κ) (receipt k d u s.board κ)) s (λ e. r)
        (λ e. K.own _ (bump k s.source) w u (cell_of s.type (slot k s.source) (F.named e).type (slot-below k d.boards d.faulty s.source (F.named e).source) refl) r)

    told_kept : (n : ℕ) (w u : List ℕ) → n ≤ d.types → R w u
        → R (tell d.boards d.types (wide k) (new s) (adds s) n w) (tell d.boards d.types (wide k) (new s) (adds s) n u)
    unfolding tell sent ◌if◌else◌
    told_kept zero w u l r = r
    told_kept (suc n) w u l r = go (new s n) refl (told_kept n w u (omega arith) r)
      where
        go : {v v' : List ℕ} (b : Bool) → new s n ≡ b → R v v' → R (change (sent_of n) (adds s) v if b else v) (change (sent_of n) (adds s) v' if b else v')
        go {v} {v'} true e r = K.sends n v v' l e r
        go false e r = r

    taken_kept : (w u : List ℕ) → R w u → R (taken k d w s) (taken k d u s)
    unfolding taken
    taken_kept w u r = told_kept d.types _ _ (le_refl d.types) (K.own s.board (λ v. d.to s.rule) _ _ (state_of refl) (heard_kept w u r))

    pub step_kept : (w u : List ℕ) → R w u → R (stepped k d w s) (stepped k d u s)
    unfolding stepped stop stopped ◌if◌else◌
    step_kept w u r = go (is_stop s) refl
      where
        go : (b : Bool) → is_stop s ≡ b → R (change stopped_of (insert s.board) w if b else taken k d w s) (change stopped_of (insert s.board) u if b else taken k d u s)
        go true e = K.stops w u e r
        go false e = taken_kept w u r
