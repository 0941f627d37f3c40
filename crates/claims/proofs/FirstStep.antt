-- The first possible step.
use mathlib.Core.Path.{◌≡◌, refl, sym, ap, ap₂, ◌∙◌, subst, subst⁻¹}
use mathlib.Core.Bool.{Bool, true, false, not, true≢false}
use mathlib.Core.List.{List}
use Prim.Native.Nat.{ℕ, zero, suc, ◌≤◌, ◌<◌}
use native.Mathlib.Nat.{not-suc-le-zero, le_refl}
use native.Mathlib.Decide.{ℕ_discrete}
use native.Mathlib.Omega.{arith}
use lib.Dec.{eqb}
use borrow.Author.Tests.{eq-eqb, ne_eqb, eqb-true, not-true}
use Rattle.senders.proofs.TallyLaws.{and_both}
use Rattle.fault.specs.Fault.{◌if◌else◌}
use Rattle.paper.specs.Paper.{Design, Step, silent, stop_rule, is_stop}
use Rattle.paper.specs.Step.{column_of, step_fault}
use Rattle.paper.proofs.StepLaws.{Accepted, accepted, ruled}
use Rattle.first_step.proofs.SeekLaws.{step_of}
use Rattle.paper.specs.Order.{Found, none, found, or_else, seek, is_wait, possible, tries, of_sources, of_types, of_rules, first}
use Rattle.claims.specs.FirstStep.{EarlierMessage, no_message, lower_type, lower_source, Earlier, lower_board, lower_rule, message, FirstPossible}

pub clash : {A : Type 0} (s : Step) → none ≡ found s → A
clash s e = let z : ◌≡◌ {A = ℕ} 0 1 = cc in absurd (omega arith)

pub same-found : (s t : Step) → found s ≡ found t → s ≡ t
same-found s t e = cc

-- ---- searches
or-first : (a b : Found) → or_else a b ≡ none → a ≡ none
unfolding or_else
or-first none b h = refl
or-first (found s) b h = clash s (sym h)

or-second : (a b : Found) → or_else a b ≡ none → b ≡ none
unfolding or_else
or-second none b h = h
or-second (found s) b h = clash s (sym h)

-- where nothing is found, nothing is at any number
seek-each : (n : ℕ) (g : ℕ → Found) → seek n g ≡ none → (i : ℕ) → i < n → g i ≡ none
unfolding seek
seek-each zero g h i l = absurd (not-suc-le-zero l)
seek-each (suc n) g h i l = go (ℕ_discrete i n) (seek-each n g (or-first (seek n g) (g n) h))
  where
    go : Dec (i ≡ n) → ((i : ℕ) → i < n → g i ≡ none) → g i ≡ none
    go (yes e) ih = subst⁻¹ (λ (x : ℕ). g x ≡ none) e (or-second (seek n g) (g n) h)
    go (no e) ih = ih i (omega arith)

-- what is found is at the lowest number that finds something
record Hit (n : ℕ) (g : ℕ → Found) (s : Step) : Type 0 where
  at : ℕ
  below : at < n
  here : g at ≡ found s
  before : (j : ℕ) → j < at → g j ≡ none

seek_hit : (n : ℕ) (g : ℕ → Found) (s : Step) → seek n g ≡ found s → Hit n g s
unfolding seek or_else
seek_hit zero g s h = clash s h
seek_hit (suc n) g s h = go (seek n g) refl h (seek_hit n g s)
  where
    go : (a : Found) → seek n g ≡ a → or_else a (g n) ≡ found s → (seek n g ≡ found s → Hit n g s) → Hit (suc n) g s
    go none e h ih = record { at = n; below = le_refl (suc n); here = h; before = seek-each n g e }
    go (found t) e h ih = let H = ih (e ∙ h) in record { at = H.at; below = omega (arith, H.below); here = H.here; before = H.before }

-- ---- steps without a message
pub silent-is : (s : Step) → silent s ≡ true → step_of s.board s.rule 255 255 ≡ s
silent-is s e =
    let b = and_both (eqb s.type 255) (eqb s.source 255) e in
    ap₂ (λ (x y : ℕ). step_of s.board s.rule x y) (sym (eqb-true _ 255 b.0)) (sym (eqb-true _ 255 b.1))

module _ (k : ℕ) (d : Design) (w : List ℕ) where
  abbrev n : ℕ
  n = (column_of k d).sources

  -- accepted, and no wait
  abbrev Possible : Step → Type 0
  Possible s = possible k d w s ≡ true

  is-accepted : (s : Step) → Possible s → step_fault k d w s ≡ 0
  unfolding possible
  is-accepted s h = eqb-true _ 0 (and_both (eqb (step_fault k d w s) 0) (not (is_wait d s)) h).0

  is_no_wait : (s : Step) → Possible s → is_wait d s ≡ false
  unfolding possible
  is_no_wait s h = not-true (is_wait d s) (and_both (eqb (step_fault k d w s) 0) (not (is_wait d s)) h).1

  is-possible : (s : Step) → step_fault k d w s ≡ 0 → is_wait d s ≡ false → Possible s
  unfolding possible
  is-possible s z o = rw (eq-eqb _ 0 z, o)

  -- by a rule, if it is no stop
  by_table : (s : Step) → Possible s → is_stop s ≡ false → Accepted k d w s
  by_table s z o = accepted k d w s (ruled k d w s o (is-accepted s z)).1

  -- ---- a step that is tried
  tried-none : (p r m q : ℕ) → tries (possible k d w) p r m q ≡ none → Possible (step_of p r m q) → ⊥
  unfolding tries ◌if◌else◌
  tried-none p r m q h z = clash (step_of p r m q) (sym h ∙ rw z)

  tried-found : (p r m q : ℕ) (s : Step) → tries (possible k d w) p r m q ≡ found s → (s ≡ step_of p r m q) × (Possible (step_of p r m q))
  unfolding tries ◌if◌else◌
  tried-found p r m q s = go (possible k d w (step_of p r m q)) refl
    where
      go : (b : Bool) → possible k d w (step_of p r m q) ≡ b → (found (step_of p r m q) if b else none) ≡ found s → (s ≡ step_of p r m q) × (Possible (step_of p r m q))
      go true e h = (sym (same-found (step_of p r m q) s h), e)
      go false e h = clash s h

  -- ---- an accepted step is seen at its board and rule
  rule_sees : (s : Step) → Possible s → is_stop s ≡ false → of_types n d (possible k d w) s.board s.rule ≡ none → ⊥
  rule_sees s z o h = go (silent s) refl
    where
      A : Accepted k d w s
      A = by_table s z o

      go : (b : Bool) → silent s ≡ b → ⊥
      go true e = tried-none s.board s.rule 255 255 (or-first _ _ h) (ap (possible k d w) (silent-is s e) ∙ z)
      go false e =
          let N = A.arrives.named e in
          tried-none s.board s.rule s.type s.source
          (seek-each n (tries (possible k d w) s.board s.rule s.type) (seek-each d.types (of_sources n (possible k d w) s.board s.rule) (or-second _ _ h) s.type N.type) s.source N.source) z

  board_sees : (s : Step) → Possible s → is_stop s ≡ false → of_rules n d (possible k d w) s.board ≡ none → ⊥
  board_sees s z o h = rule_sees s z o (seek-each d.rules (of_types n d (possible k d w) s.board) h s.rule (by_table s z o).arrives.rule)

  none_is : first k d w ≡ none → (s : Step) → is_stop s ≡ false → Possible s → ⊥
  unfolding first
  none_is h s o z = board_sees s z o (seek-each d.boards (of_rules n d (possible k d w)) h s.board (by_table s z o).arrives.board)

  -- ---- where a step is found
  -- at board p and rule r, by the try of no message, or by that of type m and source q
  data ByRule (p r : ℕ) (s : Step) : Type 0 where
    by_none : s ≡ step_of p r 255 255 → Possible (step_of p r 255 255) → ByRule p r s
    by_message : (m q : ℕ) → s ≡ step_of p r m q → Possible (step_of p r m q) → tries (possible k d w) p r 255 255 ≡ none
        → ((j : ℕ) → j < m → of_sources n (possible k d w) p r j ≡ none) → ((j : ℕ) → j < q → tries (possible k d w) p r m j ≡ none) → ByRule p r s

  by_rule_lem : (p r : ℕ) (s : Step) → of_types n d (possible k d w) p r ≡ found s → ByRule p r s
  unfolding or_else
  by_rule_lem p r s h = go (tries (possible k d w) p r 255 255) refl h
    where
      go : (a : Found) → tries (possible k d w) p r 255 255 ≡ a → or_else a (seek d.types (of_sources n (possible k d w) p r)) ≡ found s → ByRule p r s
      go (found t) e h = let f = tried-found p r 255 255 s (e ∙ h) in by_none f.0 f.1
      go none e h =
          let M = seek_hit d.types (of_sources n (possible k d w) p r) s h in
          let Q = seek_hit n (tries (possible k d w) p r M.at) s M.here in
          let f = tried-found p r M.at Q.at s Q.here in
          by_message M.at Q.at f.0 f.1 e M.before Q.before

  record Place (s : Step) : Type 0 where
    board : ℕ
    rule : ℕ
    below : rule < d.rules
    boards : (j : ℕ) → j < board → of_rules n d (possible k d w) j ≡ none
    rules : (j : ℕ) → j < rule → of_types n d (possible k d w) board j ≡ none
    found_by : ByRule board rule s

  place : (s : Step) → first k d w ≡ found s → Place s
  unfolding first
  place s h =
      let B = seek_hit d.boards (of_rules n d (possible k d w)) s h in
      let R = seek_hit d.rules (of_types n d (possible k d w) B.at) s B.here in
      record { board = B.at; rule = R.at; below = R.below; boards = B.before; rules = R.before; found_by = by_rule_lem B.at R.at s R.here }

  by_accepted : (p r : ℕ) (s : Step) → ByRule p r s → Possible s
  by_accepted p r s (by_none e z) = ap (possible k d w) e ∙ z
  by_accepted p r s (by_message m q e z h f g) = ap (possible k d w) e ∙ z

  by_board : (p r : ℕ) (s : Step) → ByRule p r s → s.board ≡ p
  by_board p r s (by_none e z) = ap (λ (x : Step). x.board) e
  by_board p r s (by_message m q e z h f g) = ap (λ (x : Step). x.board) e

  by_number : (p r : ℕ) (s : Step) → ByRule p r s → s.rule ≡ r
  by_number p r s (by_none e z) = ap (λ (x : Step). x.rule) e
  by_number p r s (by_message m q e z h f g) = ap (λ (x : Step). x.rule) e

  -- ---- nothing earlier
  module _ (t : Step) (z : Possible t) (o : is_stop t ≡ false) where
    no_earlier_message : (p r : ℕ) (s : Step) → ByRule p r s → t.board ≡ p → t.rule ≡ r → EarlierMessage t s → ⊥
    no_earlier_message p r s (by_none e y) hp hr (no_message a b) = true≢false (sym (ap silent e) ∙ b)
    no_earlier_message p r s (by_none e y) hp hr (lower_type a b l) = true≢false (sym (ap silent e) ∙ b)
    no_earlier_message p r s (by_none e y) hp hr (lower_source a b c l) = true≢false (sym (ap silent e) ∙ b)
    no_earlier_message p r s (by_message m q e y h f g) hp hr (no_message a b) =
        tried-none p r 255 255 h (ap₂ (λ (x y : ℕ). possible k d w (step_of x y 255 255)) (sym hp) (sym hr) ∙ ap (possible k d w) (silent-is t a) ∙ z)
    no_earlier_message p r s (by_message m q e y h f g) hp hr (lower_type a b l) =
        let N = (by_table t z o).arrives.named a in
        tried-none p r t.type t.source (seek-each n (tries (possible k d w) p r t.type) (f t.type (subst (λ (x : ℕ). t.type < x) (ap (λ (x : Step). x.type) e) l)) t.source N.source)
        (ap₂ (λ (x y : ℕ). possible k d w (step_of x y t.type t.source)) (sym hp) (sym hr) ∙ z)
    no_earlier_message p r s (by_message m q e y h f g) hp hr (lower_source a b c l) =
        tried-none p r m t.source (g t.source (subst (λ (x : ℕ). t.source < x) (ap (λ (x : Step). x.source) e) l))
        (ap (λ (x : ℕ). possible k d w (step_of p r x t.source)) (sym (c ∙ ap (λ (x : Step). x.type) e))
        ∙ ap₂ (λ (x y : ℕ). possible k d w (step_of x y t.type t.source)) (sym hp) (sym hr) ∙ z)

    no_earlier : (s : Step) → Place s → Earlier t s → ⊥
    no_earlier s P (lower_board l) = board_sees t z o (P.boards t.board (subst (λ (x : ℕ). t.board < x) (by_board P.board P.rule s P.found_by) l))
    no_earlier s P (lower_rule e l) =
        let h : t.board ≡ P.board = e ∙ by_board P.board P.rule s P.found_by in
        rule_sees t z o (subst⁻¹ (λ (x : ℕ). of_types n d (possible k d w) x t.rule ≡ none) h (P.rules t.rule (subst (λ (x : ℕ). t.rule < x) (by_number P.board P.rule s P.found_by) l)))
    no_earlier s P (message e f m) =
        no_earlier_message P.board P.rule s P.found_by (e ∙ by_board P.board P.rule s P.found_by) (f ∙ by_number P.board P.rule s P.found_by) m

  pub first_possible : d.rules ≤ stop_rule → FirstPossible k d w
  first_possible few = record {
    none_possible = λ h s z o. waits s z (none_is h s o);
    nothing_else = λ f. go f (first k d w) refl;
    accepted = λ s h. is-accepted s (seen s h);
    no_wait = λ s h. is_no_wait s (seen s h);
    no_stop = λ s h. by_number_below s h;
    earliest = λ s h t e z o. waits t z (λ y. no_earlier t y o s (place s h) e);
  }
    where
      seen : (s : Step) → first k d w ≡ found s → Possible s
      seen s h = let P = place s h in by_accepted P.board P.rule s P.found_by

      -- its rule is one of the design's
      by_number_below : (s : Step) → first k d w ≡ found s → is_stop s ≡ false
      by_number_below s h = let P = place s h in ne_eqb s.rule stop_rule (λ e. omega (arith, few, P.below, e, by_number P.board P.rule s P.found_by))

      -- what is accepted and not possible is a wait
      waits : (s : Step) → step_fault k d w s ≡ 0 → (Possible s → ⊥) → is_wait d s ≡ true
      waits s z n = split (is_wait d s) refl
        where
          split : (b : Bool) → is_wait d s ≡ b → is_wait d s ≡ true
          split true e = e
          split false e = absurd (n (is-possible s z e))

      go : ((s : Step) → step_fault k d w s ≡ 0 → is_stop s ≡ false → is_wait d s ≡ true) → (a : Found) → first k d w ≡ a → first k d w ≡ none
      go f none e = e
      go f (found s) e = absurd (true≢false (sym (f s (is-accepted s (seen s e)) (by_number_below s e)) ∙ is_no_wait s (seen s e)))
