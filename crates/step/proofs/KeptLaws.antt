-- The kept rules and the designs that they stand for refuse the same steps and change the same words: a refusal looks at the ends and
-- the least counts of its own rule, and a rule sends one type at most. And how far a step lets words grow.
use mathlib.Core.Path.{◌≡◌, refl, sym, ap, ap₂, ◌∙◌, subst⁻¹}
use mathlib.Core.Bool.{Bool, true, false, not}
use mathlib.Core.List.{List}
use Prim.Native.Nat.{ℕ, ◌+◌, ◌≤◌, ◌<◌}
use native.Mathlib.Decide.{dec_lt, ℕ_discrete}
use native.Mathlib.Omega.{arith}
use lib.Dec.{eqb, ltb}
use lib.ListN.{length, set, length-set}
use borrow.Author.Tests.{lt-ltb, le-ltb, le-leb, ne_eqb}
use Rattle.senders.specs.Tally.{count, least}
use Rattle.senders.specs.Set.{mem}
use Rattle.senders.proofs.TallyLaws.{every-same, least_first, least-found, count_only}
use Rattle.fault.specs.Tests.{◌at_least◌, ◌differs◌}
use Rattle.fault.specs.Fault.{◌if◌else◌}
use Rattle.fault.proofs.FaultLaws.{if_keeps}
use Rattle.paper.specs.Paper.{Design, Step, newly, silent, is_stop}
use Rattle.paper.specs.Words.{sent_at, stopped_at, cell, sent, hear, tell, stop, state}
use Rattle.paper.specs.Form.{wide, bump}
use Rattle.paper.specs.Step.{heard, taken, malformed, not_in_transit, not_met, take_fault, stop_fault, step_fault, stepped}
use Rattle.paper.proofs.WordLaws.{tell_none, tell-one}
use Rattle.paper.proofs.StepLaws.{accepted, malformed_if, transit_if, heard_if, length_heard, heard_silent, heard_message, ruled}
use Rattle.words.specs.declared.Sizes.{Sizes}
use Rattle.words.specs.Words.{column_in, count_in, stopped_of}
use Rattle.words.specs.Facts.{Holds, Grown}
use Rattle.words.proofs.KeepLaws.{Under, under_more, under_bump, holds_more, holds-put, holds-stop}
use Rattle.rules.specs.Kept.{kept_to, kept_sends, kept_least, kept_design, Numbers, KeptEnds, Kept}
use Rattle.step.specs.Step.{left_by, sized, sent_once, moved_by, kept_taken, taken_fault, kept_stepped, kept_fault, kept_left}

-- ---- a design with the numbers s is itself
abbrev pub numbered : Sizes → Design → Design
numbered s d = record {
  boards = s.correct;
  faulty = s.faulty;
  tolerated = s.tolerated;
  types = s.types;
  rules = s.rules;
  initial = d.initial;
  accepting = d.accepting;
  has_sent = d.has_sent;
  from = d.from;
  to = d.to;
  met = d.met;
}

pub numbered_is : (d : Design) (s : Sizes) → Numbers d s → d ≡ numbered s d
numbered_is d s N = λ i. record {
  boards = N.boards i;
  faulty = N.faulty i;
  tolerated = N.tolerated i;
  types = N.types i;
  rules = N.rules i;
  initial = d.initial;
  accepting = d.accepting;
  has_sent = d.has_sent;
  from = d.from;
  to = d.to;
  met = d.met;
}

-- of a receipt only the numbers are asked
pub heard-sized : (s : Sizes) (d : Design) (w : List ℕ) (x : Step) → heard s.level (numbered s d) w x ≡ heard s.level (sized s) w x
heard-sized s d w x = heard_if s.level (numbered s d) w x ∙ sym (heard_if s.level (sized s) w x)

-- ---- refusals
abbrev rest : Bool → Bool → Bool → Bool → ℕ
rest c e f g = 22 if c else 23 if e else 24 if f else 25 if g else 0

abbrev rest_of : Sizes → Design → List ℕ → Step → ℕ
rest_of s d w x = rest (state w x.board differs d.from x.rule) (malformed s.level d x) (not_in_transit s.level d w x) (not_met s.level d w x)

-- a rule that there is not is refused before its ends are looked at
early : (a b : Bool) (y z : ℕ) → b ≡ true → (20 if a else 21 if b else y) ≡ (20 if a else 21 if b else z)
unfolding ◌if◌else◌
early true b y z h = refl
early false b y z h = rw h

pub take-fault-kept : (d : Design) (s : Sizes) (e l : List ℕ) → Kept d s e l → (w : List ℕ) (x : Step) → take_fault s.level d w x ≡ taken_fault s e l w x
unfolding take_fault not_met
take-fault-kept d s e l K w x = ap (λ (D : Design). take_fault s.level D w x) (numbered_is d s K.ends.numbers) ∙ go (dec_lt x.rule s.rules)
  where
    k : Design
    k = kept_design s e l

    hears : heard s.level (numbered s d) w x ≡ heard s.level k w x
    hears = heard-sized s d w x ∙ sym (heard-sized s k w x)

    mal : malformed s.level (numbered s d) x ≡ malformed s.level k x
    mal = malformed_if s.level (numbered s d) w x ∙ sym (malformed_if s.level k w x)

    away : not_in_transit s.level (numbered s d) w x ≡ not_in_transit s.level k w x
    away = transit_if s.level (numbered s d) w x ∙ sym (transit_if s.level k w x)

    unmet : x.rule < s.rules → not_met s.level (numbered s d) w x ≡ not_met s.level k w x
    unmet h = ap not (every-same s.types _ _ (λ m hm.
        K.leasts.met x.rule m _ h hm ∙ ap (λ (v : List ℕ). count_in s v x.board m at_least kept_least l x.rule m) hears))

    go : Dec (x.rule < s.rules) → take_fault s.level (numbered s d) w x ≡ taken_fault s e l w x
    go (yes h) = λ i. 20 if x.board at_least s.correct else 21 if x.rule at_least s.rules else rest (state w x.board differs sym (K.ends.from x.rule h) i) (mal i) (away i) (unmet h i)
    go (no h) = early (x.board at_least s.correct) (x.rule at_least s.rules) (rest_of s (numbered s d) w x) (rest_of s (kept_design s e l) w x) (le-leb s.rules x.rule (omega arith))

-- ---- changes: of the types that are new there is one at most, the lowest
sent_once_lem : (s : Sizes) (p m : ℕ) (P : ℕ → Bool) (v : List ℕ) → m ≡ least s.types P → count s.types P ≤ 1
    → tell s.correct s.types (wide s.level) P (bump s.level ((column_in s).own p)) s.types v ≡ sent_once s p m v
unfolding sent_once ◌if◌else◌
sent_once_lem s p m P v e o = go (dec_lt m s.types)
  where
    go : Dec (m < s.types) → tell s.correct s.types (wide s.level) P (bump s.level ((column_in s).own p)) s.types v ≡ sent_once s p m v
    go (yes h) =
        let t : P m ≡ true = ap P e ∙ least-found s.types P (rw e at h) in
        rw (lt-ltb m s.types h) (tell-one s.correct s.types (wide s.level) P (bump s.level ((column_in s).own p)) s.types m v h t (count_only s.types P m o h t))
    go (no h) =
        rw (le-ltb m s.types (omega arith)) (tell_none s.correct s.types (wide s.level) P (bump s.level ((column_in s).own p)) s.types v (λ j l. least_first s.types P j (omega arith)))

-- a move with a send, and one without, as the code makes them
module _ {m : ℕ} {u : List ℕ} (s : Sizes) (ends : List ℕ) (p r : ℕ) (w : List ℕ) (e : u ≡ set w p (kept_to ends r)) (f : m ≡ kept_sends ends r) where
  pub moved-sent : {v : List ℕ} → m < s.types
      → v ≡ set u (sent_at s.correct s.types (wide s.level) m) (bump s.level ((column_in s).own p) (sent s.correct s.types (wide s.level) u m)) → v ≡ moved_by s ends p r w
  unfolding sent_once ◌if◌else◌
  moved-sent h g =
      let y = lt-ltb (kept_sends ends r) s.types (rw (← f) h) in
      g ∙ ap₂ (λ (x : List ℕ) (j : ℕ). set x (sent_at s.correct s.types (wide s.level) j) (bump s.level ((column_in s).own p) (sent s.correct s.types (wide s.level) x j))) e f ∙ rw y

  pub moved-quiet : s.types ≤ m → u ≡ moved_by s ends p r w
  unfolding sent_once ◌if◌else◌
  moved-quiet h = e ∙ (let y = le-ltb (kept_sends ends r) s.types (rw (← f) h) in rw y)

length-sent : (s : Sizes) (p m : ℕ) (v : List ℕ) → length (sent_once s p m v) ≡ length v
unfolding sent_once ◌if◌else◌
length-sent s p m v = go (ltb m s.types)
  where
    go : (b : Bool) → length (set v (sent_at s.correct s.types (wide s.level) m) (bump s.level ((column_in s).own p) (sent s.correct s.types (wide s.level) v m)) if b else v) ≡ length v
    go true = length-set v _ _
    go false = refl

pub length_moved : (s : Sizes) (ends : List ℕ) (p r : ℕ) (w : List ℕ) → length (moved_by s ends p r w) ≡ length w
length_moved s ends p r w = length-sent s p (kept_sends ends r) (set w p (kept_to ends r)) ∙ length-set w p (kept_to ends r)

pub length-kept : (s : Sizes) (ends w : List ℕ) (x : Step) → length (kept_taken s ends w x) ≡ length w
length-kept s ends w x = length_moved s ends x.board x.rule (heard s.level (sized s) w x) ∙ length_heard s.level (sized s) w x

pub taken_kept : (d : Design) (s : Sizes) (e : List ℕ) → KeptEnds d s e → (w : List ℕ) (x : Step) → x.rule < s.rules → taken s.level d w x ≡ kept_taken s e w x
unfolding taken
taken_kept d s e K w x h =
    ap (λ (D : Design). taken s.level D w x) (numbered_is d s K.numbers)
    ∙ ap (λ (v : List ℕ). tell s.correct s.types (wide s.level) (newly d (d.from x.rule) (d.to x.rule)) (bump s.level ((column_in s).own x.board)) s.types (set v x.board (d.to x.rule))) (heard-sized s d w x)
    ∙ sent_once_lem s x.board (kept_sends e x.rule) _ (set (heard s.level (sized s) w x) x.board (d.to x.rule)) (K.sends x.rule h) (K.one_new x.rule h)
    ∙ ap (λ (ℓ : ℕ). sent_once s x.board (kept_sends e x.rule) (set (heard s.level (sized s) w x) x.board ℓ)) (sym (K.to x.rule h))

-- ---- how far words grow
module _ (s : Sizes) (w : List ℕ) (x : Step) (k : ℕ) (H : Holds s k w) where
  under_heard : (s.level ≡ 0 → ⊥) → (b : Bool) → silent x ≡ b → Under (stopped_at s.correct s.types (wide s.level)) (k + 1) (heard s.level (sized s) w x)
  unfolding hear cell
  under_heard n true e = subst⁻¹ (Under (stopped_at s.correct s.types (wide s.level)) (k + 1)) (heard_silent s.level (sized s) w x e) (under_more _ k (k + 1) w (omega arith) (H.small n))
  under_heard n false e = subst⁻¹ (Under (stopped_at s.correct s.types (wide s.level)) (k + 1)) (heard_message s.level (sized s) w x e) (under_bump _ s.level n w _ x.source k (H.small n))

  pub holds-heard : Holds s (k + 1) (heard s.level (sized s) w x)
  holds-heard = record { fits = length_heard s.level (sized s) w x ∙ H.fits; small = λ n. under_heard n (silent x) refl }

holds-sent : (s : Sizes) (p m k : ℕ) (v : List ℕ) → Holds s k v → Holds s (k + 1) (sent_once s p m v)
unfolding sent_once ◌if◌else◌ sent
holds-sent s p m k v H = go (dec_lt m s.types)
  where
    go : Dec (m < s.types) → Holds s (k + 1) (sent_once s p m v)
    go (yes h) = rw (lt-ltb m s.types h) (record { fits = length-set v _ _ ∙ H.fits; small = λ n. under_bump _ s.level n v _ ((column_in s).own p) k (H.small n) })
    go (no h) = rw (le-ltb m s.types (omega arith)) (holds_more s k (k + 1) v (omega arith) H)

pub grown-taken : (s : Sizes) (e w : List ℕ) (x : Step) → kept_to e x.rule < 256 → Grown s w (kept_taken s e w x)
grown-taken s e w x b k h H =
    holds_more s (k + 1 + 1) (k + 2) _ (omega arith)
    (holds-sent s x.board _ (k + 1) _ (holds-put s (k + 1) _ x.board (kept_to e x.rule) (holds-heard s w x k H) (omega arith)))

-- ---- with stops
pub fault-kept : (d : Design) (s : Sizes) (e l : List ℕ) → Kept d s e l → (w : List ℕ) (x : Step) → step_fault s.level d w x ≡ kept_fault s e l w x
unfolding step_fault stop_fault
fault-kept d s e l K w x =
    ap (λ (D : Design). step_fault s.level D w x) same_numbers
    ∙ ap (λ (y : ℕ). 20 if x.board at_least s.correct else 26 if mem (stopped_of s w) x.board else stop_fault s.level (kept_design s e l) w x if is_stop x else y)
    (sym (ap (λ (D : Design). take_fault s.level D w x) same_numbers) ∙ take-fault-kept d s e l K w x)
  where
    same_numbers : d ≡ numbered s d
    same_numbers = numbered_is d s K.ends.numbers

-- what holds of a stop and of a rule's words holds of a step's
by_stop_lem : (P : List ℕ → Type 0) (s : Sizes) (e w : List ℕ) (x : Step) → P (stop s.correct s.types (wide s.level) x.board w) → P (kept_taken s e w x) → P (kept_stepped s e w x)
by_stop_lem P s e w x a b = if_keeps P _ (is_stop x) _ (λ z. a) (λ z. b)

pub stepped_kept : (d : Design) (s : Sizes) (e : List ℕ) → KeptEnds d s e → (w : List ℕ) (x : Step) → (is_stop x ≡ false → x.rule < s.rules) → stepped s.level d w x ≡ kept_stepped s e w x
unfolding stepped ◌if◌else◌
stepped_kept d s e K w x h = go (is_stop x) h
  where
    go : (b : Bool) → (b ≡ false → x.rule < s.rules) → (stop d.boards d.types (wide s.level) x.board w if b else taken s.level d w x) ≡ (stop s.correct s.types (wide s.level) x.board w if b else kept_taken s e w x)
    go true l = ap₂ (λ (C T : ℕ). stop C T (wide s.level) x.board w) K.numbers.boards K.numbers.types
    go false l = taken_kept d s e K w x (l refl)

length-stepped : (s : Sizes) (e w : List ℕ) (x : Step) → length (kept_stepped s e w x) ≡ length w
unfolding stop
length-stepped s e w x = by_stop_lem (λ (v : List ℕ). length v ≡ length w) s e w x (length-set w _ _) (length-kept s e w x)

-- ---- what a step leaves
pub length-left : (s : Sizes) (e l w : List ℕ) (x : Step) → length (kept_left s e l w x) ≡ length w
length-left s e l w x = if_keeps (λ (v : List ℕ). length v ≡ length w) _ (eqb (kept_fault s e l w x) 0) _ (λ z. length-stepped s e w x) (λ z. refl)

pub grown-left : (s : Sizes) (e l w : List ℕ) (x : Step) → kept_to e x.rule < 256 → Grown s w (kept_left s e l w x)
grown-left s e l w x b k h H =
    let wider = holds_more s k (k + 2) w (omega arith) H in
    if_keeps (Holds s (k + 2)) _ (eqb (kept_fault s e l w x) 0) _ (λ z. by_stop_lem (Holds s (k + 2)) s e w x (holds-stop s (k + 2) w x.board wider) (grown-taken s e w x b k h H)) (λ z. wider)

-- the rule of a step that is accepted and no stop
pub rule_of_lem : (s : Sizes) (e l w : List ℕ) (x : Step) → kept_fault s e l w x ≡ 0 → is_stop x ≡ false → x.rule < s.rules
rule_of_lem s e l w x z n = (accepted s.level (kept_design s e l) w x (ruled s.level (kept_design s e l) w x n z).1).arrives.rule

pub left-kept : (d : Design) (s : Sizes) (e l : List ℕ) → Kept d s e l → (w : List ℕ) (x : Step) → left_by s.level d w x ≡ kept_left s e l w x
unfolding ◌if◌else◌
left-kept d s e l K w x = go (ℕ_discrete (kept_fault s e l w x) 0)
  where
    f : step_fault s.level d w x ≡ kept_fault s e l w x
    f = fault-kept d s e l K w x

    go : Dec (kept_fault s e l w x ≡ 0) → left_by s.level d w x ≡ kept_left s e l w x
    go (yes z) = ap₂ (λ (y : ℕ) (u : List ℕ). u if eqb y 0 else w) f (stepped_kept d s e K.ends w x (rule_of_lem s e l w x z))
    go (no n) = rw (f, ne_eqb (kept_fault s e l w x) 0 n)
