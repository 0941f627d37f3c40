-- A step's checks in order, from what the code has in hand: each answer is the first of the outline's refusals, by the kept rules.
use mathlib.Core.Path.{◌≡◌, refl, sym, ap, ◌∙◌}
use mathlib.Core.Bool.{Bool, true, false, not, ◌&&◌, ◌||◌, true≢false}
use mathlib.Core.List.{List}
use Prim.Native.Nat.{ℕ, ◌+◌, ◌≤◌, ◌<◌}
use native.Mathlib.Decide.{dec_lt}
use native.Mathlib.Omega.{arith}
use lib.Dec.{eqb, ltb, leb}
use lib.ListN.{length}
use borrow.Author.Tests.{leb-true, leb-false, lt-ltb, le-ltb, le-leb, lt-leb, eqb-true, eq-eqb, ne_eqb, not-false}
use Rattle.senders.specs.Tally.{digit}
use Rattle.senders.proofs.TallyLaws.{and_both, every-same}
use Rattle.fault.specs.Tests.{◌at_least◌, ◌differs◌}
use Rattle.fault.specs.Fault.{◌if◌else◌}
use Rattle.fault.proofs.FaultLaws.{if_yes, if_no}
use Rattle.fault.proofs.TestLaws.{same}
use Rattle.senders.specs.Set.{mem, correct_count}
use Rattle.paper.specs.Paper.{Design, Step, silent, is_stop}
use Rattle.paper.specs.Words.{size, state, stop}
use Rattle.paper.specs.Form.{wide}
use Rattle.paper.specs.Step.{malformed, not_in_transit, not_met, take_fault, stop_fault, step_fault}
use Rattle.paper.proofs.StepLaws.{Arrives, Named, accepted, sixth, malformed_if, transit_if, named_of, count_heard}
use Rattle.words.specs.declared.Sizes.{Sizes}
use Rattle.words.specs.Words.{room_of, column_in, count_in, transit_in, stopped_of}
use Rattle.rules.specs.Kept.{kept_from, kept_least, kept_design, Numbers}
use Rattle.step.proofs.KeptLaws.{numbered, numbered_is}
use Rattle.step.specs.Step.{sized, met_with, kept_taken, taken_fault, taken_left, kept_stepped, kept_fault, kept_left, Formed, Awake, Leaves}

-- a step that a design of these numbers accepts, by a rule
pub formed_by : (d : Design) (s : Sizes) → Numbers d s → (w : List ℕ) (x : Step) → take_fault s.level d w x ≡ 0 → Formed s x
formed_by d s N w x z = go (accepted s.level (numbered s d) w x (sym (ap (λ (D : Design). take_fault s.level D w x) (numbered_is d s N)) ∙ z)).arrives
  where
    ranged : (b : Bool) → silent x ≡ b → Arrives s.level (numbered s d) w x → (not b && (x.type at_least s.types || x.source at_least (column_in s).sources)) ≡ false
    ranged true e A = refl
    ranged false e A = let M = A.named e in rw (lt-leb _ _ M.type, lt-leb _ _ M.source)

    go : Arrives s.level (numbered s d) w x → Formed s x
    go A = record { board = A.board; rule = A.rule; named = malformed_if s.level (sized s) w x ∙ ranged (silent x) refl A }

-- ---- the first checks
pub below : {b : Bool} (y limit : ℕ) → b ≡ (y at_least limit) → b ≡ false → y < limit
below y limit e f = leb-false limit y (sym e ∙ f)

pub at-or-past : {b : Bool} (y limit : ℕ) → b ≡ (y at_least limit) → b ≡ true → limit ≤ y
at-or-past y limit e f = leb-true limit y (sym e ∙ f)

-- no rule of a table is that of a stop
pub no_stop : (s : Sizes) (x : Step) → s.rules ≤ 64 → x.rule < s.rules → is_stop x ≡ false
no_stop s x l h = ne_eqb x.rule 254 (λ z. omega arith)

pub board_in_room : (s : Sizes) (p : ℕ) → p < s.correct → p < room_of s
unfolding size
board_in_room s p h = omega arith

-- what a step by a rule answers, and the words that it leaves
abbrev pub Takes : Sizes → List ℕ → List ℕ → List ℕ → Step → ℕ → List ℕ → Type 0
Takes s ends leasts w x k v = (k ≡ taken_fault s ends leasts w x) × (v ≡ taken_left s ends leasts w x)

refuses : {k : ℕ} (s : Sizes) (ends leasts w : List ℕ) (x : Step) → k ≡ taken_fault s ends leasts w x → (k ≡ 0 → ⊥) → Takes s ends leasts w x k w
refuses s ends leasts w x e n = (e, if_no (kept_taken s ends w x) refl (ne_eqb _ 0 (λ z. n (e ∙ z))) refl)

module _ {a : Bool} (s : Sizes) (ends leasts w : List ℕ) (x : Step) (e : a ≡ (x.board at_least s.correct)) where
  pub fault-board : a ≡ true → Takes s ends leasts w x 20 w
  unfolding take_fault
  fault-board f = refuses s ends leasts w x (if_yes _ refl e f) (λ z. omega arith)

  module _ {b : Bool} (f : a ≡ false) (g : b ≡ (x.rule at_least s.rules)) where
    pub fault-rule : b ≡ true → Takes s ends leasts w x 21 w
    unfolding take_fault
    fault-rule h = refuses s ends leasts w x (if_no 20 e f (if_yes _ refl g h)) (λ z. omega arith)

    module _ {c : Bool} (h : b ≡ false) (i : c ≡ (state w x.board differs kept_from ends x.rule)) where
      pub fault-state : c ≡ true → Takes s ends leasts w x 22 w
      unfolding take_fault
      fault-state j = refuses s ends leasts w x (if_no 20 e f (if_no 21 g h (if_yes _ refl i j))) (λ z. omega arith)

      pub leaves_by : c ≡ false → Leaves s ends w x
      leaves_by j = record { board = below x.board s.correct e f; rule = below x.rule s.rules g h; from = same _ _ (sym i ∙ j) }

-- a count below the least one is not at least that
pub below-not : {c x y z : ℕ} → c ≡ y → x ≡ z → ltb c x ≡ not (y at_least z)
below-not {c} {x} {y} {z} e f = rw (e, f) (go (dec_lt y z))
  where
    go : Dec (y < z) → ltb y z ≡ not (leb z y)
    go (yes h) = rw (lt-ltb y z h, lt-leb z y h)
    go (no h) = rw (le-ltb y z (omega arith), le-leb z y (omega arith))

-- ---- the thresholds: the counts after the receipt, from those before it
module _ (s : Sizes) (ends leasts w : List ℕ) (x : Step) (few : s.types ≤ 4) (l : length w ≡ room_of s) (A : Arrives s.level (kept_design s ends leasts) w x) where
  silent-type : (i : ℕ) → i < s.types → digit (not (silent x) && eqb x.type i) ≡ digit (eqb x.type i)
  silent-type i h = go (silent x) refl
    where
      go : (b : Bool) → silent x ≡ b → digit (not b && eqb x.type i) ≡ digit (eqb x.type i)
      go true e =
          let z = eqb-true x.type 255 (and_both (eqb x.type 255) (eqb x.source 255) e).0 in
          let o : x.type ≡ i → ⊥ = omega arith in
          rw (ne_eqb x.type i o)
      go false e = refl

  pub not-met-is : not_met s.level (kept_design s ends leasts) w x ≡ not (met_with s leasts w x.board x.rule x.type)
  unfolding not_met
  not-met-is = ap not (every-same s.types _ _ (λ i h.
      ap (λ (n : ℕ). n at_least kept_least leasts x.rule i)
      (count_heard s.level (kept_design s ends leasts) w x l A i h ∙ ap (λ (y : ℕ). count_in s w x.board i + y) (silent-type i h))))

  -- past all other checks, the thresholds decide
  module _ {c : Bool} (i : c ≡ not (met_with s leasts w x.board x.rule x.type)) where
    pub fault_unmet : c ≡ true → Takes s ends leasts w x 25 w
    fault_unmet j = refuses s ends leasts w x (if_yes 0 refl (i ∙ sym not-met-is) j ∙ sym (sixth s.level (kept_design s ends leasts) w x A)) (λ z. omega arith)

    pub fault-none : {v : List ℕ} → c ≡ false → v ≡ kept_taken s ends w x → Takes s ends leasts w x 0 v
    fault-none j f = let e = if_no 25 (i ∙ sym not-met-is) j refl ∙ sym (sixth s.level (kept_design s ends leasts) w x A) in (e, if_yes w f refl (eq-eqb _ 0 (sym e)))

-- ---- a step past its first checks
module _ (s : Sizes) (ends leasts w : List ℕ) (x : Step) (L : Leaves s ends w x) where
  abbrev d : Design
  d = kept_design s ends leasts

  past : {k : ℕ} → k ≡ (23 if malformed s.level d x else 24 if not_in_transit s.level d w x else 25 if not_met s.level d w x else 0) → k ≡ taken_fault s ends leasts w x
  unfolding take_fault
  past e = if_no 20 refl (lt-leb _ _ L.board) (if_no 21 refl (lt-leb _ _ L.rule) (if_no 22 refl (ap not (eq-eqb _ _ L.from)) e))

  -- without a message
  pub arrives-silent : silent x ≡ true → Arrives s.level d w x
  arrives-silent z = record { board = L.board; rule = L.rule; leaves = L.from; named = λ e. absurd (true≢false (sym z ∙ e)); transit = λ e. absurd (true≢false (sym z ∙ e)) }

  -- with one
  module _ {a : Bool} (z : silent x ≡ false) (e : a ≡ (x.type at_least s.types || x.source at_least (column_in s).sources)) where
    mal : a ≡ malformed s.level d x
    mal = e ∙ sym (malformed_if s.level d w x ∙ rw z)

    pub fault-malformed : a ≡ true → Takes s ends leasts w x 23 w
    fault-malformed f = refuses s ends leasts w x (past (if_yes _ refl mal f)) (λ i. omega arith)

    module _ (f : a ≡ false) where
      pub named_by : Named s.level d x
      named_by = named_of s.level d w x (sym mal ∙ f) z

      pub fault_away : {b : Bool} → b ≡ not (transit_in s w x.board x.type x.source) → b ≡ true → Takes s ends leasts w x 24 w
      fault_away g h = refuses s ends leasts w x (past (if_no 23 mal f (if_yes _ refl (g ∙ sym (transit_if s.level d w x ∙ rw z)) h))) (λ i. omega arith)

      pub arrives_by : {b : Bool} → b ≡ not (transit_in s w x.board x.type x.source) → b ≡ false → Arrives s.level d w x
      arrives_by g h = record { board = L.board; rule = L.rule; leaves = L.from; named = λ _. named_by; transit = λ _. not-false _ (sym g ∙ h) }

-- ---- with stops
abbrev pub Answers : Sizes → List ℕ → List ℕ → List ℕ → Step → ℕ → List ℕ → Type 0
Answers s ends leasts w x k v = (k ≡ kept_fault s ends leasts w x) × (v ≡ kept_left s ends leasts w x)

module _ (s : Sizes) (ends leasts w : List ℕ) (x : Step) where
  answers_no : {k : ℕ} → k ≡ kept_fault s ends leasts w x → (k ≡ 0 → ⊥) → Answers s ends leasts w x k w
  answers_no e n = (e, if_no (kept_stepped s ends w x) refl (ne_eqb _ 0 (λ z. n (e ∙ z))) refl)

  pub no_board : {a : Bool} → a ≡ (x.board at_least s.correct) → a ≡ true → Answers s ends leasts w x 20 w
  unfolding step_fault
  no_board e f = answers_no (if_yes _ refl e f) (λ z. omega arith)

  pub is-asleep : {a b : Bool} → a ≡ (x.board at_least s.correct) → a ≡ false → b ≡ mem (stopped_of s w) x.board → b ≡ true → Answers s ends leasts w x 26 w
  unfolding step_fault
  is-asleep e f g h = answers_no (if_no 20 e f (if_yes _ refl g h)) (λ z. omega arith)

  module _ (A : Awake s w x) where
    awake-fault : kept_fault s ends leasts w x ≡ (stop_fault s.level (kept_design s ends leasts) w x if is_stop x else taken_fault s ends leasts w x)
    unfolding step_fault
    awake-fault = sym (if_no 20 refl (lt-leb _ _ A.board) (if_no 26 refl A.awake refl))

    -- no stop: as by a rule
    pub by_rule_lem : {k : ℕ} {v : List ℕ} → is_stop x ≡ false → Takes s ends leasts w x k v → Answers s ends leasts w x k v
    unfolding ◌if◌else◌
    by_rule_lem n t = let e : kept_fault s ends leasts w x ≡ taken_fault s ends leasts w x = awake-fault ∙ rw n in (t.0 ∙ sym e, t.1 ∙ rw (e, n))

    -- a stop
    module _ (h : is_stop x ≡ true) where
      stop-fault : kept_fault s ends leasts w x ≡ stop_fault s.level (kept_design s ends leasts) w x
      unfolding ◌if◌else◌
      stop-fault = awake-fault ∙ rw h

      pub stop-heard : silent x ≡ false → Answers s ends leasts w x 23 w
      unfolding stop_fault
      stop-heard z = answers_no (if_yes _ refl refl (ap not z) ∙ sym stop-fault) (λ z. omega arith)

      module _ (z : silent x ≡ true) where
        pub no_more-stops : s.tolerated < correct_count s.correct (stopped_of s w) + 1 + s.faulty → Answers s ends leasts w x 27 w
        unfolding stop_fault
        no_more-stops l = answers_no (if_no 23 refl (ap not z) (if_yes _ refl refl (lt-ltb _ _ l)) ∙ sym stop-fault) (λ z. omega arith)

        pub stops_now : {v : List ℕ} → correct_count s.correct (stopped_of s w) + 1 + s.faulty ≤ s.tolerated → v ≡ stop s.correct s.types (wide s.level) x.board w → Answers s ends leasts w x 0 v
        unfolding stop_fault
        stops_now l f =
            let e : 0 ≡ kept_fault s ends leasts w x = if_no 23 refl (ap not z) (if_no 27 refl (le-ltb _ _ l) refl) ∙ sym stop-fault in
            (e, f ∙ if_yes _ refl refl h ∙ if_yes w refl refl (eq-eqb _ 0 (sym e)))
