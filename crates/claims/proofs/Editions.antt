-- A moved table says the same, so everything that reads it answers the same; moved back it is what its own edition writes, which is itself.
use mathlib.Core.Path.{◌≡◌, refl, sym, ap, ◌∙◌, subst}
use mathlib.Core.Bool.{Bool, false, not}
use mathlib.Core.List.{List, ◌++◌}
use Prim.Native.Nat.{ℕ, zero, suc, ◌+◌, ◌-◌, ◌≤◌, ◌<◌}
use native.Mathlib.Decide.{ℕ_discrete}
use native.Mathlib.Omega.{arith}
use lib.ListN.{length, take, drop, replicate, length-drop, length-replicate, take-append-drop}
use lib.Seq.{get_or-drop}
use borrow.Author.Tests.{lt-leb, le-leb, eq-eqb}
use Rattle.senders.specs.Tally.{some}
use Rattle.fault.specs.Fault.{Verdict}
use Rattle.fault.specs.declared.Answer.{Answer}
use Rattle.fault.specs.Bytes.{byte_at, trailer_bytes, trailer_of}
use Rattle.fault.specs.Tests.{◌differs◌}
use Rattle.fault.specs.Fault.{fine, ◌if◌else◌, ◌▹◌, first_fault}
use Rattle.fault.proofs.FaultLaws.{Clean, then_pass}
use Rattle.threshold.specs.declared.Weights.{Weights}
use Rattle.threshold.specs.Threshold.{threshold_of}
use Rattle.layout.specs.Layout.{second, types_in}
use Rattle.table.specs.Table.{rules_of, types_byte, types_of, rule_of, weights_for}
use Rattle.table.specs.Refusals.{table_fault}
use Rattle.table.specs.Facts.{Sized}
use Rattle.table.proofs.TableLaws.{well_formed}
use Rattle.bundle.specs.Bundle.{start_distance, front_length}
use Rattle.ink.specs.Ink.{given, left, Gives}
use Rattle.ink.proofs.GivenLaws.{gives, given-kept}
use Rattle.editions.specs.Moved.{moved_to}
use Rattle.editions.specs.Entry.{divided_by, rule_divides, to_second_fault, to_first_fault, to_second_answer, to_second_bytes, to_first_answer, to_first_bytes}
use Rattle.editions.proofs.EntryLaws.{types_of_second, up-types, down-types}
use Rattle.rules.specs.Design.{threshold_for}
use Rattle.engine.specs.Entry.{run_answer, run_words}
use Rattle.first_step.specs.Entry.{first_answer}
use Rattle.same.specs.Same.{SameTable, SameRun}
use Rattle.same.proofs.Runs.{run-same, words_same, first-same, translate-same, bytes_same, beside}
use Rattle.same.proofs.Fronts.{as_beside}
use Rattle.claims.specs.Drawings.{Table}
use Rattle.claims.specs.Editions.{SameRuns, Moves, Keeps, Q8}
use Rattle.claims.proofs.MovedTables.{byte_is, moved_same, moved-clean, moved-again, own-moved}
use Rattle.claims.proofs.Thresholds.{q7}

-- ---- the same runs
-- what stands after a front is a schedule part by itself
module _ (b : List ℕ) (some : 1 ≤ front_length b) where
  abbrev c : List ℕ
  c = drop (front_length b) b

  long : length c ≡ start_distance b + trailer_bytes
  unfolding front_length
  long = rw length-drop (omega arith)

  place : (k : ℕ) → front_length b + (trailer_of c + k) ≡ trailer_of b + k
  unfolding front_length
  place k = omega (arith, long)

  at : (k : ℕ) → byte_at c (trailer_of c + k) ≡ byte_at b (trailer_of b + k)
  at k = get_or-drop (front_length b) b (trailer_of c + k) 0 ∙ ap (byte_at b) (place k)

  whole : length c ≡ start_distance c + trailer_bytes
  whole =
      let f : trailer_of c + 2 + 1 ≡ trailer_of c + 3 = omega arith in
      let g : trailer_of b + 3 ≡ trailer_of b + 2 + 1 = omega arith in
      let next : byte_at c (trailer_of c + 2 + 1) ≡ byte_at b (trailer_of b + 2 + 1) = ap (byte_at c) f ∙ at 3 ∙ ap (byte_at b) g in
      omega (arith, long, at 2, next)

module _ (s s' : List ℕ) (E : SameTable s s') (x : Clean (table_fault s)) (x' : Clean (table_fault s')) where
  abbrev exchanged : List ℕ → List ℕ
  exchanged b = s' ++ drop (front_length b) b

  -- a table has a trailer at least
  long-table : (t : List ℕ) → Clean (table_fault t) → 1 ≤ length t
  long-table t z = omega (arith, (well_formed t z).sized.long)

  -- by way of the schedule part beside each of the tables
  module _ (b : List ℕ) (e : take (front_length b) b ≡ s) where
    front : 1 ≤ front_length b
    front = go (ℕ_discrete (front_length b) 0)
      where
        go : Dec (front_length b ≡ 0) → 1 ≤ front_length b
        go (yes z) = let q : ◌≡◌ {A = ℕ} 0 (length s) = ap length (sym (ap (λ (n : ℕ). take n b) z) ∙ e) in absurd (omega (arith, q, long-table s x))
        go (no z) = omega arith

    abbrev part : List ℕ
    part = drop (front_length b) b

    is : b ≡ s ++ part
    is = sym (take-append-drop (front_length b) b) ∙ ap (λ (l : List ℕ). l ++ part) e

    no_front : front_length part ≡ 0
    unfolding front_length
    no_front = omega (arith, whole b front)

    -- a call that goes by what a run looks at answers the same
    through : {A : Type 0} (f : List ℕ → List ℕ → A) → ((b₁ st₁ b₂ st₂ : List ℕ) → SameRun b₁ st₁ b₂ st₂ → f b₁ st₁ ≡ f b₂ st₂) → (st st' : List ℕ) → f b st ≡ f (exchanged b) st'
    through f same st st' =
        ap (λ (l : List ℕ). f l st) is ∙ same _ _ _ _ (as_beside s part (long-table s x) (whole b front) st) ∙ same _ _ _ _ (beside part E x x' no_front) ∙ sym (same _ _ _ _ (as_beside s' part (long-table s' x') (whole b front) st'))

  pub same_runs : SameRuns s s'
  same_runs = record {
    run = λ b lent z. run-same (beside b E x x' z) lent;
    words = λ b words z. words_same (beside b E x x' z) words;
    first = λ b z. first-same (beside b E x x' z);
    translate = λ b form lent z. translate-same (beside b E x x' z) form lent;
    translated = λ b form out z. bytes_same (beside b E x x' z) form out;
    front_run = λ b st st' lent e. through b e (λ c st. run_answer c st lent) (λ _ _ _ _ R. run-same R lent) st st';
    front_words = λ b st st' words e. through b e (λ c st. run_words c st words) (λ _ _ _ _ R. words_same R words) st st';
    front_first = λ b st st' e. through b e first_answer (λ _ _ _ _ R. first-same R) st st';
  }

-- ---- what is moved where
same-thresholds : (s s' : List ℕ) → SameTable s s' → (r m n t : ℕ) → r < rules_of s → m < types_of s → threshold_for s r m n t ≡ threshold_for s' r m n t
same-thresholds s s' E r m n t h l = ap (λ (w : Weights). threshold_of w n t) (E.weights r m h l)

-- in the first edition e is 1
first_one : (s : List ℕ) (r m : ℕ) → types_byte s < second → (weights_for s r m).e ≡ 1
first_one s r m h = q7.first_edition s r m h

-- nothing is refused where all is right
second-fine : (s : List ℕ) → Clean (table_fault s) → types_byte s < second → (to_second_fault s).number ≡ 0
unfolding to_second_fault ◌if◌else◌
second-fine s c h = ap (λ (v : Verdict). v.number) (sym (then_pass refl c refl)) ∙ rw (lt-leb second (types_byte s) h)

no_rule : (s : List ℕ) → ((r m : ℕ) → r < rules_of s → m < types_of s → (weights_for s r m).e ≡ 1) → (n : ℕ) → n ≤ rules_of s → first_fault (rule_divides s) n ≡ fine
unfolding some first_fault rule_divides ◌if◌else◌ ◌▹◌
no_rule s one zero h = refl
no_rule s one (suc n) h =
    let none : some (types_of s) (divided_by (types_byte s) (rule_of s n)) ≡ false = nobody (types_of s) _ (λ m l. differs_not (one n m (omega arith) l)) in
    rw (no_rule s one n (omega arith), none)
  where
    differs_not : {e : ℕ} → e ≡ 1 → (e differs 1) ≡ false
    differs_not {e} q = ap not (eq-eqb e 1 q)

    nobody : (k : ℕ) (P : ℕ → Bool) → ((i : ℕ) → i < k → P i ≡ false) → some k P ≡ false
    nobody zero P f = refl
    nobody (suc k) P f = rw (nobody k P (λ i l. f i (omega arith)), f k (omega arith))

first_fine : (s : List ℕ) → Clean (table_fault s) → second ≤ types_byte s → ((r m : ℕ) → r < rules_of s → m < types_of s → (weights_for s r m).e ≡ 1) → (to_first_fault s).number ≡ 0
unfolding to_first_fault ◌if◌else◌
first_fine s c h one =
    ap (λ (v : Verdict). v.number) (sym (then_pass refl c (then_pass (sym (no_rule s one (rules_of s) (omega arith))) refl refl))) ∙ rw (le-leb second (types_byte s) h)

-- ---- both ways, by the types byte
module _ (s : List ℕ) (T : Table s) (byte : ℕ) (t : types_in byte ≡ types_of s) (one : (r m : ℕ) → r < rules_of s → m < types_of s → (weights_for s r m).e ≡ 1) where
  abbrev s' : List ℕ
  s' = moved_to byte s

  Z : Sized s
  Z = (well_formed s T.clean).sized

  same : SameTable s s'
  same = moved_same byte s t Z (λ r m h l _. one r m h l)

  clean : Clean (table_fault s')
  clean = moved-clean byte s t Z T.clean same

  one-there : (r m : ℕ) → r < rules_of s' → m < types_of s' → (weights_for s' r m).e ≡ 1
  one-there r m h l =
      let h' = rw (← same.rules) at h in
      let l' = rw (← same.types) at l in
      ap (λ (w : Weights). w.e) (sym (same.weights r m h' l')) ∙ one r m h' l'

  byte-there : types_byte s' ≡ byte
  byte-there = byte_is byte s t Z

  -- moved back it is what its own edition writes, which is itself
  back : (b : ℕ) → b ≡ types_byte s → moved_to b s' ≡ s
  back b e = ap (λ (x : ℕ). moved_to x s') e ∙ moved-again byte s t Z (types_byte s) same ∙ own-moved s Z T.clean T.all_bytes

  moves : {there back-there : ℕ → Answer} {bytes bytes_back : List ℕ → List ℕ} → Gives 30 there bytes s' → Gives 30 back-there bytes_back s → Moves there bytes back-there bytes_back s s'
  moves g a = record {
    given = g;
    again = a;
    table = clean;
    same = same;
    thresholds = same-thresholds s s' same;
    runs = same_runs s s' same T.clean clean;
  }

  pub up : byte ≡ types_byte s + second → types_byte s < second → Moves (to_second_answer s) (to_second_bytes s) (to_first_answer s') (to_first_bytes s') s s'
  unfolding to_second_answer to_second_bytes to_first_answer to_first_bytes
  up e h =
      let b : types_byte s' - second ≡ types_byte s = omega (arith, byte-there, e) in
      moves (rw e (gives 30 (to_second_fault s) (moved_to (types_byte s + second) s) (second-fine s T.clean h)))
      (subst (Gives 30 (to_first_answer s') (to_first_bytes s')) (back _ b) (gives 30 (to_first_fault s') (moved_to (types_byte s' - second) s') (first_fine s' clean (omega (arith, byte-there, e)) one-there)))

  pub down : byte ≡ types_byte s - second → second ≤ types_byte s → byte < second → Moves (to_first_answer s) (to_first_bytes s) (to_second_answer s') (to_second_bytes s') s s'
  unfolding to_second_answer to_second_bytes to_first_answer to_first_bytes
  down e h l =
      let b : types_byte s' + second ≡ types_byte s = omega (arith, byte-there, e) in
      moves (rw e (gives 30 (to_first_fault s) (moved_to (types_byte s - second) s) (first_fine s T.clean h one)))
      (subst (Gives 30 (to_second_answer s') (to_second_bytes s')) (back _ b) (gives 30 (to_second_fault s') (moved_to (types_byte s' + second) s') (second-fine s' clean (omega (arith, byte-there)))))

-- ---- refusals
keeps : (v : Verdict) (w : List ℕ) → Keeps (given 30 v w) (left v w)
keeps v w = record { kept = λ out n. (given-kept 30 v w out n).0; none = λ lent n. counts lent n }
  where
    counts : (lent : ℕ) → ((given 30 v w lent).refusal ≡ 0 → ⊥) → (given 30 v w lent).count ≡ 0
    counts lent n = let zeros : List ℕ = replicate lent 0 in let e : length zeros ≡ lent = length-replicate lent 0 in rw e at (given-kept 30 v w zeros (rw e n)).1

pub q8 : Q8
unfolding to_second_answer to_second_bytes to_first_answer to_first_bytes
q8 = record {
  to_second = λ s T h. up s T (types_byte s + second) (up-types s refl refl (lt-leb second (types_byte s) h)) (λ r m _ _. first_one s r m h) refl h;
  to_first = λ s T h one.
      let Z = (well_formed s T.clean).sized in
      down s T (types_byte s - second) (down-types s Z refl refl (ap not (le-leb second (types_byte s) h))) one refl h (omega (arith, Z.few_types, types_of_second (types_byte s) h));
  second_keeps = λ s. keeps (to_second_fault s) (moved_to (types_byte s + second) s);
  first_keeps = λ s. keeps (to_first_fault s) (moved_to (types_byte s - second) s);
}
