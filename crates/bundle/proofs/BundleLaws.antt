-- What a bundle that is not refused gives.
use mathlib.Core.Path.{◌≡◌, refl, sym, ap, ◌∙◌}
use mathlib.Core.Bool.{Bool, true, false, not, ◌||◌}
use mathlib.Core.List.{List}
use Prim.Native.Nat.{ℕ, zero, suc, ◌+◌, ◌-◌, ◌*◌, ◌%◌, ◌≤◌, ◌<◌}
use native.Mathlib.Nat.{mul-le-mul_right, one-mul}
use native.Mathlib.Omega.{arith}
use native.Mathlib.Decide.{ℕ_discrete}
use borrow.Author.Tests.{ltb-false, leb-false, not-false, eq-eqb, ne_eqb, le-leb, lt-leb}
use lib.ListN.{length, take, drop, length-drop}
use lib.Seq.{length-take-le}
use Rattle.fault.specs.Fault.{Verdict}
use Rattle.fault.specs.Bytes.{byte_at, trailer_bytes, step_bytes, most_step_bytes}
use Rattle.fault.specs.Tests.{◌over◌, ◌at_least◌, ◌at_most◌, ◌differs◌, outside}
use Rattle.fault.specs.Fault.{refused, first_fault}
use Rattle.fault.proofs.FaultLaws.{if_yes, if_no, if_passed, then_clean, first-clean, Clean, if_most, Within, check_within, then_within, first-within}
use Rattle.fault.proofs.TestLaws.{or-none, inside, same}
use Rattle.table.specs.Table.{states_of, factor_of, initial_of, most_table}
use Rattle.table.specs.Refusals.{table_fault}
use Rattle.table.specs.Facts.{Sized}
use Rattle.table.proofs.TableLaws.{well_formed, table-within, table-short}
use Rattle.senders.specs.Set.{most_boards, most_tolerated}
use Rattle.bundle.specs.Bundle.{step_distance, start_distance, n_of, t_of, f_of, level_of, correct_of, front_length, table_in_use, starts_of, steps_at, most_bundle, steps_of, most_form, most_level}
use Rattle.bundle.specs.Refusals.{no_trailer, out_of_bundle, not_admitted, steps_off, not_initial, start_fault, schedule_fault, fault_with, read_fault}
use Rattle.bundle.specs.Facts.{Trailed, Admitted, Parted, StartFits, Read}

-- ---- the table in use, from the length n of the front
pub use_standing : {n : ℕ} (b st : List ℕ) → n ≡ front_length b → n ≡ 0 → st ≡ table_in_use b st
unfolding table_in_use
use_standing b st e z = if_yes _ refl refl (eq-eqb (front_length b) 0 (sym e ∙ z))

pub use_front : {n : ℕ} (b st : List ℕ) → n ≡ front_length b → (n ≡ 0 → ⊥) → take n b ≡ table_in_use b st
unfolding table_in_use
use_front b st e z = if_no _ refl (ne_eqb (front_length b) 0 (rw e at z)) (rw e)

-- ---- the parts, as the code cuts them
pub starts_are : {a x : ℕ} (b : List ℕ) → a ≡ front_length b → x ≡ correct_of b → take (a + x - a) (drop a b) ≡ starts_of b
unfolding starts_of
starts_are {a} {x} b e f = let z : a + x - a ≡ correct_of b = omega arith in rw (z, e)

pub steps_are : {a y : ℕ} (b : List ℕ) → a ≡ steps_at b → y ≡ step_distance b → take (a + y - a) (drop a b) ≡ steps_of b
unfolding steps_of
steps_are {a} {y} b e g = let z : a + y - a ≡ step_distance b = omega arith in rw (z, e)

-- ---- the level, of a form that is read and of any
pub level-same : (k : ℕ) → k ≤ most_level → level_of k ≡ k
unfolding level_of
level-same zero h = refl
level-same (suc zero) h = refl
level-same (suc (suc k)) h = omega arith

pub level-low : {k : ℕ} (x : ℕ) → k ≡ x → k < most_level → k ≡ level_of x
level-low {k} x e h = e ∙ sym (level-same x (omega arith))

pub level-high : {k : ℕ} (x : ℕ) → k ≡ x → most_level ≤ k → most_level ≡ level_of x
unfolding level_of
level-high zero e h = absurd (omega arith)
level-high (suc zero) e h = absurd (omega arith)
level-high (suc (suc x)) e h = refl

-- ---- each test that says no
pub trailer_by : {a : Bool} (b : List ℕ) → a ≡ no_trailer b → a ≡ false → trailer_bytes ≤ length b
unfolding no_trailer
trailer_by b e f = ltb-false (length b) trailer_bytes (sym e ∙ f)

pub trailed : {x y : Bool} (b : List ℕ) → x ≡ no_trailer b → x ≡ false → y ≡ out_of_bundle b → y ≡ false → Trailed b
unfolding out_of_bundle
trailed b e f g h = record { long = trailer_by b e f; inside = ltb-false (length b) (start_distance b + trailer_bytes) (sym g ∙ h) }

admitted : (k : ℕ) (b : List ℕ) → not_admitted k b ≡ false → Admitted k b
unfolding not_admitted
admitted k b h =
    let p = or-none (outside 1 most_boards (n_of b) || n_of b at_most k * t_of b || f_of b over t_of b) _ h in
    let q = or-none (outside 1 most_boards (n_of b) || n_of b at_most k * t_of b) _ p.0 in
    let r = or-none (outside 1 most_boards (n_of b)) _ q.0 in
    let n = inside 1 most_boards (n_of b) r.0 in
    record { some_board = n.0; few_boards = n.1; enough = leb-false _ _ r.1; faulty = ltb-false _ _ q.1; form = ltb-false most_form _ p.1 }

pub parted : {y : Bool} (b : List ℕ) → Trailed b → y ≡ steps_off b → y ≡ false → Parted b
unfolding steps_off front_length starts_of steps_of
parted b u e f =
    let p = or-none (step_distance b % step_bytes differs 0 || step_distance b over most_step_bytes) _ (sym e ∙ f) in
    let q = or-none (step_distance b % step_bytes differs 0) _ p.0 in
    let s = same (start_distance b) (step_distance b + correct_of b) p.1 in
    record {
      whole_steps = same _ 0 q.0;
      few_steps = ltb-false most_step_bytes _ q.1;
      starts_first = s;
      starts_inside = omega (arith, s, u.inside);
      steps_last = omega (arith, s, u.inside);
      starts_long = length-take-le (correct_of b) _ (rw length-drop (omega (arith, s, u.inside)));
      steps_long = length-take-le (step_distance b) _ (rw length-drop (omega (arith, s, u.inside)));
    }

begins : (table : List ℕ) (start : ℕ) → not_initial table start ≡ false → StartFits table start
unfolding not_initial
begins table start h =
    let p = or-none (start at_least states_of table) _ h in record { state = leb-false _ _ p.0; initial = not-false _ p.1 }

-- `not_initial`, from what it has in hand
pub start_outside : {n : ℕ} (table : List ℕ) (start : ℕ) → n ≡ states_of table → n ≤ start → true ≡ not_initial table start
unfolding not_initial
start_outside table start e h = rw (le-leb (states_of table) start (omega arith))

pub start-inside : {n : ℕ} {x : Bool} (table : List ℕ) (start : ℕ) → n ≡ states_of table → start < n → x ≡ initial_of table start → not x ≡ not_initial table start
unfolding not_initial
start-inside table start e h i = rw (lt-leb (states_of table) start (omega arith), i)

-- `start_fault`, from what it has in hand
module _ {s : ℕ} {x : Bool} (table starts : List ℕ) (p : ℕ) (e : s ≡ byte_at starts p) (i : x ≡ not_initial table s) where
  pub start-wrong : x ≡ true → 14 ≡ start_fault table starts p
  unfolding start_fault
  start-wrong h = if_yes 0 refl (i ∙ ap (not_initial table) e) h

  pub start_right : x ≡ false → 0 ≡ start_fault table starts p
  unfolding start_fault
  start_right h = if_no 14 (i ∙ ap (not_initial table) e) h refl

-- ---- `fault_with` and `schedule_fault`, from what they have in hand
pub table-sized : {v : Verdict} (table : List ℕ) → v ≡ table_fault table → v.number ≡ 0 → Sized table
table-sized table e z = (well_formed table (ap (λ (v : Verdict). v.number) (sym e) ∙ z)).sized

pub admitted-with : {k : ℕ} {x : Bool} (table b : List ℕ) → k ≡ factor_of table → x ≡ not_admitted k b → x ≡ not_admitted (factor_of table) b
admitted-with table b e f = f ∙ ap (λ (k : ℕ). not_admitted k b) e

pub starts-last : {y : Bool} {v : Verdict} {ss : List ℕ} (table b : List ℕ) → Trailed b → y ≡ steps_off b → y ≡ false
    → v ≡ first_fault (start_fault table ss) (length ss) → ss ≡ starts_of b → v ≡ first_fault (start_fault table (starts_of b)) (correct_of b)
starts-last table b u e f h q = h ∙ rw (q, (parted b u e f).starts_long)

-- ---- the whole
few : (k t n : ℕ) → 1 ≤ k → k * t < n → n ≤ most_boards → t ≤ most_tolerated
few k t n h l m = omega (arith, mul-le-mul_right {m = 1} {n = k} t h, one-mul t)

read : (table b : List ℕ) → Clean (fault_with table b) → Read table b
unfolding fault_with schedule_fault start_fault
read table b h =
    let p = if_passed Clean (refused 10) (no_trailer b) _ (λ z. omega arith) h in
    let q = if_passed Clean (refused 11) (out_of_bundle b) _ (λ z. omega arith) p.1 in
    let r = then_clean (table_fault table) _ q.1 in
    let s = if_passed Clean (refused 12) (not_admitted (factor_of table) b) _ (λ z. omega arith) r.1 in
    let u = if_passed Clean (refused 13) (steps_off b) _ (λ z. omega arith) s.1 in
    let W = well_formed table r.0 in
    let T = trailed b refl p.0 refl q.0 in
    let A = admitted (factor_of table) b s.0 in
    let t = few (factor_of table) (t_of b) (n_of b) W.sized.some_factor A.enough A.few_boards in
    let l = few_less (factor_of table) (t_of b) (n_of b) W.sized.some_factor A.enough in
    record {
      formed = W;
      trailed = T;
      admitted = A;
      parted = parted b T refl u.0;
      start = λ i l. begins table (byte_at (starts_of b) i) (if_passed (λ (x : ℕ). x ≡ 0) 14 _ 0 (λ z. omega arith) (first-clean (start_fault table (starts_of b)) (correct_of b) u.1 i l)).0;
      few_tolerated = t;
      some_correct = omega (arith, l, A.faulty);
      all = omega (arith, l, A.faulty);
    }
  where
    few_less : (k t n : ℕ) → 1 ≤ k → k * t < n → t < n
    few_less k t n h l = omega (arith, mul-le-mul_right {m = 1} {n = k} t h, one-mul t)

-- for a caller of `read_fault` and `table_in_use`
pub read_by : {v : Verdict} {t : List ℕ} (b st : List ℕ) → v ≡ read_fault b st → v.number ≡ 0 → t ≡ table_in_use b st → Read t b
read_by {v} {t} b st e z q = rw q (read (table_in_use b st) b (ap (λ (x : Verdict). x.number) (sym e) ∙ z))

-- ---- what reading refuses is at most 14, its place at most 64
module _ (table b : List ℕ) where
  start_most : (p : ℕ) → start_fault table (starts_of b) p ≤ 14
  unfolding start_fault
  start_most p = if_most _ (omega arith) (omega arith)

  schedule-within : Within 14 64 (schedule_fault table b)
  unfolding schedule_fault
  schedule-within =
      check_within _ (omega arith) (λ h. check_within _ (omega arith) (λ _.
      first-within 14 64 (start_fault table (starts_of b)) start_most (correct_of b) (omega (arith, (admitted (factor_of table) b h).few_boards))))

  pub read-within : Within 14 64 (fault_with table b)
  unfolding fault_with
  read-within = check_within _ (omega arith) (λ _. check_within _ (omega arith) (λ _. then_within (table-within table) schedule-within))

-- ---- a bundle that is read is no longer than its parts can be
pub read_short : (b st : List ℕ) → Read (table_in_use b st) b → length b ≤ most_bundle
unfolding front_length
read_short b st R = omega (arith, front (ℕ_discrete (front_length b) 0), R.trailed.inside, R.parted.starts_first, R.parted.few_steps, R.admitted.few_boards)
  where
    front : Dec (front_length b ≡ 0) → front_length b ≤ most_table
    front (yes z) = omega arith
    front (no n) =
        let e : length (take (front_length b) b) ≡ front_length b = length-take-le (front_length b) b (omega arith) in
        omega (arith, e, ap length (use_front b st refl n), table-short (table_in_use b st) R.formed.sized)
