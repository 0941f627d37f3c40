-- A table in front of a schedule part is as one beside it: the trailer and the parts after the front are the same bytes.
use mathlib.Core.Path.{◌≡◌, refl, sym, ap, ◌∙◌}
use mathlib.Core.List.{List, ◌++◌}
use Prim.Native.Nat.{ℕ, ◌+◌, ◌-◌, ◌*◌, ◌%◌, ◌≤◌}
use native.Mathlib.Omega.{arith}
use lib.ListN.{length, take, drop, length-append}
use lib.Seq.{take_at, drop_at, drop-drop, get_or-append-add}
use borrow.Author.Tests.{le-ltb}
use Rattle.senders.specs.Set.{most_boards}
use Rattle.fault.specs.Bytes.{byte_at, u16_at, trailer_bytes, trailer_of, step_bytes, most_step_bytes}
use Rattle.fault.specs.Tests.{◌over◌, ◌at_most◌, ◌differs◌, outside}
use Rattle.fault.specs.Fault.{refused, ◌if◌else◌, ◌▹◌, first_fault}
use mathlib.Core.Bool.{◌||◌}
use Rattle.table.specs.Table.{rules_of, types_of, factor_of}
use Rattle.table.specs.Refusals.{table_fault}
use Rattle.bundle.specs.Bundle.{start_distance, level_of, correct_of, front_length, table_in_use, starts_of, steps_at, steps_of, most_form}
use Rattle.bundle.specs.Refusals.{no_trailer, out_of_bundle, not_admitted, steps_off, start_fault, schedule_fault, fault_with}
use Rattle.bundle.proofs.BundleLaws.{use_standing, use_front}
use Rattle.paper.specs.Form.{wide}
use Rattle.schedule.specs.Records.{steps_in}
use Rattle.rules.specs.Design.{design_of}
use Rattle.engine.specs.Design.{sizes_of, design_with}
use Rattle.same.specs.Same.{SameRun}
use Rattle.same.proofs.Runs.{ran_by_lem}

module _ (s c : List ℕ) (some : 1 ≤ length s) (whole : length c ≡ start_distance c + trailer_bytes) where
  abbrev b : List ℕ
  b = s ++ c

  -- ---- the trailer
  last : trailer_of b ≡ length s + trailer_of c
  last = omega (arith, length-append s c)

  at : (k : ℕ) → byte_at b (trailer_of b + k) ≡ byte_at c (trailer_of c + k)
  at k =
      let e : trailer_of b + k ≡ length s + (trailer_of c + k) = omega (arith, last) in
      ap (byte_at b) e ∙ get_or-append-add s c (trailer_of c + k) 0

  two : (k : ℕ) → u16_at b (trailer_of b + k) ≡ u16_at c (trailer_of c + k)
  two k =
      let e : trailer_of b + k + 1 ≡ trailer_of b + (k + 1) = omega arith in
      let f : trailer_of c + (k + 1) ≡ trailer_of c + k + 1 = omega arith in
      let next : byte_at b (trailer_of b + k + 1) ≡ byte_at c (trailer_of c + k + 1) = ap (byte_at b) e ∙ at (k + 1) ∙ ap (byte_at c) f in
      λ i. at k i + 256 * next i

  correct : correct_of b ≡ correct_of c
  correct = λ i. at 4 i - at 6 i

  -- ---- the parts
  front : front_length b ≡ length s
  unfolding front_length
  front = omega (arith, two 2, length-append s c)

  no_front : front_length c ≡ 0
  unfolding front_length
  no_front = omega arith

  rest : (x : ℕ) → drop (length s + x) b ≡ drop x c
  rest x = sym (drop-drop x (length s) b) ∙ ap (drop x) (drop_at s c (length s) refl)

  starts : starts_of b ≡ starts_of c
  unfolding starts_of
  starts = λ i. take (correct i) (drop_front i)
    where
      drop_front : drop (front_length b) b ≡ drop (front_length c) c
      drop_front = let z : front_length b ≡ length s + front_length c = omega (arith, front, no_front) in ap (λ (x : ℕ). drop x b) z ∙ rest (front_length c)

  steps : steps_of b ≡ steps_of c
  unfolding steps_of
  steps = λ i. take (two 0 i) (drop-steps i)
    where
      drop-steps : drop (steps_at b) b ≡ drop (steps_at c) c
      drop-steps = let z : steps_at b ≡ length s + steps_at c = omega (arith, front, no_front, correct) in ap (λ (x : ℕ). drop x b) z ∙ rest (steps_at c)

  -- ---- the table
  used : (standing : List ℕ) → table_in_use b standing ≡ s
  used standing = sym (use_front b standing (sym front) (λ z. omega arith)) ∙ take_at s c (length s) refl

  beside : s ≡ table_in_use c s
  beside = use_standing c s refl no_front

  -- ---- what reading refuses
  long : no_trailer b ≡ no_trailer c
  unfolding no_trailer
  long = rw (le-ltb (length b) trailer_bytes (omega (arith, length-append s c)), le-ltb (length c) trailer_bytes (omega arith))

  inside : out_of_bundle b ≡ out_of_bundle c
  unfolding out_of_bundle
  inside = rw (two 2, le-ltb (length b) (start_distance c + trailer_bytes) (omega (arith, length-append s c)), le-ltb (length c) (start_distance c + trailer_bytes) (omega arith))

  fault : fault_with s b ≡ fault_with s c
  unfolding fault_with schedule_fault not_admitted steps_off
  fault =
      λ i. refused 10 if long i else refused 11 if inside i else table_fault s ▹
      refused 12 if (outside 1 most_boards (at 4 i) || at 4 i at_most factor_of s * at 5 i || at 6 i over at 5 i || at 7 i over most_form) else
      refused 13 if (two 0 i % step_bytes differs 0 || two 0 i over most_step_bytes || two 2 i differs two 0 i + correct i) else
      first_fault (start_fault s (starts i)) (correct i)

  sizes : sizes_of s b ≡ sizes_of s c
  sizes = λ i. record { level = level_of (at 7 i); correct = correct i; faulty = at 6 i; types = types_of s; rules = rules_of s; wide = wide (level_of (at 7 i)); row = types_of s * wide (level_of (at 7 i)); tolerated = at 5 i }

  pub as_beside : (standing : List ℕ) → SameRun b standing c s
  as_beside standing =
      let same-sizes = ap (λ (x : List ℕ). sizes_of x b) (used standing) ∙ sizes ∙ ap (λ (x : List ℕ). sizes_of x c) beside in
      let design = ap (λ (x : List ℕ). design_with x b) (used standing) ∙ (λ i. design_of (sizes i) (at 5 i) s) ∙ ap (λ (x : List ℕ). design_with x c) beside in
      record {
        fault = ap (λ (x : List ℕ). fault_with x b) (used standing) ∙ fault ∙ ap (λ (x : List ℕ). fault_with x c) beside;
        sizes = same-sizes;
        design = design;
        ran = ran_by_lem b standing c s same-sizes design starts (ap steps_in steps);
      }
