-- A table that is not refused has divisors, by which rounding up gives the smallest whole number; a bundle's n is its correct and faulty boards.
use mathlib.Core.Path.{◌≡◌, refl, ◌∙◌}
use mathlib.Core.List.{List}
use Prim.Native.Nat.{ℕ, ◌*◌, ◌≤◌, ◌<◌}
use native.Mathlib.Decide.{dec_lt}
use native.Mathlib.Omega.{arith}
use lib.IntN.{pos}
use lib.Signed.{le_z}
use borrow.Author.Tests.{lt-leb}
use Rattle.threshold.specs.Threshold.{sum_of, threshold_of, Smallest}
use Rattle.threshold.proofs.QuotientLaws.{smallest, met-is}
use Rattle.fault.specs.Fault.{◌if◌else◌}
use Rattle.layout.specs.Layout.{second, types_in, divisor_at, weights_at, weights_of, Divides}
use Rattle.table.specs.Table.{rules_of, types_byte, types_of, rule_of, weights_for}
use Rattle.table.proofs.TableLaws.{well_formed}
use Rattle.bundle.specs.Bundle.{n_of, t_of, table_in_use}
use Rattle.bundle.specs.Refusals.{read_fault}
use Rattle.bundle.proofs.BundleLaws.{read_by}
use Rattle.rules.specs.Design.{met_at, threshold_for}
use Rattle.rules.proofs.RuleLaws.{met_at_lem}
use Rattle.engine.specs.Design.{sizes_of, design_in}
use Rattle.editions.proofs.EntryLaws.{types_of_first, types_of_second}
use Rattle.claims.specs.Thresholds.{Edition, first, Names, Q7}

-- ---- editions
editions : (b : ℕ) → 1 ≤ types_in b → types_in b ≤ 4 → Edition b
editions b l h = go (dec_lt b 16)
  where
    go : Dec (b < 16) → Edition b
    go (yes k) = let e = types_of_first b k in first {b = b} (omega (arith, e)) (omega (arith, e))
    go (no k) = let e = types_of_second b (omega arith) in Edition.second {b = b} (omega (arith, e)) (omega (arith, e))

types : (b : ℕ) → Edition b → (1 ≤ types_in b) × (types_in b ≤ 4)
types b (first l h) = let e = types_of_first b (omega arith) in (omega (arith, e), omega (arith, e))
types b (Edition.second l h) = let e = types_of_second b (omega arith) in (omega (arith, e), omega (arith, e))

-- ---- divisors and thresholds
divides : (s : List ℕ) (r m : ℕ) → Names s r m → Divides (types_byte s) (rule_of s r)
divides s r m N = ((well_formed s N.table).rule r N.rule).divides

first_edition : (s : List ℕ) (r m : ℕ) → types_byte s < second → (weights_for s r m).e ≡ 1
unfolding weights_of weights_at divisor_at ◌if◌else◌
first_edition s r m h = rw (lt-leb second (types_byte s) h)

-- `met` of a table's rule, by the sum
pub met_by_sum : (s : List ℕ) (r m n t c : ℕ) → 1 ≤ (weights_for s r m).e → met_at s r m n t c ≡ le_z (sum_of (weights_for s r m) n t) (pos (c * (weights_for s r m).e))
unfolding met_at threshold_of
met_by_sum s r m n t c h = met-is (sum_of (weights_for s r m) n t) (weights_for s r m).e c h

met : (b standing : List ℕ) (r m c : ℕ) → (read_fault b standing).number ≡ 0 → r < rules_of (table_in_use b standing) → m < types_of (table_in_use b standing) →
    (design_in b standing).met r m c ≡ le_z (sum_of (weights_for (table_in_use b standing) r m) (n_of b) (t_of b)) (pos (c * (weights_for (table_in_use b standing) r m).e))
met b standing r m c z h l =
    let R = read_by b standing refl z refl in
    let t = table_in_use b standing in
    met_at_lem (sizes_of t b) (t_of b) t r m c h l ∙ rw R.all (met_by_sum t r m (n_of b) (t_of b) c ((R.formed.rule r h).divides.some_divisor m l))

whole : (s : List ℕ) (r m n t : ℕ) → Names s r m → Smallest (sum_of (weights_for s r m) n t) (weights_for s r m).e (threshold_for s r m n t)
unfolding threshold_of
whole s r m n t N = smallest (sum_of (weights_for s r m) n t) (weights_for s r m).e ((divides s r m N).some_divisor m N.type)

pub q7 : Q7
q7 = record {
  editions = editions;
  types = types;
  edition = λ s z. let Z = (well_formed s z).sized in editions (types_byte s) Z.some_type Z.few_types;
  some_divisor = λ s r m N. (divides s r m N).some_divisor m N.type;
  few_divisor = λ s r m N. (divides s r m N).few_divisor m N.type;
  first_edition = first_edition;
  smallest = whole;
  met = met;
}
