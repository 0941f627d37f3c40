-- Q-7: what a threshold is, in either edition. Demands 2 and 3, the first step and replays speak of the design of a bundle, `design_in`, and of it alone:
-- `met` says what its thresholds are. Proofs: proofs/Thresholds.antt.
use Rattle.std.specs.Prelude.{◌≡◌, List, ℕ, ◌*◌, ◌≤◌, ◌<◌, pos}
use Rattle.std.specs.Int.Signed.{le_z}
use Rattle.threshold.specs.Threshold.{sum_of, Smallest}
use Rattle.layout.specs.Layout.{types_in}
use Rattle.layout.specs.Layout as layout
use Rattle.table.specs.Table.{rules_of, types_byte, types_of, weights_for}
use Rattle.table.specs.Refusals.{table_fault}
use Rattle.bundle.specs.Bundle.{n_of, t_of, table_in_use}
use Rattle.bundle.specs.Refusals.{read_fault}
use Rattle.rules.specs.Design.{threshold_for}
use Rattle.engine.specs.Design.{design_in}

-- a types byte that a table may have: T in the first edition, 16 more in the second
pub data Edition : ℕ → Type 0 where
  first : {b : ℕ} → 1 ≤ b → b ≤ 4 → Edition b
  second : {b : ℕ} → 17 ≤ b → b ≤ 20 → Edition b

-- rule r of a table that is not refused, and a type that it has
pub record Names (s : List ℕ) (r m : ℕ) : Type 0 where
  pub table : (table_fault s).number ≡ 0
  pub rule : r < rules_of s
  pub type : m < types_of s

pub record Q7 : Type 0 where
  -- T is 1 to 4 exactly where the types byte is 1 to 4 or 17 to 20, and no table that is read has another
  pub editions : (b : ℕ) → 1 ≤ types_in b → types_in b ≤ 4 → Edition b
  pub types : (b : ℕ) → Edition b → (1 ≤ types_in b) × (types_in b ≤ 4)
  pub edition : (s : List ℕ) → (table_fault s).number ≡ 0 → Edition (types_byte s)
  -- e is 1 to 8, and in the first edition 1
  pub some_divisor : (s : List ℕ) (r m : ℕ) → Names s r m → 1 ≤ (weights_for s r m).e
  pub few_divisor : (s : List ℕ) (r m : ℕ) → Names s r m → (weights_for s r m).e ≤ 8
  pub first_edition : (s : List ℕ) (r m : ℕ) → types_byte s < layout.second → (weights_for s r m).e ≡ 1
  -- the threshold is the smallest whole number not below (a·n + b·t + d)/e
  pub smallest : (s : List ℕ) (r m n t : ℕ) → Names s r m → Smallest (sum_of (weights_for s r m) n t) (weights_for s r m).e (threshold_for s r m n t)
  -- and where every call steps, a count meets it exactly if e times the count is at least a·n + b·t + d
  pub met : (b standing : List ℕ) (r m count : ℕ) → (read_fault b standing).number ≡ 0 → r < rules_of (table_in_use b standing) → m < types_of (table_in_use b standing) →
      (design_in b standing).met r m count ≡ le_z (sum_of (weights_for (table_in_use b standing) r m) (n_of b) (t_of b)) (pos (count * (weights_for (table_in_use b standing) r m).e))
