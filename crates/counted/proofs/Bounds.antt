-- Every answer's numbers are small, whatever the bytes: receipts at most C·T·n, sends at most C-as-T.
use mathlib.Core.Path.{◌≡◌, refl, subst}
use mathlib.Core.List.{List}
use Prim.Native.Nat.{ℕ, ◌+◌, ◌*◌, ◌≤◌}
use native.Mathlib.Nat.{mul-le-mul}
use native.Mathlib.Omega.{arith}
use Rattle.fault.specs.Tests.{◌below◌, ◌differs◌}
use Rattle.fault.proofs.FaultLaws.{if_keeps}
use Rattle.fault.proofs.TestLaws.{same}
use Rattle.table.specs.Table.{types_of}
use Rattle.bundle.specs.Bundle.{n_of, correct_of, starts_of, table_in_use}
use Rattle.bundle.specs.Facts.{Read}
use Rattle.bundle.specs.Refusals.{read_fault}
use Rattle.bundle.proofs.BundleLaws.{read_by}
use Rattle.words.specs.Words.{room_of}
use Rattle.receipts.proofs.Receipts.{receipts_hold}
use Rattle.engine.specs.Design.{sizes_in, design_in}
use Rattle.engine.specs.Entry.{schedule_of}
use Rattle.engine.proofs.EntryLaws.{suits}
use Rattle.counted.specs.Entry.{receipts_of, sends_of, of_run, counted_answer}
use Rattle.counted.proofs.EntryLaws.{counts-read}

module _ (b standing : List ℕ) where
  -- of a bundle that is read
  module _ (R : Read (table_in_use b standing) b) where
    all-boards : (design_in b standing).boards + (design_in b standing).faulty ≡ n_of b
    all-boards = omega (arith, R.admitted.faulty)

    receipts-few : receipts_of b standing ≤ correct_of b * types_of (table_in_use b standing) * n_of b
    receipts-few = subst (λ (n : ℕ). receipts_of b standing ≤ correct_of b * types_of (table_in_use b standing) * n) all-boards (receipts_hold.few_receipts (sizes_in b standing).level (design_in b standing) (starts_of b) (counts-read (table_in_use b standing) b R) (schedule_of b))

    sends-few : sends_of b standing ≤ correct_of b * types_of (table_in_use b standing)
    sends-few = receipts_hold.few_sends (sizes_in b standing).level (design_in b standing) (starts_of b) (counts-read (table_in_use b standing) b R) (schedule_of b)

    -- at most 64 boards and four types
    pairs_few : correct_of b * types_of (table_in_use b standing) ≤ 64 * 4
    pairs_few =
        let B = (suits (table_in_use b standing) b R refl).bounded in
        let boards : correct_of b ≤ 64 = omega (arith, B.boards) in
        mul-le-mul boards B.types

    pub most_receipts : receipts_of b standing ≤ 16384
    most_receipts =
        let n : n_of b ≤ 64 = omega (arith, R.admitted.few_boards) in
        let m : correct_of b * types_of (table_in_use b standing) * n_of b ≤ 64 * 4 * 64 = mul-le-mul pairs_few n in
        omega (arith, receipts-few, m)

    pub most_sends : sends_of b standing ≤ 256
    most_sends = omega (arith, sends-few, pairs_few)

  -- of any
  of_run_lem : {k : ℕ} (lent n : ℕ) → (Read (table_in_use b standing) b → n ≤ k) → of_run b standing lent n ≤ k
  unfolding of_run
  of_run_lem {k} lent n f =
      if_keeps (λ (x : ℕ). x ≤ k) 0 ((read_fault b standing).number differs 0) _ (λ _. omega arith)
      (λ e. if_keeps (λ (x : ℕ). x ≤ k) 0 (lent below room_of (sizes_in b standing)) n (λ _. omega arith) (λ _. f (read_by b standing refl (same _ 0 e) refl)))

  module _ (lent : ℕ) where
    pub few_receipts : (counted_answer b standing lent).receipts ≤ correct_of b * types_of (table_in_use b standing) * n_of b
    unfolding counted_answer
    few_receipts = of_run_lem lent (receipts_of b standing) receipts-few

    pub few_sends : (counted_answer b standing lent).sends ≤ correct_of b * types_of (table_in_use b standing)
    unfolding counted_answer
    few_sends = of_run_lem lent (sends_of b standing) sends-few

    pub receipts-within : (counted_answer b standing lent).receipts ≤ 16384
    unfolding counted_answer
    receipts-within = of_run_lem lent (receipts_of b standing) most_receipts

    pub sends-within : (counted_answer b standing lent).sends ≤ 256
    unfolding counted_answer
    sends-within = of_run_lem lent (sends_of b standing) most_sends
