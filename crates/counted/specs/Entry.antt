-- What `counted` answers and leaves: a run's answer with how many of its accepted steps receive a message, and send a new type (Q-13). The words are those that `run` leaves.
use Rattle.std.specs.Prelude.{List, ℕ}
use Rattle.fault.specs.Tests.{◌below◌, ◌differs◌}
use Rattle.fault.specs.Fault.{◌if◌else◌}
use Rattle.bundle.specs.Refusals.{read_fault}
use Rattle.words.specs.Words.{room_of}
use Rattle.receipts.specs.Receipts.{receipts_in, sends_in}
use Rattle.engine.specs.Design.{sizes_in, design_in}
use Rattle.engine.specs.Entry.{schedule_of, start_in, run_answer}
use Rattle.counted.specs.declared.Counted.{Counted}

-- of the steps that the bundle's run accepts
abbrev pub receipts_of : List ℕ → List ℕ → ℕ
receipts_of b standing = receipts_in (sizes_in b standing).level (design_in b standing) (start_in (sizes_in b standing) b) (schedule_of b)

abbrev pub sends_of : List ℕ → List ℕ → ℕ
sends_of b standing = sends_in (sizes_in b standing).level (design_in b standing) (start_in (sizes_in b standing) b) (schedule_of b)

-- a step's refusal leaves those of the steps before it; with any other both are 0
unfoldable pub of_run : List ℕ → List ℕ → ℕ → ℕ → ℕ
of_run b standing lent n =
    0 if (read_fault b standing).number differs 0 else
    0 if lent below room_of (sizes_in b standing) else
    n

unfoldable pub counted_answer : List ℕ → List ℕ → ℕ → Counted
counted_answer b standing lent = record {
  answer = run_answer b standing lent;
  receipts = of_run b standing lent (receipts_of b standing);
  sends = of_run b standing lent (sends_of b standing);
}
