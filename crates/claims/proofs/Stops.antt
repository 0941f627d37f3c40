-- Q-11: the order of a step's refusals, read off its definition; and the laws of stops, at a bundle's start, where nobody is stopped and f is at most t.
use mathlib.Core.Path.{◌≡◌, refl, ap, ◌∙◌}
use mathlib.Core.List.{List}
use Prim.Native.Nat.{ℕ}
use native.Mathlib.Omega.{arith}
use lib.ListN.{take}
use borrow.Author.Tests.{lt-leb, lt-ltb}
use Rattle.senders.specs.Set.{mem}
use Rattle.senders.proofs.TallyLaws.{count_none}
use Rattle.senders.proofs.SetLaws.{set_laws}
use Rattle.fault.specs.Fault.{◌if◌else◌}
use Rattle.bundle.specs.Bundle.{table_in_use, starts_of}
use Rattle.bundle.specs.Facts.{Read}
use Rattle.bundle.specs.Refusals.{read_fault}
use Rattle.bundle.proofs.BundleLaws.{read_by}
use Rattle.paper.specs.Paper.{Design, Step, stopped_count}
use Rattle.paper.specs.Words.{stop, stopped}
use Rattle.paper.specs.Form.{wide}
use Rattle.paper.specs.Step.{stopped_in, stop_fault, step_fault}
use Rattle.paper.proofs.WordLaws.{length-start, stopped-start}
use Rattle.paper.proofs.StepLaws.{stop-accepted, stepped-stop}
use Rattle.stops.specs.Stops.{FewStopped}
use Rattle.stops.proofs.Stops.{stops_hold}
use Rattle.engine.specs.Design.{sizes_in, design_in}
use Rattle.engine.specs.Entry.{start_in, schedule_of, ran_with}
use Rattle.claims.specs.Demand2.{Sized}
use Rattle.claims.specs.Stops.{StopOf, StopsIn, Q11}

stop_of : (k : ℕ) (d : Design) (w : List ℕ) (s : Step) → StopOf k d w s
unfolding step_fault stop_fault stop stopped ◌if◌else◌
stop_of k d w s = record {
  asleep = λ b z. rw (lt-leb _ _ b, z) refl;
  heard = λ e b z a. rw (lt-leb _ _ b, z, e, a) refl;
  many = λ e b z a l. rw (lt-leb _ _ b, z, e, a, lt-ltb _ _ l) refl;
  stops = λ e b z a l. (stop-accepted k d w s e b z a l, stepped-stop k d w s e);
}

-- ---- a bundle
module _ (b standing : List ℕ) (z : (read_fault b standing).number ≡ 0) where
  abbrev k : ℕ
  k = (sizes_in b standing).level

  abbrev d : Design
  d = design_in b standing

  abbrev w : List ℕ
  w = start_in (sizes_in b standing) b

  R : Read (table_in_use b standing) b
  R = read_by b standing refl z refl

  long : Sized k d w
  long = length-start d.boards d.types (wide k) (starts_of b) R.parted.starts_long

  none-stopped : stopped_in k d w ≡ 0
  none-stopped = stopped-start d.boards d.types (wide k) (starts_of b) R.parted.starts_long

  few-first : FewStopped k d w
  few-first = omega (arith, ap (stopped_count d) none-stopped ∙ count_none d.boards (mem 0) (λ q _. set_laws.empty q), R.admitted.faulty)

  stops_in : StopsIn b standing
  unfolding ran_with
  stops_in = record {
    few = λ i. stops_hold.few_stopped k d w (take i (schedule_of b)) long few-first;
    never_help = λ S. let W = stops_hold.never_help k d w (schedule_of b) long S.accepted in (W.runs, W.same);
  }

pub q11 : Q11
q11 = record { steps = stop_of; schedules = stops_hold; bundles = stops_in }
