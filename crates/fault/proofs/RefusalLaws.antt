-- Results of the code in the words of Fault: no refusal has the number 0, what a `?` hands on, and the turns of the search for the lowest.
use mathlib.Core.Path.{◌≡◌, refl}
use native.Mathlib.Omega.{arith}
use Rattle.std.specs.Prelude.{Result, ℕ}
use Rattle.std.specs.Result.{IsErrAnd}
use Rattle.std.proofs.lemmas.Result.{err_from_is_err_and}
use Rattle.fault.specs.Fault.{Verdict}
use Rattle.fault.specs.declared.refusals.Refusal.{Refusal}
use Rattle.fault.specs.declared.refusals.Refusal.TheVariants.{TableShort, CountsOutside, DistancesOff, StateOff, NoInitial, NoState, Forgets, SendsTwo, DivisorOff, BundleShort, OutOfBundle, NotAdmitted, StepsOff, NotInitial, NoBoard, NoRule, OtherState, Malformed, NotInTransit, NotMet, Stopped, MayNotStop, LentShort, OtherForm, Divides, SameEdition, TooDeep, NotCounting, WrongLine, TooManyLines, NotEmpty, NoDrawing, DrawingShort, Unfit, OutOfRange, NotListed, LeadsOut, Accepts}
use Rattle.fault.specs.declared.refusals.Refused.{Refused}
use Rattle.fault.specs.Fault.{verdict, fine, ◌▹◌}
use Rattle.fault.specs.Refusals.{number_of, told, nothing_by, answer_of}
use Rattle.fault.proofs.FaultLaws.{then_stop, then_pass}

pub some_number : (r : Refusal) → number_of r ≡ 0 → ⊥
some_number TableShort h = absurd (omega arith)
some_number CountsOutside h = absurd (omega arith)
some_number DistancesOff h = absurd (omega arith)
some_number StateOff h = absurd (omega arith)
some_number NoInitial h = absurd (omega arith)
some_number NoState h = absurd (omega arith)
some_number Forgets h = absurd (omega arith)
some_number SendsTwo h = absurd (omega arith)
some_number DivisorOff h = absurd (omega arith)
some_number BundleShort h = absurd (omega arith)
some_number OutOfBundle h = absurd (omega arith)
some_number NotAdmitted h = absurd (omega arith)
some_number StepsOff h = absurd (omega arith)
some_number NotInitial h = absurd (omega arith)
some_number NoBoard h = absurd (omega arith)
some_number NoRule h = absurd (omega arith)
some_number OtherState h = absurd (omega arith)
some_number Malformed h = absurd (omega arith)
some_number NotInTransit h = absurd (omega arith)
some_number NotMet h = absurd (omega arith)
some_number Stopped h = absurd (omega arith)
some_number MayNotStop h = absurd (omega arith)
some_number LentShort h = absurd (omega arith)
some_number OtherForm h = absurd (omega arith)
some_number Divides h = absurd (omega arith)
some_number SameEdition h = absurd (omega arith)
some_number TooDeep h = absurd (omega arith)
some_number NotCounting h = absurd (omega arith)
some_number WrongLine h = absurd (omega arith)
some_number TooManyLines h = absurd (omega arith)
some_number NotEmpty h = absurd (omega arith)
some_number NoDrawing h = absurd (omega arith)
some_number DrawingShort h = absurd (omega arith)
some_number Unfit h = absurd (omega arith)
some_number OutOfRange h = absurd (omega arith)
some_number NotListed h = absurd (omega arith)
some_number LeadsOut h = absurd (omega arith)
some_number Accepts h = absurd (omega arith)

-- ---- one result after the other: a refusal is handed on, and without one the next counts
pub refused_stop : {u : Verdict} (e : Refused) (w : Verdict) → verdict (number_of e.refusal) e.place ≡ u → verdict (number_of e.refusal) e.place ≡ (u ▹ w)
refused_stop e w h = then_stop w h (some_number e.refusal)

pub fine_pass : {u v w : Verdict} → fine ≡ u → v ≡ w → v ≡ (u ▹ w)
fine_pass h e = then_pass h refl e

-- the exit of a `?` that hands a refusal on
pub handed_on : {A : Type 0} (r : Result A Refused) (e : Refused) → IsErrAnd r (λ y. y ≡ e) → told r ≡ verdict (number_of e.refusal) e.place
handed_on r e h = let p = err_from_is_err_and r h in rw (p.1, p.2) refl

pub answer_on : (r : Result ℕ Refused) (e : Refused) → IsErrAnd r (λ y. y ≡ e) → answer_of r ≡ nothing_by e
answer_on r e h = let p = err_from_is_err_and r h in rw (p.1, p.2) refl
