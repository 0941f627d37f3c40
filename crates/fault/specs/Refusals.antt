-- Refusals by their names, and the number of each (outline, "Numbers given back"); what a result of the code says, in the words of Fault.
use Rattle.std.specs.Prelude.{ℕ, Result, Ok, Err}
use Rattle.fault.specs.Fault.{Verdict}
use Rattle.fault.specs.declared.refusals.Refusal.{Refusal}
use Rattle.fault.specs.declared.refusals.Refusal.TheVariants.{TableShort, CountsOutside, DistancesOff, StateOff, NoInitial, NoState, Forgets, SendsTwo, DivisorOff, BundleShort, OutOfBundle, NotAdmitted, StepsOff, NotInitial, NoBoard, NoRule, OtherState, Malformed, NotInTransit, NotMet, Stopped, MayNotStop, LentShort, OtherForm, Divides, SameEdition, TooDeep, NotCounting, WrongLine, TooManyLines, NotEmpty, NoDrawing, DrawingShort, Unfit, OutOfRange, NotListed, LeadsOut, Accepts}
use Rattle.fault.specs.declared.refusals.Refused.{Refused}
use Rattle.fault.specs.declared.Answer.{Answer}
use Rattle.fault.specs.Fault.{verdict, fine, nothing_done}

abbrev pub number_of : Refusal → ℕ
number_of TableShort = 1
number_of CountsOutside = 2
number_of DistancesOff = 3
number_of StateOff = 4
number_of NoInitial = 5
number_of NoState = 6
number_of Forgets = 7
number_of SendsTwo = 8
number_of DivisorOff = 9
number_of BundleShort = 10
number_of OutOfBundle = 11
number_of NotAdmitted = 12
number_of StepsOff = 13
number_of NotInitial = 14
number_of NoBoard = 20
number_of NoRule = 21
number_of OtherState = 22
number_of Malformed = 23
number_of NotInTransit = 24
number_of NotMet = 25
number_of Stopped = 26
number_of MayNotStop = 27
number_of LentShort = 30
number_of OtherForm = 31
number_of Divides = 32
number_of SameEdition = 33
number_of TooDeep = 34
number_of NotCounting = 35
number_of WrongLine = 50
number_of TooManyLines = 51
number_of NotEmpty = 52
number_of NoDrawing = 60
number_of DrawingShort = 61
number_of Unfit = 70
number_of OutOfRange = 71
number_of NotListed = 72
number_of LeadsOut = 73
number_of Accepts = 74

-- the number of a refusal, and 0 where nothing is refused
abbrev pub code : {A : Type 0} → Result A Refusal → ℕ
code (Ok _) = 0
code (Err r) = number_of r

-- the same with its place
abbrev pub told : {A : Type 0} → Result A Refused → Verdict
told (Ok _) = fine
told (Err e) = verdict (number_of e.refusal) e.place

-- the answer of a refusal after which nothing is done, and of a result with a count
abbrev pub nothing_by : Refused → Answer
nothing_by e = nothing_done (verdict (number_of e.refusal) e.place)

abbrev pub answer_of : Result ℕ Refused → Answer
answer_of (Ok n) = record { refusal = 0; place = 0; count = n }
answer_of (Err e) = nothing_by e
