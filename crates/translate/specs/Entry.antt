-- What `translate_to` answers and leaves, for every bundle, standing table, form and lent bytes (outline, "Numbers given back"; Q-4);
-- and `translate`, which asks for the form that the bundle's own is usually translated to.
use Rattle.std.specs.Prelude.{Bool, ◌||◌, List, ◌++◌, ℕ, eqb, length, drop}
use Rattle.fault.specs.Tests.{◌below◌, ◌over◌, ◌differs◌}
use Rattle.fault.specs.Fault.{refused, nothing_done, ◌if◌else◌}
use Rattle.bundle.specs.Bundle.{form_of, table_in_use, most_form}
use Rattle.bundle.specs.Refusals.{read_fault}
use Rattle.paper.specs.Run.{Ran}
use Rattle.fault.specs.declared.Answer.{Answer}
use Rattle.engine.specs.Entry.{ran_of}
use Rattle.translate.specs.Written.{translation_with}

abbrev pub translation_of : List ℕ → List ℕ → ℕ → List ℕ
translation_of b standing k = translation_with (table_in_use b standing) b k

-- 31: the form asked for is the present one, or unknown
unfoldable pub no_other : List ℕ → ℕ → Bool
no_other b k = eqb k (form_of b) || k over most_form

-- after the run of the bundle in its own form: all n bytes are written; or a step is refused at its place, and none
unfoldable pub wrote : ℕ → Ran → Answer
wrote n r =
    record { refusal = 0; place = 0; count = n } if eqb r.refusal 0 else
    record { refusal = r.refusal; place = r.accepted; count = 0 }

-- what reading refuses; 31; 30: lent output shorter than the bytes needed; then the steps
unfoldable pub translate_to_answer : List ℕ → List ℕ → ℕ → ℕ → Answer
translate_to_answer b standing k lent =
    nothing_done (read_fault b standing) if (read_fault b standing).number differs 0 else
    nothing_done (refused 31) if no_other b k else
    nothing_done (refused 30) if lent below length b else
    wrote (length b) (ran_of b standing)

-- any refusal changes no byte; the translation leaves the bytes past it as they were
unfoldable pub translate_to_bytes : List ℕ → List ℕ → ℕ → List ℕ → List ℕ
translate_to_bytes b standing k out =
    out if (read_fault b standing).number differs 0 else
    out if no_other b k else
    out if length out below length b else
    out if (ran_of b standing).refusal differs 0 else
    translation_of b standing k ++ drop (length b) out

-- ---- 0 goes to 1, 1 to 0, 2 to 1
unfoldable pub usual : List ℕ → ℕ
usual b = 0 if eqb (form_of b) 1 else 1

abbrev pub translate_answer : List ℕ → List ℕ → ℕ → Answer
translate_answer b standing lent = translate_to_answer b standing (usual b) lent

abbrev pub translate_bytes : List ℕ → List ℕ → List ℕ → List ℕ
translate_bytes b standing out = translate_to_bytes b standing (usual b) out
