-- Numbers in plain decimal, as they are written, and read back "exactly" so (Q-1): no leading zero, no plus, no −0.
use Rattle.std.specs.Prelude.{ℕ, ◌+◌, ◌-◌, ◌/◌, ◌%◌, Bool, true, false, List, [] as nil, ◌∷◌ as cons}
use Prim.Native.Char.{code}
use Prim.Native.String.{String, [], ◌∷◌}
use Rattle.fault.specs.Tests.{◌below◌}
use Rattle.fault.specs.Fault.{◌if◌else◌}

-- the bytes of a quoted text
abbrev pub text : String → List ℕ
text [] = nil
text (c ∷ s) = cons (code c) (text s)

-- a number of up to three digits
unfoldable pub decimal : ℕ → List ℕ
decimal v =
    cons (48 + v) nil if v below 10 else
    cons (48 + v / 10) (cons (48 + v % 10) nil) if v below 100 else
    cons (48 + v / 100) (cons (48 + v / 10 % 10) (cons (48 + v % 10) nil))

-- a byte as a signed number, −128 to 127
unfoldable pub signed : ℕ → List ℕ
signed b = decimal b if b below 128 else cons 45 (decimal (256 - b))

-- how a byte is written where it may stand for a number below 0, and where not
abbrev pub spelling : Bool → ℕ → List ℕ
spelling false = decimal
spelling true = signed
