-- Yes/no tests on numbers, in the outline's words.
use Rattle.std.specs.Prelude.{Bool, not, ◌||◌, ℕ, ltb, leb, eqb}

infix 50 ◌below◌ ◌over◌ ◌at_least◌ ◌at_most◌ ◌differs◌
abbrev pub ◌below◌ : ℕ → ℕ → Bool
a below b = ltb a b

abbrev pub ◌over◌ : ℕ → ℕ → Bool
a over b = ltb b a

abbrev pub ◌at_least◌ : ℕ → ℕ → Bool
a at_least b = leb b a

abbrev pub ◌at_most◌ : ℕ → ℕ → Bool
a at_most b = leb a b

abbrev pub ◌differs◌ : ℕ → ℕ → Bool
a differs b = not (eqb a b)

-- x is not in lo .. hi
abbrev pub outside : ℕ → ℕ → ℕ → Bool
outside lo hi x = x below lo || x over hi
