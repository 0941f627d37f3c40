-- Refusals: a number with its place, one check after the other, and the lowest place of a fault (outline, "Numbers given back").
use Rattle.std.specs.Prelude.{Bool, cond, ℕ, zero, suc, eqb}
use Rattle.fault.specs.declared.Answer.{Answer}

-- a refusal and its place
pub record Verdict : Type 0 where
  pub number : ℕ
  pub place : ℕ

abbrev pub verdict : ℕ → ℕ → Verdict
verdict k p = record { number = k; place = p }

-- nothing is refused: number 0, place 0
abbrev pub fine : Verdict
fine = verdict 0 0

-- a refusal for which no place is named
abbrev pub refused : ℕ → Verdict
refused k = verdict k 0

-- the answer of a refusal after which nothing is done: its own place, and count 0
abbrev pub nothing_done : Verdict → Answer
nothing_done v = record { refusal = v.number; place = v.place; count = 0 }

infixr 20 ◌if◌else◌ ◌▹◌
-- the first where the test says yes, and else the rest
unfoldable pub ◌if◌else◌ : {A : Type 0} → A → Bool → A → A
x if test else rest = cond test x rest

-- a verdict, or where that refuses nothing, the next
unfoldable pub ◌▹◌ : Verdict → Verdict → Verdict
v ▹ w = cond (eqb v.number 0) w v

-- the refusal f i of the lowest i below n for which f i is not 0
unfoldable pub first_fault : (ℕ → ℕ) → ℕ → Verdict
first_fault f zero = fine
first_fault f (suc n) = first_fault f n ▹ (fine if eqb (f n) 0 else verdict (f n) n)
