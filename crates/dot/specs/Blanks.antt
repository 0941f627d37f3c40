-- Blanks between tokens (Q-1, "the reader allows spaces, tabs and line ends between tokens, but nothing else new"): where they may be added
-- to any text, and what they change. Proofs: proofs/Blanks.antt and proofs/Gaps.antt.
use Rattle.std.specs.Prelude.{ℕ, zero, suc, ◌≡◌, Bool, true, false, List, [], ◌∷◌, ◌++◌}
use Rattle.decimal.specs.Digits.{is_digit}
use Rattle.dot.specs.Text.{is_blank}
use Rattle.dot.specs.Plan.{Item, gap, num, one}
use Rattle.dot.specs.Reading.{Num, none, minus, some, can_minus, grow, no_more, Gathered, ByteStep, stuck, at, next, ended, Outcome, drawn, fault, later}
use Rattle.dot.specs.Drawing.{Drawing}

-- where reading stands after p
abbrev pub go_on : ByteStep → (List Item → Gathered → Num → ByteStep) → ByteStep
go_on stuck f = stuck
go_on (at k r x) f = f k r x

unfoldable pub reach : List ℕ → List Item → Gathered → Num → ByteStep
reach [] k r x = at k r x
reach (c ∷ p) k r x = go_on (next k r x c) (reach p)

-- one token has ended, and q begins another: at a gap; or at a whole number before a gap, with which q does not go on
abbrev pub Between : List Item → Num → List ℕ → Type 0
Between [] x q = ⊥
Between (gap ∷ k) x q = Unit {0}
Between (one o ∷ k) x q = ⊥
Between (num s ∷ []) x q = ⊥
Between (num s ∷ (num s' ∷ k)) x q = ⊥
Between (num s ∷ (one o ∷ k)) x q = ⊥
Between (num s ∷ (gap ∷ k)) none q = ⊥
Between (num s ∷ (gap ∷ k)) minus q = ⊥
Between (num s ∷ (gap ∷ k)) (some n v) [] = ended k ≡ false
Between (num s ∷ (gap ∷ k)) (some n v) (d ∷ q) = grow (can_minus s) (some n v) d ≡ no_more

-- past the fault every place will do
abbrev pub BetweenAt : ByteStep → List ℕ → Type 0
BetweenAt stuck q = Unit {0}
BetweenAt (at k r x) q = Between k x q

-- the answer with one byte more put in at n: a fault there or later comes one later
abbrev pub moved : ℕ → Outcome → Outcome
moved n (drawn r) = drawn r
moved zero (fault f) = fault (suc f)
moved (suc n) (fault zero) = fault zero
moved (suc n) (fault (suc f)) = later (moved n (fault f))

-- ---- where two tokens meet, by drawings alone
abbrev pub begins_blank : List ℕ → Bool
begins_blank [] = false
begins_blank (c ∷ q) = is_blank c

abbrev pub begins_digit : List ℕ → Bool
begins_digit [] = false
begins_digit (c ∷ q) = is_digit c

abbrev pub ends_digit : List ℕ → Bool
ends_digit [] = false
ends_digit (c ∷ []) = is_digit c
ends_digit (c ∷ (d ∷ p)) = ends_digit (d ∷ p)

-- some drawing goes on after p with no blank, or ends there; and with any one blank put in it is a drawing too
pub record Gap (p : List ℕ) : Type 0 where
  pub rest : List ℕ
  pub solid : begins_blank rest ≡ false
  pub tight : Drawing (p ++ rest)
  pub apart : (c : ℕ) → is_blank c ≡ true → Drawing (p ++ (c ∷ rest))
