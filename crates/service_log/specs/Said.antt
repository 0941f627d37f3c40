-- Reading a line: word by word and number by number. That this takes exactly the right lines is `Exact` (specs/Lines.antt).
use Rattle.std.specs.Prelude.{Bool, true, false, ◌&&◌, List, [], ◌∷◌, ℕ, ◌-◌, eqb, length, drop}
use Rattle.fault.specs.Fault.{◌if◌else◌}
use Rattle.decimal.specs.Numbers.{text}
use Rattle.decimal.specs.Digits.{is_digit, peeked, Number, longest}
use Rattle.paper.specs.Paper.{Step, alone}
use Rattle.service_log.specs.Line.{most_said}

-- what a text begins with: no right line; or one that says a step, and what stands after it
pub data Said : Type 0 where
  nothing : Said
  said : Step → List ℕ → Said

-- the text begins with the word w
unfoldable pub begins : List ℕ → List ℕ → Bool
begins [] t = true
begins (b ∷ w) [] = false
begins (b ∷ w) (c ∷ t) = eqb c b && begins w t

-- k goes on with a number and what stands after it
abbrev pub go_on : (ℕ → List ℕ → Said) → Number → Said
go_on k n = k n.size n.after

-- a number comes next: a first digit, and the longest that it begins
unfoldable pub counted : (ℕ → List ℕ → Said) → List ℕ → Said
counted k t = go_on k (longest most_said (peeked t 0 - 48) (drop 1 t)) if is_digit (peeked t 0) else nothing

-- the word w comes next, and then a number
unfoldable pub numbered : List ℕ → (ℕ → List ℕ → Said) → List ℕ → Said
numbered w k t = counted k (drop (length w) t) if begins w t else nothing

-- a line feed comes next
unfoldable pub ends : List ℕ → Bool
ends t = eqb (peeked t 0) 10

-- and ends what the step s is said by
unfoldable pub ended : Step → List ℕ → Said
ended s t = said s (drop 1 t) if ends t else nothing

-- after board and rule: the line ends, or a message follows
unfoldable pub hearing : ℕ → ℕ → List ℕ → Said
hearing p r t =
    said (alone p r) (drop 1 t) if ends t else
    numbered (text " type ") (λ m. numbered (text " from ") (λ q. ended record { board = p; rule = r; type = m; source = q })) t

unfoldable pub said_by : List ℕ → Said
said_by t = numbered (text "board ") (λ p. numbered (text " rule ") (hearing p)) t
