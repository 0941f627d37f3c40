-- The text of a step and of a schedule in a service log (Q-6, "each line `board P rule R` or `board P rule R type M from Q`, plain decimal without leading
-- zeros .. Every line ends with a line feed"; numbers are at most 254).
use Rattle.std.specs.Prelude.{◌≡◌, Bool, true, ◌&&◌, ◌||◌, List, [], ◌∷◌, ◌++◌, ℕ, eqb}
use Rattle.fault.specs.Tests.{◌at_most◌}
use Rattle.fault.specs.Fault.{◌if◌else◌}
use Rattle.decimal.specs.Numbers.{text, decimal}
use Rattle.paper.specs.Paper.{Step, silent}

-- the largest number that a line says
abbrev pub most_said : ℕ
most_said = 254

-- a line can say the step: its board and rule, and its type and source where it has a message
unfoldable pub sayable : Step → Bool
sayable s = s.board at_most most_said && s.rule at_most most_said && (silent s || s.type at_most most_said && s.source at_most most_said)

-- what a line says of the message, if there is one
unfoldable pub message_of : Step → List ℕ
message_of s = [] if silent s else text " type " ++ (decimal s.type ++ (text " from " ++ decimal s.source))

unfoldable pub line_of : Step → List ℕ
line_of s = text "board " ++ (decimal s.board ++ (text " rule " ++ (decimal s.rule ++ (message_of s ++ text "\n"))))

unfoldable pub log_of : List Step → List ℕ
log_of [] = []
log_of (s ∷ ss) = line_of s ++ log_of ss

-- ---- lines
-- the first line of a text: up to its first line feed, or all of it where there is none
unfoldable pub first_line : List ℕ → List ℕ
first_line [] = []
first_line (c ∷ t) = (c ∷ []) if eqb c 10 else c ∷ first_line t

-- a line is right exactly when it is the text of a step that a line can say
pub record Right (line : List ℕ) : Type 0 where
  pub step : Step
  pub can : sayable step ≡ true
  pub is : line ≡ line_of step

-- all of a schedule's steps can be said
abbrev pub AllSayable : List Step → Type 0
AllSayable [] = Unit {0}
AllSayable (s ∷ ss) = (sayable s ≡ true) × AllSayable ss
