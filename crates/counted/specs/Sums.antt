-- All that was received, and all that was sent, by the sizes.
use Rattle.std.specs.Prelude.{List, ℕ}
use Rattle.words.specs.declared.Sizes.{Sizes}
use Rattle.words.specs.Words.{count_in, sent_count_in}
use Rattle.receipts.specs.Receipts.{sum_below}

-- by board p
abbrev pub board_in : Sizes → List ℕ → ℕ → ℕ
board_in s w p = sum_below s.types (λ m. count_in s w p m)

abbrev pub received_in : Sizes → List ℕ → ℕ
received_in s w = sum_below s.correct (λ p. board_in s w p)

abbrev pub sent_in : Sizes → List ℕ → ℕ
sent_in s w = sum_below s.types (λ m. sent_count_in s w m)
