-- How a level keeps the collections of its column in words (outline, "Configuration words"): sets in one word, bit q for sender
-- q; two counts in two, the correct and then the faulty one; the plain count in one (Q-4). Sent messages are all correct, so that
-- one word keeps them.
use Rattle.std.specs.Prelude.{ℕ, zero, suc}
use Rattle.senders.specs.Set.{insert}
use Rattle.paper.specs.Paper.{column}

-- how many words a cell has
unfoldable pub wide : ℕ → ℕ
wide zero = 1
wide (suc zero) = 2
wide (suc (suc k)) = 1

-- the word of a cell that a message from a source changes
unfoldable pub slot : ℕ → ℕ → ℕ
slot zero q = 0
slot (suc zero) q = q
slot (suc (suc k)) q = 0

-- the word after it
unfoldable pub bump : ℕ → ℕ → ℕ → ℕ
bump zero q v = insert q v
bump (suc k) q v = suc v

-- the collection that a cell's words show
unfoldable pub coll : (k C f : ℕ) → (ℕ → ℕ) → (column k C f).Coll
coll zero C f g = g 0
coll (suc zero) C f g = record { correct = g 0; faulty = g 1 }
coll (suc (suc k)) C f g = g 0

-- the collection that a sent word shows
unfoldable pub shown : (k C f : ℕ) → ℕ → (column k C f).Coll
shown zero C f v = v
shown (suc zero) C f v = record { correct = v; faulty = 0 }
shown (suc (suc k)) C f v = v

-- a cell of which two words are known
abbrev pub two : ℕ → ℕ → ℕ → ℕ
two v w zero = v
two v w (suc e) = w
