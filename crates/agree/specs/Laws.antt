-- What two neighbouring columns of Table 1 have to do with each other, for C correct and f faulty processes: all that the agreement of
-- their levels uses of them. The proofs are in proofs/Columns.antt.
use Rattle.std.specs.Prelude.{◌≡◌, true, false, ℕ, zero, suc, ◌≤◌, ◌<◌}
use Rattle.senders.specs.Set.{mem}
use Rattle.paper.specs.Paper.{column}
use Rattle.agree.specs.Translation.{tag_of}
use Rattle.agree.specs.Picture.{picture, Within}

-- the message from q is not in the collection, as far as the level can tell
abbrev pub Fresh : (k C f q : ℕ) → (column k C f).Coll → Type 0
Fresh zero C f q M = mem M q ≡ false
Fresh (suc k) C f q M = Unit {0}

-- ---- of one column: what was received stays within what was sent
pub record ColumnLaws (k C f : ℕ) : Type 0 where
  pub none : Within k C f (column k C f).init (column k C f).init
  pub hear : (q : ℕ) (M S : (column k C f).Coll) → q < (column k C f).sources → (column k C f).in_transit q M S ≡ true → Within k C f M S → Within k C f ((column k C f).add q M) S
  pub tell : (p : ℕ) (M S : (column k C f).Coll) → p < C → Within k C f M S → Within k C f M ((column k C f).add ((column k C f).own p) S)
  -- who is in transit was not received
  pub fresh : (q : ℕ) (M S : (column k C f).Coll) → (column k C f).in_transit q M S ≡ true → Fresh k C f q M
  -- a board's own message is one
  pub own : (p : ℕ) → p < C → (column k C f).own p < (column k C f).sources

-- ---- of two: a source of level j that is in transit and has the tag
pub record Source (j C f tag : ℕ) (M S : (column j C f).Coll) (q : ℕ) : Type 0 where
  pub below : q < (column j C f).sources
  pub moving : (column j C f).in_transit q M S ≡ true
  pub tags : tag_of j C q ≡ tag

pub record PictureLaws (j C f : ℕ) : Type 0 where
  pub none : picture j C f (column j C f).init ≡ (column (suc j) C f).init
  -- as many messages
  pub card : (M : (column j C f).Coll) → (column (suc j) C f).card (picture j C f M) ≡ (column j C f).card M
  -- a message more: one of its tag more
  pub add : (q : ℕ) (M : (column j C f).Coll) → q < (column j C f).sources → Fresh j C f q M → picture j C f ((column j C f).add q M) ≡ (column (suc j) C f).add (tag_of j C q) (picture j C f M)
  -- tags are sources of the next level, in the same order, and a board's own message has its own there
  pub below : (q : ℕ) → tag_of j C q < (column (suc j) C f).sources
  pub grows : (q r : ℕ) → q ≤ r → tag_of j C q ≤ tag_of j C r
  pub own : (p : ℕ) → p < C → tag_of j C ((column j C f).own p) ≡ (column (suc j) C f).own p
  -- in transit: so is its tag; and of a tag in transit, so is one of its sources
  pub there : (q : ℕ) (M S : (column j C f).Coll) → q < (column j C f).sources → Within j C f M S → (column j C f).in_transit q M S ≡ true
      → (column (suc j) C f).in_transit (tag_of j C q) (picture j C f M) (picture j C f S) ≡ true
  pub back : (tag : ℕ) (M S : (column j C f).Coll) → tag < (column (suc j) C f).sources → Within j C f M S → (column (suc j) C f).in_transit tag (picture j C f M) (picture j C f S) ≡ true
      → (q : ℕ) × Source j C f tag M S q
