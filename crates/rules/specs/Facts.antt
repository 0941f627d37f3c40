-- What keeping the rules of a table may count on, and what its loops have kept so far.
use Rattle.std.specs.Prelude.{◌≡◌, List, ℕ, ◌+◌, ◌*◌, ◌<◌, length, get_or}
use Rattle.threshold.specs.Threshold.{threshold_of, least_of}
use Rattle.layout.specs.Layout.{types_in, rule_bytes, weights_of, Divides}
use Rattle.table.specs.Table.{rules_of, types_of, from_of, to_of}
use Rattle.table.specs.Facts.{WellFormed}
use Rattle.words.specs.declared.Sizes.{Sizes}
use Rattle.words.specs.Facts.{Bounded}
use Rattle.rules.specs.Design.{least_at, sends_of}
use Rattle.rules.specs.Kept.{kept_room, kept_from, kept_to, kept_sends, kept_least}

-- the numbers are those of a well-formed table
pub record Suits (s : Sizes) (table : List ℕ) : Type 0 where
  pub bounded : Bounded s
  pub formed : WellFormed table
  pub types : s.types ≡ types_of table
  pub rules : s.rules ≡ rules_of table

-- a rule's record, by the types byte
pub record Recorded (s : Sizes) (byte : ℕ) (rule : List ℕ) : Type 0 where
  pub small : byte < 256
  pub types : s.types ≡ types_in byte
  pub long : length rule ≡ rule_bytes byte
  pub divides : Divides byte rule

-- ---- the ends of the rules below k
pub record EndsAt (T : ℕ) (table ends : List ℕ) (r : ℕ) : Type 0 where
  pub from : kept_from ends r ≡ from_of table r
  pub to : kept_to ends r ≡ to_of table r
  pub sends : kept_sends ends r ≡ sends_of T table r

pub record EndsTo (T : ℕ) (table ends : List ℕ) (k : ℕ) : Type 0 where
  pub long : length ends ≡ kept_room
  pub at : (r : ℕ) → r < k → EndsAt T table ends r

-- ---- the least counts of the rules below k
pub record LeastsTo (s : Sizes) (t : ℕ) (table leasts : List ℕ) (k : ℕ) : Type 0 where
  pub long : length leasts ≡ kept_room
  pub at : (r m : ℕ) → r < k → m < s.types → kept_least leasts r m ≡ least_at table r m (s.correct + s.faulty) t

-- those of rule k for the types below j, by its record, beside what was kept before
pub record RowTo (s : Sizes) (byte t : ℕ) (rule old new : List ℕ) (k j : ℕ) : Type 0 where
  pub long : length new ≡ kept_room
  pub before : (i : ℕ) → i < k * 4 → get_or new i 0 ≡ get_or old i 0
  pub row : (m : ℕ) → m < j → kept_least new k m ≡ least_of (threshold_of (weights_of byte rule m) (s.correct + s.faulty) t)
