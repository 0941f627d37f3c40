-- The rules as stepping keeps them, read once a call; and the designs that they stand for. All that stands above speaks of such a
-- design, and of no table.
use Rattle.std.specs.Prelude.{◌≡◌, false, List, ℕ, ◌+◌, ◌*◌, ◌≤◌, ◌<◌, length, get_or}
use Rattle.senders.specs.Tally.{count, least}
use Rattle.fault.specs.Tests.{◌at_least◌}
use Rattle.paper.specs.Paper.{Design, newly}
use Rattle.words.specs.declared.Sizes.{Sizes}

-- the bytes, and the numbers, that keep the rules of any table: 64 rules, four each
abbrev pub kept_room : ℕ
kept_room = 256

-- ---- four bytes a rule: its ends, the type that it sends, and one that is free
abbrev pub kept_from : List ℕ → ℕ → ℕ
kept_from ends r = get_or ends (r * 4) 0

abbrev pub kept_to : List ℕ → ℕ → ℕ
kept_to ends r = get_or ends (r * 4 + 1) 0

abbrev pub kept_sends : List ℕ → ℕ → ℕ
kept_sends ends r = get_or ends (r * 4 + 2) 0

-- ---- four numbers a rule: for each type the least count that meets the threshold
abbrev pub kept_least : List ℕ → ℕ → ℕ → ℕ
kept_least leasts r m = get_or leasts (r * 4 + m) 0

-- ---- the design d has these numbers
pub record Numbers (d : Design) (s : Sizes) : Type 0 where
  pub boards : d.boards ≡ s.correct
  pub faulty : d.faulty ≡ s.faulty
  pub tolerated : d.tolerated ≡ s.tolerated
  pub types : d.types ≡ s.types
  pub rules : d.rules ≡ s.rules

-- these ends: a rule sends one type at most, the lowest that its end has sent and its start has not; T where there is none
pub record KeptEnds (d : Design) (s : Sizes) (ends : List ℕ) : Type 0 where
  pub long : length ends ≡ kept_room
  pub numbers : Numbers d s
  pub from : (r : ℕ) → r < s.rules → kept_from ends r ≡ d.from r
  pub to : (r : ℕ) → r < s.rules → kept_to ends r ≡ d.to r
  pub sends : (r : ℕ) → r < s.rules → kept_sends ends r ≡ least s.types (newly d (d.from r) (d.to r))
  pub one_new : (r : ℕ) → r < s.rules → count s.types (newly d (d.from r) (d.to r)) ≤ 1

-- and these least counts
pub record KeptLeasts (d : Design) (s : Sizes) (leasts : List ℕ) : Type 0 where
  pub long : length leasts ≡ kept_room
  pub met : (r m c : ℕ) → r < s.rules → m < s.types → d.met r m c ≡ (c at_least kept_least leasts r m)

-- the kept rules stand for the design d
pub record Kept (d : Design) (s : Sizes) (e l : List ℕ) : Type 0 where
  pub ends : KeptEnds d s e
  pub leasts : KeptLeasts d s l

-- something holds of every design that the kept ends, or the kept rules, stand for
abbrev pub ByEnds : Sizes → List ℕ → (Design → Type 0) → Type 0
ByEnds s e P = (d : Design) → KeptEnds d s e → P d

abbrev pub ByDesign : Sizes → List ℕ → List ℕ → (Design → Type 0) → Type 0
ByDesign s e l P = (d : Design) → Kept d s e l → P d

-- ---- what the numbers and the kept rules say by themselves, which is all that a refusal looks at: nothing of what states have sent
abbrev pub kept_design : Sizes → List ℕ → List ℕ → Design
kept_design s ends leasts = record {
  boards = s.correct;
  faulty = s.faulty;
  tolerated = s.tolerated;
  types = s.types;
  rules = s.rules;
  initial = λ i. false;
  accepting = λ i. false;
  has_sent = λ i m. false;
  from = kept_from ends;
  to = kept_to ends;
  met = λ r m c. c at_least kept_least leasts r m;
}
