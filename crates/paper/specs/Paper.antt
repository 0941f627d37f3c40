-- Section 3 of the paper (document 003): designs, the signature of Table 1 with a column for each level, and the transition
-- relation of Definition 3.2. Where the outline differs from the paper, its word is cited.
use Rattle.std.specs.Prelude.{◌≡◌, ◌≢◌, Bool, true, false, not, ◌&&◌, ◌||◌, ℕ, zero, suc, ◌+◌, ◌≤◌, ◌<◌, eqb}
use Rattle.senders.specs.Tally.{count}
use Rattle.senders.specs.Set.{mem, insert, missing}
use Rattle.fault.specs.Tests.{◌below◌, ◌at_least◌}
use Rattle.fault.specs.Fault.{◌if◌else◌}

-- ---- a design: what a table with n, t, f comes to. n is boards + faulty; boards count from 0, the correct ones first (outline)
pub record Design : Type 0 where
  -- the correct processes, Corr
  pub boards : ℕ
  -- how many processes are faulty, Byz
  pub faulty : ℕ
  -- how many may be faulty or stopped, t (Q-11)
  pub tolerated : ℕ
  -- the message types, MT
  pub types : ℕ
  -- the local transitions; waiting is a rule too, since every receipt needs one (outline)
  pub rules : ℕ
  -- the initial control states
  pub initial : ℕ → Bool
  -- the accepting ones
  pub accepting : ℕ → Bool
  -- is_sent: a state has sent a type
  pub has_sent : ℕ → ℕ → Bool
  -- the ends of a rule
  pub from : ℕ → ℕ
  pub to : ℕ → ℕ
  -- a rule's threshold for a type is at most the count
  pub met : ℕ → ℕ → ℕ → Bool

-- the process relation: rule r leads from state ℓ to ℓ' at the counts c, each of which meets its threshold
pub record Leads (d : Design) (r ℓ : ℕ) (c : ℕ → ℕ) (ℓ' : ℕ) : Type 0 where
  pub rule : r < d.rules
  pub leaves : ℓ ≡ d.from r
  pub enters : ℓ' ≡ d.to r
  pub met : (m : ℕ) → m < d.types → d.met r m (c m) ≡ true

-- going from ℓ to ℓ' sends the type m
abbrev pub newly : Design → ℕ → ℕ → ℕ → Bool
newly d ℓ ℓ' m = d.has_sent ℓ' m && not (d.has_sent ℓ m)

-- ---- Table 1, for the messages of one type: a message is its source
pub record Interp : Type 1 where
  -- collections of messages, MsgSets
  pub Coll : Type 0
  -- the messages, Msg: 0 .. sources-1
  pub sources : ℕ
  -- the message that a board sends
  pub own : ℕ → ℕ
  pub init : Coll
  pub card : Coll → ℕ
  pub add : ℕ → Coll → Coll
  pub in_transit : ℕ → Coll → Coll → Bool

-- the column MP, for C correct and f faulty processes: a set of senders
abbrev pub passing : ℕ → ℕ → Interp
passing C f = record {
  Coll = ℕ;
  sources = C + f;
  own = λ p. p;
  init = 0;
  card = λ M. count (C + f) (mem M);
  add = λ q M. insert q M;
  in_transit = λ q M M'. q below C && missing M' M q || q at_least C && not (mem M q);
}

-- the column MC: two counts. Source 0 is the tag C, source 1 the tag F. Adding keeps the other types' counts, c(m'), since a
-- collection is of one type; a faulty message is tested by the received count and not by the sent one (outline)
pub record Counts : Type 0 where
  pub correct : ℕ
  pub faulty : ℕ

abbrev pub add_tag : ℕ → Counts → Counts
add_tag zero c = record { correct = suc c.correct; faulty = c.faulty }
add_tag (suc i) c = record { correct = c.correct; faulty = suc c.faulty }

abbrev pub counting : ℕ → ℕ → Interp
counting C f = record {
  Coll = Counts;
  sources = 2;
  own = λ p. 0;
  init = record { correct = 0; faulty = 0 };
  card = λ c. c.correct + c.faulty;
  add = add_tag;
  in_transit = λ tag c c'. eqb tag 0 && c.correct below c'.correct || eqb tag 1 && c.faulty below f;
}

-- the column of Figure 1's own counter, on its right: one count, bounded by sent plus f (Q-4). Source 0 is the only source
abbrev pub plain : ℕ → ℕ → Interp
plain C f = record {
  Coll = ℕ;
  sources = 1;
  own = λ p. 0;
  init = 0;
  card = λ c. c;
  add = λ q c. suc c;
  in_transit = λ q c c'. eqb q 0 && c below c' + f;
}

-- the level picks the column: 0 message, 1 counting, 2 and above plain. Which level a form byte has is for reading to say
abbrev pub column : ℕ → ℕ → ℕ → Interp
column zero C f = passing C f
column (suc zero) C f = counting C f
column (suc (suc k)) C f = plain C f

-- ---- configurations: control states, received messages by board and type, sent messages by type
pub record Conf (A : Type 0) : Type 0 where
  pub pc : ℕ → ℕ
  pub rcvd : ℕ → ℕ → A
  pub sent : ℕ → A
  -- the boards that have lost power, as a set (Q-11)
  pub stopped : ℕ

-- two configurations are the same, for all boards and types that there are
pub record Same (d : Design) (I : Interp) (σ σ' : Conf I.Coll) : Type 0 where
  pub pc : (p : ℕ) → p < d.boards → σ.pc p ≡ σ'.pc p
  pub rcvd : (p m : ℕ) → p < d.boards → m < d.types → σ.rcvd p m ≡ σ'.rcvd p m
  pub sent : (m : ℕ) → m < d.types → σ.sent m ≡ σ'.sent m
  pub stopped : σ.stopped ≡ σ'.stopped

-- every board in an initial state, nothing received, nothing sent
pub record Initial (d : Design) (I : Interp) (σ : Conf I.Coll) : Type 0 where
  pub pc : (p : ℕ) → p < d.boards → d.initial (σ.pc p) ≡ true
  pub rcvd : (p m : ℕ) → p < d.boards → m < d.types → σ.rcvd p m ≡ I.init
  pub sent : (m : ℕ) → m < d.types → σ.sent m ≡ I.init
  pub stopped : σ.stopped ≡ 0

-- ---- a step, as a schedule names it (outline, "Bundle layout")
pub record Step : Type 0 where
  pub board : ℕ
  pub rule : ℕ
  pub type : ℕ
  pub source : ℕ

-- the type and the source of a step without a message (outline)
abbrev pub no_message : ℕ
no_message = 255

-- board p takes rule r, without a message
abbrev pub alone : ℕ → ℕ → Step
alone p r = record { board = p; rule = r; type = no_message; source = no_message }

abbrev pub silent : Step → Bool
silent s = eqb s.type no_message && eqb s.source no_message

-- what a step is: without a message, or with one of a type from a source. What a step does goes by these cases, and only `silent` tests for 255
pub data Kind : Type 0 where
  silence : Kind
  message : ℕ → ℕ → Kind

unfoldable pub kind_of : Step → Kind
kind_of s = silence if silent s else message s.type s.source

-- ---- 2a of Definition 3.2, by the kind of a step
-- a message there is, with in_transit(msg, rcvd, sent)
pub record Coming (d : Design) (I : Interp) (m q : ℕ) (rcvd sent : ℕ → I.Coll) : Type 0 where
  pub type : m < d.types
  pub source : q < I.sources
  pub transit : I.in_transit q (rcvd m) (sent m) ≡ true

-- no message, or one in transit
abbrev pub CanHear : (d : Design) (I : Interp) → Kind → (ℕ → I.Coll) → (ℕ → I.Coll) → Type 0
CanHear d I silence rcvd sent = Unit {0}
CanHear d I (message m q) rcvd sent = Coming d I m q rcvd sent

-- rcvd, or add(msg, rcvd), at each type m: only the message's own type grows
abbrev pub added : (I : Interp) → Kind → (ℕ → I.Coll) → ℕ → I.Coll
added I silence rcvd m = rcvd m
added I (message t q) rcvd m = I.add q (rcvd m) if eqb t m else rcvd m

-- a step that stops its board: rule 254, with no message (Q-11). The rule is never looked up in the table
abbrev pub stop_rule : ℕ
stop_rule = 254

abbrev pub is_stop : Step → Bool
is_stop s = eqb s.rule stop_rule

-- how many boards of a set are stopped (Q-11)
abbrev pub stopped_count : Design → ℕ → ℕ
stopped_count d S = count d.boards (mem S)

-- what a stop does: the board is among the stopped ones, and nothing else changes; what it had sent stays sent to all (Q-11)
pub record Stops (d : Design) (I : Interp) (s : Step) (σ σ' : Conf I.Coll) : Type 0 where
  pub board : s.board < d.boards
  pub rule : s.rule ≡ stop_rule
  pub alone : silent s ≡ true
  pub awake : mem σ.stopped s.board ≡ false
  pub allowed : stopped_count d σ.stopped + 1 + d.faulty ≤ d.tolerated
  pub stops : σ'.stopped ≡ insert s.board σ.stopped
  pub pc : (p : ℕ) → p < d.boards → σ'.pc p ≡ σ.pc p
  pub rcvd : (p m : ℕ) → p < d.boards → m < d.types → σ'.rcvd p m ≡ σ.rcvd p m
  pub sent : (m : ℕ) → m < d.types → σ'.sent m ≡ σ.sent m

-- Definition 3.2, for the step s of a board that is not stopped
pub record Moves (d : Design) (I : Interp) (s : Step) (σ σ' : Conf I.Coll) : Type 0 where
  pub board : s.board < d.boards
  pub awake : mem σ.stopped s.board ≡ false
  -- 1: a local transition, at the counts after the receipt
  pub local : Leads d s.rule (σ.pc s.board) (λ m. I.card (σ'.rcvd s.board m)) (σ'.pc s.board)
  -- 2a: no message, or one that is in transit in σ; it is received in σ'
  pub hears : CanHear d I (kind_of s) (σ.rcvd s.board) σ.sent
  pub receives : (m : ℕ) → m < d.types → σ'.rcvd s.board m ≡ added I (kind_of s) (σ.rcvd s.board) m
  -- 2b: sent grows by the board's message of each type that is new, and by nothing else
  pub sends : (m : ℕ) → m < d.types → newly d (σ.pc s.board) (σ'.pc s.board) m ≡ true → σ'.sent m ≡ I.add (I.own s.board) (σ.sent m)
  pub keeps : (m : ℕ) → m < d.types → newly d (σ.pc s.board) (σ'.pc s.board) m ≡ false → σ'.sent m ≡ σ.sent m
  -- 3: the other boards do not change
  pub others_pc : (q : ℕ) → q < d.boards → q ≢ s.board → σ'.pc q ≡ σ.pc q
  pub others_rcvd : (q m : ℕ) → q < d.boards → m < d.types → q ≢ s.board → σ'.rcvd q m ≡ σ.rcvd q m
  pub stopped : σ'.stopped ≡ σ.stopped

-- a step: a local transition, or a stop
pub data Steps (d : Design) (I : Interp) (s : Step) (σ σ' : Conf I.Coll) : Type 0 where
  by_rule : is_stop s ≡ false → Moves d I s σ σ' → Steps d I s σ σ'
  by_stop : Stops d I s σ σ' → Steps d I s σ σ'

-- the paper's relation R between two configurations, with stops: some step leads from one to the other
abbrev pub R : (d : Design) (I : Interp) → Conf I.Coll → Conf I.Coll → Type 0
R d I σ σ' = (s : Step) × Steps d I s σ σ'
