-- One answer only: two results of a call, with the memory that was lent to it, that meet its contract for the same input are equal. The
-- contracts are the functions' own, `Post`. Proofs: proofs/OneAnswer.antt.
use Rattle.std.specs.Prelude.{◌≡◌, List, ℕ}
use contract.Lifetimes.{Lfts}
use Rattle.std.specs.Borrow.{Bor, MutBor}
use Rattle.engine.proofs.run.Reads as run
use Rattle.counted.proofs.run.Reads as counted
use Rattle.translate.proofs.translate.Reads as translate
use Rattle.translate.proofs.translate_to.Reads as translate_to
use Rattle.first_step.proofs.first_step.Reads as first_step
use Rattle.replay.proofs.replay.Reads as replay
use Rattle.search.proofs.search.Reads as search
use Rattle.lists.proofs.check_list.Reads as check_list
use Rattle.drawing.proofs.draw.Reads as draw
use Rattle.drawing.proofs.undraw.Reads as undraw
use Rattle.editions.proofs.to_second.Reads as to_second
use Rattle.editions.proofs.to_first.Reads as to_first
use Rattle.capi.proofs.macaroosh_run.Reads as c_run
use Rattle.capi.proofs.macaroosh_receipts.Reads as c_receipts
use Rattle.capi.proofs.macaroosh_translate.Reads as c_translate
use Rattle.capi.proofs.macaroosh_translate_to.Reads as c_translate_to
use Rattle.capi.proofs.macaroosh_first_step.Reads as c_first_step
use Rattle.capi.proofs.macaroosh_replay.Reads as c_replay
use Rattle.capi.proofs.macaroosh_search.Reads as c_search
use Rattle.capi.proofs.macaroosh_check_list.Reads as c_check_list
use Rattle.capi.proofs.macaroosh_draw.Reads as c_draw
use Rattle.capi.proofs.macaroosh_undraw.Reads as c_undraw
use Rattle.capi.proofs.macaroosh_to_second.Reads as c_to_second
use Rattle.capi.proofs.macaroosh_to_first.Reads as c_to_first

-- what a call leaves of what was passed, where `MutBor` is what was lent to it and `Bor` what is only read
-- a table or a text, and lent bytes
abbrev pub Two : Type 0
Two = Bor (List ℕ) × (MutBor (List ℕ) × Unit {0})

-- a bundle and a standing table
abbrev pub Read : Type 0
Read = Bor (List ℕ) × (Bor (List ℕ) × Unit {0})

-- a bundle, a standing table, and lent words or bytes
abbrev pub Three : Type 0
Three = Bor (List ℕ) × (Bor (List ℕ) × (MutBor (List ℕ) × Unit {0}))

-- the same with a list of words that is only read
abbrev pub Listed : Type 0
Listed = Bor (List ℕ) × (Bor (List ℕ) × (Bor (List ℕ) × Unit {0}))

-- a bundle and a standing table, with a form that is asked for before what is lent
abbrev pub Asked : Type 0
Asked = Bor (List ℕ) × (Bor (List ℕ) × (ℕ × (MutBor (List ℕ) × Unit {0})))

-- a bundle, a standing table and a log, with lent bytes and lent words
abbrev pub Logged : Type 0
Logged = Bor (List ℕ) × (Bor (List ℕ) × (Bor (List ℕ) × (MutBor (List ℕ) × (MutBor (List ℕ) × Unit {0}))))

-- a bundle and a standing table, a depth and a budget, and lent bytes; from C also where the number tried is stored
abbrev pub Sought : Type 0
Sought = Bor (List ℕ) × (Bor (List ℕ) × (ℕ × (ℕ × (MutBor (List ℕ) × Unit {0}))))

abbrev pub Counted : Type 0
Counted = Bor (List ℕ) × (Bor (List ℕ) × (ℕ × (ℕ × (MutBor (List ℕ) × (MutBor ℕ × Unit {0})))))

-- what was lent
abbrev pub second : Two → List ℕ
second s = s.1.0.now

abbrev pub third : Three → List ℕ
third s = s.1.1.0.now

abbrev pub fourth : Asked → List ℕ
fourth s = s.1.1.1.0.now

abbrev pub bytes_in : Logged → List ℕ
bytes_in s = s.1.1.1.0.now

abbrev pub words_in : Logged → List ℕ
words_in s = s.1.1.1.1.0.now

abbrev pub fifth : Sought → List ℕ
fifth s = s.1.1.1.1.0.now

abbrev pub steps_in : Counted → List ℕ
steps_in s = s.1.1.1.1.0.now

abbrev pub tried_in : Counted → ℕ
tried_in s = s.1.1.1.1.1.0.now

-- a contract of input a, answer r and what is left, s
abbrev pub One : {A R : Type 0} → (A → R → Read → Type 0) → Type 0
One {A} {R} Post = (a : A) (r r' : R) (s s' : Read) → Post a r s → Post a r' s' → r ≡ r'

abbrev pub OneListed : {A R : Type 0} → (A → R → Listed → Type 0) → Type 0
OneListed {A} {R} Post = (a : A) (r r' : R) (s s' : Listed) → Post a r s → Post a r' s' → r ≡ r'

abbrev pub OneLentTwo : {A R : Type 0} → (A → R → Two → Type 0) → Type 0
OneLentTwo {A} {R} Post = (a : A) (r r' : R) (s s' : Two) → Post a r s → Post a r' s' → (r ≡ r') × (second s ≡ second s')

abbrev pub OneLent : {A R : Type 0} → (A → R → Three → Type 0) → Type 0
OneLent {A} {R} Post = (a : A) (r r' : R) (s s' : Three) → Post a r s → Post a r' s' → (r ≡ r') × (third s ≡ third s')

abbrev pub OneAsked : {A R : Type 0} → (A → R → Asked → Type 0) → Type 0
OneAsked {A} {R} Post = (a : A) (r r' : R) (s s' : Asked) → Post a r s → Post a r' s' → (r ≡ r') × (fourth s ≡ fourth s')

abbrev pub OneLogged : {A R : Type 0} → (A → R → Logged → Type 0) → Type 0
OneLogged {A} {R} Post = (a : A) (r r' : R) (s s' : Logged) → Post a r s → Post a r' s' → (r ≡ r') × (bytes_in s ≡ bytes_in s') × (words_in s ≡ words_in s')

abbrev pub OneSought : {A R : Type 0} → (A → R → Sought → Type 0) → Type 0
OneSought {A} {R} Post = (a : A) (r r' : R) (s s' : Sought) → Post a r s → Post a r' s' → (r ≡ r') × (fifth s ≡ fifth s')

abbrev pub OneCounted : {A R : Type 0} → (A → R → Counted → Type 0) → Type 0
OneCounted {A} {R} Post = (a : A) (r r' : R) (s s' : Counted) → Post a r s → Post a r' s' → (r ≡ r') × (steps_in s ≡ steps_in s') × (tried_in s ≡ tried_in s')

pub record OneAnswer : Type 0 where
  pub run : (κs : Lfts 2) → OneLent (run.Post κs)
  pub counted : (κs : Lfts 2) → OneLent (counted.Post κs)
  pub translate : (κs : Lfts 2) → OneLent (translate.Post κs)
  pub translate_to : (κs : Lfts 2) → OneAsked (translate_to.Post κs)
  pub first_step : (κs : Lfts 1) → One (first_step.Post κs)
  pub replay : (κs : Lfts 4) → OneLogged (replay.Post κs)
  pub search : (κs : Lfts 2) → OneSought (search.Post κs)
  pub check_list : (κs : Lfts 2) → OneListed (check_list.Post κs)
  pub draw : (κs : Lfts 2) → OneLentTwo (draw.Post κs)
  pub undraw : (κs : Lfts 2) → OneLentTwo (undraw.Post κs)
  pub to_second : (κs : Lfts 2) → OneLentTwo (to_second.Post κs)
  pub to_first : (κs : Lfts 2) → OneLentTwo (to_first.Post κs)
  pub c_run : (κs : Lfts 2) → OneLent (c_run.Post κs)
  pub c_receipts : (κs : Lfts 2) → OneLent (c_receipts.Post κs)
  pub c_translate : (κs : Lfts 2) → OneLent (c_translate.Post κs)
  pub c_translate_to : (κs : Lfts 2) → OneAsked (c_translate_to.Post κs)
  pub c_first_step : (κs : Lfts 1) → One (c_first_step.Post κs)
  pub c_replay : (κs : Lfts 4) → OneLogged (c_replay.Post κs)
  pub c_search : (κs : Lfts 3) → OneCounted (c_search.Post κs)
  pub c_check_list : (κs : Lfts 2) → OneListed (c_check_list.Post κs)
  pub c_draw : (κs : Lfts 2) → OneLentTwo (c_draw.Post κs)
  pub c_undraw : (κs : Lfts 2) → OneLentTwo (c_undraw.Post κs)
  pub c_to_second : (κs : Lfts 2) → OneLentTwo (c_to_second.Post κs)
  pub c_to_first : (κs : Lfts 2) → OneLentTwo (c_to_first.Post κs)
