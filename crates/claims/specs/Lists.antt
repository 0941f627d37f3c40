-- Q-12, "Proof lists from outside", for the call `check_list`, whatever the bundle, the standing table and the list: which refusal comes when, and with which place; when a list is
-- accepted; and that then no schedule, of whatever length, steps and form, reaches an accepting state. Proofs: proofs/ListForms.antt, proofs/Lists.antt.
use Rattle.std.specs.Prelude.{◌≡◌, true, false, List, [], ℕ, suc, ◌*◌, ◌≤◌, ◌<◌, length}
use Rattle.fault.specs.Fault.{nothing_done, verdict}
use Rattle.fault.specs.declared.Answer.{Answer}
use Rattle.table.specs.Table.{states_of}
use Rattle.bundle.specs.Bundle.{n_of, t_of, f_of, form_of, correct_of, starts_of, table_in_use}
use Rattle.bundle.specs.Refusals.{read_fault}
use Rattle.paper.specs.Paper.{Design, Step, is_stop}
use Rattle.paper.specs.Words.{state, cell, sent, stopped, start}
use Rattle.paper.specs.Form.{wide}
use Rattle.paper.specs.Step.{step_fault, stepped}
use Rattle.paper.specs.Run.{run}
use Rattle.engine.specs.Design.{sizes_in, design_in}
use Rattle.engine.specs.Entry.{schedule_of, start_in, run_answer, run_words}
use Rattle.lists.specs.Listed.{many_of, listed, precedes}
use Rattle.lists.specs.Entry.{most_boards, most_listed, words_in, list_answer}
use Rattle.claims.specs.Demand1.{OfStep}

-- ---- a list l beside a bundle b without steps
-- the bundle is read, is in counting form, has no steps and at most 6 boards; the list is a whole number of configurations, at most 512
pub record Fit (b standing l : List ℕ) : Type 0 where
  pub read : (read_fault b standing).number ≡ 0
  pub counting : form_of b ≡ 1
  pub no_steps : schedule_of b ≡ []
  pub few_boards : correct_of b ≤ most_boards
  pub whole : length l ≡ many_of (words_in b standing) l * words_in b standing
  pub few : many_of (words_in b standing) l ≤ most_listed

-- how many configurations it has, and the words of configuration i
abbrev pub many_in : List ℕ → List ℕ → List ℕ → ℕ
many_in b standing l = many_of (words_in b standing) l

abbrev pub words_at : List ℕ → List ℕ → List ℕ → ℕ → List ℕ
words_at b standing l i = listed (words_in b standing) l i

-- the words w are those of a listed configuration
pub record Member (b standing l w : List ℕ) : Type 0 where
  pub place : ℕ
  pub below : place < many_in b standing l
  pub is : words_at b standing l place ≡ w

-- ---- what is asked of each configuration
-- configuration i + 1 stands after configuration i
abbrev pub Upward : List ℕ → List ℕ → List ℕ → ℕ → Type 0
Upward b standing l i = precedes (words_at b standing l i) (words_at b standing l (suc i)) ≡ true

-- its words are in range: states of the table, correct and sent counts up to C, faulty ones up to f, no board stopped
pub record InRange (b standing w : List ℕ) : Type 0 where
  pub states : (p : ℕ) → p < (design_in b standing).boards → state w p < states_of (table_in_use b standing)
  pub corrects : (p m : ℕ) → p < (design_in b standing).boards → m < (design_in b standing).types → cell (design_in b standing).boards (design_in b standing).types (wide 1) w p m 0 ≤ (design_in b standing).boards
  pub faulties : (p m : ℕ) → p < (design_in b standing).boards → m < (design_in b standing).types → cell (design_in b standing).boards (design_in b standing).types (wide 1) w p m 1 ≤ (design_in b standing).faulty
  pub sents : (m : ℕ) → m < (design_in b standing).types → sent (design_in b standing).boards (design_in b standing).types (wide 1) w m ≤ (design_in b standing).boards
  pub awake : stopped (design_in b standing).boards (design_in b standing).types (wide 1) w ≡ 0

-- every step that is accepted there and is no stop leads to a listed configuration
abbrev pub ClosedAt : List ℕ → List ℕ → List ℕ → List ℕ → Type 0
ClosedAt b standing l w = (s : Step) → is_stop s ≡ false → step_fault 1 (design_in b standing) w s ≡ 0 → Member b standing l (stepped 1 (design_in b standing) w s)

-- no board is in an accepting state
abbrev pub NoneAccepts : Design → List ℕ → Type 0
NoneAccepts d w = (p : ℕ) → p < d.boards → d.accepting (state w p) ≡ false

-- ---- of all of them
abbrev pub AllUpward : List ℕ → List ℕ → List ℕ → Type 0
AllUpward b standing l = (i : ℕ) → suc i < many_in b standing l → Upward b standing l i

abbrev pub AllInRange : List ℕ → List ℕ → List ℕ → Type 0
AllInRange b standing l = (i : ℕ) → i < many_in b standing l → InRange b standing (words_at b standing l i)

abbrev pub HasStart : List ℕ → List ℕ → List ℕ → Type 0
HasStart b standing l = Member b standing l (start_in (sizes_in b standing) b)

abbrev pub Closed : List ℕ → List ℕ → List ℕ → Type 0
Closed b standing l = (i : ℕ) → i < many_in b standing l → ClosedAt b standing l (words_at b standing l i)

abbrev pub AllQuiet : List ℕ → List ℕ → List ℕ → Type 0
AllQuiet b standing l = (i : ℕ) → i < many_in b standing l → NoneAccepts (design_in b standing) (words_at b standing l i)

-- the list is accepted exactly if all this holds
pub record Proves (b standing l : List ℕ) : Type 0 where
  pub fit : Fit b standing l
  pub upward : AllUpward b standing l
  pub in_range : AllInRange b standing l
  pub has_start : HasStart b standing l
  pub closed : Closed b standing l
  pub quiet : AllQuiet b standing l

-- i is the lowest below many of which P does not hold
pub record Lowest (many : ℕ) (P : ℕ → Type 0) (i : ℕ) : Type 0 where
  pub below : i < many
  pub fails : P i → ⊥
  pub before : (j : ℕ) → j < i → P j

abbrev pub refusal_at : ℕ → ℕ → Answer
refusal_at k i = nothing_done (verdict k i)

-- ---- the answer a: what is refused, in this order, each over the whole list before the next
pub record ListRefusals (b standing l : List ℕ) (a : Answer) : Type 0 where
  pub reading : ((read_fault b standing).number ≡ 0 → ⊥) → a ≡ nothing_done (read_fault b standing)
  pub unfit : (read_fault b standing).number ≡ 0 → (Fit b standing l → ⊥) → a ≡ refusal_at 70 0
  -- the place is that of the later one
  pub order : Fit b standing l → (i : ℕ) → suc i < many_in b standing l → (Upward b standing l i → ⊥) → ((j : ℕ) → j < i → Upward b standing l j) → a ≡ refusal_at 70 (suc i)
  pub range : Fit b standing l → AllUpward b standing l → (i : ℕ) → Lowest (many_in b standing l) (λ j. InRange b standing (words_at b standing l j)) i → a ≡ refusal_at 71 i
  pub start : Fit b standing l → AllUpward b standing l → AllInRange b standing l → (HasStart b standing l → ⊥) → a ≡ refusal_at 72 0
  pub outside : Fit b standing l → AllUpward b standing l → AllInRange b standing l → HasStart b standing l → (i : ℕ) → Lowest (many_in b standing l) (λ j. ClosedAt b standing l (words_at b standing l j)) i → a ≡ refusal_at 73 i
  pub accepting : Fit b standing l → AllUpward b standing l → AllInRange b standing l → HasStart b standing l → Closed b standing l → (i : ℕ) → Lowest (many_in b standing l) (λ j. NoneAccepts (design_in b standing) (words_at b standing l j)) i → a ≡ refusal_at 74 i
  -- and else nothing, with the number of configurations
  pub accepted : Proves b standing l → a ≡ record { refusal = 0; place = 0; count = many_in b standing l }
  pub accepted_only : a.refusal ≡ 0 → Proves b standing l

-- ---- after acceptance
-- a bundle c of whatever form and steps has the same table, n, t, f and starts
pub record SameGame (b standing c beside : List ℕ) : Type 0 where
  pub table : table_in_use c beside ≡ table_in_use b standing
  pub n : n_of c ≡ n_of b
  pub t : t_of c ≡ t_of b
  pub f : f_of c ≡ f_of b
  pub starts : starts_of c ≡ starts_of b

-- the answer of a run that went to its end or to a refused step
abbrev pub Stepped : ℕ → Type 0
Stepped n = (n ≡ 0 → ⊥) → OfStep n

pub record Q12 : Type 0 where
  pub refusals : (b standing l : List ℕ) → ListRefusals b standing l (list_answer b standing l)
  -- no schedule reaches an accepting state: of whatever length and steps, stops too, in each form k, run to its end or to its first refused step
  pub schedules : (b standing l : List ℕ) → (list_answer b standing l).refusal ≡ 0 → (k : ℕ) → k ≤ 2 → (ss : List Step)
      → NoneAccepts (design_in b standing) (run k (design_in b standing) (start (design_in b standing).types (wide k) (starts_of b)) ss).left
  -- for the very calls: no state that `run` leaves is accepting
  pub calls : (b standing l : List ℕ) → (list_answer b standing l).refusal ≡ 0 → (c beside words : List ℕ) → SameGame b standing c beside → Stepped (run_answer c beside (length words)).refusal
      → NoneAccepts (design_in b standing) (run_words c beside words)
