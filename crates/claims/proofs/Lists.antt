-- Q-12 for the call. What is refused goes by the checks in their order, each of which asks every configuration before the next (lists/proofs/CheckLaws.antt); a list that none
-- refuses is one that proves, and what follows from that is shown in proofs/ListForms.antt.
use mathlib.Core.Path.{◌≡◌, refl, sym, ap, ◌∙◌}
use mathlib.Core.Bool.{Bool, true, false, not}
use mathlib.Core.List.{List, [], ◌∷◌}
use Prim.Native.Nat.{ℕ, zero, suc, ◌/◌, ◌%◌, ◌<◌}
use native.Mathlib.Nat.{div-add-mod'}
use native.Mathlib.Decide.{ℕ_discrete}
use native.Mathlib.Omega.{arith}
use lib.ListN.{length}
use borrow.Author.Tests.{eq-eqb, ne_eqb, le-ltb, ltb-false, not-false}
use Rattle.fault.specs.Fault.{Verdict}
use Rattle.fault.specs.declared.Answer.{Answer}
use Rattle.fault.specs.Tests.{◌over◌, ◌differs◌}
use Rattle.fault.specs.Fault.{refused, nothing_done, first_fault, ◌if◌else◌, ◌▹◌}
use Rattle.fault.proofs.FaultLaws.{Clean, if_yes, if_no, if_passed, then_stop, then_pass, then_clean}
use Rattle.fault.proofs.TestLaws.{or-none, same}
use Rattle.table.specs.Table.{states_of}
use Rattle.bundle.specs.Bundle.{form_of, correct_of, steps_of, table_in_use}
use Rattle.bundle.specs.Facts.{Read}
use Rattle.bundle.specs.Refusals.{read_fault}
use Rattle.bundle.proofs.BundleLaws.{read_by}
use Rattle.paper.specs.Paper.{Design}
use Rattle.schedule.proofs.RecordLaws.{length-steps}
use Rattle.accepting.specs.States.{accepts}
use Rattle.engine.specs.Design.{sizes_in, design_in}
use Rattle.engine.specs.Entry.{schedule_of, start_in}
use Rattle.lists.specs.Listed.{many_of, listed, is_listed}
use Rattle.lists.specs.Checked.{order_fault, in_range, range_fault, leads_out, out_fault, accept_fault}
use Rattle.lists.specs.Entry.{most_boards, most_listed, words_in, words_fault, list_fault, list_answer}
use Rattle.lists.specs.Facts.{unfit_in}
use Rattle.lists.proofs.CheckLaws.{listed_at, at_listed, closed_by, by_closed, quiet_by, by_quiet, range-state, range-correct, range-faulty, range-sent, range-awake, by_range}
use Rattle.lists.proofs.CheckLaws.{Asks, asks_yes, asks_no, asks-fine, asks-all, asks-lowest, StandsAfter, asks-order, words_fault_in, list_fault_lem}
use Rattle.claims.specs.Lists.{Fit, Member, Upward, InRange, ClosedAt, NoneAccepts, AllUpward, AllInRange, HasStart, Closed, AllQuiet, Proves, Lowest, refusal_at, ListRefusals, Q12}
use Rattle.claims.proofs.FirstCall.{few_rules}
use Rattle.claims.proofs.ListForms.{schedules_of, calls_of}

-- a list without members
empty : {A : Type 0} (xs : List A) → length xs ≡ 0 → xs ≡ []
empty [] e = refl
empty (x ∷ xs) e = absurd (omega arith)

module _ (b standing l : List ℕ) where
  abbrev d : Design
  d = design_in b standing

  abbrev z : ℕ
  z = words_in b standing

  abbrev S : ℕ
  S = states_of (table_in_use b standing)

  abbrev many : ℕ
  many = many_of z l

  abbrev v : Verdict
  v = list_fault b standing l

  abbrev words : Verdict
  words = words_fault_in b standing l

  abbrev a : Answer
  a = list_answer b standing l

  abbrev words_of : ℕ → List ℕ
  words_of i = listed z l i

  -- ---- the answer of a verdict
  answer-refused : {u : Verdict} → u ≡ v → (u.number ≡ 0 → ⊥) → a ≡ nothing_done u
  unfolding list_answer
  answer-refused {u} e n = sym (if_yes _ (ap nothing_done e) refl (ap not (ne_eqb v.number 0 (λ y. n (ap (λ (x : Verdict). x.number) e ∙ y)))))

  answer-given : v.number ≡ 0 → a ≡ record { refusal = 0; place = 0; count = many }
  unfolding list_answer
  answer-given e = sym (if_no _ refl (ap not (eq-eqb v.number 0 e)) refl)

  answer-clean : a.refusal ≡ 0 → v.number ≡ 0
  answer-clean h = go (ℕ_discrete v.number 0)
    where
      go : Dec (v.number ≡ 0) → v.number ≡ 0
      go (yes e) = e
      go (no n) = sym (ap (λ (x : Answer). x.refusal) (answer-refused refl n)) ∙ h

  at-reading : ((read_fault b standing).number ≡ 0 → ⊥) → a ≡ nothing_done (read_fault b standing)
  at-reading n = answer-refused (then_stop _ refl n ∙ sym (list_fault_lem b standing l)) n

  -- ---- listed
  to_member : (w : List ℕ) → is_listed z l w ≡ true → Member b standing l w
  to_member w h = let L = listed_at z l w h in record { place = L.place; below = L.within; is = L.is }

  from_member : (w : List ℕ) → Member b standing l w → is_listed z l w ≡ true
  from_member w M = at_listed z l w M.place M.below M.is

  -- ---- what is read
  module _ (r : (read_fault b standing).number ≡ 0) where
    R : Read (table_in_use b standing) b
    R = read_by b standing refl r refl

    abbrev unfit : Bool
    unfit = unfit_in b z l

    no_steps : length (steps_of b) ≡ 0 → schedule_of b ≡ []
    no_steps e = empty (schedule_of b) (length-steps 0 (steps_of b) (omega arith))

    steps-none : schedule_of b ≡ [] → length (steps_of b) ≡ 0
    steps-none e =
        let n = length-steps (length (steps_of b) / 4) (steps_of b) (omega (arith, R.parted.steps_long, R.parted.whole_steps)) in
        omega (arith, sym n ∙ ap length e, R.parted.steps_long, R.parted.whole_steps)

    is-fit : unfit ≡ false → Fit b standing l
    is-fit h =
        let f = or-none (form_of b differs 1) _ h in
        let s = or-none (length (steps_of b) differs 0) _ f.1 in
        let c = or-none (correct_of b over most_boards) _ s.1 in
        let m = or-none (length l % z differs 0) _ c.1 in
        record {
          read = r;
          counting = same (form_of b) 1 f.0;
          no_steps = no_steps (same (length (steps_of b)) 0 s.0);
          few_boards = ltb-false most_boards (correct_of b) c.0;
          whole = omega (arith, div-add-mod' (length l) z, same (length l % z) 0 m.0);
          few = ltb-false most_listed many m.1;
        }

    fit_is : Fit b standing l → unfit ≡ false
    fit_is F =
        rw (
          eq-eqb (form_of b) 1 F.counting,
          eq-eqb (length (steps_of b)) 0 (steps-none F.no_steps),
          le-ltb most_boards (correct_of b) F.few_boards,
          eq-eqb (length l % z) 0 (omega (arith, div-add-mod' (length l) z, F.whole)),
          le-ltb most_listed many F.few,
        )

    not_fit : (Fit b standing l → ⊥) → a ≡ refusal_at 70 0
    not_fit n = answer-refused (then_pass refl r (if_yes _ refl refl (go unfit refl)) ∙ sym (list_fault_lem b standing l)) (λ e. absurd (omega arith))
      where
        go : (t : Bool) → unfit ≡ t → unfit ≡ true
        go true e = e
        go false e = absurd (n (is-fit e))

  -- ---- each check, of a list that fits
  asks_range : Asks 71 many (range_fault d S z l) (λ i. InRange b standing (words_of i))
  asks_range =
      asks_yes 71 many _ (λ i. in_range d S (words_of i)) (λ i h I. by_range d S (words_of i) I.states I.corrects I.faulties I.sents I.awake)
      (λ i h e. record {
        states = range-state d S (words_of i) e;
        corrects = range-correct d S (words_of i) e;
        faulties = range-faulty d S (words_of i) e;
        sents = range-sent d S (words_of i) e;
        awake = range-awake d S (words_of i) e;
      }) (omega arith)

  asks_out : (read_fault b standing).number ≡ 0 → Asks 73 many (out_fault d z l) (λ i. ClosedAt b standing l (words_of i))
  asks_out r =
      asks_no 73 many _ (λ i. leads_out d z l (words_of i)) (λ i h f. by_closed d z l (words_of i) (few_rules b standing r) (λ s n e. from_member _ (f s n e)))
      (λ i h e s n f. to_member _ (closed_by d z l (words_of i) (at_listed z l (words_of i) i h refl) e s n f)) (omega arith)

  asks_accept : Asks 74 many (accept_fault d z l) (λ i. NoneAccepts d (words_of i))
  asks_accept = asks_no 74 many _ (λ i. accepts d (words_of i)) (λ i h f. by_quiet d (words_of i) f) (λ i h e. quiet_by d (words_of i) e) (omega arith)

  -- the order, as each but the first has it
  in_order : AllUpward b standing l → (i : ℕ) → i < many → StandsAfter z l i
  in_order U zero h = tt
  in_order U (suc i) h = U i h

  order_before : (i : ℕ) → ((j : ℕ) → j < i → Upward b standing l j) → (j : ℕ) → j < suc i → StandsAfter z l j
  order_before i f zero h = tt
  order_before i f (suc j) h = f j (omega arith)

  -- ---- the checks in their order
  abbrev start : List ℕ
  start = start_in (sizes_in b standing) b

  abbrev last : Verdict
  last = first_fault (out_fault d z l) many ▹ first_fault (accept_fault d z l) many

  abbrev from_start : Verdict
  from_start = refused 72 if not (is_listed z l start) else last

  abbrev from_range : Verdict
  from_range = first_fault (range_fault d S z l) many ▹ from_start

  module _ (F : Fit b standing l) where
    past_fit : {u : Verdict} → u ≡ words → u ≡ v
    past_fit e = then_pass refl F.read (if_no _ refl (fit_is F.read F) e) ∙ sym (list_fault_lem b standing l)

    at_order : (i : ℕ) → suc i < many → (Upward b standing l i → ⊥) → ((j : ℕ) → j < i → Upward b standing l j) → a ≡ refusal_at 70 (suc i)
    unfolding words_fault
    at_order i h q f =
        answer-refused (past_fit (then_stop from_range (asks-lowest (asks-order z l many) (omega arith) (suc i) h q (order_before i f)) (λ e. absurd (omega arith)))) (λ e. absurd (omega arith))

    module _ (U : AllUpward b standing l) where
      past_order : {u : Verdict} → u ≡ from_range → u ≡ v
      unfolding words_fault
      past_order e = past_fit (then_pass (sym (asks-fine (asks-order z l many) (in_order U))) refl e)

      at_range : (i : ℕ) → Lowest many (λ j. InRange b standing (words_of j)) i → a ≡ refusal_at 71 i
      at_range i L = answer-refused (past_order (then_stop from_start (asks-lowest asks_range (omega arith) i L.below L.fails L.before) (λ e. absurd (omega arith)))) (λ e. absurd (omega arith))

      module _ (I : AllInRange b standing l) where
        past_range : {u : Verdict} → u ≡ from_start → u ≡ v
        past_range e = past_order (then_pass (sym (asks-fine asks_range I)) refl e)

        at_start : (HasStart b standing l → ⊥) → a ≡ refusal_at 72 0
        at_start n = answer-refused (past_range (if_yes last refl refl (ap not (go (is_listed z l start) refl)))) (λ e. absurd (omega arith))
          where
            go : (t : Bool) → is_listed z l start ≡ t → is_listed z l start ≡ false
            go true e = absurd (n (to_member start e))
            go false e = e

        module _ (H : HasStart b standing l) where
          past_start : {u : Verdict} → u ≡ last → u ≡ v
          past_start e = past_range (if_no (refused 72) refl (ap not (from_member start H)) e)

          at_out : (i : ℕ) → Lowest many (λ j. ClosedAt b standing l (words_of j)) i → a ≡ refusal_at 73 i
          at_out i L = answer-refused (past_start (then_stop _ (asks-lowest (asks_out F.read) (omega arith) i L.below L.fails L.before) (λ e. absurd (omega arith)))) (λ e. absurd (omega arith))

          module _ (K : Closed b standing l) where
            past_out : {u : Verdict} → u ≡ first_fault (accept_fault d z l) many → u ≡ v
            past_out e = past_start (then_pass (sym (asks-fine (asks_out F.read) K)) refl e)

            at_accept : (i : ℕ) → Lowest many (λ j. NoneAccepts d (words_of j)) i → a ≡ refusal_at 74 i
            at_accept i L = answer-refused (past_out (asks-lowest asks_accept (omega arith) i L.below L.fails L.before)) (λ e. absurd (omega arith))

            at_end_lem : AllQuiet b standing l → a ≡ record { refusal = 0; place = 0; count = many }
            at_end_lem Q = answer-given (sym (ap (λ (x : Verdict). x.number) (past_out (sym (asks-fine asks_accept Q)))))

  -- ---- and back: what no check refuses
  proves : a.refusal ≡ 0 → Proves b standing l
  unfolding words_fault
  proves h =
      let x = then_clean (read_fault b standing) _ (ap (λ (u : Verdict). u.number) (sym (list_fault_lem b standing l)) ∙ answer-clean h) in
      let f = if_passed Clean (refused 70) (unfit_in b z l) words (λ e. absurd (omega arith)) x.1 in
      let o = then_clean (first_fault (order_fault z l) many) from_range f.1 in
      let g = then_clean (first_fault (range_fault d S z l) many) from_start o.1 in
      let s = if_passed Clean (refused 72) (not (is_listed z l start)) last (λ e. absurd (omega arith)) g.1 in
      let c = then_clean (first_fault (out_fault d z l) many) (first_fault (accept_fault d z l) many) s.1 in
      record {
        fit = is-fit x.0 f.0;
        upward = λ i h. asks-all (asks-order z l many) o.0 (suc i) h;
        in_range = asks-all asks_range g.0;
        has_start = to_member start (not-false _ s.0);
        closed = asks-all (asks_out x.0) c.0;
        quiet = asks-all asks_accept c.1;
      }

  refusals : ListRefusals b standing l a
  refusals = record {
    reading = at-reading;
    unfit = not_fit;
    order = at_order;
    range = at_range;
    start = at_start;
    outside = at_out;
    accepting = at_accept;
    accepted = λ P. at_end_lem P.fit P.upward P.in_range P.has_start P.closed P.quiet;
    accepted_only = proves;
  }

pub q12 : Q12
q12 = record {
  refusals = refusals;
  schedules = λ b standing l h. schedules_of b standing l (proves b standing l h);
  calls = λ b standing l h. calls_of b standing l (proves b standing l h);
}
