-- Q-9 for the call. What is refused goes by the checks in their order. Without a refusal each claim goes by how the search ends (search/proofs/Endings.antt): what
-- the whole walk says of it is shown there, that none comes before it in proofs/SearchOrder.antt, and that it holds in all forms in proofs/SearchForms.antt.
use mathlib.Core.Path.{◌≡◌, refl, sym, ap, ◌∙◌, subst, subst⁻¹}
use mathlib.Core.Bool.{true, false, not, true≢false}
use mathlib.Core.List.{List, [], ◌++◌}
use Prim.Native.Nat.{ℕ, ◌*◌, ◌≤◌, ◌<◌}
use native.Mathlib.Decide.{ℕ_discrete, dec_lt}
use native.Mathlib.Omega.{arith}
use lib.ListN.{length, take, drop, length-append, length-drop}
use borrow.Author.Tests.{eq-eqb, ne_eqb, lt-ltb, le-ltb}
use Rattle.fault.specs.Bytes.{step_bytes}
use Rattle.fault.specs.Fault.{verdict, fine, refused}
use Rattle.fault.specs.Fault.{Verdict}
use Rattle.fault.specs.declared.Answer.{Answer}
use Rattle.fault.proofs.FaultLaws.{if_yes, if_no, then_stop, then_pass}
use Rattle.bundle.specs.Bundle.{form_of, table_in_use, level_of}
use Rattle.bundle.specs.Refusals.{read_fault}
use Rattle.bundle.proofs.BundleLaws.{read_by, read-within, level-same}
use Rattle.paper.specs.Paper.{Design, Step}
use Rattle.paper.specs.Words.{size}
use Rattle.paper.specs.Form.{wide}
use Rattle.paper.specs.Machine.{run_by}
use Rattle.schedule.specs.Records.{bytes_of}
use Rattle.schedule.proofs.RecordLaws.{length-bytes}
use Rattle.words.specs.Facts.{most_words}
use Rattle.engine.specs.Design.{design_in}
use Rattle.engine.specs.Entry.{ran_of, ran_answer, run_answer}
use Rattle.engine.proofs.BoundLaws.{ran-within}
use Rattle.engine.proofs.EntryLaws.{answer-place}
use Rattle.translate.specs.Entry.{translation_of}
use Rattle.translate.proofs.EntryLaws.{other-made}
use Rattle.search.specs.declared.Searched.{Searched}
use Rattle.accepting.specs.States.{accepts}
use Rattle.search.specs.Walk.{Walked, found, none, spent, walk, never}
use Rattle.search.specs.Found.{Reaches, Finds, First}
use Rattle.search.specs.Entry.{most_depth, outcome_of, tried_in, left_in, search_fault, searched_of, search_answer, search_bytes}
use Rattle.search.proofs.None.{IsNone, Found, none_reached, walk_found}
use Rattle.search.proofs.First.{nobody, IsFirst, walk_first}
use Rattle.search.proofs.Endings.{Ending, already, finds, misses, halts, ending}
use Rattle.claims.specs.Search as search
use Rattle.claims.specs.Search.{ReachesFrom, Unreached, Asked, refusal_at, Refusals, Before, FoundFrom, Outcome, Answers, Q9}
use Rattle.claims.specs.Demand2.{Sized}
use Rattle.claims.proofs.Demand1.{run-read}
use Rattle.claims.proofs.Demand2.{ran-sized}
use Rattle.claims.proofs.FirstCall.{few_rules}
use Rattle.claims.proofs.Demand3.{own, translated}
use Rattle.claims.proofs.SearchOrder.{first_no_waits, first_no_stops, none_before}
use Rattle.claims.proofs.SearchForms.{in_each_form}

-- ---- the checks in their order
data Faulted (b standing : List ℕ) (depth lent : ℕ) : Verdict → Type 0 where
  unread : ((read_fault b standing).number ≡ 0 → ⊥) → Faulted b standing depth lent (read_fault b standing)
  deep : most_depth < depth → Faulted b standing depth lent (refused 34)
  other : (form_of b ≡ 1 → ⊥) → Faulted b standing depth lent (refused 35)
  short : lent < depth * step_bytes → Faulted b standing depth lent (refused 30)
  stopped : (read_fault b standing).number ≡ 0 → ((ran_of b standing).refusal ≡ 0 → ⊥) → Faulted b standing depth lent (verdict (ran_of b standing).refusal (ran_of b standing).accepted)
  right : Asked b standing depth lent → Faulted b standing depth lent fine

module _ (b standing : List ℕ) (depth lent : ℕ) where
  abbrev fault : Verdict
  fault = search_fault b standing depth lent

  at-reading : ((read_fault b standing).number ≡ 0 → ⊥) → read_fault b standing ≡ fault
  unfolding search_fault
  at-reading n = then_stop _ refl n

  module _ (z : (read_fault b standing).number ≡ 0) where
    too_deep : most_depth < depth → refused 34 ≡ fault
    unfolding search_fault
    too_deep l = then_pass refl z (if_yes _ refl refl (lt-ltb most_depth depth l))

    module _ (few : depth ≤ most_depth) where
      other-form : (form_of b ≡ 1 → ⊥) → refused 35 ≡ fault
      unfolding search_fault
      other-form n = then_pass refl z (if_no _ refl (le-ltb most_depth depth few) (if_yes _ refl refl (ap not (ne_eqb (form_of b) 1 n))))

      module _ (one : form_of b ≡ 1) where
        no_room : lent < depth * step_bytes → refused 30 ≡ fault
        unfolding search_fault
        no_room l = then_pass refl z (if_no _ refl (le-ltb most_depth depth few) (if_no _ refl (ap not (eq-eqb (form_of b) 1 one)) (if_yes _ refl refl (lt-ltb lent (depth * step_bytes) l))))

        module _ (room : depth * step_bytes ≤ lent) where
          at-step : ((ran_of b standing).refusal ≡ 0 → ⊥) → verdict (ran_of b standing).refusal (ran_of b standing).accepted ≡ fault
          unfolding search_fault
          at-step n =
              then_pass refl z (if_no _ refl (le-ltb most_depth depth few) (if_no _ refl (ap not (eq-eqb (form_of b) 1 one)) (if_no _ refl (le-ltb lent (depth * step_bytes) room)
              (if_yes _ refl refl (ap not (ne_eqb (ran_of b standing).refusal 0 n))))))

          all_right : (ran_of b standing).refusal ≡ 0 → fine ≡ fault
          unfolding search_fault
          all_right e =
              then_pass refl z (if_no _ refl (le-ltb most_depth depth few) (if_no _ refl (ap not (eq-eqb (form_of b) 1 one)) (if_no _ refl (le-ltb lent (depth * step_bytes) room)
              (if_no _ refl (ap not (eq-eqb (ran_of b standing).refusal 0 e)) refl))))

  faulted : Faulted b standing depth lent fault
  faulted = go (ℕ_discrete (read_fault b standing).number 0) (dec_lt most_depth depth) (ℕ_discrete (form_of b) 1) (dec_lt lent (depth * step_bytes)) (ℕ_discrete (ran_of b standing).refusal 0)
    where
      go : Dec ((read_fault b standing).number ≡ 0) → Dec (most_depth < depth) → Dec (form_of b ≡ 1) → Dec (lent < depth * step_bytes) → Dec ((ran_of b standing).refusal ≡ 0) → Faulted b standing depth lent fault
      go (no n) x y t u = subst (Faulted b standing depth lent) (at-reading n) (unread n)
      go (yes z) (yes l) y t u = subst (Faulted b standing depth lent) (too_deep z l) (deep l)
      go (yes z) (no l) (no n) t u = subst (Faulted b standing depth lent) (other-form z (omega arith) n) (other n)
      go (yes z) (no l) (yes e) (yes t) u = subst (Faulted b standing depth lent) (no_room z (omega arith) e t) (short t)
      go (yes z) (no l) (yes e) (no t) (no n) = subst (Faulted b standing depth lent) (at-step z (omega arith) e (omega arith) n) (stopped z n)
      go (yes z) (no l) (yes e) (no t) (yes u) =
          subst (Faulted b standing depth lent) (all_right z (omega arith) e (omega arith) u) (right (record { runs = record { read = z; accepted = u }; counting = e; few = omega arith; room = omega arith }))

  -- each number has one reason
  read-few : (read_fault b standing).number ≤ 14
  read-few = (read-within (table_in_use b standing) b).number

  ran-few : (read_fault b standing).number ≡ 0 → (ran_of b standing).refusal ≤ 27
  ran-few z = (ran-within (table_in_use b standing) b (read_by b standing refl z refl)).refusal

  only_deep : (v : Verdict) → Faulted b standing depth lent v → v.number ≡ 34 → most_depth < depth
  only_deep v (unread n) e = absurd (omega (arith, read-few))
  only_deep v (deep l) e = l
  only_deep v (other n) e = absurd (omega arith)
  only_deep v (short l) e = absurd (omega arith)
  only_deep v (stopped z n) e = absurd (omega (arith, ran-few z))
  only_deep v (right A) e = absurd (omega arith)

  only_form : (v : Verdict) → Faulted b standing depth lent v → v.number ≡ 35 → form_of b ≡ 1 → ⊥
  only_form v (unread n) e = absurd (omega (arith, read-few))
  only_form v (deep l) e = absurd (omega arith)
  only_form v (other n) e = n
  only_form v (short l) e = absurd (omega arith)
  only_form v (stopped z n) e = absurd (omega (arith, ran-few z))
  only_form v (right A) e = absurd (omega arith)

  only_room : (v : Verdict) → Faulted b standing depth lent v → v.number ≡ 30 → lent < depth * step_bytes
  only_room v (unread n) e = absurd (omega (arith, read-few))
  only_room v (deep l) e = absurd (omega arith)
  only_room v (other n) e = absurd (omega arith)
  only_room v (short l) e = l
  only_room v (stopped z n) e = absurd (omega (arith, ran-few z))
  only_room v (right A) e = absurd (omega arith)

  only_right : (v : Verdict) → Faulted b standing depth lent v → v.number ≡ 0 → Asked b standing depth lent
  only_right v (unread n) e = absurd (n e)
  only_right v (deep l) e = absurd (omega arith)
  only_right v (other n) e = absurd (omega arith)
  only_right v (short l) e = absurd (omega arith)
  only_right v (stopped z n) e = absurd (n e)
  only_right v (right A) e = A

-- nothing comes before no steps
none_first : {ss : List Step} → Before ss [] → ⊥
none_first = elim [ ]

-- what a walk is given as, where nothing is refused
abbrev given : Walked → Searched
given x = record { refusal = 0; place = 0; outcome = outcome_of x; tried = tried_in x }

module _ (b standing : List ℕ) (depth budget : ℕ) (out : List ℕ) where
  abbrev v : Verdict
  v = search_fault b standing depth (length out)

  abbrev x : Walked
  x = searched_of b standing depth budget

  abbrev a : Searched
  a = search_answer b standing depth budget (length out)

  abbrev u : List ℕ
  u = search_bytes b standing depth budget out

  -- ---- refusals
  refused_as : (v.number ≡ 0 → ⊥) → refusal_at v.number v.place ≡ a
  unfolding search_answer
  refused_as n = if_yes _ refl refl (ap not (ne_eqb v.number 0 n))

  refused-kept : (v.number ≡ 0 → ⊥) → out ≡ u
  unfolding search_bytes
  refused-kept n = if_yes _ refl refl (ap not (ne_eqb v.number 0 n))

  given_as : v.number ≡ 0 → given x ≡ a
  unfolding search_answer
  given_as z = if_no _ refl (ap not (eq-eqb v.number 0 z)) refl

  given-bytes : v.number ≡ 0 → left_in x out ≡ u
  unfolding search_bytes
  given-bytes z = if_no _ refl (ap not (eq-eqb v.number 0 z)) refl

  number_is : a.refusal ≡ v.number
  number_is = go (ℕ_discrete v.number 0)
    where
      go : Dec (v.number ≡ 0) → a.refusal ≡ v.number
      go (yes z) = sym (ap (λ (s : Searched). s.refusal) (given_as z)) ∙ sym z
      go (no n) = sym (ap (λ (s : Searched). s.refusal) (refused_as n))

  by_verdict : (w : Verdict) → w ≡ v → (w.number ≡ 0 → ⊥) → a ≡ refusal_at w.number w.place
  by_verdict w e n = sym (ap (λ (y : Verdict). refusal_at y.number y.place) e ∙ refused_as (λ z. n (ap (λ (y : Verdict). y.number) e ∙ z)))

  refusals : Refusals b standing depth out a u
  unfolding ran_answer
  refusals = record {
    reading = λ n. by_verdict (read_fault b standing) (at-reading b standing depth (length out) n) n;
    deep = λ z l. by_verdict (refused 34) (too_deep b standing depth (length out) z l) (λ e. absurd (omega arith));
    deep_only = λ e. only_deep b standing depth (length out) v F (sym number_is ∙ e);
    form = λ z l n. by_verdict (refused 35) (other-form b standing depth (length out) z l n) (λ e. absurd (omega arith));
    form_only = λ e. only_form b standing depth (length out) v F (sym number_is ∙ e);
    room = λ z l e h. by_verdict (refused 30) (no_room b standing depth (length out) z l e h) (λ y. absurd (omega arith));
    room_only = λ e. only_room b standing depth (length out) v F (sym number_is ∙ e);
    step = λ z l e h words many n. by_run z words many n (at-step b standing depth (length out) z l e h);
    asked = λ A. let g = sym (given_as (sym (ap (λ (y : Verdict). y.number) (fine-is A)))) in (ap (λ (s : Searched). s.refusal) g, ap (λ (s : Searched). s.place) g);
    asked_only = λ e. only_right b standing depth (length out) v F (sym number_is ∙ e);
    nothing = λ n. let m : v.number ≡ 0 → ⊥ = λ z. n (number_is ∙ z) in let r = refused_as m in
        (sym (ap (λ (s : Searched). s.outcome) r), sym (ap (λ (s : Searched). s.tried) r), sym (refused-kept m));
  }
    where
      F : Faulted b standing depth (length out) v
      F = faulted b standing depth (length out)

      fine-is : Asked b standing depth (length out) → fine ≡ v
      fine-is A = all_right b standing depth (length out) A.runs.read A.few A.counting A.room A.runs.accepted

      by_run : (read_fault b standing).number ≡ 0 → (words : ℕ) → most_words ≤ words → ((run_answer b standing words).refusal ≡ 0 → ⊥)
          → (((ran_of b standing).refusal ≡ 0 → ⊥) → verdict (ran_of b standing).refusal (ran_of b standing).accepted ≡ v) → a ≡ refusal_at (run_answer b standing words).refusal (run_answer b standing words).place
      by_run z words many n f =
          let e = run-read b standing words many z in
          let m : (ran_of b standing).refusal ≡ 0 → ⊥ = λ y. n (ap (λ (r : Answer). r.refusal) e ∙ y) in
          by_verdict (verdict (ran_of b standing).refusal (ran_of b standing).accepted) (f m) m
          ∙ sym (λ i. refusal_at (ap (λ (r : Answer). r.refusal) e i) (answer-place (ran_of b standing) e n i))

  -- ---- without a refusal
  module _ (A : Asked b standing depth (length out)) where
    abbrev D : Design
    D = design_in b standing

    abbrev W : List ℕ
    W = (ran_of b standing).left

    abbrev all : Walked
    all = walk D never depth W 0

    -- in counting form
    level-one : level_of (form_of b) ≡ 1
    level-one = ap level_of A.counting ∙ level-same 1 (omega arith)

    long : length W ≡ size D.boards D.types (wide 1)
    long = subst (λ (k : ℕ). Sized k D W) level-one (ran-sized b standing A.runs.read)

    at_one : (ss : List Step) → ReachesFrom b standing ss → Reaches 1 D W ss
    at_one ss R = subst (λ (k : ℕ). Reaches k D W ss) level-one R

    from_one : (ss : List Step) → Reaches 1 D W ss → ReachesFrom b standing ss
    from_one ss R = subst⁻¹ (λ (k : ℕ). Reaches k D W ss) level-one R

    -- the end accepts
    ends_so : ReachesFrom b standing [] → accepts D W ≡ true
    unfolding run_by
    ends_so R = (at_one [] R).accepting

    so_ends : accepts D W ≡ true → ReachesFrom b standing []
    unfolding run_by
    so_ends q = from_one [] (record { runs = refl; accepting = q })

    quiet : accepts D W ≡ false → ReachesFrom b standing [] → ⊥
    quiet q R = true≢false (sym (ends_so R) ∙ q)

    nothing-long : (ss : List Step) → length ss ≤ depth → length (bytes_of ss ++ drop (length ss * step_bytes) out) ≡ length out
    nothing-long ss l = length-append (bytes_of ss) (drop (length ss * step_bytes) out) ∙ omega (arith, length-bytes ss, length-drop (length ss * step_bytes) out, A.room)

    -- what the forms have in common
    in_all : (j k : ℕ) → j ≤ 2 → k ≤ 2 → Unreached (translation_of b standing k) standing depth → Unreached (translation_of b standing j) standing depth
    in_all j k hj hk f ss l R = let T = in_each_form b standing A.runs j k hj hk ss R in f T.steps (omega (arith, T.long)) T.reaches

    itself : translation_of b standing 1 ≡ b
    itself = ap (translation_of b standing) (sym A.counting) ∙ own b standing A.runs

    own-there : (k : ℕ) → k ≤ 2 → Unreached b standing depth → Unreached (translation_of b standing k) standing depth
    own-there k h f = in_all k 1 h (omega arith) (subst⁻¹ (λ (c : List ℕ). Unreached c standing depth) itself f)

    own_back : (k : ℕ) → k ≤ 2 → Unreached (translation_of b standing k) standing depth → Unreached b standing depth
    own_back k h f = subst (λ (c : List ℕ). Unreached c standing depth) itself (in_all 1 k (omega arith) h f)

    -- what is said of a walk y that answers
    record Says (y : Walked) : Type 0 where
      outcomes : Outcome depth (outcome_of y)
      already : ReachesFrom b standing [] → (outcome_of y ≡ 0) × (tried_in y ≡ 0) × (left_in y out ≡ out)
      found : outcome_of y ≤ most_depth → FoundFrom b standing depth out (given y) (left_in y out)
      none : outcome_of y ≡ 16 → (tried_in all ≤ budget) × (Unreached b standing depth)
      none_only : tried_in all ≤ budget → Unreached b standing depth → outcome_of y ≡ 16
      spent : outcome_of y ≡ 17 → (ReachesFrom b standing [] → ⊥) × (budget < tried_in all) × (tried_in y ≡ budget)
      spent_only : (ReachesFrom b standing [] → ⊥) → budget < tried_in all → outcome_of y ≡ 17
      tried : (ReachesFrom b standing [] → ⊥) → (outcome_of y ≡ 17 → ⊥) → tried_in y ≡ tried_in all
      within : tried_in y ≤ budget
      kept : most_depth < outcome_of y → left_in y out ≡ out
      lent : length (left_in y out) ≡ length out

    at_once : accepts D W ≡ true → Says (found [] 0)
    unfolding bytes_of
    at_once q = record {
      outcomes = search.found {k = 0} (omega arith);
      already = λ _. (refl, refl, refl);
      found = λ _. record {
        steps = [];
        long = refl;
        few = omega arith;
        written = refl;
        reaches = so_ends q;
        no_shorter = λ i l. absurd (omega arith);
        no_waits = λ s i. absurd (nobody i);
        no_stops = tt;
        first = λ ss _ _ _ _ f. none_first f;
      };
      none = λ e. absurd (omega arith);
      none_only = λ _ f. absurd (f [] (omega arith) (so_ends q));
      spent = λ e. absurd (omega arith);
      spent_only = λ n. absurd (n (so_ends q));
      tried = λ n. absurd (n (so_ends q));
      within = omega arith;
      kept = λ l. absurd (omega arith);
      lent = refl;
    }

    by_steps : (ss : List Step) (n : ℕ) → accepts D W ≡ false → all ≡ found ss n → n ≤ budget → Says (found ss n)
    by_steps ss n q e l =
        let S : Finds D W ss depth = subst (Found D W depth) e (walk_found D depth W 0 q) in
        let P : First D depth W ss = subst (IsFirst D depth W) e (walk_first D depth W 0 long q) in
        let t : tried_in all ≡ n = ap tried_in e in
        let few : length ss ≤ most_depth = omega (arith, S.few, A.few) in
        record {
          outcomes = search.found S.few;
          already = λ R. absurd (quiet q R);
          found = λ _. record {
            steps = ss;
            long = refl;
            few = S.few;
            written = refl;
            reaches = from_one ss S.reaches;
            no_shorter = λ i h R. S.shorter i h (at_one (take i ss) R);
            no_waits = first_no_waits D P;
            no_stops = first_no_stops D (few_rules b standing A.runs.read) P;
            first = λ ts h w o R. none_before D depth W ss ts P S.reaches S.shorter h w o (at_one ts R);
          };
          none = λ y. absurd (omega arith);
          none_only = λ _ f. absurd (f ss S.few (from_one ss S.reaches));
          spent = λ y. absurd (omega arith);
          spent_only = λ _ h. absurd (omega arith);
          tried = λ _ _. sym t;
          within = l;
          kept = λ h. absurd (omega arith);
          lent = nothing-long ss S.few;
        }

    by_none_lem : (n : ℕ) → accepts D W ≡ false → all ≡ none n → n ≤ budget → Says (none n)
    by_none_lem n q e l =
        let t : tried_in all ≡ n = ap tried_in e in
        record {
          outcomes = search.none;
          already = λ R. absurd (quiet q R);
          found = λ h. absurd (omega arith);
          none = λ _. (omega arith, λ ss h R. none_reached D ss depth W 0 long q (subst⁻¹ IsNone e tt) h (at_one ss R));
          none_only = λ _ _. refl;
          spent = λ y. absurd (omega arith);
          spent_only = λ _ h. absurd (omega arith);
          tried = λ _ _. sym t;
          within = l;
          kept = λ _. refl;
          lent = refl;
        }

    by_budget : accepts D W ≡ false → budget < tried_in all → Says (spent budget)
    by_budget q l = record {
      outcomes = search.spent;
      already = λ R. absurd (quiet q R);
      found = λ h. absurd (omega arith);
      none = λ y. absurd (omega arith);
      none_only = λ h _. absurd (omega arith);
      spent = λ _. (quiet q, l, refl);
      spent_only = λ _ _. refl;
      tried = λ _ n. absurd (n refl);
      within = omega arith;
      kept = λ _. refl;
      lent = refl;
    }

    says : (y : Walked) → Ending D budget depth W y → Says y
    says y (already q) = at_once q
    says y (finds ss n q e l) = by_steps ss n q e l
    says y (misses n q e l) = by_none_lem n q e l
    says y (halts q l) = by_budget q l

    answers_given : Answers b standing depth budget out (given x) (left_in x out)
    unfolding searched_of
    answers_given =
        let S = says x (ending D budget depth W) in
        record {
          outcomes = S.outcomes;
          already = S.already;
          found = S.found;
          none = S.none;
          none_only = S.none_only;
          none_in = λ e k h. own-there k h (S.none e).1;
          none_in_only = λ l k h f. S.none_only l (own_back k h f);
          translated = λ k h n. translated b standing A.runs k (other-made b k (λ e. n (e ∙ A.counting)) h);
          own = itself;
          spent = S.spent;
          spent_only = S.spent_only;
          tried = S.tried;
          within = S.within;
          kept = S.kept;
          lent = S.lent;
        }

  answers : a.refusal ≡ 0 → Answers b standing depth budget out a u
  answers e =
      let z = sym number_is ∙ e in
      subst (λ (s : Searched). Answers b standing depth budget out s u) (given_as z)
      (subst (Answers b standing depth budget out (given x)) (given-bytes z) (answers_given (refusals.asked_only e)))

pub q9 : Q9
q9 = record { refusals = refusals; answers = answers; forms = in_each_form }
