-- Demand 3: the agreement of the forms, for the bytes that translation writes.
use mathlib.Core.Path.{◌≡◌, refl, sym, ap, ◌∙◌, subst, subst⁻¹}
use mathlib.Core.Bool.{Bool, true, false, not, true≢false}
use mathlib.Core.List.{List, ◌++◌}
use Prim.Native.Nat.{ℕ, zero, suc, ◌-◌, ◌*◌, ◌≤◌, ◌<◌}
use native.Mathlib.Decide.{ℕ_discrete, dec_lt}
use native.Mathlib.Omega.{arith}
use lib.Dec.{eqb}
use lib.ListN.{length, take, drop, take-append-drop}
use lib.Seq.{take_all}
use borrow.Author.Tests.{eq-eqb, ne_eqb, le-ltb}
use Rattle.fault.specs.Fault.{Verdict}
use Rattle.fault.specs.declared.Answer.{Answer}
use Rattle.fault.specs.Tests.{◌below◌, ◌differs◌}
use Rattle.fault.specs.Fault.{refused, nothing_done, ◌if◌else◌}
use Rattle.fault.proofs.FaultLaws.{if_yes, if_no, if_keeps}
use Rattle.fault.proofs.TestLaws.{same}
use Rattle.table.specs.Table.{types_of, rules_of}
use Rattle.bundle.specs.Bundle.{n_of, t_of, f_of, form_of, correct_of, table_in_use, level_of}
use Rattle.bundle.specs.Refusals.{read_fault}
use Rattle.bundle.specs.Facts.{Read}
use Rattle.bundle.proofs.BundleLaws.{read_by, read-within, level-same}
use Rattle.paper.specs.Paper.{Design, Step}
use Rattle.paper.specs.Words.{start, state}
use Rattle.paper.specs.Form.{wide}
use Rattle.paper.specs.Step.{column_of}
use Rattle.paper.specs.Run.{Ran, run, after}
use Rattle.agree.specs.Translation.{moved}
use Rattle.agree.specs.Picture.{Pictured}
use Rattle.agree.specs.Agreement.{InAllForms}
use Rattle.agree.proofs.Columns.{picture_laws}
use Rattle.agree.proofs.Runs.{all_forms}
use Rattle.rules.specs.Design.{design_of}
use Rattle.words.specs.declared.Sizes.{Sizes}
use Rattle.words.specs.Words.{from_correct, from_faulty, correct_in, faulty_in, sent_count_in, stopped_of}
use Rattle.engine.specs.Design.{sizes_in, design_in}
use Rattle.engine.specs.Entry.{schedule_of, ran_with, ran_of, ran_answer, run_answer, start_in}
use Rattle.engine.proofs.BoundLaws.{ran-within}
use Rattle.engine.proofs.RecastLaws.{Recast, same_n, same_t, same_f, new_form, same_table, same_start_bytes, new_steps, same_reading}
use Rattle.translate.specs.Written.{rewritten, begin_of, translation_with}
use Rattle.translate.specs.Entry.{translation_of, no_other, wrote, translate_to_answer, translate_to_bytes, usual, translate_answer}
use Rattle.translate.proofs.ReadLaws.{kept, begins}
use Rattle.translate.proofs.WriteLaws.{moved-long, rewritten-long}
use Rattle.translate.proofs.RewrittenLaws.{recast, rewritten-again, rewritten-own}
use Rattle.translate.proofs.EntryLaws.{other-known, other-made, done_refused, enter-refused, enter-same, enter-short, enter_long}
use Rattle.paper.specs.Order.{Found, none, found, first}
use Rattle.first_step.specs.Entry.{answer_of, after_run, first_answer}
use Rattle.claims.specs.FirstStep.{FirstAgreed}
use Rattle.claims.specs.Demand1.{Runs, after_in}
use Rattle.claims.specs.Demand3.{correct_after, faulty_after, sent_after, stopped_after, Alike, Translated, SideBySide, tagged_found, lowest_found, Neighbours, Refuses, Demand3}
use Rattle.claims.proofs.Demand1.{run_unread, run-read, runs_by, runs_all}
use Rattle.claims.proofs.FirstAgreed.{first_agreed}
use Rattle.claims.proofs.FirstCall.{few_rules}
use Rattle.words.specs.Facts.{most_words}

-- ---- neighbours are alike, and so are all forms
module _ (d : Design) where
  alike-pictured : (j : ℕ) (w v : List ℕ) → Pictured j d w v → Alike d (suc j) v j w
  alike-pictured j w v X =
      let L = picture_laws d.boards d.faulty j in
      record {
        states = X.states;
        counts = λ p m hp hm. ap (column_of (suc j) d).card (X.rcvds p m hp hm) ∙ L.card _;
        sents = λ m hm. ap (column_of (suc j) d).card (X.sents m hm) ∙ L.card _;
        stops = X.stops;
      }

  alike_through : {i j k : ℕ} {u w v : List ℕ} → Alike d i u j w → Alike d k v j w → Alike d i u k v
  alike_through A B = record {
    states = λ p h. A.states p h ∙ sym (B.states p h);
    counts = λ p m hp hm. A.counts p m hp hm ∙ sym (B.counts p m hp hm);
    sents = λ m hm. A.sents m hm ∙ sym (B.sents m hm);
    stops = A.stops ∙ sym B.stops;
  }

  alike_own : (j : ℕ) (w : List ℕ) → Alike d j w j w
  alike_own j w = record { states = λ p h. refl; counts = λ p m hp hm. refl; sents = λ m hm. refl; stops = refl }

  -- down to message form
  alike_sets : (W : ℕ → List ℕ) → ((j : ℕ) → Pictured j d (W j) (W (suc j))) → (k : ℕ) → Alike d k (W k) 0 (W 0)
  alike_sets W X zero = alike_own 0 (W 0)
  alike_sets W X (suc j) = alike_through (alike-pictured j (W j) (W (suc j)) (X j)) (alike_through (alike_own 0 (W 0)) (alike_sets W X j))

  -- the first steps of neighbours
  first_tagged : (j : ℕ) (w v : List ℕ) → FirstAgreed j d w v → first (suc j) d v ≡ tagged_found j d (first j d w)
  first_tagged j w v F = go (first j d w) refl
    where
      go : (x : Found) → first j d w ≡ x → first (suc j) d v ≡ tagged_found j d x
      go none e = F.none_there e
      go (found s) e = F.there s e

  first_lowest : (j : ℕ) (w v : List ℕ) → FirstAgreed j d w v → first j d w ≡ lowest_found j d w (first (suc j) d v)
  first_lowest j w v F = go (first (suc j) d v) refl
    where
      go : (x : Found) → first (suc j) d v ≡ x → first j d w ≡ lowest_found j d w x
      go none e = F.none_back e
      go (found s) e = F.back s e

-- ---- the usual form is another one
usual_other : (b : List ℕ) → no_other b (usual b) ≡ false
unfolding usual ◌if◌else◌
usual_other b = go (ℕ_discrete (form_of b) 1)
  where
    go : Dec (form_of b ≡ 1) → no_other b (usual b) ≡ false
    go (yes e) = rw (eq-eqb (form_of b) 1 e) (other-made b 0 (λ z. absurd (omega (arith, e, z))) (omega arith))
    go (no n) = rw (ne_eqb (form_of b) 1 n) (other-made b 1 (λ z. n (sym z)) (omega arith))

-- ---- equal states and counts of bundles x and y after every number of steps
record Equal (standing : List ℕ) (C T : ℕ) (x y : List ℕ) : Type 0 where
  states : (i p : ℕ) → p < C → state (after_in x standing i) p ≡ state (after_in y standing i) p
  corrects : (i p m : ℕ) → p < C → m < T → correct_after x standing i p m ≡ correct_after y standing i p m
  faulties : (i p m : ℕ) → p < C → m < T → faulty_after x standing i p m ≡ faulty_after y standing i p m
  sents : (i m : ℕ) → m < T → sent_after x standing i m ≡ sent_after y standing i m
  stops : (i : ℕ) → stopped_after x standing i ≡ stopped_after y standing i

equal_turned : {standing x y : List ℕ} {C T : ℕ} → Equal standing C T x y → Equal standing C T y x
equal_turned E = record {
  states = λ i p h. sym (E.states i p h);
  corrects = λ i p m hp hm. sym (E.corrects i p m hp hm);
  faulties = λ i p m hp hm. sym (E.faulties i p m hp hm);
  sents = λ i m h. sym (E.sents i m h);
  stops = λ i. sym (E.stops i);
}

-- ---- a bundle that runs
module _ (b standing : List ℕ) (S : Runs b standing) where
  abbrev t : List ℕ
  t = table_in_use b standing

  R : Read t b
  R = read_by b standing refl S.read refl

  abbrev pub d : Design
  d = design_in b standing

  abbrev begin : ℕ → List ℕ
  begin i = begin_of (sizes_in b standing) b i

  abbrev ss : List Step
  ss = schedule_of b

  -- its level, its steps at level i, and the bundle in form k
  abbrev level : ℕ
  level = level_of (form_of b)

  abbrev new : ℕ → List Step
  new i = moved level i d begin ss

  abbrev pub form : ℕ → List ℕ
  form k = rewritten b (new (level_of k)) k

  pub all : InAllForms d begin level ss
  unfolding ran_with
  all = all_forms d (kept t b R) begin (begins t b R) level ss S.accepted

  pub own : translation_of b standing (form_of b) ≡ b
  unfolding translation_with
  own = ap (λ (x : List Step). rewritten b x (form_of b)) all.own ∙ rewritten-own t b R

  -- the design depends on n, t, f and the table only
  abbrev design : ℕ → ℕ → ℕ → List ℕ → Design
  design n t f table = design_of (record { level = 0; correct = n - f; faulty = f; types = types_of table; rules = rules_of table; wide = 1; row = types_of table; tolerated = t }) t table

  module _ (k : ℕ) where
    abbrev c : List ℕ
    c = form k

    abbrev l : ℕ
    l = level_of k

    many : length (new l) ≡ length ss
    many = moved-long level l d begin ss

    recast_c : Recast b (new l) k c
    recast_c = recast t b R (new l) k many

    pub same-design : design_in c standing ≡ d
    same-design = λ i. design (same_n t b R recast_c i) (same_t t b R recast_c i) (same_f t b R recast_c i) (same_table t b R recast_c standing i)

    abbrev form_c : form_of c ≡ k
    form_c = new_form t b R recast_c

    abbrev level_c : level_of (form_of c) ≡ l
    level_c = ap level_of form_c

    -- where the translation begins, and its words after i steps
    begins_c : (i : ℕ) → begin_of (sizes_in c standing) c i ≡ begin i
    begins_c i = λ x. start (types_of (same_table t b R recast_c standing x)) (wide i) (same_start_bytes t b R recast_c x)

    begin_c : start_in (sizes_in c standing) c ≡ begin l
    begin_c = λ i. start (types_of (same_table t b R recast_c standing i)) (wide (level_c i)) (same_start_bytes t b R recast_c i)

    -- whatever is told of level, design, first words and steps
    pub told_c : {A : Type 0} (g : ℕ → Design → List ℕ → List Step → A) → g (level_of (form_of c)) (design_in c standing) (start_in (sizes_in c standing) c) (schedule_of c) ≡ g l d (begin l) (new l)
    told_c g = λ i. g (level_c i) (same-design i) (begin_c i) (new_steps t b R recast_c i)

    ran_c : ran_of c standing ≡ run l d (begin l) (new l)
    unfolding ran_with
    ran_c = told_c run

    after_c : (n : ℕ) → after_in c standing n ≡ after l d (begin l) (new l) n
    after_c n = told_c (λ i e w x. after i e w x n)

    -- the words that are left are those after all steps
    left_c : (ran_of c standing).left ≡ after l d (begin l) (new l) (length ss)
    left_c = ap (λ (r : Ran). r.left) ran_c ∙ sym (ap (λ (x : List Step). (run l d (begin l) x).left) (take_all (length ss) (new l) (omega (arith, many))))

    pub runs_c : k ≤ 2 → Runs c standing
    runs_c h = record {
      read = ap (λ (v : Verdict). v.number) (same_reading t b R recast_c standing h refl) ∙ S.read;
      accepted = ap (λ (r : Ran). r.refusal) ran_c ∙ all.runs l;
    }

    alike_c : (n : ℕ) → Alike d level (after_in b standing n) l (after_in c standing n)
    alike_c n =
        let W : ℕ → List ℕ = λ i. after i d (begin i) (new i) n in
        let e : W level ≡ after_in b standing n = ap (λ (x : List Step). after level d (begin level) x n) all.own in
        let A = alike_sets d W (λ i. all.pictured i n) in
        subst⁻¹ (Alike d level (after_in b standing n) l) (after_c n)
        (subst (λ (w : List ℕ). Alike d level w l (W l)) e (alike_through d (A level) (A l)))

    -- ---- the answer and the bytes
    clean : ((read_fault b standing).number differs 0) ≡ false
    clean = ap not (eq-eqb _ 0 S.read)

    module _ (o : no_other b k ≡ false) where
      answered_c : (lent : ℕ) → length b ≤ lent → translate_to_answer b standing k lent ≡ record { refusal = 0; place = 0; count = length b }
      unfolding translate_to_answer wrote
      answered_c lent h = sym (if_no _ refl clean (if_no _ refl o (if_no _ refl (le-ltb lent (length b) h) (if_yes _ refl refl (eq-eqb _ 0 S.accepted)))))

      written_c : (out : List ℕ) → length b ≤ length out → translate_to_bytes b standing k out ≡ c ++ drop (length b) out
      unfolding translate_to_bytes translation_with
      written_c out h = sym (if_no _ refl clean (if_no _ refl o (if_no _ refl (le-ltb (length out) (length b) h) (if_no _ refl (ap not (eq-eqb _ 0 S.accepted)) refl))))

    -- ---- to a finer form and back
    back_c : k < form_of b → translation_of c standing (form_of b) ≡ b
    unfolding translation_with
    back_c h =
        let f = R.admitted.form in
        let o : l ≤ level = omega (arith, level-same k (omega arith), level-same (form_of b) f) in
        let p : translation_of c standing (form_of b) ≡ rewritten c (moved l level d begin (new l)) (form_of b) =
        λ i. rewritten c (moved (level_c i) level (same-design i) (λ x. begins_c x i) (new_steps t b R recast_c i)) (form_of b) in
        p ∙ ap (λ (x : List Step). rewritten c x (form_of b)) (all.back l o) ∙ rewritten-again t b R (new l) k many ss (form_of b) refl ∙ rewritten-own t b R

    pub translated : no_other b k ≡ false → Translated b standing k (translation_of b standing k)
    unfolding translation_with
    translated o = record {
      answered = answered_c o;
      written = written_c o;
      long = rewritten-long b R.parted R.trailed (new l) k many;
      table = same_table t b R recast_c standing;
      starts = same_start_bytes t b R recast_c;
      n = same_n t b R recast_c;
      t = same_t t b R recast_c;
      f = same_f t b R recast_c;
      form = form_c;
      runs = runs_c (other-known b k o);
      alike = alike_c;
      back = back_c;
    }

  -- ---- neighbours
  first_in_lem : (k : ℕ) → k ≤ 2 → first_answer (form k) standing ≡ answer_of (first (level_of k) d (ran_of (form k) standing).left)
  unfolding first_answer after_run
  first_in_lem k l =
      let C = runs_c k l in
      sym (if_no _ refl (ap not (eq-eqb _ 0 C.read)) (if_no _ refl (ap not (eq-eqb _ 0 C.accepted)) refl))
      ∙ (λ i. answer_of (first (level_c k i) (same-design k i) (ran_of (form k) standing).left))

  -- of forms 0 to 2 the level is the form's own number
  pub level-at : (k : ℕ) → k ≤ 2 → level_of (form_of (form k)) ≡ k
  level-at k h = level_c k ∙ level-same k h

  after-at : (k : ℕ) → k ≤ 2 → (n : ℕ) → after_in (form k) standing n ≡ after k d (begin k) (new k) n
  after-at k h n = after_c k n ∙ ap (λ (i : ℕ). after i d (begin i) (new i) n) (level-same k h)

  left_at : (k : ℕ) → k ≤ 2 → (ran_of (form k) standing).left ≡ after k d (begin k) (new k) (length ss)
  left_at k h = left_c k ∙ ap (λ (i : ℕ). after i d (begin i) (new i) (length ss)) (level-same k h)

  first-at : (k : ℕ) → k ≤ 2 → first_answer (form k) standing ≡ answer_of (first k d (ran_of (form k) standing).left)
  first-at k h = first_in_lem k h ∙ ap (λ (i : ℕ). answer_of (first i d (ran_of (form k) standing).left)) (level-same k h)

  module _ (j : ℕ) (l : j ≤ 1) where
    pictured_in : (n : ℕ) → Pictured j d (after_in (form j) standing n) (after_in (form (suc j)) standing n)
    pictured_in n =
        subst⁻¹ (λ (w : List ℕ). Pictured j d w (after_in (form (suc j)) standing n)) (after-at j (omega arith) n)
        (subst⁻¹ (Pictured j d (after j d (begin j) (new j) n)) (after-at (suc j) (omega arith) n) (all.pictured j n))

    pub left-pictured : Pictured j d (ran_of (form j) standing).left (ran_of (form (suc j)) standing).left
    left-pictured =
        subst⁻¹ (λ (w : List ℕ). Pictured j d w (ran_of (form (suc j)) standing).left) (left_at j (omega arith))
        (subst⁻¹ (Pictured j d (after j d (begin j) (new j) (length ss))) (left_at (suc j) (omega arith)) (all.pictured j (length ss)))

    firsts : FirstAgreed j d (ran_of (form j) standing).left (ran_of (form (suc j)) standing).left
    firsts = first_agreed j d (kept t b R) (few_rules b standing S.read) _ _ left-pictured

    neighbours : Neighbours j d standing (translation_of b standing j) (translation_of b standing (suc j))
    unfolding translation_with
    neighbours = record {
      pictured = pictured_in;
      first_there = first-at (suc j) (omega arith) ∙ ap answer_of (first_tagged d j _ _ firsts);
      first_back = first-at j (omega arith) ∙ ap answer_of (first_lowest d j _ _ firsts);
    }

  -- ---- side by side, in message and counting form
  -- the numbers of the bundle in form k
  abbrev numbers : ℕ → ℕ → ℕ → ℕ → List ℕ → Sizes
  numbers l n m f table = record { level = l; correct = n - f; faulty = f; types = types_of table; rules = rules_of table; wide = wide l; row = types_of table * wide l; tolerated = m }

  abbrev sizes : ℕ → Sizes
  sizes k = numbers k (n_of b) (t_of b) (f_of b) t

  sizes-at : (k : ℕ) → k ≤ 2 → sizes_in (form k) standing ≡ sizes k
  sizes-at k h = λ i. numbers (level-at k h i) (same_n t b R (recast_c k) i) (same_t t b R (recast_c k) i) (same_f t b R (recast_c k) i) (same_table t b R (recast_c k) standing i)

  abbrev Two : Type 0
  Two = (column_of 1 d).Coll

  abbrev W : ℕ → ℕ → List ℕ
  W k i = after_in (form k) standing i

  -- by the picture the two counts are those of the set
  both : Equal standing (correct_of b) (types_of t) (form 0) (form 1)
  unfolding from_correct from_faulty
  both =
      let P : (i : ℕ) → Pictured 0 d (W 0 i) (W 1 i) = pictured_in 0 (omega arith) in
      let S₀ = sizes-at 0 (omega arith) in
      let S₁ = sizes-at 1 (omega arith) in
      record {
        states = λ i p h. sym ((P i).states p h);
        corrects = λ i p m hp hm. ap (λ (s : Sizes). correct_in s (W 0 i) p m) (S₀) ∙ sym (ap (λ (c : Two). c.correct) ((P i).rcvds p m hp hm)) ∙ sym (ap (λ (s : Sizes). correct_in s (W 1 i) p m) S₁);
        faulties = λ i p m hp hm. ap (λ (s : Sizes). faulty_in s (W 0 i) p m) (S₀) ∙ sym (ap (λ (c : Two). c.faulty) ((P i).rcvds p m hp hm)) ∙ sym (ap (λ (s : Sizes). faulty_in s (W 1 i) p m) S₁);
        sents = λ i m h. ap (λ (s : Sizes). sent_count_in s (W 0 i) m) (S₀) ∙ sym (ap (λ (c : Two). c.correct) ((P i).sents m h)) ∙ sym (ap (λ (s : Sizes). sent_count_in s (W 1 i) m) S₁);
        stops = λ i. ap (λ (s : Sizes). stopped_of s (W 0 i)) S₀ ∙ sym (P i).stops ∙ sym (ap (λ (s : Sizes). stopped_of s (W 1 i)) S₁);
      }

  side : form_of b ≤ 1 → SideBySide b standing (translation_of b standing (usual b))
  unfolding translation_with usual ◌if◌else◌
  side h = go (ℕ_discrete (form_of b) 1)
    where
      made : (k : ℕ) → usual b ≡ k → Equal standing (correct_of b) (types_of t) b (translation_of b standing k) → SideBySide b standing (translation_of b standing (usual b))
      made k e E =
          let T = translated (usual b) (usual_other b) in
          let F = subst⁻¹ (λ (x : ℕ). Equal standing (correct_of b) (types_of t) b (translation_of b standing x)) e E in
          record { answered = T.answered; written = T.written; runs = T.runs; states = F.states; corrects = F.corrects; faulties = F.faulties; sents = F.sents; stops = F.stops }

      -- the bundle in its own form
      itself : (k : ℕ) → form_of b ≡ k → translation_of b standing k ≡ b
      itself k e = ap (translation_of b standing) (sym e) ∙ own

      go : Dec (form_of b ≡ 1) → SideBySide b standing (translation_of b standing (usual b))
      go (yes e) = made 0 (rw (eq-eqb (form_of b) 1 e) refl) (subst (λ (x : List ℕ). Equal standing (correct_of b) (types_of t) x (translation_of b standing 0)) (itself 1 e) (equal_turned both))
      go (no n) = made 1 (rw (ne_eqb (form_of b) 1 n) refl) (subst (λ (x : List ℕ). Equal standing (correct_of b) (types_of t) x (translation_of b standing 1)) (itself 0 (omega arith)) both)

-- ---- refusals
-- what translation answers and leaves where it refuses: at reading, for want of another form, for want of room, at a step
module _ (b standing : List ℕ) (k : ℕ) (out : List ℕ) where
  abbrev Refused : Answer → Type 0
  Refused a = Refuses b standing k out a

  unread : ((read_fault b standing).number ≡ 0 → ⊥) → Refused (nothing_done (read_fault b standing))
  unread n = let E = enter-refused b standing k out n refl in record { answer = sym E.answer; bytes = sym E.bytes }

  no_other_form : (read_fault b standing).number ≡ 0 → no_other b k ≡ true → Refused (nothing_done (refused 31))
  no_other_form z o = let E = enter-same b standing k out z o refl in record { answer = sym E.answer; bytes = sym E.bytes }

  short : (read_fault b standing).number ≡ 0 → no_other b k ≡ false → length out < length b → Refused (nothing_done (refused 30))
  short z o l = let E = enter-short b standing k out z o l refl in record { answer = sym E.answer; bytes = sym E.bytes }

  stopped : (read_fault b standing).number ≡ 0 → no_other b k ≡ false → length b ≤ length out → ((ran_of b standing).refusal ≡ 0 → ⊥) → Refused (ran_answer (ran_of b standing))
  unfolding ran_answer ran_with
  stopped z o l n =
      let D = done_refused (sizes_in b standing) b (design_in b standing) k (take (length b) out) refl n in
      let E = enter_long b standing k out z o (take (length b) out) l D.answer (if_no _ refl (ne_eqb _ 0 n) refl) (take-append-drop (length b) out) in
      record { answer = sym E.answer; bytes = sym E.bytes ∙ take-append-drop (length b) out }

  refuses : (lent : ℕ) → most_words ≤ lent → length b ≤ length out → no_other b k ≡ false → ((run_answer b standing lent).refusal ≡ 0 → ⊥) → Refused (run_answer b standing lent)
  unfolding ran_answer
  refuses lent l m o r = go (ℕ_discrete (read_fault b standing).number 0)
    where
      go : Dec ((read_fault b standing).number ≡ 0) → Refused (run_answer b standing lent)
      go (no n) = subst⁻¹ Refused (run_unread b standing lent l n) (unread n)
      go (yes z) = let e = run-read b standing lent l z in subst⁻¹ Refused e (stopped z o m (λ y. r (ap (λ (a : Answer). a.refusal) e ∙ y)))

  nothing : {a : Answer} → Refused a → (translate_to_bytes b standing k out ≡ out) × ((translate_to_answer b standing k (length out)).count ≡ 0)
  nothing F = (F.bytes, ap (λ (x : Answer). x.count) F.answer)

  untouched : ((translate_to_answer b standing k (length out)).refusal ≡ 0 → ⊥) → (translate_to_bytes b standing k out ≡ out) × ((translate_to_answer b standing k (length out)).count ≡ 0)
  untouched r = go (ℕ_discrete (read_fault b standing).number 0) (no_other b k) refl (dec_lt (length out) (length b)) (ℕ_discrete (ran_of b standing).refusal 0)
    where
      go : Dec ((read_fault b standing).number ≡ 0) → (o : Bool) → no_other b k ≡ o → Dec (length out < length b) → Dec ((ran_of b standing).refusal ≡ 0)
          → (translate_to_bytes b standing k out ≡ out) × ((translate_to_answer b standing k (length out)).count ≡ 0)
      go (no n) o e x y = nothing (unread n)
      go (yes z) true e x y = nothing (no_other_form z e)
      go (yes z) false e (yes l) y = nothing (short z e l)
      go (yes z) false e (no l) (no n) = nothing (stopped z e (omega arith) n)
      go (yes z) false e (no l) (yes y) = absurd (r (ap (λ (a : Answer). a.refusal) ((translated b standing (record { read = z; accepted = y }) k e).answered (length out) (omega arith))))

-- a refusal other than 31
abbrev Other : Answer → Type 0
Other a = a.refusal ≡ 31 → ⊥

never_31 : (b standing : List ℕ) (lent : ℕ) → (translate_answer b standing lent).refusal ≡ 31 → ⊥
unfolding translate_to_answer wrote
never_31 b standing lent =
    if_keeps Other _ ((read_fault b standing).number differs 0) _ (λ _ e. absurd (omega (arith, e, (read-within (table_in_use b standing) b).number)))
    (λ f. if_keeps Other _ (no_other b (usual b)) _ (λ o e. true≢false (sym o ∙ usual_other b))
    (λ _. if_keeps Other _ (lent below length b) _ (λ _ e. absurd (omega arith))
    (λ _. if_keeps Other _ (eqb (ran_of b standing).refusal 0) _ (λ _ e. absurd (omega arith))
    (λ _ e. absurd (omega (arith, e, (ran-within (table_in_use b standing) b (read_by b standing refl (same _ 0 f) refl)).refusal))))))

pub demand3 : Demand3
demand3 = record {
  translated = λ b standing k S o. translated b standing S k o;
  side_by_side = side;
  own = own;
  neighbours = λ b standing j S l. neighbours b standing S j l;
  runs = runs_by;
  runs_all = runs_all;
  refused = refuses;
  no_other_form = no_other_form;
  untouched = untouched;
  usual_other = usual_other;
  never_31 = never_31;
}
