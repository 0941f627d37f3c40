-- No echo from nothing. One invariant, kept by every move of every form: all boards in V0, nothing sent, and what `Sound` says of it.
-- So a board counts at most f messages, and f ≤ t is less than rules 1 and 2 ask for: t + 1, and n - t. The argument is made once, of the
-- design that the echo table comes to; every table that says the same comes to that design, by a path.
use mathlib.Core.Path.{◌≡◌, refl, sym, ap, ◌∙◌, subst, subst⁻¹}
use mathlib.Core.Bool.{Bool, true, false, true≢false, not}
use mathlib.Core.List.{List, ◌++◌}
use Prim.Native.Nat.{ℕ, zero, suc, ◌+◌, ◌*◌, ◌-◌, ◌≤◌, ◌<◌}
use native.Mathlib.Omega.{arith}
use native.Mathlib.Decide.{ℕ_discrete, dec_lt}
use lib.Dec.{ltb, leb}
use lib.IntN.{pos, neg_ℤ, sub_ℕ, ◌+ℤ◌, +ℤ_idr}
use lib.Signed.{le_z}
use lib.ListN.{length, get_or, take, drop, replicate, length-replicate, get_or-replicate, get_or-append}
use borrow.Author.Tests.{leb-true, ltb-true, ne_eqb, eq-eqb}
use Rattle.senders.specs.Set.{mem}
use Rattle.senders.proofs.TallyLaws.{count_none, count-at_most}
use Rattle.senders.proofs.SetLaws.{set_laws, count_laws}
use Rattle.threshold.specs.Threshold.{signed_byte, sum_of}
use Rattle.fault.specs.Fault.{◌if◌else◌}
use Rattle.layout.specs.Layout.{second, types_in, type_bytes, weight_bytes, divisor_at, weights_at, weights_of}
use Rattle.table.specs.Table.{rules_of, types_byte, types_of, rule_at, rule_of, weights_for}
use Rattle.table.specs.Facts.{Sized}
use Rattle.paper.specs.Paper.{Design, Conf, Step, Moves, Steps, by_rule, by_stop, column, newly, stop_rule, is_stop}
use Rattle.paper.specs.Words.{size, cell_at, sent_at, state, cell, sent, start}
use Rattle.paper.specs.Form.{wide, shown}
use Rattle.paper.specs.Step.{column_of, rcvd_in, view, step_fault, stepped}
use Rattle.paper.proofs.MachineLaws.{run-keeps}
use Rattle.paper.specs.Run.{machine_of, run}
use Rattle.paper.proofs.WordLaws.{cell_below, start-low, length-start, sent-start}
use Rattle.paper.proofs.FormLaws.{coll-same, shown-init, shown_inj}
use Rattle.paper.proofs.StepLaws.{step-related, length-stepped}
use Rattle.agree.specs.Picture.{Remembers, Within, Sound}
use Rattle.agree.proofs.Sound.{heard-within, still-sound, sound-same}
use Rattle.agree.proofs.Runs.{sound-start}
use Rattle.fault.proofs.FaultLaws.{if_passed, if_yes, if_no}
use Rattle.bundle.specs.Bundle.{t_of, f_of, form_of, correct_of, table_in_use, starts_of, level_of}
use Rattle.bundle.specs.Refusals.{read_fault}
use Rattle.bundle.specs.Facts.{Read}
use Rattle.bundle.proofs.BundleLaws.{use_standing, use_front, read_by, read-within}
use Rattle.engine.specs.Design.{design_in, design_with, sizes_in}
use Rattle.rules.specs.Design.{met_at, design_of}
use Rattle.words.specs.declared.Sizes.{Sizes}
use Rattle.words.specs.Words.{room_of}
use Rattle.engine.specs.Entry.{schedule_of, ran_with, run_answer, run_words}
use Rattle.fault.specs.declared.Answer.{Answer}
use Rattle.engine.proofs.EntryLaws.{enter-refused, enter-short, enter_run}
use Rattle.first_step.specs.declared.First.{First}
use Rattle.paper.specs.Order.{Found, none, found, first}
use Rattle.first_step.specs.Entry.{answer_of, after_run, first_answer}
use Rattle.same.specs.Same.{SameTable}
use Rattle.same.proofs.Tables.{design-same}
use Rattle.claims.specs.NoEcho.{echo_table, echo_second, Quiet, Admits, design_for, from_v0, Never, Uses, front, beside, InV0, Configures, whole, stopped, NoEcho, Q5}
use Rattle.claims.proofs.Thresholds.{met_by_sum}
use Rattle.claims.proofs.FirstStep.{first_possible}
use Rattle.claims.specs.FirstStep.{FirstPossible}
use Rattle.claims.proofs.OneEcho.{one-enough}
use Rattle.claims.proofs.MovedTables.{moved_same}

-- ---- what rules 1 and 2 ask for, from the table's bytes
by_sum : (r n t c : ℕ) → 1 ≤ (weights_for echo_table r 0).e → met_at echo_table r 0 n t c ≡ true → le_z (sum_of (weights_for echo_table r 0) n t) (pos (c * (weights_for echo_table r 0).e)) ≡ true
by_sum r n t c e h = sym (met_by_sum echo_table r 0 n t c e) ∙ h

one-asks : (n t c : ℕ) → met_at echo_table 1 0 n t c ≡ true → t < c
unfolding sum_of signed_byte rule_at rule_of types_in type_bytes weight_bytes divisor_at weights_at weights_of ◌if◌else◌
one-asks n t c h = omega (arith, leb-true (0 * n + 1 * t + 1) (c * 1) (by_sum 1 n t c (omega arith) h))

sub-met : (n t c : ℕ) → le_z (sub_ℕ n t) (pos c) ≡ true → n ≤ c + t
sub-met n t c h = go (ltb n t) refl h
  where
    go : (b : Bool) → ltb n t ≡ b → le_z (sub_ℕ n t) (pos c) ≡ true → n ≤ c + t
    go true e h = omega (arith, ltb-true n t e)
    go false e h = let l : leb (n - t) c ≡ true = rw e at h in omega (arith, leb-true (n - t) c l)

minus-met : (a b c : ℕ) → le_z (pos a +ℤ neg_ℤ (pos b) +ℤ pos 0) (pos c) ≡ true → a ≤ c + b
minus-met a zero c h = omega (arith, leb-true _ c h)
minus-met a (suc b) c h = sub-met a (suc b) c (rw +ℤ_idr at h)

two-asks : (n t c : ℕ) → met_at echo_table 2 0 n t c ≡ true → n ≤ c + t
unfolding sum_of signed_byte rule_at rule_of types_in type_bytes weight_bytes divisor_at weights_at weights_of ◌if◌else◌
two-asks n t c h = omega (arith, minus-met (1 * n) (1 * t) (c * 1) (by_sum 2 n t c (omega arith) h))

-- ---- where nothing was sent, a board has heard from faulty ones only
few-heard : (k C f : ℕ) (M : (column k C f).Coll) → Within k C f M (column k C f).init → (column k C f).card M ≤ f
few-heard zero C f M h = omega (arith, (count_laws C f).add_up M, count_none C (mem M) (λ q l. none q (h.0 q l)), count-at_most f (λ i. mem M (C + i)))
  where
    none : (q : ℕ) → (mem M q ≡ true → mem 0 q ≡ true) → mem M q ≡ false
    none q i = go (mem M q) refl
      where
        go : (b : Bool) → mem M q ≡ b → mem M q ≡ false
        go false e = e
        go true e = absurd (true≢false (sym (i e) ∙ set_laws.empty q))
few-heard (suc zero) C f c h = omega (arith, h.0, h.1)
few-heard (suc (suc k)) C f c h = omega (arith, h)

-- ---- what a run leaves, said of its design and its words alone
record Settled (k : ℕ) (d : Design) (w : List ℕ) : Type 0 where
  long : length w ≡ size d.boards d.types (wide k)
  quiet : Quiet k d w
  waits : (s : Step) → step_fault k d w s ≡ 0 → is_stop s ≡ false → s.rule ≡ 0

-- ---- the echo table forgets nothing
module _ (k C f t : ℕ) where
  abbrev d : Design
  d = design_for echo_table k C f t

  from-V0 : (ℓ m : ℕ) → mem 0 m ≡ true → d.has_sent ℓ m ≡ true
  from-V0 ℓ m h = absurd (true≢false (sym h ∙ set_laws.empty m))

  keeps : (r m : ℕ) → r < 7 → d.has_sent (d.from r) m ≡ true → d.has_sent (d.to r) m ≡ true
  unfolding rule_at types_in type_bytes weight_bytes ◌if◌else◌
  keeps zero m l h = h
  keeps (suc zero) m l h = from-V0 2 m h
  keeps (suc (suc zero)) m l h = from-V0 3 m h
  keeps (suc (suc (suc zero))) m l h = from-V0 2 m h
  keeps (suc (suc (suc (suc zero)))) m l h = h
  keeps (suc (suc (suc (suc (suc zero))))) m l h = h
  keeps (suc (suc (suc (suc (suc (suc zero)))))) m l h = h
  keeps (suc (suc (suc (suc (suc (suc (suc r))))))) m l h = absurd (omega arith)

  kept : Remembers d
  unfolding types_in ◌if◌else◌
  kept = record { few = omega arith; keeps = λ r m l _. keeps r m l }

  -- ---- the invariant, of a configuration
  record Still (σ : Conf (column k C f).Coll) : Type 0 where
    states : (p : ℕ) → p < C → σ.pc p ≡ 0
    sents : (m : ℕ) → m < d.types → σ.sent m ≡ (column k C f).init
    sound : Sound k d σ

  -- of words
  record Stays (w : List ℕ) : Type 0 where
    long : length w ≡ size C d.types (wide k)
    shows : Still (view k d w)

  -- ---- at the start, and what it comes to
  start_stays : (starts : List ℕ) → length starts ≡ C → ((p : ℕ) → p < C → get_or starts p 0 ≡ 0) → Stays (start d.types (wide k) starts)
  unfolding state
  start_stays starts l z = record {
    long = length-start C d.types (wide k) starts l;
    shows = record {
      states = λ p h. start-low C d.types (wide k) starts l p h ∙ z p h;
      sents = λ m h. shown-init k C f _ (sent-start C d.types (wide k) starts l m);
      sound = sound-start d starts l (λ p m hp hm. ap (λ (ℓ : ℕ). d.has_sent ℓ m) (z p hp) ∙ set_laws.empty m) k;
    };
  }

  quiet : (w : List ℕ) → Stays w → Quiet k d w
  quiet w S =
      let X = S.shows in
      record {
        states = X.states;
        sents = X.sents;
        sent_words = λ m h. shown_inj k C f 0 _ (X.sents m h ∙ sym (shown-init k C f 0 refl));
        counts = λ p m hp hm. few-heard k C f _ (subst (Within k C f (rcvd_in k d w p m)) (X.sents m hm) (X.sound.within p m hp hm));
      }

  -- ---- admitted n, t, f
  module _ (A : Admits echo_table C f t) where
    -- of the rules that leave V0 only rule 0 can be met by f echoes
    rule_zero : (r c : ℕ) → r < 7 → 0 ≡ d.from r → d.met r 0 c ≡ true → c ≤ f → r ≡ 0
    unfolding rule_at types_in type_bytes weight_bytes ◌if◌else◌
    rule_zero zero c l e h b = refl
    rule_zero (suc zero) c l e h b = absurd (omega (arith, one-asks (C + f) t c h, A.faulty))
    rule_zero (suc (suc zero)) c l e h b = absurd (omega (arith, two-asks (C + f) t c h, A.faulty, A.enough))
    rule_zero (suc (suc (suc zero))) c l e h b = absurd (omega (arith, e))
    rule_zero (suc (suc (suc (suc zero)))) c l e h b = absurd (omega (arith, e))
    rule_zero (suc (suc (suc (suc (suc zero))))) c l e h b = absurd (omega (arith, e))
    rule_zero (suc (suc (suc (suc (suc (suc zero)))))) c l e h b = absurd (omega (arith, e))
    rule_zero (suc (suc (suc (suc (suc (suc (suc r))))))) c l e h b = absurd (omega arith)

    -- ---- a move
    module _ (s : Step) (σ σ' : Conf (column k C f).Coll) (S : Still σ) (a : Moves d (column_of k d) s σ σ') where
      few : (column k C f).card (σ'.rcvd s.board 0) ≤ f
      unfolding types_in ◌if◌else◌
      few =
          few-heard k C f (σ'.rcvd s.board 0)
          (subst (Within k C f (σ'.rcvd s.board 0)) (S.sents 0 (omega arith)) (heard-within k d kept s σ σ' a S.sound s.board 0 a.board (omega arith)))

      by_zero : s.rule ≡ 0
      unfolding types_in ◌if◌else◌
      by_zero = rule_zero s.rule _ a.local.rule (sym (S.states s.board a.board) ∙ a.local.leaves) (a.local.met 0 (omega arith)) few

      to_V0 : σ'.pc s.board ≡ 0
      unfolding rule_at types_in type_bytes weight_bytes ◌if◌else◌
      to_V0 = a.local.enters ∙ ap d.to by_zero

      still_states : (p : ℕ) → p < C → σ'.pc p ≡ 0
      still_states p h = go (ℕ_discrete p s.board)
        where
          go : Dec (p ≡ s.board) → σ'.pc p ≡ 0
          go (yes e) = ap σ'.pc e ∙ to_V0
          go (no o) = a.others_pc p h o ∙ S.states p h

      nothing_new : (m : ℕ) → newly d (σ.pc s.board) (σ'.pc s.board) m ≡ false
      nothing_new m = rw (to_V0, set_laws.empty m)

      still : Still σ'
      still = record {
        states = still_states;
        sents = λ m h. a.keeps m h (nothing_new m) ∙ S.sents m h;
        sound = still-sound k d kept s σ σ' a S.sound;
      }

    -- ---- a step, and a run
    step_rule : (w : List ℕ) (s : Step) → Stays w → step_fault k d w s ≡ 0 → is_stop s ≡ false → s.rule ≡ 0
    step_rule w s S z o = go (step-related k d w s S.long z)
      where
        go : Steps d (column_of k d) s (view k d w) (view k d (stepped k d w s)) → s.rule ≡ 0
        go (by_rule _ m) = by_zero s (view k d w) (view k d (stepped k d w s)) S.shows m
        go (by_stop m) = absurd (true≢false (sym (eq-eqb s.rule stop_rule m.rule) ∙ o))

    step_stays : (w : List ℕ) (s : Step) → Stays w → step_fault k d w s ≡ 0 → Stays (stepped k d w s)
    step_stays w s S z = record { long = length-stepped k d w s ∙ S.long; shows = go (step-related k d w s S.long z) }
      where
        σ : Conf (column_of k d).Coll
        σ = view k d w

        σ' : Conf (column_of k d).Coll
        σ' = view k d (stepped k d w s)

        -- a stop changes nothing that is asked
        go : Steps d (column_of k d) s σ σ' → Still σ'
        go (by_rule _ m) = still s σ σ' S.shows m
        go (by_stop m) = record {
          states = λ p h. m.pc p h ∙ S.shows.states p h;
          sents = λ j h. m.sent j h ∙ S.shows.sents j h;
          sound = sound-same k d σ σ' m.pc m.rcvd m.sent S.shows.sound;
        }

    run_stays : (ss : List Step) (w : List ℕ) → Stays w → Stays (run k d w ss).left
    run_stays ss w = run-keeps (machine_of k d) Stays step_stays w ss

    -- ---- from starts in V0
    leaves : (starts : List ℕ) → length starts ≡ C → ((p : ℕ) → p < C → get_or starts p 0 ≡ 0) → (ss : List Step) → Settled k d (run k d (start d.types (wide k) starts) ss).left
    leaves starts l z ss =
        let S = run_stays ss (start d.types (wide k) starts) (start_stays starts l z) in
        record { long = S.long; quiet = quiet _ S; waits = λ s. step_rule _ s S }

-- ---- of every table that says the same
module _ (table : List ℕ) (E : SameTable echo_table table) (k C f t : ℕ) where
  abbrev numbers : ℕ → ℕ → Sizes
  numbers T R = record { level = k; correct = C; faulty = f; types = T; rules = R; wide = wide k; row = T * wide k; tolerated = t }

  one-design : design_for echo_table k C f t ≡ design_for table k C f t
  one-design = design-same echo_table table E (numbers (types_of echo_table) (rules_of echo_table)) t refl refl ∙ (λ i. design_of (numbers (E.types i) (E.rules i)) t table)

  module _ (A : Admits table C f t) where
    admits_echo : Admits echo_table C f t
    admits_echo = record { enough = subst⁻¹ (λ (x : ℕ). x * t < C + f) E.factor A.enough; faulty = A.faulty }

    -- what holds of what is left goes along
    settles : (starts : List ℕ) → length starts ≡ C → ((p : ℕ) → p < C → get_or starts p 0 ≡ 0) → (ss : List Step) →
        Settled k (design_for table k C f t) (run k (design_for table k C f t) (start (types_of table) (wide k) starts) ss).left
    settles starts l z ss = subst (λ (d : Design). Settled k d (run k d (start d.types (wide k) starts) ss).left) one-design (leaves k C f t admits_echo starts l z ss)

    -- ---- schedules
    from_zeros : (ss : List Step) → Settled k (design_for table k C f t) (run k (design_for table k C f t) (from_v0 table k C) ss).left
    from_zeros = settles (replicate C 0) (length-replicate C 0) (λ p h. get_or-replicate C p 0 0 h)

    never : (ss : List Step) → Never k (design_for table k C f t) (from_v0 table k C) ss
    never ss = record { reached = λ i. (from_zeros (take i ss)).quiet; left = (from_zeros ss).quiet; waits = (from_zeros ss).waits }

-- ---- words past a configuration are not part of it
module _ (k : ℕ) (d : Design) (u v : List ℕ) (l : length u ≡ size d.boards d.types (wide k)) where
  same_at : (i : ℕ) → i < size d.boards d.types (wide k) → get_or (u ++ v) i 0 ≡ get_or u i 0
  same_at i h = get_or-append u v 0 i (rw l h)

  same_sent : (m : ℕ) → m < d.types → sent d.boards d.types (wide k) (u ++ v) m ≡ sent d.boards d.types (wide k) u m
  unfolding sent sent_at
  same_sent m h = same_at _ (unfold size in omega arith)

  same_rcvd : (p m : ℕ) → p < d.boards → m < d.types → rcvd_in k d (u ++ v) p m ≡ rcvd_in k d u p m
  unfolding cell
  same_rcvd p m hp hm = coll-same k d.boards d.faulty _ _ (λ e he. same_at (cell_at d.boards d.types (wide k) p m e) (unfold size sent_at in omega (arith, cell_below d.boards d.types (wide k) p m e hp hm he)))

  quiet-past : Quiet k d u → Quiet k d (u ++ v)
  unfolding state
  quiet-past Q = record {
    states = λ p h. same_at p (unfold size in omega arith) ∙ Q.states p h;
    sents = λ m h. ap (shown k d.boards d.faulty) (same_sent m h) ∙ Q.sents m h;
    sent_words = λ m h. same_sent m h ∙ Q.sent_words m h;
    counts = λ p m hp hm. subst⁻¹ (λ (M : (column_of k d).Coll). (column_of k d).card M ≤ d.faulty) (same_rcvd p m hp hm) (Q.counts p m hp hm);
  }

-- ---- a bundle that starts in V0
no_others : {x : ℕ} → Configures x → (x ≡ 0 → ⊥) → x ≤ 14 → ⊥
no_others (whole z) n l = n z
no_others (stopped a b) n l = omega arith

not_thirty : Configures 30 → ⊥
not_thirty (whole z) = omega arith
not_thirty (stopped a b) = omega arith

refused_no_step : (x y p r m q : ℕ) → First.Refused x y ≡ First.Step p r m q → ⊥
refused_no_step x y p r m q e = let z : ◌≡◌ {A = ℕ} 0 1 = cc in absurd (omega arith)

module _ (table : List ℕ) (E : SameTable echo_table table) (b standing : List ℕ) (B : InV0 table b standing) where
  -- a table that has rules is not empty
  in_use : table_in_use b standing ≡ table
  in_use = go B.uses
    where
      go : Uses table b standing → table_in_use b standing ≡ table
      go (beside z e) = sym (use_standing b standing refl z) ∙ e
      go (front e) = sym (use_front b standing refl (λ z. let q : ◌≡◌ {A = ℕ} 0 (rules_of table) = ap rules_of (ap (λ (x : ℕ). take x b) (sym z) ∙ e) in omega (arith, q, E.rules))) ∙ e

  abbrev design : Design
  design = design_with table b

  abbrev level : ℕ
  level = level_of (form_of b)

  abbrev left : List ℕ
  left = (ran_with table b).left

  module _ (z : (read_fault b standing).number ≡ 0) where
    read : Read table b
    read = read_by b standing refl z (sym in_use)

    admits : Admits table (correct_of b) (f_of b) (t_of b)
    admits = record { enough = omega (arith, read.admitted.enough, read.all); faulty = read.admitted.faulty }

    settled : Settled level design left
    unfolding ran_with
    settled = settles table E level (correct_of b) (f_of b) (t_of b) admits (starts_of b) read.parted.starts_long B.starts (schedule_of b)

    left-quiet : (v : List ℕ) → Quiet level design (left ++ v)
    left-quiet v = quiet-past level design left v settled.long settled.quiet

  -- ---- `run`
  module _ (words : List ℕ) (c : Configures (run_answer b standing (length words)).refusal) where
    abbrev Claim : Type 0
    Claim = Quiet level (design_in b standing) (run_words b standing words)

    answered : {a : Answer} → a ≡ run_answer b standing (length words) → Configures a.refusal
    answered e = subst⁻¹ (λ (a : Answer). Configures a.refusal) e c

    runs : Claim
    runs = go (ℕ_discrete (read_fault b standing).number 0)
      where
        long : (read_fault b standing).number ≡ 0 → Dec (length words < room_of (sizes_in b standing)) → Claim
        long z (yes l) = absurd (not_thirty (answered (enter-short b standing words z refl l refl).answer))
        long z (no l) =
            let v = drop (room_of (sizes_in b standing)) words in
            subst (Quiet level (design_in b standing)) (enter_run b standing words z refl (omega arith) refl refl).words
            (subst⁻¹ (λ (x : List ℕ). Quiet level (design_with x b) ((ran_with x b).left ++ v)) in_use (left-quiet z v))

        go : Dec ((read_fault b standing).number ≡ 0) → Claim
        go (no n) = absurd (no_others (answered (enter-refused b standing words n refl).answer) n (read-within (table_in_use b standing) b).number)
        go (yes z) = long z (dec_lt (length words) (room_of (sizes_in b standing)))

  -- ---- `first_step`
  unread : ((read_fault b standing).number ≡ 0 → ⊥) → First.Refused (read_fault b standing).number (read_fault b standing).place ≡ first_answer b standing
  unfolding first_answer
  unread n = if_yes _ refl refl (ap not (ne_eqb _ 0 n))

  read-on : (read_fault b standing).number ≡ 0 → after_run table b ≡ first_answer b standing
  unfolding first_answer
  read-on z = ap (λ (x : List ℕ). after_run x b) (sym in_use) ∙ if_no _ refl (ap not (eq-eqb _ 0 z)) refl

  module _ (p r m q : ℕ) (h : first_answer b standing ≡ First.Step p r m q) where
    after_run_lem : (read_fault b standing).number ≡ 0 → answer_of (first level design left) ≡ First.Step p r m q
    unfolding after_run
    after_run_lem z = (if_passed (λ (a : First). a ≡ First.Step p r m q) _ _ _ (refused_no_step _ _ p r m q) (read-on z ∙ h)).1

    F : (read_fault b standing).number ≡ 0 → FirstPossible level design left
    F z = first_possible level design left (omega (arith, (read z).formed.sized.few_rules))

    named : (read_fault b standing).number ≡ 0 → (x : Found) → first level design left ≡ x → answer_of x ≡ First.Step p r m q → r ≡ 0
    named z none e g = let y : ◌≡◌ {A = ℕ} 0 1 = cc in absurd (omega arith)
    named z (found s) e g = let y : r ≡ s.rule = cc in y ∙ (settled z).waits s ((F z).accepted s e) ((F z).no_stop s e)

    firsts : r ≡ 0
    firsts = go (ℕ_discrete (read_fault b standing).number 0)
      where
        go : Dec ((read_fault b standing).number ≡ 0) → r ≡ 0
        go (yes z) = named z _ refl (after_run_lem z)
        go (no n) = absurd (refused_no_step _ _ p r m q (unread n ∙ h))

no_echo : (table : List ℕ) → SameTable echo_table table → NoEcho table
no_echo table E = record { never = never table E; runs = λ b standing words B. runs table E b standing B words; firsts = firsts table E }

-- ---- of the echo table in both editions
itself : SameTable echo_table echo_table
itself = record {
  states = refl;
  rules = refl;
  types = refl;
  factor = refl;
  flags = λ i h. refl;
  sent = λ i h. refl;
  from = λ r h. refl;
  to = λ r h. refl;
  weights = λ r m h l. refl;
}

sized : Sized echo_table
unfolding types_in type_bytes weight_bytes ◌if◌else◌
sized = record {
  long = omega arith;
  some_state = omega arith;
  few_states = omega arith;
  some_rule = omega arith;
  few_rules = omega arith;
  some_type = omega arith;
  few_types = omega arith;
  some_factor = omega arith;
  few_factor = omega arith;
  whole = refl;
}

moved : SameTable echo_table echo_second
unfolding types_in ◌if◌else◌
moved = moved_same (types_byte echo_table + second) echo_table refl sized (λ r m _ _ e. absurd (true≢false e))

pub q5 : Q5
q5 = record { holds = no_echo echo_table itself; same = no_echo; second = no_echo echo_second moved; table = refl; fails = one-enough }
