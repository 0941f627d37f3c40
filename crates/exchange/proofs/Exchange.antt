-- Q-10, for every level at once. Of the words that a board looks at, another board's step changes none but sent words and the stopped boards, and to these it adds; a message in
-- transit stays so, and a board that is not stopped stays so. So every check of a rule but 24 comes out as it did, and 24 at most for the better; and every check of a stop but 27,
-- and 27 at most for the worse. And the parts of the two steps can be exchanged one by one: no word is changed by both but those to which both add, in whichever order.
use mathlib.Core.Path.{◌≡◌, refl, sym, ap, ◌∙◌, subst}
use mathlib.Core.Logic.{◌≢◌}
use mathlib.Core.Bool.{Bool, true, false, not, ◌&&◌, ◌||◌, true≢false, or-true}
use mathlib.Core.List.{List}
use Prim.Native.Nat.{ℕ, zero, suc, ◌+◌, ◌≤◌, ◌<◌}
use native.Mathlib.Omega.{arith}
use native.Mathlib.Decide.{ℕ_discrete}
use lib.Dec.{eqb}
use lib.ListN.{get_or}
use lib.Seq.{get_or-set_other}
use borrow.Author.Tests.{ltb-true, lt-ltb, lt-leb, eq-eqb, ne_eqb}
use Rattle.senders.specs.Set.{mem, insert}
use Rattle.senders.proofs.TallyLaws.{and_both, and-made, count-le}
use Rattle.senders.proofs.SetLaws.{set_laws, insert_swap, insert-keeps}
use Rattle.fault.specs.Tests.{◌below◌}
use Rattle.fault.proofs.FaultLaws.{if_yes, if_no}
use Rattle.paper.specs.Paper.{Design, Step, silent, is_stop, stopped_count, Kind, column}
use Rattle.paper.specs.Words.{sent_at, state, cell, sent, stopped}
use Rattle.paper.specs.Form.{wide, bump, shown}
use Rattle.paper.specs.Step.{column_of, rcvd_in, sent_in, stopped_in, count_of, heard, stepped, out_of_range, malformed, not_in_transit, take_fault, step_fault}
use Rattle.paper.proofs.Cases.{yes_no}
use Rattle.paper.proofs.FormLaws.{coll-same}
use Rattle.paper.proofs.StepLaws.{by_kind, Accepted, accepted, not_refused, transit_if, Accepts, takes, stops, accepts_by_lem, take-accepted, stop-accepted}
use Rattle.exchange.specs.Exchange.{RoomForBoth, EitherOrder, HearsOther}
use Rattle.exchange.proofs.Changes.{change, change_swap, change_keeps}
use Rattle.exchange.proofs.Parts.{sent_of, stopped_of, Place, state_of, cell_of, not_sent, not_stopped, sent_not_stopped, apart, Formed, new, adds, Kept, heard_kept, step_kept}
use Rattle.exchange.proofs.Stops.{count_but_one}

-- ---- three laws of the columns, where board p sends
or-grows : (a b c e : Bool) → (b ≡ true → c ≡ true) → (a && b || e) ≡ true → (a && c || e) ≡ true
or-grows false b c e h t = t
or-grows true true c e h t = rw (h refl)
or-grows true false c e h t = rw t (or-true c)

below-grows : (a b c : ℕ) → b ≤ c → (a below b) ≡ true → (a below c) ≡ true
below-grows a b c l h = lt-ltb a c (omega (arith, ltb-true a b h))

-- a message in transit stays so
transit-grows : (k C f p q v : ℕ) (M : (column k C f).Coll) → (column k C f).in_transit q M (shown k C f v) ≡ true → (column k C f).in_transit q M (shown k C f (bump k ((column k C f).own p) v)) ≡ true
unfolding shown bump
transit-grows zero C f p q v M t = or-grows (q below C) _ _ _ (λ h. let e = and_both _ _ h in and-made _ _ (insert-keeps p q v e.0) e.1) t
transit-grows (suc zero) C f p q v M t = or-grows (eqb q 0) _ _ _ (below-grows M.correct v (suc v) (omega arith)) t
transit-grows (suc (suc k)) C f p q v M t = let e = and_both (eqb q 0) (M below v + f) t in and-made _ _ e.0 (below-grows M (v + f) (suc v + f) (omega arith) e.1)

-- and another message than that board's is in transit as before
transit-other : (k C f p q v : ℕ) (M : (column k C f).Coll) → q ≢ (column k C f).own p
    → (column k C f).in_transit q M (shown k C f (bump k ((column k C f).own p) v)) ≡ (column k C f).in_transit q M (shown k C f v)
unfolding shown bump
transit-other zero C f p q v M o = rw (set_laws.insert_other v p q o)
transit-other (suc zero) C f p q v M o = rw (ne_eqb q 0 o)
transit-other (suc (suc k)) C f p q v M o = rw (ne_eqb q 0 o)

-- the order of two sends does not matter
bump_swap : (k p q v : ℕ) → bump k p (bump k q v) ≡ bump k q (bump k p v)
unfolding bump
bump_swap zero p q v = insert_swap p q v
bump_swap (suc k) p q v = refl

-- ---- a step x, and a step y of another board
module _ (k : ℕ) (d : Design) (x y : Step) (o : x.board ≢ y.board) (X : Formed k d x) (Y : Formed k d y) where
  -- a change that can be exchanged with each of x's can be exchanged with x
  past : (i : ℕ) (g : ℕ → ℕ) (w : List ℕ) → ((j : ℕ) → Place k d x.board j → i ≢ j) → ((m : ℕ) → m < d.types → i ≡ sent_of k d m → (v : ℕ) → g (adds k d x v) ≡ adds k d x (g v))
      → (i ≡ stopped_of k d → (v : ℕ) → g (insert x.board v) ≡ insert x.board (g v)) → change i g (stepped k d w x) ≡ stepped k d (change i g w) x
  past i g w a b c =
      step_kept k d x X (λ (v u : List ℕ). change i g v ≡ u) (record {
        own = λ j h v u P r. change_swap i j g h v (λ e. absurd (a j P e)) ∙ ap (change j h) r;
        sends = λ m v u l e r. change_swap i (sent_of k d m) g (adds k d x) v (b m l) ∙ ap (change (sent_of k d m) (adds k d x)) r;
        stops = λ v u e r. change_swap i (stopped_of k d) g (insert x.board) v c ∙ ap (change (stopped_of k d) (insert x.board)) r;
      }) w (change i g w) refl

  -- so x can be exchanged with each part of y
  parts : Kept k d y (λ (v u : List ℕ). stepped k d v x ≡ u)
  parts = record {
    own = λ i g v u P r.
        sym (past i g v (λ j Q e. apart k d x.board y.board j i X.board Y.board o Q P (sym e)) (λ m h e. absurd (not_sent k d y.board i m Y.board P e))
        (λ e. absurd (not_stopped k d y.board i Y.board P e))) ∙ ap (change i g) r;
    sends = λ m v u l e r.
        sym (past (sent_of k d m) (adds k d y) v (λ j Q e. not_sent k d x.board j m X.board Q (sym e)) (λ n h e. bump_swap k _ _) (λ e. absurd (sent_not_stopped k d m l e)))
        ∙ ap (change (sent_of k d m) (adds k d y)) r;
    stops = λ v u e r.
        sym (past (stopped_of k d) (insert y.board) v (λ j Q e. not_stopped k d x.board j X.board Q (sym e)) (λ m h e. absurd (sent_not_stopped k d m h (sym e)))
        (λ e. insert_swap y.board x.board)) ∙ ap (change (stopped_of k d) (insert y.board)) r;
  }

  both_ways : (w : List ℕ) → stepped k d (stepped k d w y) x ≡ stepped k d (stepped k d w x) y
  both_ways w = step_kept k d y Y _ parts w _ refl

  heard-past : (w : List ℕ) → stepped k d (heard k d w y) x ≡ heard k d (stepped k d w x) y
  heard-past w = heard_kept k d y Y _ parts w _ refl

  -- ---- what y looks at, after x
  left : (w : List ℕ) (i : ℕ) → Place k d y.board i → get_or (stepped k d w x) i 0 ≡ get_or w i 0
  left w i P =
      step_kept k d x X (λ (v u : List ℕ). get_or v i 0 ≡ get_or w i 0) (record {
        own = λ j g v u Q r. get_or-set_other v j i _ 0 (λ e. apart k d x.board y.board j i X.board Y.board o Q P (sym e)) ∙ r;
        sends = λ m v u l e r. get_or-set_other v (sent_of k d m) i _ 0 (not_sent k d y.board i m Y.board P) ∙ r;
        stops = λ v u e r. get_or-set_other v (stopped_of k d) i _ 0 (not_stopped k d y.board i Y.board P) ∙ r;
      }) w w refl

  state-left : (w : List ℕ) → state (stepped k d w x) y.board ≡ state w y.board
  unfolding state
  state-left w = left w y.board (state_of refl)

  rcvd-left : (w : List ℕ) (m : ℕ) → m < d.types → rcvd_in k d (stepped k d w x) y.board m ≡ rcvd_in k d w y.board m
  unfolding cell
  rcvd-left w m h = coll-same k d.boards d.faulty _ _ (λ e l. left w _ (cell_of m e h l refl))

  count_left : (w : List ℕ) (m : ℕ) → m < d.types → count_of k d (heard k d (stepped k d w x) y) y.board m ≡ count_of k d (heard k d w y) y.board m
  count_left w m h = ap (λ (v : List ℕ). count_of k d v y.board m) (sym (heard-past w)) ∙ ap (column_of k d).card (rcvd-left (heard k d w y) m h)

  -- what a send of x keeps of a sent word, x keeps
  sent-left : (P : ℕ → Type 0) (w : List ℕ) (m : ℕ) → m < d.types → (new k d x m ≡ true → (v : ℕ) → P v → P (adds k d x v)) → P (sent d.boards d.types (wide k) w m)
      → P (sent d.boards d.types (wide k) (stepped k d w x) m)
  unfolding sent
  sent-left P w m t h =
      step_kept k d x X (λ (v u : List ℕ). P (get_or v (sent_of k d m) 0)) (record {
        own = λ i g v u Q. change_keeps P i (sent_of k d m) g v (λ e. absurd (not_sent k d x.board i m X.board Q e));
        sends = λ n v u l e. change_keeps P (sent_of k d n) (sent_of k d m) (adds k d x) v (λ z. h (subst (λ (j : ℕ). new k d x j ≡ true) (one n m z) e));
        stops = λ v u e. change_keeps P (stopped_of k d) (sent_of k d m) (insert x.board) v (λ z. absurd (sent_not_stopped k d m t (sym z)));
      }) w w
    where
      one : (n m : ℕ) → sent_of k d n ≡ sent_of k d m → n ≡ m
      one n m z = unfold sent_at in omega arith

  -- what a stop of x keeps of the stopped boards, x keeps
  stopped-left : (P : ℕ → Type 0) (w : List ℕ) → (is_stop x ≡ true → (S : ℕ) → P S → P (insert x.board S)) → P (stopped_in k d w) → P (stopped_in k d (stepped k d w x))
  unfolding stopped
  stopped-left P w h =
      step_kept k d x X (λ (v u : List ℕ). P (get_or v (stopped_of k d) 0)) (record {
        own = λ i g v u Q. change_keeps P i (stopped_of k d) g v (λ e. absurd (not_stopped k d x.board i X.board Q e));
        sends = λ n v u l e. change_keeps P (sent_of k d n) (stopped_of k d) (adds k d x) v (λ z. absurd (sent_not_stopped k d n l z));
        stops = λ v u e. change_keeps P (stopped_of k d) (stopped_of k d) (insert x.board) v (λ _. h e);
      }) w w

  -- none stops but x's board
  others_left : (w : List ℕ) (q : ℕ) → q ≢ x.board → mem (stopped_in k d (stepped k d w x)) q ≡ mem (stopped_in k d w) q
  others_left w q n = stopped-left (λ S. mem S q ≡ mem (stopped_in k d w) q) w (λ _ S r. set_laws.insert_other S x.board q n ∙ r) refl

  awake-left : (w : List ℕ) → mem (stopped_in k d (stepped k d w x)) y.board ≡ mem (stopped_in k d w) y.board
  awake-left w = others_left w y.board (λ e. o (sym e))

  -- so at most one more is stopped, and none fewer
  stopped_most : (w : List ℕ) → stopped_count d (stopped_in k d (stepped k d w x)) ≤ stopped_count d (stopped_in k d w) + 1
  stopped_most w = count_but_one d.boards x.board _ _ (others_left w)

  stopped-least : (w : List ℕ) → stopped_count d (stopped_in k d w) ≤ stopped_count d (stopped_in k d (stepped k d w x))
  stopped-least w = count-le d.boards _ _ (λ q l. stopped-left (λ S. mem S q ≡ true) w (λ _ S. insert-keeps x.board q S))

  -- and none more by a rule
  stopped-same : (w : List ℕ) → is_stop x ≡ false → stopped_in k d (stepped k d w x) ≡ stopped_in k d w
  stopped-same w e = stopped-left (λ S. S ≡ stopped_in k d w) w (λ t. absurd (true≢false (sym t ∙ e))) refl

  -- y's message is in transit
  abbrev moving : List ℕ → Bool
  moving w = (column_of k d).in_transit y.source (rcvd_in k d w y.board y.type) (sent_in k d w y.type)

  abbrev Moving : List ℕ → Bool → ℕ → Type 0
  Moving w b v = (column_of k d).in_transit y.source (rcvd_in k d w y.board y.type) (shown k d.boards d.faulty v) ≡ b

  moving-left : (w : List ℕ) (b : Bool) → silent y ≡ false → (new k d x y.type ≡ true → (v : ℕ) → Moving w b v → Moving w b (adds k d x v)) → moving w ≡ b → moving (stepped k d w x) ≡ b
  moving-left w b e h m =
      ap (λ (M : (column_of k d).Coll). (column_of k d).in_transit y.source M (sent_in k d (stepped k d w x) y.type)) (rcvd-left w y.type (Y.named e).type)
      ∙ sent-left (Moving w b) w y.type (Y.named e).type h m

  -- ---- y by a rule, accepted from words v, at words u of which it sees the same: accepted, if its message is in transit
  carried : (v u : List ℕ) → state u y.board ≡ state v y.board → ((m : ℕ) → m < d.types → count_of k d (heard k d u y) y.board m ≡ count_of k d (heard k d v y) y.board m)
      → (silent y ≡ false → moving u ≡ true) → Accepted k d v y → Accepted k d u y
  carried v u s c t A = record {
    arrives = record { board = A.arrives.board; rule = A.arrives.rule; leaves = s ∙ A.arrives.leaves; named = A.arrives.named; transit = t };
    met = λ m h. ap (d.met y.rule m) (c m h) ∙ A.met m h;
  }

  later : (w : List ℕ) → Accepted k d w y → Accepted k d (stepped k d w x) y
  later w A =
      carried w (stepped k d w x) (state-left w) (count_left w) (λ e. moving-left w true e (λ _ v. transit-grows k d.boards d.faulty x.board y.source v _) (A.arrives.transit e)) A

  -- y, accepted from w, is accepted after x; a stop, where there is room for it
  still : (w : List ℕ) → RoomForBoth k d w x y → Accepts k d w y → step_fault k d (stepped k d w x) y ≡ 0
  still w r (takes e z f) = take-accepted k d (stepped k d w x) y e (awake-left w ∙ z) (not_refused k d (stepped k d w x) y (later w (accepted k d w y f)))
  still w r (stops e b z a f) =
      stop-accepted k d (stepped k d w x) y e b (awake-left w ∙ z) a
      (yes_no (is_stop x) (λ t. omega (arith, stopped_most w, r t e)) (λ t. omega (arith, ap (stopped_count d) (stopped-same w t), f)))

  -- ---- y by a rule, accepted after x and not before it
  module _ (w : List ℕ) (s : is_stop y ≡ false) (z : mem (stopped_in k d w) y.board ≡ false) (A : Accepted k d (stepped k d w x) y) (n : step_fault k d w y ≡ 0 → ⊥) where
    not-moving : (silent y ≡ false → moving w ≡ true) → ⊥
    not-moving t = n (take-accepted k d w y s z (not_refused k d w y (carried (stepped k d w x) w (sym (state-left w)) (λ m h. sym (count_left w m h)) t A)))

    receives : silent y ≡ false
    receives = yes_no (silent y) (λ e. absurd (not-moving (λ f. absurd (true≢false (sym e ∙ f))))) (λ e. e)

    none : moving w ≡ false
    none = yes_no (moving w) (λ e. absurd (not-moving (λ _. e))) (λ e. e)

    -- it is x that brings it into transit
    brought : (new k d x y.type ≡ true → (v : ℕ) → Moving w false v → Moving w false (adds k d x v)) → ⊥
    brought h = true≢false (sym (A.arrives.transit receives) ∙ moving-left w false receives h none)

    hears-other : HearsOther k d w x y
    unfolding step_fault take_fault malformed
    hears-other =
        let B = A.arrives in
        let formed : malformed k d y ≡ false = by_kind (λ (κ : Kind). out_of_range k d κ ≡ false) y (λ e. refl) (λ e. rw (lt-leb _ _ (B.named e).type, lt-leb _ _ (B.named e).source)) in
        let gone : not_in_transit k d w y ≡ true = transit_if k d w y ∙ rw (receives, none) in
        record {
          refused =
              sym (if_no 20 refl (lt-leb _ _ B.board) (if_no 26 refl z (if_no _ refl s (if_no 20 refl (lt-leb _ _ B.board) (if_no 21 refl (lt-leb _ _ B.rule) (if_no 22 refl (ap not (eq-eqb _ _ (sym (state-left w) ∙ B.leaves)))
              (if_no 23 refl formed (if_yes _ refl refl gone))))))));
          receives = receives;
          sends = yes_no (new k d x y.type) (λ e. e) (λ e. absurd (brought (λ t. absurd (true≢false (sym t ∙ e)))));
          source = same_source (ℕ_discrete y.source ((column_of k d).own x.board));
        }
      where
        same_source : Dec (y.source ≡ (column_of k d).own x.board) → y.source ≡ (column_of k d).own x.board
        same_source (yes e) = e
        same_source (no q) = absurd (brought (λ _ v h. transit-other k d.boards d.faulty x.board y.source v _ q ∙ h))

  -- so it is by a rule: a stop would be accepted before x too
  heard_first : (w : List ℕ) → Accepts k d (stepped k d w x) y → (step_fault k d w y ≡ 0 → ⊥) → HearsOther k d w x y
  heard_first w (takes e z f) n = hears-other w e (sym (awake-left w) ∙ z) (accepted k d (stepped k d w x) y f) n
  heard_first w (stops e b z a f) n = absurd (n (stop-accepted k d w y e b (sym (awake-left w) ∙ z) a (omega (arith, stopped-least w, f))))

formed_by : (k : ℕ) (d : Design) (w : List ℕ) (s : Step) → Accepts k d w s → Formed k d s
formed_by k d w s (takes e z f) = let A = (accepted k d w s f).arrives in record { board = A.board; named = A.named }
formed_by k d w s (stops e b z a f) = record { board = b; named = λ n. absurd (true≢false (sym a ∙ n)) }

pub either_order : (k : ℕ) (d : Design) (w : List ℕ) (x y : Step) → x.board ≢ y.board → step_fault k d w x ≡ 0 → step_fault k d w y ≡ 0 → RoomForBoth k d w x y → EitherOrder k d w x y
either_order k d w x y o p q r =
    let A = accepts_by_lem k d w x p in
    let B = accepts_by_lem k d w y q in
    let X = formed_by k d w x A in
    let Y = formed_by k d w y B in
    record {
      y_after_x = still k d x y o X Y w r B;
      x_after_y = still k d y x (λ e. o (sym e)) Y X w (λ a b. r b a) A;
      same_words = sym (both_ways k d x y o X Y w);
    }

pub hears-first : (k : ℕ) (d : Design) (w : List ℕ) (x y : Step) → x.board ≢ y.board → step_fault k d w x ≡ 0 → step_fault k d (stepped k d w x) y ≡ 0 → (step_fault k d w y ≡ 0 → ⊥)
    → HearsOther k d w x y
hears-first k d w x y o p q n =
    let B = accepts_by_lem k d (stepped k d w x) y q in
    heard_first k d x y o (formed_by k d w x (accepts_by_lem k d w x p)) (formed_by k d (stepped k d w x) y B) w B n
