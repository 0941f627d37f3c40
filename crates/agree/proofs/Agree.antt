-- Theorem 3.4 for a step on words, over any two neighbouring levels: the tagged step does at level j + 1 what the step does at level j, since the
-- picture of where that leads is where the tag leads; and a step whose source is in transit and has the tag does at level j what its tag does at
-- level j + 1, since as many messages are counted.
use mathlib.Core.Path.{◌≡◌, refl, sym, ap, ap₂, ◌∙◌, subst⁻¹}
use mathlib.Core.Bool.{Bool, true, false, true≢false}
use mathlib.Core.List.{List}
use Prim.Native.Nat.{ℕ, suc, ◌+◌, ◌≤◌, ◌<◌}
use native.Mathlib.Omega.{arith}
use lib.Dec.{eqb}
use borrow.Author.Tests.{eq-eqb, ne_eqb}
use Rattle.senders.proofs.TallyLaws.{and-made, least_first}
use Rattle.fault.specs.Fault.{◌if◌else◌}
use Rattle.senders.specs.Set.{mem, insert}
use Rattle.paper.specs.Paper.{Design, Conf, Step, newly, no_message, silent, Kind, silence, message, kind_of, CanHear, added, Moves, is_stop, stopped_count}
use Rattle.paper.specs.Words.{state, stop}
use Rattle.paper.specs.Form.{wide, shown}
use Rattle.paper.specs.Step.{column_of, rcvd_in, sent_in, stopped_in, view, count_of, heard, taken, take_fault, stepped, step_fault}
use Rattle.paper.proofs.Cases.{yes_no}
use Rattle.paper.proofs.StepLaws.{kind-silent, kind-message, by_kind, coming_at, Arrives, accepted, not_refused, hears_of, arrives_by, rcvd_heard, length_taken, take_moves, moves_take, moves-one, Accepts, takes, stops, accepts_by_lem, stepped-take, stepped-stop, take-accepted, stop-accepted, ruled, loud_rule}
use Rattle.paper.proofs.WordLaws.{length-stop, stopped-stop, state-stop, cell-stop, sent-stop}
use Rattle.paper.proofs.FormLaws.{coll-same}
use Rattle.agree.specs.Translation.{tag_of, with_source, source_in, tag_by, tagged, low_sender, lowest}
use Rattle.agree.specs.Picture.{Remembers, picture_of, Pictured}
use Rattle.agree.specs.Laws.{ColumnLaws, Source, PictureLaws}
use Rattle.agree.specs.Agreement.{StepThere, StepBack}
use Rattle.agree.proofs.Columns.{column_laws, picture_laws, lowest-source}
use Rattle.agree.proofs.Sound.{told_fresh, still-sound, sound-same}

-- ---- the translations, with a message and without
module _ (j : ℕ) (d : Design) (s : Step) where
  pub tagged-silent : silent s ≡ true → tagged j d s ≡ s
  unfolding tag_by
  tagged-silent e = ap (λ (κ : Kind). with_source s (source_in κ s.source (tag_of j d.boards s.source))) (kind-silent s e)

  pub tagged-message : silent s ≡ false → tagged j d s ≡ with_source s (tag_of j d.boards s.source)
  unfolding tag_by
  tagged-message e = ap (λ (κ : Kind). with_source s (source_in κ s.source (tag_of j d.boards s.source))) (kind-message s e)

  pub lowest-silent : (w : List ℕ) → silent s ≡ true → lowest j d w s ≡ s
  unfolding lowest
  lowest-silent w e = ap (λ (κ : Kind). with_source s (source_in κ s.source (low_sender j d w s))) (kind-silent s e)

  pub lowest-message : (w : List ℕ) → silent s ≡ false → lowest j d w s ≡ with_source s (low_sender j d w s)
  unfolding lowest
  lowest-message w e = ap (λ (κ : Kind). with_source s (source_in κ s.source (low_sender j d w s))) (kind-message s e)

-- a type of the table is a message, whatever the source
pub typed : (T : ℕ) (s : Step) (q : ℕ) → T ≤ no_message → s.type < T → silent (with_source s q) ≡ false
typed T s q k h = rw (ne_eqb s.type no_message (omega arith))

-- the kind of a step one level on
abbrev tag_kind : ℕ → ℕ → Kind → Kind
tag_kind j C silence = silence
tag_kind j C (message m q) = message m (tag_of j C q)

module _ (j : ℕ) (d : Design) where
  abbrev L : PictureLaws j d.boards d.faulty
  L = picture_laws d.boards d.faulty j

  abbrev N : ColumnLaws j d.boards d.faulty
  N = column_laws d.boards d.faulty j

-- ---- what board p hears at level j, it hears by its tag at level j + 1
module _ (j : ℕ) (d : Design) (w v : List ℕ) (X : Pictured j d w v) (p : ℕ) (hp : p < d.boards) where
  abbrev Fine : Kind → Type 0
  Fine κ = CanHear d (column_of j d) κ (rcvd_in j d w p) (sent_in j d w)

  hears-there : (κ : Kind) → Fine κ → CanHear d (column_of (suc j) d) (tag_kind j d.boards κ) (rcvd_in (suc j) d v p) (sent_in (suc j) d v)
  hears-there silence H = tt
  hears-there (message m q) H =
      let r = X.rcvds p m hp H.type in
      let o = X.sents m H.type in
      record {
        type = H.type;
        source = (L j d).below q;
        transit = (λ i. (column_of (suc j) d).in_transit (tag_of j d.boards q) (r i) (o i)) ∙ (L j d).there q _ _ H.source (X.sound.within p m hp H.type) H.transit;
      }

  pictures_heard : (κ : Kind) → Fine κ → (m : ℕ) → m < d.types
      → picture_of j d (added (column_of j d) κ (rcvd_in j d w p) m) ≡ added (column_of (suc j) d) (tag_kind j d.boards κ) (rcvd_in (suc j) d v p) m
  unfolding ◌if◌else◌
  pictures_heard silence H m hm = sym (X.rcvds p m hp hm)
  pictures_heard (message t q) H m hm = go (eqb t m) refl
    where
      go : (b : Bool) → eqb t m ≡ b → picture_of j d ((column_of j d).add q (rcvd_in j d w p m) if b else rcvd_in j d w p m) ≡
          ((column_of (suc j) d).add (tag_of j d.boards q) (rcvd_in (suc j) d v p m) if b else rcvd_in (suc j) d v p m)
      go true z = (L j d).add q _ H.source ((N j d).fresh q _ _ (coming_at H m z)) ∙ ap ((column_of (suc j) d).add (tag_of j d.boards q)) (sym (X.rcvds p m hp hm))
      go false z = sym (X.rcvds p m hp hm)

-- ---- a move at level j is a move of the tag at level j + 1, to the picture
module _ (j : ℕ) (d : Design) (w v w' : List ℕ) (X : Pictured j d w v) (s : Step) (x : ℕ) (P : kind_of (with_source s x) ≡ tag_kind j d.boards (kind_of s))
    (a : Moves d (column_of j d) s (view j d w) (view j d w')) where
  abbrev seen : Conf (column_of (suc j) d).Coll
  seen = record { pc = state w'; rcvd = λ q m. picture_of j d (rcvd_in j d w' q m); sent = λ m. picture_of j d (sent_in j d w' m); stopped = stopped_in j d w' }

  same_new : (m : ℕ) → newly d (state w s.board) (state w' s.board) m ≡ newly d (state v s.board) (state w' s.board) m
  same_new m = ap (λ (ℓ : ℕ). newly d ℓ (state w' s.board) m) (sym (X.states s.board a.board))

  sent-there : (m : ℕ) → m < d.types → newly d (state w s.board) (state w' s.board) m ≡ true
      → picture_of j d (sent_in j d w' m) ≡ (column_of (suc j) d).add ((column_of (suc j) d).own s.board) (sent_in (suc j) d v m)
  sent-there m hm e =
      let n = told_fresh j d (view j d w) s.board (state w' s.board) m a.board (X.sound.told m hm) e in
      ap (picture_of j d) (a.sends m hm e) ∙ (L j d).add _ (sent_in j d w m) ((N j d).own s.board a.board) n
      ∙ ap₂ (column_of (suc j) d).add ((L j d).own s.board a.board) (sym (X.sents m hm))

  tag-moves : Moves d (column_of (suc j) d) (with_source s x) (view (suc j) d v) seen
  tag-moves = record {
    board = a.board;
    awake = ap (λ (S : ℕ). mem S s.board) X.stops ∙ a.awake;
    stopped = a.stopped ∙ sym X.stops;
    local = record {
      rule = a.local.rule;
      leaves = X.states s.board a.board ∙ a.local.leaves;
      enters = a.local.enters;
      met = λ m hm. ap (d.met s.rule m) ((L j d).card (rcvd_in j d w' s.board m)) ∙ a.local.met m hm;
    };
    hears = subst⁻¹ (λ (κ : Kind). CanHear d (column_of (suc j) d) κ (rcvd_in (suc j) d v s.board) (sent_in (suc j) d v)) P
        (hears-there j d w v X s.board a.board (kind_of s) a.hears);
    receives = λ m hm.
        ap (picture_of j d) (a.receives m hm) ∙ pictures_heard j d w v X s.board a.board (kind_of s) a.hears m hm
        ∙ ap (λ (κ : Kind). added (column_of (suc j) d) κ (rcvd_in (suc j) d v s.board) m) (sym P);
    sends = λ m hm e. sent-there m hm (same_new m ∙ e);
    keeps = λ m hm e. ap (picture_of j d) (a.keeps m hm (same_new m ∙ e)) ∙ sym (X.sents m hm);
    others_pc = λ q hq o. a.others_pc q hq o ∙ sym (X.states q hq);
    others_rcvd = λ q m hq hm o. ap (picture_of j d) (a.others_rcvd q m hq hm o) ∙ sym (X.rcvds q m hq hm);
  }

-- ---- both steps of a pair are accepted, and lead to a picture
pub record Agrees (j : ℕ) (d : Design) (w v : List ℕ) (s t : Step) : Type 0 where
  pub fine : step_fault j d w s ≡ 0
  pub coarse : step_fault (suc j) d v t ≡ 0
  pub pictured : Pictured j d (stepped j d w s) (stepped (suc j) d v t)

module _ (j : ℕ) (d : Design) (K : Remembers d) (w v : List ℕ) (X : Pictured j d w v) where
  module _ (s : Step) (x : ℕ) (P : kind_of (with_source s x) ≡ tag_kind j d.boards (kind_of s)) where
    abbrev t : Step
    t = with_source s x

    -- by a rule of the table
    rule-there : is_stop s ≡ false → mem (stopped_in j d w) s.board ≡ false → take_fault j d w s ≡ 0 → Agrees j d w v s t
    rule-there e z g =
        let u : mem (stopped_in (suc j) d v) s.board ≡ false = ap (λ (S : ℕ). mem S s.board) X.stops ∙ z in
        let a = take_moves j d w s X.fine_long z g in
        let b = tag-moves j d w v (taken j d w s) X s x P a in
        let h = moves_take (suc j) d v t X.coarse_long _ b in
        let S = moves-one d (column_of (suc j) d) t (view (suc j) d v) (view (suc j) d (taken (suc j) d v t)) _ (take_moves (suc j) d v t X.coarse_long u h) b in
        let p : Pictured j d (taken j d w s) (taken (suc j) d v t) = record {
          fine_long = length_taken j d w s ∙ X.fine_long;
          coarse_long = length_taken (suc j) d v t ∙ X.coarse_long;
          states = S.pc;
          rcvds = S.rcvd;
          sents = S.sent;
          stops = S.stopped;
          sound = still-sound j d K s (view j d w) (view j d (taken j d w s)) a X.sound;
        } in
        record {
          fine = take-accepted j d w s e z g;
          coarse = take-accepted (suc j) d v t e u h;
          pictured = subst⁻¹ (λ (y : List ℕ). Pictured j d y (stepped (suc j) d v t)) (stepped-take j d w s e) (subst⁻¹ (Pictured j d (taken j d w s)) (stepped-take (suc j) d v t e) p);
        }

    -- a stop
    stop_there : is_stop s ≡ true → s.board < d.boards → mem (stopped_in j d w) s.board ≡ false → silent s ≡ true → silent t ≡ true → stopped_count d (stopped_in j d w) + 1 + d.faulty ≤ d.tolerated → Agrees j d w v s t
    stop_there e b z a a' f =
        let C = d.boards in
        let T = d.types in
        let lw = X.fine_long in
        let lv = X.coarse_long in
        let u : mem (stopped_in (suc j) d v) s.board ≡ false = ap (λ (S : ℕ). mem S s.board) X.stops ∙ z in
        let g : stopped_count d (stopped_in (suc j) d v) + 1 + d.faulty ≤ d.tolerated = rw X.stops f in
        let p : Pictured j d (stop C T (wide j) s.board w) (stop C T (wide (suc j)) s.board v) = record {
          fine_long = length-stop C T (wide j) w lw s.board ∙ lw;
          coarse_long = length-stop C T (wide (suc j)) v lv s.board ∙ lv;
          states = λ q hq. state-stop C T (wide (suc j)) v lv s.board q hq ∙ X.states q hq ∙ sym (state-stop C T (wide j) w lw s.board q hq);
          rcvds = λ q m hq hm.
              coll-same (suc j) C d.faulty _ _ (λ i hi. cell-stop C T (wide (suc j)) v lv s.board q m i hq hm hi) ∙ X.rcvds q m hq hm
              ∙ ap (picture_of j d) (sym (coll-same j C d.faulty _ _ (λ i hi. cell-stop C T (wide j) w lw s.board q m i hq hm hi)));
          sents = λ m hm.
              ap (shown (suc j) C d.faulty) (sent-stop C T (wide (suc j)) v lv s.board m hm) ∙ X.sents m hm ∙ ap (picture_of j d) (sym (ap (shown j C d.faulty) (sent-stop C T (wide j) w lw s.board m hm)));
          stops = stopped-stop C T (wide (suc j)) v lv s.board ∙ ap (insert s.board) X.stops ∙ sym (stopped-stop C T (wide j) w lw s.board);
          sound = sound-same j d (view j d w) (view j d (stop C T (wide j) s.board w)) (λ q hq. state-stop C T (wide j) w lw s.board q hq)
              (λ q m hq hm. coll-same j C d.faulty _ _ (λ i hi. cell-stop C T (wide j) w lw s.board q m i hq hm hi)) (λ m hm. ap (shown j C d.faulty) (sent-stop C T (wide j) w lw s.board m hm)) X.sound;
        } in
        record {
          fine = stop-accepted j d w s e b z a f;
          coarse = stop-accepted (suc j) d v t e b u a' g;
          pictured = subst⁻¹ (λ (y : List ℕ). Pictured j d y (stepped (suc j) d v t)) (stepped-stop j d w s e) (subst⁻¹ (Pictured j d (stop C T (wide j) s.board w)) (stepped-stop (suc j) d v t e) p);
        }

    -- what it hears is in transit: as many messages are counted
    rule_back : is_stop s ≡ false → mem (stopped_in (suc j) d v) s.board ≡ false → CanHear d (column_of j d) (kind_of s) (rcvd_in j d w s.board) (sent_in j d w) → take_fault (suc j) d v t ≡ 0 → Agrees j d w v s t
    rule_back e u H h =
        let B = accepted (suc j) d v t h in
        let b = B.arrives.board in
        let A = arrives_by j d w s b B.arrives.rule (sym (X.states s.board b) ∙ B.arrives.leaves) H in
        let same : (m : ℕ) → m < d.types → count_of j d (heard j d w s) s.board m ≡ count_of (suc j) d (heard (suc j) d v t) s.board m = λ m hm.
        ap (column_of j d).card (rcvd_heard j d w s X.fine_long A m hm) ∙ sym ((L j d).card _)
        ∙ ap (column_of (suc j) d).card (pictures_heard j d w v X s.board b (kind_of s) H m hm ∙ ap (λ (κ : Kind). added (column_of (suc j) d) κ (rcvd_in (suc j) d v s.board) m) (sym P)
        ∙ sym (rcvd_heard (suc j) d v t X.coarse_long B.arrives m hm)) in
        rule-there e (ap (λ (S : ℕ). mem S s.board) (sym X.stops) ∙ u) (not_refused j d w s (record { arrives = A; met = λ m hm. ap (d.met s.rule m) (same m hm) ∙ B.met m hm }))

  module _ (s : Step) where
    -- ---- to the coarser level
    tag_kind_lem : CanHear d (column_of j d) (kind_of s) (rcvd_in j d w s.board) (sent_in j d w) → kind_of (tagged j d s) ≡ tag_kind j d.boards (kind_of s)
    unfolding tag_by
    tag_kind_lem =
        let q = tag_of j d.boards s.source in
        by_kind (λ (κ : Kind). CanHear d (column_of j d) κ (rcvd_in j d w s.board) (sent_in j d w) → kind_of (with_source s (source_in κ s.source q)) ≡ tag_kind j d.boards κ) s
        (λ e H. kind-silent s e) (λ e H. kind-message (with_source s q) (typed d.types s q K.few H.type))

    there : Accepts j d w s → Agrees j d w v s (tagged j d s)
    unfolding tag_by
    there (takes e z f) = rule-there s (tagged j d s).source (tag_kind_lem (hears_of j d w s (accepted j d w s f).arrives)) e z f
    there (stops e b z a f) =
        let q : tagged j d s ≡ s = tagged-silent j d s a in
        subst⁻¹ (Agrees j d w v s) q (stop_there s s.source (kind-silent s a ∙ ap (tag_kind j d.boards) (sym (kind-silent s a))) e b z a a f)

    pub forward : step_fault j d w s ≡ 0 → StepThere j d w v s
    forward h = let A = there (accepts_by_lem j d w s h) in record { accepted = A.coarse; pictured = A.pictured }

    -- ---- to the finer level
    pub low_is : Arrives (suc j) d v s → silent s ≡ false → Source j d.boards d.faulty s.source (rcvd_in j d w s.board s.type) (sent_in j d w s.type) (low_sender j d w s)
    unfolding low_sender
    low_is B e =
        let M = B.named e in
        let r = X.rcvds s.board s.type B.board M.type in
        let o = X.sents s.type M.type in
        lowest-source j d.boards d.faulty s.source _ _ M.source (X.sound.within s.board s.type B.board M.type) (sym (λ i. (column_of (suc j) d).in_transit s.source (r i) (o i)) ∙ B.transit e)

    -- nobody below it has that tag and is in transit
    pub low_first : (q : ℕ) → q < low_sender j d w s → tag_of j d.boards q ≡ s.source → (column_of j d).in_transit q (rcvd_in j d w s.board s.type) (sent_in j d w s.type) ≡ true → ⊥
    unfolding low_sender
    low_first q h e t = true≢false (sym (and-made _ _ (eq-eqb _ _ e) t) ∙ least_first (column_of j d).sources _ q h)

    pub record Lowered (l : Step) : Type 0 where
      pub agree : Agrees j d w v l s
      pub trip : tagged j d l ≡ s

    pub low_silent : step_fault (suc j) d v s ≡ 0 → silent s ≡ true → Lowered s
    low_silent h e = record { agree = go (accepts_by_lem (suc j) d v s h); trip = tagged-silent j d s e }
      where
        z : kind_of s ≡ silence
        z = kind-silent s e

        go : Accepts (suc j) d v s → Agrees j d w v s s
        go (takes n u f) = rule_back s s.source (z ∙ ap (tag_kind j d.boards) (sym z)) n u (subst⁻¹ (Fine j d w v X s.board (accepted (suc j) d v s f).arrives.board) z tt) f
        go (stops n b u a f) = stop_there s s.source (z ∙ ap (tag_kind j d.boards) (sym z)) n b (ap (λ (S : ℕ). mem S s.board) (sym X.stops) ∙ u) a a (rw (← X.stops) f)

    -- a step with a message is by a rule of the table
    pub by_rule_lem : step_fault (suc j) d v s ≡ 0 → silent s ≡ false → (is_stop s ≡ false) × (mem (stopped_in (suc j) d v) s.board ≡ false) × (take_fault (suc j) d v s ≡ 0)
    by_rule_lem h e =
        let n = loud_rule (suc j) d v s e h in
        let r = ruled (suc j) d v s n h in
        (n, r.0, r.1)

    -- any source in transit that has the tag will do
    pub by_source : step_fault (suc j) d v s ≡ 0 → silent s ≡ false → (q : ℕ) → Source j d.boards d.faulty s.source (rcvd_in j d w s.board s.type) (sent_in j d w s.type) q
        → Lowered (with_source s q)
    by_source h e q S =
        let R = by_rule_lem h e in
        let B = (accepted (suc j) d v s R.2).arrives in
        let n = typed d.types s q K.few (B.named e).type in
        let z = kind-message (with_source s q) n in
        record {
          agree = rule_back (with_source s q) s.source (kind-message s e ∙ ap (message s.type) (sym S.tags) ∙ ap (tag_kind j d.boards) (sym z)) R.0 R.1
              (subst⁻¹ (Fine j d w v X s.board B.board) z (record { type = (B.named e).type; source = S.below; transit = S.moving })) R.2;
          trip = tagged-message j d (with_source s q) n ∙ ap (with_source s) S.tags;
        }

    pub low_message : step_fault (suc j) d v s ≡ 0 → silent s ≡ false → Lowered (with_source s (low_sender j d w s))
    low_message h e = by_source h e (low_sender j d w s) (low_is (accepted (suc j) d v s (by_rule_lem h e).2).arrives e)

    pub backward : step_fault (suc j) d v s ≡ 0 → StepBack j d w v s
    backward h =
        let Z = yes_no (silent s) (λ e. subst⁻¹ Lowered (lowest-silent j d s w e) (low_silent h e)) (λ e. subst⁻¹ Lowered (lowest-message j d s w e) (low_message h e)) in
        record { accepted = Z.agree.fine; trip = Z.trip; pictured = Z.agree.pictured }
