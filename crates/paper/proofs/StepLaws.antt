-- A step is accepted exactly when the paper's relation holds for it, since each check is one of its parts; and its words are then the ones that the
-- relation gives, since receipt, move and send change what it says and no other view.
use mathlib.Core.Path.{◌≡◌, refl, sym, ap, ◌∙◌, subst, subst⁻¹}
use mathlib.Core.Logic.{◌≢◌}
use mathlib.Core.Bool.{Bool, true, false, not, ◌&&◌, ◌||◌, true≢false}
use mathlib.Core.List.{List}
use Prim.Native.Nat.{ℕ, ◌+◌, ◌≤◌, ◌<◌}
use native.Mathlib.Nat.{le_refl}
use native.Mathlib.Omega.{arith}
use lib.Dec.{eqb}
use lib.ListN.{length, set, length-set}
use borrow.Author.Tests.{leb-false, ltb-false, le-ltb, lt-leb, eq-eqb, eqb-true, eqb-false, not-false}
use Rattle.senders.specs.Tally.{digit}
use Rattle.senders.specs.Set.{mem}
use Rattle.senders.proofs.TallyLaws.{every-each, every_made}
use Rattle.fault.specs.Tests.{◌at_least◌}
use Rattle.fault.specs.Fault.{◌if◌else◌}
use Rattle.fault.proofs.FaultLaws.{if_passed, if_keeps, if_no, if_most}
use Rattle.fault.proofs.TestLaws.{or-none, same}
use Rattle.paper.specs.Paper.{Design, Interp, Conf, Step, newly, silent, Kind, silence, message, kind_of, Coming, CanHear, added, Moves, Steps, by_rule, by_stop, Same, stop_rule, is_stop, stopped_count}
use Rattle.paper.specs.Words.{size, state, sent, hear, stop}
use Rattle.paper.specs.Form.{wide, slot, bump, shown}
use Rattle.paper.specs.Step.{column_of, rcvd_in, sent_in, stopped_in, view, count_of, receipt, heard, taken, out_of_range, malformed, not_coming, not_in_transit, not_met, take_fault, stop_fault, step_fault, stepped}
use Rattle.paper.proofs.Cases.{yes_no, same_or}
use Rattle.paper.proofs.WordLaws.{length-hear, state-hear, sent-hear, cell-hear-same, cell-hear-other, state_move_same, state_move_other, cell_move, sent_move, length-tell, state-tell, cell-tell, sent-tell, stopped-hear, stopped_move, stopped-tell, stopped-stop, state-stop, cell-stop, sent-stop}
use Rattle.paper.proofs.FormLaws.{slot-below, coll-same, coll-bump, shown-bump, card-add}

-- ---- the kind of a step
pub kind-silent : (s : Step) → silent s ≡ true → kind_of s ≡ silence
unfolding kind_of ◌if◌else◌
kind-silent s e = rw e

pub kind-message : (s : Step) → silent s ≡ false → kind_of s ≡ message s.type s.source
unfolding kind_of ◌if◌else◌
kind-message s e = rw e

-- what holds without a message and with one holds for its kind
pub by_kind : (P : Kind → Type 0) (s : Step) → (silent s ≡ true → P silence) → (silent s ≡ false → P (message s.type s.source)) → P (kind_of s)
unfolding kind_of
by_kind P s = if_keeps P silence (silent s) (message s.type s.source)

-- a function of the kind, as a test of the bytes
pub kind_if : {A : Type 0} (f : Kind → A) (s : Step) → f (kind_of s) ≡ (f silence if silent s else f (message s.type s.source))
unfolding ◌if◌else◌
kind_if f s = by_kind (λ (κ : Kind). f κ ≡ (f silence if silent s else f (message s.type s.source))) s (λ e. rw e) (λ e. rw e)

unless_silent : (f : Kind → Bool) (s : Step) → f silence ≡ false → f (kind_of s) ≡ (not (silent s) && f (message s.type s.source))
unless_silent f s h = by_kind (λ (κ : Kind). f κ ≡ (not (silent s) && f (message s.type s.source))) s (λ e. rw e h) (λ e. rw e)

-- a message that comes, of a type that is m
pub coming_at : {d : Design} {I : Interp} {t q : ℕ} {rcvd sent : ℕ → I.Coll} → Coming d I t q rcvd sent → (m : ℕ) → eqb t m ≡ true → I.in_transit q (rcvd m) (sent m) ≡ true
coming_at {d} {I} {t} {q} {rcvd} {sent} H m z = subst (λ (x : ℕ). I.in_transit q (rcvd x) (sent x) ≡ true) (eqb-true t m z) H.transit

-- ---- what the checks tell, one by one
-- the message that a step names
pub record Named (k : ℕ) (d : Design) (s : Step) : Type 0 where
  pub type : s.type < d.types
  pub source : s.source < (column_of k d).sources

-- the first five checks
pub record Arrives (k : ℕ) (d : Design) (w : List ℕ) (s : Step) : Type 0 where
  pub board : s.board < d.boards
  pub rule : s.rule < d.rules
  pub leaves : state w s.board ≡ d.from s.rule
  pub named : silent s ≡ false → Named k d s
  pub transit : silent s ≡ false → (column_of k d).in_transit s.source (rcvd_in k d w s.board s.type) (sent_in k d w s.type) ≡ true

-- all six
pub record Accepted (k : ℕ) (d : Design) (w : List ℕ) (s : Step) : Type 0 where
  pub arrives : Arrives k d w s
  pub met : (m : ℕ) → m < d.types → d.met s.rule m (count_of k d (heard k d w s) s.board m) ≡ true

-- what words v show that come after a receipt of board p
record Shows (k : ℕ) (d : Design) (w : List ℕ) (p : ℕ) (κ : Kind) (v : List ℕ) : Type 0 where
  states : (q : ℕ) → q < d.boards → state v q ≡ state w q
  sents : (m : ℕ) → sent_in k d v m ≡ sent_in k d w m
  stops : stopped_in k d v ≡ stopped_in k d w
  others : (q m : ℕ) → q < d.boards → m < d.types → q ≢ p → rcvd_in k d v q m ≡ rcvd_in k d w q m
  mine : (m : ℕ) → m < d.types → rcvd_in k d v p m ≡ added (column_of k d) κ (rcvd_in k d w p) m

-- the message is of type m
abbrev names : Kind → ℕ → Bool
names silence m = false
names (message t q) m = eqb t m

-- ---- by the kind of a step
module _ (k : ℕ) (d : Design) (w : List ℕ) (p : ℕ) where
  abbrev Hears : Kind → Type 0
  Hears κ = CanHear d (column_of k d) κ (rcvd_in k d w p) (sent_in k d w)

  formed : (κ : Kind) → Hears κ → out_of_range k d κ ≡ false
  formed silence H = refl
  formed (message m q) H = rw (lt-leb _ _ H.type, lt-leb _ _ H.source)

  coming : (κ : Kind) → Hears κ → not_coming k d w p κ ≡ false
  coming silence H = refl
  coming (message m q) H = ap not H.transit

  length-receipt : (κ : Kind) → length (receipt k d w p κ) ≡ length w
  length-receipt silence = refl
  length-receipt (message m q) = length-hear d.boards d.types (wide k) w _ _ _ _

  card-added : (κ : Kind) → Hears κ → (m : ℕ) → (column_of k d).card (added (column_of k d) κ (rcvd_in k d w p) m) ≡ count_of k d w p m + digit (names κ m)
  unfolding ◌if◌else◌
  card-added silence H m = omega arith
  card-added (message t q) H m = go (eqb t m) refl
    where
      go : (b : Bool) → eqb t m ≡ b → (column_of k d).card ((column_of k d).add q (rcvd_in k d w p m) if b else rcvd_in k d w p m) ≡ count_of k d w p m + digit b
      go true z = card-add k d.boards d.faulty q _ _ H.source (coming_at H m z) ∙ omega arith
      go false z = omega arith

  module _ (l : length w ≡ size d.boards d.types (wide k)) (hp : p < d.boards) where
    shows : (κ : Kind) → Hears κ → Shows k d w p κ (receipt k d w p κ)
    shows silence H = record { states = λ q h. refl; sents = λ m. refl; stops = refl; others = λ q m hq hm o. refl; mine = λ m hm. refl }
    shows (message m q) H =
        let C = d.boards in
        let T = d.types in
        let e = slot k q in
        let g = bump k q in
        let he = slot-below k C d.faulty q H.source in
        let v = hear C T (wide k) p m e g w in
        let other = cell-hear-other C T (wide k) w l p m e g hp H.type he in
        record {
          states = state-hear C T (wide k) w l p m e g hp H.type he;
          stops = stopped-hear C T (wide k) w l p m e g hp H.type he;
          sents = λ j. ap (shown k C d.faulty) (sent-hear C T (wide k) w l p m e g hp H.type he j);
          others = λ x j hx hj o. coll-same k C d.faulty _ _ (λ i hi. other x j i hj hi (λ r. o r.0));
          mine = λ j hj.
              if_keeps (λ (M : (column_of k d).Coll). rcvd_in k d v p j ≡ M) _ (eqb m j) _ (λ z. subst (λ (x : ℕ). rcvd_in k d v p x ≡ (column_of k d).add q (rcvd_in k d w p x)) (eqb-true m j z)
              (coll-bump k C d.faulty q _ _ H.source (cell-hear-same C T (wide k) w l p m e g hp H.type he) (λ i hi o. other p m i H.type hi (λ r. o r.2))))
              (λ z. coll-same k C d.faulty _ _ (λ i hi. other p j i hj hi (λ r. eqb-false m j z (sym r.1))));
        }

module _ (k : ℕ) (d : Design) (w : List ℕ) (s : Step) where
  -- the definitions by kind, as tests of the bytes
  pub malformed_if : malformed k d s ≡ (not (silent s) && (s.type at_least d.types || s.source at_least (column_of k d).sources))
  unfolding malformed
  malformed_if = unless_silent (out_of_range k d) s refl

  pub transit_if : not_in_transit k d w s ≡ (not (silent s) && not ((column_of k d).in_transit s.source (rcvd_in k d w s.board s.type) (sent_in k d w s.type)))
  unfolding not_in_transit
  transit_if = unless_silent (not_coming k d w s.board) s refl

  pub named_of : malformed k d s ≡ false → silent s ≡ false → Named k d s
  unfolding malformed
  named_of h e = let p = or-none (s.type at_least d.types) _ (rw (kind-message s e) at h) in record { type = leb-false _ _ p.0; source = leb-false _ _ p.1 }

  pub transit_of : not_in_transit k d w s ≡ false → silent s ≡ false → (column_of k d).in_transit s.source (rcvd_in k d w s.board s.type) (sent_in k d w s.type) ≡ true
  unfolding not_in_transit
  transit_of h e = not-false _ (rw (kind-message s e) at h)

  -- the message, by the kind and by the bytes
  pub hears_of : Arrives k d w s → CanHear d (column_of k d) (kind_of s) (rcvd_in k d w s.board) (sent_in k d w)
  hears_of B = by_kind (Hears k d w s.board) s (λ e. tt) (λ e. record { type = (B.named e).type; source = (B.named e).source; transit = B.transit e })

  pub arrives_by : s.board < d.boards → s.rule < d.rules → state w s.board ≡ d.from s.rule → CanHear d (column_of k d) (kind_of s) (rcvd_in k d w s.board) (sent_in k d w)
      → Arrives k d w s
  arrives_by b r f H =
      let one : silent s ≡ false → Coming d (column_of k d) s.type s.source (rcvd_in k d w s.board) (sent_in k d w) = λ e. subst (Hears k d w s.board) (kind-message s e) H in
      record { board = b; rule = r; leaves = f; named = λ e. record { type = (one e).type; source = (one e).source }; transit = λ e. (one e).transit }

  zero_if : (n : ℕ) (t : Bool) (rest : ℕ) → (n ≡ 0 → ⊥) → (n if t else rest) ≡ 0 → (t ≡ false) × (rest ≡ 0)
  zero_if n t rest = if_passed (λ (x : ℕ). x ≡ 0) n t rest

  pub accepted : take_fault k d w s ≡ 0 → Accepted k d w s
  unfolding take_fault not_met
  accepted h =
      let a = zero_if 20 _ _ (λ z. omega arith) h in
      let b = zero_if 21 _ _ (λ z. omega arith) a.1 in
      let c = zero_if 22 _ _ (λ z. omega arith) b.1 in
      let e = zero_if 23 _ _ (λ z. omega arith) c.1 in
      let f = zero_if 24 _ _ (λ z. omega arith) e.1 in
      let g = zero_if 25 _ _ (λ z. omega arith) f.1 in
      record {
        arrives = record { board = leb-false _ _ a.0; rule = leb-false _ _ b.0; leaves = same _ _ c.0; named = named_of e.0; transit = transit_of f.0 };
        met = every-each d.types _ (not-false _ g.0);
      }

  -- where the first five checks pass, the sixth is left
  pub sixth : Arrives k d w s → take_fault k d w s ≡ (25 if not_met k d w s else 0)
  unfolding take_fault malformed not_in_transit
  sixth B =
      sym (
      if_no 20 refl (lt-leb _ _ B.board) (if_no 21 refl (lt-leb _ _ B.rule) (if_no 22 refl (ap not (eq-eqb _ _ B.leaves))
      (if_no 23 refl (formed k d w s.board (kind_of s) (hears_of B)) (if_no 24 refl (coming k d w s.board (kind_of s) (hears_of B)) refl)))))

  pub not_refused : Accepted k d w s → take_fault k d w s ≡ 0
  unfolding not_met
  not_refused A = sixth A.arrives ∙ sym (if_no 25 refl (ap not (every_made d.types _ A.met)) refl)

  take_most : take_fault k d w s ≤ 25
  unfolding take_fault
  take_most = if_most _ (omega arith) (if_most _ (omega arith) (if_most _ (omega arith) (if_most _ (omega arith) (if_most _ (omega arith) (if_most _ (omega arith) (omega arith))))))

  -- ---- the receipt
  pub heard_silent : silent s ≡ true → heard k d w s ≡ w
  unfolding heard
  heard_silent e = ap (receipt k d w s.board) (kind-silent s e)

  pub heard_message : silent s ≡ false → heard k d w s ≡ hear d.boards d.types (wide k) s.board s.type (slot k s.source) (bump k s.source) w
  unfolding heard
  heard_message e = ap (receipt k d w s.board) (kind-message s e)

  pub heard_if : heard k d w s ≡ (w if silent s else hear d.boards d.types (wide k) s.board s.type (slot k s.source) (bump k s.source) w)
  unfolding heard
  heard_if = kind_if (receipt k d w s.board) s

  pub length_heard : length (heard k d w s) ≡ length w
  unfolding heard
  length_heard = length-receipt k d w s.board (kind_of s)

  pub length_taken : length (taken k d w s) ≡ length w
  unfolding taken
  length_taken = length-tell d.boards d.types (wide k) _ _ d.types _ ∙ length-set (heard k d w s) s.board (d.to s.rule) ∙ length_heard

  module _ (l : length w ≡ size d.boards d.types (wide k)) (B : Arrives k d w s) where
    hears : Shows k d w s.board (kind_of s) (heard k d w s)
    unfolding heard
    hears = shows k d w s.board l B.board (kind_of s) (hears_of B)

    pub rcvd_heard : (m : ℕ) → m < d.types → rcvd_in k d (heard k d w s) s.board m ≡ added (column_of k d) (kind_of s) (rcvd_in k d w s.board) m
    rcvd_heard = hears.mine

    -- ---- the whole step
    rcvd_stepped : (q m : ℕ) → q < d.boards → m < d.types → rcvd_in k d (taken k d w s) q m ≡ rcvd_in k d (heard k d w s) q m
    unfolding taken
    rcvd_stepped q m hq hm =
        coll-same k d.boards d.faulty _ _ (λ i hi.
        cell-tell d.boards d.types (wide k) _ _ d.types _ q m i hq hm hi
        ∙ cell_move d.boards d.types (wide k) (heard k d w s) (length_heard ∙ l) s.board (d.to s.rule) B.board q m i)

    state_stepped_same : state (taken k d w s) s.board ≡ d.to s.rule
    unfolding taken
    state_stepped_same =
        state-tell d.boards d.types (wide k) _ _ d.types _ s.board B.board
        ∙ state_move_same d.boards d.types (wide k) (heard k d w s) (length_heard ∙ l) s.board (d.to s.rule) B.board

    state_stepped_other : (q : ℕ) → q < d.boards → q ≢ s.board → state (taken k d w s) q ≡ state w q
    unfolding taken
    state_stepped_other q hq o =
        state-tell d.boards d.types (wide k) _ _ d.types _ q hq
        ∙ state_move_other d.boards d.types (wide k) (heard k d w s) (length_heard ∙ l) s.board (d.to s.rule) B.board q o ∙ hears.states q hq

    -- the sent word of a type, changed where the type is new
    sent_stepped : (m : ℕ) → m < d.types → (b : Bool) → newly d (d.from s.rule) (d.to s.rule) m ≡ b
        → sent d.boards d.types (wide k) (taken k d w s) m ≡
        (bump k ((column_of k d).own s.board) (sent d.boards d.types (wide k) (heard k d w s) m) if b else sent d.boards d.types (wide k) (heard k d w s) m)
    unfolding taken
    sent_stepped m hm b e =
        let u = set (heard k d w s) s.board (d.to s.rule) in
        let g = bump k ((column_of k d).own s.board) in
        sent-tell d.boards d.types (wide k) _ g u (length-set (heard k d w s) s.board (d.to s.rule) ∙ length_heard ∙ l) d.types m (le_refl d.types) hm
        ∙ ap (λ (x : ℕ). g x if newly d (d.from s.rule) (d.to s.rule) m else x) (sent_move d.boards d.types (wide k) (heard k d w s) (length_heard ∙ l) s.board (d.to s.rule) B.board m)
        ∙ ap (λ (c : Bool). g (sent d.boards d.types (wide k) (heard k d w s) m) if c else sent d.boards d.types (wide k) (heard k d w s) m) e

    stopped_taken : stopped_in k d (taken k d w s) ≡ stopped_in k d w
    unfolding taken
    stopped_taken =
        stopped-tell d.boards d.types (wide k) _ _ d.types _ (le_refl d.types)
        ∙ stopped_move d.boards d.types (wide k) (heard k d w s) (length_heard ∙ l) s.board (d.to s.rule) B.board ∙ hears.stops

    newly_stepped : (m : ℕ) → newly d (state w s.board) (state (taken k d w s) s.board) m ≡ newly d (d.from s.rule) (d.to s.rule) m
    newly_stepped m = rw (B.leaves, state_stepped_same)

    -- the counts after the receipt: one more of the type that was received
    pub count_heard : (m : ℕ) → m < d.types → count_of k d (heard k d w s) s.board m ≡ count_of k d w s.board m + digit (not (silent s) && eqb s.type m)
    count_heard m hm =
        ap (column_of k d).card (rcvd_heard m hm) ∙ card-added k d w s.board (kind_of s) (hears_of B) m
        ∙ ap (λ (b : Bool). count_of k d w s.board m + digit b) (unless_silent (λ κ. names κ m) s refl)

    moves : mem (stopped_in k d w) s.board ≡ false → ((m : ℕ) → m < d.types → d.met s.rule m (count_of k d (heard k d w s) s.board m) ≡ true)
        → Moves d (column_of k d) s (view k d w) (view k d (taken k d w s))
    unfolding ◌if◌else◌
    moves z h =
        let C = d.boards in
        let f = d.faulty in
        let mine : (m : ℕ) → m < d.types → rcvd_in k d (taken k d w s) s.board m ≡ rcvd_in k d (heard k d w s) s.board m = λ m hm. rcvd_stepped s.board m B.board hm in
        record {
          board = B.board;
          awake = z;
          stopped = stopped_taken;
          local = record { rule = B.rule; leaves = B.leaves; enters = state_stepped_same; met = λ m hm. ap (λ (M : (column_of k d).Coll). d.met s.rule m ((column_of k d).card M)) (mine m hm) ∙ h m hm };
          hears = hears_of B;
          receives = λ m hm. mine m hm ∙ rcvd_heard m hm;
          sends = λ m hm e. ap (shown k C f) (sent_stepped m hm true (sym (newly_stepped m) ∙ e)) ∙ shown-bump k C f s.board _ ∙ ap ((column_of k d).add ((column_of k d).own s.board)) (hears.sents m);
          keeps = λ m hm e. ap (shown k C f) (sent_stepped m hm false (sym (newly_stepped m) ∙ e)) ∙ hears.sents m;
          others_pc = state_stepped_other;
          others_rcvd = λ q m hq hm o. rcvd_stepped q m hq hm ∙ hears.others q m hq hm o;
        }

  -- ---- accepted and the relation
  pub take_moves : length w ≡ size d.boards d.types (wide k) → mem (stopped_in k d w) s.board ≡ false → take_fault k d w s ≡ 0 → Moves d (column_of k d) s (view k d w) (view k d (taken k d w s))
  take_moves l z h = let A = accepted h in moves l A.arrives z A.met

  -- the relation to any configuration: the step is accepted
  module _ (l : length w ≡ size d.boards d.types (wide k)) (σ : Conf (column_of k d).Coll) (mv : Moves d (column_of k d) s (view k d w) σ) where
    arrived : Arrives k d w s
    arrived = arrives_by mv.board mv.local.rule mv.local.leaves mv.hears

    same_rcvd : (m : ℕ) → m < d.types → σ.rcvd s.board m ≡ rcvd_in k d (heard k d w s) s.board m
    same_rcvd m hm = mv.receives m hm ∙ sym (rcvd_heard l arrived m hm)

    pub moves_take : take_fault k d w s ≡ 0
    moves_take = not_refused (record {
      arrives = arrived;
      met = λ m hm. ap (λ (M : (column_of k d).Coll). d.met s.rule m ((column_of k d).card M)) (sym (same_rcvd m hm)) ∙ mv.local.met m hm;
    })

-- ---- a step: by a rule of the table, or a stop
pub data Accepts (k : ℕ) (d : Design) (w : List ℕ) (s : Step) : Type 0 where
  takes : is_stop s ≡ false → mem (stopped_in k d w) s.board ≡ false → take_fault k d w s ≡ 0 → Accepts k d w s
  stops : is_stop s ≡ true → s.board < d.boards → mem (stopped_in k d w) s.board ≡ false → silent s ≡ true → stopped_count d (stopped_in k d w) + 1 + d.faulty ≤ d.tolerated → Accepts k d w s

module _ (k : ℕ) (d : Design) (w : List ℕ) (s : Step) where
  pub accepts_by_lem : step_fault k d w s ≡ 0 → Accepts k d w s
  unfolding step_fault stop_fault ◌if◌else◌
  accepts_by_lem h =
      let a = zero_if k d w s 20 _ _ (λ z. omega arith) h in
      let b = zero_if k d w s 26 _ _ (λ z. omega arith) a.1 in
      go (is_stop s) refl (leb-false _ _ a.0) b.0 b.1
    where
      go : (c : Bool) → is_stop s ≡ c → s.board < d.boards → mem (stopped_in k d w) s.board ≡ false → (stop_fault k d w s if is_stop s else take_fault k d w s) ≡ 0 → Accepts k d w s
      go false e l z q = takes e z (rw e at q)
      go true e l z q =
          let c = zero_if k d w s 23 (not (silent s)) _ (λ y. omega arith) (rw e at q) in
          let f = zero_if k d w s 27 _ _ (λ y. omega arith) c.1 in
          stops e l z (not-false _ c.0) (ltb-false _ _ f.0)

  pub stepped-take : is_stop s ≡ false → stepped k d w s ≡ taken k d w s
  unfolding stepped ◌if◌else◌
  stepped-take e = rw e

  pub stepped-stop : is_stop s ≡ true → stepped k d w s ≡ stop d.boards d.types (wide k) s.board w
  unfolding stepped ◌if◌else◌
  stepped-stop e = rw e

  pub take-accepted : is_stop s ≡ false → mem (stopped_in k d w) s.board ≡ false → take_fault k d w s ≡ 0 → step_fault k d w s ≡ 0
  unfolding step_fault ◌if◌else◌
  take-accepted e z f = rw (lt-leb _ _ (accepted k d w s f).arrives.board, z, e) f

  pub stop-accepted : is_stop s ≡ true → s.board < d.boards → mem (stopped_in k d w) s.board ≡ false → silent s ≡ true → stopped_count d (stopped_in k d w) + 1 + d.faulty ≤ d.tolerated → step_fault k d w s ≡ 0
  unfolding step_fault stop_fault ◌if◌else◌
  stop-accepted e b z a f = rw (lt-leb _ _ b, z, e, a, le-ltb _ _ f) refl

  -- an accepted step that is no stop is one by a rule
  pub ruled : is_stop s ≡ false → step_fault k d w s ≡ 0 → (mem (stopped_in k d w) s.board ≡ false) × (take_fault k d w s ≡ 0)
  ruled n h = go (accepts_by_lem h)
    where
      go : Accepts k d w s → (mem (stopped_in k d w) s.board ≡ false) × (take_fault k d w s ≡ 0)
      go (takes _ a f) = (a, f)
      go (stops e _ _ _ _) = absurd (true≢false (sym e ∙ n))

  -- and one with a message is no stop
  pub loud_rule : silent s ≡ false → step_fault k d w s ≡ 0 → is_stop s ≡ false
  loud_rule e h = go (accepts_by_lem h)
    where
      go : Accepts k d w s → is_stop s ≡ false
      go (takes n _ _) = n
      go (stops _ _ _ a _) = absurd (true≢false (sym a ∙ e))

  pub length-stepped : length (stepped k d w s) ≡ length w
  unfolding stepped stop ◌if◌else◌
  length-stepped = go (is_stop s)
    where
      go : (b : Bool) → length (stop d.boards d.types (wide k) s.board w if b else taken k d w s) ≡ length w
      go true = length-set w _ _
      go false = length_taken k d w s

  pub step_most : step_fault k d w s ≤ 27
  unfolding step_fault stop_fault
  step_most =
      if_most _ (omega arith) (if_most _ (omega arith) (if_most _ (if_most _ (omega arith) (if_most _ (omega arith) (omega arith))) (omega (arith, take_most k d w s))))

  pub step-related : length w ≡ size d.boards d.types (wide k) → step_fault k d w s ≡ 0 → Steps d (column_of k d) s (view k d w) (view k d (stepped k d w s))
  step-related l h = go (accepts_by_lem h)
    where
      go : Accepts k d w s → Steps d (column_of k d) s (view k d w) (view k d (stepped k d w s))
      go (takes e z f) = subst⁻¹ (λ (v : List ℕ). Steps d (column_of k d) s (view k d w) (view k d v)) (stepped-take e) (by_rule e (take_moves k d w s l z f))
      go (stops e b z a f) = subst⁻¹ (λ (v : List ℕ). Steps d (column_of k d) s (view k d w) (view k d v)) (stepped-stop e) (by_stop (record {
        board = b;
        rule = eqb-true s.rule stop_rule e;
        alone = a;
        awake = z;
        allowed = f;
        stops = stopped-stop d.boards d.types (wide k) w l s.board;
        pc = λ p h. state-stop d.boards d.types (wide k) w l s.board p h;
        rcvd = λ p m hp hm. coll-same k d.boards d.faulty _ _ (λ i hi. cell-stop d.boards d.types (wide k) w l s.board p m i hp hm hi);
        sent = λ m hm. ap (shown k d.boards d.faulty) (sent-stop d.boards d.types (wide k) w l s.board m hm);
      }))

-- ---- the relation gives one configuration
module _ (d : Design) (I : Interp) (s : Step) (σ σ' σ'' : Conf I.Coll) (a : Moves d I s σ σ') (b : Moves d I s σ σ'') where
  abbrev p : ℕ
  p = s.board

  same-pc : σ'.pc p ≡ σ''.pc p
  same-pc = a.local.enters ∙ sym b.local.enters

  same_new : (m : ℕ) → newly d (σ.pc p) (σ''.pc p) m ≡ newly d (σ.pc p) (σ'.pc p) m
  same_new m = ap (λ (x : ℕ). newly d (σ.pc p) x m) (sym same-pc)

  pub moves-one : Same d I σ' σ''
  moves-one = record {
    stopped = a.stopped ∙ sym b.stopped;
    pc = λ q h. same_or (λ (x : ℕ). σ'.pc x ≡ σ''.pc x) p q same-pc (λ o. a.others_pc q h o ∙ sym (b.others_pc q h o));
    rcvd = λ q m h hm.
        same_or (λ (x : ℕ). σ'.rcvd x m ≡ σ''.rcvd x m) p q (a.receives m hm ∙ sym (b.receives m hm)) (λ o. a.others_rcvd q m h hm o ∙ sym (b.others_rcvd q m h hm o));
    sent = λ m hm.
        yes_no (newly d (σ.pc p) (σ'.pc p) m) (λ e. a.sends m hm e ∙ sym (b.sends m hm (same_new m ∙ e))) (λ e. a.keeps m hm e ∙ sym (b.keeps m hm (same_new m ∙ e)));
  }
