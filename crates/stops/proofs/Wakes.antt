-- Of words w and words v that show the same boards, with nobody stopped in v who is not stopped in w: what w accepts by a rule, v accepts, since each check but 26 looks at what is
-- the same, and 26 passes where fewer are stopped; and both then show the same again, since a move leads to one configuration. A stop in w alone leaves them so.
use mathlib.Core.Path.{◌≡◌, refl, sym, ap, ◌∙◌, subst⁻¹}
use mathlib.Core.Bool.{true, false, true≢false}
use mathlib.Core.List.{List}
use Prim.Native.Nat.{ℕ, ◌<◌}
use lib.Dec.{eqb}
use lib.ListN.{length}
use Rattle.senders.specs.Set.{mem}
use Rattle.senders.proofs.SetLaws.{insert-keeps}
use Rattle.fault.specs.Fault.{◌if◌else◌}
use Rattle.paper.specs.Paper.{Design, Conf, Step, newly, is_stop, Kind, silence, message, kind_of, CanHear, added, Moves}
use Rattle.paper.specs.Words.{size, state}
use Rattle.paper.specs.Form.{wide, shown}
use Rattle.paper.specs.Step.{column_of, rcvd_in, sent_in, stopped_in, view, taken, take_fault, step_fault, stepped}
use Rattle.paper.proofs.Cases.{yes_no}
use Rattle.paper.proofs.FormLaws.{coll-same}
use Rattle.paper.proofs.WordLaws.{length-stop, stopped-stop, state-stop, cell-stop, sent-stop}
use Rattle.paper.proofs.StepLaws.{length_taken, take_moves, moves_take, moves-one, stepped-take, stepped-stop, take-accepted}
use Rattle.stops.specs.Stops.{SameBoards}

-- v has the boards of w, and whoever is stopped in it is stopped in w
pub record Wakes (k : ℕ) (d : Design) (w v : List ℕ) : Type 0 where
  pub long : length w ≡ size d.boards d.types (wide k)
  pub woken_long : length v ≡ size d.boards d.types (wide k)
  pub boards : SameBoards k d w v
  pub stopped : (p : ℕ) → mem (stopped_in k d v) p ≡ true → mem (stopped_in k d w) p ≡ true

pub wakes_itself : (k : ℕ) (d : Design) (w : List ℕ) → length w ≡ size d.boards d.types (wide k) → Wakes k d w w
wakes_itself k d w l = record {
  long = l;
  woken_long = l;
  boards = record { states = λ p h. refl; rcvds = λ p m hp hm. refl; sents = λ m hm. refl };
  stopped = λ p h. h;
}

module _ (k : ℕ) (d : Design) (w v : List ℕ) (X : Wakes k d w v) where
  -- who is awake in w is awake in v
  awake_too : (p : ℕ) → mem (stopped_in k d w) p ≡ false → mem (stopped_in k d v) p ≡ false
  awake_too p z = yes_no (mem (stopped_in k d v) p) (λ e. absurd (true≢false (sym (X.stopped p e) ∙ z))) (λ e. e)

  -- ---- what board p hears in w, it hears in v
  module _ (p : ℕ) (hp : p < d.boards) where
    hears_too : (κ : Kind) → CanHear d (column_of k d) κ (rcvd_in k d w p) (sent_in k d w) → CanHear d (column_of k d) κ (rcvd_in k d v p) (sent_in k d v)
    hears_too silence H = tt
    hears_too (message m q) H =
        let r = X.boards.rcvds p m hp H.type in
        let o = X.boards.sents m H.type in
        record { type = H.type; source = H.source; transit = (λ i. (column_of k d).in_transit q (r i) (o i)) ∙ H.transit }

    same_added : (κ : Kind) (m : ℕ) → m < d.types → added (column_of k d) κ (rcvd_in k d v p) m ≡ added (column_of k d) κ (rcvd_in k d w p) m
    same_added silence m hm = X.boards.rcvds p m hp hm
    same_added (message t q) m hm = ap (λ (M : (column_of k d).Coll). (column_of k d).add q M if eqb t m else M) (X.boards.rcvds p m hp hm)

  -- ---- a move from w is a move from v, to the same boards
  module _ (s : Step) (w' : List ℕ) (a : Moves d (column_of k d) s (view k d w) (view k d w')) where
    abbrev woken : Conf (column_of k d).Coll
    woken = record { pc = state w'; rcvd = rcvd_in k d w'; sent = sent_in k d w'; stopped = stopped_in k d v }

    same_new : (m : ℕ) → newly d (state w s.board) (state w' s.board) m ≡ newly d (state v s.board) (state w' s.board) m
    same_new m = ap (λ (ℓ : ℕ). newly d ℓ (state w' s.board) m) (sym (X.boards.states s.board a.board))

    moves_too : Moves d (column_of k d) s (view k d v) woken
    moves_too = record {
      board = a.board;
      awake = awake_too s.board a.awake;
      stopped = refl;
      local = record { rule = a.local.rule; leaves = X.boards.states s.board a.board ∙ a.local.leaves; enters = a.local.enters; met = a.local.met };
      hears = hears_too s.board a.board (kind_of s) a.hears;
      receives = λ m hm. a.receives m hm ∙ sym (same_added s.board a.board (kind_of s) m hm);
      sends = λ m hm e. a.sends m hm (same_new m ∙ e) ∙ ap ((column_of k d).add ((column_of k d).own s.board)) (sym (X.boards.sents m hm));
      keeps = λ m hm e. a.keeps m hm (same_new m ∙ e) ∙ sym (X.boards.sents m hm);
      others_pc = λ q hq o. a.others_pc q hq o ∙ sym (X.boards.states q hq);
      others_rcvd = λ q m hq hm o. a.others_rcvd q m hq hm o ∙ sym (X.boards.rcvds q m hq hm);
    }

  -- ---- a step by a rule, accepted from w
  pub record RuleToo (s : Step) : Type 0 where
    pub accepted : step_fault k d v s ≡ 0
    pub wakes : Wakes k d (stepped k d w s) (stepped k d v s)

  pub rule_too : (s : Step) → is_stop s ≡ false → mem (stopped_in k d w) s.board ≡ false → take_fault k d w s ≡ 0 → RuleToo s
  rule_too s e z f =
      let a = take_moves k d w s X.long z f in
      let b = moves_too s (taken k d w s) a in
      let u = awake_too s.board z in
      let g = moves_take k d v s X.woken_long _ b in
      let S = moves-one d (column_of k d) s (view k d v) (view k d (taken k d v s)) _ (take_moves k d v s X.woken_long u g) b in
      let t : Wakes k d (taken k d w s) (taken k d v s) = record {
        long = length_taken k d w s ∙ X.long;
        woken_long = length_taken k d v s ∙ X.woken_long;
        boards = record { states = S.pc; rcvds = S.rcvd; sents = S.sent };
        stopped = λ p h. ap (λ (x : ℕ). mem x p) a.stopped ∙ X.stopped p (ap (λ (x : ℕ). mem x p) (sym S.stopped) ∙ h);
      } in
      record {
        accepted = take-accepted k d v s e u g;
        wakes = subst⁻¹ (λ (x : List ℕ). Wakes k d x (stepped k d v s)) (stepped-take k d w s e) (subst⁻¹ (Wakes k d (taken k d w s)) (stepped-take k d v s e) t);
      }

  -- ---- a stop, in w alone: the boards are as they were, and one more is stopped
  pub stop_alone : (s : Step) → is_stop s ≡ true → Wakes k d (stepped k d w s) v
  stop_alone s e =
      let C = d.boards in
      let T = d.types in
      let l = X.long in
      let p = s.board in
      subst⁻¹ (λ (x : List ℕ). Wakes k d x v) (stepped-stop k d w s e) (record {
        long = length-stop C T (wide k) w l p ∙ l;
        woken_long = X.woken_long;
        boards = record {
          states = λ q h. X.boards.states q h ∙ sym (state-stop C T (wide k) w l p q h);
          rcvds = λ q m hq hm. X.boards.rcvds q m hq hm ∙ sym (coll-same k C d.faulty _ _ (λ i hi. cell-stop C T (wide k) w l p q m i hq hm hi));
          sents = λ m hm. X.boards.sents m hm ∙ sym (ap (shown k C d.faulty) (sent-stop C T (wide k) w l p m hm));
        };
        stopped = λ q h. ap (λ (x : ℕ). mem x q) (stopped-stop C T (wide k) w l p) ∙ insert-keeps p q _ (X.stopped q h);
      })
