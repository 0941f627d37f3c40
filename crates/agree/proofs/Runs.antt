-- The agreement of neighbouring levels for schedules: the picture, the start, and, since each step follows (proofs/Agree.antt), the words after each
-- number of steps; and from there that of all levels, a level further up or down at a time.
use mathlib.Core.Path.{◌≡◌, sym, ap, ap₂, ◌∙◌, subst, subst⁻¹}
use mathlib.Core.Bool.{false}
use mathlib.Core.List.{List, map}
use Prim.Native.Nat.{ℕ, zero, suc, ◌+◌, ◌-◌, ◌≤◌, ◌<◌}
use native.Mathlib.Decide.{dec_lt}
use native.Mathlib.Omega.{arith}
use lib.ListN.{length, get_or}
use Rattle.paper.specs.Paper.{Design, Step}
use Rattle.paper.specs.Words.{state, start}
use Rattle.paper.specs.Form.{wide}
use Rattle.paper.specs.Step.{column_of, rcvd_in, sent_in, view, step_fault, stepped}
use Rattle.paper.specs.Machine.{Follows}
use Rattle.paper.specs.Run.{machine_of, run, after}
use Rattle.paper.proofs.WordLaws.{start-low, length-start, cell-start, sent-start, same_words, stopped-start}
use Rattle.paper.proofs.FormLaws.{coll_inj, shown_inj, coll-init, shown-init}
use Rattle.paper.proofs.MachineLaws.{follow, follow_trip, follow-map}
use Rattle.agree.specs.Translation.{tag_by, tagged, lowest, low_all, coarser, finer, moved}
use Rattle.agree.specs.Picture.{Remembers, picture_of, Sound, Pictured}
use Rattle.agree.specs.Agreement.{OnePicture, RunThere, RunBack, InAllForms, Agreement}
use Rattle.agree.proofs.Columns.{picture_laws}
use Rattle.agree.proofs.Sound.{start-sound}
use Rattle.agree.proofs.Agree.{forward, backward}

pub one_picture : (j : ℕ) (d : Design) → OnePicture j d
one_picture j d w v v' X Y =
    same_words d.boards d.types (wide (suc j)) v v' X.coarse_long Y.coarse_long (λ p h. X.states p h ∙ sym (Y.states p h))
    (λ p m i hp hm hi. coll_inj (suc j) d.boards d.faulty _ _ (X.rcvds p m hp hm ∙ sym (Y.rcvds p m hp hm)) i hi)
    (λ m hm. shown_inj (suc j) d.boards d.faulty _ _ (X.sents m hm ∙ sym (Y.sents m hm))) (X.stops ∙ sym Y.stops)

-- ---- the start
module _ (d : Design) (starts : List ℕ) (l : length starts ≡ d.boards) where
  abbrev begin : ℕ → List ℕ
  begin k = start d.types (wide k) starts

  state-start : (k p : ℕ) → p < d.boards → state (begin k) p ≡ get_or starts p 0
  unfolding state
  state-start k p h = start-low d.boards d.types (wide k) starts l p h

  pub none-received : (k p m : ℕ) → rcvd_in k d (begin k) p m ≡ (column_of k d).init
  none-received k p m = coll-init k d.boards d.faulty _ (cell-start d.boards d.types (wide k) starts l p m)

  pub none-sent : (k m : ℕ) → sent_in k d (begin k) m ≡ (column_of k d).init
  none-sent k m = shown-init k d.boards d.faulty _ (sent-start d.boards d.types (wide k) starts l m)

  module _ (quiet : (p m : ℕ) → p < d.boards → m < d.types → d.has_sent (get_or starts p 0) m ≡ false) where
    pub sound-start : (k : ℕ) → Sound k d (view k d (start d.types (wide k) starts))
    sound-start k =
        start-sound d k (view k d (begin k)) (λ p m hp hm. ap (λ (ℓ : ℕ). d.has_sent ℓ m) (state-start k p hp) ∙ quiet p m hp hm)
        (λ p m hp hm. none-received k p m) (λ m hm. none-sent k m)

    pub start-pictured : (j : ℕ) → Pictured j d (start d.types (wide j) starts) (start d.types (wide (suc j)) starts)
    start-pictured j =
        let e = (picture_laws d.boards d.faulty j).none in
        record {
          fine_long = length-start d.boards d.types (wide j) starts l;
          coarse_long = length-start d.boards d.types (wide (suc j)) starts l;
          states = λ p h. state-start (suc j) p h ∙ sym (state-start j p h);
          rcvds = λ p m hp hm. none-received (suc j) p m ∙ sym e ∙ ap (picture_of j d) (sym (none-received j p m));
          sents = λ m hm. none-sent (suc j) m ∙ sym e ∙ ap (picture_of j d) (sym (none-sent j m));
          stops = stopped-start d.boards d.types (wide (suc j)) starts l ∙ sym (stopped-start d.boards d.types (wide j) starts l);
          sound = sound-start j;
        }

-- ---- schedules, of neighbouring levels: each step follows, so the schedule does
module _ (j : ℕ) (d : Design) (K : Remembers d) where
  step-there : (w v : List ℕ) (s : Step) → Pictured j d w v → step_fault j d w s ≡ 0 → Follows (machine_of j d) (machine_of (suc j) d) (λ u t. tagged j d t) (Pictured j d) w v s
  step-there w v s X h = let S = forward j d K w v X s h in record { accepted = S.accepted; related = S.pictured }

  step_back : (v w : List ℕ) (s : Step) → Pictured j d w v → step_fault (suc j) d v s ≡ 0 → Follows (machine_of (suc j) d) (machine_of j d) (lowest j d) (λ x y. Pictured j d y x) v w s
  step_back v w s X h = let S = backward j d K w v X s h in record { accepted = S.accepted; related = S.pictured }

  pub forward_run : (w v : List ℕ) (ss : List Step) → Pictured j d w v → (run j d w ss).refusal ≡ 0 → RunThere j d w v ss
  forward_run w v ss X h =
      let F = follow _ _ _ _ step-there w v ss X h in
      let e = follow-map (stepped (suc j) d) (tagged j d) v ss in
      record {
        accepted = ap (λ (ts : List Step). (run (suc j) d v ts).refusal) (sym e) ∙ F.accepted;
        pictured = λ i. subst (λ (ts : List Step). Pictured j d (after j d w ss i) (after (suc j) d v ts i)) e (F.related i);
      }

  pub backward_run : (w v : List ℕ) (ss : List Step) → Pictured j d w v → (run (suc j) d v ss).refusal ≡ 0 → RunBack j d w v ss
  backward_run w v ss X h =
      let F = follow _ _ _ _ step_back v w ss X h in
      record { accepted = F.accepted; trip = follow_trip _ _ _ _ step_back (tagged j d) (λ v w s Y z. (backward j d K w v Y s z).trip) v w ss X h; pictured = F.related }

-- ---- between any two levels: one level further up, and one further down
module _ (d : Design) (begin : ℕ → List ℕ) (k : ℕ) (ss : List Step) where
  abbrev in_form : ℕ → List Step
  in_form i = moved k i d begin ss

  -- above its own level a schedule is only tagged, below it only refined
  pub coarser_only : (i : ℕ) → k ≤ i → in_form i ≡ coarser (i - k) k d.boards ss
  unfolding moved finer
  coarser_only i h = let e : k - i ≡ 0 = omega arith in rw e

  pub finer_only : (i : ℕ) → i ≤ k → in_form i ≡ finer (k - i) i d begin ss
  unfolding moved coarser
  finer_only i h = let e : i - k ≡ 0 = omega arith in rw e

  pub moved-own : in_form k ≡ ss
  unfolding finer
  moved-own = let e : k - k ≡ 0 = omega arith in finer_only k (omega arith) ∙ rw e

  pub moved_up : (i : ℕ) → k ≤ i → in_form (suc i) ≡ map (tagged i d) (in_form i)
  unfolding coarser
  moved_up i h =
      let e : suc i - k ≡ suc (i - k) = omega arith in
      let f : i - k + k ≡ i = omega arith in
      coarser_only (suc i) (omega arith) ∙ ap (λ (n : ℕ). coarser n k d.boards ss) e
      ∙ ap₂ (λ (j : ℕ) (x : List Step). map (tag_by j d.boards) x) f (sym (coarser_only i h))

  pub moved_down : (i : ℕ) → i < k → in_form i ≡ low_all i d (begin i) (in_form (suc i))
  unfolding finer
  moved_down i h =
      let e : k - i ≡ suc (k - suc i) = omega arith in
      finer_only i (omega arith) ∙ ap (λ (n : ℕ). finer n i d begin ss) e ∙ ap (low_all i d (begin i)) (sym (finer_only (suc i) h))

module _ (d : Design) (K : Remembers d) (begin : ℕ → List ℕ) (B : (j : ℕ) → Pictured j d (begin j) (begin (suc j))) (k : ℕ) (ss : List Step) (h : (run k d (begin k) ss).refusal ≡ 0) where
  abbrev new : ℕ → List Step
  new i = moved k i d begin ss

  abbrev Runs : ℕ → Type 0
  Runs i = (run i d (begin i) (new i)).refusal ≡ 0

  runs_own : Runs k
  runs_own = ap (λ (x : List Step). (run k d (begin k) x).refusal) (moved-own d begin k ss) ∙ h

  -- n levels up, and n levels down
  runs_up : (n i : ℕ) → i ≡ n + k → Runs i
  runs_up zero i e = let z : i ≡ k = omega arith in subst⁻¹ Runs z runs_own
  runs_up (suc n) zero e = absurd (omega arith)
  runs_up (suc n) (suc i) e =
      ap (λ (x : List Step). (run (suc i) d (begin (suc i)) x).refusal) (moved_up d begin k ss i (omega arith))
      ∙ (forward_run i d K (begin i) (begin (suc i)) (new i) (B i) (runs_up n i (omega arith))).accepted

  runs-down : (n i : ℕ) → n + i ≡ k → Runs i
  runs-down zero i e = let z : i ≡ k = omega arith in subst⁻¹ Runs z runs_own
  runs-down (suc n) i e =
      ap (λ (x : List Step). (run i d (begin i) x).refusal) (moved_down d begin k ss i (omega arith))
      ∙ (backward_run i d K (begin i) (begin (suc i)) (new (suc i)) (B i) (runs-down n (suc i) (omega arith))).accepted

  runs_all : (i : ℕ) → Runs i
  runs_all i = go (dec_lt i k)
    where
      go : Dec (i < k) → Runs i
      go (yes l) = runs-down (k - i) i (omega arith)
      go (no l) = runs_up (i - k) i (omega arith)

  abbrev Alike : ℕ → List Step → List Step → Type 0
  Alike i x y = (n : ℕ) → Pictured i d (after i d (begin i) x n) (after (suc i) d (begin (suc i)) y n)

  pictured-all : (i : ℕ) → Alike i (new i) (new (suc i))
  pictured-all i = go (dec_lt i k)
    where
      go : Dec (i < k) → Alike i (new i) (new (suc i))
      go (yes l) = subst⁻¹ (λ (x : List Step). Alike i x (new (suc i))) (moved_down d begin k ss i l) (backward_run i d K (begin i) (begin (suc i)) (new (suc i)) (B i) (runs_all (suc i))).pictured
      go (no l) = subst⁻¹ (Alike i (new i)) (moved_up d begin k ss i (omega arith)) (forward_run i d K (begin i) (begin (suc i)) (new i) (B i) (runs_all i)).pictured

  -- tagged again, what was refined comes back, level by level
  back-up : (i n x : ℕ) → x ≡ n + i → x ≤ k → coarser n i d.boards (new i) ≡ new x
  unfolding coarser
  back-up i zero x e l = let z : i ≡ x = omega arith in ap new z
  back-up i (suc n) zero e l = absurd (omega arith)
  back-up i (suc n) (suc x) e l =
      let z : n + i ≡ x = omega arith in
      ap₂ (λ (j : ℕ) (y : List Step). map (tagged j d) y) z (back-up i n x (omega arith) (omega arith) ∙ moved_down d begin k ss x l)
      ∙ (backward_run x d K (begin x) (begin (suc x)) (new (suc x)) (B x) (runs_all (suc x))).trip

  back : (i : ℕ) → i ≤ k → moved i k d begin (new i) ≡ ss
  back i l = coarser_only d begin i (new i) k l ∙ back-up i (k - i) k (omega arith) (omega arith) ∙ moved-own d begin k ss

  pub all_forms : InAllForms d begin k ss
  all_forms = record {
    own = moved-own d begin k ss;
    up = moved_up d begin k ss;
    down = moved_down d begin k ss;
    runs = runs_all;
    pictured = pictured-all;
    back = back;
  }

-- ---- all of it
pub agreement : Agreement
agreement = record {
  forward = forward;
  backward = backward;
  forward_run = λ j d K w v X ss h. forward_run j d K w v ss X h;
  backward_run = λ j d K w v X ss h. backward_run j d K w v ss X h;
  all_forms = all_forms;
  one_picture = one_picture;
}
