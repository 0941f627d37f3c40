-- Stops in Q-10: a stop makes the set of stopped boards larger, by at most one; and where only one more may stop, by exactly one, so that another board's stop is refused after it.
use mathlib.Core.Path.{◌≡◌, refl, sym, ap, ◌∙◌}
use mathlib.Core.Logic.{◌≢◌}
use mathlib.Core.Bool.{Bool, true, false, true≢false}
use mathlib.Core.List.{List}
use Prim.Native.Nat.{ℕ, zero, suc, ◌+◌, ◌≤◌, ◌<◌}
use native.Mathlib.Omega.{arith}
use native.Mathlib.Decide.{ℕ_discrete}
use lib.ListN.{length}
use borrow.Author.Tests.{lt-ltb, lt-leb}
use Rattle.senders.specs.Tally.{digit, count}
use Rattle.senders.specs.Set.{mem, insert}
use Rattle.senders.proofs.TallyLaws.{digit-one, count_same}
use Rattle.senders.proofs.SetLaws.{set_laws, count_laws}
use Rattle.fault.specs.Fault.{◌if◌else◌}
use Rattle.paper.specs.Paper.{Design, Step, silent, is_stop, stopped_count}
use Rattle.paper.specs.Words.{size}
use Rattle.paper.specs.Form.{wide}
use Rattle.paper.specs.Step.{stopped_in, stop_fault, step_fault, stepped}
use Rattle.paper.proofs.WordLaws.{stopped-stop}
use Rattle.paper.proofs.StepLaws.{Accepts, takes, stops, accepts_by_lem, stepped-stop}

-- ---- a law of sets
-- sets that differ at most at p: their counts differ at most by one
pub count_but_one : (k p : ℕ) (P Q : ℕ → Bool) → ((i : ℕ) → i ≢ p → Q i ≡ P i) → count k Q ≤ count k P + 1
unfolding count
count_but_one zero p P Q e = omega arith
count_but_one (suc k) p P Q e = go (ℕ_discrete k p) (count_but_one k p P Q e)
  where
    go : Dec (k ≡ p) → count k Q ≤ count k P + 1 → count k Q + digit (Q k) ≤ count k P + digit (P k) + 1
    go (yes s) ih = omega (arith, count_same k Q P (λ i l. e i (omega arith)), digit-one (Q k))
    go (no s) ih = omega (arith, ap digit (e k s))

-- ---- room for one
stop-refused : (k : ℕ) (d : Design) (w : List ℕ) (s : Step) → is_stop s ≡ true → s.board < d.boards → mem (stopped_in k d w) s.board ≡ false → silent s ≡ true
    → d.tolerated < stopped_count d (stopped_in k d w) + 1 + d.faulty → step_fault k d w s ≡ 27
unfolding step_fault stop_fault ◌if◌else◌
stop-refused k d w s e b z a f = rw (lt-leb _ _ b, z, e, a, lt-ltb _ _ f) refl

module _ (k : ℕ) (d : Design) (w : List ℕ) (l : length w ≡ size d.boards d.types (wide k)) (t : d.tolerated ≡ stopped_count d (stopped_in k d w) + 1 + d.faulty) where
  stopped-after : (x : Step) → is_stop x ≡ true → stopped_in k d (stepped k d w x) ≡ insert x.board (stopped_in k d w)
  stopped-after x e = ap (stopped_in k d) (stepped-stop k d w x e) ∙ stopped-stop d.boards d.types (wide k) w l x.board

  -- y's stop after x's: its board is not stopped, and there is no room for it
  second-refused : (x y : Step) → x.board ≢ y.board → is_stop x ≡ true → is_stop y ≡ true → Accepts k d w x → Accepts k d w y → step_fault k d (stepped k d w x) y ≡ 27
  second-refused x y o p q (takes e _ _) B = absurd (true≢false (sym p ∙ e))
  second-refused x y o p q (stops _ _ _ _ _) (takes e _ _) = absurd (true≢false (sym q ∙ e))
  second-refused x y o p q (stops _ b z _ _) (stops _ c u a _) =
      let awake : mem (stopped_in k d (stepped k d w x)) y.board ≡ false = rw (stopped-after x p) (set_laws.insert_other _ _ _ (λ e. o (sym e)) ∙ u) in
      let more : stopped_count d (stopped_in k d (stepped k d w x)) ≡ suc (stopped_count d (stopped_in k d w)) = ap (stopped_count d) (stopped-after x p) ∙ (count_laws d.boards d.faulty).correct_one_more _ _ b z in
      stop-refused k d (stepped k d w x) y q c awake a (omega arith)

pub two_stops : (k : ℕ) (d : Design) (w : List ℕ) (x y : Step) → length w ≡ size d.boards d.types (wide k) → x.board ≢ y.board → is_stop x ≡ true → is_stop y ≡ true
    → step_fault k d w x ≡ 0 → step_fault k d w y ≡ 0 → d.tolerated ≡ stopped_count d (stopped_in k d w) + 1 + d.faulty
    → (step_fault k d (stepped k d w x) y ≡ 27) × (step_fault k d (stepped k d w y) x ≡ 27)
two_stops k d w x y l o p q f g t =
    let A = accepts_by_lem k d w x f in
    let B = accepts_by_lem k d w y g in
    (second-refused k d w l t x y o p q A B, second-refused k d w l t y x (λ e. o (sym e)) q p B A)
