-- The bytes that are written: the steps in their place, the form at the end, and all the others as they were.
use mathlib.Core.Path.{◌≡◌, refl, sym, ap, ap₂, ◌∙◌}
use mathlib.Core.List.{List, ◌++◌, map}
use Prim.Native.Nat.{ℕ, zero, suc, ◌+◌, ◌-◌, ◌*◌, ◌/◌, ◌≤◌}
use native.Mathlib.Omega.{arith}
use lib.ListN.{length, set, take, drop, length-append, length-drop, length-set, length-map}
use lib.Seq.{length-take-le}
use borrow.Rule.Slice.PartMut.{put_mid, Post-is}
use Rattle.fault.specs.Bytes.{trailer_of}
use Rattle.paper.specs.Paper.{Design, Step}
use Rattle.bundle.specs.Bundle.{step_distance, steps_at, steps_of}
use Rattle.bundle.specs.Facts.{Trailed, Parted}
use Rattle.schedule.specs.Records.{steps_in, bytes_of, Records}
use Rattle.schedule.proofs.RecordLaws.{bytes_steps, steps-bytes, length-bytes, bytes-again, bytes-many, records_kept}
use Rattle.engine.specs.Entry.{schedule_of}
use Rattle.translate.specs.Written.{rewritten}
use Rattle.translate.proofs.LoopLaws.{low-long}
use Rattle.agree.specs.Translation.{tag_by, coarser, finer, moved}

-- ---- the schedule at another level: as many steps
coarser-long : (n k c : ℕ) (ss : List Step) → length (coarser n k c ss) ≡ length ss
unfolding coarser
coarser-long zero k c ss = refl
coarser-long (suc n) k c ss = length-map (coarser n k c ss) (tag_by (n + k) c) ∙ coarser-long n k c ss

finer-long : (n i : ℕ) (d : Design) (begin : ℕ → List ℕ) (ss : List Step) → length (finer n i d begin ss) ≡ length ss
unfolding finer
finer-long zero i d begin ss = refl
finer-long (suc n) i d begin ss = low-long i d (begin i) (finer n (suc i) d begin ss) ∙ finer-long n (suc i) d begin ss

pub moved-long : (k i : ℕ) (d : Design) (begin : ℕ → List ℕ) (ss : List Step) → length (moved k i d begin ss) ≡ length ss
unfolding moved
moved-long k i d begin ss = coarser-long (i - k) k d.boards (finer (k - i) i d begin ss) ∙ finer-long (k - i) i d begin ss

-- ---- the loop over the levels, up from level k: the steps at level j
pub record Coarsened (k c : ℕ) (steps₀ : List ℕ) (j : ℕ) (steps : List ℕ) : Type 0 where
  pub holds : steps ≡ bytes_of (coarser (j - k) k c (steps_in steps₀))
  pub long : length steps ≡ length steps₀

module _ (k c : ℕ) (steps₀ : List ℕ) (Q : Records steps₀) where
  pub coarsened_none : Coarsened k c steps₀ k steps₀
  unfolding coarser
  coarsened_none = let o : k - k ≡ 0 = omega arith in record { holds = rw o (sym (bytes-again steps₀ Q)); long = refl }

  pub coarsened_more : {j : ℕ} {steps u : List ℕ} → k ≤ j → Coarsened k c steps₀ j steps → u ≡ bytes_of (map (tag_by j c) (steps_in steps)) → Coarsened k c steps₀ (j + 1) u
  unfolding coarser
  coarsened_more {j} {steps} {u} l F h =
      let n : j + 1 - k ≡ suc (j - k) = omega arith in
      let e : j ≡ j - k + k = omega arith in
      let q : steps_in steps ≡ coarser (j - k) k c (steps_in steps₀) = ap steps_in F.holds ∙ steps-bytes _ in
      let g : u ≡ bytes_of (map (tag_by (j - k + k) c) (coarser (j - k) k c (steps_in steps₀))) = h ∙ ap₂ (λ (i : ℕ) (x : List Step). bytes_of (map (tag_by i c) x)) e q in
      record {
        holds = g ∙ sym (ap (λ (i : ℕ). bytes_of (coarser i k c (steps_in steps₀))) n);
        long = ap length h ∙ bytes-many steps (map (tag_by j c) (steps_in steps)) (records_kept Q F.long) (length-map (steps_in steps) (tag_by j c)) ∙ F.long;
      }

pub coarsened_all : {k c j form : ℕ} {steps₀ steps : List ℕ} → Coarsened k c steps₀ j steps → j ≤ form → form ≤ j → steps ≡ bytes_of (coarser (form - k) k c (steps_in steps₀))
coarsened_all {k} {c} {j} {form} {steps₀} F l m = let z : j ≡ form = omega arith in F.holds ∙ ap (λ (i : ℕ). bytes_of (coarser (i - k) k c (steps_in steps₀))) z

-- ---- a bundle with other steps, as many as its own
module _ (b : List ℕ) (P : Parted b) where
  pub bytes-own : bytes_of (schedule_of b) ≡ steps_of b
  bytes-own = bytes_steps (step_distance b / 4) (steps_of b) (omega (arith, P.steps_long, P.whole_steps))

  pub bytes-long : (ss : List Step) → length ss ≡ length (schedule_of b) → length (bytes_of ss) ≡ step_distance b
  bytes-long ss h = length-bytes ss ∙ ap (λ (n : ℕ). n * 4) h ∙ sym (length-bytes (schedule_of b)) ∙ ap length bytes-own ∙ P.steps_long

  pub rewritten-long : Trailed b → (ss : List Step) (k : ℕ) → length ss ≡ length (schedule_of b) → length (rewritten b ss k) ≡ length b
  unfolding rewritten
  rewritten-long T ss k h =
      let f = take (steps_at b) b in
      let l = drop (trailer_of b) b in
      length-set (f ++ (bytes_of ss ++ l)) (length b - 1) k ∙ length-append f (bytes_of ss ++ l)
      ∙ omega (arith, length-take-le (steps_at b) b (omega (arith, P.steps_last, T.long)), length-append (bytes_of ss) l, bytes-long ss h, length-drop (trailer_of b) b, P.steps_last, T.long)

  -- ---- `write`, from what it has in hand: the copy o, and where the first step stands
  module _ {at : ℕ} {o : List ℕ} (e : at ≡ steps_at b) (g : o ≡ b) where
    pub steps_part : (n : ℕ) → n ≡ step_distance b → take n (drop at o) ≡ steps_of b
    unfolding steps_of
    steps_part n h = rw (h, e, g)

    pub all-written : {u : List ℕ} (ss : List Step) (k : ℕ) → u ≡ bytes_of ss → set (put_mid at (length b - 8 - at) o u) (length b - 1) k ≡ rewritten b ss k
    unfolding rewritten
    all-written {u} ss k h =
        let z : at ≤ length b - 8 = omega (arith, P.steps_last) in
        let p : put_mid at (length b - 8 - at) o u ≡ take at o ++ (u ++ drop (length b - 8) o) = ap (λ (x : List ℕ). take at o ++ (u ++ x)) (Post-is at (length b - 8) o z) in
        rw p (rw (h, g, e))
