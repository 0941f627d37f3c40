-- The bundle that is made: it is the given one with the log's steps; and how the code puts it together.
use mathlib.Core.Path.{◌≡◌, refl, ap, ap₂, subst, ◌∙◌}
use mathlib.Core.List.{List, [], ◌∷◌, ◌++◌, append-nil}
use Prim.Native.Nat.{ℕ, ◌+◌, ◌-◌, ◌*◌, ◌/◌, ◌%◌, ◌≤◌}
use native.Mathlib.Omega.{arith}
use lib.ListN.{length, set, take, drop, length-append, length-drop}
use lib.Seq.{length-take-le, take_at, take_all, drop-drop, drop-length}
use borrow.Rule.Slice.PartMut.{put_mid, Post-is}
use Rattle.fault.specs.Bytes.{trailer_of, trailer_bytes, step_bytes, most_steps, two_bytes}
use Rattle.bundle.specs.Bundle.{step_distance, start_distance, form_of, steps_at}
use Rattle.bundle.specs.Facts.{Read}
use Rattle.paper.specs.Paper.{Step}
use Rattle.schedule.specs.Records.{put_from, bytes_of}
use Rattle.schedule.proofs.RecordLaws.{length-bytes, put_all}
use Rattle.engine.proofs.RecastLaws.{Recast, with-steps}
use Rattle.replay.specs.Made.{raised, made}

-- a bundle without steps, with those of a log
pub made_recast : (t b : List ℕ) → Read t b → (ss : List Step) → step_distance b ≡ 0 → length ss ≤ most_steps → Recast b ss (form_of b) (made b ss)
unfolding made raised
made_recast t b R ss z l =
    let a : steps_at b ≡ trailer_of b = omega (arith, R.parted.steps_last, z) in
    subst (λ (n : ℕ). Recast b ss (form_of b) (take n b ++ (bytes_of ss ++ raised b (length ss * step_bytes)))) a
    (with-steps t b R ss (step_distance b + length ss * step_bytes) (start_distance b + length ss * step_bytes) l (omega (arith, z)) (omega (arith, z, R.parted.starts_first)))

-- ---- `close`, from what it has in hand
four-set : (y : List ℕ) (a b c d : ℕ) → 4 ≤ length y → set (set (set (set y 0 a) 1 b) 2 c) 3 d ≡ a ∷ b ∷ c ∷ d ∷ drop 4 y
four-set [] a b c d l = absurd (omega (arith, l))
four-set (p ∷ []) a b c d l = absurd (omega (arith, l))
four-set (p ∷ q ∷ []) a b c d l = absurd (omega (arith, l))
four-set (p ∷ q ∷ r ∷ []) a b c d l = absurd (omega (arith, l))
four-set (p ∷ q ∷ r ∷ s ∷ y) a b c d l = refl

pub closed : (b y : List ℕ) (more : ℕ) {p q a₀ a₁ a₂ a₃ : ℕ} → trailer_bytes ≤ length b → y ≡ take (length b - trailer_of b) (drop (trailer_of b) b) → p ≡ step_distance b → q ≡ start_distance b
    → a₀ ≡ (p + more) % 256 → a₁ ≡ (p + more) / 256 → a₂ ≡ (q + more) % 256 → a₃ ≡ (q + more) / 256 → set (set (set (set y 0 a₀) 1 a₁) 2 a₂) 3 a₃ ≡ raised b more
unfolding raised
closed b y more {p} {q} {a₀} {a₁} {a₂} {a₃} l e f g h₀ h₁ h₂ h₃ =
    let m : length (drop (trailer_of b) b) ≤ length b - trailer_of b = omega (arith, length-drop (trailer_of b) b) in
    let y_is : y ≡ drop (trailer_of b) b = e ∙ take_all (length b - trailer_of b) (drop (trailer_of b) b) m in
    let n : 4 ≤ length y = omega (arith, l, ap length y_is, length-drop (trailer_of b) b) in
    four-set y a₀ a₁ a₂ a₃ n ∙ rw (h₀, h₁, h₂, h₃, f, g) (ap (λ (w : List ℕ). two_bytes (step_distance b + more) (two_bytes (start_distance b + more) w)) (ap (drop 4) y_is ∙ drop-drop 4 (trailer_of b) b))

-- ---- bytes put in front, and then the rest: `append` and `write`, from what they have in hand
module _ (z out : List ℕ) (n : ℕ) (h : length z ≡ n) where
  abbrev whole : List ℕ
  whole = z ++ drop n out

  whole_long : length whole ≡ n + (length out - n)
  whole_long = length-append z (drop n out) ∙ omega (arith, h, length-drop n out)

  pub tail_long : (m : ℕ) → length out ≡ n + m → length (take (length whole - n) (drop n whole)) ≡ m
  tail_long m e = length-take-le (length whole - n) (drop n whole) (omega (arith, length-drop n whole)) ∙ omega (arith, whole_long, e)

  pub put_tail : (last : List ℕ) → put_mid n (length whole - n) whole last ≡ z ++ last
  put_tail last =
      let l : n ≤ length whole = omega (arith, whole_long) in
      ap (λ (x : List ℕ). take n whole ++ (last ++ x)) (Post-is n (length whole) whole l ∙ drop-length whole) ∙ ap₂ (λ (x y : List ℕ). x ++ y) (take_at z (drop n out) n h) (append-nil last)

-- the steps fill their bytes
pub steps-fill : {z : List ℕ} (ss : List Step) (out : List ℕ) (n : ℕ) → length out ≡ length ss * step_bytes + trailer_bytes → n ≡ length out - trailer_bytes → z ≡ put_from 0 ss (take n out) → z ≡ bytes_of ss
steps-fill ss out n e f g = g ∙ put_all ss (take n out) (length-take-le n out (omega (arith, f)) ∙ omega (arith, e, f))

pub filled_long : {z : List ℕ} (ss : List Step) → z ≡ bytes_of ss → length z ≡ length ss * step_bytes
filled_long ss e = ap length e ∙ length-bytes ss
