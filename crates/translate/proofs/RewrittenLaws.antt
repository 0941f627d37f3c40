-- A bundle that was read, with other steps, as many as its own, and another form: it is the bundle recast, so engine/proofs/RecastLaws.antt says what it reads as.
use mathlib.Core.Path.{◌≡◌, sym, ap, ap₂, ◌∙◌}
use mathlib.Core.Logic.{◌≢◌}
use mathlib.Core.List.{List, [], ◌∷◌, ◌++◌}
use Prim.Native.Nat.{ℕ, suc, ◌+◌, ◌-◌, ◌*◌, ◌≤◌}
use native.Mathlib.Nat.{zero-add}
use native.Mathlib.Omega.{arith}
use lib.ListN.{length, set, take, drop, length-drop, length-set, take-append-drop}
use lib.Seq.{get_or-drop, get_or-set_same, get_or-set_other, take_at, drop-drop, set-set, set-get_or}
use Rattle.fault.specs.Bytes.{byte_at, u16_at, trailer_of, trailer_bytes}
use Rattle.bundle.specs.Bundle.{step_distance, form_of, steps_at, steps_of}
use Rattle.bundle.specs.Facts.{Read}
use Rattle.paper.specs.Paper.{Step}
use Rattle.schedule.specs.Records.{bytes_of}
use Rattle.schedule.proofs.RecordLaws.{length-bytes}
use Rattle.engine.specs.Entry.{schedule_of}
use Rattle.engine.proofs.RecastLaws.{Recast, front_long, same_steps_at, drop_trailer}
use Rattle.translate.specs.Written.{rewritten}
use Rattle.translate.proofs.WriteLaws.{bytes-own, bytes-long, rewritten-long}

-- a write past the end of a list is a write into what follows it
set-append-add : (xs ys : List ℕ) (i a : ℕ) → set (xs ++ ys) (length xs + i) a ≡ xs ++ set ys i a
set-append-add [] ys i a = ap (λ (j : ℕ). set ys j a) (zero-add i)
set-append-add (x ∷ xs) ys i a = let e : suc (length xs) + i ≡ suc (length xs + i) = omega arith in rw e (ap (λ (zs : List ℕ). x ∷ zs) (set-append-add xs ys i a))

module _ (t b : List ℕ) (R : Read t b) where
  abbrev front : List ℕ
  front = take (steps_at b) b

  abbrev trailer : List ℕ
  trailer = drop (trailer_of b) b

  trailer-long : length trailer ≡ trailer_bytes
  trailer-long = length-drop (trailer_of b) b ∙ omega (arith, R.trailed.long)

  module _ (ss : List Step) (k : ℕ) (h : length ss ≡ length (schedule_of b)) where
    many : length (bytes_of ss) ≡ step_distance b
    many = bytes-long b R.parted ss h

    -- the last byte is the last one of what follows the steps
    last : (y : List ℕ) → set (front ++ (bytes_of ss ++ y)) (length b - 1) k ≡ front ++ (bytes_of ss ++ set y 7 k)
    last y =
        let e : length b - 1 ≡ length front + (length (bytes_of ss) + 7) = omega (arith, front_long t b R, many, R.parted.steps_last, R.trailed.long) in
        ap (λ (i : ℕ). set (front ++ (bytes_of ss ++ y)) i k) e ∙ set-append-add front (bytes_of ss ++ y) (length (bytes_of ss) + 7) k
        ∙ ap (λ (z : List ℕ). front ++ z) (set-append-add (bytes_of ss) y 7 k)

    parts : rewritten b ss k ≡ front ++ (bytes_of ss ++ set trailer 7 k)
    unfolding rewritten
    parts = last trailer

    kept_at : (i : ℕ) → i ≢ 7 → byte_at (set trailer 7 k) i ≡ byte_at b (trailer_of b + i)
    kept_at i n = get_or-set_other trailer 7 i k 0 n ∙ get_or-drop (trailer_of b) b i 0

    kept_u16 : (i : ℕ) → i ≤ 2 → u16_at (set trailer 7 k) i ≡ u16_at b (trailer_of b + i)
    kept_u16 i l =
        let e : trailer_of b + (i + 1) ≡ trailer_of b + i + 1 = omega arith in
        ap₂ (λ (y z : ℕ). y + 256 * z) (kept_at i (omega arith)) (kept_at (i + 1) (omega arith) ∙ ap (byte_at b) e)

    pub recast : Recast b ss k (rewritten b ss k)
    recast = record {
      trailer = set trailer 7 k;
      parts = parts;
      whole = length-set trailer 7 k ∙ trailer-long;
      steps = kept_u16 0 (omega arith) ∙ omega (arith, many, length-bytes ss);
      starts = kept_u16 2 (omega arith) ∙ omega (arith, many, length-bytes ss, R.parted.starts_first);
      n = kept_at 4 (omega arith);
      t = kept_at 5 (omega arith);
      f = kept_at 6 (omega arith);
      form = get_or-set_same trailer 7 k 0 (rw trailer-long (omega arith));
      few = omega (arith, many, length-bytes ss, R.parted.few_steps);
    }

  -- written twice, the last time counts
  pub rewritten-again : (ss : List Step) (k : ℕ) → length ss ≡ length (schedule_of b) → (ss' : List Step) (k' : ℕ) → length ss' ≡ length (schedule_of b)
      → rewritten (rewritten b ss k) ss' k' ≡ rewritten b ss' k'
  unfolding rewritten recast
  rewritten-again ss k h ss' k' h' =
      let X = recast ss k h in
      let f : take (steps_at (rewritten b ss k)) (rewritten b ss k) ≡ front = ap₂ (λ (i : ℕ) (y : List ℕ). take i y) (same_steps_at t b R X) X.parts ∙ take_at front _ (steps_at b) (front_long t b R) in
      (λ i. set (f i ++ (bytes_of ss' ++ drop_trailer t b R X i)) (rewritten-long b R.parted R.trailed ss k h i - 1) k') ∙ last ss' k' h' (set trailer 7 k)
      ∙ ap (λ (z : List ℕ). front ++ (bytes_of ss' ++ z)) (set-set trailer 7 k k') ∙ sym (parts ss' k' h')

  -- written as it was, it is the bundle
  pub rewritten-own : rewritten b (schedule_of b) (form_of b) ≡ b
  unfolding rewritten steps_of
  rewritten-own =
      let e : length b - 1 ≡ trailer_of b + 7 = omega (arith, R.trailed.long) in
      let l : trailer ≡ drop (step_distance b) (drop (steps_at b) b) = ap (λ (i : ℕ). drop i b) (sym R.parted.steps_last) ∙ sym (drop-drop (step_distance b) (steps_at b) b) in
      let w : front ++ (bytes_of (schedule_of b) ++ trailer) ≡ b =
      ap₂ (λ (y z : List ℕ). front ++ (y ++ z)) (bytes-own b R.parted) l ∙ ap (λ (y : List ℕ). front ++ y) (take-append-drop (step_distance b) (drop (steps_at b) b)) ∙ take-append-drop (steps_at b) b in
      (λ i. set (w i) (e i) (form_of b)) ∙ set-get_or b (trailer_of b + 7) 0
