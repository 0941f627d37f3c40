-- A schedule's records, rewritten one after the other in place: the first i are the new ones.
use mathlib.Core.Path.{◌≡◌, refl, sym, ap, ap₂, ◌∙◌}
use mathlib.Core.Bool.{Bool, true, false}
use mathlib.Core.List.{List, [], ◌∷◌, ◌++◌, append-nil}
use Prim.Native.Nat.{ℕ, zero, suc, ◌+◌, ◌*◌, ◌/◌, ◌≤◌, ◌<◌}
use native.Mathlib.Nat.{not-suc-le-zero, le_of_suc-le-suc}
use native.Mathlib.Numerals.{add-one}
use native.Mathlib.Omega.{arith}
use lib.Dec.{ltb}
use lib.ListN.{length, get_or, set, take, drop, length-set, length-drop, drop_of_length-le}
use lib.Seq.{take-suc, drop-cons, drop-drop, append_snoc, set_at, get_or_at, get_or-drop, length-take-le, take_all}
use borrow.Author.Tests.{ltb-true, ltb-false, lt-ltb, le-ltb}
use Rattle.fault.specs.Fault.{◌if◌else◌}
use Rattle.paper.specs.Paper.{Step}
use Rattle.schedule.specs.Records.{steps_in, record_at, with_record, put_record, put_from, bytes_of, Records}
use Rattle.paper.specs.Run.{no_step, step_at}
use Rattle.agree.specs.Translation.{with_source}

-- ---- bytes and steps
pub length-steps : (n : ℕ) (bs : List ℕ) → length bs ≡ n * 4 → length (steps_in bs) ≡ n
unfolding steps_in
length-steps zero [] h = refl
length-steps (suc n) [] h = absurd (omega arith)
length-steps n (a ∷ []) h = absurd (omega arith)
length-steps n (a ∷ b ∷ []) h = absurd (omega arith)
length-steps n (a ∷ b ∷ c ∷ []) h = absurd (omega arith)
length-steps zero (a ∷ b ∷ c ∷ e ∷ bs) h = absurd (omega arith)
length-steps (suc n) (a ∷ b ∷ c ∷ e ∷ bs) h = ap suc (length-steps n bs (omega arith))

pub step-at : (n : ℕ) (bs : List ℕ) (i : ℕ) → length bs ≡ n * 4 → i < n
    → get_or (steps_in bs) i no_step ≡ record { board = get_or bs (i * 4) 0; rule = get_or bs (i * 4 + 1) 0; type = get_or bs (i * 4 + 2) 0; source = get_or bs (i * 4 + 3) 0 }
unfolding steps_in
step-at n [] i h l = absurd (omega arith)
step-at n (a ∷ []) i h l = absurd (omega arith)
step-at n (a ∷ b ∷ []) i h l = absurd (omega arith)
step-at n (a ∷ b ∷ c ∷ []) i h l = absurd (omega arith)
step-at zero (a ∷ b ∷ c ∷ e ∷ bs) i h l = absurd (not-suc-le-zero l)
step-at (suc n) (a ∷ b ∷ c ∷ e ∷ bs) zero h l = refl
step-at (suc n) (a ∷ b ∷ c ∷ e ∷ bs) (suc i) h l =
    let e₀ : suc i * 4 ≡ suc (suc (suc (suc (i * 4)))) = omega arith in
    let e₁ : suc i * 4 + 1 ≡ suc (suc (suc (suc (i * 4 + 1)))) = omega arith in
    let e₂ : suc i * 4 + 2 ≡ suc (suc (suc (suc (i * 4 + 2)))) = omega arith in
    let e₃ : suc i * 4 + 3 ≡ suc (suc (suc (suc (i * 4 + 3)))) = omega arith in
    rw (e₁, e₂, e₃, e₀) (step-at n bs i (omega arith) (le_of_suc-le-suc l))

pub bytes_steps : (n : ℕ) (bs : List ℕ) → length bs ≡ n * 4 → bytes_of (steps_in bs) ≡ bs
unfolding steps_in bytes_of
bytes_steps n [] h = refl
bytes_steps n (a ∷ []) h = absurd (omega arith)
bytes_steps n (a ∷ b ∷ []) h = absurd (omega arith)
bytes_steps n (a ∷ b ∷ c ∷ []) h = absurd (omega arith)
bytes_steps zero (a ∷ b ∷ c ∷ e ∷ bs) h = absurd (omega arith)
bytes_steps (suc n) (a ∷ b ∷ c ∷ e ∷ bs) h = ap (λ (x : List ℕ). a ∷ b ∷ c ∷ e ∷ x) (bytes_steps n bs (omega arith))

pub steps-bytes : (ss : List Step) → steps_in (bytes_of ss) ≡ ss
unfolding steps_in bytes_of
steps-bytes [] = refl
steps-bytes (s ∷ ss) = ap (λ (x : List Step). s ∷ x) (steps-bytes ss)

pub length-bytes : (ss : List Step) → length (bytes_of ss) ≡ length ss * 4
unfolding bytes_of
length-bytes [] = refl
length-bytes (s ∷ ss) = omega (arith, length-bytes ss)

-- ---- whole records
pub bytes-again : (steps : List ℕ) → Records steps → bytes_of (steps_in steps) ≡ steps
bytes-again steps R = bytes_steps (length steps / 4) steps R.whole

pub length_record : (bytes : List ℕ) (i : ℕ) (s : Step) → length (with_record bytes i s) ≡ length bytes
length_record bytes i s = rw (length-set, length-set, length-set, length-set)

-- as many other steps have as many bytes
pub bytes-many : (steps : List ℕ) (ss : List Step) → Records steps → length ss ≡ length (steps_in steps) → length (bytes_of ss) ≡ length steps
bytes-many steps ss R h = length-bytes ss ∙ ap (λ (n : ℕ). n * 4) (h ∙ length-steps (length steps / 4) steps R.whole) ∙ sym R.whole

pub records_kept : {steps u : List ℕ} → Records steps → length u ≡ length steps → Records u
records_kept R e = record { few = omega (arith, R.few); whole = e ∙ R.whole ∙ ap (λ (n : ℕ). n / 4 * 4) (sym e) }

-- another source in record i
pub steps-set : (n : ℕ) (bs : List ℕ) (i x : ℕ) → length bs ≡ n * 4 → i < n → steps_in (set bs (i * 4 + 3) x) ≡ set (steps_in bs) i (with_source (step_at (steps_in bs) i) x)
unfolding steps_in
steps-set n [] i x h l = absurd (omega arith)
steps-set n (a ∷ []) i x h l = absurd (omega arith)
steps-set n (a ∷ b ∷ []) i x h l = absurd (omega arith)
steps-set n (a ∷ b ∷ c ∷ []) i x h l = absurd (omega arith)
steps-set zero (a ∷ b ∷ c ∷ e ∷ bs) i x h l = absurd (not-suc-le-zero l)
steps-set (suc n) (a ∷ b ∷ c ∷ e ∷ bs) zero x h l = refl
steps-set (suc n) (a ∷ b ∷ c ∷ e ∷ bs) (suc i) x h l =
    let q : suc i * 4 + 3 ≡ suc (suc (suc (suc (i * 4 + 3)))) = omega arith in
    rw q (ap (λ (ss : List Step). record { board = a; rule = b; type = c; source = e } ∷ ss) (steps-set n bs i x (omega arith) (le_of_suc-le-suc l)))

-- another step as record i
pub steps-put : (n : ℕ) (bs : List ℕ) (i : ℕ) (s : Step) → length bs ≡ n * 4 → i < n → steps_in (with_record bs i s) ≡ set (steps_in bs) i s
unfolding steps_in
steps-put n [] i s h l = absurd (omega arith)
steps-put n (a ∷ []) i s h l = absurd (omega arith)
steps-put n (a ∷ b ∷ []) i s h l = absurd (omega arith)
steps-put n (a ∷ b ∷ c ∷ []) i s h l = absurd (omega arith)
steps-put zero (a ∷ b ∷ c ∷ e ∷ bs) i s h l = absurd (not-suc-le-zero l)
steps-put (suc n) (a ∷ b ∷ c ∷ e ∷ bs) zero s h l = refl
steps-put (suc n) (a ∷ b ∷ c ∷ e ∷ bs) (suc i) s h l =
    let e₀ : suc i * 4 ≡ suc (suc (suc (suc (i * 4)))) = omega arith in
    let e₁ : suc i * 4 + 1 ≡ suc (suc (suc (suc (i * 4 + 1)))) = omega arith in
    let e₂ : suc i * 4 + 2 ≡ suc (suc (suc (suc (i * 4 + 2)))) = omega arith in
    let e₃ : suc i * 4 + 3 ≡ suc (suc (suc (suc (i * 4 + 3)))) = omega arith in
    rw (e₁, e₂, e₃, e₀) (ap (λ (ss : List Step). record { board = a; rule = b; type = c; source = e } ∷ ss) (steps-put n bs i s (omega arith) (le_of_suc-le-suc l)))

-- ---- the loop: of the n records of the bytes, the first i are those of new, and the others still those of old
pub record Partly (n : ℕ) (old new : List Step) (i : ℕ) (bytes : List ℕ) : Type 0 where
  pub long : length bytes ≡ n * 4
  pub holds : steps_in bytes ≡ take i new ++ drop i old

module _ (n : ℕ) (old new : List Step) (o : length old ≡ n) (e : length new ≡ n) where
  abbrev both : ℕ → List Step
  both i = take i new ++ drop i old

  module _ (i : ℕ) (h : i < n) where
    here : drop i old ≡ step_at old i ∷ drop (suc i) old
    here = drop-cons old i no_step (rw o h)

    before : length (take i new) ≡ i
    before = length-take-le i new (omega arith)

    both_at : step_at (both i) i ≡ step_at old i
    both_at = ap (λ (x : List Step). step_at (take i new ++ x) i) here ∙ get_or_at (take i new) (step_at old i) (drop (suc i) old) no_step i before

    both_more : set (both i) i (step_at new i) ≡ both (i + 1)
    both_more =
        rw add-one
        (ap (λ (x : List Step). set (take i new ++ x) i (step_at new i)) here ∙ set_at (take i new) (step_at old i) (drop (suc i) old) (step_at new i) i before
        ∙ sym (ap (λ (x : List Step). x ++ drop (suc i) old) (take-suc new i no_step (rw e h)) ∙ append_snoc (take i new) (step_at new i) (drop (suc i) old)))

  pub partly_none : (bytes : List ℕ) → length bytes ≡ n * 4 → steps_in bytes ≡ old → Partly n old new 0 bytes
  partly_none bytes l h = record { long = l; holds = h }

  module _ {i : ℕ} {bytes : List ℕ} (P : Partly n old new i bytes) where
    -- record i is still the old one
    pub partly_at : i < n → record_at bytes i ≡ step_at old i
    partly_at h = sym (step-at n bytes i P.long h) ∙ ap (λ (x : List Step). step_at x i) P.holds ∙ both_at i h

    -- the new source makes it the new one
    pub partly_more : (x : ℕ) → i < n → with_source (step_at old i) x ≡ step_at new i → Partly n old new (i + 1) (set bytes (i * 4 + 3) x)
    partly_more x h q = record {
      long = length-set bytes (i * 4 + 3) x ∙ P.long;
      holds = steps-set n bytes i x P.long h ∙ ap₂ (λ (ss : List Step) (s : Step). set ss i (with_source s x)) P.holds (ap (λ (ss : List Step). step_at ss i) P.holds ∙ both_at i h)
          ∙ ap (set (both i) i) q ∙ both_more i h;
    }

    -- and so does the new step, put in whole
    pub partly_put : (s : Step) → i < n → s ≡ step_at new i → Partly n old new (i + 1) (with_record bytes i s)
    partly_put s h q = record {
      long = length_record bytes i s ∙ P.long;
      holds = steps-put n bytes i s P.long h ∙ ap₂ (λ (ss : List Step) (x : Step). set ss i x) P.holds q ∙ both_more i h;
    }

    pub partly_all : n ≤ i → bytes ≡ bytes_of new
    partly_all b =
        let k : length old ≤ i = omega arith in
        sym (bytes_steps n bytes P.long) ∙ ap bytes_of (P.holds ∙ ap₂ (λ (x y : List Step). x ++ y) (take_all i new (omega arith)) (drop_of_length-le old k) ∙ append-nil new)

-- ---- steps put one after the other
pub put-fits : (bytes : List ℕ) (i : ℕ) (s : Step) → i * 4 + 3 < length bytes → put_record bytes i s ≡ with_record bytes i s
unfolding put_record ◌if◌else◌
put-fits bytes i s h = rw (lt-ltb (i * 4 + 3) (length bytes) h)

pub put-not : (bytes : List ℕ) (i : ℕ) (s : Step) → length bytes ≤ i * 4 + 3 → put_record bytes i s ≡ bytes
unfolding put_record ◌if◌else◌
put-not bytes i s h = rw (le-ltb (i * 4 + 3) (length bytes) h)

pub put-length : (bytes : List ℕ) (i : ℕ) (s : Step) → length (put_record bytes i s) ≡ length bytes
put-length bytes i s = split (ltb (i * 4 + 3) (length bytes)) refl
  where
    split : (b : Bool) → ltb (i * 4 + 3) (length bytes) ≡ b → length (put_record bytes i s) ≡ length bytes
    split true h = ap length (put-fits bytes i s (ltb-true _ _ h)) ∙ length_record bytes i s
    split false h = ap length (put-not bytes i s (ltb-false _ _ h))

-- as many as there are, into as many bytes, are those of the schedule
put_rest : (n : ℕ) (old new ss : List Step) (i : ℕ) (bytes : List ℕ) → length old ≡ n → length new ≡ n → Partly n old new i bytes → drop i new ≡ ss → put_from i ss bytes ≡ bytes_of new
unfolding put_from
put_rest n old new [] i bytes o e P d =
    let l : n ≤ i = omega (arith, e, length-drop i new, ap length d) in
    partly_all n old new o e P l
put_rest n old new (s ∷ ss) i bytes o e P d =
    let l : i < n = omega (arith, e, length-drop i new, ap length d) in
    let z : i + 0 ≡ i = omega arith in
    let q : s ≡ step_at new i = sym (ap (λ (x : List Step). get_or x 0 no_step) d) ∙ get_or-drop i new 0 no_step ∙ ap (step_at new) z in
    let r : drop (i + 1) new ≡ ss = sym (drop-drop 1 i new) ∙ ap (drop 1) d in
    ap (put_from (i + 1) ss) (put-fits bytes i s (omega (arith, l, P.long))) ∙ put_rest n old new ss (i + 1) (with_record bytes i s) o e (partly_put n old new o e P s l q) r

pub put_all : (ss : List Step) (bytes : List ℕ) → length bytes ≡ length ss * 4 → put_from 0 ss bytes ≡ bytes_of ss
put_all ss bytes h = put_rest (length ss) (steps_in bytes) ss ss 0 bytes (length-steps (length ss) bytes h) refl (record { long = h; holds = refl }) refl
