-- The laws of `◌if◌else◌`, `◌▹◌` and `first_fault`: how code makes them, what no refusal tells, and the bounds that they keep.
use mathlib.Core.Path.{◌≡◌, refl, sym, ap, ◌∙◌}
use mathlib.Core.Bool.{Bool, true, false, cond}
use Prim.Native.Nat.{ℕ, zero, suc, ◌+◌, ◌≤◌, ◌<◌}
use native.Mathlib.Numerals.{add-one}
use native.Mathlib.Omega.{arith}
use native.Mathlib.Decide.{dec_lt, ℕ_discrete}
use lib.Dec.{eqb}
use borrow.Author.Tests.{eq-eqb, ne_eqb, eqb-true}
use Rattle.fault.specs.Fault.{Verdict}
use Rattle.fault.specs.Fault.{verdict, fine, refused, ◌if◌else◌, ◌▹◌, first_fault}

-- ---- one check: b is the answer that the code has in hand
pub if_yes : {A : Type 0} {v x : A} {b t : Bool} (rest : A) → v ≡ x → b ≡ t → b ≡ true → v ≡ (x if t else rest)
unfolding ◌if◌else◌
if_yes rest e q h = rw (← q, h, e)

pub if_no : {A : Type 0} {v rest : A} {b t : Bool} (x : A) → b ≡ t → b ≡ false → v ≡ rest → v ≡ (x if t else rest)
unfolding ◌if◌else◌
if_no x q h e = rw (← q, h, e)

-- where the whole has a property that x has not, the test said no
pub if_passed : {A : Type 0} (P : A → Type 0) (x : A) (t : Bool) (rest : A) → (P x → ⊥) → P (x if t else rest) → (t ≡ false) × P rest
unfolding ◌if◌else◌
if_passed P x true rest n h = absurd (n h)
if_passed P x false rest n h = (refl, h)

-- ---- one verdict after the other
then_first : (v w : Verdict) → (v.number ≡ 0 → ⊥) → (v ▹ w) ≡ v
unfolding ◌▹◌
then_first v w h = rw (ne_eqb v.number 0 h)

then_next : (v w : Verdict) → v.number ≡ 0 → (v ▹ w) ≡ w
unfolding ◌▹◌
then_next v w h = rw (eq-eqb v.number 0 h)

pub then_stop : {v u : Verdict} (w : Verdict) → v ≡ u → (v.number ≡ 0 → ⊥) → v ≡ (u ▹ w)
then_stop {v} {u} w e b = rw (← e, then_first v w b)

pub then_pass : {x u v w : Verdict} → x ≡ u → x.number ≡ 0 → v ≡ w → v ≡ (u ▹ w)
then_pass {x} {u} {v} {w} e z h = rw (← e, then_next x w z, h)

abbrev pub Clean : Verdict → Type 0
Clean v = v.number ≡ 0

pub then_clean : (u w : Verdict) → Clean (u ▹ w) → Clean u × Clean w
then_clean u w h =
    elim (ℕ_discrete u.number 0) [
      | yes e ↦ (e, ap (λ (v : Verdict). v.number) (sym (then_next u w e)) ∙ h)
      | no n ↦ absurd (n (ap (λ (v : Verdict). v.number) (sym (then_first u w n)) ∙ h))
    ]

-- ---- the lowest place
module _ (f : ℕ → ℕ) where
  pub first-none : first_fault f 0 ≡ fine
  unfolding first_fault
  first-none = refl

  turn : (n : ℕ) → first_fault f n ≡ fine → first_fault f (suc n) ≡ (fine if eqb (f n) 0 else verdict (f n) n)
  unfolding first_fault
  turn n e = rw (e, then_next fine (fine if eqb (f n) 0 else verdict (f n) n) refl)

  after : (n : ℕ) → ((first_fault f n).number ≡ 0 → ⊥) → first_fault f (suc n) ≡ first_fault f n
  unfolding first_fault
  after n b = then_first (first_fault f n) _ b

  at : (i n : ℕ) → i < n → first_fault f i ≡ fine → (f i ≡ 0 → ⊥) → first_fault f n ≡ verdict (f i) i
  unfolding ◌if◌else◌
  at i zero h e b = absurd (omega arith)
  at i (suc n) h e b = elim (dec_lt i n) [ yes l ↦ there (at i n l e b) | no m ↦ here (omega arith) ]
    where
      there : first_fault f n ≡ verdict (f i) i → first_fault f (suc n) ≡ verdict (f i) i
      there ih = after n (λ z. b (sym (ap (λ (v : Verdict). v.number) ih) ∙ z)) ∙ ih

      here : n ≡ i → first_fault f (suc n) ≡ verdict (f i) i
      here q = rw q (turn i e ∙ rw (ne_eqb (f i) 0 b))

  -- the turns and ends of a loop that looks for the first fault, with its number k and the bound m as the code has them
  pub first_found : {k i n m : ℕ} → first_fault f i ≡ fine → k ≡ f i → (k ≡ 0 → ⊥) → i < n → n ≡ m → verdict k i ≡ first_fault f m
  first_found {k} {i} {n} {m} e q b h w = rw (q, at i m (omega arith) e (rw q at b))

  pub first_more : {k i : ℕ} → first_fault f i ≡ fine → k ≡ f i → k ≡ 0 → first_fault f (i + 1) ≡ fine
  unfolding ◌if◌else◌
  first_more {k} {i} e q z = let y : f i ≡ 0 = sym q ∙ z in rw add-one (turn i e ∙ rw (eq-eqb (f i) 0 y))

  pub first-never : {i n m : ℕ} → first_fault f i ≡ fine → i ≤ n → n ≤ i → n ≡ m → fine ≡ first_fault f m
  first-never {i} {n} {m} e p h w = let r : m ≡ i = omega arith in rw (r, e)

  -- where there is no first fault, there is none at any place
  pub first-clean : (n : ℕ) → Clean (first_fault f n) → (i : ℕ) → i < n → f i ≡ 0
  unfolding first_fault ◌if◌else◌
  first-clean zero z i h = absurd (omega arith)
  first-clean (suc n) z i h =
      let p = then_clean (first_fault f n) (fine if eqb (f n) 0 else verdict (f n) n) z in
      elim (dec_lt i n) [ yes l ↦ first-clean n p.0 i l | no m ↦ here (eqb (f n) 0) refl p.1 (omega arith) ]
    where
      here : (b : Bool) → eqb (f n) 0 ≡ b → Clean (fine if b else verdict (f n) n) → n ≡ i → f i ≡ 0
      here true e q r = rw (← r) (eqb-true (f n) 0 e)
      here false e q r = rw (← r) q

-- ---- what both ways out of a check have, the check has
pub if_keeps : {A : Type 0} (P : A → Type 0) (x : A) (t : Bool) (rest : A) → (t ≡ true → P x) → (t ≡ false → P rest) → P (x if t else rest)
unfolding ◌if◌else◌
if_keeps P x true rest a b = a refl
if_keeps P x false rest a b = b refl

pub if_most : {k x rest : ℕ} (t : Bool) → x ≤ k → rest ≤ k → (x if t else rest) ≤ k
if_most {k} {x} {rest} t a b = if_keeps (λ (y : ℕ). y ≤ k) x t rest (λ _. a) (λ _. b)

-- a verdict's number is at most k, its place at most p
pub record Within (k p : ℕ) (v : Verdict) : Type 0 where
  pub number : v.number ≤ k
  pub place : v.place ≤ p

refused-within : (k p n : ℕ) → n ≤ k → Within k p (refused n)
refused-within k p n h = record { number = h; place = omega arith }

pub check_within : {k p n : ℕ} {rest : Verdict} (t : Bool) → n ≤ k → (t ≡ false → Within k p rest) → Within k p (refused n if t else rest)
check_within {k} {p} {n} {rest} t h f = if_keeps (Within k p) (refused n) t rest (λ _. refused-within k p n h) f

pub then_within : {k p : ℕ} {v w : Verdict} → Within k p v → Within k p w → Within k p (v ▹ w)
unfolding ◌▹◌
then_within {k} {p} {v} {w} a b = go (eqb v.number 0)
  where
    go : (t : Bool) → Within k p (cond t w v)
    go true = b
    go false = a

pub first-within : (k p : ℕ) (f : ℕ → ℕ) → ((i : ℕ) → f i ≤ k) → (n : ℕ) → n ≤ p → Within k p (first_fault f n)
unfolding first_fault
first-within k p f h zero l = refused-within k p 0 (omega arith)
first-within k p f h (suc n) l = then_within (first-within k p f h n (omega arith)) (check_within _ (omega arith) (λ _. record { number = h n; place = omega arith }))
