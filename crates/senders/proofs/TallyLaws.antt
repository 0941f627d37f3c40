-- Laws of `count`, `some`, `every` and `least`.
use mathlib.Core.Path.{◌≡◌, refl, sym, ap, ap₂, ◌∙◌}
use mathlib.Core.Logic.{◌≢◌}
use mathlib.Core.Bool.{Bool, true, false, not, ◌&&◌, ◌||◌, false≢true, and-false, or-true}
use Prim.Native.Nat.{ℕ, zero, suc, ◌+◌, ◌≤◌, ◌<◌, suc-le-suc}
use native.Mathlib.Nat.{not-suc-le-zero, le_refl, le_of_suc-le-suc, zero-lt-suc, add-zero, add-suc}
use native.Mathlib.Numerals.{add-one}
use native.Mathlib.Omega.{arith}
use native.Mathlib.Decide.{ℕ_discrete}
use borrow.Author.Tests.{not-true, not-false}
use Rattle.senders.specs.Tally.{digit, count, some, every, least, least_if, Least}

pub and_both : (a b : Bool) → (a && b) ≡ true → (a ≡ true) × (b ≡ true)
and_both true b h = (refl, h)
and_both false b h = absurd (false≢true h)

pub and-made : (a b : Bool) → a ≡ true → b ≡ true → (a && b) ≡ true
and-made a b p q = rw (p, q)

-- ---- count
pub digit-le : (a b : Bool) → (a ≡ true → b ≡ true) → digit a ≤ digit b
digit-le true b s = rw (s refl) (le_refl 1)
digit-le false b s = omega arith

pub digit-one : (a : Bool) → digit a ≤ 1
digit-one true = omega arith
digit-one false = omega arith

pub count-at_most : (k : ℕ) (P : ℕ → Bool) → count k P ≤ k
unfolding count
count-at_most zero P = omega arith
count-at_most (suc k) P = omega (arith, count-at_most k P, digit-one (P k))

pub count_same : (k : ℕ) (P Q : ℕ → Bool) → ((i : ℕ) → i < k → P i ≡ Q i) → count k P ≡ count k Q
unfolding count
count_same zero P Q e = refl
count_same (suc k) P Q e = rw (e k (le_refl (suc k)), count_same k P Q (λ i h. e i (omega arith)))

pub count_none : (k : ℕ) (P : ℕ → Bool) → ((i : ℕ) → i < k → P i ≡ false) → count k P ≡ 0
unfolding count
count_none zero P e = refl
count_none (suc k) P e = rw (e k (le_refl (suc k))) (omega (arith, count_none k P (λ i h. e i (omega arith))))

pub count-zero : (k : ℕ) (P : ℕ → Bool) → count k P ≡ 0 → (i : ℕ) → i < k → P i ≡ false
unfolding count
count-zero zero P h i l = absurd (not-suc-le-zero l)
count-zero (suc k) P h i l = go (ℕ_discrete i k) (P k) refl (λ b. count-zero k P (omega arith) i b)
  where
    go : Dec (i ≡ k) → (b : Bool) → P k ≡ b → (i < k → P i ≡ false) → P i ≡ false
    go (yes e) true p ih = absurd (omega (arith, rw p at h))
    go (yes e) false p ih = rw e p
    go (no e) b p ih = ih (omega arith)

pub count_add : (a b : ℕ) (P : ℕ → Bool) → count (a + b) P ≡ count a P + count b (λ i. P (a + i))
unfolding count
count_add a zero P = simp add-zero
count_add a (suc b) P = rw add-suc (omega (arith, count_add a b P))

-- a set that holds another counts no less
pub count-le : (k : ℕ) (P Q : ℕ → Bool) → ((i : ℕ) → i < k → P i ≡ true → Q i ≡ true) → count k P ≤ count k Q
unfolding count
count-le zero P Q s = omega arith
count-le (suc k) P Q s = omega (arith, count-le k P Q (λ i h. s i (omega arith)), digit-le (P k) (Q k) (s k (le_refl (suc k))))

-- Q is P and one more
pub count-one-more : (k q : ℕ) (P Q : ℕ → Bool) → q < k → P q ≡ false → Q q ≡ true → ((i : ℕ) → i < k → i ≢ q → Q i ≡ P i) → count k Q ≡ suc (count k P)
unfolding count
count-one-more zero q P Q h p t e = absurd (not-suc-le-zero h)
count-one-more (suc k) q P Q h p t e = go (ℕ_discrete k q) (λ l. count-one-more k q P Q l p t (λ i b. e i (omega arith)))
  where
    go : Dec (k ≡ q) → (q < k → count k Q ≡ suc (count k P)) → count k Q + digit (Q k) ≡ suc (count k P + digit (P k))
    go (yes s) ih = rw (s, t, p, count_same q Q P (λ i l. e i (omega arith) (omega arith))) (omega arith)
    go (no s) ih = rw (e k (le_refl (suc k)) s) (omega (arith, ih (omega arith)))

count-some : (k : ℕ) (P : ℕ → Bool) (m : ℕ) → m < k → P m ≡ true → 1 ≤ count k P
unfolding count
count-some zero P m h t = absurd (not-suc-le-zero h)
count-some (suc k) P m h t = go (ℕ_discrete m k) (λ l. count-some k P m l t)
  where
    go : Dec (m ≡ k) → (m < k → 1 ≤ count k P) → 1 ≤ count k P + digit (P k)
    go (yes e) ih = let p : P k ≡ true = rw (← e) t in rw p (omega arith)
    go (no e) ih = omega (arith, ih (omega arith))

count-two : (k : ℕ) (P : ℕ → Bool) (m j : ℕ) → m < k → j < k → j ≢ m → P m ≡ true → P j ≡ true → 2 ≤ count k P
unfolding count
count-two zero P m j h l o t u = absurd (not-suc-le-zero h)
count-two (suc k) P m j h l o t u = go (ℕ_discrete m k) (ℕ_discrete j k) (λ a b. count-two k P m j a b o t u)
  where
    go : Dec (m ≡ k) → Dec (j ≡ k) → (m < k → j < k → 2 ≤ count k P) → 2 ≤ count k P + digit (P k)
    go (yes e) (yes f) ih = absurd (o (f ∙ sym e))
    go (yes e) (no f) ih = let p : P k ≡ true = rw (← e) t in rw p (omega (arith, count-some k P j (omega arith) u))
    go (no e) (yes f) ih = let p : P k ≡ true = rw (← f) u in rw p (omega (arith, count-some k P m (omega arith) t))
    go (no e) (no f) ih = omega (arith, ih (omega arith) (omega arith))

-- where at most one passes, no other does
pub count_only : (k : ℕ) (P : ℕ → Bool) (m : ℕ) → count k P ≤ 1 → m < k → P m ≡ true → (j : ℕ) → j < k → j ≢ m → P j ≡ false
count_only k P m c hm t j hj o = go (P j) refl
  where
    go : (b : Bool) → P j ≡ b → P j ≡ false
    go false e = e
    go true e =
        absurd (omega (arith, count-two k P m j hm hj o t e))

-- fewer pass P than Q: one passes Q and not P
pub record Lacking (k : ℕ) (P Q : ℕ → Bool) : Type 0 where
  pub at : ℕ
  pub below : at < k
  pub has : Q at ≡ true
  pub lacks : P at ≡ false

gap_up : (k : ℕ) (P Q : ℕ → Bool) → Lacking k P Q → Lacking (suc k) P Q
gap_up k P Q g = record { at = g.at; below = omega arith; has = g.has; lacks = g.lacks }

pub count-gap : (k : ℕ) (P Q : ℕ → Bool) → count k P < count k Q → Lacking k P Q
unfolding count
count-gap zero P Q h = absurd (not-suc-le-zero h)
count-gap (suc k) P Q h = go (P k) (Q k) refl refl (λ l. gap_up k P Q (count-gap k P Q l))
  where
    go : (a b : Bool) → P k ≡ a → Q k ≡ b → (count k P < count k Q → Lacking (suc k) P Q) → Lacking (suc k) P Q
    go false true p t ih = record { at = k; below = le_refl (suc k); has = t; lacks = p }
    go true true p t ih = ih (omega (arith, rw (p, t) at h))
    go true false p t ih = ih (omega (arith, rw (p, t) at h))
    go false false p t ih = ih (omega (arith, rw (p, t) at h))

-- ---- some, every
-- the turns and ends of a loop that looks for one that passes, with the test's answer b in hand
module _ (P : ℕ → Bool) where
  pub some-none : some 0 P ≡ false
  unfolding some
  some-none = refl

  pub some_more : {b : Bool} {i : ℕ} → some i P ≡ false → b ≡ P i → b ≡ false → some (i + 1) P ≡ false
  unfolding some
  some_more {b} {i} h e f = rw (add-one, h) (sym e ∙ f)

  some_at : (i n : ℕ) → i < n → P i ≡ true → some n P ≡ true
  unfolding some
  some_at i zero h t = absurd (not-suc-le-zero h)
  some_at i (suc n) h t = go (ℕ_discrete i n) (λ l. some_at i n l t)
    where
      go : Dec (i ≡ n) → (i < n → some n P ≡ true) → (some n P || P n) ≡ true
      go (yes q) ih = let p : P n ≡ true = rw (← q) t in rw p (or-true (some n P))
      go (no q) ih = rw (ih (omega arith))

  pub some-found : {b : Bool} {i n m : ℕ} → b ≡ P i → b ≡ true → i < n → n ≡ m → true ≡ some m P
  some-found {b} {i} {n} {m} e t h w = sym (some_at i m (omega arith) (sym e ∙ t))

  pub some-never : {i n m : ℕ} → some i P ≡ false → i ≤ n → n ≤ i → n ≡ m → false ≡ some m P
  some-never {i} {n} {m} e p h w = let r : m ≡ i = omega arith in rw (r, e)

  pub some-not : (n : ℕ) → some n P ≡ false → (i : ℕ) → i < n → P i ≡ false
  some-not n h i l = go (P i) refl
    where
      go : (b : Bool) → P i ≡ b → P i ≡ false
      go true e = absurd (false≢true (sym h ∙ some_at i n l e))
      go false e = e

pub every-each : (k : ℕ) (P : ℕ → Bool) → every k P ≡ true → (i : ℕ) → i < k → P i ≡ true
unfolding every
every-each zero P h i l = absurd (not-suc-le-zero l)
every-each (suc k) P h i l = go (ℕ_discrete i k) (and_both (every k P) (P k) h) (every-each k P)
  where
    go : Dec (i ≡ k) → (every k P ≡ true) × (P k ≡ true) → (every k P ≡ true → (i : ℕ) → i < k → P i ≡ true) → P i ≡ true
    go (yes e) b ih = rw e b.1
    go (no e) b ih = ih b.0 i (omega arith)

pub every_made : (k : ℕ) (P : ℕ → Bool) → ((i : ℕ) → i < k → P i ≡ true) → every k P ≡ true
unfolding every
every_made zero P f = refl
every_made (suc k) P f = and-made (every k P) (P k) (every_made k P (λ i l. f i (omega arith))) (f k (le_refl (suc k)))

pub every-same : (k : ℕ) (P Q : ℕ → Bool) → ((i : ℕ) → i < k → P i ≡ Q i) → every k P ≡ every k Q
unfolding every
every-same zero P Q e = refl
every-same (suc k) P Q e = rw (e k (le_refl (suc k)), every-same k P Q (λ i h. e i (omega arith)))

every-fails : (k i : ℕ) (P : ℕ → Bool) → i < k → P i ≡ false → every k P ≡ false
unfolding every
every-fails zero i P h f = absurd (not-suc-le-zero h)
every-fails (suc k) i P h f = go (ℕ_discrete i k) (λ l. every-fails k i P l f)
  where
    go : Dec (i ≡ k) → (i < k → every k P ≡ false) → (every k P && P k) ≡ false
    go (yes e) ih = let p : P k ≡ false = rw (← e) f in rw p (and-false (every k P))
    go (no e) ih = rw (ih (omega arith))

-- the turns and ends of a loop that looks for one that fails, with the answer b, not the test's, in hand
module _ (P : ℕ → Bool) where
  pub every-none : every 0 P ≡ true
  unfolding every
  every-none = refl

  pub every_more : {b : Bool} (i : ℕ) → every i P ≡ true → b ≡ not (P i) → b ≡ false → every (i + 1) P ≡ true
  unfolding every
  every_more {b} i h e f = rw (add-one, h) (not-false (P i) (sym e ∙ f))

  pub every-failed : {b : Bool} {i n : ℕ} → b ≡ not (P i) → b ≡ true → i < n → true ≡ not (every n P)
  every-failed {b} {i} {n} e t h = ap not (sym (every-fails n i P h (not-true (P i) (sym e ∙ t))))

  pub every_held : {i n : ℕ} → every i P ≡ true → i ≤ n → n ≤ i → false ≡ not (every n P)
  every_held {i} {n} h p q = let r : n ≡ i = omega arith in rw (r, h)

-- ---- least
pub least-same : (k : ℕ) (P Q : ℕ → Bool) → ((i : ℕ) → i < k → P i ≡ Q i) → least k P ≡ least k Q
unfolding least
least-same zero P Q e = refl
least-same (suc k) P Q e = ap₂ least_if (e 0 (zero-lt-suc k)) (least-same k (λ i. P (suc i)) (λ i. Q (suc i)) (λ i h. e (suc i) (omega arith)))

before : (P : ℕ → Bool) (q : ℕ) → P 0 ≡ false → ((i : ℕ) → i < q → P (suc i) ≡ false) → (i : ℕ) → i < suc q → P i ≡ false
before P q e f zero l = e
before P q e f (suc i) l = f i (le_of_suc-le-suc l)

-- where one passes, the least that passes is found
pub least-is : (k : ℕ) (P : ℕ → Bool) (q : ℕ) → q < k → P q ≡ true → Least k P (least k P)
unfolding least
least-is zero P q h t = absurd (not-suc-le-zero h)
least-is (suc k) P q h t = go (P 0) refl q h t (λ j. least-is k (λ i. P (suc i)) j)
  where
    go : (b : Bool) → P 0 ≡ b → (q : ℕ) → q < suc k → P q ≡ true
        → ((j : ℕ) → j < k → P (suc j) ≡ true → Least k (λ i. P (suc i)) (least k (λ i. P (suc i))))
        → Least (suc k) P (least_if b (least k (λ i. P (suc i))))
    go true e q h t ih = record { below = zero-lt-suc k; passes = e; first = λ i l. absurd (not-suc-le-zero l) }
    go false e zero h t ih = absurd (false≢true (sym e ∙ t))
    go false e (suc j) h t ih =
        let r = ih j (le_of_suc-le-suc h) t in
        record { below = suc-le-suc r.below; passes = r.passes; first = before P (least k (λ i. P (suc i))) e r.first }

-- what the search passes over does not pass, and what it finds does
pub least_first : (k : ℕ) (P : ℕ → Bool) (i : ℕ) → i < least k P → P i ≡ false
unfolding least
least_first zero P i h = absurd (not-suc-le-zero h)
least_first (suc k) P i h = go (P 0) refl i h (λ j. least_first k (λ i. P (suc i)) j)
  where
    go : (b : Bool) → P 0 ≡ b → (i : ℕ) → i < least_if b (least k (λ i. P (suc i)))
        → ((j : ℕ) → j < least k (λ i. P (suc i)) → P (suc j) ≡ false) → P i ≡ false
    go true e i h ih = absurd (not-suc-le-zero h)
    go false e zero h ih = e
    go false e (suc i) h ih = ih i (le_of_suc-le-suc h)

pub least-le : (k : ℕ) (P : ℕ → Bool) → least k P ≤ k
unfolding least
least-le zero P = omega arith
least-le (suc k) P = go (P 0) (least-le k (λ i. P (suc i)))
  where
    go : (b : Bool) → least k (λ i. P (suc i)) ≤ k → least_if b (least k (λ i. P (suc i))) ≤ suc k
    go true h = omega arith
    go false h = suc-le-suc h

pub least-found : (k : ℕ) (P : ℕ → Bool) → least k P < k → P (least k P) ≡ true
unfolding least
least-found zero P h = absurd (not-suc-le-zero h)
least-found (suc k) P h = go (P 0) refl h (least-found k (λ i. P (suc i)))
  where
    go : (b : Bool) → P 0 ≡ b → least_if b (least k (λ i. P (suc i))) < suc k → (least k (λ i. P (suc i)) < k → P (suc (least k (λ i. P (suc i)))) ≡ true)
        → P (least_if b (least k (λ i. P (suc i)))) ≡ true
    go true e h ih = e
    go false e h ih = ih (le_of_suc-le-suc h)

pub least-none : (k : ℕ) (P : ℕ → Bool) → ((i : ℕ) → i < k → P i ≡ false) → least k P ≡ k
unfolding least
least-none zero P f = refl
least-none (suc k) P f = rw (f 0 (zero-lt-suc k)) (ap suc (least-none k (λ i. P (suc i)) (λ i h. f (suc i) (omega arith))))

-- a search over k numbers, cut at c: Q passes below c what P passes
pub record Cut (c k : ℕ) (P Q : ℕ → Bool) : Type 0 where
  pub below : least k Q < c → least k Q ≡ least c P
  pub none : c ≤ least k Q → c ≡ least c P

pub least-cut : (c k : ℕ) (P Q : ℕ → Bool) → c ≤ k → ((i : ℕ) → i < c → Q i ≡ P i) → Cut c k P Q
unfolding least
least-cut zero k P Q l e = record { below = λ h. absurd (omega arith); none = λ h. refl }
least-cut (suc c) zero P Q l e = absurd (not-suc-le-zero l)
least-cut (suc c) (suc k) P Q l e = go (Q 0) refl (least-cut c k (λ i. P (suc i)) (λ i. Q (suc i)) (le_of_suc-le-suc l) (λ i h. e (suc i) (omega arith)))
  where
    go : (b : Bool) → Q 0 ≡ b → Cut c k (λ i. P (suc i)) (λ i. Q (suc i)) → Cut (suc c) (suc k) P Q
    go true f r = let g : P 0 ≡ true = sym (e 0 (zero-lt-suc c)) ∙ f in record { below = λ h. rw (f, g); none = λ h. absurd (not-suc-le-zero (rw f at h)) }
    go false f r =
        let g : P 0 ≡ false = sym (e 0 (zero-lt-suc c)) ∙ f in
        record { below = λ h. rw (f, g) (ap suc (r.below (le_of_suc-le-suc (rw f at h)))); none = λ h. rw g (ap suc (r.none (le_of_suc-le-suc (rw f at h)))) }
