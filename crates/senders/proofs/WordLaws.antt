-- The machine's operations on a word, as sets: `&`, `!`, the count of ones under a mask, and trailing zeros.
use mathlib.Core.Path.{◌≡◌, refl, sym, ap, ap₂, ◌∙◌}
use mathlib.Core.Bool.{Bool, true, false, not, ◌&&◌, ◌||◌, and_assoc, or-false}
use Prim.Native.Nat.{ℕ, zero, suc, min, ◌+◌, ◌-◌, ◌*◌, ◌/◌, ◌%◌, ◌^◌, ◌≤◌, ◌<◌}
use native.Mathlib.Nat.{mod-lt, mod-one, mod-eq_of_lt, one-mul, add_comm, add-zero, le_of_suc-le-suc, lt_of_le_of_lt, not-suc-le-zero, pow-suc, sub-zero}
use native.Mathlib.Numerals.{add-one}
use native.Mathlib.Omega.{arith}
use native.Mathlib.Decide.{dec_lt}
use borrow.Author.Tests.{lt-ltb, le-ltb, le-leb, lt-leb}
use lib.Dec.{eqb, ltb, leb}
use lib.Bits.{bit_and, and_shr, and_mod, and_mask, and_high, and_le_l}
use lib.Pow.{pow_pos, pow-lt, pow_mono, mod-pow-add}
use lib.Count.{ones, ones_cat, ones-le, count_trailing_zeros, under}
use Rattle.senders.specs.Tally.{digit, count, least, least_if}
use Rattle.senders.specs.Set.{mem, missing, correct_count, faulty_count}
use Rattle.senders.proofs.TallyLaws.{count_same, least-same, Cut, least-cut}
use Rattle.senders.proofs.SetLaws.{mem-zero, mem-suc, mem_shift, mem-high, set_laws}

-- `1 << q`
pub shl_one : (q : ℕ) → q < 64 → 1 * 2 ^ q % 2 ^ 64 ≡ 2 ^ q
shl_one q h = rw (one-mul (2 ^ q)) (mod-eq_of_lt (pow-lt h))

-- ---- `a & b`
and-digit : (x y : ℕ) → x < 2 → y < 2 → eqb (bit_and x y) 1 ≡ (eqb x 1 && eqb y 1)
and-digit zero y h k = refl
and-digit (suc zero) zero h k = refl
and-digit (suc zero) (suc zero) h k = refl
and-digit (suc zero) (suc (suc y)) h k = absurd (omega arith)
and-digit (suc (suc x)) y h k = absurd (omega arith)

pub mem-and : (a b q : ℕ) → mem (bit_and a b) q ≡ (mem a q && mem b q)
unfolding mem
mem-and a b q =
    ap (λ (x : ℕ). eqb x 1) (ap (λ (x : ℕ). x % 2) (and_shr a b q) ∙ and_mod (a / 2 ^ q) (b / 2 ^ q) 1)
    ∙ and-digit (a / 2 ^ q % 2) (b / 2 ^ q % 2) (mod-lt (a / 2 ^ q) (omega arith)) (mod-lt (b / 2 ^ q) (omega arith))

-- ---- `!s`
not_digit : (x y : ℕ) → x + y ≡ 1 → eqb x 1 ≡ not (eqb y 1)
not_digit zero zero h = absurd (omega arith)
not_digit zero (suc zero) h = refl
not_digit zero (suc (suc y)) h = absurd (omega arith)
not_digit (suc zero) zero h = refl
not_digit (suc zero) (suc y) h = absurd (omega arith)
not_digit (suc (suc x)) y h = absurd (omega arith)

pub mem-not : (k s q : ℕ) → s < 2 ^ k → q < k → mem ((2 ^ k - 1) - s) q ≡ not (mem s q)
mem-not zero s q h l = absurd (not-suc-le-zero l)
mem-not (suc k) s zero h l = rw (mem-zero, mem-zero) (not_digit (((2 ^ suc k - 1) - s) % 2) (s % 2) (omega (arith, pow-suc 2 k)))
mem-not (suc k) s (suc q) h l =
    let e : (2 ^ suc k - 1 - s) / 2 ≡ 2 ^ k - 1 - s / 2 = omega (arith, pow-suc 2 k) in
    rw (mem-suc, mem-suc, e) (mem-not k (s / 2) q (omega (arith, pow-suc 2 k)) (le_of_suc-le-suc l))

-- `set & !other`
pub mem-missing : (s o q : ℕ) → o < 2 ^ 64 → q < 64 → mem (bit_and s ((2 ^ 64 - 1) - o)) q ≡ missing s o q
mem-missing s o q h l = mem-and s _ q ∙ ap (λ (b : Bool). mem s q && b) (mem-not 64 o q h l)

-- ---- the senders below c, as a mask
pub mem_mask : (c q : ℕ) → mem (2 ^ c - 1) q ≡ ltb q c
mem_mask c q = go (dec_lt q c)
  where
    go : Dec (q < c) → mem (2 ^ c - 1) q ≡ ltb q c
    go (yes h) = rw (sub-zero (2 ^ c - 1)) at (mem-not c 0 q (pow_pos c) h) ∙ ap not (set_laws.empty q) ∙ sym (lt-ltb q c h)
    go (no h) = mem-high (2 ^ c - 1) q (omega (arith, pow_pos c, pow_mono {i = c} {j = q} (omega arith))) ∙ sym (le-ltb q c (omega arith))

not-ltb : (a b : ℕ) → not (ltb a b) ≡ leb b a
not-ltb a b = go (dec_lt a b)
  where
    go : Dec (a < b) → not (ltb a b) ≡ leb b a
    go (yes h) = rw (lt-ltb a b h, lt-leb b a h)
    go (no h) = rw (le-ltb a b (omega arith), le-leb b a (omega arith))

pub mem-first : (c s o q : ℕ) → missing (bit_and (2 ^ c - 1) s) o q ≡ (ltb q c && missing s o q)
mem-first c s o q = ap (λ (b : Bool). b && not (mem o q)) (mem-and (2 ^ c - 1) s q ∙ ap (λ (b : Bool). b && mem s q) (mem_mask c q)) ∙ and_assoc (ltb q c) (mem s q) (not (mem o q))

pub mem-rest : (c o q : ℕ) → c ≤ 64 → q < 64 → missing ((2 ^ 64 - 1) - (2 ^ c - 1)) o q ≡ (leb c q && not (mem o q))
mem-rest c o q h l =
    ap (λ (b : Bool). b && not (mem o q)) (mem-not 64 (2 ^ c - 1) q (omega (arith, pow_pos c, pow_mono {i = c} {j = 64} h)) l ∙ ap not (mem_mask c q) ∙ not-ltb q c)

-- `!(first & !sent) & !got`: who has sent or is not among the first, and was not received
on_way : (a b g : Bool) → (not (a && not b) && g) ≡ (a && (b && g) || not a && g)
on_way true true g = sym (or-false g)
on_way true false g = refl
on_way false b g = refl

pub missing-transit : (c s o q : ℕ) → c ≤ 64 → s < 2 ^ 64 → q < 64 → missing ((2 ^ 64 - 1) - bit_and (2 ^ c - 1) ((2 ^ 64 - 1) - s)) o q ≡ (ltb q c && missing s o q || leb c q && not (mem o q))
missing-transit c s o q k h l =
    let below : bit_and (2 ^ c - 1) ((2 ^ 64 - 1) - s) < 2 ^ 64 = lt_of_le_of_lt (and_le_l (2 ^ c - 1) ((2 ^ 64 - 1) - s)) (omega (arith, pow_pos c, pow_mono {i = c} {j = 64} k)) in
    ap (λ (b : Bool). b && not (mem o q)) (mem-not 64 _ q below l ∙ ap not (mem-missing (2 ^ c - 1) s q h l ∙ ap (λ (b : Bool). b && not (mem s q)) (mem_mask c q)))
    ∙ on_way (ltb q c) (mem s q) (not (mem o q)) ∙ ap (λ (b : Bool). ltb q c && missing s o q || b && not (mem o q)) (not-ltb q c)

pub mem-transit : {m : ℕ} (c s o q : ℕ) → m ≡ 2 ^ c - 1 → c ≤ 64 → s < 2 ^ 64 → o < 2 ^ 64 → q < 64
    → mem (bit_and ((2 ^ 64 - 1) - bit_and m ((2 ^ 64 - 1) - s)) ((2 ^ 64 - 1) - o)) q ≡ (ltb q c && missing s o q || leb c q && not (mem o q))
mem-transit c s o q e k h i l = rw e (mem-missing _ o q i l ∙ missing-transit c s o q k h l)

-- ---- counts of ones
ones_digit : (x : ℕ) → x < 2 → ones x ≡ digit (eqb x 1)
unfolding ones
ones_digit zero h = refl
ones_digit (suc zero) h = refl
ones_digit (suc (suc x)) h = absurd (omega arith)

count-mod : (k s : ℕ) → count k (mem s) ≡ ones (s % 2 ^ k)
unfolding count mem ones
count-mod zero s = ap ones (sym (mod-one s))
count-mod (suc k) s =
    ap₂ (λ (x y : ℕ). x + y) (count-mod k s) (sym (ones_digit (s / 2 ^ k % 2) (mod-lt (s / 2 ^ k) (omega arith))))
    ∙ add_comm (ones (s % 2 ^ k)) (ones (s / 2 ^ k % 2))
    ∙ sym (ones_cat k (s / 2 ^ k % 2) (s % 2 ^ k) (mod-lt s (pow_pos k)))
    ∙ ap ones (sym (mod-pow-add s 1 k)) ∙ ap (λ (x : ℕ). ones (s % 2 ^ x)) (add_comm 1 k ∙ add-one k)

-- the two masks: senders below c, and the f after them
pub ones_correct : (c s : ℕ) → ones (bit_and s (2 ^ c - 1)) ≡ correct_count c s
ones_correct c s = ap ones (and_mask s c) ∙ sym (count-mod c s)

pub ones_faulty : (c f s : ℕ) → ones (bit_and s (2 ^ (f + c) - 2 ^ c)) ≡ faulty_count c f s
unfolding ones
ones_faulty c f s =
    ap ones (and_high s f c) ∙ ap ones (sym (add-zero (s / 2 ^ c % 2 ^ f * 2 ^ c))) ∙ ones_cat c (s / 2 ^ c % 2 ^ f) 0 (pow_pos c) ∙ add-zero _
    ∙ sym (count_same f (λ i. mem s (c + i)) (mem (s / 2 ^ c)) (λ i h. mem_shift s c i) ∙ count-mod f (s / 2 ^ c))

-- the second mask, made of two of the first kind
pub mask_less : (c f : ℕ) → 2 ^ c - 1 ≤ 2 ^ (f + c) - 1
mask_less c f = omega (arith, pow_mono {i = c} {j = f + c} (omega arith))

pub mask_faulty : (c f : ℕ) → (2 ^ (f + c) - 1) - (2 ^ c - 1) ≡ 2 ^ (f + c) - 2 ^ c
mask_faulty c f = omega (arith, pow_pos c)

-- a word has at most 64 ones, under any mask
pub ones_few : (s m : ℕ) → s < 2 ^ 64 → ones (bit_and s m) ≤ 64
ones_few s m h = ones-le 64 _ (lt_of_le_of_lt (and_le_l s m) h)

-- ---- trailing zeros
under_is : (x t : ℕ) → x < 2 → under x t ≡ least_if (eqb x 1) t
under_is zero t h = refl
under_is (suc zero) t h = refl
under_is (suc (suc x)) t h = absurd (omega arith)

pub trailing_least : (k s : ℕ) → count_trailing_zeros k s ≡ least k (mem s)
unfolding count_trailing_zeros least
trailing_least zero s = refl
trailing_least (suc k) s =
    under_is (s % 2) (count_trailing_zeros k (s / 2)) (mod-lt s (omega arith))
    ∙ ap₂ least_if (sym (mem-zero s)) (trailing_least k (s / 2) ∙ least-same k (mem (s / 2)) (λ i. mem s (suc i)) (λ i h. sym (mem-suc s i)))

-- `trailing_zeros(set & !other)` is the lowest member that is missing, where that is below c
module _ (s o c : ℕ) (l : c ≤ 64) (h : o < 2 ^ 64) where
  abbrev zeros : ℕ
  zeros = count_trailing_zeros 64 (bit_and s ((2 ^ 64 - 1) - o))

  cut : Cut c 64 (missing s o) (mem (bit_and s ((2 ^ 64 - 1) - o)))
  cut = least-cut c 64 _ _ l (λ i j. mem-missing s o i h (omega arith))

  pub lowest-below : zeros < c → zeros ≡ least c (missing s o)
  lowest-below b = trailing_least 64 _ ∙ cut.below (rw (← trailing_least 64 (bit_and s ((2 ^ 64 - 1) - o))) b)

  pub lowest-none : c ≤ zeros → c ≡ least c (missing s o)
  lowest-none b = cut.none (rw (← trailing_least 64 (bit_and s ((2 ^ 64 - 1) - o))) b)

  pub lowest_within : {z m : ℕ} → z ≡ zeros → m ≡ min z c → m ≡ least c (missing s o)
  lowest_within {z} {m} e f = go (dec_lt zeros c)
    where
      go : Dec (zeros < c) → m ≡ least c (missing s o)
      go (yes l) = let n : m ≡ zeros = omega (arith, e, f) in n ∙ lowest-below l
      go (no l) = let n : m ≡ c = omega (arith, e, f) in n ∙ lowest-none (omega arith)

-- the lowest of the correct senders, of the faulty ones, and of those in transit, as the code asks for them with the mask m in hand
module _ {m r : ℕ} (c n : ℕ) (e : m ≡ 2 ^ c - 1) where
  pub lowest-correct : (s o : ℕ) → r ≡ least n (missing (bit_and m s) o) → r ≡ least n (λ q. ltb q c && missing s o q)
  lowest-correct s o h = rw e at h ∙ least-same n _ _ (λ q l. mem-first c s o q)

  pub lowest-faulty : (o : ℕ) → c ≤ 64 → n ≤ 64 → r ≡ least n (missing ((2 ^ 64 - 1) - m) o) → r ≡ least n (λ q. leb c q && not (mem o q))
  lowest-faulty o k b h = rw e at h ∙ least-same n _ _ (λ q l. mem-rest c o q k (omega arith))

  pub lowest-transit : (s o : ℕ) → c ≤ 64 → n ≤ 64 → s < 2 ^ 64 → r ≡ least n (missing ((2 ^ 64 - 1) - bit_and m ((2 ^ 64 - 1) - s)) o) → r ≡ least n (λ q. ltb q c && missing s o q || leb c q && not (mem o q))
  lowest-transit s o k b i h = rw e at h ∙ least-same n _ _ (λ q l. missing-transit c s o q k i (omega arith))
