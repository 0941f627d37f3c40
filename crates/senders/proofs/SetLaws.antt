-- Laws of membership, and the counts' laws that specs/Laws.antt states.
use mathlib.Core.Path.{◌≡◌, refl, sym, ap, ◌∙◌, subst, subst⁻¹}
use mathlib.Core.Logic.{◌≢◌}
use mathlib.Core.Bool.{true, false, not}
use Prim.Native.Nat.{ℕ, zero, suc, ◌+◌, ◌-◌, ◌/◌, ◌%◌, ◌^◌, ◌<◌, max}
use native.Mathlib.Nat.{mod-lt, zero-div, div_self, div-eq_of_lt, div-one, mul-mod_left, pow-suc}
use native.Mathlib.Numerals.{one-add}
use native.Mathlib.Omega.{arith}
use native.Mathlib.Decide.{dec_lt, ℕ_discrete}
use lib.Dec.{eqb}
use lib.Arith.{bin_ind}
use lib.Bits.{bit_or, or_step, or_comm, or_shr, or_mod, or_zero_r}
use lib.Pow.{pow_pos, pow-lt, pow-add, shl-shr, shr-shr}
use Rattle.senders.specs.Tally.{count}
use Rattle.senders.specs.Set.{mem, insert, missing}
use Rattle.senders.specs.Laws.{SetLaws, CountLaws}
use Rattle.senders.proofs.TallyLaws.{count_none, count_same, count-one-more, count_add, count-gap, least-is, and-made}

-- ---- membership, bit by bit
pub mem-zero : (s : ℕ) → mem s 0 ≡ eqb (s % 2) 1
unfolding mem
mem-zero s = ap (λ (x : ℕ). eqb (x % 2) 1) (div-one s)

pub mem-suc : (s i : ℕ) → mem s (suc i) ≡ mem (s / 2) i
unfolding mem
mem-suc s i = ap (λ (x : ℕ). eqb (x % 2) 1) (sym (shr-shr s 1 i ∙ ap (λ (x : ℕ). s / 2 ^ x) (one-add i)))

pub mem_shift : (s c i : ℕ) → mem s (c + i) ≡ mem (s / 2 ^ c) i
unfolding mem
mem_shift s c i = ap (λ (x : ℕ). eqb (x % 2) 1) (sym (shr-shr s c i))

pub mem-high : (s q : ℕ) → s < 2 ^ q → mem s q ≡ false
unfolding mem
mem-high s q h = ap (λ (x : ℕ). eqb (x % 2) 1) (div-eq_of_lt h)

bit_pow-same : (q : ℕ) → 2 ^ q / 2 ^ q % 2 ≡ 1
bit_pow-same q = ap (λ (x : ℕ). x % 2) (div_self (pow_pos q))

bit_pow-other : (q k : ℕ) → k ≢ q → 2 ^ q / 2 ^ k % 2 ≡ 0
bit_pow-other q k o = go (dec_lt q k)
  where
    go : Dec (q < k) → 2 ^ q / 2 ^ k % 2 ≡ 0
    go (yes h) = ap (λ (x : ℕ). x % 2) (div-eq_of_lt (pow-lt h))
    go (no h) =
        let e : suc (q - suc k) + k ≡ q = omega arith in
        subst (λ (x : ℕ). 2 ^ x / 2 ^ k % 2 ≡ 0) e
        (ap (λ (x : ℕ). x / 2 ^ k % 2) (pow-add 2 (suc (q - suc k)) k) ∙ ap (λ (x : ℕ). x % 2) (shl-shr (2 ^ suc (q - suc k)) k)
        ∙ ap (λ (x : ℕ). x % 2) (pow-suc 2 (q - suc k)) ∙ mul-mod_left (2 ^ (q - suc k)) 2)

bit-or : (a b k : ℕ) → bit_or a b / 2 ^ k % 2 ≡ bit_or (a / 2 ^ k % 2) (b / 2 ^ k % 2)
bit-or a b k = ap (λ (x : ℕ). x % 2) (or_shr a b k) ∙ or_mod (a / 2 ^ k) (b / 2 ^ k) 1

or-one : (x : ℕ) → x < 2 → bit_or x 1 ≡ 1
or-one zero h = refl
or-one (suc zero) h = refl
or-one (suc (suc x)) h = absurd (omega arith)

pub set_laws : SetLaws
unfolding mem insert
set_laws = record {
  empty = λ q. ap (λ (x : ℕ). eqb (x % 2) 1) (zero-div (2 ^ q));
  insert_same = λ s q. ap (λ (x : ℕ). eqb x 1) (bit-or s (2 ^ q) q ∙ ap (bit_or (s / 2 ^ q % 2)) (bit_pow-same q) ∙ or-one (s / 2 ^ q % 2) (mod-lt (s / 2 ^ q) (omega arith)));
  insert_other = λ s q k o. ap (λ (x : ℕ). eqb x 1) (bit-or s (2 ^ q) k ∙ ap (bit_or (s / 2 ^ k % 2)) (bit_pow-other q k o) ∙ or_zero_r (s / 2 ^ k % 2));
}

-- in whichever order two are inserted, the set is the same: digit by digit
or_swap : (s a b : ℕ) → bit_or (bit_or s a) b ≡ bit_or (bit_or s b) a
or_swap = bin_ind (λ (s : ℕ). (a b : ℕ) → bit_or (bit_or s a) b ≡ bit_or (bit_or s b) a) or_comm (λ s ih a b. go s a b (ih (a / 2) (b / 2)))
  where
    half : (s a : ℕ) → bit_or s a / 2 ≡ bit_or (s / 2) (a / 2)
    half s a = omega (arith, or_step s a)

    low : (s a : ℕ) → bit_or s a % 2 ≡ max (s % 2) (a % 2)
    low s a = omega (arith, or_step s a)

    go : (s a b : ℕ) → bit_or (bit_or (s / 2) (a / 2)) (b / 2) ≡ bit_or (bit_or (s / 2) (b / 2)) (a / 2) → bit_or (bit_or s a) b ≡ bit_or (bit_or s b) a
    go s a b ih = rw (or_step (bit_or s a) b, or_step (bit_or s b) a, half, half, low, low, ih) (omega arith)

-- who is there stays there
pub insert-keeps : (p q s : ℕ) → mem s q ≡ true → mem (insert p s) q ≡ true
insert-keeps p q s h = go (ℕ_discrete q p)
  where
    go : Dec (q ≡ p) → mem (insert p s) q ≡ true
    go (yes e) = subst⁻¹ (λ (x : ℕ). mem (insert p s) x ≡ true) e (set_laws.insert_same s p)
    go (no o) = set_laws.insert_other s p q o ∙ h

pub insert_swap : (p q s : ℕ) → insert p (insert q s) ≡ insert q (insert p s)
unfolding insert
insert_swap p q s = or_swap s (2 ^ q) (2 ^ p)

-- ---- counts
misses : (c s u : ℕ) → count c (mem s) < count c (mem u) → (q : ℕ) × (q < c) × (missing u s q ≡ true)
misses c s u h = let g = count-gap c (mem s) (mem u) h in (g.at, g.below, and-made _ _ g.has (ap not g.lacks))

pub count_laws : (c f : ℕ) → CountLaws c f
count_laws c f = record {
  empty_correct = count_none c (mem 0) (λ i h. set_laws.empty i);
  empty_faulty = count_none f _ (λ i h. set_laws.empty (c + i));
  correct_one_more = λ s q h a. count-one-more c q (mem s) (mem (insert q s)) h a (set_laws.insert_same s q) (λ i l o. set_laws.insert_other s q i o);
  correct_not_faulty = λ s q h. count_same f _ _ (λ i l. set_laws.insert_other s q (c + i) (omega arith));
  faulty_one_more = λ s i h a. count-one-more f i _ _ h a (set_laws.insert_same s (c + i)) (λ j l o. set_laws.insert_other s (c + i) (c + j) (omega arith));
  faulty_not_correct = λ s i. count_same c _ _ (λ q l. set_laws.insert_other s (c + i) q (omega arith));
  add_up = λ s. count_add c f (mem s);
  larger_misses = λ s u h. let g = misses c s u h in least-is c (missing u s) g.0 g.1 g.2;
}
