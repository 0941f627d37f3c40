-- Sums over boards and types as loops make them, and how large they are.
use mathlib.Core.Path.{◌≡◌, refl}
use mathlib.Core.List.{List}
use Prim.Native.Nat.{ℕ, zero, suc, ◌+◌, ◌*◌, ◌≤◌, ◌<◌}
use native.Mathlib.Nat.{mul-le-mul_right}
use native.Mathlib.Numerals.{add-one}
use native.Mathlib.Omega.{arith}
use Rattle.senders.proofs.TallyLaws.{count-at_most}
use Rattle.senders.specs.Set.{mem}
use Rattle.paper.specs.Words.{sent_at, stopped_at, sent}
use Rattle.paper.specs.Form.{shown}
use Rattle.words.specs.declared.Sizes.{Sizes}
use Rattle.words.specs.Words.{from_correct, sent_count_in}
use Rattle.words.specs.Facts.{at_end, Bounded, Holds}
use Rattle.receipts.specs.Receipts.{sum_below}

module _ (g : ℕ → ℕ) where
  pub sum-begins : 0 ≡ sum_below 0 g
  unfolding sum_below
  sum-begins = refl

  pub sum_goes : {x y : ℕ} (i : ℕ) → x ≡ sum_below i g → y ≡ g i → x + y ≡ sum_below (i + 1) g
  unfolding sum_below
  sum_goes {x} {y} i e h = rw add-one (omega (arith, e, h))

  pub sum-ends : {x i n : ℕ} → x ≡ sum_below i g → i ≤ n → n ≤ i → x ≡ sum_below n g
  sum-ends {x} {i} {n} e a b = let z : n ≡ i = omega arith in rw z e

pub sum-within : (most : ℕ) {x i n : ℕ} → x ≤ i * most → i ≤ n → x ≤ n * most
sum-within most {x} {i} {n} h l = omega (arith, h, mul-le-mul_right most l)

-- what was sent of a type is at most a word, or at most the boards
sent_of_lem : (k C f v : ℕ) → C ≤ 64 → ((k ≡ 0 → ⊥) → v ≤ at_end) → from_correct k C f (shown k C f v) ≤ at_end
unfolding from_correct shown
sent_of_lem zero C f v h small = omega (arith, count-at_most C (mem v), h)
sent_of_lem (suc zero) C f v h small = small (λ e. omega (arith, e))
sent_of_lem (suc (suc k)) C f v h small = small (λ e. omega (arith, e))

pub sent-small : (s : Sizes) (w : List ℕ) (m : ℕ) → Bounded s → Holds s at_end w → m < s.types → sent_count_in s w m ≤ at_end
unfolding sent sent_at stopped_at
sent-small s w m B H h = sent_of_lem s.level s.correct s.faulty _ (omega (arith, B.boards)) (λ n. H.small n _ (omega (arith, h)))
