-- `some` and `every` by the library's words for a chain over 0..n: what `any` and `all` of a range answer.
use mathlib.Core.Path.{◌≡◌, refl, sym, ap, ◌∙◌}
use mathlib.Core.Bool.{Bool, true, false, ◌||◌, ◌&&◌}
use Prim.Native.Nat.{ℕ, zero, suc, ◌+◌}
use native.Mathlib.Omega.{arith}
use mathlib.Core.List.{List}
use denote.Param.Members.{Mut}
use Rattle.std.specs.List.{range_with_len, list_any, list_all, FoldsTo}
use Rattle.std.specs.Option.{MatchOption}
use Rattle.std.specs.Prelude.{Option}
use Rattle.std.specs.Fn.{Called}
use Rattle.std.specs.Iterator.{YieldsThen}
use Rattle.std.specs.declared.ops.Range.{Range}
use Rattle.std.proofs.iter.Yields.{nat_range_steps}
use Rattle.std.proofs.lemmas.Iterator.{YieldsList-from_range}
use Rattle.std.proofs.lemmas.Iterator.Search.{any_from_yields_List, all_from_yields_List}
use Rattle.senders.specs.Tally.{some, every}

or-assoc : (a b d : Bool) → ((a || b) || d) ≡ (a || (b || d))
or-assoc true b d = refl
or-assoc false b d = refl

and-assoc : (a b d : Bool) → ((a && b) && d) ≡ (a && (b && d))
and-assoc true b d = refl
and-assoc false b d = refl

or-false : (a : Bool) → (a || false) ≡ a
or-false true = refl
or-false false = refl

and-true : (a : Bool) → (a && true) ≡ a
and-true true = refl
and-true false = refl

-- the first of them apart from the others
some_first : (n : ℕ) (P : ℕ → Bool) → some (suc n) P ≡ (P 0 || some n (λ i. P (suc i)))
unfolding some
some_first zero P = sym (or-false (P 0))
some_first (suc n) P = ap (λ b. b || P (suc n)) (some_first n P) ∙ or-assoc (P 0) _ _

every_first : (n : ℕ) (P : ℕ → Bool) → every (suc n) P ≡ (P 0 && every n (λ i. P (suc i)))
unfolding every
every_first zero P = sym (and-true (P 0))
every_first (suc n) P = ap (λ b. b && P (suc n)) (every_first n P) ∙ and-assoc (P 0) _ _

module _ (P : ℕ → Bool) where
  at_sum : {a b : ℕ} → a ≡ b → P a ≡ P b
  at_sum e = ap P e

any_from : (a n : ℕ) (P Q : ℕ → Bool) → ((i : ℕ) → P (a + i) ≡ Q i) → list_any P (range_with_len a n) ≡ some n Q
unfolding some
any_from a zero P Q e = refl
any_from a (suc n) P Q e =
    let here : P a ≡ Q 0 = at_sum P (omega arith) ∙ e 0 in
    let rest : list_any P (range_with_len (a + 1) n) ≡ some n (λ i. Q (suc i)) = any_from (a + 1) n P (λ i. Q (suc i)) (λ i. at_sum P (omega arith) ∙ e (suc i)) in
    rw (here, rest) (sym (some_first n Q))

all_from : (a n : ℕ) (P Q : ℕ → Bool) → ((i : ℕ) → P (a + i) ≡ Q i) → list_all P (range_with_len a n) ≡ every n Q
unfolding every
all_from a zero P Q e = refl
all_from a (suc n) P Q e =
    let here : P a ≡ Q 0 = at_sum P (omega arith) ∙ e 0 in
    let rest : list_all P (range_with_len (a + 1) n) ≡ every n (λ i. Q (suc i)) = all_from (a + 1) n P (λ i. Q (suc i)) (λ i. at_sum P (omega arith) ∙ e (suc i)) in
    rw (here, rest) (sym (every_first n Q))

-- ---- what a chain over 0..n answers: its clause `ran`, and what the closure says of one number
module _ {F : Type 0} {g : Mut F (ℕ × Unit {0}) Bool} {s : Range ℕ} (n : ℕ) (P : ℕ → Bool) (u : Range ℕ) (f : F) (r : Bool) where
  pub any_some : s ≡ record { start = 0; end = n }
      → (xs : List ℕ) × (o : Option ℕ) × (j : F) × YieldsThen nat_range_steps s xs o u × FoldsTo (λ p x q. Called g p (x, tt) false q) f xs j × MatchOption o (r ≡ false) (λ x. (r ≡ true) × ((h : F) × Called g j (x, tt) true h))
      → ((x : ℕ) (b : Bool) (q : F) → Called g f (x, tt) b q → (q ≡ f) × (b ≡ P x)) → r ≡ some n P
  any_some e ran one = any_from_yields_List P u f r ran (YieldsList-from_range 0 n n e (omega arith)) one ∙ any_from 0 n P P (λ i. at_sum P (omega arith))

  pub all_every : s ≡ record { start = 0; end = n }
      → (xs : List ℕ) × (o : Option ℕ) × (j : F) × YieldsThen nat_range_steps s xs o u × FoldsTo (λ p x q. Called g p (x, tt) true q) f xs j × MatchOption o (r ≡ true) (λ x. (r ≡ false) × ((h : F) × Called g j (x, tt) false h))
      → ((x : ℕ) (b : Bool) (q : F) → Called g f (x, tt) b q → (q ≡ f) × (b ≡ P x)) → r ≡ every n P
  all_every e ran one = all_from_yields_List P u f r ran (YieldsList-from_range 0 n n e (omega arith)) one ∙ all_from 0 n P P (λ i. at_sum P (omega arith))
