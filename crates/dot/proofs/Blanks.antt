-- A blank between two tokens of any text changes nothing but the place of a later fault.
use Prim.Native.Nat.{ℕ, suc}
use mathlib.Core.Path.{◌≡◌, refl, ap, ◌∙◌}
use mathlib.Core.Bool.{true}
use mathlib.Core.List.{List, [], ◌∷◌, ◌++◌}
use lib.ListN.{length}
use Rattle.dot.specs.Text.{is_blank}
use Rattle.dot.specs.Plan.{Item, gap, num, one, header}
use Rattle.dot.specs.Reading.{Num, none, minus, some, can_minus, Gathered, nothing_read, ByteStep, stuck, at, growing, whole, next, ended, Outcome, drawn, fault, later, onward, run, reading}
use Rattle.dot.specs.Blanks.{go_on, reach, Between, BetweenAt, moved}
use Rattle.dot.proofs.Complete.{blank_no_digit}

-- where a gap begins, a number that came before it says nothing
gap-forgets : (q : List ℕ) (k : List Item) (r : Gathered) (x : Num) → run q (gap ∷ k) r none ≡ run q (gap ∷ k) r x
unfolding run next
gap-forgets [] k r x = refl
gap-forgets (d ∷ q) k r x = refl

-- at the place itself
insert-here : (q : List ℕ) (k : List Item) (r : Gathered) (x : Num) (c : ℕ) → is_blank c ≡ true → Between k x q →
    run (c ∷ q) k r x ≡ later (run q k r x)
unfolding run next onward growing whole ended
insert-here q [] r x c h b = absurd b
insert-here q (gap ∷ k) r x c h b = rw h (ap later (gap-forgets q k r x))
insert-here q (one o ∷ k) r x c h b = absurd b
insert-here q (num s ∷ []) r x c h b = absurd b
insert-here q (num s ∷ (num s' ∷ k)) r x c h b = absurd b
insert-here q (num s ∷ (one o ∷ k)) r x c h b = absurd b
insert-here q (num s ∷ (gap ∷ k)) r none c h b = absurd b
insert-here q (num s ∷ (gap ∷ k)) r minus c h b = absurd b
insert-here [] (num s ∷ (gap ∷ k)) r (some n v) c h b = rw (blank_no_digit (can_minus s) n v c h, h, b)
insert-here (d ∷ q) (num s ∷ (gap ∷ k)) r (some n v) c h b = rw (blank_no_digit (can_minus s) n v c h, h, b)

-- a byte read before the place moves both alike
moved_later : (n : ℕ) (o : Outcome) → later (moved n o) ≡ moved (suc n) (later o)
moved_later n (drawn r) = refl
moved_later n (fault f) = refl

-- at the place itself a fault comes one later
moved-zero : (o : Outcome) → later o ≡ moved 0 o
moved-zero (drawn r) = refl
moved-zero (fault f) = refl

-- a byte of p read, then by the rest of p
insert-step : (p q : List ℕ) (c : ℕ) (e : ByteStep) →
    ((k : List Item) (r : Gathered) (x : Num) → BetweenAt (reach p k r x) q → run (p ++ (c ∷ q)) k r x ≡ moved (length p) (run (p ++ q) k r x)) →
    BetweenAt (go_on e (reach p)) q → onward e (run (p ++ (c ∷ q))) ≡ moved (suc (length p)) (onward e (run (p ++ q)))
unfolding onward
insert-step p q c stuck f b = refl
insert-step p q c (at k r x) f b = rw (f k r x b) (moved_later (length p) (run (p ++ q) k r x))

-- a blank c put in between p and q
pub inserted : (p q : List ℕ) (c : ℕ) (k : List Item) (r : Gathered) (x : Num) → is_blank c ≡ true → BetweenAt (reach p k r x) q →
    run (p ++ (c ∷ q)) k r x ≡ moved (length p) (run (p ++ q) k r x)
unfolding run reach
inserted [] q c k r x h b = insert-here q k r x c h b ∙ moved-zero (run q k r x)
inserted (d ∷ p) q c k r x h b = insert-step p q c (next k r x d) (λ k r x. inserted p q c k r x h) b

-- the same of a whole text
pub blank_inserted : (p q : List ℕ) (c : ℕ) → is_blank c ≡ true → BetweenAt (reach p header nothing_read none) q →
    reading (p ++ (c ∷ q)) ≡ moved (length p) (reading (p ++ q))
unfolding reading
blank_inserted p q c h b = inserted p q c header nothing_read none h b
