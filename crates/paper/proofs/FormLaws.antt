-- What the words of a level show: the laws that tie them to the level's column, by the cases of the level.
use mathlib.Core.Path.{◌≡◌, refl, sym, ap}
use mathlib.Core.Logic.{◌≢◌}
use mathlib.Core.Bool.{Bool, true, false, not, ◌&&◌, ◌||◌, and-false}
use Prim.Native.Nat.{ℕ, zero, suc, ◌+◌, ◌≤◌, ◌<◌}
use native.Mathlib.Omega.{arith}
use Rattle.senders.specs.Set.{mem, insert}
use Rattle.senders.proofs.TallyLaws.{count-one-more}
use Rattle.senders.proofs.SetLaws.{set_laws}
use Rattle.fault.specs.Tests.{◌below◌, ◌at_least◌}
use Rattle.paper.specs.Paper.{Counts, passing, column}
use Rattle.paper.specs.Form.{wide, slot, bump, coll, shown}

one_word : (g g' : ℕ → ℕ) → g' 0 ≡ g 0 → (e : ℕ) → e < 1 → g' e ≡ g e
one_word g g' h zero l = h
one_word g g' h (suc e) l = absurd (omega arith)

two-words : (g g' : ℕ → ℕ) → g' 0 ≡ g 0 → g' 1 ≡ g 1 → (e : ℕ) → e < 2 → g' e ≡ g e
two-words g g' h i zero l = h
two-words g g' h i (suc zero) l = i
two-words g g' h i (suc (suc e)) l = absurd (omega arith)

pub counts : {a b c e : ℕ} → a ≡ c → b ≡ e → ◌≡◌ {A = Counts} (record { correct = a; faulty = b }) (record { correct = c; faulty = e })
counts p q = λ i. record { correct = p i; faulty = q i }

pub wide-some : (k : ℕ) → (1 ≤ wide k) × (wide k ≤ 2)
unfolding wide
wide-some zero = (omega arith, omega arith)
wide-some (suc zero) = (omega arith, omega arith)
wide-some (suc (suc k)) = (omega arith, omega arith)

pub slot-below : (k C f q : ℕ) → q < (column k C f).sources → slot k q < wide k
unfolding slot wide
slot-below zero C f q h = omega arith
slot-below (suc zero) C f q h = h
slot-below (suc (suc k)) C f q h = omega arith

pub coll-same : (k C f : ℕ) (g g' : ℕ → ℕ) → ((e : ℕ) → e < wide k → g' e ≡ g e) → coll k C f g' ≡ coll k C f g
unfolding coll wide
coll-same zero C f g g' e = e 0 (omega arith)
coll-same (suc zero) C f g g' e = counts (e 0 (omega arith)) (e 1 (omega arith))
coll-same (suc (suc k)) C f g g' e = e 0 (omega arith)

pub coll_inj : (k C f : ℕ) (g g' : ℕ → ℕ) → coll k C f g' ≡ coll k C f g → (e : ℕ) → e < wide k → g' e ≡ g e
unfolding coll wide
coll_inj zero C f g g' h = one_word g g' h
coll_inj (suc zero) C f g g' h = two-words g g' (ap (λ (c : Counts). c.correct) h) (ap (λ (c : Counts). c.faulty) h)
coll_inj (suc (suc k)) C f g g' h = one_word g g' h

-- a receipt adds the message
pub coll-bump : (k C f q : ℕ) (g g' : ℕ → ℕ) → q < (column k C f).sources → g' (slot k q) ≡ bump k q (g (slot k q))
    → ((e : ℕ) → e < wide k → e ≢ slot k q → g' e ≡ g e) → coll k C f g' ≡ (column k C f).add q (coll k C f g)
unfolding coll wide slot bump
coll-bump zero C f q g g' h b o = b
coll-bump (suc zero) C f zero g g' h b o = counts b (o 1 (omega arith) (omega arith))
coll-bump (suc zero) C f (suc zero) g g' h b o = counts (o 0 (omega arith) (omega arith)) b
coll-bump (suc zero) C f (suc (suc q)) g g' h b o = absurd (omega arith)
coll-bump (suc (suc k)) C f q g g' h b o = b

-- a send adds the board's own
pub shown-bump : (k C f p v : ℕ) → shown k C f (bump k ((column k C f).own p) v) ≡ (column k C f).add ((column k C f).own p) (shown k C f v)
unfolding shown bump
shown-bump zero C f p v = refl
shown-bump (suc zero) C f p v = refl
shown-bump (suc (suc k)) C f p v = refl

pub shown_inj : (k C f v v' : ℕ) → shown k C f v' ≡ shown k C f v → v' ≡ v
unfolding shown
shown_inj zero C f v v' h = h
shown_inj (suc zero) C f v v' h = ap (λ (c : Counts). c.correct) h
shown_inj (suc (suc k)) C f v v' h = h

-- zeros show nothing
pub coll-init : (k C f : ℕ) (g : ℕ → ℕ) → ((e : ℕ) → g e ≡ 0) → coll k C f g ≡ (column k C f).init
unfolding coll
coll-init zero C f g z = z 0
coll-init (suc zero) C f g z = counts (z 0) (z 1)
coll-init (suc (suc k)) C f g z = z 0

pub shown-init : (k C f v : ℕ) → v ≡ 0 → shown k C f v ≡ (column k C f).init
unfolding shown
shown-init zero C f v z = z
shown-init (suc zero) C f v z = counts z refl
shown-init (suc (suc k)) C f v z = z

-- a message in transit is new, and counts one more once it is received
unheld : (a b c e : Bool) → (a && (b && not c) || e && not c) ≡ true → c ≡ false
unheld a b true e h = sym (rw (and-false b, and-false a, and-false e) at h)
unheld a b false e h = refl

pub transit-new : (C f q M S : ℕ) → (passing C f).in_transit q M S ≡ true → mem M q ≡ false
transit-new C f q M S = unheld (q below C) (mem S q) (mem M q) (q at_least C)

pub card-add : (k C f q : ℕ) (M S : (column k C f).Coll) → q < (column k C f).sources → (column k C f).in_transit q M S ≡ true
    → (column k C f).card ((column k C f).add q M) ≡ suc ((column k C f).card M)
card-add zero C f q M S h t =
    count-one-more (C + f) q (mem M) (mem (insert q M)) h (transit-new C f q M S t) (set_laws.insert_same M q) (λ i l o. set_laws.insert_other M q i o)
card-add (suc zero) C f zero M S h t = omega arith
card-add (suc zero) C f (suc q) M S h t = omega arith
card-add (suc (suc k)) C f q M S h t = refl
