-- Bytes that are given as a whole or not at all, in each of the cases.
use mathlib.Core.Path.{◌≡◌, refl, sym, ap, ◌∙◌}
use mathlib.Core.Bool.{true, false, not}
use mathlib.Core.List.{List}
use Prim.Native.Nat.{ℕ, ◌≤◌, ◌<◌}
use native.Mathlib.Decide.{dec_lt, ℕ_discrete}
use native.Mathlib.Omega.{arith}
use lib.ListN.{length}
use borrow.Author.Tests.{eq-eqb, ne_eqb, lt-ltb, le-ltb}
use Rattle.fault.specs.Fault.{Verdict}
use Rattle.fault.specs.declared.Answer.{Answer}
use Rattle.fault.specs.Tests.{◌below◌, ◌differs◌}
use Rattle.fault.specs.Fault.{refused, nothing_done, ◌if◌else◌}
use Rattle.fault.proofs.FaultLaws.{if_yes, if_no, if_keeps, Within}
use Rattle.fault.proofs.TestLaws.{same}
use Rattle.ink.specs.Ink.{stored, given, left, Gives}
use Rattle.ink.proofs.InkLaws.{stored-whole}

-- ---- what the code does
pub record Gave (k : ℕ) (v : Verdict) (w out : List ℕ) (a : Answer) (u : List ℕ) : Type 0 where
  pub answer : a ≡ given k v w (length out)
  pub bytes : u ≡ left v w out

pub gave_refused : (k : ℕ) {v x : Verdict} {a : Answer} (w out : List ℕ) → x ≡ v → (x.number ≡ 0 → ⊥) → a ≡ nothing_done x → Gave k v w out a out
unfolding given left
gave_refused k {v} {x} w out e n f =
    let m : (v.number differs 0) ≡ true = ap not (ne_eqb _ 0 (λ z. n (ap (λ (x : Verdict). x.number) e ∙ z))) in
    record { answer = if_yes _ (f ∙ ap nothing_done e) refl m; bytes = if_yes _ refl refl m }

module _ (k : ℕ) {v x : Verdict} (w out : List ℕ) (e : x ≡ v) (z : x.number ≡ 0) where
  clean : (v.number differs 0) ≡ false
  clean = ap not (eq-eqb _ 0 (ap (λ (x : Verdict). x.number) (sym e) ∙ z))

  pub gave_short : {a : Answer} → length out < length w → a ≡ nothing_done (refused k) → Gave k v w out a out
  unfolding given left
  gave_short l f =
      let m : (length out below length w) ≡ true = lt-ltb (length out) (length w) l in
      record { answer = if_no _ refl clean (if_yes _ f refl m); bytes = if_no _ refl clean (if_yes _ refl refl m) }

  pub gave_all : {a : Answer} {u : List ℕ} → length w ≤ length out → a ≡ record { refusal = 0; place = 0; count = length w } → u ≡ stored out 0 w → Gave k v w out a u
  unfolding given left
  gave_all l f g =
      let m : (length out below length w) ≡ false = le-ltb (length out) (length w) l in
      record { answer = if_no _ refl clean (if_no _ refl m f); bytes = if_no _ refl clean (if_no _ refl m (g ∙ stored-whole out w l)) }

-- ---- what that comes to
module _ (k : ℕ) (v : Verdict) (w : List ℕ) where
  -- nothing is refused
  pub gives : v.number ≡ 0 → Gives k (given k v w) (left v w) w
  unfolding given left ◌if◌else◌
  gives z = record {
    answered = λ lent h. rw (eq-eqb v.number 0 z, le-ltb lent (length w) h);
    written = λ out h. rw (eq-eqb v.number 0 z, le-ltb (length out) (length w) h);
    short = λ lent h. rw (eq-eqb v.number 0 z, lt-ltb lent (length w) h);
    kept = λ out h. rw (eq-eqb v.number 0 z, lt-ltb (length out) (length w) h);
  }

  -- something is
  pub refuses : (v.number ≡ 0 → ⊥) → (lent : ℕ) → given k v w lent ≡ nothing_done v
  unfolding given ◌if◌else◌
  refuses n lent = rw (ne_eqb v.number 0 n)

  pub keeps : (v.number ≡ 0 → ⊥) → (out : List ℕ) → left v w out ≡ out
  unfolding left ◌if◌else◌
  keeps n out = rw (ne_eqb v.number 0 n)

  -- where the answer is a refusal, nothing is done
  pub given-kept : (out : List ℕ) → ((given k v w (length out)).refusal ≡ 0 → ⊥) → (left v w out ≡ out) × ((given k v w (length out)).count ≡ 0)
  given-kept out n =
      elim (ℕ_discrete v.number 0) [
        | no y ↦ (keeps y out, ap (λ (a : Answer). a.count) (refuses y (length out)))
        | yes z ↦ elim (dec_lt (length out) (length w)) [
          | yes l ↦ ((gives z).kept out l, ap (λ (a : Answer). a.count) ((gives z).short (length out) l))
          | no y ↦ absurd (n (ap (λ (a : Answer). a.refusal) ((gives z).answered (length out) (omega arith))))
        ]
      ]

-- ---- its numbers: refusals to q, places to p, counts to n
pub record GivenWithin (q p n : ℕ) (a : Answer) : Type 0 where
  pub refusal : a.refusal ≤ q
  pub place : a.place ≤ p
  pub count : a.count ≤ n

pub given-within : (k q p n : ℕ) (v : Verdict) (w : List ℕ) (lent : ℕ) → k ≤ q → Within q p v → (v.number ≡ 0 → length w ≤ n) → GivenWithin q p n (given k v w lent)
unfolding given
given-within k q p n v w lent h W l =
    if_keeps (GivenWithin q p n) _ (v.number differs 0) _
    (λ _. record { refusal = W.number; place = W.place; count = omega arith })
    (λ e. if_keeps (GivenWithin q p n) _ (lent below length w) _
    (λ _. record { refusal = h; place = omega arith; count = omega arith })
    (λ _. record { refusal = omega arith; place = omega arith; count = l (same _ 0 e) }))
