-- A table's eight last bytes are the trailer of its counts, and records with such a trailer are read by these counts: nothing of the trailer is refused.
use mathlib.Core.Path.{◌≡◌, refl, sym, ap, ◌∙◌}
use mathlib.Core.Bool.{false, ◌||◌}
use mathlib.Core.List.{List, [], ◌∷◌, ◌++◌}
use Prim.Native.Nat.{ℕ, suc, ◌+◌, ◌-◌, ◌*◌, ◌/◌, ◌%◌, ◌≤◌, ◌<◌}
use native.Mathlib.Omega.{arith}
use lib.ListN.{length, take, drop, length-append, take-append-drop, drop_of_length-le}
use lib.Seq.{drop-cons, get_or-append-add}
use borrow.Author.Tests.{eq-eqb, le-ltb}
use Rattle.fault.specs.Bytes.{byte_at, trailer_bytes}
use Rattle.fault.specs.Tests.{◌differs◌, outside}
use Rattle.fault.specs.Fault.{refused, ◌if◌else◌}
use Rattle.fault.proofs.FaultLaws.{if_passed, Clean}
use Rattle.fault.proofs.TestLaws.{or-none, same}
use Rattle.layout.specs.Layout.{types_in, rule_bytes}
use Rattle.table.specs.Table.{state_distance, rule_distance, states_of, rules_of, types_byte, types_of, factor_of, rule_size, state_bytes, records_bytes}
use Rattle.table.specs.Refusals.{counts_outside, too_short, counts_off, distances_off, records_fault, table_fault}
use Rattle.table.specs.Facts.{CountsFit, Sized}
use Rattle.table.proofs.TableLaws.{sized}
use Rattle.trailer.specs.Trailer.{trailer_for}

-- ---- as the code makes it
pub trailer-is : {n m byte k : ℕ} {a b c d e f g h all l rules : ℕ} → CountsFit n m (types_in byte) k → byte < 256 → l ≡ rule_bytes byte → rules ≡ m * l → all ≡ state_bytes * n + rules →
    a ≡ all % 256 → b ≡ all / 256 → c ≡ rules % 256 → d ≡ rules / 256 → e ≡ n % 256 → f ≡ m % 256 → g ≡ byte % 256 → h ≡ k % 256 →
    a ∷ b ∷ c ∷ d ∷ e ∷ f ∷ g ∷ h ∷ [] ≡ trailer_for n m byte k
unfolding trailer_for
trailer-is {n} {m} {byte} {k} x lb el er ea p q u v en em eb ek =
    let en' : n % 256 ≡ n = omega (arith, x.few_states) in
    let em' : m % 256 ≡ m = omega (arith, x.few_rules) in
    let eb' : byte % 256 ≡ byte = omega arith in
    let ek' : k % 256 ≡ k = omega (arith, x.few_factor) in
    rw (p, q, u, v, en ∙ en', em ∙ em', eb ∙ eb', ek ∙ ek', ea, er, el)

pub trailer-length : (n m byte k : ℕ) → length (trailer_for n m byte k) ≡ trailer_bytes
unfolding trailer_for
trailer-length n m byte k = refl

-- ---- a table's own trailer
-- its distances are those of its counts
pub record Distances (s : List ℕ) : Type 0 where
  pub sizes : Sized s
  pub to_states : state_distance s ≡ records_bytes (states_of s) (rules_of s) (types_byte s)
  pub to_rules : rule_distance s ≡ rules_of s * rule_size s

pub distances : (s : List ℕ) → Clean (table_fault s) → Distances s
unfolding table_fault distances_off
distances s h =
    let a = if_passed Clean (refused 1) (too_short s) _ (λ z. omega arith) h in
    let b = if_passed Clean (refused 2) (counts_off s) _ (λ z. omega arith) a.1 in
    let d = if_passed Clean (refused 3) (distances_off s) _ (λ z. omega arith) b.1 in
    let e = or-none (state_distance s differs records_bytes (states_of s) (rules_of s) (types_byte s) || rule_distance s differs rules_of s * rule_size s) _ d.0 in
    let f = or-none (state_distance s differs records_bytes (states_of s) (rules_of s) (types_byte s)) _ e.0 in
    record { sizes = sized s a.0 b.0 d.0; to_states = same _ _ f.0; to_rules = same _ _ f.1 }

-- a list's last eight
last_eight : (s : List ℕ) (x : ℕ) → length s ≡ x + 8 →
    drop (x + 0) s ≡ byte_at s (x + 0) ∷ byte_at s (x + 1) ∷ byte_at s (x + 2) ∷ byte_at s (x + 3) ∷ byte_at s (x + 4) ∷ byte_at s (x + 5) ∷ byte_at s (x + 6) ∷ byte_at s (x + 7) ∷ []
last_eight s x e =
    one 0 (omega arith) ∙ ap (◌∷◌ (byte_at s (x + 0))) (
    one 1 (omega arith) ∙ ap (◌∷◌ (byte_at s (x + 1))) (
    one 2 (omega arith) ∙ ap (◌∷◌ (byte_at s (x + 2))) (
    one 3 (omega arith) ∙ ap (◌∷◌ (byte_at s (x + 3))) (
    one 4 (omega arith) ∙ ap (◌∷◌ (byte_at s (x + 4))) (
    one 5 (omega arith) ∙ ap (◌∷◌ (byte_at s (x + 5))) (
    one 6 (omega arith) ∙ ap (◌∷◌ (byte_at s (x + 6))) (
    one 7 (omega arith) ∙ ap (◌∷◌ (byte_at s (x + 7))) (drop_of_length-le s {i = x + 8} (omega arith)))))))))
  where
    one : (i : ℕ) → i < 8 → drop (x + i) s ≡ byte_at s (x + i) ∷ drop (x + (i + 1)) s
    one i l =
        let z : suc (x + i) ≡ x + (i + 1) = omega arith in
        drop-cons s (x + i) 0 (omega arith) ∙ ap (λ (y : ℕ). byte_at s (x + i) ∷ drop y s) z

-- the trailer that a drawing of its counts is given is its own
pub own-trailer : (s : List ℕ) → Distances s → ((x : ℕ) → byte_at s x < 256) → drop (length s - 8) s ≡ trailer_for (states_of s) (rules_of s) (types_byte s) (factor_of s)
unfolding trailer_for
own-trailer s d all =
    let x = length s - 8 in
    let z : length s ≡ x + 8 = omega (arith, d.sizes.long) in
    let o : x + 0 ≡ x = omega arith in
    let i₁ : x + 0 + 1 ≡ x + 1 = omega arith in
    let i₃ : x + 2 + 1 ≡ x + 3 = omega arith in
    let u : byte_at s (x + 0) + 256 * byte_at s (x + 1) ≡ records_bytes (states_of s) (rules_of s) (types_byte s) = rw i₁ at d.to_states in
    let v : byte_at s (x + 2) + 256 * byte_at s (x + 3) ≡ rules_of s * rule_size s = rw i₃ at d.to_rules in
    let b₀ : byte_at s (x + 0) ≡ records_bytes (states_of s) (rules_of s) (types_byte s) % 256 = omega (arith, u, all (x + 0)) in
    let b₁ : byte_at s (x + 1) ≡ records_bytes (states_of s) (rules_of s) (types_byte s) / 256 = omega (arith, u, all (x + 0)) in
    let b₂ : byte_at s (x + 2) ≡ (rules_of s * rule_size s) % 256 = omega (arith, v, all (x + 2)) in
    let b₃ : byte_at s (x + 3) ≡ (rules_of s * rule_size s) / 256 = omega (arith, v, all (x + 2)) in
    ap (λ (y : ℕ). drop y s) (sym o) ∙ last_eight s x z ∙
    (λ i. b₀ i ∷ b₁ i ∷ b₂ i ∷ b₃ i ∷ byte_at s (x + 4) ∷ byte_at s (x + 5) ∷ byte_at s (x + 6) ∷ byte_at s (x + 7) ∷ [])

-- its records and that trailer are the table
pub own-table : (s : List ℕ) → Distances s → ((x : ℕ) → byte_at s x < 256) → take (length s - 8) s ++ trailer_for (states_of s) (rules_of s) (types_byte s) (factor_of s) ≡ s
own-table s d all = ap (λ (w : List ℕ). take (length s - 8) s ++ w) (sym (own-trailer s d all)) ∙ take-append-drop (length s - 8) s

-- counts that a table has are not strange
within : (lo hi x : ℕ) → lo ≤ x → x ≤ hi → outside lo hi x ≡ false
within lo hi x a b = rw (le-ltb x lo a, le-ltb hi x b)

pub sized-counts : (s : List ℕ) → Sized s → counts_outside (states_of s) (rules_of s) (types_of s) (factor_of s) ≡ false
unfolding counts_outside
sized-counts s z =
    rw (
      within 1 16 (states_of s) z.some_state z.few_states,
      within 1 64 (rules_of s) z.some_rule z.few_rules,
      within 1 4 (types_of s) z.some_type z.few_types,
      within 1 8 (factor_of s) z.some_factor z.few_factor,
    )

-- ---- the table of a drawing
module _ (w : List ℕ) (n m byte k : ℕ) (e : length w ≡ records_bytes n m byte) where
  abbrev made : List ℕ
  made = w ++ trailer_for n m byte k

  made-long : length made ≡ length w + 8
  unfolding trailer_for
  made-long = length-append w (trailer_for n m byte k)

  pub made_at : (i : ℕ) → byte_at made (length made - 8 + i) ≡ byte_at (trailer_for n m byte k) i
  made_at i = let z : length made - 8 ≡ length w = omega (arith, made-long) in rw z (get_or-append-add w (trailer_for n m byte k) i 0)

  made-next : (i : ℕ) → byte_at made (length made - 8 + i + 1) ≡ byte_at (trailer_for n m byte k) (i + 1)
  made-next i = let z : length made - 8 + i + 1 ≡ length made - 8 + (i + 1) = omega arith in rw z (made_at (i + 1))

  pub made-enough : too_short made ≡ false
  unfolding too_short
  made-enough = le-ltb (length made) 8 (omega (arith, made-long))

  pub made-counts : counts_off made ≡ counts_outside n m (types_in byte) k
  unfolding counts_off counts_outside trailer_for
  made-counts = rw (made_at 4, made_at 5, made_at 6, made_at 7)

  to_states : state_distance made ≡ records_bytes n m byte
  unfolding trailer_for
  to_states = rw (made_at 0, made-next 0) (omega arith)

  to_rules : rule_distance made ≡ m * rule_bytes byte
  unfolding trailer_for
  to_rules = rw (made_at 2, made-next 2) (omega arith)

  pub made_distances : distances_off made ≡ false
  unfolding distances_off trailer_for
  made_distances =
      rw (
        to_states,
        to_rules,
        made_at 4,
        made_at 5,
        made_at 6,
        made-long,
        e,
        eq-eqb (records_bytes n m byte) (records_bytes n m byte) refl,
        eq-eqb (m * rule_bytes byte) (m * rule_bytes byte) refl,
        eq-eqb (records_bytes n m byte + 8) (records_bytes n m byte + 8) refl,
      )

  -- its trailer is not refused
  pub made_records : counts_outside n m (types_in byte) k ≡ false → table_fault made ≡ records_fault made
  unfolding table_fault ◌if◌else◌
  made_records h = rw (made-enough, made-counts, h, made_distances)
