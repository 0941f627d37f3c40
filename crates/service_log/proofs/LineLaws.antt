-- A line, piece by piece, from what the code has in hand.
use mathlib.Core.Path.{◌≡◌, refl, sym, ◌∙◌}
use mathlib.Core.Bool.{true, false}
use mathlib.Core.List.{List}
use Prim.Native.Nat.{ℕ, ◌+◌, ◌≤◌}
use native.Mathlib.Omega.{arith}
use lib.Dec.{eqb}
use lib.ListN.{length, drop}
use lib.Seq.{drop-drop}
use borrow.Author.Tests.{eq-eqb, ne_eqb}
use Rattle.fault.specs.Fault.{◌if◌else◌}
use Rattle.decimal.specs.Numbers.{text}
use Rattle.decimal.specs.Digits.{peeked}
use Rattle.decimal.proofs.DigitLaws.{seen}
use Rattle.service_log.specs.Said.{Said, nothing, numbered, ends, ended, hearing, said_by}
use Rattle.service_log.specs.Cursor.{Numbered, Tells}
use Rattle.std.specs.Prelude.{Option, Some, None}
use Rattle.decimal.specs.declared.Number.{Number}
use Rattle.schedule.specs.declared.Step as schedule
use Rattle.service_log.proofs.PieceLaws.{peek-drop}

-- ---- the line feed
ends_at : (t : List ℕ) (i : ℕ) {x : ℕ} → x ≡ peeked t i → x ≡ 10 → ends (drop i t) ≡ true
unfolding ends
ends_at t i e h = eq-eqb _ 10 (peek-drop t i ∙ sym e ∙ h)

ends-not : (t : List ℕ) (i : ℕ) {x : ℕ} → x ≡ peeked t i → (x ≡ 10 → ⊥) → ends (drop i t) ≡ false
unfolding ends
ends-not t i e h = ne_eqb _ 10 (λ z. h (e ∙ sym (peek-drop t i) ∙ z))

pub feed_there : (t : List ℕ) (i : ℕ) {x : ℕ} → x ≡ peeked t i → x ≡ 10 → i + 1 ≤ length t
feed_there t i {x} e h = let z = seen (λ (x : ℕ). eqb x 10) t i refl e (eq-eqb x 10 h) in omega (arith, z.there)

-- ---- after board and rule
pub silent-line : (t : List ℕ) (p r i : ℕ) {x : ℕ} → p ≤ 255 → r ≤ 255 → x ≡ peeked t i → x ≡ 10 →
    Tells t i (hearing p r (drop i t)) (Some (record { board = p; rule = r; mtype = 255; source = 255 }, i + 1))
unfolding hearing ◌if◌else◌
silent-line t p r i lp lr e h = (
  rw (ends_at t i e h, drop-drop 1 i t),
  record { within = feed_there t i e h; onward = omega arith; board = lp; rule = lr; type = omega arith; source = omega arith },
)

abbrev heard_of : ℕ → ℕ → ℕ → ℕ → List ℕ → Said
heard_of p r m q t = ended record { board = p; rule = r; type = m; source = q } t

hearing-on : (t : List ℕ) (p r i : ℕ) {x : ℕ} → x ≡ peeked t i → (x ≡ 10 → ⊥) → hearing p r (drop i t) ≡ numbered (text " type ") (λ m. numbered (text " from ") (heard_of p r m)) (drop i t)
unfolding hearing ◌if◌else◌
hearing-on t p r i e h = rw (ends-not t i e h)

module _ (t : List ℕ) (p r i : ℕ) {x : ℕ} (e : x ≡ peeked t i) (h : x ≡ 10 → ⊥) where
  pub no_type : Numbered t i (text " type ") None → hearing p r (drop i t) ≡ nothing
  no_type M = hearing-on t p r i e h ∙ M (λ m. numbered (text " from ") (heard_of p r m))

  module _ {m : Number} (M : Numbered t i (text " type ") (Some m)) where
    typed : hearing p r (drop i t) ≡ numbered (text " from ") (heard_of p r m.value) (drop m.place t)
    typed = hearing-on t p r i e h ∙ M.on (λ m. numbered (text " from ") (heard_of p r m))

    pub no_source : Numbered t m.place (text " from ") None → hearing p r (drop i t) ≡ nothing
    no_source Q = typed ∙ Q (heard_of p r m.value)

    module _ {q : Number} {y : ℕ} (Q : Numbered t m.place (text " from ") (Some q)) (f : y ≡ peeked t q.place) where
      pub no_feed : (y ≡ 10 → ⊥) → hearing p r (drop i t) ≡ nothing
      unfolding ended ◌if◌else◌
      no_feed n = typed ∙ Q.on (heard_of p r m.value) ∙ rw (ends-not t q.place f n)

      pub heard-line : p ≤ 255 → r ≤ 255 → y ≡ 10 →
          Tells t i (hearing p r (drop i t)) (Some (record { board = p; rule = r; mtype = m.value; source = q.value }, q.place + 1))
      unfolding ended ◌if◌else◌
      heard-line lp lr n = (
        typed ∙ Q.on (heard_of p r m.value) ∙ rw (ends_at t q.place f n, drop-drop 1 q.place t),
        record {
          within = feed_there t q.place f n;
          onward = omega (arith, M.onward, Q.onward);
          board = lp;
          rule = lr;
          type = M.small;
          source = Q.small;
        },
      )

-- ---- a whole line
pub no_board : (t : List ℕ) (i : ℕ) → Numbered t i (text "board ") None → said_by (drop i t) ≡ nothing
unfolding said_by
no_board t i P = P (λ p. numbered (text " rule ") (hearing p))

module _ {t : List ℕ} {i : ℕ} {p : Number} (P : Numbered t i (text "board ") (Some p)) where
  boarded : said_by (drop i t) ≡ numbered (text " rule ") (hearing p.value) (drop p.place t)
  unfolding said_by
  boarded = P.on (λ p. numbered (text " rule ") (hearing p))

  pub no_rule : Numbered t p.place (text " rule ") None → said_by (drop i t) ≡ nothing
  no_rule R = boarded ∙ R (hearing p.value)

  -- what the rest of the line tells is what the line tells
  pub whole-line : {r : Number} (x : Option (schedule.Step × ℕ)) → Numbered t p.place (text " rule ") (Some r) → Tells t r.place (hearing p.value r.value (drop r.place t)) x → Tells t i (said_by (drop i t)) x
  whole-line None R T = boarded ∙ R.on (hearing p.value) ∙ T
  whole-line (Some (x, j)) R T = (
    boarded ∙ R.on (hearing p.value) ∙ T.0,
    record {
      within = T.1.within;
      onward = omega (arith, P.onward, R.onward, T.1.onward);
      board = T.1.board;
      rule = T.1.rule;
      type = T.1.type;
      source = T.1.source;
    },
  )
