-- The rules as a run keeps them: each store adds one, and keeps those before it.
use mathlib.Core.Path.{◌≡◌, refl, sym, ap, ap₂, ◌∙◌, subst⁻¹}
use mathlib.Core.Bool.{not, ◌&&◌}
use mathlib.Core.List.{List}
use Prim.Native.Nat.{ℕ, zero, suc, ◌+◌, ◌*◌, ◌≤◌, ◌<◌}
use native.Mathlib.Decide.{ℕ_discrete}
use native.Mathlib.Omega.{arith}
use lib.ListN.{replicate, length, get_or, set, length-set}
use lib.Seq.{get_or-set_same, get_or-set_other}
use Rattle.threshold.proofs.LeastLaws.{from-least}
use Rattle.threshold.specs.Threshold.{threshold_of, least_of}
use Rattle.threshold.specs.declared.Weights.{Weights}
use Rattle.layout.specs.Layout.{types_in, weights_of}
use borrow.Author.Tests.{lt-ltb}
use Rattle.senders.specs.Tally.{least}
use Rattle.senders.specs.Set.{mem, missing}
use Rattle.fault.specs.Fault.{◌if◌else◌}
use Rattle.paper.specs.Paper.{Design, newly}
use Rattle.table.specs.Table.{states_of, types_byte, initial_of, sent_of, rule_size, from_of, to_of, rule_of}
use Rattle.words.specs.declared.Sizes.{Sizes}
use Rattle.fault.specs.Tests.{◌at_least◌}
use Rattle.rules.specs.Design.{threshold_for, met_at, least_at, sends_of, design_of}
use Rattle.rules.specs.Kept.{kept_least, Kept}
use Rattle.rules.specs.Facts.{Suits, Recorded, EndsAt, EndsTo, LeastsTo, RowTo}

-- a threshold is met by the counts from the least one on
met-is : {x : ℕ} (table : List ℕ) (r m n t c : ℕ) → x ≡ least_at table r m n t → met_at table r m n t c ≡ (c at_least x)
unfolding met_at
met-is table r m n t c e = rw e (from-least c (threshold_for table r m n t))

module _ (s : Sizes) (table : List ℕ) where
  -- ---- the ends
  pub ends-none : (u : List ℕ) → length u ≡ 256 → EndsTo s.types table u 0
  ends-none u l = record { long = l; at = λ r h. absurd (omega arith) }

  pub ends_all : (u : List ℕ) (k n : ℕ) → k ≤ n → n ≤ k → EndsTo s.types table u k → EndsTo s.types table u n
  ends_all u k n a b E = let e : n ≡ k = omega arith in rw e E

  module _ (u : List ℕ) (k : ℕ) (h : k < 64) (E : EndsTo s.types table u k) where
    abbrev one : List ℕ
    one = set u (k * 4) (from_of table k)

    abbrev two : List ℕ
    two = set one (k * 4 + 1) (to_of table k)

    abbrev three : List ℕ
    three = set two (k * 4 + 2) (sends_of s.types table k)

    one-long : length one ≡ 256
    one-long = length-set u (k * 4) (from_of table k) ∙ E.long

    two-long : length two ≡ 256
    two-long = length-set one (k * 4 + 1) (to_of table k) ∙ one-long

    before : (i : ℕ) → i < k * 4 → get_or three i 0 ≡ get_or u i 0
    before i l =
        get_or-set_other two (k * 4 + 2) i _ 0 (λ e. omega arith) ∙ get_or-set_other one (k * 4 + 1) i _ 0 (λ e. omega arith)
        ∙ get_or-set_other u (k * 4) i _ 0 (λ e. omega arith)

    pub ends_more : {v : List ℕ} → v ≡ three → EndsTo s.types table v (k + 1)
    ends_more {v} e = subst⁻¹ (λ (x : List ℕ). EndsTo s.types table x (k + 1)) e (record {
      long = length-set two (k * 4 + 2) (sends_of s.types table k) ∙ two-long;
      at = λ r l. go r l (ℕ_discrete r k);
    })
      where
        go : (r : ℕ) → r < k + 1 → Dec (r ≡ k) → EndsAt s.types table three r
        go r l (yes z) = subst⁻¹ (EndsAt s.types table three) z (record {
          from = get_or-set_other two (k * 4 + 2) (k * 4) _ 0 (λ e. omega arith) ∙ get_or-set_other one (k * 4 + 1) (k * 4) _ 0 (λ e. omega arith)
              ∙ get_or-set_same u (k * 4) _ 0 (omega (arith, E.long));
          to = get_or-set_other two (k * 4 + 2) (k * 4 + 1) _ 0 (λ e. omega arith) ∙ get_or-set_same one (k * 4 + 1) _ 0 (omega (arith, one-long));
          sends = get_or-set_same two (k * 4 + 2) _ 0 (omega (arith, two-long));
        })
        go r l (no z) =
            let A = E.at r (omega arith) in
            record { from = before (r * 4) (omega arith) ∙ A.from; to = before (r * 4 + 1) (omega arith) ∙ A.to; sends = before (r * 4 + 2) (omega arith) ∙ A.sends }

-- ---- the least counts
-- the record of a table's rule
pub recorded : {byte : ℕ} {rule : List ℕ} (s : Sizes) (table : List ℕ) (r : ℕ) → Suits s table → r < s.rules → byte ≡ types_byte table → byte < 256 → rule ≡ rule_of table r
    → length rule ≡ rule_size table → Recorded s byte rule
recorded {byte} {rule} s table r S h b l e n = record {
  small = l;
  types = rw b S.types;
  long = rw b n;
  divides = rw (b, e) (S.formed.rule r (rw (← S.rules) h)).divides;
}

-- what it says of a type below T
module _ (s : Sizes) (byte : ℕ) (rule : List ℕ) (m : ℕ) (R : Recorded s byte rule) (h : m < s.types) where
  pub type-below : m < types_in byte
  type-below = rw R.types at h

  pub some_divisor : {x : Weights} → x ≡ weights_of byte rule m → 1 ≤ x.e
  some_divisor e = rw e (R.divides.some_divisor m type-below)

module _ (s : Sizes) (byte t : ℕ) where
  pub row-none : (rule u : List ℕ) (k : ℕ) → length u ≡ 256 → RowTo s byte t rule u u k 0
  row-none rule u k l = record { long = l; before = λ i h. refl; row = λ m h. absurd (omega arith) }

  pub row-all : (rule u v : List ℕ) (k j n : ℕ) → j ≤ n → n ≤ j → RowTo s byte t rule u v k j → RowTo s byte t rule u v k n
  row-all rule u v k j n a b R = let e : n ≡ j = omega arith in rw e R

  pub row_more : {x : ℕ} (rule u v : List ℕ) (k j : ℕ) → k < 64 → j < 4 → RowTo s byte t rule u v k j
      → x ≡ least_of (threshold_of (weights_of byte rule j) (s.correct + s.faulty) t) → RowTo s byte t rule u (set v (k * 4 + j) x) k (j + 1)
  row_more {x} rule u v k j h l R e = record {
    long = length-set v (k * 4 + j) x ∙ R.long;
    before = λ i a. get_or-set_other v (k * 4 + j) i x 0 (λ z. omega arith) ∙ R.before i a;
    row = λ m a. go m a (ℕ_discrete m j);
  }
    where
      go : (m : ℕ) → m < j + 1 → Dec (m ≡ j) → get_or (set v (k * 4 + j) x) (k * 4 + m) 0 ≡ least_of (threshold_of (weights_of byte rule m) (s.correct + s.faulty) t)
      go m a (yes z) = rw z (get_or-set_same v (k * 4 + j) x 0 (omega (arith, R.long)) ∙ e)
      go m a (no z) = get_or-set_other v (k * 4 + j) (k * 4 + m) x 0 (λ y. omega arith) ∙ R.row m (omega arith)

module _ (s : Sizes) (t : ℕ) (table : List ℕ) where
  pub leasts-none : (u : List ℕ) → length u ≡ 256 → LeastsTo s t table u 0
  leasts-none u l = record { long = l; at = λ r m h. absurd (omega arith) }

  pub leasts-all : (u : List ℕ) (k n : ℕ) → k ≤ n → n ≤ k → LeastsTo s t table u k → LeastsTo s t table u n
  leasts-all u k n a b L = let e : n ≡ k = omega arith in rw e L

  pub leasts-more : {byte : ℕ} {rule : List ℕ} (u v : List ℕ) (k : ℕ) → s.types ≤ 4 → LeastsTo s t table u k → byte ≡ types_byte table → rule ≡ rule_of table k
      → RowTo s byte t rule u v k s.types → LeastsTo s t table v (k + 1)
  leasts-more {byte} {rule} u v k few L b e R = record { long = R.long; at = λ r m h l. go r m h l (ℕ_discrete r k) }
    where
      go : (r m : ℕ) → r < k + 1 → m < s.types → Dec (r ≡ k) → kept_least v r m ≡ least_at table r m (s.correct + s.faulty) t
      go r m h l (yes z) = rw (z, ← e, ← b) (R.row m l)
      go r m h l (no z) = R.before (r * 4 + m) (omega arith) ∙ L.at r m (omega arith) l

-- ---- what the design says of rules and states that there are
module _ (s : Sizes) (t : ℕ) (table : List ℕ) where
  abbrev d : Design
  d = design_of s t table

  pub from_is : (r : ℕ) → r < s.rules → d.from r ≡ from_of table r
  unfolding ◌if◌else◌
  from_is r h = rw (lt-ltb r s.rules h)

  pub to_is : (r : ℕ) → r < s.rules → d.to r ≡ to_of table r
  unfolding ◌if◌else◌
  to_is r h = rw (lt-ltb r s.rules h)

  pub sent_is : (i : ℕ) → i < states_of table → (m : ℕ) → d.has_sent i m ≡ mem (sent_of table i) m
  sent_is i h m = rw (lt-ltb i (states_of table) h)

  pub initial-is : (i : ℕ) → i < states_of table → d.initial i ≡ initial_of table i
  initial-is i h = rw (lt-ltb i (states_of table) h)

  pub met_at_lem : (r m c : ℕ) → r < s.rules → m < s.types → d.met r m c ≡ met_at table r m (s.correct + s.faulty) t c
  met_at_lem r m c h l = rw (lt-ltb r s.rules h, lt-ltb m s.types l)

  -- what a rule sends, by the masks of its ends
  pub newly-is : Suits s table → (r : ℕ) → r < s.rules → newly d (d.from r) (d.to r) ≡ missing (sent_of table (to_of table r)) (sent_of table (from_of table r))
  newly-is S r h =
      let E = (S.formed.rule r (rw (← S.rules) h)).ends in
      ap₂ (newly d) (from_is r h) (to_is r h) ∙ λ i m. sent_is (to_of table r) E.to m i && not (sent_is (from_of table r) E.from m i)

-- ---- all of them stand for the table's design
pub kept_by : (s : Sizes) (t : ℕ) (table e l : List ℕ) → Suits s table → EndsTo s.types table e s.rules → LeastsTo s t table l s.rules → t ≡ s.tolerated → Kept (design_of s t table) s e l
kept_by s t table e l S E L h = record {
  ends = record {
    long = E.long;
    numbers = record { boards = refl; faulty = refl; tolerated = h; types = refl; rules = refl };
    from = λ r h. (E.at r h).from ∙ sym (from_is s t table r h);
    to = λ r h. (E.at r h).to ∙ sym (to_is s t table r h);
    sends = λ r h. (E.at r h).sends ∙ ap (least s.types) (sym (newly-is s t table S r h));
    one_new = λ r h. rw (newly-is s t table S r h, S.types) (S.formed.rule r (rw (← S.rules) h)).one_new;
  };
  leasts = record { long = L.long; met = λ r m c h k. met_at_lem s t table r m c h k ∙ met-is table r m (s.correct + s.faulty) t c (L.at r m h k) };
}

-- room with nothing in it has bytes alone
pub zeros_small : (n i : ℕ) → get_or (replicate n 0) i 0 < 256
zeros_small zero i = omega arith
zeros_small (suc n) zero = omega arith
zeros_small (suc n) (suc i) = zeros_small n i
