-- The header, the lines and the end of a drawing.
use mathlib.Core.Path.{◌≡◌, refl, sym, ap, ◌∙◌}
use mathlib.Core.Bool.{Bool, true, false, cond, ◌&&◌, true≢false}
use mathlib.Core.List.{List, [], ◌∷◌, ◌++◌, append_assoc}
use Prim.Native.Nat.{ℕ, ◌+◌, ◌-◌, ◌≤◌, ◌<◌}
use native.Mathlib.Omega.{arith}
use native.Mathlib.Nat.{add-mul, one-mul}
use lib.Dec.{eqb}
use lib.ListN.{length, length-append}
use borrow.Author.Tests.{eqb-true, eq-eqb, ne_eqb}
use Rattle.senders.proofs.TallyLaws.{and_both as both}
use Rattle.fault.specs.Bytes.{byte_at}
use Rattle.fault.specs.Fault.{◌if◌else◌}
use Rattle.layout.specs.Layout.{weight_bytes, rule_bytes, end_bytes}
use Rattle.table.specs.Table.{state_bytes}
use Rattle.ink.specs.Ink.{stored}
use Rattle.ink.proofs.InkLaws.{stored_more}
use Rattle.decimal.specs.Numbers.{text}
use Rattle.decimal.specs.Digits.{peeked}
use Rattle.decimal.proofs.DigitLaws.{seen, seen_byte}
use Rattle.dot.specs.declared.Shape.{Shape}
use Rattle.dot.specs.Text.{state_shape, rule_shape}
use Rattle.dot.specs.Plan.{Item, gap, num, one, line, kind, types, factor, name, cell, plan, lines, header, named, label, state_line, rule_line, ending}
use Rattle.dot.specs.Reading.{can_minus, none, Gathered, nothing_read, put, new_state, new_rule, next_state, stuck, turned, to, halt, take1, next, ended, Outcome, drawn, fault, run, reading}
use Rattle.dot.proofs.Digits.{shifted_none}
use Rattle.drawing.specs.declared.Cursor.{Cursor}
use Rattle.drawing.specs.declared.Reader.{Reader}
use Rattle.drawing.specs.Cursor.{from, reached, more, label_then, Skipped, Followed, Counted, Labelled}
use Rattle.fault.specs.declared.refusals.Refused.{Refused}
use Rattle.fault.specs.declared.refusals.Refusal.TheVariants.{NoDrawing}
use Rattle.std.specs.Prelude.{Result, Ok, Err}
use Rattle.drawing.specs.Lines.{Known, on_lines, on_name, on_state, on_rule, on_end, Arrow, NoneAt, Stood, StoodAt, HeadedAt, Closed, ClosedAt}
use Rattle.drawing.proofs.FromLaws.{from_byte, from-stuck, from-over, from-not, from-same, from_end}
use Rattle.drawing.proofs.PlanLaws.{at-free, at-stuck, stands}

-- ---- what is known
-- reading goes on elsewhere
pub known_on : {t out : List ℕ} {g : Reader} {o o' : Gathered → Outcome} (k : Known t g out o) → o k.read ≡ o' k.read → Known t g out o'
known_on k e =
    record {
      read = k.read;
      types_are = k.types_are;
      factor_is = k.factor_is;
      states_are = k.states_are;
      rules_are = k.rules_are;
      made_is = k.made_is;
      sum = k.sum;
      first = k.first;
      kept = k.kept;
      few = k.few;
      bytes_fit = k.bytes_fit;
      lines_fit = k.lines_fit;
      goes = k.goes ∙ e;
    }

-- ---- the header
reading-from : (t : List ℕ) → reading t ≡ from t 0 header nothing_read none
unfolding reading from
reading-from t = shifted_none (run t header nothing_read none)

-- a reader that is refused there
pub none_at : {e : Refused} {i : ℕ} {o : Outcome} → o ≡ fault i → e ≡ record { refusal = NoDrawing; place = i } → NoneAt e o
none_at f e = rw e (record { fails = f; refusal = refl })

module _ {t : List ℕ} {z a b c byte k : Cursor} (ez : z ≡ stands 0) (f : Followed t z (text "~digraph_~t~{~T~=~") a) (x : Counted t a false byte)
    (g : Followed t byte (text "~;~k~=~") b) (y : Counted t b false k) (h : Followed t k (text "~;") c) where
  abbrev header_types : Gathered
  header_types = put types byte.value nothing_read

  abbrev header_put : Gathered
  header_put = put factor k.value header_types

  header_leads : reading t ≡ reached t c lines header_put
  unfolding can_minus ended put
  header_leads =
      reading-from t ∙ sym (at-free t (stands 0) header nothing_read refl) ∙ ap (λ (z : Cursor). reached t z header nothing_read) (sym ez) ∙
      f.on (num types ∷ plan (text "~;~k~=~") (num factor ∷ plan (text "~;") lines)) nothing_read ∙
      x.on types (plan (text "~;~k~=~") (num factor ∷ plan (text "~;") lines)) nothing_read refl refl ∙ g.on (num factor ∷ plan (text "~;") lines) header_types ∙
      y.on factor (plan (text "~;") lines) header_types refl refl ∙ h.on lines header_put

  pub header_fails : {e : Refused} → c.stuck ≡ true → e ≡ record { refusal = NoDrawing; place = c.place } → NoneAt e (reading t) × (e.place ≤ length t)
  header_fails s e = (none_at (header_leads ∙ at-stuck t c lines header_put s) e, rw e h.within)

  pub header_read : c.stuck ≡ false → HeadedAt t (record { place = c.place; ended = false; types = byte.value; factor = k.value; states = 0; rules = 0; made = 0 })
  unfolding put on_lines ◌if◌else◌ stored
  header_read s =
      record {
        within = h.within;
        knows = λ out.
            record {
              read = header_put;
              types_are = refl;
              factor_is = refl;
              states_are = refl;
              rules_are = refl;
              made_is = refl;
              sum = omega arith;
              first = out;
              kept = refl;
              few = omega (arith, x.small);
              bytes_fit = omega arith;
              lines_fit = omega arith;
              goes = header_leads ∙ at-free t c lines header_put s;
            };
      }

-- ---- the start of a line
line-start : (t : List ℕ) (i j : ℕ) (r : Gathered) → Skipped t i j → from t i lines r none ≡ from t j (one line ∷ []) r none
line-start t i j r s = s.on (one line ∷ []) r

pub line-ends : {t out : List ℕ} {g : Reader} {j x : ℕ} → Known t g out (on_lines t g) → g.ended ≡ false → Skipped t g.place j → x ≡ peeked t j → x ≡ 125 →
    Known t g out (on_end t (j + 1))
unfolding on_lines on_end ◌if◌else◌ next take1
line-ends {t} {out} {g} {j} {x} k e s ex h =
    let z = seen (λ (x : ℕ). eqb x 125) t j refl ex (eq-eqb x 125 h) in
    let b : byte_at t j ≡ 125 = z.byte_is ∙ h in
    known_on k
    (rw e (line-start t g.place j k.read s) ∙
    from_byte t j (one line ∷ []) ending k.read k.read none none z.there (rw b))

pub bracket_there : (t : List ℕ) (j : ℕ) {x : ℕ} → x ≡ peeked t j → x ≡ 125 → j + 1 ≤ length t
bracket_there t j {x} ex h = let z = seen (λ (x : ℕ). eqb x 125) t j refl ex (eq-eqb x 125 h) in omega (arith, z.there)

line_names : (t : List ℕ) (j : ℕ) (r : Gathered) {x : ℕ} → j ≤ length t → x ≡ peeked t j → (x ≡ 125 → ⊥) →
    from t j (one line ∷ []) r none ≡ from t j (plan (text "s") named) r none
unfolding next take1 ended
line_names t j r {x} l ex n =
    from-same t j (one line ∷ []) (plan (text "s") named) r r none none l (λ h. rw (seen_byte t j ex h, ne_eqb x 125 n))
    (λ h. from_end t j (one line ∷ []) r none h refl ∙ sym (from_end t j (plan (text "s") named) r none h refl))

-- a line's name and what follows it
pub name_leads : {t out : List ℕ} {g : Reader} {j x : ℕ} {z s v c : Cursor} → Known t g out (on_lines t g) → g.ended ≡ false → Skipped t g.place j →
    x ≡ peeked t j → (x ≡ 125 → ⊥) → z ≡ stands j → Followed t z (text "s") s → Counted t s false v → Followed t v (text "~") c →
    Known t g out (λ r. reached t c (one kind ∷ []) (put name v.value r))
unfolding on_lines ◌if◌else◌ can_minus ended
name_leads {t} {out} {g} {j} {x} {z} {s} {v} {c} k e p ex n ez f y h =
    let r = k.read in
    known_on k
    (rw e (line-start t g.place j r p) ∙ line_names t j r p.within ex n ∙ sym (at-free t (stands j) (plan (text "s") named) r refl) ∙
    ap (λ (z : Cursor). reached t z (plan (text "s") named) r) (sym ez) ∙ f.on named r ∙ y.on name (gap ∷ one kind ∷ []) r refl refl ∙
    h.on (one kind ∷ []) (put name v.value r))

-- ---- the end
pub end-fails : (t : List ℕ) (i j : ℕ) (r : Gathered) → Skipped t i j → j < length t → on_end t i r ≡ fault j
unfolding on_end next
end-fails t i j r s l = s.on [] r ∙ from-stuck t j [] r none l refl

end-draws : (t : List ℕ) (i j : ℕ) (r : Gathered) → Skipped t i j → length t ≤ j → on_end t i r ≡ drawn r
unfolding on_end ended
end-draws t i j r s l = s.on [] r ∙ from-over t j [] r none (omega (arith, s.within)) refl

pub closed_stuck : {t : List ℕ} {i j : ℕ} {e : Refused} → Skipped t i j → j < length t → e ≡ record { refusal = NoDrawing; place = j } → ((r : Gathered) → NoneAt e (on_end t i r)) × (e.place ≤ length t) × (i ≤ e.place)
closed_stuck {t} {i} {j} s l e = ((λ r. none_at (end-fails t i j r s l) e), rw e s.within, rw e s.onward)

pub closed-ended : {t : List ℕ} {g : Reader} {i j : ℕ} → Skipped t i j → length t ≤ j → g.place + 1 ≤ i →
    ClosedAt t g i (record { place = j; ended = true; types = g.types; factor = g.factor; states = g.states; rules = g.rules; made = g.made })
unfolding on_lines ◌if◌else◌
closed-ended {t} {g} {i} {j} s l o =
    record {
      within = s.within;
      onward = s.onward;
      last = refl;
      ends = λ out k.
          record {
            read = k.read;
            types_are = k.types_are;
            factor_is = k.factor_is;
            states_are = k.states_are;
            rules_are = k.rules_are;
            made_is = k.made_is;
            sum = k.sum;
            first = k.first;
            kept = k.kept;
            few = k.few;
            bytes_fit = omega (arith, k.bytes_fit, s.onward);
            lines_fit = omega (arith, k.lines_fit, s.onward);
            goes = k.goes ∙ end-draws t i j k.read s l;
          };
    }

pub line-closed : {t out : List ℕ} {g : Reader} {i : ℕ} (h : Result Reader Refused) → g.place + 1 ≤ i → Known t g out (on_end t i) → Closed t g i h → Stood t g.place h out
line-closed {t} {out} {g} {i} (Ok h) o k c =
    record {
      within = c.within;
      onward = omega (arith, c.onward);
      further = λ z. absurd (true≢false (sym c.last ∙ z));
      knows = c.ends out k;
    }
line-closed (Err e) o k c = let n = c.0 k.read in (record { fails = k.goes ∙ n.fails; refusal = n.refusal }, c.1, omega (arith, o, c.2))

pub name-fails : {t out : List ℕ} {g : Reader} (c : Cursor) (v : ℕ) → Known t g out (λ r. reached t c (one kind ∷ []) (put name v r)) → c.stuck ≡ true → reading t ≡ fault c.place
name-fails {t} {out} {g} c v k s = k.goes ∙ at-stuck t c (one kind ∷ []) (put name v k.read) s

pub name-goes : {t out : List ℕ} {g : Reader} (c : Cursor) (v : ℕ) → Known t g out (λ r. reached t c (one kind ∷ []) (put name v r)) → c.stuck ≡ false → Known t g out (on_name t c.place v)
unfolding on_name
name-goes {t} {out} {g} c v k s = known_on k (at-free t c (one kind ∷ []) (put name v k.read) s)

-- ---- after a line's first name
-- the next state's name
abbrev is_next : Reader → ℕ → ℕ → Bool
is_next g v x = eqb x 91 && (eqb v g.states && eqb g.rules 0)

next-state : {t out : List ℕ} {g : Reader} {o : Gathered → Outcome} (v : ℕ) (k : Known t g out o) → next_state (put name v k.read) ≡ (eqb v g.states && eqb g.rules 0)
unfolding next_state put
next-state v k = rw (k.states_are, k.rules_are)

pub kind-there : (t : List ℕ) (g : Reader) (i v : ℕ) {x : ℕ} → x ≡ peeked t i → is_next g v x ≡ true → i + 1 ≤ length t
kind-there t g i v {x} ex h =
    let z = seen (λ (x : ℕ). eqb x 91) t i refl ex (both (eqb x 91) (eqb v g.states && eqb g.rules 0) h).0 in omega (arith, z.there)

pub kind-state : {t out : List ℕ} {g : Reader} (i v : ℕ) {x : ℕ} → Known t g out (on_name t i v) → x ≡ peeked t i → is_next g v x ≡ true → Known t g out (on_state t (i + 1) v)
unfolding on_name on_state next take1
kind-state {t} {out} {g} i v {x} k ex h =
    let p = both (eqb x 91) (eqb v g.states && eqb g.rules 0) h in
    let z = seen (λ (x : ℕ). eqb x 91) t i refl ex p.0 in
    let b : byte_at t i ≡ 91 = z.byte_is ∙ eqb-true x 91 p.0 in
    let r = put name v k.read in
    known_on k (from_byte t i (one kind ∷ []) state_line r (new_state r) none none z.there (rw (b, next-state v k ∙ p.1)))

pub minus-there : (t : List ℕ) (i : ℕ) {x : ℕ} → x ≡ peeked t i → x ≡ 45 → i + 1 ≤ length t
minus-there t i {x} ex h = let z = seen (λ (x : ℕ). eqb x 45) t i refl ex (eq-eqb x 45 h) in omega (arith, z.there)

pub kind-rule : {t out : List ℕ} {g : Reader} (i v : ℕ) {x : ℕ} → Known t g out (on_name t i v) → x ≡ peeked t i → x ≡ 45 → Known t g out (on_rule t (i + 1) v)
unfolding on_name on_rule next take1 put
kind-rule {t} {out} {g} i v {x} k ex h =
    let z = seen (λ (x : ℕ). eqb x 45) t i refl ex (eq-eqb x 45 h) in
    let b : byte_at t i ≡ 45 = z.byte_is ∙ h in
    let r = put name v k.read in
    known_on k (from_byte t i (one kind ∷ []) (rule_line r.types) r (new_rule r) none none z.there (rw b))

pub kind-fails : {t out : List ℕ} {g : Reader} (i v : ℕ) {x : ℕ} → i ≤ length t → Known t g out (on_name t i v) → x ≡ peeked t i → is_next g v x ≡ false → (x ≡ 45 → ⊥) →
    reading t ≡ fault i
unfolding on_name next take1 ended
kind-fails {t} {out} {g} i v {x} l k ex h n =
    k.goes ∙ from-not t i (one kind ∷ []) r none l (λ o. rw (seen_byte t i ex o) (split (eqb x 91) (next_state r) refl refl)) refl
  where
    r : Gathered
    r = put name v k.read

    split : (a b : Bool) → eqb x 91 ≡ a → next_state r ≡ b →
        turned (cond a (cond b (to state_line (new_state r)) halt) (cond (eqb x 45) (to (rule_line r.types) (new_rule r)) halt)) ≡ stuck
    split true true e f = absurd (true≢false (sym (rw (e, sym (next-state v k) ∙ f)) ∙ h))
    split true false e f = refl
    split false b e f = rw (ne_eqb x 45 n)

-- a line that is refused there
pub line_refused : (t : List ℕ) {i j : ℕ} {e : Refused} → i ≤ j → j ≤ length t → reading t ≡ fault j → e ≡ record { refusal = NoDrawing; place = j } → NoneAt e (reading t) × (e.place ≤ length t) × (i ≤ e.place)
line_refused t o l f e = (none_at f e, rw e l, rw e o)

-- ---- a line's rest
-- c stands after it, and h is the reader there; or c is stuck where no drawing goes on
pub record LineRead (t : List ℕ) (i : ℕ) (c : Cursor) (h : Reader) (out : List ℕ) : Type 0 where
  pub within : c.place ≤ length t
  pub onward : i ≤ c.place
  pub fails : c.stuck ≡ true → reading t ≡ fault c.place
  pub stands_there : c.stuck ≡ false → StoodAt t i h out

-- ---- a state's line
pub state-read : {t out left : List ℕ} {g : Reader} (i v : ℕ) {z c : Cursor} {shape : Shape} → g.place + 1 ≤ i → Known t g out (on_state t i v) → z ≡ stands i →
    shape ≡ state_shape → Labelled t z state_bytes (label_then shape state_bytes) c g.made out left →
    LineRead t g.place c
    (record { place = c.place; ended = false; types = g.types; factor = g.factor; states = g.states + 1; rules = g.rules; made = g.made + state_bytes }) left
unfolding on_state on_lines ◌if◌else◌ put new_state ended
state-read {t} {out} {left} {g} i v {z} {c} {shape} o k ez es l =
    record {
      within = l.within;
      onward = omega (arith, l.onward, ap (λ (z : Cursor). z.place) ez);
      fails = λ s. leads ∙ at-stuck t c lines r s;
      stands_there = λ s. let f = l.further s in record {
        within = l.within;
        onward = omega (arith, l.onward, ap (λ (z : Cursor). z.place) ez);
        further = λ _. omega (arith, l.onward, ap (λ (z : Cursor). z.place) ez);
        knows = record {
          read = r;
          types_are = k.types_are;
          factor_is = k.factor_is;
          states_are = rw k.states_are;
          rules_are = k.rules_are;
          made_is = length-append k.read.body l.values ∙ omega (arith, k.made_is, l.count);
          sum = omega (arith, k.sum);
          first = k.first;
          kept = l.bytes_put ∙ rw k.kept (stored_more k.first 0 g.made k.read.body l.values (omega (arith, k.made_is)));
          few = k.few;
          bytes_fit = omega (arith, k.bytes_fit, f, ap (λ (z : Cursor). z.place) ez);
          lines_fit = omega (arith, k.lines_fit, f, ap (λ (z : Cursor). z.place) ez);
          goes = leads ∙ at-free t c lines r s;
        };
      };
    }
  where
    r0 : Gathered
    r0 = new_state (put name v k.read)

    r : Gathered
    r = more l.values r0

    leads : reading t ≡ reached t c lines r
    leads =
        k.goes ∙ sym (at-free t (stands i) state_line r0 refl) ∙ ap (λ (z : Cursor). reached t z state_line r0) (sym ez) ∙
        ap (λ (s : Shape). reached t z (label_then s state_bytes lines) r0) (sym es) ∙ l.on lines r0 refl

-- ---- a rule's line
pub arrow_read : {t out mid left : List ℕ} {v n m u w : ℕ} {z a d : Cursor} (i : ℕ) → z ≡ stands i → Followed t z (text ">~s") a → Counted t a false d →
    u ≡ v → (m ≡ n + 1) × (mid ≡ stored out n (u ∷ [])) → w ≡ d.value → left ≡ stored mid m (w ∷ []) → Arrow t i v d n out left
unfolding can_minus
arrow_read {t} {out} {mid} {left} {v} {n} {m} {u} {w} {z} {a} {d} i ez f y eu e1 ew e2 =
    let p = ap (λ (z : Cursor). z.place) ez in
    record {
      within = y.within;
      onward = omega (arith, p, f.onward, y.onward);
      further = λ s. let o = y.further s in omega (arith, p, f.onward, o);
      bytes_put = e2 ∙ rw (e1.1, eu, ew) (stored_more out n m (v ∷ []) (d.value ∷ []) e1.0);
      on = λ k r e.
          sym (at-free t (stands i) (plan (text ">~s") (num cell ∷ k)) r refl) ∙ ap (λ (z : Cursor). reached t z (plan (text ">~s") (num cell ∷ k)) r) (sym ez) ∙
          f.on (num cell ∷ k) r ∙ y.on cell k r refl e;
    }

pub rule-read : {t out mid left : List ℕ} {g : Reader} {n weights : ℕ} {b c d : Cursor} {shape : Shape} (i v : ℕ) → g.place + 1 ≤ i → Known t g out (on_rule t i v) →
    Arrow t i v d g.made out mid → Followed t d (text "~[") b → n ≡ g.made + end_bytes →
    weights ≡ weight_bytes g.types → shape ≡ rule_shape g.types → Labelled t b weights (label_then shape weights) c n mid left →
    LineRead t g.place c
    (record { place = c.place; ended = false; types = g.types; factor = g.factor; states = g.states; rules = g.rules + 1; made = g.made + end_bytes + weights }) left
unfolding on_rule on_lines ◌if◌else◌ put new_rule ended
rule-read {t} {out} {mid} {left} {g} {n} {weights} {b} {c} {d} {shape} i v o k y h en ew es l =
    record {
      within = l.within;
      onward = omega (arith, l.onward, h.onward, y.onward);
      fails = λ s. leads ∙ at-stuck t c lines r s;
      stands_there = λ s. let u = l.further s in let w = y.further (h.free (l.free s)) in record {
        within = l.within;
        onward = omega (arith, l.onward, h.onward, y.onward);
        further = λ _. omega (arith, l.onward, h.onward, y.onward);
        knows = record {
          read = r;
          types_are = k.types_are;
          factor_is = k.factor_is;
          states_are = k.states_are;
          rules_are = rw k.rules_are;
          made_is = length-append r1.body l.values ∙ omega (arith, ends_length, l.count);
          sum = omega (arith, k.sum, ew, add-mul g.rules 1 (rule_bytes g.types), one-mul (rule_bytes g.types));
          first = k.first;
          kept = keeps;
          few = k.few;
          bytes_fit = omega (arith, k.bytes_fit, u, w, h.onward);
          lines_fit = omega (arith, k.lines_fit, u, w, h.onward);
          goes = leads ∙ at-free t c lines r s;
        };
      };
    }
  where
    r0 : Gathered
    r0 = new_rule (put name v k.read)

    r1 : Gathered
    r1 = put cell d.value r0

    r : Gathered
    r = more l.values r1

    tail : List Item
    tail = label (rule_shape k.read.types) (weight_bytes k.read.types)

    labels : label_then shape weights lines ≡ tail
    labels = rw (ew, es) (ap (λ (x : ℕ). label (rule_shape x) (weight_bytes x)) (sym k.types_are))

    leads : reading t ≡ reached t c lines r
    leads =
        k.goes ∙ y.on (plan (text "~[") tail) r0 refl ∙ h.on tail r1 ∙ ap (λ (p : List Item). reached t b p r1) (sym labels) ∙ l.on lines r1 refl

    ends_are : r1.body ≡ k.read.body ++ (v ∷ d.value ∷ [])
    ends_are = append_assoc k.read.body (v ∷ []) (d.value ∷ [])

    ends_length : length r1.body ≡ g.made + end_bytes
    ends_length = ap length ends_are ∙ length-append k.read.body (v ∷ d.value ∷ []) ∙ omega (arith, k.made_is)

    keeps : left ≡ stored k.first 0 r.body
    keeps =
        l.bytes_put ∙
        ap (λ (w : List ℕ). stored w n l.values)
        (y.bytes_put ∙ ap (λ (w : List ℕ). stored w g.made (v ∷ d.value ∷ [])) k.kept ∙
        stored_more k.first 0 g.made k.read.body (v ∷ d.value ∷ []) (omega (arith, k.made_is)) ∙ ap (stored k.first 0) (sym ends_are)) ∙
        stored_more k.first 0 n r1.body l.values (omega (arith, en, ends_length))

-- ---- all lines
pub record AtLine (t : List ℕ) (g : Reader) (out : List ℕ) : Type 0 where
  pub within : g.place ≤ length t
  pub knows : Known t g out (on_lines t g)

pub lines-begin : {t : List ℕ} {g : Reader} (out : List ℕ) → HeadedAt t g → AtLine t g out
lines-begin out h = record { within = h.within; knows = h.knows out }

pub lines_go_on : {t out : List ℕ} {i : ℕ} {h : Reader} → StoodAt t i h out → AtLine t h out
lines_go_on s = record { within = s.within; knows = s.knows }

pub lines_end : {t out : List ℕ} {g : Reader} → AtLine t g out → g.ended ≡ true → Known t g out drawn
unfolding on_lines ◌if◌else◌
lines_end s h = known_on s.knows (rw h)

-- what a reader has before it
abbrev pub ahead : List ℕ → Reader → ℕ
ahead t g = length t - g.place + cond g.ended 0 1

pub lines_less : {t out : List ℕ} (g : Reader) {h : Reader} → g.ended ≡ false → StoodAt t g.place h out → ahead t h < ahead t g
lines_less {t} {out} g {h} f s = rw f (split h.ended refl)
  where
    split : (b : Bool) → h.ended ≡ b → length t - h.place + cond b 0 1 < length t - g.place + 1
    split true e = omega (arith, s.onward)
    split false e = let o = s.further e in omega (arith, o, s.within)

-- ---- a line's name, from what the code has in hand
pub named-fails : {t out : List ℕ} {g : Reader} {j x : ℕ} {z s v c : Cursor} {e : Refused} → Known t g out (on_lines t g) → g.ended ≡ false → Skipped t g.place j →
    x ≡ peeked t j → (x ≡ 125 → ⊥) → z ≡ stands j → Followed t z (text "s") s → Counted t s false v → Followed t v (text "~") c → c.stuck ≡ true →
    e ≡ record { refusal = NoDrawing; place = c.place } → NoneAt e (reading t) × (e.place ≤ length t) × (g.place ≤ e.place)
named-fails {v = v} {c = c} k e p ex n ez f y q st hh =
    line_refused _ (omega (arith, p.onward, f.onward, y.onward, q.onward, ap (λ (z : Cursor). z.place) ez)) q.within (name-fails c v.value (name_leads k e p ex n ez f y q) st) hh

pub named-goes : {t out : List ℕ} {g : Reader} {j x : ℕ} {z s v c : Cursor} → Known t g out (on_lines t g) → g.ended ≡ false → Skipped t g.place j →
    x ≡ peeked t j → (x ≡ 125 → ⊥) → z ≡ stands j → Followed t z (text "s") s → Counted t s false v → Followed t v (text "~") c → c.stuck ≡ false →
    Known t g out (on_name t c.place v.value)
named-goes {v = v} {c = c} k e p ex n ez f y q st = name-goes c v.value (name_leads k e p ex n ez f y q) st

pub named-further : {t : List ℕ} {i j : ℕ} {z s v c : Cursor} → Skipped t i j → z ≡ stands j → Followed t z (text "s") s → Counted t s false v →
    Followed t v (text "~") c → c.stuck ≡ false → i + 1 ≤ c.place
named-further p ez f y q st = let o = y.further (q.free st) in omega (arith, p.onward, f.onward, o, q.onward, ap (λ (z : Cursor). z.place) ez)
