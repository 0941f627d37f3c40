-- Every drawing is the tokens of a table with blanks between them: a text that fits, read back piece by piece.
use Prim.Native.Nat.{ℕ, zero, suc, ◌+◌, ◌*◌, ◌<◌, ◌≤◌}
use mathlib.Core.Path.{◌≡◌, refl, sym, ap, ◌∙◌}
use mathlib.Core.Bool.{Bool, true, false, cond}
use mathlib.Core.List.{List, [], ◌∷◌, ◌++◌, append_assoc}
use native.Mathlib.Omega.{arith}
use native.Mathlib.Nat.{zero-mul, zero-add, add-zero, add-mul, one-mul}
use lib.Dec.{eqb}
use lib.ListN.{length, take, length-append, length-take}
use lib.Seq.{length-take-le, take-length, get_or_at}
use Rattle.fault.specs.Bytes.{byte_at}
use Rattle.layout.specs.Layout.{weight_bytes, rule_bytes, end_bytes}
use Rattle.table.specs.Table.{state_bytes, records_bytes}
use Rattle.decimal.specs.Numbers.{text, decimal, spelling}
use Rattle.dot.specs.declared.Shape.{Shape}
use Rattle.dot.specs.Text.{Piece, space, Spaced, over, chars, after, new_line, tight, a_blank, state_shape, rule_shape, joint, negative, numbers_text, label_text, state_text, rule_text, states_text, rules_text, end_text, head_text, table_text}
use Rattle.dot.specs.Plan.{cell_of, line, kind, Item, gap, num, one, lines, ending, named, numbers, label, state_line, rule_line}
use Rattle.dot.specs.Reading.{none, can_minus, Gathered, nothing_read, put, new_state, new_rule, next_state, halt, to, take1, turned, drawn, reading}
use Rattle.dot.specs.Drawing.{Tokens}
use Rattle.dot.proofs.Fits.{Fits, done, Draws}
use Rattle.dot.proofs.Sound.{Then}
use Rattle.dot.proofs.Written.{seen, seen_put, seen_rule, table-read}
use Rattle.dot.proofs.KeepLaws.{kept, since_keeps, Ranged, state-named, ranged_keeps}
use Rattle.dot.proofs.Pieces.{RestFits, ◌▸◌, taken, byte-rest, bytes_rest, must-rest, gap-rest, after-rest, num-rest, cell-rest, on-byte}

-- ---- lines
-- what was read next is the next byte of all that is read in the end
next-byte : (s w : List ℕ) (j b : ℕ) → s ≡ take j s ++ (b ∷ []) ++ w → (j < length s) × (b ≡ byte_at s j)
next-byte s w j b e =
    let e' = e ∙ append_assoc (take j s) (b ∷ []) w in
    let h : length s ≡ length (take j s) + suc (length w) = ap length e' ∙ length-append (take j s) (b ∷ w) in
    let l : j < length s = omega (arith, length-take j s) in
    let a : length (take j s) ≡ j = length-take-le j s (omega arith) in
    (l, sym (ap (λ (z : List ℕ). byte_at z j) e' ∙ get_or_at (take j s) b w 0 j a))

-- where a line begins: the end, or a name
data Start (r q : Gathered) (t : List ℕ) : Type 0 where
  the_end : RestFits (after new_line (text "}")) ending r q t → Start r q t
  a_name : RestFits (after new_line (text "s")) named r q t → Start r q t

-- by its first byte
start : (r q : Gathered) (t : List ℕ) → Fits lines r none t q → Start r q t
unfolding take1
start r q t f =
    let g = gap-rest new_line f in
    let e = taken g.fits in
    go g e.first e.rest e.whole (eqb e.first 125) (eqb e.first 115) refl refl e.then
  where
    go : (g : RestFits (λ p. space new_line ∷ p) (one line ∷ []) r q t) (c : ℕ) (u : List ℕ) → g.rest ≡ c ∷ u →
        (a b : Bool) → eqb c 125 ≡ a → eqb c 115 ≡ b → Then (turned (cond a (to ending r) (cond b (to named r) halt))) u q → Start r q t
    go g c u e true b h i f = the_end (on-byte g c 125 u e h f)
    go g c u e false true h i f = a_name (on-byte g c 115 u e i f)
    go g c u e false false h i f = absurd f

-- after its name: a state, or a rule
data Kind (r q : Gathered) (t : List ℕ) : Type 0 where
  a_state : next_state r ≡ true → RestFits (after a_blank (text "[")) state_line (new_state r) q t → Kind r q t
  a_rule : RestFits (after a_blank (text "-")) (rule_line r.types) (new_rule r) q t → Kind r q t

-- by the byte after the name
kind_of_lem : (r q : Gathered) (t : List ℕ) → Fits (gap ∷ one kind ∷ []) r none t q → Kind r q t
unfolding take1
kind_of_lem r q t f =
    let g = gap-rest a_blank f in
    let e = taken g.fits in
    go g e.first e.rest e.whole (eqb e.first 91) (next_state r) (eqb e.first 45) refl refl refl e.then
  where
    go : (g : RestFits (λ p. space a_blank ∷ p) (one kind ∷ []) r q t) (c : ℕ) (u : List ℕ) → g.rest ≡ c ∷ u →
        (a n b : Bool) → eqb c 91 ≡ a → next_state r ≡ n → eqb c 45 ≡ b →
        Then (turned (cond a (cond n (to state_line (new_state r)) halt) (cond b (to (rule_line r.types) (new_rule r)) halt))) u q → Kind r q t
    go g c u e true true b h i j f = a_state i (on-byte g c 91 u e h f)
    go g c u e true false b h i j f = absurd f
    go g c u e false n true h i j f = a_rule (on-byte g c 45 u e j f)
    go g c u e false n false h i j f = absurd f

-- nothing fits the empty plan
nothing_left : {r q : Gathered} {t : List ℕ} → Fits [] r none t q → (q ≡ r) × Spaced [] t
nothing_left done = (refl, over)

-- a line up to c, with the name v
abbrev named_by : ℕ → List ℕ → List Piece → List Piece
named_by v c p = after new_line (text "s") (chars (decimal v) (after a_blank c p))

module _ (q : Gathered) (byte k : ℕ) where
  -- n states, m rules and j bytes of all that is read in the end
  abbrev so_far : ℕ → ℕ → ℕ → ℕ → Gathered
  so_far = seen q.body byte k

  -- f has been read back, up to j bytes
  record Upto (f : List Piece → List Piece) (z : List Item) (n m l j : ℕ) (t : List ℕ) : Type 0 where
    inside : j ≤ length q.body
    back : RestFits f z (so_far n m l j) q t

  -- a number that is added is the next byte
  cell_back : (c : Bool) (n m l j e : ℕ) {z : List Item} {t : List ℕ} → j + 1 ≡ e →
      Fits (num (cell_of c) ∷ z) (so_far n m l j) none t q → Upto (chars (spelling c (byte_at q.body j))) z n m l e t
  unfolding put
  cell_back c n m l j e d f =
      let a = cell-rest c f in
      let i = kept since_keeps a.rest.fits in
      let b = next-byte q.body i.0 j a.value i.1 in
      record { inside = omega (arith, b.0); back = rw (b.1, seen_put q.body byte k n m l j b.0, d) at a.rest }

  -- a label's numbers are the next g bytes
  numbers_back : (shape : Shape) (g i n m l j e : ℕ) {z : List Item} {t : List ℕ} →
      j + g ≡ e → j ≤ length q.body → Fits (numbers shape g i z) (so_far n m l j) none t q →
      Upto (numbers_text shape g i q.body j) z n m l e t
  unfolding numbers_text
  numbers_back shape zero i n m l j e {t} d w f =
      let z : e ≡ j = omega arith in
      rw z (record { inside = w; back = record { rest = t; fits = f; spaced = λ p s. s } })
  numbers_back shape (suc g) i n m l j e d w f =
      let a = bytes_rest (joint shape i) f in
      let b = cell_back (negative shape i) n m l j (j + 1) refl a.fits in
      let o = numbers_back shape g (i + 1) n m l (j + 1) e (omega arith) b.inside b.back.fits in
      record { inside = o.inside; back = a ▸ b.back ▸ o.back }

  -- a label
  label_back : (shape : Shape) (g n m l j e : ℕ) {t : List ℕ} →
      j + g ≡ e → j ≤ length q.body → Fits (label shape g) (so_far n m l j) none t q →
      Upto (label_text shape g q.body j) lines n m l e t
  unfolding label_text
  label_back shape g n m l j e d w f =
      let a₁ = after-rest tight (text "label") f in
      let a₂ = after-rest tight (text "=") a₁.fits in
      let a₃ = after-rest tight (text "\"") a₂.fits in
      let o = numbers_back shape g 0 n m l j e d w a₃.fits in
      let a₄ = byte-rest 34 o.back.fits in
      let a₅ = after-rest tight (text "]") a₄.fits in
      let a₆ = after-rest tight (text ";") a₅.fits in
      record { inside = o.inside; back = a₁ ▸ a₂ ▸ a₃ ▸ o.back ▸ a₄ ▸ a₅ ▸ a₆ }

  -- a line, or the end
  data Line (n m l j : ℕ) (t : List ℕ) : Type 0 where
    end_line : q ≡ so_far n m l j → Spaced end_text t → Line n m l j t
    state_line_lem : m ≡ 0 → Upto (state_text q.body n) lines (n + 1) 0 n (2 * (n + 1)) t → Line n m l j t
    rule_line_lem : Upto (rule_text byte q.body j) lines n (m + 1) (byte_at q.body j) (j + rule_bytes byte) t → Line n m l j t

  -- a rule's line
  rule_back : (n m j : ℕ) {t : List ℕ} →
      RestFits (named_by (byte_at q.body j) (text "-")) (rule_line byte) (so_far n (m + 1) (byte_at q.body j) (j + 1)) q t →
      Upto (rule_text byte q.body j) lines n (m + 1) (byte_at q.body j) (j + rule_bytes byte) t
  unfolding put can_minus rule_text
  rule_back n m j a =
      let b = byte_at q.body j in
      let a₁ = byte-rest 62 a.fits in
      let a₂ = after-rest a_blank (text "s") a₁.fits in
      let c = cell_back false n (m + 1) b (j + 1) (j + end_bytes) (omega arith) a₂.fits in
      let a₃ = after-rest a_blank (text "[") c.back.fits in
      let o = label_back (rule_shape byte) (weight_bytes byte) n (m + 1) b (j + end_bytes) (j + rule_bytes byte) (omega arith) c.inside a₃.fits in
      record { inside = o.inside; back = a ▸ a₁ ▸ a₂ ▸ c.back ▸ a₃ ▸ o.back }

  -- a rule's first byte is its line's name
  rule_named : (n m v j : ℕ) {t : List ℕ} → RestFits (named_by v (text "-")) (rule_line byte) (new_rule (so_far n m v j)) q t →
      RestFits (named_by (byte_at q.body j) (text "-")) (rule_line byte) (so_far n (m + 1) (byte_at q.body j) (j + 1)) q t
  unfolding new_rule
  rule_named n m v j a =
      let i = kept since_keeps a.fits in
      let h = next-byte q.body i.0 j v i.1 in
      rw (h.1, seen_rule q.body byte k n m j h.0) at a

  -- a state's line
  state_back : (n m v j : ℕ) {t : List ℕ} → v ≡ n → m ≡ 0 → j ≡ state_bytes * n → j ≤ length q.body →
      RestFits (named_by v (text "[")) state_line (so_far (n + 1) m v j) q t →
      Upto (state_text q.body n) lines (n + 1) 0 n (2 * (n + 1)) t
  unfolding can_minus state_text put
  state_back n m v j {t} ev em ej w a =
      let o = label_back state_shape state_bytes (n + 1) m v j (2 * (n + 1)) (omega arith) w a.fits in
      record { inside = o.inside; back = rw (ev, em, ej) at (a ▸ o.back) }

  -- what stands where a line begins
  line_back : (n m l j : ℕ) (t : List ℕ) → (m ≡ 0 → j ≡ state_bytes * n) → j ≤ length q.body → Fits lines (so_far n m l j) none t q → Line n m l j t
  unfolding put new_state can_minus
  line_back n m l j t d w f = from_start (start (so_far n m l j) q t f)
    where
      from_kind : (v : ℕ) (a : RestFits (λ p. after new_line (text "s") (chars (decimal v) p)) (gap ∷ one kind ∷ []) (so_far n m v j) q t) →
          Kind (so_far n m v j) q a.rest → Line n m l j t
      from_kind v a (a_state h c) =
          let e = state-named (so_far n m v j) h in
          state_line_lem e.1 (state_back n m v j e.0 e.1 (d e.1) w (a ▸ c))
      from_kind v a (a_rule c) = rule_line_lem (rule_back n m j (rule_named n m v j (a ▸ c)))

      from_start : Start (so_far n m l j) q t → Line n m l j t
      from_start (the_end a) =
          let b = gap-rest new_line a.fits in
          let e = nothing_left b.fits in
          end_line e.0 (a.spaced (space new_line ∷ []) (b.spaced [] e.1))
      from_start (a_name a) =
          let e = num-rest a.fits in
          let b = a ▸ e.rest in
          from_kind e.value b (kind_of_lem (so_far n m e.value j) q b.rest b.fits)

  -- the types byte and k are those of q, and the records are whole
  record Ended : Type 0 where
    same_types : q.types ≡ byte
    same_factor : q.factor ≡ k
    whole : length q.body ≡ records_bytes q.states q.rules byte

  -- all lines that are left, for x states and y rules
  record Left (n m : ℕ) (t : List ℕ) : Type 0 where
    x : ℕ
    y : ℕ
    all_states : n + x ≡ q.states
    all_rules : m + y ≡ q.rules
    states_first : (m ≡ 0 → ⊥) → x ≡ 0
    ended : Ended
    spaced : Spaced (states_text x q.body n (rules_text y byte q.body (records_bytes q.states m byte) end_text)) t

  -- no line is left
  at_end_lem : (n m l j : ℕ) {t : List ℕ} → j ≡ records_bytes n m byte → j ≤ length q.body → q ≡ so_far n m l j → Spaced end_text t → Left n m t
  unfolding states_text rules_text
  at_end_lem n m l j d i e s =
      let es = ap (λ (r : Gathered). r.states) e in
      let er = ap (λ (r : Gathered). r.rules) e in
      record {
        x = 0;
        y = 0;
        all_states = omega (arith, es);
        all_rules = omega (arith, er);
        states_first = λ _. refl;
        ended = record {
          same_types = ap (λ (r : Gathered). r.types) e;
          same_factor = ap (λ (r : Gathered). r.factor) e;
          whole = rw (es, er) (ap (λ (r : Gathered). length r.body) e ∙ length-take-le j q.body i ∙ d);
        };
        spaced = s;
      }

  -- a state's line, then the rest
  at_state : (n m : ℕ) {t u : List ℕ} → m ≡ 0 → ((p : List Piece) → Spaced p u → Spaced (state_text q.body n p) t) → Left (n + 1) 0 u → Left n m t
  unfolding states_text
  at_state n m e a o =
      record {
        x = suc o.x;
        y = o.y;
        all_states = omega (arith, o.all_states);
        all_rules = omega (arith, o.all_rules);
        states_first = λ h. absurd (h e);
        ended = o.ended;
        spaced = rw e (a _ o.spaced);
      }

  -- a rule's line, then the rest
  at_rule : (n m j : ℕ) {t u : List ℕ} → j ≡ records_bytes n m byte → ((p : List Piece) → Spaced p u → Spaced (rule_text byte q.body j p) t) →
      Left n (m + 1) u → Left n m t
  unfolding states_text rules_text
  at_rule n m j d a o =
      let ox = o.states_first (λ h. omega arith) in
      let es : n ≡ q.states = omega (arith, o.all_states) in
      let ej : j ≡ records_bytes q.states m byte = rw (← es) d in
      let ek : records_bytes q.states (m + 1) byte ≡ records_bytes q.states m byte + rule_bytes byte =
      omega (arith, add-mul m 1 (rule_bytes byte), one-mul (rule_bytes byte)) in
      record {
        x = 0;
        y = suc o.y;
        all_states = omega arith;
        all_rules = omega (arith, o.all_rules);
        states_first = λ _. refl;
        ended = o.ended;
        spaced = rw ej at (a _ (rw (ox, ek) at o.spaced));
      }

  -- f is more than the number of lines that are left
  lines_back : (f n m l j : ℕ) (t : List ℕ) → q.states + q.rules < f + (n + m) → j ≡ records_bytes n m byte → j ≤ length q.body →
      Fits lines (so_far n m l j) none t q → Left n m t
  lines_back zero n m l j t w d i g = let h = (kept since_keeps g).2 in absurd (omega arith)
  lines_back (suc f) n m l j t w d i g = go (line_back n m l j t (λ e. d ∙ rw (e, zero-mul, add-zero)) i g) (lines_back f)
    where
      go : Line n m l j t →
          ((n m l j : ℕ) (t : List ℕ) → q.states + q.rules < f + (n + m) → j ≡ records_bytes n m byte → j ≤ length q.body →
          Fits lines (so_far n m l j) none t q → Left n m t) → Left n m t
      go (end_line e s) ih = at_end_lem n m l j d i e s
      go (state_line_lem e a) ih =
          at_state n m e a.back.spaced
          (ih (n + 1) 0 n (2 * (n + 1)) a.back.rest (omega arith) (rw (zero-mul, add-zero)) a.inside a.back.fits)
      go (rule_line_lem a) ih =
          at_rule n m j d a.back.spaced
          (ih n (m + 1) (byte_at q.body j) (j + rule_bytes byte) a.back.rest (omega arith)
          (omega (arith, add-mul m 1 (rule_bytes byte), one-mul (rule_bytes byte))) a.inside a.back.fits)

-- the first line gives the types byte and k
head_back : (q : Gathered) (t : List ℕ) → Draws t q →
    (byte : ℕ) × (k : ℕ) × RestFits (head_text byte k) lines (so_far q byte k 0 0 0 0) q t
unfolding head_text can_minus put
head_back q t f =
    let a₁ = after-rest tight (text "digraph") f in
    let a₂ = must-rest a₁.fits in
    let a₃ = after-rest tight (text "t") a₂.fits in
    let a₄ = after-rest a_blank (text "{") a₃.fits in
    let a₅ = after-rest new_line (text "T") a₄.fits in
    let a₆ = after-rest tight (text "=") a₅.fits in
    let a₇ = gap-rest tight a₆.fits in
    let b = num-rest a₇.fits in
    let a₈ = after-rest tight (text ";") b.rest.fits in
    let a₉ = after-rest a_blank (text "k") a₈.fits in
    let a₁₀ = after-rest tight (text "=") a₉.fits in
    let a₁₁ = gap-rest tight a₁₀.fits in
    let c = num-rest a₁₁.fits in
    let a₁₂ = after-rest tight (text ";") c.rest.fits in
    (b.value, c.value, a₁ ▸ a₂ ▸ a₃ ▸ a₄ ▸ a₅ ▸ a₆ ▸ a₇ ▸ b.rest ▸ a₈ ▸ a₉ ▸ a₁₀ ▸ a₁₁ ▸ c.rest ▸ a₁₂)

-- the first line and all that are left
from-left : (q : Gathered) (byte k : ℕ) {t u : List ℕ} → Ranged q → ((p : List Piece) → Spaced p u → Spaced (head_text byte k p) t) → Left q byte k 0 0 u →
    Tokens t q.types q.factor q.states q.rules q.body
unfolding table_text
from-left q byte k h a o =
    let ex = sym (zero-add o.x) ∙ o.all_states in
    let ey = sym (zero-add o.y) ∙ o.all_rules in
    let z : records_bytes q.states 0 byte ≡ state_bytes * q.states = rw (zero-mul, add-zero) in
    record {
      few_types = h.0;
      few_factor = h.1;
      few_states = h.2;
      all_bytes = h.4;
      whole = rw o.ended.same_types o.ended.whole;
      spaced = rw (o.ended.same_types, o.ended.same_factor) (a _ (rw (ex, ey, z) at o.spaced));
    }

-- every drawing has the tokens of what it draws
pub draws-tokens : (t : List ℕ) (r : Gathered) → Draws t r → Tokens t r.types r.factor r.states r.rules r.body
draws-tokens t r f =
    let a = head_back r t f in
    from-left r a.0 a.1 (kept ranged_keeps f nothing_ranged) a.2.spaced
    (lines_back r a.0 a.1 (suc (r.states + r.rules)) 0 0 0 0 a.2.rest (omega arith) (rw zero-mul) (omega arith) a.2.fits)
  where
    nothing_ranged : Ranged nothing_read
    nothing_ranged = (omega arith, omega arith, omega arith, omega arith, λ x. omega arith)

-- and every text with the tokens of a table draws it
pub tokens-read : (t : List ℕ) (byte k n m : ℕ) (s : List ℕ) → Tokens t byte k n m s →
    (l : ℕ) × (reading t ≡ drawn (record { types = byte; factor = k; states = n; rules = m; last = l; body = s }))
tokens-read t byte k n m s h =
    let e = table-read byte k n m s h.few_types h.few_factor h.few_states h.all_bytes (omega (arith, h.whole)) in
    (e.0, rw (← h.whole, take-length) at (e.1 t h.spaced))
