-- A table's tokens, with any blanks between them, draw the table; the writer's text is one such.
use Prim.Native.Nat.{ℕ, zero, suc, ◌+◌, ◌-◌, ◌*◌, ◌<◌, ◌≤◌}
use mathlib.Core.Path.{◌≡◌, refl, ap, ◌∙◌}
use mathlib.Core.Bool.{Bool, true, ◌&&◌}
use mathlib.Core.List.{List, [], ◌∷◌, ◌++◌}
use native.Mathlib.Omega.{arith}
use native.Mathlib.Numerals.{add-one}
use native.Mathlib.Nat.{suc-mul}
use lib.ListN.{length, take}
use lib.Seq.{take-suc}
use borrow.Author.Tests.{eq-eqb}
use Rattle.fault.specs.Bytes.{byte_at, trailer_bytes, trailer_of}
use Rattle.layout.specs.Layout.{weight_bytes, rule_bytes, end_bytes}
use Rattle.table.specs.Table.{states_of, rules_of, types_byte, factor_of, state_bytes, records_bytes}
use Rattle.table.specs.Facts.{Sized}
use Rattle.decimal.specs.Numbers.{text, decimal, spelling}
use Rattle.dot.specs.declared.Shape.{Shape}
use Rattle.dot.specs.Text.{is_blank, state_shape, rule_shape, negative, Piece, char, space, must, written, Spaced, over, letter, one_more, no_more, needed, chars, head_text, joint, numbers_text, label_text, state_text, rule_text, states_text, rules_text, end_text, table_text, drawing_of}
use Rattle.dot.specs.Plan.{types, factor, name, cell, Item, lines, header, named, numbers, label, state_line, rule_line, ending}
use Rattle.dot.specs.Reading.{can_minus, Gathered, nothing_read, put, new_state, new_rule, next_state, to, take1, drawn, reading}
use Rattle.senders.proofs.TallyLaws.{and_both as both}
use Rattle.dot.proofs.Pieces.{Goes, over-goes, one-goes, byte-goes, bytes_go, gap-goes, must-goes, after-goes, num-goes, cell-goes}
use Rattle.dot.proofs.Place.{draws-read}

-- ---- a table's lines
-- the end
end_goes : {r : Gathered} → Goes end_text lines r r
unfolding take1
end_goes = gap-goes (one-goes {k' = ending} refl (gap-goes over-goes))

module _ (s : List ℕ) (byte k : ℕ) where
  -- n states, m rules and j bytes of s have been read, and l was the last name
  abbrev pub seen : ℕ → ℕ → ℕ → ℕ → Gathered
  seen n m l j = record { types = byte; factor = k; states = n; rules = m; last = l; body = take j s }

  -- one byte more
  pub seen_put : (n m l j : ℕ) → j < length s → put cell (byte_at s j) (seen n m l j) ≡ seen n m l (j + 1)
  unfolding put
  seen_put n m l j h = rw (add-one j, take-suc s j 0 h)

  -- a rule more, by its first byte
  pub seen_rule : (n m j : ℕ) → j < length s → new_rule (seen n m (byte_at s j) j) ≡ seen n (m + 1) (byte_at s j) (j + 1)
  unfolding new_rule
  seen_rule n m j h = rw (add-one j, take-suc s j 0 h)

  module _ (all : (x : ℕ) → byte_at s x < 256) where
    -- a label's numbers are the next g bytes of s
    numbers_go : (shape : Shape) (g i n m l j e : ℕ) {p : List Piece} {z : List Item} {q : Gathered} → j + g ≡ e → e ≤ length s →
        Goes p z (seen n m l e) q → Goes (numbers_text shape g i s j p) (numbers shape g i z) (seen n m l j) q
    unfolding numbers_text
    numbers_go shape zero i n m l j e d w f = let d' : e ≡ j = omega arith in rw d' at f
    numbers_go shape (suc g) i n m l j e d w f =
        let ih = numbers_go shape g (i + 1) n m l (j + 1) e (omega arith) w f in
        bytes_go (joint shape i) (cell-goes (negative shape i) (byte_at s j) (all j) (rw (seen_put n m l j (omega arith)) ih))

    -- a label
    label-goes : (shape : Shape) (g n m l j e : ℕ) {p : List Piece} {q : Gathered} → j + g ≡ e → e ≤ length s →
        Goes p lines (seen n m l e) q → Goes (label_text shape g s j p) (label shape g) (seen n m l j) q
    unfolding label_text
    label-goes shape g n m l j e d w f =
        after-goes (text "label")
        (after-goes (text "=")
        (after-goes (text "\"")
        (numbers_go shape g 0 n m l j e d w (byte-goes 34 (after-goes (text "]") (after-goes (text ";") f))))))

    -- a state's line
    state-goes : (i l : ℕ) {p : List Piece} {q : Gathered} → i < 256 → state_bytes * (i + 1) ≤ length s → Goes p lines (seen (i + 1) 0 i (state_bytes * (i + 1))) q →
        Goes (state_text s i p) lines (seen i 0 l (state_bytes * i)) q
    unfolding state_text take1 can_minus put new_state next_state
    state-goes i l b w f =
        gap-goes
        (one-goes {k' = named} refl
        (num-goes name i b
        (gap-goes
        (one-goes {k' = state_line} {r' = seen (i + 1) 0 i (state_bytes * i)} (rw (eq-eqb i i refl))
        (label-goes state_shape state_bytes (i + 1) 0 i (state_bytes * i) (state_bytes * (i + 1)) (omega arith) w f)))))

    -- a rule's line
    rule-goes : (n m l j e : ℕ) {p : List Piece} {q : Gathered} → j + rule_bytes byte ≡ e → e ≤ length s →
        Goes p lines (seen n (m + 1) (byte_at s j) e) q → Goes (rule_text byte s j p) lines (seen n m l j) q
    unfolding rule_text take1 can_minus put
    rule-goes n m l j e d w f =
        let b = byte_at s j in
        let z : j + 1 + 1 ≡ j + end_bytes = omega arith in
        gap-goes
        (one-goes {k' = named} refl
        (num-goes name b (all j)
        (gap-goes
        (one-goes (ap (to (rule_line byte)) (seen_rule n m j (omega arith)))
        (byte-goes 62
        (after-goes (text "s")
        (num-goes cell (byte_at s (j + 1)) (all (j + 1))
        (rw (seen_put n (m + 1) b (j + 1) (omega arith), z)
        (after-goes (text "[") (label-goes (rule_shape byte) (weight_bytes byte) n (m + 1) b (j + end_bytes) e (omega arith) w f))))))))))

    -- all rules and the end; the last name read is some number
    rules_go : (x n m l j M e : ℕ) → m + x ≡ M → j + x * rule_bytes byte ≡ e → e ≤ length s →
        (l' : ℕ) × Goes (rules_text x byte s j end_text) lines (seen n m l j) (seen n M l' e)
    unfolding rules_text
    rules_go zero n m l j M e c d w =
        let a : M ≡ m = omega arith in
        let b : e ≡ j = omega arith in
        (l, rw (a, b) end_goes)
    rules_go (suc x) n m l j M e c d w =
        let h = suc-mul x (rule_bytes byte) in
        let ih = rules_go x n (m + 1) (byte_at s j) (j + rule_bytes byte) M e (omega arith) (omega arith) w in
        (ih.0, rule-goes n m l j (j + rule_bytes byte) refl (omega arith) ih.1)

    -- all states, and what follows
    states_go : (x i n l M e : ℕ) {p : List Piece} → i + x ≡ n → n ≤ 256 → state_bytes * n ≤ length s →
        ((l : ℕ) → (l' : ℕ) × Goes p lines (seen n 0 l (state_bytes * n)) (seen n M l' e)) →
        (l' : ℕ) × Goes (states_text x s i p) lines (seen i 0 l (state_bytes * i)) (seen n M l' e)
    unfolding states_text
    states_go zero i n l M e d b w f = let z : i ≡ n = omega arith in rw z (f l)
    states_go (suc x) i n l M e d b w f =
        let ih = states_go x (i + 1) n i M e (omega arith) b w f in
        (ih.0, state-goes i l (omega arith) (omega arith) ih.1)

-- the first line
head_goes : (byte k : ℕ) {p : List Piece} {q : Gathered} → byte ≤ 255 → k ≤ 255 → Goes p lines (put factor k (put types byte nothing_read)) q →
    Goes (head_text byte k p) header nothing_read q
unfolding head_text can_minus
head_goes byte k lb lk f =
    after-goes (text "digraph")
    (must-goes
    (after-goes (text "t")
    (after-goes (text "{")
    (after-goes (text "T")
    (after-goes (text "=")
    (gap-goes
    (num-goes types byte (omega arith)
    (after-goes (text ";")
    (after-goes (text "k")
    (after-goes (text "=") (gap-goes (num-goes factor k (omega arith) (after-goes (text ";") f)))))))))))))

-- the tokens of a table, with any blanks between them, are read as its counts and its bytes
pub table-read : (byte k n m : ℕ) (s : List ℕ) → byte ≤ 255 → k ≤ 255 → n ≤ 256 → ((x : ℕ) → byte_at s x < 256) →
    records_bytes n m byte ≤ length s →
    (l : ℕ) × ((t : List ℕ) → Spaced (table_text byte k n m s) t →
    reading t ≡ drawn (record { types = byte; factor = k; states = n; rules = m; last = l; body = take (records_bytes n m byte) s }))
unfolding table_text put
table-read byte k n m s lb lk ln all w =
    let e = states_go s byte k all n 0 n 0 m (records_bytes n m byte) (omega arith) ln (omega arith)
    (λ l. rules_go s byte k all m n 0 l (state_bytes * n) m (records_bytes n m byte) (omega arith) refl w) in
    (e.0, λ t x. draws-read t (seen s byte k n m e.0 (records_bytes n m byte)) (head_goes byte k lb lk e.1 t x))

-- ---- what the writer puts into the gaps
abbrev pub all_blank : List ℕ → Bool
all_blank [] = true
all_blank (c ∷ d) = is_blank c && all_blank d

-- every gap is written with blanks
abbrev pub tidy : List Piece → Bool
tidy [] = true
tidy (char b ∷ p) = tidy p
tidy (space d ∷ p) = all_blank d && tidy p
tidy (must ∷ p) = tidy p

-- blanks in a gap
blanks_spaced : (d e : List ℕ) (p : List Piece) (t : List ℕ) → all_blank d ≡ true → Spaced p t → Spaced (space e ∷ p) (d ++ t)
blanks_spaced [] e p t h s = no_more s
blanks_spaced (c ∷ d) e p t h s = let b = both (is_blank c) (all_blank d) h in one_more b.0 (blanks_spaced d e p t b.1 s)

-- the written text has the same tokens
pub written-spaced : (p : List Piece) → tidy p ≡ true → Spaced p (written p)
unfolding written is_blank
written-spaced [] h = over
written-spaced (char b ∷ p) h = letter (written-spaced p h)
written-spaced (space d ∷ p) h = let b = both (all_blank d) (tidy p) h in blanks_spaced d d p (written p) b.0 (written-spaced p b.1)
written-spaced (must ∷ p) h = needed refl (written-spaced p h)

-- a token in front
tidy_chars : (w : List ℕ) (p : List Piece) → tidy (chars w p) ≡ tidy p
tidy_chars [] p = refl
tidy_chars (b ∷ w) p = tidy_chars w p

-- a label's numbers
tidy_numbers : (shape : Shape) (g j : ℕ) (s : List ℕ) (at : ℕ) (p : List Piece) → tidy (numbers_text shape g j s at p) ≡ tidy p
unfolding numbers_text
tidy_numbers shape zero j s at p = refl
tidy_numbers shape (suc g) j s at p =
    tidy_chars (joint shape j) _ ∙ tidy_chars (spelling (negative shape j) (byte_at s at)) _ ∙ tidy_numbers shape g (j + 1) s (at + 1) p

-- state lines
tidy_states : (x : ℕ) (s : List ℕ) (i : ℕ) (p : List Piece) → tidy (states_text x s i p) ≡ tidy p
unfolding states_text state_text label_text is_blank
tidy_states zero s i p = refl
tidy_states (suc x) s i p = tidy_chars (decimal i) _ ∙ tidy_numbers state_shape state_bytes 0 s (state_bytes * i) _ ∙ tidy_states x s (i + 1) p

-- rule lines
tidy_rules : (x byte : ℕ) (s : List ℕ) (at : ℕ) (p : List Piece) → tidy (rules_text x byte s at p) ≡ tidy p
unfolding rules_text rule_text label_text is_blank
tidy_rules zero byte s at p = refl
tidy_rules (suc x) byte s at p =
    tidy_chars (decimal (byte_at s at)) _ ∙ tidy_chars (decimal (byte_at s (at + 1))) _ ∙
    tidy_numbers (rule_shape byte) (weight_bytes byte) 0 s (at + end_bytes) _ ∙ tidy_rules x byte s (at + rule_bytes byte) p

-- a whole table
tidy_table : (byte k n m : ℕ) (s : List ℕ) → tidy (table_text byte k n m s) ≡ true
unfolding table_text head_text is_blank
tidy_table byte k n m s =
    tidy_chars (decimal byte) _ ∙ tidy_chars (decimal k) _ ∙ tidy_states n s 0 _ ∙ tidy_rules m byte s (state_bytes * n) end_text

-- the drawing of a table part is read as its counts and its records
pub drawing-read : (s : List ℕ) → Sized s → ((x : ℕ) → byte_at s x < 256) →
    (l : ℕ) × (reading (drawing_of s) ≡
    drawn (record { types = types_byte s; factor = factor_of s; states = states_of s; rules = rules_of s; last = l; body = take (length s - trailer_bytes) s }))
unfolding drawing_of
drawing-read s z all =
    let e = table-read (types_byte s) (factor_of s) (states_of s) (rules_of s) s (omega (arith, all (trailer_of s + 6))) (omega (arith, z.few_factor))
    (omega (arith, z.few_states)) all (omega (arith, z.whole)) in
    let p = table_text (types_byte s) (factor_of s) (states_of s) (rules_of s) s in
    let w : records_bytes (states_of s) (rules_of s) (types_byte s) ≡ length s - trailer_bytes = omega (arith, z.whole) in
    (e.0, rw w at (e.1 (written p) (written-spaced p (tidy_table (types_byte s) (factor_of s) (states_of s) (rules_of s) s))))
