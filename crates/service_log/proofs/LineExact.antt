-- A line is read as a step exactly when it is that step's text: words and numbers are taken one by one, and each number's text ends before the next word.
use mathlib.Core.Path.{◌≡◌, refl, sym, ap, ap₂, ◌∙◌}
use mathlib.Core.Bool.{Bool, true, false, ◌&&◌, ◌||◌, false≢true}
use mathlib.Core.List.{List, [], ◌∷◌, ◌++◌, append_assoc}
use Prim.Native.Nat.{ℕ, ◌+◌, ◌-◌, ◌/◌, ◌%◌, ◌≤◌, ◌<◌}
use native.Mathlib.Omega.{arith}
use lib.Dec.{eqb, ltb}
use lib.ListN.{length, drop}
use lib.Seq.{drop-append_seam}
use Rattle.senders.proofs.TallyLaws.{and_both as both}
use borrow.Author.Tests.{eqb-true, eq-eqb, ne_eqb, ltb-true, ltb-false, lt-ltb, leb-true, le-leb}
use Rattle.fault.specs.Fault.{◌if◌else◌}
use Rattle.fault.specs.Tests.{◌at_most◌}
use Rattle.decimal.specs.Numbers.{text, decimal}
use Rattle.decimal.specs.Digits.{is_digit, peeked, longest}
use Rattle.decimal.proofs.DigitLaws.{digit-range}
use Rattle.decimal.proofs.NumberLaws.{one-digit, two_digits, three-digits, digit-first, longest_spells, NoDigit, number_reads}
use Rattle.paper.specs.Paper.{Step, alone, silent}
use Rattle.service_log.specs.Line.{most_said, sayable, message_of, line_of, first_line, Right}
use Rattle.service_log.specs.Said.{Said, nothing, said, begins, counted, numbered, ends, ended, hearing, said_by}
use Rattle.service_log.proofs.LinesLaws.{told-apart}

-- ---- what was said
abbrev step_of : Step → Said → Step
step_of d nothing = d
step_of d (said s t) = s

abbrev rest_of : Said → List ℕ
rest_of nothing = []
rest_of (said s t) = t

same_step : {s s' : Step} {t t' : List ℕ} → said s t ≡ said s' t' → s ≡ s'
same_step {s} e = ap (step_of s) e

same_rest : {s s' : Step} {t t' : List ℕ} → said s t ≡ said s' t' → t ≡ t'
same_rest e = ap rest_of e

-- the case of a test that comes to a step is the one where the test says yes
if_said : {x : Said} {s : Step} {t : List ℕ} (b : Bool) → (x if b else nothing) ≡ said s t → (b ≡ true) × (x ≡ said s t)
unfolding ◌if◌else◌
if_said true e = (refl, e)
if_said false e = absurd (told-apart e)

-- ---- words
begins-made : (w t : List ℕ) → begins w (w ++ t) ≡ true
unfolding begins
begins-made [] t = refl
begins-made (b ∷ w) t = rw (eq-eqb b b refl, begins-made w t)

begins-is : (w t : List ℕ) → begins w t ≡ true → t ≡ w ++ drop (length w) t
unfolding begins
begins-is [] t h = refl
begins-is (b ∷ w) [] h = absurd (false≢true h)
begins-is (b ∷ w) (c ∷ t) h = let p = both (eqb c b) (begins w t) h in ap₂ (λ (x : ℕ) (y : List ℕ). x ∷ y) (eqb-true c b p.0) (begins-is w t p.1)

peek-first : (c : ℕ) (t : List ℕ) → peeked (c ∷ t) 0 ≡ c
unfolding peeked ◌if◌else◌
peek-first c t = let o : 0 < length (c ∷ t) = omega arith in rw (lt-ltb 0 (length (c ∷ t)) o)

peek-none : peeked [] 0 ≡ 256
unfolding peeked ◌if◌else◌
peek-none = refl

-- ---- numbers
counted-made : (k : ℕ → List ℕ → Said) (v : ℕ) (t : List ℕ) → v ≤ most_said → NoDigit t → counted k (decimal v ++ t) ≡ k v t
unfolding counted ◌if◌else◌
counted-made k v t l h =
    let R = number_reads most_said t h v l (omega arith) in
    ap (λ (x : List ℕ). counted k (x ++ t)) R.text ∙ rw (peek-first R.first (R.others ++ t), R.digit, R.reads)

-- the word w, a number and what stands after it; and from there on the step s is said
pub record Took (w : List ℕ) (k : ℕ → List ℕ → Said) (t : List ℕ) (s : Step) (t' : List ℕ) : Type 0 where
  pub value : ℕ
  pub after : List ℕ
  pub text : t ≡ w ++ (decimal value ++ after)
  pub small : value ≤ most_said
  pub goes : k value after ≡ said s t'

-- a number at the beginning of u
record Number (k : ℕ → List ℕ → Said) (u : List ℕ) (s : Step) (t' : List ℕ) : Type 0 where
  pub value : ℕ
  pub after : List ℕ
  pub text : u ≡ decimal value ++ after
  pub small : value ≤ most_said
  pub goes : k value after ≡ said s t'

counted_is : (k : ℕ → List ℕ → Said) (u : List ℕ) (s : Step) (t' : List ℕ) → counted k u ≡ said s t' → Number k u s t'
unfolding counted is_digit
counted_is k [] s t' e = absurd (false≢true (sym (ap is_digit peek-none) ∙ (if_said (is_digit (peeked [] 0)) e).0))
counted_is k (c ∷ u) s t' e =
    let p = if_said (is_digit (peeked (c ∷ u) 0)) e in
    let d = digit-range c (sym (ap is_digit (peek-first c u)) ∙ p.0) in
    let S = longest_spells most_said (c - 48) u (omega arith) in
    record {
      value = (longest most_said (c - 48) u).size;
      after = (longest most_said (c - 48) u).after;
      text = ap (λ (x : List ℕ). x ++ u) (sym (digit-first c d)) ∙ S.text;
      small = S.within (omega (arith, d.to));
      goes = ap (λ (x : ℕ). k (longest most_said (x - 48) u).size (longest most_said (x - 48) u).after) (sym (peek-first c u)) ∙ p.1;
    }

numbered-made : (w : List ℕ) (k : ℕ → List ℕ → Said) (v : ℕ) (t : List ℕ) → v ≤ most_said → NoDigit t → numbered w k (w ++ (decimal v ++ t)) ≡ k v t
unfolding numbered ◌if◌else◌
numbered-made w k v t l h = rw (begins-made w (decimal v ++ t), drop-append_seam w (decimal v ++ t)) (counted-made k v t l h)

numbered_is : (w : List ℕ) (k : ℕ → List ℕ → Said) (t : List ℕ) (s : Step) (t' : List ℕ) → numbered w k t ≡ said s t' → Took w k t s t'
unfolding numbered
numbered_is w k t s t' e =
    let p = if_said (begins w t) e in
    let N = counted_is k (drop (length w) t) s t' p.1 in
    record { value = N.value; after = N.after; text = begins-is w t p.0 ∙ ap (λ (x : List ℕ). w ++ x) N.text; small = N.small; goes = N.goes }

-- ---- the line feed
ends_is : (t : List ℕ) → ends t ≡ true → t ≡ 10 ∷ drop 1 t
unfolding ends
ends_is [] h = absurd (false≢true (sym (ap (λ (x : ℕ). eqb x 10) peek-none) ∙ h))
ends_is (c ∷ t) h = ap (λ (x : ℕ). x ∷ t) (sym (peek-first c t) ∙ eqb-true (peeked (c ∷ t) 0) 10 h)

ends-made : (t : List ℕ) → ends (10 ∷ t) ≡ true
unfolding ends
ends-made t = rw (peek-first 10 t)

ends-other : (c : ℕ) (t : List ℕ) → (c ≡ 10 → ⊥) → ends (c ∷ t) ≡ false
unfolding ends
ends-other c t n = rw (peek-first c t, ne_eqb c 10 n)

-- ---- the text of a line before t
pub line-append : (s : Step) (t : List ℕ) → line_of s ++ t ≡ text "board " ++ (decimal s.board ++ (text " rule " ++ (decimal s.rule ++ (message_of s ++ (10 ∷ t)))))
unfolding line_of
line-append s t =
    ap (λ (x : List ℕ). text "board " ++ x) (append_assoc (decimal s.board) _ t ∙
    ap (λ (x : List ℕ). decimal s.board ++ (text " rule " ++ x)) (append_assoc (decimal s.rule) _ t ∙
    ap (λ (x : List ℕ). decimal s.rule ++ x) (append_assoc (message_of s) (text "\n") t)))

no_message_lem : (s : Step) → silent s ≡ true → message_of s ≡ []
unfolding message_of ◌if◌else◌
no_message_lem s h = rw h

some-message : (s : Step) (t : List ℕ) → silent s ≡ false → message_of s ++ (10 ∷ t) ≡ text " type " ++ (decimal s.type ++ (text " from " ++ (decimal s.source ++ (10 ∷ t))))
unfolding message_of ◌if◌else◌
some-message s t h =
    rw h
    (ap (λ (x : List ℕ). text " type " ++ x) (append_assoc (decimal s.type) _ (10 ∷ t) ∙
    ap (λ (x : List ℕ). decimal s.type ++ (text " from " ++ x)) refl))

-- ---- what a line can say
record Can (s : Step) : Type 0 where
  pub board : s.board ≤ most_said
  pub rule : s.rule ≤ most_said
  pub message : (silent s || s.type at_most most_said && s.source at_most most_said) ≡ true

can_say : (s : Step) → sayable s ≡ true → Can s
unfolding sayable
can_say s h =
    let p = both (s.board at_most most_said && s.rule at_most most_said) _ h in
    let q = both (s.board at_most most_said) _ p.0 in
    record { board = leb-true s.board most_said q.0; rule = leb-true s.rule most_said q.1; message = p.1 }

say_silent : (p r : ℕ) → p ≤ most_said → r ≤ most_said → sayable (alone p r) ≡ true
unfolding sayable
say_silent p r a b = rw (le-leb p most_said a, le-leb r most_said b)

not-silent : (s : Step) → s.type ≤ most_said → silent s ≡ false
not-silent s l = let o : s.type ≡ 255 → ⊥ = λ z. omega (arith, z) in rw (ne_eqb s.type 255 o)

say_heard : (s : Step) → s.board ≤ most_said → s.rule ≤ most_said → s.type ≤ most_said → s.source ≤ most_said → sayable s ≡ true
unfolding sayable
say_heard s a b c d = rw (le-leb s.board most_said a, le-leb s.rule most_said b, not-silent s c, le-leb s.type most_said c, le-leb s.source most_said d)

-- ---- a line that is read is right
record Is (t t' : List ℕ) (s : Step) : Type 0 where
  pub can : sayable s ≡ true
  pub text : t ≡ line_of s ++ t'

-- what follows board p and rule r
record Rest (p r : ℕ) (u t' : List ℕ) (s : Step) : Type 0 where
  pub can : sayable s ≡ true
  pub board : s.board ≡ p
  pub rule : s.rule ≡ r
  pub text : u ≡ message_of s ++ (10 ∷ t')

heard-is : (p r : ℕ) (u t' : List ℕ) (s : Step) → p ≤ most_said → r ≤ most_said
    → numbered (text " type ") (λ m. numbered (text " from ") (λ q. ended record { board = p; rule = r; type = m; source = q })) u ≡ said s t' → Rest p r u t' s
unfolding ended
heard-is p r u t' s a b e =
    let M = numbered_is (text " type ") _ u s t' e in
    let Q = numbered_is (text " from ") _ M.after s t' M.goes in
    let x : Step = record { board = p; rule = r; type = M.value; source = Q.value } in
    let E = if_said (ends Q.after) Q.goes in
    let i : x ≡ s = same_step E.1 in
    let f : Q.after ≡ 10 ∷ t' = ends_is Q.after E.0 ∙ ap (λ (y : List ℕ). 10 ∷ y) (same_rest E.1) in
    rw (← i)
    (record {
      can = say_heard x a b M.small Q.small;
      board = refl;
      rule = refl;
      text = M.text ∙ ap (λ (y : List ℕ). text " type " ++ (decimal M.value ++ y)) (Q.text ∙ ap (λ (y : List ℕ). text " from " ++ (decimal Q.value ++ y)) f)
          ∙ sym (some-message x t' (not-silent x M.small));
    })

rest-is : (p r : ℕ) (u t' : List ℕ) (s : Step) → p ≤ most_said → r ≤ most_said → hearing p r u ≡ said s t' → Rest p r u t' s
unfolding hearing ◌if◌else◌
rest-is p r u t' s a b e = split (ends u) refl
  where
    split : (z : Bool) → ends u ≡ z → Rest p r u t' s
    split true h =
        let g : said (alone p r) (drop 1 u) ≡ said s t' = sym (rw h) ∙ e in
        let i : alone p r ≡ s = same_step g in
        rw (← i)
        (record {
          can = say_silent p r a b;
          board = refl;
          rule = refl;
          text = ends_is u h ∙ ap (λ (y : List ℕ). 10 ∷ y) (same_rest g) ∙ sym (ap (λ (y : List ℕ). y ++ (10 ∷ t')) (no_message_lem (alone p r) refl));
        })
    split false h = heard-is p r u t' s a b (sym (rw h) ∙ e)

pub line_right : (t t' : List ℕ) (s : Step) → said_by t ≡ said s t' → (sayable s ≡ true) × (t ≡ line_of s ++ t')
unfolding said_by
line_right t t' s e =
    let P = numbered_is (text "board ") _ t s t' e in
    let R = numbered_is (text " rule ") _ P.after s t' P.goes in
    let H = rest-is P.value R.value R.after t' s P.small R.small R.goes in (
      H.can,
      P.text ∙ ap (λ (y : List ℕ). text "board " ++ (decimal P.value ++ y)) (R.text ∙ ap (λ (y : List ℕ). text " rule " ++ (decimal R.value ++ y)) H.text)
          ∙ ap₂ (λ (x y : ℕ). text "board " ++ (decimal x ++ (text " rule " ++ (decimal y ++ (message_of s ++ (10 ∷ t')))))) (sym H.board) (sym H.rule)
          ∙ sym (line-append s t'),
    )

-- ---- a right line is read
no_digit-message : (s : Step) (t : List ℕ) → NoDigit (message_of s ++ (10 ∷ t))
unfolding message_of ◌if◌else◌ is_digit
no_digit-message s t = split (silent s) refl
  where
    split : (b : Bool) → silent s ≡ b → NoDigit (message_of s ++ (10 ∷ t))
    split true h = rw h
    split false h = rw h

silent-is : (s : Step) → silent s ≡ true → alone s.board s.rule ≡ s
silent-is s h =
    let p = both (eqb s.type 255) (eqb s.source 255) h in
    ap₂ (λ (x y : ℕ). record { board = s.board; rule = s.rule; type = x; source = y }) (sym (eqb-true s.type 255 p.0)) (sym (eqb-true s.source 255 p.1))

hearing-made : (s : Step) (t : List ℕ) → Can s → hearing s.board s.rule (message_of s ++ (10 ∷ t)) ≡ said s t
unfolding hearing ended is_digit ◌if◌else◌
hearing-made s t C = split (silent s) refl
  where
    split : (b : Bool) → silent s ≡ b → hearing s.board s.rule (message_of s ++ (10 ∷ t)) ≡ said s t
    split true h = rw (no_message_lem s h, ends-made t) (ap (λ (x : Step). said x t) (silent-is s h))
    split false h =
        let q = both (s.type at_most most_said) (s.source at_most most_said) (rw h at C.message) in
        let m = leb-true s.type most_said q.0 in
        let n = leb-true s.source most_said q.1 in
        rw (some-message s t h, ends-other 32 (116 ∷ 121 ∷ 112 ∷ 101 ∷ 32 ∷ (decimal s.type ++ (text " from " ++ (decimal s.source ++ (10 ∷ t))))) (λ z. omega (arith, z)))
        (numbered-made (text " type ") _ s.type (text " from " ++ (decimal s.source ++ (10 ∷ t))) m refl
        ∙ numbered-made (text " from ") _ s.source (10 ∷ t) n refl ∙ rw (ends-made t))

pub right_line : (t : List ℕ) (s : Step) → sayable s ≡ true → said_by (line_of s ++ t) ≡ said s t
unfolding said_by is_digit
right_line t s h =
    let C = can_say s h in
    rw (line-append s t)
    (numbered-made (text "board ") _ s.board _ C.board refl
    ∙ numbered-made (text " rule ") _ s.rule _ C.rule (no_digit-message s t)
    ∙ hearing-made s t C)

-- ---- the first line of a text
first_rest : (t : List ℕ) → (u : List ℕ) × (t ≡ first_line t ++ u)
unfolding first_line ◌if◌else◌
first_rest [] = ([], refl)
first_rest (c ∷ t) = split (eqb c 10) refl (first_rest t)
  where
    split : (b : Bool) → eqb c 10 ≡ b → ((u : List ℕ) × (t ≡ first_line t ++ u)) → (u : List ℕ) × (c ∷ t ≡ first_line (c ∷ t) ++ u)
    split true h R = (t, rw h)
    split false h R = (R.0, rw h (ap (λ (x : List ℕ). c ∷ x) R.1))

first_byte : (c : ℕ) (t : List ℕ) → (c ≡ 10 → ⊥) → first_line (c ∷ t) ≡ c ∷ first_line t
unfolding first_line ◌if◌else◌
first_byte c t n = rw (ne_eqb c 10 n)

first_decimal : (v : ℕ) (t : List ℕ) → first_line (decimal v ++ t) ≡ decimal v ++ first_line t
first_decimal v t = split (ltb v 10) (ltb v 100) refl refl
  where
    n : (x : ℕ) → 48 + x ≡ 10 → ⊥
    n x z = omega (arith, z)

    split : (a b : Bool) → ltb v 10 ≡ a → ltb v 100 ≡ b → first_line (decimal v ++ t) ≡ decimal v ++ first_line t
    split true b h g = rw (one-digit v (ltb-true v 10 h)) (first_byte (48 + v) t (n v))
    split false true h g =
        rw (two_digits v (ltb-false v 10 h) (ltb-true v 100 g))
        (first_byte (48 + v / 10) _ (n (v / 10)) ∙ ap (λ (x : List ℕ). (48 + v / 10) ∷ x) (first_byte (48 + v % 10) t (n (v % 10))))
    split false false h g =
        rw (three-digits v (ltb-false v 100 g))
        (first_byte (48 + v / 100) _ (n (v / 100)) ∙ ap (λ (x : List ℕ). (48 + v / 100) ∷ x) (first_byte (48 + v / 10 % 10) _ (n (v / 10 % 10)) ∙
        ap (λ (x : List ℕ). (48 + v / 10 % 10) ∷ x) (first_byte (48 + v % 10) t (n (v % 10)))))

first-message : (s : Step) (t : List ℕ) → first_line (message_of s ++ (10 ∷ t)) ≡ message_of s ++ (10 ∷ [])
unfolding first_line ◌if◌else◌
first-message s t = split (silent s) refl
  where
    split : (b : Bool) → silent s ≡ b → first_line (message_of s ++ (10 ∷ t)) ≡ message_of s ++ (10 ∷ [])
    split true h = rw (no_message_lem s h)
    split false h =
        rw (some-message s t h, some-message s [] h)
        (ap (λ (x : List ℕ). text " type " ++ x) (first_decimal s.type _ ∙ ap (λ (x : List ℕ). decimal s.type ++ (text " from " ++ x)) (first_decimal s.source (10 ∷ t))))

-- that of a line's text is the line
pub first_of : (s : Step) (t : List ℕ) → first_line (line_of s ++ t) ≡ line_of s
unfolding first_line line_of ◌if◌else◌
first_of s t =
    ap first_line (line-append s t) ∙ ap (λ (x : List ℕ). text "board " ++ x) (first_decimal s.board _ ∙
    ap (λ (x : List ℕ). decimal s.board ++ (text " rule " ++ x)) (first_decimal s.rule _ ∙ ap (λ (x : List ℕ). decimal s.rule ++ x) (first-message s t)))

-- where no line is read, the first line is not right; and where one is, it is
pub no_line : (t : List ℕ) → said_by t ≡ nothing → Right (first_line t) → ⊥
no_line t e R =
    let F = first_rest t in
    told-apart (sym e ∙ ap said_by (F.1 ∙ ap (λ (x : List ℕ). x ++ F.0) R.is) ∙ right_line F.0 R.step R.can)

pub first_line_lem : (t t' : List ℕ) (s : Step) → said_by t ≡ said s t' → first_line t ≡ line_of s
first_line_lem t t' s e = ap first_line (line_right t t' s e).1 ∙ first_of s t'

pub is_right : (t t' : List ℕ) (s : Step) → said_by t ≡ said s t' → Right (first_line t)
is_right t t' s e = record { step = s; can = (line_right t t' s e).0; is = first_line_lem t t' s e }
