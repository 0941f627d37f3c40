-- Drawings, from what their texts are read as.
use mathlib.Core.Path.{◌≡◌, refl, sym, ap, ◌∙◌, subst, subst⁻¹}
use mathlib.Core.Bool.{true, false}
use mathlib.Core.List.{List, ◌∷◌, ◌++◌, append_assoc}
use Prim.Native.Nat.{ℕ, zero, suc, ◌+◌, ◌-◌, ◌≤◌, ◌<◌}
use native.Mathlib.Omega.{arith}
use native.Mathlib.Decide.{dec_lt}
use lib.ListN.{length, take, drop, length-append, take-append-drop}
use lib.Seq.{take-take, take-append-add, take-append-le}
use borrow.Author.Tests.{eq-eqb, ne_eqb, le-leb, lt-leb}
use Rattle.fault.specs.Fault.{Verdict}
use Rattle.fault.specs.declared.Answer.{Answer}
use Rattle.fault.specs.Bytes.{trailer_of}
use Rattle.fault.specs.Tests.{◌below◌, ◌differs◌}
use Rattle.fault.specs.Fault.{refused, nothing_done, ◌if◌else◌}
use Rattle.fault.proofs.FaultLaws.{if_keeps}
use Rattle.layout.specs.Layout.{types_in}
use Rattle.table.specs.Table.{states_of, rules_of, types_byte, factor_of, records_bytes}
use Rattle.table.specs.Refusals.{counts_outside, table_fault}
use Rattle.dot.specs.Text.{drawing_of}
use Rattle.dot.specs.Reading.{Gathered, Outcome, drawn, fault, reading}
use Rattle.dot.specs.Drawing.{Tokens, Drawing, Begins, Exact}
use Rattle.dot.specs.Blanks.{moved}
use Rattle.dot.proofs.Place.{read-draws}
use Rattle.dot.proofs.Written.{table-read, drawing-read}
use Rattle.dot.proofs.Tokens.{draws-tokens, tokens-read}
use Rattle.dot.proofs.TokenPlace.{exact-place}
use Rattle.dot.proofs.Blanks.{blank_inserted}
use Rattle.dot.proofs.Gaps.{gap_between, tokens-gap}
use Rattle.ink.specs.Ink.{given, left, Gives}
use Rattle.ink.proofs.GivenLaws.{gives, refuses, keeps, given-kept}
use Rattle.drawing.specs.Entry.{table_of, drawn_fault, drawn_table, draw_answer, draw_bytes, undraw_answer, undraw_bytes}
use Rattle.claims.specs.Drawings.{Table, ThereAndBack, NoDrawing, table_in, Answered, SameAnswer, one_later, Inserted, Drawings}
use Rattle.trailer.specs.Trailer.{trailer_for}
use Rattle.trailer.proofs.TrailerLaws.{Distances, distances, own-table, sized-counts, made_records}
use Rattle.claims.proofs.DrawnTable.{Later, later_0, later_2, later_above, records_later}

-- an answer's number is that of v, 61 or 0
given-later : (v : Verdict) (w : List ℕ) → Later v.number → (lent : ℕ) → Later (given 61 v w lent).refusal
unfolding given
given-later v w h lent =
    if_keeps (λ (a : Answer). Later a.refusal) (nothing_done v) (v.number differs 0) _ (λ _. h)
    (λ _. if_keeps (λ (a : Answer). Later a.refusal) (nothing_done (refused 61)) (lent below length w) _ (λ _. later_above 61 (omega arith) (λ z. omega arith)) (λ _. later_0))

-- ---- a text by what it is read as
module _ (t : List ℕ) (o : Outcome) (e : reading t ≡ o) where
  answers : (lent : ℕ) → undraw_answer t lent ≡ given 61 (drawn_fault o) (drawn_table o) lent
  unfolding undraw_answer
  answers lent = rw e

  leaves : (out : List ℕ) → undraw_bytes t out ≡ left (drawn_fault o) (drawn_table o) out
  unfolding undraw_bytes
  leaves out = rw e

  undraw-refuses : ((drawn_fault o).number ≡ 0 → ⊥) → (lent : ℕ) → undraw_answer t lent ≡ nothing_done (drawn_fault o)
  undraw-refuses n lent = answers lent ∙ refuses 61 (drawn_fault o) (drawn_table o) n lent

  undraw-keeps : ((drawn_fault o).number ≡ 0 → ⊥) → (out : List ℕ) → undraw_bytes t out ≡ out
  undraw-keeps n out = leaves out ∙ keeps 61 (drawn_fault o) (drawn_table o) n out

  undraw_gives : (drawn_fault o).number ≡ 0 → Gives 61 (undraw_answer t) (undraw_bytes t) (drawn_table o)
  undraw_gives z =
      let g = gives 61 (drawn_fault o) (drawn_table o) z in
      record {
        answered = λ lent h. answers lent ∙ g.answered lent h;
        written = λ out h. leaves out ∙ g.written out h;
        short = λ lent h. answers lent ∙ g.short lent h;
        kept = λ out h. leaves out ∙ g.kept out h;
      }

-- ---- what was read
module _ (r : Gathered) where
  read_strange : counts_outside r.states r.rules (types_in r.types) r.factor ≡ true → drawn_fault (drawn r) ≡ refused 2
  unfolding drawn_fault ◌if◌else◌
  read_strange h = rw h

  read-fine : counts_outside r.states r.rules (types_in r.types) r.factor ≡ false → drawn_fault (drawn r) ≡ table_fault (table_of r)
  unfolding drawn_fault ◌if◌else◌
  read-fine h = rw h

  strange_refused : counts_outside r.states r.rules (types_in r.types) r.factor ≡ true → (drawn_fault (drawn r)).number ≡ 0 → ⊥
  strange_refused h z = let q = sym (ap (λ (v : Verdict). v.number) (read_strange h)) ∙ z in omega (arith, q)

  fine-number : counts_outside r.states r.rules (types_in r.types) r.factor ≡ false → (drawn_fault (drawn r)).number ≡ (table_fault (table_of r)).number
  fine-number h = ap (λ (v : Verdict). v.number) (read-fine h)

  read-later : length r.body ≡ records_bytes r.states r.rules r.types → Later (drawn_fault (drawn r)).number
  unfolding drawn_fault table_of
  read-later l =
      if_keeps (λ (v : Verdict). Later v.number) (refused 2) (counts_outside r.states r.rules (types_in r.types) r.factor) (table_fault (table_of r)) (λ _. later_2)
      (λ h. rw (made_records r.body r.states r.rules r.types r.factor l h) (records_later (table_of r)))

-- a text read as the table s, whose counts are a table's
gives_back : (t s : List ℕ) (r : Gathered) → reading t ≡ drawn r → counts_outside r.states r.rules (types_in r.types) r.factor ≡ false → table_of r ≡ s → (table_fault s).number ≡ 0 →
    Gives 61 (undraw_answer t) (undraw_bytes t) s
unfolding drawn_table
gives_back t s r e h f z =
    rw f at (undraw_gives t (drawn r) e (fine-number r h ∙ ap (λ (w : List ℕ). (table_fault w).number) f ∙ z))

read-drawing : (t : List ℕ) (r : Gathered) → reading t ≡ drawn r → Drawing t
read-drawing t r e =
    record { types = r.types; factor = r.factor; states = r.states; rules = r.rules; body = r.body; tokens = draws-tokens t r (read-draws t r e) }

-- ---- there and back
module _ (s : List ℕ) (a : Table s) where
  far : Distances s
  far = distances s a.clean

  own-drawing : (l : ℕ) × (reading (drawing_of s) ≡ drawn (record { types = types_byte s; factor = factor_of s; states = states_of s; rules = rules_of s; last = l; body = take (length s - 8) s }))
  own-drawing = drawing-read s far.sizes a.all_bytes

  back_from : (t : List ℕ) (l x : ℕ) → x ≡ length s - 8 →
      reading t ≡ drawn (record { types = types_byte s; factor = factor_of s; states = states_of s; rules = rules_of s; last = l; body = take x s }) →
      Gives 61 (undraw_answer t) (undraw_bytes t) s
  unfolding table_of
  back_from t l x w e =
      gives_back t s _ e (sized-counts s far.sizes)
      (ap (λ (y : ℕ). take y s ++ trailer_for (states_of s) (rules_of s) (types_byte s) (factor_of s)) w ∙ own-table s far a.all_bytes) a.clean

  both_ways : ThereAndBack s
  unfolding draw_answer draw_bytes
  both_ways =
      let z = far.sizes in
      let o = table-read (types_byte s) (factor_of s) (states_of s) (rules_of s) s (omega (arith, a.all_bytes (trailer_of s + 6))) (omega (arith, z.few_factor)) (omega (arith, z.few_states))
      a.all_bytes (omega (arith, z.whole)) in
      record {
        drawn = gives 61 (table_fault s) (drawing_of s) a.clean;
        drawing = read-drawing (drawing_of s) _ own-drawing.1;
        back = back_from (drawing_of s) own-drawing.0 (length s - 8) refl own-drawing.1;
        spaced = λ t x. back_from t o.0 (records_bytes (states_of s) (rules_of s) (types_byte s)) (omega (arith, z.whole)) (o.1 t x);
      }

-- ---- no drawing
module _ (t : List ℕ) (p : ℕ) (e : reading t ≡ fault p) where
  says_60 : (lent : ℕ) → undraw_answer t lent ≡ record { refusal = 60; place = p; count = 0 }
  unfolding drawn_fault
  says_60 = undraw-refuses t (fault p) e (λ z. omega arith)

  keeps_60 : (out : List ℕ) → undraw_bytes t out ≡ out
  unfolding drawn_fault
  keeps_60 = undraw-keeps t (fault p) e (λ z. omega arith)

none-drawn : (t : List ℕ) → (Drawing t → ⊥) → NoDrawing t
none-drawn t n = go (reading t) refl
  where
    go : (o : Outcome) → reading t ≡ o → NoDrawing t
    go (drawn r) e = absurd (n (read-drawing t r e))
    go (fault p) e = record { place = p; exact = exact-place t p e; answered = says_60 t p e; kept = keeps_60 t p e }

-- ---- a drawing
answered_as : (t : List ℕ) (d : Drawing t) → Answered t d
unfolding table_of
answered_as t d =
    let e = tokens-read t d.types d.factor d.states d.rules d.body d.tokens in
    let r : Gathered = record { types = d.types; factor = d.factor; states = d.states; rules = d.rules; last = e.0; body = d.body } in
    let l = given-later (drawn_fault (drawn r)) (drawn_table (drawn r)) (read-later r d.tokens.whole) in
    let y : (lent : ℕ) → Later (undraw_answer t lent).refusal = λ lent. rw (answers t (drawn r) e.1 lent) (l lent) in
    record {
      counts = λ h lent. undraw-refuses t (drawn r) e.1 (strange_refused r h) lent ∙ ap nothing_done (read_strange r h);
      off = λ h n lent. undraw-refuses t (drawn r) e.1 (λ z. n (sym (fine-number r h) ∙ z)) lent ∙ ap nothing_done (read-fine r h);
      table = λ h z. gives_back t (table_in d) r e.1 h refl z;
      never_1 = λ lent. (y lent).not_1;
      never_3 = λ lent. (y lent).not_3;
      never_60 = λ lent. (y lent).not_60;
    }

-- ---- blanks
same-answers : (t u : List ℕ) (byte k n m : ℕ) (s : List ℕ) → Tokens t byte k n m s → Tokens u byte k n m s → SameAnswer t u
unfolding drawn_fault drawn_table table_of
same-answers t u byte k n m s a b =
    let e = tokens-read t byte k n m s a in
    let f = tokens-read u byte k n m s b in
    record {
      answer = λ lent. answers t _ e.1 lent ∙ sym (answers u _ f.1 lent);
      bytes = λ out. leaves t _ e.1 out ∙ sym (leaves u _ f.1 out);
    }

-- a fault at or after the byte put in, and one before it
moved-after : (n f : ℕ) → n ≤ f → moved n (fault f) ≡ fault (suc f)
moved-after zero f h = refl
moved-after (suc n) zero h = absurd (omega arith)
moved-after (suc n) (suc f) h = rw (moved-after n f (omega arith))

moved_before : (n f : ℕ) → f < n → moved n (fault f) ≡ fault f
moved_before zero f h = absurd (omega arith)
moved_before (suc n) zero h = refl
moved_before (suc n) (suc f) h = rw (moved_before n f (omega arith))

-- the answers' side of it
stays : (n : ℕ) (a : Answer) → (a.refusal ≡ 60 → ⊥) → one_later n a ≡ a
unfolding one_later ◌if◌else◌
stays n a h = rw (ne_eqb a.refusal 60 h)

grows : (n : ℕ) (a : Answer) → a.refusal ≡ 60 → n ≤ a.place → one_later n a ≡ record { refusal = 60; place = a.place + 1; count = 0 }
unfolding one_later ◌if◌else◌
grows n a h l = rw (eq-eqb a.refusal 60 h, le-leb n a.place l)

stays_before : (n : ℕ) (a : Answer) → a.refusal ≡ 60 → a.place < n → one_later n a ≡ a
unfolding one_later ◌if◌else◌
stays_before n a h l = rw (eq-eqb a.refusal 60 h, lt-leb n a.place l)

abbrev sixty : ℕ → Answer
sixty x = record { refusal = 60; place = x; count = 0 }

same_number : {x y : ℕ} → (x < y → ⊥) → (y < x → ⊥) → x ≡ y
same_number h g = omega arith

suc-is : (x : ℕ) → suc x ≡ x + 1
suc-is x = omega arith

module _ (p q : List ℕ) (c : ℕ) (moves : reading (p ++ (c ∷ q)) ≡ moved (length p) (reading (p ++ q))) where
  -- read as a table, both
  put-drawn : (r : Gathered) → reading (p ++ q) ≡ drawn r → Inserted p q c
  put-drawn r e =
      let f : reading (p ++ (c ∷ q)) ≡ drawn r = moves ∙ ap (moved (length p)) e in
      record {
        answer = λ lent.
            answers (p ++ (c ∷ q)) (drawn r) f lent ∙ sym (answers (p ++ q) (drawn r) e lent) ∙
            sym (stays (length p) (undraw_answer (p ++ q) lent) ((answered_as (p ++ q) (read-drawing (p ++ q) r e)).never_60 lent));
        bytes = λ out. leaves (p ++ (c ∷ q)) (drawn r) f out ∙ sym (leaves (p ++ q) (drawn r) e out);
      }

  -- or with a fault
  put_before : (x : ℕ) → reading (p ++ q) ≡ fault x → x < length p → Inserted p q c
  put_before x e l =
      let f : reading (p ++ (c ∷ q)) ≡ fault x = moves ∙ ap (moved (length p)) e ∙ moved_before (length p) x l in
      record {
        answer = λ lent. says_60 _ x f lent ∙ sym (ap (one_later (length p)) (says_60 _ x e lent) ∙ stays_before (length p) _ refl l);
        bytes = λ out. keeps_60 _ x f out ∙ sym (keeps_60 _ x e out);
      }

  put_after : (x : ℕ) → reading (p ++ q) ≡ fault x → length p ≤ x → Inserted p q c
  put_after x e l =
      let f : reading (p ++ (c ∷ q)) ≡ fault (suc x) = moves ∙ ap (moved (length p)) e ∙ moved-after (length p) x l in
      record {
        answer = λ lent. says_60 _ (suc x) f lent ∙ ap sixty (suc-is x) ∙ sym (ap (one_later (length p)) (says_60 _ x e lent) ∙ grows (length p) _ refl l);
        bytes = λ out. keeps_60 _ (suc x) f out ∙ sym (keeps_60 _ x e out);
      }

  put_in : Inserted p q c
  put_in = go (reading (p ++ q)) refl
    where
      go : (o : Outcome) → reading (p ++ q) ≡ o → Inserted p q c
      go (drawn r) e = put-drawn r e
      go (fault x) e = elim (dec_lt x (length p)) [ yes l ↦ put_before x e l | no n ↦ put_after x e (omega arith) ]

-- ---- one place
-- what begins a drawing begins with what begins one
begins-shorter : (p : List ℕ) (i j : ℕ) → i ≤ j → Begins (take j p) → Begins (take i p)
begins-shorter p i j h b =
    let w = drop i (take j p) in
    let e : take i p ++ w ≡ take j p = ap (λ (v : List ℕ). v ++ w) (sym (take-take i j p h)) ∙ take-append-drop i (take j p) in
    (w ++ b.0, subst Drawing (ap (λ (v : List ℕ). v ++ b.0) (sym e) ∙ append_assoc (take i p) w b.0) b.1)

not_sooner : (t : List ℕ) (p q : ℕ) → Exact t p → Exact t q → p < q → ⊥
not_sooner t p q x y h = x.no_further (omega (arith, y.within)) (begins-shorter t (suc p) q h y.goes_on)

only_place : (t : List ℕ) (p q : ℕ) → Exact t p → Exact t q → p ≡ q
only_place t p q x y = same_number (not_sooner t p q x y) (not_sooner t q p y x)

-- ---- after a fault
module _ (p : List ℕ) (n : Begins p → ⊥) where
  record Before (q : List ℕ) : Type 0 where
    place : ℕ
    faulty : reading (p ++ q) ≡ fault place
    inside : place < length p

  -- with whatever after it, p has its fault
  before : (q : List ℕ) → Before q
  before q = go (reading (p ++ q)) refl
    where
      too_far : (f : ℕ) → Exact (p ++ q) f → (f < length p → ⊥) → ⊥
      too_far f x y =
          let b = x.goes_on in
          let m : f ≡ length p + (f - length p) = omega arith in
          let e : take f (p ++ q) ≡ p ++ take (f - length p) q = ap (λ (i : ℕ). take i (p ++ q)) m ∙ take-append-add p q (f - length p) in
          n (take (f - length p) q ++ b.0, subst Drawing (ap (λ (v : List ℕ). v ++ b.0) e ∙ append_assoc p (take (f - length p) q) b.0) b.1)

      go : (o : Outcome) → reading (p ++ q) ≡ o → Before q
      go (drawn r) e = absurd (n (q, read-drawing (p ++ q) r e))
      go (fault f) e =
          elim (dec_lt f (length p)) [
            | yes l ↦ record { place = f; faulty = e; inside = l }
            | no y ↦ absurd (too_far f (exact-place (p ++ q) f e) y)
          ]

  -- and not before another
  not_before : (q u : List ℕ) (a : Before q) (b : Before u) → a.place < b.place → ⊥
  not_before q u a b h =
      let x = exact-place (p ++ q) a.place a.faulty in
      let y = exact-place (p ++ u) b.place b.faulty in
      let l : a.place < length (p ++ q) = omega (arith, a.inside, length-append p q) in
      let t : take b.place (p ++ u) ≡ take b.place p = take-append-le b.place p u (omega (arith, b.inside)) in
      let s : take (suc a.place) (p ++ q) ≡ take (suc a.place) p = take-append-le (suc a.place) p q a.inside in
      x.no_further l (subst⁻¹ Begins s (begins-shorter p (suc a.place) b.place h (subst Begins t y.goes_on)))

  alike_after : (q u : List ℕ) → SameAnswer (p ++ q) (p ++ u)
  alike_after q u =
      let a = before q in
      let b = before u in
      let e : a.place ≡ b.place = same_number (not_before q u a b) (not_before u q b a) in
      record {
        answer = λ lent. says_60 (p ++ q) a.place a.faulty lent ∙ ap sixty e ∙ sym (says_60 (p ++ u) b.place b.faulty lent);
        bytes = λ out. keeps_60 (p ++ q) a.place a.faulty out ∙ sym (keeps_60 (p ++ u) b.place b.faulty out);
      }

-- ---- all of it
pub drawings : Drawings
unfolding draw_answer draw_bytes undraw_answer undraw_bytes
drawings = record {
  there_and_back = both_ways;
  no_drawing = none-drawn;
  one_place = only_place;
  drawing = answered_as;
  same_tokens = same-answers;
  blank = λ p q c h g m. put_in p q c (blank_inserted p q c h (gap_between p q g m));
  gaps = tokens-gap;
  blank_by_plan = λ p q c h b. put_in p q c (blank_inserted p q c h b);
  after_fault = λ p q u n. alike_after p n q u;
  draw_refused = λ s. refuses 61 (table_fault s) (drawing_of s);
  draw_kept = λ s out. given-kept 61 (table_fault s) (drawing_of s) out;
  undraw_kept = λ t out. given-kept 61 (drawn_fault (reading t)) (drawn_table (reading t)) out;
}
