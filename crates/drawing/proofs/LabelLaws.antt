-- The numbers of a label, one after the other.
use mathlib.Core.Path.{◌≡◌, refl, sym, ap, ◌∙◌}
use mathlib.Core.Bool.{Bool, true, false}
use mathlib.Core.List.{List, [], ◌∷◌, ◌++◌, append_assoc, append-nil}
use Prim.Native.Nat.{ℕ, zero, suc, ◌+◌, ◌-◌, ◌%◌, ◌≤◌, ◌<◌}
use native.Mathlib.Omega.{arith}
use lib.Dec.{eqb}
use lib.ListN.{length, length-append}
use borrow.Author.Tests.{eq-eqb, ne_eqb}
use Rattle.fault.specs.Fault.{◌if◌else◌}
use Rattle.fault.specs.Tests.{◌below◌}
use Rattle.ink.specs.Ink.{stored}
use Rattle.ink.proofs.InkLaws.{stored_more, stored-length}
use Rattle.decimal.specs.Numbers.{text}
use Rattle.dot.specs.declared.Shape.{Shape}
use Rattle.dot.specs.Text.{joint_at, joint, negative}
use Rattle.dot.specs.Plan.{Slot, cell_of, Item, num, plan, bytes, numbers}
use Rattle.dot.specs.Reading.{can_minus, Gathered, put, ended}
use Rattle.drawing.specs.declared.Cursor.{Cursor}
use Rattle.drawing.specs.Cursor.{reached, more, label_then, Followed, Counted, Numbered, Labelled}

-- ---- what stands before a number
pub joint-none : {t : List ℕ} {c : Cursor} (j i : ℕ) → c.place ≤ length t → j ≡ 0 → Followed t c (joint_at j i) c
unfolding joint_at ◌if◌else◌
joint-none j i l h = rw h (record { within = l; free = λ z. z; onward = omega arith; on = λ k r. refl })

pub joint_group : {t : List ℕ} {c d : Cursor} (j i : ℕ) → (j ≡ 0 → ⊥) → i ≡ 0 → Followed t c (text ", ") d → Followed t c (joint_at j i) d
unfolding joint_at ◌if◌else◌
joint_group j i n h f = rw (ne_eqb j 0 n, eq-eqb i 0 h) f

pub joint-other : {t : List ℕ} {c d : Cursor} (j i : ℕ) → (j ≡ 0 → ⊥) → (i ≡ 0 → ⊥) → Followed t c (text " ") d → Followed t c (joint_at j i) d
unfolding joint_at ◌if◌else◌
joint-other j i n h f = rw (ne_eqb j 0 n, ne_eqb i 0 h) f

plan-joint : (j i : ℕ) (k : List Item) → plan (joint_at j i) k ≡ bytes (joint_at j i) k
unfolding joint_at ◌if◌else◌
plan-joint j i k = split (eqb j 0) (eqb i 0)
  where
    split : (a b : Bool) → plan ([] if a else text ", " if b else text " ") k ≡ bytes ([] if a else text ", " if b else text " ") k
    split true b = refl
    split false true = refl
    split false false = refl

-- ---- one number
cell-signed : (signed : Bool) → can_minus (cell_of signed) ≡ signed
unfolding can_minus
cell-signed true = refl
cell-signed false = refl

put-more : (signed : Bool) (v : ℕ) (r : Gathered) → put (cell_of signed) v r ≡ more (v ∷ []) r
unfolding put
put-more true v r = refl
put-more false v r = refl

pub numbered : {t : List ℕ} {c a d : Cursor} {j i : ℕ} {signed : Bool} → Followed t c (joint_at j i) a → Counted t a signed d → Numbered t c j i signed d
numbered {t} {c} {a} {d} {j} {i} {signed} f n =
    record {
      within = n.within;
      free = λ z. f.free (n.free z);
      onward = omega (arith, f.onward, n.onward);
      further = λ z. let o = n.further z in omega (arith, f.onward, o);
      small = n.small;
      on = λ k r e.
          ap (λ (p : List Item). reached t c p r) (sym (plan-joint j i (num (cell_of signed) ∷ k))) ∙ f.on (num (cell_of signed) ∷ k) r ∙
          n.on (cell_of signed) k r (cell-signed signed) e ∙ ap (reached t d k) (put-more signed d.value r);
    }

-- ---- all numbers
bytes-going : (w : List ℕ) (s : Slot) (k : List Item) → ended (bytes w (num s ∷ k)) ≡ false
unfolding ended
bytes-going [] s k = refl
bytes-going (b ∷ w) s k = refl

numbers-going : (shape : Shape) (g j : ℕ) (k : List Item) → ended k ≡ false → ended (numbers shape g j k) ≡ false
numbers-going shape zero j k e = e
numbers-going shape (suc g) j k e = bytes-going (joint shape j) _ (numbers shape g (j + 1) k)

more-more : (v w : List ℕ) (r : Gathered) → more w (more v r) ≡ more (v ++ w) r
more-more v w r = ap (λ (b : List ℕ). record { types = r.types; factor = r.factor; states = r.states; rules = r.rules; last = r.last; body = b }) (append_assoc r.body v w)

more-none : (r : Gathered) → r ≡ more [] r
more-none r = ap (λ (b : List ℕ). record { types = r.types; factor = r.factor; states = r.states; rules = r.rules; last = r.last; body = b }) (sym (append-nil r.body))

-- the first j numbers are read
pub record Numbering (t : List ℕ) (c : Cursor) (g : ℕ) (shape : Shape) (n : ℕ) (out : List ℕ) (j : ℕ) (d : Cursor) (left : List ℕ) : Type 0 where
  pub within : d.place ≤ length t
  pub free : d.stuck ≡ false → c.stuck ≡ false
  pub onward : c.place ≤ d.place
  pub further : d.stuck ≡ false → c.place + j ≤ d.place
  pub few : j ≤ g
  pub values : List ℕ
  pub count : length values ≡ j
  pub bytes_put : left ≡ stored out n values
  pub on : (k : List Item) (r : Gathered) → ended k ≡ false →
      reached t c (numbers shape g 0 k) r ≡ reached t d (numbers shape (g - j) j k) (more values r)

pub numbers-begin : {t : List ℕ} {c : Cursor} (g : ℕ) (shape : Shape) (n : ℕ) (out : List ℕ) → c.place ≤ length t → Numbering t c g shape n out 0 c out
unfolding stored
numbers-begin {t} {c} g shape n out l =
    record {
      within = l;
      free = λ z. z;
      onward = omega arith;
      further = λ z. omega arith;
      few = omega arith;
      values = [];
      count = refl;
      bytes_put = refl;
      on = λ k r e. let z : g - 0 ≡ g = omega arith in rw z (ap (reached t c (numbers shape g 0 k)) (more-none r));
    }

pub numbers_go_on : {t : List ℕ} {c d e : Cursor} {g n j i m : ℕ} {shape : Shape} {out mid left : List ℕ} → Numbering t c g shape n out j d mid → j < g →
    i ≡ j % shape.group → Numbered t d j i (i below shape.signed) e → m ≡ n + j → left ≡ stored mid m (e.value ∷ []) → Numbering t c g shape n out (j + 1) e left
numbers_go_on {t} {c} {d} {e} {g} {n} {j} {i} {m} {shape} {out} {mid} {left} p h ei q em f =
    record {
      within = q.within;
      free = λ z. p.free (q.free z);
      onward = omega (arith, p.onward, q.onward);
      further = λ z. let o = q.further z in let u = p.further (q.free z) in omega (arith, o, u);
      few = omega arith;
      values = p.values ++ (e.value ∷ []);
      count = length-append p.values (e.value ∷ []) ∙ omega (arith, p.count);
      bytes_put = f ∙ rw p.bytes_put (stored_more out n m p.values (e.value ∷ []) (omega (arith, em, p.count)));
      on = λ k r z.
          p.on k r z ∙ left_over k r ∙ here.on (numbers shape (g - (j + 1)) (j + 1) k) (more p.values r) (numbers-going shape (g - (j + 1)) (j + 1) k z) ∙
          ap (reached t e (numbers shape (g - (j + 1)) (j + 1) k)) (more-more p.values (e.value ∷ []) r);
    }
  where
    here : Numbered t d j (j % shape.group) (negative shape j) e
    here = rw ei at q

    left_over : (k : List Item) (r : Gathered) → reached t d (numbers shape (g - j) j k) (more p.values r) ≡
        reached t d (bytes (joint shape j) (num (cell_of (negative shape j)) ∷ numbers shape (g - (j + 1)) (j + 1) k)) (more p.values r)
    left_over k r = let z : g - j ≡ suc (g - (j + 1)) = omega arith in rw z

pub numbers-end : {t : List ℕ} {c d : Cursor} {g n j : ℕ} {shape : Shape} {out left : List ℕ} → Numbering t c g shape n out j d left → g ≤ j →
    Labelled t c g (numbers shape g 0) d n out left
numbers-end {t} {c} {d} {g} {n} {j} {shape} {out} {left} p h =
    record {
      within = p.within;
      free = p.free;
      onward = p.onward;
      further = λ z. let o = p.further z in omega (arith, o);
      values = p.values;
      count = omega (arith, p.count, p.few);
      bytes_put = p.bytes_put;
      on = λ k r e. p.on k r e ∙ over k r;
    }
  where
    over : (k : List Item) (r : Gathered) → reached t d (numbers shape (g - j) j k) (more p.values r) ≡ reached t d k (more p.values r)
    over k r = let z : g - j ≡ 0 = omega arith in rw z

pub numbers-length : {t : List ℕ} {c d : Cursor} {g n j : ℕ} {shape : Shape} {out left : List ℕ} → Numbering t c g shape n out j d left → length left ≡ length out
numbers-length {n = n} {out = out} p = ap length p.bytes_put ∙ stored-length out n p.values

-- ---- a whole label
pub label-read : {t : List ℕ} {c a b d : Cursor} {n : ℕ} (g : ℕ) (shape : Shape) {out left : List ℕ} → Followed t c (text "~label~=~\"") a →
    Labelled t a g (numbers shape g 0) b n out left → Followed t b (text "\"~]~;") d → Labelled t c g (label_then shape g) d n out left
unfolding ended
label-read {t} {c} {a} {b} {d} {n} g shape {out} {left} f l e =
    record {
      within = e.within;
      free = λ z. f.free (l.free (e.free z));
      onward = omega (arith, f.onward, l.onward, e.onward);
      further = λ z. let o = l.further (e.free z) in omega (arith, f.onward, o, e.onward);
      values = l.values;
      count = l.count;
      bytes_put = l.bytes_put;
      on = λ k r z.
          f.on (numbers shape g 0 (plan (text "\"~]~;") k)) r ∙ l.on (plan (text "\"~]~;") k) r refl ∙ e.on k (more l.values r);
    }
