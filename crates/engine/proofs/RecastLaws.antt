-- A bundle that was read, with other steps and a trailer that says where these stand: it is read as the bundle was, and its schedule are those steps.
use mathlib.Core.Path.{◌≡◌, refl, sym, ap, ap₂, subst, ◌∙◌}
use mathlib.Core.Bool.{false}
use mathlib.Core.List.{List, [], ◌∷◌, ◌++◌}
use Prim.Native.Nat.{ℕ, zero, suc, ◌+◌, ◌-◌, ◌*◌, ◌/◌, ◌%◌, ◌≤◌}
use native.Mathlib.Nat.{zero-add}
use native.Mathlib.Omega.{arith}
use lib.Dec.{eqb}
use lib.ListN.{length, take, drop, length-append, length-drop}
use lib.Seq.{length-take-le, get_or-drop, get_or-append-add, take_at, drop_at, take-take, take-append-le, drop-drop, take-nil}
use borrow.Author.Tests.{le-ltb, eq-eqb}
use Rattle.fault.specs.Bytes.{byte_at, u16_at, two_bytes, trailer_of, trailer_bytes, step_bytes, most_steps, most_step_bytes}
use Rattle.fault.specs.Tests.{◌over◌}
use Rattle.fault.specs.Fault.{◌if◌else◌}
use Rattle.fault.specs.Fault.{Verdict}
use Rattle.bundle.specs.Bundle.{step_distance, start_distance, n_of, t_of, f_of, form_of, correct_of, front_length, table_in_use, starts_of, steps_at, steps_of, level_of, most_form}
use Rattle.bundle.specs.Refusals.{no_trailer, out_of_bundle, not_admitted, steps_off, schedule_fault, fault_with, read_fault}
use Rattle.bundle.specs.Facts.{Trailed, Parted, Read}
use Rattle.bundle.proofs.BundleLaws.{parted, read_by}
use Rattle.table.specs.Table.{rules_of, types_of}
use Rattle.paper.specs.Paper.{Design, Step}
use Rattle.paper.specs.Form.{wide}
use Rattle.schedule.specs.Records.{steps_in, bytes_of}
use Rattle.schedule.proofs.RecordLaws.{steps-bytes, length-bytes}
use Rattle.words.specs.declared.Sizes.{Sizes}
use Rattle.rules.specs.Kept.{Kept}
use Rattle.rules.specs.Design.{design_of}
use Rattle.engine.specs.Design.{sizes_in, design_in}
use Rattle.engine.specs.Entry.{schedule_of}
use Rattle.engine.specs.Open.{Ready}

-- a part of a beginning
drop-take : (n m : ℕ) (xs : List ℕ) → drop n (take (n + m) xs) ≡ take m (drop n xs)
drop-take zero m xs = ap (λ (j : ℕ). take j xs) (zero-add m)
drop-take (suc n) m [] = let e : suc n + m ≡ suc (n + m) = omega arith in rw e (sym (take-nil m))
drop-take (suc n) m (x ∷ xs) = let e : suc n + m ≡ suc (n + m) = omega arith in rw e (drop-take n m xs)

-- x is the bundle b with the steps ss and the form k
pub record Recast (b : List ℕ) (ss : List Step) (k : ℕ) (x : List ℕ) : Type 0 where
  pub trailer : List ℕ
  pub parts : x ≡ take (steps_at b) b ++ (bytes_of ss ++ trailer)
  pub whole : length trailer ≡ trailer_bytes
  pub steps : u16_at trailer 0 ≡ length ss * step_bytes
  pub starts : u16_at trailer 2 ≡ length ss * step_bytes + correct_of b
  pub n : byte_at trailer 4 ≡ n_of b
  pub t : byte_at trailer 5 ≡ t_of b
  pub f : byte_at trailer 6 ≡ f_of b
  pub form : byte_at trailer 7 ≡ k
  pub few : length ss ≤ most_steps

module _ (t b : List ℕ) (R : Read t b) where
  abbrev front : List ℕ
  front = take (steps_at b) b

  pub front_long : length front ≡ steps_at b
  front_long = length-take-le (steps_at b) b (omega (arith, R.parted.steps_last, R.trailed.long))

  -- the distances of the steps before the rest of the bundle's own trailer make one, in the same form
  unfoldable pub with-steps : (ss : List Step) (p q : ℕ) → length ss ≤ most_steps → p ≡ length ss * step_bytes → q ≡ length ss * step_bytes + correct_of b
      → Recast b ss (form_of b) (front ++ (bytes_of ss ++ two_bytes p (two_bytes q (drop (trailer_of b + 4) b))))
  with-steps ss p q l e f =
      let two : (x : ℕ) → x % 256 + 256 * (x / 256) ≡ x = λ x. omega arith in
      let at : (i j : ℕ) → 4 + i ≡ j → byte_at (drop (trailer_of b + 4) b) i ≡ byte_at b (trailer_of b + j) = λ i j g. get_or-drop (trailer_of b + 4) b i 0 ∙ ap (byte_at b) (omega (arith, g)) in
      record {
        trailer = two_bytes p (two_bytes q (drop (trailer_of b + 4) b));
        parts = refl;
        whole = omega (arith, length-drop (trailer_of b + 4) b, R.trailed.long);
        steps = two p ∙ e;
        starts = two q ∙ f;
        n = at 0 4 (omega arith);
        t = at 1 5 (omega arith);
        f = at 2 6 (omega arith);
        form = at 3 7 (omega arith);
        few = l;
      }

  module _ {ss : List Step} {k : ℕ} {x : List ℕ} (X : Recast b ss k x) where
    pub recast_long : length x ≡ steps_at b + length ss * step_bytes + trailer_bytes
    recast_long =
        ap length X.parts ∙ length-append front (bytes_of ss ++ X.trailer)
        ∙ omega (arith, front_long, length-append (bytes_of ss) X.trailer, length-bytes ss, X.whole)

    pub take_front : (n : ℕ) → n ≤ steps_at b → take n x ≡ take n b
    take_front n l = ap (take n) X.parts ∙ take-append-le n front _ (rw front_long l) ∙ take-take n (steps_at b) b l

    pub drop_front : drop (steps_at b) x ≡ bytes_of ss ++ X.trailer
    drop_front = ap (drop (steps_at b)) X.parts ∙ drop_at front _ (steps_at b) front_long

    pub trailer_at : (i : ℕ) → byte_at x (trailer_of x + i) ≡ byte_at X.trailer i
    trailer_at i =
        let e : trailer_of x + i ≡ length front + (length (bytes_of ss) + i) = omega (arith, recast_long, front_long, length-bytes ss) in
        ap₂ (λ (y : List ℕ) (j : ℕ). byte_at y j) X.parts e ∙ get_or-append-add front _ (length (bytes_of ss) + i) 0 ∙ get_or-append-add (bytes_of ss) _ i 0

    pub drop_trailer : drop (trailer_of x) x ≡ X.trailer
    drop_trailer =
        let e : trailer_of x ≡ steps_at b + length (bytes_of ss) = omega (arith, recast_long, length-bytes ss) in
        ap (λ (i : ℕ). drop i x) e ∙ sym (drop-drop (length (bytes_of ss)) (steps_at b) x) ∙ ap (drop (length (bytes_of ss))) drop_front ∙ drop_at (bytes_of ss) _ _ refl

    -- ---- its numbers
    u16_at_lem : (i : ℕ) → u16_at x (trailer_of x + i) ≡ u16_at X.trailer i
    u16_at_lem i =
        let e : trailer_of x + i + 1 ≡ trailer_of x + (i + 1) = omega arith in
        ap₂ (λ (y z : ℕ). y + 256 * z) (trailer_at i) (ap (byte_at x) e ∙ trailer_at (i + 1))

    pub new_distance : step_distance x ≡ length ss * step_bytes
    new_distance = u16_at_lem 0 ∙ X.steps

    pub new_starts : start_distance x ≡ length ss * step_bytes + correct_of b
    new_starts = u16_at_lem 2 ∙ X.starts

    pub same_n : n_of x ≡ n_of b
    same_n = trailer_at 4 ∙ X.n

    pub same_t : t_of x ≡ t_of b
    same_t = trailer_at 5 ∙ X.t

    pub same_f : f_of x ≡ f_of b
    same_f = trailer_at 6 ∙ X.f

    pub new_form : form_of x ≡ k
    new_form = trailer_at 7 ∙ X.form

    pub same_correct : correct_of x ≡ correct_of b
    same_correct = ap₂ (λ (y z : ℕ). y - z) same_n same_f

    pub same_front : front_length x ≡ front_length b
    unfolding front_length
    same_front = ap₂ (λ (y z : ℕ). y - (z + 8)) recast_long new_starts ∙ omega (arith, R.parted.starts_first, R.parted.steps_last, R.trailed.inside)

    pub same_steps_at : steps_at x ≡ steps_at b
    same_steps_at = ap₂ (λ (i j : ℕ). i + j) same_front same_correct

    -- ---- its parts: the table and the starts of the bundle, and the steps
    pub same_table : (st : List ℕ) → table_in_use x st ≡ table_in_use b st
    unfolding table_in_use
    same_table st = rw same_front (ap (λ (y : List ℕ). st if eqb (front_length b) 0 else y) (take_front (front_length b) (omega arith)))

    pub same_start_bytes : starts_of x ≡ starts_of b
    unfolding starts_of
    same_start_bytes = rw (same_correct, same_front) (sym (cut x) ∙ ap (drop (front_length b)) (take_front (steps_at b) (omega arith)) ∙ cut b)
      where
        cut : (y : List ℕ) → drop (front_length b) (take (steps_at b) y) ≡ take (correct_of b) (drop (front_length b) y)
        cut y = drop-take (front_length b) (correct_of b) y

    pub new_steps : schedule_of x ≡ ss
    unfolding steps_of
    new_steps =
        ap steps_in (ap₂ (λ (n : ℕ) (y : List ℕ). take n y) (new_distance ∙ sym (length-bytes ss)) (ap (λ (i : ℕ). drop i x) same_steps_at ∙ drop_front) ∙ take_at (bytes_of ss) _ _ refl)
        ∙ steps-bytes ss

    -- ---- so it is read as the bundle was
    no_ten : (y : List ℕ) → trailer_bytes ≤ length y → no_trailer y ≡ false
    unfolding no_trailer
    no_ten y l = le-ltb (length y) trailer_bytes l

    no_eleven : (y : List ℕ) → start_distance y + trailer_bytes ≤ length y → out_of_bundle y ≡ false
    unfolding out_of_bundle
    no_eleven y l = le-ltb (length y) (start_distance y + trailer_bytes) l

    no_thirteen : (y : List ℕ) → step_distance y % step_bytes ≡ 0 → step_distance y ≤ most_step_bytes → start_distance y ≡ step_distance y + correct_of y → steps_off y ≡ false
    unfolding steps_off
    no_thirteen y a l e = rw (eq-eqb _ 0 a, le-ltb most_step_bytes (step_distance y) l, eq-eqb _ _ e)

    inside : start_distance x + trailer_bytes ≤ length x
    inside = omega (arith, new_starts, recast_long)

    no_eleven_here : out_of_bundle x ≡ false
    no_eleven_here = no_eleven x inside

    no_thirteen_here : steps_off x ≡ false
    no_thirteen_here =
        let m : step_distance x % step_bytes ≡ 0 = ap (λ (n : ℕ). n % step_bytes) new_distance ∙ omega arith in
        no_thirteen x m (omega (arith, new_distance, X.few)) (omega (arith, new_starts, new_distance, same_correct))

    pub recast_trailed : Trailed x
    recast_trailed = record { long = omega (arith, recast_long); inside = inside }

    pub recast_parted : Parted x
    recast_parted = parted x recast_trailed refl no_thirteen_here

    pub same_reading : (st : List ℕ) → k ≤ most_form → t ≡ table_in_use b st → read_fault x st ≡ read_fault b st
    unfolding fault_with schedule_fault not_admitted
    same_reading st l e =
        let f : (form_of x over most_form) ≡ (form_of b over most_form) = le-ltb most_form (form_of x) (rw new_form l) ∙ sym (le-ltb most_form (form_of b) R.admitted.form) in
        let a : no_trailer x ≡ no_trailer b = no_ten x (omega (arith, recast_long)) ∙ sym (no_ten b R.trailed.long) in
        let c : out_of_bundle x ≡ out_of_bundle b = no_eleven_here ∙ sym (no_eleven b R.trailed.inside) in
        let d : steps_off x ≡ steps_off b = no_thirteen_here ∙ sym (no_thirteen b R.parted.whole_steps R.parted.few_steps R.parted.starts_first) in
        ap (λ (y : List ℕ). fault_with y x) (same_table st) ∙ rw (a, c, d, f, same_n, same_t, same_f, same_start_bytes)

-- ---- beside a standing table, where the form is the same: its numbers and its design are the bundle's, and what was made ready for the one is ready for the other
module _ {b : List ℕ} (standing : List ℕ) (R : Read (table_in_use b standing) b) {ss : List Step} {x : List ℕ} (X : Recast b ss (form_of b) x) where
  abbrev table : List ℕ
  table = table_in_use b standing

  pub recast_read : read_fault x standing ≡ read_fault b standing
  recast_read = same_reading table b R X standing R.admitted.form refl

  pub recast_sizes : sizes_in b standing ≡ sizes_in x standing
  recast_sizes =
      let e = sym (same_table table b R X standing) in
      let k = sym (new_form table b R X) in
      let c = sym (same_correct table b R X) in
      let f = sym (same_f table b R X) in
      let t = sym (same_t table b R X) in
      λ i. record { level = level_of (k i); correct = c i; faulty = f i; types = types_of (e i); rules = rules_of (e i); wide = wide (level_of (k i)); row = types_of (e i) * wide (level_of (k i)); tolerated = t i }

  pub recast_design : design_in b standing ≡ design_in x standing
  recast_design =
      let t = sym (same_t table b R X) in
      let e = sym (same_table table b R X standing) in
      λ i. design_of (recast_sizes i) (t i) (e i)

  pub recast_ready : {s : Sizes} {ends leasts : List ℕ} → Ready b standing s ends leasts → (read_fault b standing).number ≡ 0 → Ready x standing s ends leasts
  recast_ready {s} {ends} {leasts} D z = record {
    read = read_by x standing refl (ap (λ (v : Verdict). v.number) recast_read ∙ z) refl;
    sizes = D.sizes ∙ recast_sizes;
    bounded = D.bounded;
    kept = subst (λ (d : Design). Kept d s ends leasts) recast_design D.kept;
  }
