-- The answers of the two calls in each of their cases, and the bytes that are left.
use mathlib.Core.Path.{◌≡◌, refl, sym, ap, ◌∙◌}
use mathlib.Core.Bool.{Bool, true, false}
use mathlib.Core.List.{List, [], ◌++◌}
use Prim.Native.Nat.{ℕ, ◌+◌, ◌≤◌}
use native.Mathlib.Omega.{arith}
use lib.ListN.{length, take, drop, length-append}
use lib.Seq.{take_at}
use Rattle.fault.specs.Fault.{Verdict}
use Rattle.fault.specs.declared.Answer.{Answer}
use Rattle.fault.proofs.FaultLaws.{if_yes, if_no}
use Rattle.ink.specs.Ink.{stored}
use Rattle.ink.proofs.GivenLaws.{Gave, gave_refused}
use Rattle.ink.proofs.InkLaws.{stored_more, stored-length, stored-whole, stored-nothing}
use Rattle.layout.specs.Layout.{types_in}
use Rattle.table.specs.Table.{most_records, most_table}
use Rattle.table.specs.Refusals.{counts_outside, table_fault}
use Rattle.table.specs.Facts.{Sized}
use Rattle.table.proofs.TableLaws.{well_formed, counts_by, records_short}
use Rattle.fault.specs.Bytes.{trailer_bytes}
use Rattle.trailer.specs.Trailer.{trailer_for}
use Rattle.trailer.proofs.TrailerLaws.{trailer-length}
use Rattle.dot.specs.Reading.{Gathered, Outcome, drawn, fault, reading}
use Rattle.drawing.specs.declared.Reader.{Reader}
use Rattle.drawing.specs.Entry.{table_of, drawn_fault, drawn_table, undraw_answer, undraw_bytes}
use Rattle.fault.specs.Refusals.{number_of}
use Rattle.fault.specs.declared.refusals.Refused.{Refused}
use Rattle.drawing.specs.Lines.{Known, NoneAt}

-- ---- what a text draws
pub record Undrew (t out : List ℕ) (a : Answer) (u : List ℕ) : Type 0 where
  pub answer : a ≡ undraw_answer t (length out)
  pub bytes : u ≡ undraw_bytes t out

undrew : {t out u : List ℕ} {a : Answer} (o : Outcome) → reading t ≡ o → Gave 61 (drawn_fault o) (drawn_table o) out a u → Undrew t out a u
unfolding undraw_answer undraw_bytes
undrew {t} {out} o e g = record { answer = rw e g.answer; bytes = rw e g.bytes }

pub undrew_stuck : {t out : List ℕ} {e : Refused} {k : ℕ} {a : Answer} → NoneAt e (reading t) → k ≡ number_of e.refusal → a ≡ record { refusal = k; place = e.place; count = 0 } → Undrew t out a out
unfolding drawn_fault drawn_table
undrew_stuck {t} {out} {e} {k} n h f =
    let y : k ≡ 60 = h ∙ ap number_of n.refusal in
    undrew (fault e.place) n.fails (gave_refused 61 [] out refl (λ z. absurd (let y : ◌≡◌ {A = ℕ} 60 0 = z in omega arith)) (rw y at f))

-- the counts of what was read are the reader's
same-counts : {t out : List ℕ} {g : Reader} {o : Gathered → Outcome} (k : Known t g out o) → counts_outside g.states g.rules (types_in g.types) g.factor ≡ counts_outside k.read.states k.read.rules (types_in k.read.types) k.read.factor
same-counts k = rw (k.states_are, k.rules_are, k.types_are, k.factor_is)

pub undrew_outside : {t out tab : List ℕ} {g : Reader} {a : Answer} {b : Bool} → Known t g tab drawn → b ≡ counts_outside g.states g.rules (types_in g.types) g.factor → b ≡ true →
    a ≡ record { refusal = 2; place = 0; count = 0 } → Undrew t out a out
unfolding drawn_fault drawn_table
undrew_outside {t} {out} {tab} {g} {a} {b} k eb y f =
    undrew (drawn k.read) k.goes
    (gave_refused 61 (table_of k.read) out (if_yes _ refl (eb ∙ same-counts k) y) (λ z. absurd (let y : ◌≡◌ {A = ℕ} 2 0 = z in omega arith)) f)

-- ---- its bytes
-- the records that a reader has made are few bytes
pub few_records : {t tab : List ℕ} {g : Reader} {b : Bool} → Known t g tab drawn → b ≡ counts_outside g.states g.rules (types_in g.types) g.factor → b ≡ false → g.made ≤ most_records
few_records {g = g} k e h =
    let c = counts_by g.states g.rules (types_in g.types) g.factor e h in
    omega (arith, k.sum, records_short g.states g.rules g.types c.few_states c.few_rules c.few_types)

-- the records and the trailer stand in their room
pub table_stands : {t tab tab' : List ℕ} {g : Reader} {b : Bool} (k : Known t g tab drawn) → length tab ≡ most_table → b ≡ counts_outside g.states g.rules (types_in g.types) g.factor → b ≡ false →
    tab' ≡ stored tab g.made (trailer_for g.states g.rules g.types g.factor) → take (g.made + trailer_bytes) tab' ≡ table_of k.read
unfolding table_of
table_stands {t} {tab} {tab'} {g} {b} k l eb h e =
    let x = few_records k eb h in
    ap (take (g.made + trailer_bytes)) kept ∙ ap (take (g.made + trailer_bytes)) (stored-whole k.first whole (omega (arith, long, first-long, x))) ∙
    take_at whole (drop (length whole) k.first) (g.made + trailer_bytes) long ∙ same
  where
    whole : List ℕ
    whole = k.read.body ++ trailer_for g.states g.rules g.types g.factor

    long : length whole ≡ g.made + trailer_bytes
    long = length-append k.read.body (trailer_for g.states g.rules g.types g.factor) ∙ omega (arith, k.made_is, trailer-length g.states g.rules g.types g.factor)

    first-long : length k.first ≡ most_table
    first-long = sym (ap length k.kept ∙ stored-length k.first 0 k.read.body) ∙ l

    kept : tab' ≡ stored k.first 0 whole
    kept = e ∙ ap (λ (w : List ℕ). stored w g.made (trailer_for g.states g.rules g.types g.factor)) k.kept ∙
        stored_more k.first 0 g.made k.read.body (trailer_for g.states g.rules g.types g.factor) (omega (arith, k.made_is))

    same : whole ≡ k.read.body ++ trailer_for k.read.states k.read.rules k.read.types k.read.factor
    same = rw (k.states_are, k.rules_are, k.types_are, k.factor_is)

-- where the table ends in it
pub table-room : {t tab tab' : List ℕ} {g : Reader} {b : Bool} {l : ℕ} → Known t g tab drawn → length tab ≡ l → l ≡ most_table → b ≡ counts_outside g.states g.rules (types_in g.types) g.factor → b ≡ false →
    tab' ≡ stored tab g.made (trailer_for g.states g.rules g.types g.factor) → g.made + trailer_bytes ≤ length tab'
table-room {t} {tab} {tab'} {g} k e z eb h f =
    let x = few_records k eb h in
    let l = ap length f ∙ stored-length tab g.made (trailer_for g.states g.rules g.types g.factor) in
    omega (arith, l, e, z, x)

pub undrew_table : {t out tab tab' u : List ℕ} {g : Reader} {a : Answer} {b : Bool} {n : ℕ} → Known t g tab drawn → length tab ≡ most_table →
    b ≡ counts_outside g.states g.rules (types_in g.types) g.factor → b ≡ false →
    tab' ≡ stored tab g.made (trailer_for g.states g.rules g.types g.factor) → n ≡ g.made + trailer_bytes →
    Gave 61 (table_fault (take n tab')) (take n tab') out a u → Undrew t out a u
unfolding drawn_fault drawn_table
undrew_table {t} {out} {tab} {tab'} {u} {g} {a} {b} {n} k l eb h e en f =
    let z : take n tab' ≡ table_of k.read = ap (λ (x : ℕ). take x tab') en ∙ table_stands k l eb h e in
    let c : Gave 61 (table_fault (table_of k.read)) (table_of k.read) out a u = rw z at f in
    let y : table_fault (table_of k.read) ≡ drawn_fault (drawn k.read) = if_no _ (eb ∙ same-counts k) h refl in
    undrew (drawn k.read) k.goes (rw (← y) c)

pub sized-table : {v : Verdict} (s : List ℕ) → v ≡ table_fault s → v.number ≡ 0 → Sized s
sized-table s e z = (well_formed s (ap (λ (v : Verdict). v.number) (sym e) ∙ z)).sized

-- what is put into no bytes leaves the bytes after them
pub measured : (u w out : List ℕ) → u ≡ stored [] 0 w → u ++ out ≡ out
measured u w out e = ap (λ (l : List ℕ). l ++ out) (e ∙ stored-nothing 0 w)

abbrev pub writes : ℕ → Answer
writes n = record { refusal = 0; place = 0; count = n }
