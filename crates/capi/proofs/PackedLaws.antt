-- Every answer fits its bits, and is read back from them.
use mathlib.Core.Path.{◌≡◌, refl, sym, ap, ◌∙◌, subst⁻¹}
use mathlib.Core.List.{List}
use Prim.Native.Nat.{ℕ, ◌+◌, ◌-◌, ◌*◌, ◌/◌, ◌%◌, ◌^◌, ◌≤◌, ◌<◌}
use native.Mathlib.Omega.{arith}
use lib.ListN.{length}
use borrow.Author.Tests.{ne_eqb, ltb-true, lt-ltb}
use Rattle.fault.specs.Tests.{◌below◌}
use Rattle.fault.specs.Fault.{◌if◌else◌}
use Rattle.fault.proofs.FaultLaws.{if_keeps}
use Rattle.fault.specs.declared.Answer.{Answer}
use Rattle.bundle.specs.Bundle.{most_bundle}
use Rattle.engine.specs.Entry.{run_answer}
use Rattle.engine.proofs.BoundLaws.{AnswerWithin, run-answer-within}
use Rattle.translate.specs.Entry.{translate_to_answer}
use Rattle.translate.proofs.BoundLaws.{translate-answer-within}
use Rattle.drawing.specs.Entry.{draw_answer, undraw_answer}
use Rattle.drawing.proofs.BoundLaws.{draw-within, undraw-within}
use Rattle.ink.proofs.GivenLaws.{GivenWithin}
use Rattle.editions.specs.Entry.{to_second_answer, to_first_answer}
use Rattle.editions.proofs.BoundLaws.{second-within, first-within}
use Rattle.first_step.specs.declared.First.{First}
use Rattle.first_step.specs.Entry.{first_answer}
use Rattle.first_step.proofs.BoundLaws.{FirstWithin, first-answer-within}
use Rattle.replay.specs.Entry.{replay_answer}
use Rattle.replay.proofs.BoundLaws.{replay-within}
use Rattle.counted.specs.declared.Counted.{Counted}
use Rattle.counted.specs.Entry.{counted_answer}
use Rattle.counted.proofs.Bounds.{receipts-within, sends-within}
use Rattle.search.specs.declared.Searched.{Searched}
use Rattle.search.specs.Entry.{search_answer}
use Rattle.search.proofs.Bounds.{search-within}
use Rattle.lists.specs.Entry.{list_answer}
use Rattle.lists.proofs.Bounds.{list_within}
use Rattle.capi.specs.Packed.{packed, capped, outcome_answer, answer_in, Fits, packed_first, first_in, FirstFits, NothingLost, receipts_answer, receipts_in, sends_in}

-- ---- read back
answer_back : (a : Answer) → Fits a → answer_in (packed a) ≡ a
answer_back a h =
    let x : ℕ = packed a in
    let k : x % 2 ^ 8 ≡ a.refusal = omega (arith, h.refusal) in
    let u : x / 2 ^ 8 ≡ a.place + 2 ^ 24 * a.count = omega (arith, h.refusal) in
    let p : x / 2 ^ 8 % 2 ^ 24 ≡ a.place = rw u (omega (arith, h.place)) in
    let c : x / 2 ^ 32 ≡ a.count = omega (arith, h.refusal, h.place) in
    rw (k, p, c)

first_back : (f : First) → FirstFits f → first_in (packed_first f) ≡ f
unfolding first_in ◌if◌else◌
first_back (First.Refused k p) h =
    let x : ℕ = k + 2 ^ 8 * p in
    let s : x / 2 ^ 24 ≡ 0 = omega arith in
    let e : x % 2 ^ 8 ≡ k = omega arith in
    let u : x / 2 ^ 8 ≡ p = omega arith in
    let g : x / 2 ^ 8 % 2 ^ 16 ≡ p = rw u (omega arith) in
    rw (s, e, g, ne_eqb k 0 (omega arith))
first_back First.Nothing h = refl
first_back (First.Step b r m q) h =
    let x : ℕ = 2 ^ 24 + 2 ^ 32 * (b + 2 ^ 8 * r + 2 ^ 16 * m + 2 ^ 24 * q) in
    let t : x / 2 ^ 24 ≡ 1 + 2 ^ 8 * (b + 2 ^ 8 * r + 2 ^ 16 * m + 2 ^ 24 * q) = omega arith in
    let s : x / 2 ^ 24 % 2 ≡ 1 = rw t (omega arith) in
    let u : x / 2 ^ 32 ≡ b + 2 ^ 8 * (r + 2 ^ 8 * m + 2 ^ 16 * q) = omega arith in
    let e : x / 2 ^ 32 % 2 ^ 8 ≡ b = rw u (omega arith) in
    let v : x / 2 ^ 40 ≡ r + 2 ^ 8 * (m + 2 ^ 8 * q) = omega arith in
    let f : x / 2 ^ 40 % 2 ^ 8 ≡ r = rw v (omega arith) in
    let w : x / 2 ^ 48 ≡ m + 2 ^ 8 * q = omega arith in
    let g : x / 2 ^ 48 % 2 ^ 8 ≡ m = rw w (omega arith) in
    let i : x / 2 ^ 56 ≡ q = omega arith in
    rw (s, e, f, g, i)

-- ---- every answer fits
within-fits : (n : ℕ) (a : Answer) → n < 2 ^ 32 → AnswerWithin n a → Fits a
within-fits n a l W = record { refusal = omega arith; place = omega arith; count = omega arith }

run_fits : (b standing : List ℕ) (lent : ℕ) → Fits (run_answer b standing lent)
run_fits b standing lent = within-fits 4096 _ (omega arith) (run-answer-within b standing lent)

translate_fits : (b standing : List ℕ) (k lent : ℕ) → Fits (translate_to_answer b standing k lent)
translate_fits b standing k lent = within-fits most_bundle _ (omega arith) (translate-answer-within b standing k lent)

given-fits : {q p n : ℕ} {a : Answer} → q < 2 ^ 8 → p < 2 ^ 24 → n < 2 ^ 32 → GivenWithin q p n a → Fits a
given-fits h k l W = record { refusal = omega (arith, W.refusal); place = omega (arith, W.place); count = omega (arith, W.count) }

draw_fits : (s : List ℕ) (lent : ℕ) → Fits (draw_answer s lent)
draw_fits s lent = given-fits (omega arith) (omega arith) (omega arith) (draw-within s lent)

to_second_fits : (s : List ℕ) (lent : ℕ) → Fits (to_second_answer s lent)
to_second_fits s lent = given-fits (omega arith) (omega arith) (omega arith) (second-within s lent)

to_first_fits : (s : List ℕ) (lent : ℕ) → Fits (to_first_answer s lent)
to_first_fits s lent = given-fits (omega arith) (omega arith) (omega arith) (first-within s lent)

capped-place : (p : ℕ) → (p if p below 2 ^ 24 else 2 ^ 24 - 1) < 2 ^ 24
capped-place p = if_keeps (λ (x : ℕ). x < 2 ^ 24) p (p below 2 ^ 24) (2 ^ 24 - 1) (λ e. ltb-true p (2 ^ 24) e) (λ _. omega arith)

undraw_fits : (t : List ℕ) (lent : ℕ) → Fits (capped (undraw_answer t lent))
unfolding capped
undraw_fits t lent =
    let W = undraw-within t lent in
    record { refusal = omega (arith, W.refusal); place = capped-place (undraw_answer t lent).place; count = omega (arith, W.count) }

undraw_whole : (t : List ℕ) (lent : ℕ) → 64 + length t < 2 ^ 24 → capped (undraw_answer t lent) ≡ undraw_answer t lent
unfolding capped ◌if◌else◌
undraw_whole t lent l = let W = undraw-within t lent in rw (lt-ltb (undraw_answer t lent).place (2 ^ 24) (omega (arith, W.place)))

replay_fits : (b standing log : List ℕ) (bytes words : ℕ) → Fits (replay_answer b standing log bytes words)
replay_fits b standing log bytes words = let W = replay-within b standing log bytes words in record { refusal = omega (arith, W.refusal); place = omega (arith, W.place); count = omega (arith, W.count) }

search_fits : (b standing : List ℕ) (depth budget lent : ℕ) → Fits (outcome_answer (search_answer b standing depth budget lent))
search_fits b standing depth budget lent = let W = search-within b standing depth budget lent in record { refusal = omega (arith, W.refusal); place = omega (arith, W.place); count = omega (arith, W.outcome) }

receipts_fit : (b standing : List ℕ) (lent : ℕ) → Fits (receipts_answer (counted_answer b standing lent))
unfolding counted_answer
receipts_fit b standing lent = let F = run_fits b standing lent in record { refusal = F.refusal; place = F.place; count = omega (arith, receipts-within b standing lent, sends-within b standing lent) }

receipts_back : (b standing : List ℕ) (lent : ℕ) → (receipts_in (receipts_answer (counted_answer b standing lent)).count ≡ (counted_answer b standing lent).receipts) × (sends_in (receipts_answer (counted_answer b standing lent)).count ≡ (counted_answer b standing lent).sends)
receipts_back b standing lent = let W = receipts-within b standing lent in (omega (arith, W), omega (arith, W))

list_fits : (b standing l : List ℕ) → Fits (list_answer b standing l)
list_fits b standing l = let W = list_within b standing l in record { refusal = omega (arith, W.refusal); place = omega (arith, W.place); count = omega (arith, W.count) }

within_first : (f : First) → FirstWithin f → FirstFits f
within_first (First.Refused k p) (a, b, c) = (a, omega arith, omega arith)
within_first First.Nothing h = tt
within_first (First.Step b r m q) (x, y, z, u) = (omega arith, omega arith, z, u)

first_fits : (b standing : List ℕ) → FirstFits (first_answer b standing)
first_fits b standing = within_first (first_answer b standing) (first-answer-within b standing)

pub nothing_lost : NothingLost
nothing_lost = record { answer_back = answer_back; first_back = first_back; run_fits = run_fits; translate_fits = translate_fits; draw_fits = draw_fits; undraw_fits = undraw_fits; undraw_whole = undraw_whole; to_second_fits = to_second_fits; to_first_fits = to_first_fits; replay_fits = replay_fits; search_fits = search_fits; receipts_fit = receipts_fit; receipts_back = receipts_back; list_fits = list_fits; first_fits = first_fits }

-- ---- the code, from what it has in hand
pub packed_by : {x : ℕ} {a a' : Answer} → a ≡ a' → x ≡ packed a → x ≡ packed a'
packed_by e h = h ∙ ap packed e

pub run-fits_by : {a : Answer} (b standing : List ℕ) (lent : ℕ) → a ≡ run_answer b standing lent → Fits a
run-fits_by b standing lent e = subst⁻¹ Fits e (run_fits b standing lent)

pub translate-fits_by : {a : Answer} (b standing : List ℕ) (k lent : ℕ) → a ≡ translate_to_answer b standing k lent → Fits a
translate-fits_by b standing k lent e = subst⁻¹ Fits e (translate_fits b standing k lent)

pub replay-fits_by : {a : Answer} (b standing log : List ℕ) (bytes words : ℕ) → a ≡ replay_answer b standing log bytes words → Fits a
replay-fits_by b standing log bytes words e = subst⁻¹ Fits e (replay_fits b standing log bytes words)

pub list_fits_by : {a : Answer} (b standing l : List ℕ) → a ≡ list_answer b standing l → Fits a
list_fits_by b standing l e = subst⁻¹ Fits e (list_fits b standing l)

module _ {a : Counted} (b standing : List ℕ) (lent : ℕ) (e : a ≡ counted_answer b standing lent) where
  pub receipts-small : (a.receipts ≤ 16384) × (a.sends ≤ 256)
  receipts-small = subst⁻¹ (λ (c : Counted). (c.receipts ≤ 16384) × (c.sends ≤ 256)) e (receipts-within b standing lent, sends-within b standing lent)

  pub receipts-fit_by : {c : Answer} → c ≡ receipts_answer a → Fits c
  receipts-fit_by f = subst⁻¹ Fits (f ∙ ap receipts_answer e) (receipts_fit b standing lent)

  pub packed-receipts : {x : ℕ} {c : Answer} → c ≡ receipts_answer a → x ≡ packed c → x ≡ packed (receipts_answer (counted_answer b standing lent))
  packed-receipts f h = h ∙ ap packed (f ∙ ap receipts_answer e)

pub search-fits_by : {a : Searched} {c : Answer} (b standing : List ℕ) (depth budget lent : ℕ) → a ≡ search_answer b standing depth budget lent → c ≡ outcome_answer a → Fits c
search-fits_by b standing depth budget lent e f = subst⁻¹ Fits (f ∙ ap outcome_answer e) (search_fits b standing depth budget lent)

pub packed-outcome : {x : ℕ} {a a' : Searched} {c : Answer} → a ≡ a' → c ≡ outcome_answer a → x ≡ packed c → x ≡ packed (outcome_answer a')
packed-outcome e f h = h ∙ ap packed (f ∙ ap outcome_answer e)

pub tried_by : {a a' : Searched} → a ≡ a' → a.tried ≡ a'.tried
tried_by e = ap (λ (a : Searched). a.tried) e

pub draw-fits_by : {a : Answer} (s : List ℕ) (lent : ℕ) → a ≡ draw_answer s lent → Fits a
draw-fits_by s lent e = subst⁻¹ Fits e (draw_fits s lent)

pub to-second-fits_by : {a : Answer} (s : List ℕ) (lent : ℕ) → a ≡ to_second_answer s lent → Fits a
to-second-fits_by s lent e = subst⁻¹ Fits e (to_second_fits s lent)

pub to-first-fits_by : {a : Answer} (s : List ℕ) (lent : ℕ) → a ≡ to_first_answer s lent → Fits a
to-first-fits_by s lent e = subst⁻¹ Fits e (to_first_fits s lent)

pub undraw-fits_by : {a c : Answer} (t : List ℕ) (lent : ℕ) → a ≡ undraw_answer t lent → c ≡ capped a → Fits c
undraw-fits_by t lent e f = subst⁻¹ Fits (f ∙ ap capped e) (undraw_fits t lent)

pub packed-capped : {x : ℕ} {a a' c : Answer} → a ≡ a' → c ≡ capped a → x ≡ packed c → x ≡ packed (capped a')
packed-capped e f h = h ∙ ap packed (f ∙ ap capped e)

pub capped_by : {p : ℕ} (a : Answer) → p ≡ (a.place if a.place below 2 ^ 24 else 2 ^ 24 - 1) → record { refusal = a.refusal; place = p; count = a.count } ≡ capped a
unfolding capped
capped_by a e = rw e

pub first-fits_by : {f : First} (b standing : List ℕ) → f ≡ first_answer b standing → FirstFits f
first-fits_by b standing e = subst⁻¹ FirstFits e (first_fits b standing)

pub packed-first_by : {x : ℕ} {f f' : First} → f ≡ f' → x ≡ packed_first f → x ≡ packed_first f'
packed-first_by e h = h ∙ ap packed_first e

pub told-packed : {x : ℕ} {f f' : First} → f ≡ f' → x ≡ packed_first f' → x ≡ packed_first f
told-packed e h = packed-first_by (sym e) h

pub told-fits : {f g : First} → f ≡ g → FirstFits f → FirstFits g
told-fits e h = rw e at h
