-- A step at the neighbouring level, told by the numbers that the code has in hand.
use mathlib.Core.Path.{◌≡◌, refl, sym, ap, ap₂, ◌∙◌, subst, subst⁻¹}
use mathlib.Core.Bool.{Bool, true, false, not, ◌&&◌, and-false, true≢false}
use mathlib.Core.List.{List}
use Prim.Native.Nat.{ℕ, zero, suc, ◌+◌, ◌*◌, ◌≤◌, ◌<◌}
use native.Mathlib.Omega.{arith}
use native.Mathlib.Decide.{dec_lt}
use lib.Dec.{eqb, ltb, leb}
use lib.ListN.{get_or, set}
use lib.Seq.{set-get_or}
use borrow.Author.Tests.{lt-ltb, le-ltb, le-leb, lt-leb, eq-eqb, ne_eqb, eqb-true}
use Rattle.senders.specs.Tally.{least}
use Rattle.senders.specs.Set.{mem, missing}
use Rattle.senders.proofs.TallyLaws.{and_both, least-same, least-le, least-found}
use Rattle.fault.specs.Fault.{◌if◌else◌}
use Rattle.paper.specs.Paper.{Design, Step, passing, silent, column, is_stop}
use Rattle.paper.specs.Words.{cell_at, sent_at, cell, sent, hear, stop}
use Rattle.paper.specs.Form.{wide, slot, bump, coll, shown}
use Rattle.paper.specs.Step.{heard, malformed, step_fault, stepped}
use Rattle.paper.proofs.Cases.{yes_no}
use Rattle.paper.proofs.StepLaws.{kind_if, named_of, heard_silent, heard_message, Accepts, takes, stops, accepts_by_lem, stepped-take}
use Rattle.agree.specs.Translation.{source_in, tag_of, with_source, tag_by, low_sender, lowest}
use Rattle.agree.proofs.Columns.{tag-correct, tag-faulty, tag_only, transit-correct, transit-faulty, picture_laws}
use Rattle.agree.proofs.Agree.{typed, lowest-silent, lowest-message}
use Rattle.schedule.specs.Records.{record_at}
use Rattle.words.specs.declared.Sizes.{Sizes}
use Rattle.words.specs.Words.{column_in, transit_in}
use Rattle.words.specs.Facts.{Bounded, At, Sourced, Grown}
use Rattle.words.proofs.KeepLaws.{holds_more, holds-stop}
use Rattle.words.proofs.LevelCases.{counts}
use Rattle.rules.specs.Kept.{Numbers, ByEnds}
use Rattle.step.specs.Step.{sized, moved_by, kept_taken, Formed}
use Rattle.step.proofs.KeptLaws.{numbered_is, taken_kept, stepped_kept}
use Rattle.step.proofs.StepLaws.{formed_by}
use Rattle.translate.specs.Facts.{low_in, Acceptable}

-- ---- only the source changes
module _ (j : ℕ) where
  pub tag-source : (c : ℕ) (s : Step) → (tag_by j c s).source ≡ (s.source if silent s else tag_of j c s.source)
  unfolding tag_by
  tag-source c s = kind_if (λ κ. source_in κ s.source (tag_of j c s.source)) s

  pub tag-keeps : (c : ℕ) (s : Step) → with_source s (tag_by j c s).source ≡ tag_by j c s
  unfolding tag_by
  tag-keeps c s = refl

  pub low_keeps : (d : Design) (w : List ℕ) (s : Step) → with_source s (lowest j d w s).source ≡ lowest j d w s
  unfolding lowest
  low_keeps d w s = refl

-- ---- `tag`
pub tag-none : (j c q : ℕ) → (j ≡ 0 → ⊥) → 0 ≡ tag_of j c q
tag-none j c q n = counts (λ (k : ℕ). 0 ≡ tag_of k c q) (λ i. sym (tag_only i c q)) j n

pub tag-zero : (j c q : ℕ) → j ≡ 0 → q < c → 0 ≡ tag_of j c q
tag-zero j c q e h = sym (ap (λ (k : ℕ). tag_of k c q) e ∙ tag-correct c q h)

pub tag_one : (j c q : ℕ) → j ≡ 0 → c ≤ q → 1 ≡ tag_of j c q
tag_one j c q e h = sym (ap (λ (k : ℕ). tag_of k c q) e ∙ tag-faulty c q h)

-- in transit, in words of level k
abbrev transit_as : ℕ → Sizes → List ℕ → ℕ → ℕ → ℕ → Bool
transit_as k s w p m q =
    (column k s.correct s.faulty).in_transit q (coll k s.correct s.faulty (cell s.correct s.types (wide k) w p m)) (shown k s.correct s.faulty (sent s.correct s.types (wide k) w m))

-- the lowest source of the tag whose message of type m is in transit to board p
abbrev lowest_in : Sizes → List ℕ → ℕ → ℕ → ℕ → ℕ
lowest_in s w p m tag = least (column_in s).sources (λ q. eqb (tag_of s.level s.correct q) tag && transit_in s w p m q)

-- ---- `lowest_of`
module _ (c f got out : ℕ) where
  abbrev test : ℕ → ℕ → Bool
  test tag q = eqb (tag_of 0 c q) tag && (passing c f).in_transit q got out

  correct-is : (q : ℕ) → (ltb q c && missing out got q) ≡ test 0 q
  correct-is q = go (dec_lt q c)
    where
      go : Dec (q < c) → (ltb q c && missing out got q) ≡ test 0 q
      go (yes h) = rw (tag-correct c q h) (ap (λ (b : Bool). b && missing out got q) (lt-ltb q c h) ∙ sym (transit-correct c f q got out h))
      go (no h) = rw (tag-faulty c q (omega arith)) (ap (λ (b : Bool). b && missing out got q) (le-ltb q c (omega arith)))

  faulty-is : (q : ℕ) → (leb c q && not (mem got q)) ≡ test 1 q
  faulty-is q = go (dec_lt q c)
    where
      go : Dec (q < c) → (leb c q && not (mem got q)) ≡ test 1 q
      go (yes h) = rw (tag-correct c q h) (ap (λ (b : Bool). b && not (mem got q)) (lt-leb c q h))
      go (no h) = rw (tag-faulty c q (omega arith)) (ap (λ (b : Bool). b && not (mem got q)) (le-leb c q (omega arith)) ∙ sym (transit-faulty c f q got out (omega arith)))

  module _ {r tag : ℕ} where
    pub lowest-tag-correct : tag ≡ 0 → r ≡ least (c + f) (λ q. ltb q c && missing out got q) → r ≡ least (c + f) (test tag)
    lowest-tag-correct e h = rw e (h ∙ least-same (c + f) _ _ (λ q l. correct-is q))

    pub lowest-tag-faulty : (tag ≡ 0 → ⊥) → tag < 2 → r ≡ least (c + f) (λ q. leb c q && not (mem got q)) → r ≡ least (c + f) (test tag)
    lowest-tag-faulty n l h = let e : tag ≡ 1 = omega arith in rw e (h ∙ least-same (c + f) _ _ (λ q b. faulty-is q))

-- the level's number is 0
low-zero : (s : Sizes) (w : List ℕ) (p m tag : ℕ) → s.level ≡ 0
    → lowest_in s w p m tag ≡ least (s.correct + s.faulty) (λ q. eqb (tag_of 0 s.correct q) tag && transit_as 0 s w p m q)
low-zero s w p m tag e = ap (λ (k : ℕ). least (column k s.correct s.faulty).sources (λ q. eqb (tag_of k s.correct q) tag && transit_as k s w p m q)) e

-- or another: there is one tag only
pub source-low : {r : ℕ} (s : Sizes) (w : List ℕ) (p m tag : ℕ) → (s.level ≡ 0 → ⊥) → tag < (column (suc s.level) s.correct s.faulty).sources
    → r ≡ least (column_in s).sources (transit_in s w p m) → r ≡ lowest_in s w p m tag
source-low {r} s w p m tag n l h = h ∙ least-same (column_in s).sources _ _ (λ q b. sym (ap (λ (x : Bool). x && transit_in s w p m q) (only q)))
  where
    none : tag ≡ 0
    none = counts (λ (k : ℕ). tag < (column (suc k) s.correct s.faulty).sources → tag ≡ 0) (λ j h. omega arith) s.level n l

    only : (q : ℕ) → eqb (tag_of s.level s.correct q) tag ≡ true
    only q = eq-eqb _ _ (sym (tag-none s.level s.correct q n) ∙ sym none)

pub two-tags : (s : Sizes) (tag : ℕ) → s.level ≡ 0 → tag < (column (suc s.level) s.correct s.faulty).sources → tag < 2
two-tags s tag e l = rw e at l

-- ---- `source`: the two sets that it reads, in words of message form
pub sender_low : {i j r : ℕ} (s : Sizes) (w : List ℕ) (p m tag : ℕ) → s.level ≡ 0 → i ≡ cell_at s.correct s.types (wide s.level) p m 0 → j ≡ sent_at s.correct s.types (wide s.level) m
    → r ≡ least (s.correct + s.faulty) (test s.correct s.faulty (get_or w i 0) (get_or w j 0) tag) → r ≡ lowest_in s w p m tag
unfolding coll shown cell sent
sender_low {i} {j} {r} s w p m tag e f g h =
    let C = s.correct in
    let T = s.types in
    (h ∙ ap₂ (λ (x y : ℕ). least (C + s.faulty) (test C s.faulty (get_or w x 0) (get_or w y 0) tag)) (f ∙ ap (λ (k : ℕ). cell_at C T (wide k) p m 0) e) (g ∙ ap (λ (k : ℕ). sent_at C T (wide k) m) e))
    ∙ sym (low-zero s w p m tag e)

-- ---- no source is 255
pub sources-few : (k C f : ℕ) → C + f ≤ 64 → (column k C f).sources ≤ 64
sources-few zero C f h = h
sources-few (suc zero) C f h = omega arith
sources-few (suc (suc k)) C f h = omega arith

-- so a step from its lowest sender has a message, whatever its type
low_told : (s : Sizes) (w : List ℕ) (x : Step) → Bounded s → silent (with_source x (low_sender s.level (sized s) w x)) ≡ false
unfolding low_sender
low_told s w x B =
    let n = (column_in s).sources in
    let P : ℕ → Bool = λ q. eqb (tag_of s.level s.correct q) x.source && transit_in s w x.board x.type q in
    let z : eqb (least n P) 255 ≡ false = ne_eqb (least n P) 255 (omega (arith, least-le n P, sources-few s.level s.correct s.faulty B.boards)) in
    ap (λ (b : Bool). eqb x.type 255 && b) z ∙ and-false (eqb x.type 255)

-- and a step that has none with its lowest source has none itself
low-quiet : (s : Sizes) (w : List ℕ) (x : Step) → Bounded s → silent (low_in s w x) ≡ true → silent x ≡ true
low-quiet s w x B h = yes_no (silent x) (λ e. e) (λ e. absurd (true≢false (sym h ∙ ap silent (lowest-message s.level (sized s) x w e) ∙ low_told s w x B)))

-- ---- what a formed step tells of the tag: a type of the table, and a source of the next level
pub source_what : (s : Sizes) (w : List ℕ) (x : Step) → Bounded s → Formed s (low_in s w x) → silent x ≡ false → (At s x.board x.type) × (x.source < (column (suc s.level) s.correct s.faulty).sources)
unfolding low_sender lowest
source_what s w x B F e =
    let n = (column_in s).sources in
    let P : ℕ → Bool = λ q. eqb (tag_of s.level s.correct q) x.source && transit_in s w x.board x.type q in
    let o = lowest-message s.level (sized s) x w e in
    let N = named_of s.level (sized s) w (with_source x (low_sender s.level (sized s) w x)) (ap (malformed s.level (sized s)) (sym o) ∙ F.named) (low_told s w x B) in
    let t : tag_of s.level s.correct (least n P) ≡ x.source = eqb-true _ _ (and_both _ _ (least-found n P N.source)).0 in
    (record { board = F.board; type = N.type }, omega (arith, t, (picture_laws s.correct s.faulty s.level).below (least n P)))

-- ---- the source that the code finds
pub source-found : {r : ℕ} (s : Sizes) (w : List ℕ) (x : Step) → r ≡ lowest_in s w x.board x.type x.source → r ≡ low_sender s.level (sized s) w x
unfolding low_sender
source-found s w x e = e

-- ---- `hear_lowest`
-- without a message neither the words nor the record change
module _ (s : Sizes) (w : List ℕ) (x : Step) (e : silent x ≡ true) where
  pub low-unheard : w ≡ heard s.level (sized s) w (low_in s w x)
  low-unheard = sym (ap (heard s.level (sized s) w) (lowest-silent s.level (sized s) x w e) ∙ heard_silent s.level (sized s) w x e)

  pub low_unnamed : (steps : List ℕ) (i : ℕ) → x ≡ record_at steps i → steps ≡ set steps (i * 4 + 3) (low_in s w x).source
  low_unnamed steps i f = sym (ap (λ (y : Step). set steps (i * 4 + 3) y.source) (lowest-silent s.level (sized s) x w e ∙ f) ∙ set-get_or steps (i * 4 + 3) 0)

-- with one it is the lowest sender's
module _ {q : ℕ} (s : Sizes) (w : List ℕ) (x : Step) (B : Bounded s) (F : Formed s (low_in s w x)) (e : silent x ≡ false) (f : q ≡ low_sender s.level (sized s) w x) where
  low_is : low_in s w x ≡ with_source x q
  low_is = lowest-message s.level (sized s) x w e ∙ ap (with_source x) (sym f)

  told : silent (with_source x q) ≡ false
  told = typed s.types x q (omega (arith, B.types)) (source_what s w x B F e).0.type

  pub low-sourced : Sourced s q
  low-sourced = record { below = (named_of s.level (sized s) w (with_source x q) (subst (Formed s) low_is F).named told).source }

  pub low-heard : {v : List ℕ} → v ≡ hear s.correct s.types (wide s.level) x.board x.type (slot s.level q) (bump s.level q) w → v ≡ heard s.level (sized s) w (low_in s w x)
  low-heard g = g ∙ sym (ap (heard s.level (sized s) w) low_is ∙ heard_message s.level (sized s) w (with_source x q) told)

  pub low-named : q ≡ (low_in s w x).source
  low-named = ap (λ (y : Step). y.source) (sym low_is)

-- ---- `source_at`: the step with its lowest source, by the board and the rule that the code has in hand
abbrev pub lowered : Sizes → List ℕ → Step → Step
lowered s w x = with_source x (low_in s w x).source

pub lowered_is : {y : Step} (s : Sizes) (w : List ℕ) (x : Step) → y ≡ x → lowered s w y ≡ low_in s w x
lowered_is {y} s w x e = low_keeps s.level (sized s) w y ∙ ap (low_in s w) e

pub lowered_moves : {v u : List ℕ} (s : Sizes) (ends w : List ℕ) (x : Step) → v ≡ heard s.level (sized s) w (low_in s w x) → u ≡ moved_by s ends x.board x.rule v → u ≡ kept_taken s ends w (lowered s w x)
lowered_moves s ends w x e f = f ∙ ap (moved_by s ends x.board x.rule) (e ∙ ap (heard s.level (sized s) w) (sym (lowered_is s w x refl)))

-- what is known of it: a board that there is, and by a rule it is formed
module _ {y : Step} (s : Sizes) (w : List ℕ) (x : Step) (A : Acceptable s (low_in s w x)) (e : y ≡ x) where
  lowered_acceptable : Acceptable s (lowered s w y)
  lowered_acceptable = subst⁻¹ (Acceptable s) (lowered_is s w x e) A

  pub lowered_board : y.board < s.correct
  lowered_board = lowered_acceptable.board

  pub lowered_formed : (y.rule ≡ 254 → ⊥) → Formed s (lowered s w y)
  lowered_formed n = lowered_acceptable.formed (ne_eqb y.rule 254 n)

-- by a rule of the table, for every design that the kept ends stand for
pub lowered_steps : {u : List ℕ} {y : Step} (s : Sizes) (ends w : List ℕ) (x : Step) → y ≡ x → (y.rule ≡ 254 → ⊥) → y.rule < s.rules → u ≡ kept_taken s ends w (lowered s w y)
    → ByEnds s ends (λ d. u ≡ stepped s.level d w (low_in s w x))
lowered_steps {u} {y} s ends w x e n h g d K =
    g ∙ sym (taken_kept d s ends K w (lowered s w y) h) ∙ sym (stepped-take s.level d w (lowered s w y) (ne_eqb y.rule 254 n)) ∙ ap (stepped s.level d w) (lowered_is s w x e)

-- a stop has no message: its record stays, and the board is stopped
module _ {y : Step} (s : Sizes) (w steps : List ℕ) (i : ℕ) (B : Bounded s) (A : Acceptable s (low_in s w (record_at steps i))) (e : y ≡ record_at steps i) (h : y.rule ≡ 254) where
  stops_now : is_stop y ≡ true
  stops_now = eq-eqb y.rule 254 h

  stop-quiet : silent (record_at steps i) ≡ true
  unfolding lowest
  stop-quiet = low-quiet s w (record_at steps i) B (A.alone (ap is_stop (sym e) ∙ stops_now))

  stop_is : low_in s w (record_at steps i) ≡ y
  stop_is = lowest-silent s.level (sized s) (record_at steps i) w stop-quiet ∙ sym e

  pub stop_unnamed : steps ≡ set steps (i * 4 + 3) (low_in s w (record_at steps i)).source
  stop_unnamed = low_unnamed s w (record_at steps i) stop-quiet steps i refl

  module _ {v : List ℕ} (f : v ≡ stop s.correct s.types (wide s.level) y.board w) where
    pub stop-steps : (ends : List ℕ) → ByEnds s ends (λ d. v ≡ stepped s.level d w (low_in s w (record_at steps i)))
    unfolding ◌if◌else◌
    stop-steps ends d K =
        let n : is_stop y ≡ false → y.rule < s.rules = λ z. absurd (true≢false (sym stops_now ∙ z)) in
        f ∙ sym (stepped_kept d s ends K w y n ∙ rw stops_now) ∙ ap (stepped s.level d w) (sym stop_is)

    pub stop-grown : Grown s w v
    stop-grown k l H = rw f (holds-stop s (k + 2) w y.board (holds_more s k (k + 2) w (omega arith) H))

-- ---- what an accepted step tells, of a design with these numbers
pub acceptable_by : (d : Design) (s : Sizes) → Numbers d s → (w : List ℕ) (x : Step) → step_fault s.level d w x ≡ 0 → Acceptable s x
acceptable_by d s N w x z = go (accepts_by_lem s.level d w x z)
  where
    go : Accepts s.level d w x → Acceptable s x
    go (takes n _ f) = let F = formed_by d s N w x f in record { board = F.board; formed = λ _. F; alone = λ e. absurd (true≢false (sym e ∙ n)) }
    go (stops e b _ a _) = record { board = rw (← N.boards) b; formed = λ n. absurd (true≢false (sym e ∙ n)); alone = λ _. a }

-- a design's numbers are all that the lowest source asks
pub low-sized : (d : Design) (s : Sizes) → Numbers d s → (w : List ℕ) (x : Step) → lowest s.level d w x ≡ low_in s w x
unfolding lowest low_sender
low-sized d s N w x = ap (λ (D : Design). lowest s.level D w x) (numbered_is d s N)
