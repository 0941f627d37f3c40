-- What the loops over the records keep, to a coarser and to a finer level.
use mathlib.Core.Path.{◌≡◌, refl, sym, ap, ◌∙◌, subst, subst⁻¹}
use mathlib.Core.List.{List, [], ◌∷◌, map}
use Prim.Native.Nat.{ℕ, zero, suc, ◌+◌, ◌*◌, ◌≤◌, ◌<◌}
use native.Mathlib.Nat.{not-suc-le-zero, le_of_suc-le-suc}
use native.Mathlib.Numerals.{add-one}
use native.Mathlib.Decide.{ℕ_discrete}
use lib.ListN.{length, set, drop, length-map}
use lib.Seq.{drop-cons}
use Rattle.paper.specs.Paper.{Design, Step}
use Rattle.paper.specs.Step.{step_fault, stepped}
use Rattle.paper.specs.Machine.{follow_all}
use Rattle.paper.specs.Run.{Ran, run, no_step, step_at}
use Rattle.paper.proofs.StepLaws.{length-stepped}
use Rattle.paper.proofs.RunLaws.{Running, running_starts, running_goes, running_stops}
use Rattle.agree.specs.Translation.{with_source, tag_by, lowest, low_all}
use Rattle.schedule.specs.Records.{record_at, steps_in, bytes_of}
use Rattle.schedule.proofs.RecordLaws.{length-steps, Partly, partly_none, partly_at, partly_more, partly_all}
use Rattle.words.specs.declared.Sizes.{Sizes}
use Rattle.rules.specs.Kept.{ByEnds}
use Rattle.translate.specs.Facts.{low_in, RunsLow, LowersTo, Acceptable}
use Rattle.translate.proofs.StepLaws.{tag-keeps, low_keeps, low-sized, acceptable_by}

map_at : (f : Step → Step) (ss : List Step) (i : ℕ) → i < length ss → step_at (map f ss) i ≡ f (step_at ss i)
map_at f [] i h = absurd (not-suc-le-zero h)
map_at f (s ∷ ss) zero h = refl
map_at f (s ∷ ss) (suc i) h = map_at f ss i (le_of_suc-le-suc h)

-- ---- to a coarser level
abbrev pub Tags : ℕ → ℕ → ℕ → List ℕ → ℕ → List ℕ → Type 0
Tags j c n steps₀ i steps = Partly n (steps_in steps₀) (map (tag_by j c) (steps_in steps₀)) i steps

module _ (j c n : ℕ) (steps₀ : List ℕ) (l : length steps₀ ≡ n * 4) where
  abbrev old : List Step
  old = steps_in steps₀

  many : length old ≡ n
  many = length-steps n steps₀ l

  new-many : length (map (tag_by j c) old) ≡ n
  new-many = length-map old (tag_by j c) ∙ many

  pub tags-none : Tags j c n steps₀ 0 steps₀
  tags-none = partly_none n old (map (tag_by j c) old) many new-many steps₀ l refl

  module _ {i : ℕ} {steps : List ℕ} (T : Tags j c n steps₀ i steps) where
    pub tags-more : {u : List ℕ} → i < n → u ≡ set steps (i * 4 + 3) (tag_by j c (record_at steps i)).source → Tags j c n steps₀ (i + 1) u
    tags-more h f =
        let e = partly_at n old (map (tag_by j c) old) many new-many T h in
        subst⁻¹ (Tags j c n steps₀ (i + 1)) f
        (partly_more n old (map (tag_by j c) old) many new-many T (tag_by j c (record_at steps i)).source h
        (ap (λ (s : Step). with_source (step_at old i) (tag_by j c s).source) e ∙ tag-keeps j c (step_at old i) ∙ sym (map_at (tag_by j c) old i (rw many h))))

    pub tags-all : i ≤ n → n ≤ i → steps ≡ bytes_of (map (tag_by j c) old)
    tags-all a b = partly_all n old (map (tag_by j c) old) many new-many T b

-- ---- to a finer level
pub low-long : (j : ℕ) (d : Design) (w : List ℕ) (ss : List Step) → length (low_all j d w ss) ≡ length ss
unfolding follow_all
low-long j d w [] = refl
low-long j d w (s ∷ ss) = ap suc (low-long j d (stepped j d w (lowest j d w s)) ss)

-- the rest of a schedule, from the words after its first i steps
module _ (j : ℕ) (d : Design) (w : List ℕ) (new ss : List Step) (i : ℕ) (h : i < length ss) (k : i < length new) (r : drop i new ≡ low_all j d w (drop i ss)) where
  heads : step_at new i ∷ drop (suc i) new ≡ lowest j d w (step_at ss i) ∷ low_all j d (stepped j d w (lowest j d w (step_at ss i))) (drop (suc i) ss)
  unfolding follow_all
  heads = sym (drop-cons new i no_step k) ∙ r ∙ ap (low_all j d w) (drop-cons ss i no_step h)

  rest_head : step_at new i ≡ lowest j d w (step_at ss i)
  rest_head = ap (λ (x : List Step). step_at x 0) heads

  rest_more : drop (i + 1) new ≡ low_all j d (stepped j d w (lowest j d w (step_at ss i))) (drop (i + 1) ss)
  rest_more = rw add-one (ap (λ (x : List Step). drop 1 x) heads)

pub record Along (j : ℕ) (d : Design) (w₀ : List ℕ) (n : ℕ) (steps₀ : List ℕ) (i : ℕ) (w steps : List ℕ) : Type 0 where
  pub partly : Partly n (steps_in steps₀) (low_all j d w₀ (steps_in steps₀)) i steps
  pub rest : drop i (low_all j d w₀ (steps_in steps₀)) ≡ low_all j d w (drop i (steps_in steps₀))
  pub running : Running j d w₀ (low_all j d w₀ (steps_in steps₀)) i w
  pub long : length w ≡ length w₀

module _ (j : ℕ) (d : Design) (w₀ : List ℕ) (n : ℕ) (steps₀ : List ℕ) (l : length steps₀ ≡ n * 4) where
  abbrev was : List Step
  was = steps_in steps₀

  abbrev low : List Step
  low = low_all j d w₀ was

  was_many : length was ≡ n
  was_many = length-steps n steps₀ l

  low-many : length low ≡ n
  low-many = low-long j d w₀ was ∙ was_many

  pub along_none : Along j d w₀ n steps₀ 0 w₀ steps₀
  along_none = record { partly = partly_none n was low was_many low-many steps₀ l refl; rest = refl; running = running_starts j d w₀ low; long = refl }

  module _ (runs : (run j d w₀ low).refusal ≡ 0) {i : ℕ} {w steps : List ℕ} (A : Along j d w₀ n steps₀ i w steps) (h : i < n) where
    at : record_at steps i ≡ step_at was i
    at = partly_at n was low was_many low-many A.partly h

    head : step_at low i ≡ lowest j d w (record_at steps i)
    head = rest_head j d w low was i (rw was_many h) (rw low-many h) A.rest ∙ ap (lowest j d w) (sym at)

    -- since the whole runs, the step is accepted
    pub along_accepts : step_fault j d w (lowest j d w (record_at steps i)) ≡ 0
    along_accepts = ap (step_fault j d w) (sym head) ∙ go (ℕ_discrete (step_fault j d w (step_at low i)) 0)
      where
        go : Dec (step_fault j d w (step_at low i) ≡ 0) → step_fault j d w (step_at low i) ≡ 0
        go (yes z) = z
        go (no z) = absurd (z (sym (ap (λ (r : Ran). r.refusal) (running_stops j d w₀ low i w A.running (rw low-many h) z)) ∙ runs))

    on : Along j d w₀ n steps₀ (i + 1) (stepped j d w (lowest j d w (record_at steps i))) (set steps (i * 4 + 3) (lowest j d w (record_at steps i)).source)
    on = record {
      partly = partly_more n was low was_many low-many A.partly (lowest j d w (record_at steps i)).source h
          (ap (λ (s : Step). with_source s (lowest j d w (record_at steps i)).source) (sym at) ∙ low_keeps j d w (record_at steps i) ∙ sym head);
      rest = rest_more j d w low was i (rw was_many h) (rw low-many h) A.rest ∙ ap (λ (s : Step). low_all j d (stepped j d w (lowest j d w s)) (drop (i + 1) was)) (sym at);
      running = subst⁻¹ (λ (s : Step). Running j d w₀ low (i + 1) (stepped j d w s)) (sym head) (running_goes j d w₀ low i w A.running (rw low-many h) (ap (step_fault j d w) head ∙ along_accepts));
      long = length-stepped j d w (lowest j d w (record_at steps i)) ∙ A.long;
    }

    pub along_more : {v u : List ℕ} → v ≡ stepped j d w (lowest j d w (record_at steps i)) → u ≡ set steps (i * 4 + 3) (lowest j d w (record_at steps i)).source
        → Along j d w₀ n steps₀ (i + 1) v u
    along_more e f = rw (e, f) on

  pub along_all : {i : ℕ} {w steps : List ℕ} → Along j d w₀ n steps₀ i w steps → i ≤ n → n ≤ i → steps ≡ bytes_of low
  along_all A a b = partly_all n was low was_many low-many A.partly b

-- ---- for every design that the kept ends stand for
abbrev pub Alongs : Sizes → List ℕ → List ℕ → ℕ → List ℕ → ℕ → List ℕ → List ℕ → Type 0
Alongs s ends w₀ n steps₀ i w steps = (L : RunsLow s ends w₀ steps₀) → Along s.level L.design w₀ n steps₀ i w steps

module _ (s : Sizes) (ends w₀ : List ℕ) (n : ℕ) (steps₀ : List ℕ) (l : length steps₀ ≡ n * 4) where
  abbrev Here : ℕ → List ℕ → List ℕ → Type 0
  Here i w steps = Alongs s ends w₀ n steps₀ i w steps

  pub alongs_none : Here 0 w₀ steps₀
  alongs_none L = along_none s.level L.design w₀ n steps₀ l

  module _ {i : ℕ} {w steps : List ℕ} (A : Here i w steps) (h : i < n) where
    pub alongs_acceptable : RunsLow s ends w₀ steps₀ → Acceptable s (low_in s w (record_at steps i))
    alongs_acceptable L =
        let x = record_at steps i in
        subst (Acceptable s) (low-sized L.design s L.kept.numbers w x)
        (acceptable_by L.design s L.kept.numbers w (lowest s.level L.design w x) (along_accepts s.level L.design w₀ n steps₀ l L.runs (A L) h))

    pub alongs_more : {v u : List ℕ} → ByEnds s ends (λ d. v ≡ stepped s.level d w (low_in s w (record_at steps i))) → u ≡ set steps (i * 4 + 3) (low_in s w (record_at steps i)).source → Here (i + 1) v u
    alongs_more f g L =
        let e = sym (low-sized L.design s L.kept.numbers w (record_at steps i)) in
        along_more s.level L.design w₀ n steps₀ l L.runs (A L) h (f L.design L.kept ∙ ap (stepped s.level L.design w) e) (g ∙ ap (λ (x : Step). set steps (i * 4 + 3) x.source) e)

  pub alongs_all : {i : ℕ} {w steps : List ℕ} → Here i w steps → i ≤ n → n ≤ i → LowersTo s ends w₀ steps₀ steps
  alongs_all A a b L = along_all s.level L.design w₀ n steps₀ l (A L) a b
