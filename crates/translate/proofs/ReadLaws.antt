-- A bundle that is read gives what the agreement of the levels asks for: its table forgets nothing, and nobody has sent at its start. So
-- what runs at one level runs, with the lowest sources, at the level before it.
use mathlib.Core.Path.{◌≡◌, refl, sym, ap, ◌∙◌, subst, subst⁻¹}
use mathlib.Core.Bool.{Bool, true, false, not, ◌&&◌, true≢false}
use mathlib.Core.List.{List}
use Prim.Native.Nat.{ℕ, suc, ◌-◌, ◌≤◌, ◌<◌}
use native.Mathlib.Nat.{le_trans}
use native.Mathlib.Omega.{arith}
use lib.ListN.{length, get_or}
use Rattle.senders.specs.Set.{mem}
use Rattle.senders.proofs.SetLaws.{set_laws}
use Rattle.table.specs.Table.{from_of, to_of}
use Rattle.bundle.specs.Bundle.{t_of, starts_of, steps_of, table_in_use}
use Rattle.bundle.specs.Facts.{Read}
use Rattle.paper.specs.Paper.{Design, Step}
use Rattle.paper.specs.Words.{start}
use Rattle.paper.specs.Form.{wide}
use Rattle.paper.specs.Run.{run}
use Rattle.agree.specs.Translation.{low_all, finer}
use Rattle.agree.specs.Picture.{Remembers, Pictured}
use Rattle.agree.proofs.Runs.{start-pictured, backward_run}
use Rattle.schedule.specs.Records.{steps_in, bytes_of, Records}
use Rattle.schedule.proofs.RecordLaws.{steps-bytes, bytes-again, bytes-many, records_kept}
use Rattle.words.specs.declared.Sizes.{Sizes}
use Rattle.words.specs.Facts.{Bounded}
use Rattle.rules.specs.Kept.{KeptEnds}
use Rattle.rules.proofs.RuleLaws.{from_is, to_is, sent_is}
use Rattle.engine.specs.Design.{sizes_of, design_with, design_in}
use Rattle.engine.specs.Entry.{schedule_of, start_in}
use Rattle.engine.specs.Open.{Parts, Ready}
use Rattle.engine.proofs.EntryLaws.{whole_steps}
use Rattle.translate.specs.Written.{begin_of}
use Rattle.translate.specs.Facts.{at_level, Fair, Runs, RefinesTo, RunsLow, LowersTo}
use Rattle.translate.proofs.LoopLaws.{low-long}

not-missing : (x y : Bool) → x && not y ≡ false → x ≡ true → y ≡ true
not-missing x true e h = refl
not-missing true false e h = absurd (true≢false e)
not-missing false false e h = absurd (true≢false (sym h))

-- ---- a bundle that is read, with its table
module _ (t b : List ℕ) (R : Read t b) where
  abbrev s₀ : Sizes
  s₀ = sizes_of t b

  abbrev d₀ : Design
  d₀ = design_with t b

  keeps : (r m : ℕ) → r < d₀.rules → m < d₀.types → d₀.has_sent (d₀.from r) m ≡ true → d₀.has_sent (d₀.to r) m ≡ true
  keeps r m hr hm h =
      let F = R.formed.rule r hr in
      ap (λ (i : ℕ). d₀.has_sent i m) (to_is s₀ (t_of b) t r hr) ∙ sent_is s₀ (t_of b) t (to_of t r) F.ends.to m ∙
      not-missing _ _ (F.keeps m hm) (sym (ap (λ (i : ℕ). d₀.has_sent i m) (from_is s₀ (t_of b) t r hr) ∙ sent_is s₀ (t_of b) t (from_of t r) F.ends.from m) ∙ h)

  pub quiet : (p m : ℕ) → p < d₀.boards → m < d₀.types → d₀.has_sent (get_or (starts_of b) p 0) m ≡ false
  quiet p m hp hm =
      let B = R.start p hp in
      sent_is s₀ (t_of b) t (get_or (starts_of b) p 0) B.state m ∙
      ap (λ (S : ℕ). mem S m) ((R.formed.state (get_or (starts_of b) p 0) B.state).fresh B.initial) ∙ set_laws.empty m

  pub kept : Remembers d₀
  kept = record { few = le_trans R.formed.sized.few_types (omega arith); keeps = keeps }

  pub begins : (j : ℕ) → Pictured j d₀ (begin_of (sizes_of t b) b j) (begin_of (sizes_of t b) b (suc j))
  begins = start-pictured d₀ (starts_of b) R.parted.starts_long quiet

abbrev pub fair_by : (b standing : List ℕ) {s : Sizes} {ends leasts : List ℕ} → Ready b standing s ends leasts → Fair s ends leasts b
fair_by b standing R = record { design = design_in b standing; kept = R.kept; remembers = kept (table_in_use b standing) b R.read; fresh = quiet (table_in_use b standing) b R.read }

-- ---- at another level: the same numbers, parts and ends
module _ (k : ℕ) (s : Sizes) where
  pub level-bounded : Bounded s → Bounded (at_level k s)
  level-bounded B = record { boards = B.boards; types = B.types; rules = B.rules; wide = refl; row = refl }

  pub level_parts : {b : List ℕ} → Parts s b → Parts (at_level k s) b
  level_parts P = record { trailed = P.trailed; parted = P.parted; correct = P.correct }

  pub level-kept : {d : Design} {ends : List ℕ} → KeptEnds d s ends → KeptEnds d (at_level k s) ends
  level-kept K = record {
    long = K.long;
    numbers = record { boards = K.numbers.boards; faulty = K.numbers.faulty; tolerated = K.numbers.tolerated; types = K.numbers.types; rules = K.numbers.rules };
    from = K.from;
    to = K.to;
    sends = K.sends;
    one_new = K.one_new;
  }

-- ---- what the loop over the levels keeps, down from the bundle's own: its steps at level i
pub record Refined (s : Sizes) (b : List ℕ) (d : Design) (i : ℕ) (steps : List ℕ) : Type 0 where
  pub runs : (run i d (begin_of s b i) (steps_in steps)).refusal ≡ 0
  pub holds : steps ≡ bytes_of (finer (s.level - i) i d (begin_of s b) (schedule_of b))
  pub long : length steps ≡ length (steps_of b)

abbrev pub Refinings : Sizes → List ℕ → List ℕ → ℕ → List ℕ → Type 0
Refinings s ends b i steps = (T : Runs s ends b) → Refined s b T.design i steps

module _ (s : Sizes) (ends b : List ℕ) (P : Parts s b) where
  own_records : Records (steps_of b)
  own_records = whole_steps s b P refl

  pub refined_records : {d : Design} {i : ℕ} {steps : List ℕ} → Refined s b d i steps → Records steps
  refined_records F = records_kept own_records F.long

  pub refined_none : {steps : List ℕ} → steps ≡ steps_of b → Refinings s ends b s.level steps
  unfolding finer
  refined_none {steps} f T =
      let o : s.level - s.level ≡ 0 = omega arith in
      subst⁻¹ (Refined s b T.design s.level) f (record { runs = T.runs; holds = rw o (sym (bytes-again (steps_of b) own_records)); long = refl })

  module _ {steps : List ℕ} (j i : ℕ) (e : i ≡ suc j) (l : i ≤ s.level) (F : Refinings s ends b i steps) where
    pictured : (T : Runs s ends b) → Pictured j T.design (begin_of s b j) (begin_of s b (suc j))
    pictured T =
        let d = T.design in
        let N = T.kept.numbers in
        subst (λ (n : ℕ). Pictured j d (start n (wide j) (starts_of b)) (start n (wide (suc j)) (starts_of b))) N.types
        (start-pictured d (starts_of b) (P.parted.starts_long ∙ sym P.correct ∙ sym N.boards) T.fresh j)

    low-runs : (T : Runs s ends b) → (run j T.design (begin_of s b j) (low_all j T.design (begin_of s b j) (steps_in steps))).refusal ≡ 0
    low-runs T =
        let d = T.design in
        (backward_run j d T.remembers (begin_of s b j) (begin_of s b (suc j)) (steps_in steps) (pictured T) (ap (λ (x : ℕ). (run x d (begin_of s b x) (steps_in steps)).refusal) (sym e) ∙ (F T).runs)).accepted

    low-at : Runs s ends b → RunsLow (at_level j s) ends (start_in (at_level j s) b) steps
    low-at T = record { design = T.design; kept = level-kept j s T.kept; runs = low-runs T }

    pub refined_runs : {z : Sizes} → z ≡ at_level j s → Runs s ends b → RunsLow z ends (start_in z b) steps
    refined_runs f T = subst⁻¹ (λ (x : Sizes). RunsLow x ends (start_in x b) steps) f (low-at T)

    pub refined_more : {z : Sizes} {u : List ℕ} → z ≡ at_level j s → LowersTo z ends (start_in z b) steps u → Refinings s ends b j u
    unfolding finer
    refined_more {z} {u} f h T =
        let d = T.design in
        let low = low_all j d (begin_of s b j) (steps_in steps) in
        let g : u ≡ bytes_of low = subst (λ (x : Sizes). LowersTo x ends (start_in x b) steps u) f h (record { design = d; kept = level-kept j s T.kept; runs = low-runs T }) in
        let n : s.level - j ≡ suc (s.level - suc j) = omega arith in
        let q : steps_in steps ≡ finer (s.level - suc j) (suc j) d (begin_of s b) (schedule_of b) =
        ap steps_in (F T).holds ∙ steps-bytes _ ∙ ap (λ (x : ℕ). finer (s.level - x) x d (begin_of s b) (schedule_of b)) e in
        record {
          runs = ap (λ (x : List ℕ). (run j d (begin_of s b j) (steps_in x)).refusal) g ∙ ap (λ (x : List Step). (run j d (begin_of s b j) x).refusal) (steps-bytes low) ∙ low-runs T;
          holds = g ∙ ap (λ (x : List Step). bytes_of (low_all j d (begin_of s b j) x)) q ∙ sym (ap (λ (x : ℕ). bytes_of (finer x j d (begin_of s b) (schedule_of b))) n);
          long = ap length g ∙ bytes-many steps low (refined_records (F T)) (low-long j d (begin_of s b j) (steps_in steps)) ∙ (F T).long;
        }

  -- at the level that is asked for
  pub refined_all : {i level : ℕ} {steps : List ℕ} → level ≤ i → i ≤ level → Refinings s ends b i steps → RefinesTo s ends b level steps
  refined_all {i} {level} l m F T =
      let z : i ≡ level = omega arith in
      (F T).holds ∙ ap (λ (x : ℕ). bytes_of (finer (s.level - x) x T.design (begin_of s b) (schedule_of b))) z
