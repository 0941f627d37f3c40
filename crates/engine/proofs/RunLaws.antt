-- The first configuration as it is placed, and what the loop over the steps keeps: after i steps the run is the run of what is left, for
-- every design that the kept rules stand for, and no word has grown by more than two a step.
use mathlib.Core.Path.{◌≡◌, refl, sym, ap, ap₂, ◌∙◌, subst⁻¹}
use mathlib.Core.List.{List, [], ◌∷◌, ◌++◌}
use Prim.Native.Nat.{ℕ, zero, suc, ◌+◌, ◌-◌, ◌*◌, ◌≤◌, ◌<◌}
use native.Mathlib.Decide.{dec_lt}
use native.Mathlib.Omega.{arith}
use lib.ListN.{length, get_or, set, take, drop, replicate, length-replicate, get_or-replicate, replicate-append-replicate}
use lib.Seq.{ext_get_or, length_front, length-take-le, drop_at}
use borrow.Author.Tests.{eq-eqb, ne_eqb}
use Rattle.fault.specs.declared.Answer.{Answer}
use Rattle.fault.specs.Fault.{◌if◌else◌}
use Rattle.paper.specs.Paper.{Design, Step}
use Rattle.paper.specs.Words.{size, start}
use Rattle.paper.specs.Form.{wide}
use Rattle.paper.specs.Step.{step_fault, stepped}
use Rattle.schedule.specs.Records.{steps_in, record_at}
use Rattle.paper.specs.Run.{Ran, run, no_step}
use Rattle.paper.proofs.WordLaws.{start-low, start-high, length-start}
use Rattle.schedule.proofs.RecordLaws.{length-steps, step-at}
use Rattle.paper.proofs.RunLaws.{Running, ran_to, running_starts, running_goes, running_stops, running_ends}
use Rattle.words.specs.declared.Sizes.{Sizes}
use Rattle.words.specs.Words.{room_of}
use Rattle.words.specs.Facts.{at_end, Holds, Grown}
use Rattle.words.proofs.KeepLaws.{holds_more}
use Rattle.rules.specs.Kept.{ByDesign}
use Rattle.step.specs.Step.{left_by}
use Rattle.engine.specs.Entry.{ran_answer}

-- ---- the first configuration
-- as many words as there were, each of them 0: those before the last, and the last
pub filled : (n : ℕ) (w : List ℕ) → length w ≡ n → ((j : ℕ) → j < n - 1 → get_or w j 0 ≡ 0) → (0 < n → get_or w (n - 1) 0 ≡ 0) → w ≡ replicate n 0
filled n w l before last = ext_get_or 0 w (replicate n 0) (l ∙ sym (length-replicate n 0)) (λ j h. go j (omega (arith, l)) (dec_lt j (n - 1)) ∙ sym (get_or-replicate n j 0 0 (omega (arith, l))))
  where
    go : (j : ℕ) → j < n → Dec (j < n - 1) → get_or w j 0 ≡ 0
    go j h (yes m) = before j m
    go j h (no m) = let e : j ≡ n - 1 = omega arith in rw e (last (omega arith))

-- the starts below i, in front of the words as they were
module _ (w t : List ℕ) where
  pub placed_long : (i : ℕ) → i ≤ length t → i ≤ length w → length (take i t ++ drop i w) ≡ length w
  placed_long i h l = length_front w (take i t) i (length-take-le i t h ∙ sym (length-take-le i w l))

  pub placed_more : {u : List ℕ} (i r : ℕ) → u ≡ take i t ++ drop i w → i < length t → i < length w → r ≡ get_or t i 0 → set u i r ≡ take (i + 1) t ++ drop (i + 1) w
  placed_more {u} i r e h l f =
      let n : suc i ≡ i + 1 = omega arith in
      ap₂ (λ (v : List ℕ) (x : ℕ). set v i x) e f ∙ go w t i l h ∙ ap (λ (k : ℕ). take k t ++ drop k w) n
    where
      go : (a b : List ℕ) (j : ℕ) → j < length a → j < length b → set (take j b ++ drop j a) j (get_or b j 0) ≡ take (suc j) b ++ drop (suc j) a
      go [] b j h l = absurd (omega arith)
      go (x ∷ a) [] j h l = absurd (omega arith)
      go (x ∷ a) (y ∷ b) zero h l = refl
      go (x ∷ a) (y ∷ b) (suc j) h l = ap (λ (v : List ℕ). y ∷ v) (go a b j (omega arith) (omega arith))

module _ (s : Sizes) (starts : List ℕ) (l : length starts ≡ s.correct) where
  abbrev first : List ℕ
  first = start s.types (wide s.level) starts

  pub boards-fit : length starts ≤ room_of s
  unfolding size
  boards-fit = omega (arith, l)

  -- the zeros past the starts are the cells, the sent words and the stopped boards
  pub begun : {v u : List ℕ} (n : ℕ) → n ≡ room_of s → v ≡ replicate n 0 → u ≡ starts ++ drop (length starts) v → u ≡ first
  unfolding start size
  begun n h f g =
      let C = length starts in
      let k = C * s.types * wide s.level + s.types + 1 in
      let e : n ≡ C + k = rw l (h ∙ omega arith) in
      g ∙ ap (λ (x : List ℕ). starts ++ x) (ap (drop C) (f ∙ ap (λ (i : ℕ). replicate i 0) e ∙ sym (replicate-append-replicate C k 0)) ∙ drop_at (replicate C 0) (replicate k 0) C (length-replicate C 0))

  -- a start is a byte
  pub first_holds : ((i : ℕ) → get_or starts i 0 < 256) → Holds s 256 first
  first_holds b = record { fits = length-start s.correct s.types (wide s.level) starts l; small = λ n i _. go i (dec_lt i s.correct) }
    where
      go : (i : ℕ) → Dec (i < s.correct) → get_or first i 0 ≤ 256
      go i (yes h) = omega (arith, start-low s.correct s.types (wide s.level) starts l i h, b i)
      go i (no h) = let e = start-high s.correct s.types (wide s.level) starts l i (omega arith) in omega (arith, e)

-- ---- one design: the run so far, from what a step answers and leaves
module _ (k : ℕ) (d : Design) (w₀ steps : List ℕ) (n : ℕ) (l : length steps ≡ n * 4) where
  abbrev all : Ran
  all = run k d w₀ (steps_in steps)

  module _ (i : ℕ) (w u : List ℕ) (x : ℕ) (h : i < n) (R : Running k d w₀ (steps_in steps) i w) (e : x ≡ step_fault k d w (record_at steps i)) (f : u ≡ left_by k d w (record_at steps i)) where
    there : i < length (steps_in steps)
    there = rw (length-steps n steps l) h

    fault-at : step_fault k d w (get_or (steps_in steps) i no_step) ≡ x
    fault-at = ap (step_fault k d w) (step-at n steps i l h) ∙ sym e

    pub one_on : x ≡ 0 → Running k d w₀ (steps_in steps) (i + 1) u
    unfolding ◌if◌else◌
    one_on z =
        let g : u ≡ stepped k d w (record_at steps i) = f ∙ rw (eq-eqb _ 0 (sym e ∙ z)) in
        subst⁻¹ (Running k d w₀ (steps_in steps) (i + 1)) (g ∙ ap (stepped k d w) (sym (step-at n steps i l h))) (running_goes k d w₀ (steps_in steps) i w R there (fault-at ∙ z))

    pub stopped : (x ≡ 0 → ⊥) → all ≡ ran_to i x u
    unfolding ◌if◌else◌
    stopped b =
        let g : w ≡ u = sym (f ∙ rw (ne_eqb _ 0 (λ z. b (e ∙ z)))) in
        running_stops k d w₀ (steps_in steps) i w R there (λ z. b (sym fault-at ∙ z)) ∙ ap (λ (y : ℕ). ran_to i y w) fault-at ∙ ap (ran_to i x) g

  pub ended : (i : ℕ) (w : List ℕ) → i ≤ n → n ≤ i → Running k d w₀ (steps_in steps) i w → all ≡ ran_to n 0 w
  ended i w a b R = let z : i ≡ n = omega arith in running_ends k d w₀ (steps_in steps) i w R (rw (length-steps n steps l) b) ∙ ap (λ (j : ℕ). ran_to j 0 w) z

-- ---- every design
pub record SoFar (s : Sizes) (e l w₀ steps : List ℕ) (i : ℕ) (w : List ℕ) : Type 0 where
  pub holds : Holds s (256 + 2 * i) w
  pub running : ByDesign s e l (λ d. Running s.level d w₀ (steps_in steps) i w)

-- what the run answers and leaves
pub record Ends (s : Sizes) (e l w₀ steps : List ℕ) (a : Answer) (w : List ℕ) : Type 0 where
  pub answers : ByDesign s e l (λ d. a ≡ ran_answer (run s.level d w₀ (steps_in steps)))
  pub leaves : ByDesign s e l (λ d. w ≡ (run s.level d w₀ (steps_in steps)).left)
  pub long : length w ≡ length w₀
  pub holds : Holds s at_end w

module _ (s : Sizes) (e l w₀ steps : List ℕ) (H : Holds s 256 w₀) (n : ℕ) (few : n ≤ 4096) (q : length steps ≡ n * 4) where
  pub so_far_none : SoFar s e l w₀ steps 0 w₀
  so_far_none = record { holds = holds_more s 256 (256 + 2 * 0) w₀ (omega arith) H; running = λ d K. running_starts s.level d w₀ (steps_in steps) }

  ends : (i x : ℕ) (w : List ℕ) → ByDesign s e l (λ d. run s.level d w₀ (steps_in steps) ≡ ran_to i x w) → Holds s at_end w → Ends s e l w₀ steps (ran_answer (ran_to i x w)) w
  ends i x w r h = record { answers = λ d K. ap ran_answer (sym (r d K)); leaves = λ d K. ap (λ (y : Ran). y.left) (sym (r d K)); long = h.fits ∙ sym H.fits; holds = h }

  module _ (i : ℕ) (w u : List ℕ) (x : ℕ) (h : i < n) (F : SoFar s e l w₀ steps i w) {y : Step} (o : y ≡ record_at steps i) (f : ByDesign s e l (λ d. x ≡ step_fault s.level d w y))
      (g : ByDesign s e l (λ d. u ≡ left_by s.level d w y)) (G : Grown s w u) where
    grown : Holds s (256 + 2 * i + 2) u
    grown = G (256 + 2 * i) (omega arith) F.holds

    pub so_far_more : x ≡ 0 → SoFar s e l w₀ steps (i + 1) u
    so_far_more z = record {
      holds = holds_more s (256 + 2 * i + 2) (256 + 2 * (i + 1)) u (omega arith) grown;
      running = λ d K. one_on s.level d w₀ steps n q i w u x h (F.running d K) (f d K ∙ ap (step_fault s.level d w) o) (g d K ∙ ap (left_by s.level d w) o) z;
    }

    pub ends-refused : (x ≡ 0 → ⊥) → Ends s e l w₀ steps (record { refusal = x; place = i; count = i }) u
    unfolding ran_answer ◌if◌else◌
    ends-refused b =
        let E = ends i x u (λ d K. stopped s.level d w₀ steps n q i w u x h (F.running d K) (f d K ∙ ap (step_fault s.level d w) o) (g d K ∙ ap (left_by s.level d w) o) b) (holds_more s (256 + 2 * i + 2) at_end u (omega arith) grown) in
        record { answers = rw (ne_eqb x 0 b) at E.answers; leaves = E.leaves; long = E.long; holds = E.holds }

  pub ends_all : (i : ℕ) (w : List ℕ) → i ≤ n → n ≤ i → SoFar s e l w₀ steps i w → Ends s e l w₀ steps (record { refusal = 0; place = 0; count = n }) w
  unfolding ran_answer ◌if◌else◌
  ends_all i w a b F = ends n 0 w (λ d K. ended s.level d w₀ steps n q i w a b (F.running d K)) (holds_more s (256 + 2 * i) at_end w (omega arith) F.holds)
