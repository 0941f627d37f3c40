-- What a run looks at determines what the calls answer and leave; and a table in front of a schedule is as one beside it.
use mathlib.Core.Path.{◌≡◌, refl, sym, ap, ◌∙◌}
use mathlib.Core.List.{List, ◌++◌}
use Prim.Native.Nat.{ℕ, ◌*◌}
use lib.ListN.{length, drop}
use Rattle.fault.specs.Tests.{◌below◌, ◌differs◌}
use Rattle.fault.specs.Fault.{refused, nothing_done, ◌if◌else◌}
use Rattle.fault.proofs.FaultLaws.{Clean}
use Rattle.table.specs.Refusals.{table_fault}
use Rattle.bundle.specs.Bundle.{t_of, f_of, form_of, level_of, correct_of, front_length, starts_of}
use Rattle.bundle.specs.Refusals.{fault_with}
use Rattle.bundle.proofs.BundleLaws.{use_standing}
use Rattle.paper.specs.Words.{start}
use Rattle.paper.specs.Form.{wide}
use Rattle.paper.specs.Run.{run}
use Rattle.words.specs.declared.Sizes.{Sizes}
use Rattle.words.specs.Words.{room_of}
use Rattle.rules.specs.Design.{design_of}
use Rattle.engine.specs.Design.{sizes_of, design_with, sizes_in, design_in}
use Rattle.engine.specs.Entry.{schedule_of, ran_with, ran_of, ran_answer, run_answer, run_words}
use Rattle.agree.specs.Translation.{moved}
use Rattle.translate.specs.Written.{rewritten, translation_with}
use Rattle.translate.specs.Entry.{translation_of, no_other, wrote, translate_to_answer, translate_to_bytes}
use Rattle.first_step.specs.declared.First.{First}
use Rattle.first_step.specs.Entry.{first_after, after_run, first_answer}
use Rattle.same.specs.Same.{SameTable, SameRun}
use Rattle.same.proofs.Tables.{fault-same, design-same}

-- the same sizes, design, starts and steps give the same run
pub ran_by_lem : (b st b' st' : List ℕ) → sizes_in b st ≡ sizes_in b' st' → design_in b st ≡ design_in b' st' → starts_of b ≡ starts_of b' → schedule_of b ≡ schedule_of b' → ran_of b st ≡ ran_of b' st'
unfolding ran_with
ran_by_lem b st b' st' s d w ss = λ i. run (s i).level (d i) (start (s i).types (wide (s i).level) (w i)) (ss i)

-- ---- one law: the same refusal, sizes, design and run give the same answers
module _ {b st b' st' : List ℕ} (E : SameRun b st b' st') where
  pub run-same : (lent : ℕ) → run_answer b st lent ≡ run_answer b' st' lent
  unfolding run_answer
  run-same lent =
      λ i. nothing_done (E.fault i) if (E.fault i).number differs 0 else nothing_done (refused 30) if lent below room_of (E.sizes i) else ran_answer (E.ran i)

  pub words_same : (words : List ℕ) → run_words b st words ≡ run_words b' st' words
  unfolding run_words
  words_same words =
      λ i. words if (E.fault i).number differs 0 else words if length words below room_of (E.sizes i) else (E.ran i).left ++ drop (room_of (E.sizes i)) words

  pub first-same : first_answer b st ≡ first_answer b' st'
  unfolding first_answer after_run
  first-same =
      λ i. First.Refused (E.fault i).number (E.fault i).place if (E.fault i).number differs 0 else first_after (E.sizes i).level (E.design i) (E.ran i)

-- of one bundle the translations too, since the rest of its bytes stays
module _ {b st st' : List ℕ} (E : SameRun b st b st') where
  written_same : (k : ℕ) → translation_of b st k ≡ translation_of b st' k
  unfolding translation_with
  written_same k = λ i. rewritten b (moved (E.sizes i).level (level_of k) (E.design i) (λ j. start (E.sizes i).types (wide j) (starts_of b)) (schedule_of b)) k

  pub translate-same : (k lent : ℕ) → translate_to_answer b st k lent ≡ translate_to_answer b st' k lent
  unfolding translate_to_answer
  translate-same k lent =
      λ i. nothing_done (E.fault i) if (E.fault i).number differs 0 else nothing_done (refused 31) if no_other b k else
      nothing_done (refused 30) if lent below length b else wrote (length b) (E.ran i)

  pub bytes_same : (k : ℕ) (out : List ℕ) → translate_to_bytes b st k out ≡ translate_to_bytes b st' k out
  unfolding translate_to_bytes
  bytes_same k out =
      λ i. out if (E.fault i).number differs 0 else out if no_other b k else out if length out below length b else
      out if (E.ran i).refusal differs 0 else written_same k i ++ drop (length b) out

-- ---- beside tables that say the same
module _ (b : List ℕ) {s s' : List ℕ} (E : SameTable s s') (c : Clean (table_fault s)) (c' : Clean (table_fault s')) where
  sizes-same : sizes_of s b ≡ sizes_of s' b
  sizes-same =
      λ i. record { level = level_of (form_of b); correct = correct_of b; faulty = f_of b; types = E.types i; rules = E.rules i; wide = wide (level_of (form_of b)); row = E.types i * wide (level_of (form_of b)); tolerated = t_of b }

  pub beside : front_length b ≡ 0 → SameRun b s b s'
  beside z =
      let u = sym (use_standing b s refl z) in
      let u' = use_standing b s' refl z in
      let sizes = ap (λ (x : List ℕ). sizes_of x b) u ∙ sizes-same ∙ ap (λ (x : List ℕ). sizes_of x b) u' in
      let design =
      ap (λ (x : List ℕ). design_with x b) u ∙ design-same s s' E (sizes_of s b) (t_of b) refl refl ∙
      ap (λ (z : Sizes). design_of z (t_of b) s') sizes-same ∙ ap (λ (x : List ℕ). design_with x b) u' in
      record {
        fault = ap (λ (x : List ℕ). fault_with x b) u ∙ fault-same s s' E b c c' ∙ ap (λ (x : List ℕ). fault_with x b) u';
        sizes = sizes;
        design = design;
        ran = ran_by_lem b s b s' sizes design refl refl;
      }
