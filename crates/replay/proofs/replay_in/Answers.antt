-- The written bundle is the given one with the log's steps, so that it lies where its trailer says; its run is then the engine's.
use mathlib.Core.Path.{ap, ◌∙◌}
use mathlib.Core.List.{List}
use Prim.Native.Nat.{ℕ}
use Rattle.paper.specs.Run.{run}
use Rattle.engine.specs.Entry.{schedule_of, start_in, ran_answer}
use Rattle.replay.proofs.EntryLaws.{made_parts}
use Rattle.replay.proofs.replay_in.Goals as goal

pub run_in-requires : goal.run_in-requires
run_in-requires c = (made_parts c.args.rules.sizes c.args.bundle.now c.args.log.now c.requires.0 c.write.ensures, c.requires.2)

pub returns : goal.returns
returns c = let s = c.args.rules.sizes in record { by_design = λ d K. c.ran.ensures ∙ c.run_in.ensures.by_design d K ∙ ap (λ (x : List ℕ). ran_answer (run s.level d (start_in s x) (schedule_of x))) c.write.ensures; by_design_2 = λ d K. c.run_in.ensures.by_design_2 d K ∙ ap (λ (x : List ℕ). (run s.level d (start_in s x) (schedule_of x)).left) c.write.ensures; out_after = c.write.ensures }
