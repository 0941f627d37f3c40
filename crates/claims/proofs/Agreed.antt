-- Demand 3, for the schedules of a bundle that is read.
use mathlib.Core.Path.{◌≡◌, refl}
use mathlib.Core.List.{List}
use Prim.Native.Nat.{ℕ, suc, ◌≤◌}
use Rattle.bundle.specs.Bundle.{table_in_use}
use Rattle.bundle.proofs.BundleLaws.{read_by}
use Rattle.paper.specs.Paper.{Design, Step, stop_rule}
use Rattle.paper.specs.Run.{run}
use Rattle.agree.specs.Picture.{Remembers, Pictured}
use Rattle.agree.specs.Agreement.{RunThere, RunBack}
use Rattle.agree.proofs.Runs.{forward_run, backward_run, all_forms}
use Rattle.engine.specs.Design.{design_in}
use Rattle.translate.proofs.ReadLaws.{kept, begins}
use Rattle.claims.specs.Agreed.{begin_in, Agreed, ReadAgreed}
use Rattle.claims.proofs.FirstAgreed.{first_agreed}
use Rattle.claims.proofs.FirstCall.{few_rules}

-- ---- schedules
module _ (j : ℕ) (d : Design) (K : Remembers d) (few : d.rules ≤ stop_rule) (w v : List ℕ) (X : Pictured j d w v) where
  there : (ss : List Step) → (run j d w ss).refusal ≡ 0 → RunThere j d w v ss
  there ss h = forward_run j d K w v ss X h

  back : (ss : List Step) → (run (suc j) d v ss).refusal ≡ 0 → RunBack j d w v ss
  back ss h = backward_run j d K w v ss X h

  agreed : Agreed j d w v
  agreed = record {
    begins = X;
    there = there;
    back = back;
    first_there = λ ss h i. first_agreed j d K few _ _ ((there ss h).pictured i);
    first_back = λ ss h i. first_agreed j d K few _ _ ((back ss h).pictured i);
  }

-- ---- a bundle that is read
pub all_agreed : ReadAgreed
all_agreed b standing z =
    let t = table_in_use b standing in
    let R = read_by b standing refl z refl in
    let d = design_in b standing in
    record {
      neighbours = λ j. agreed j d (kept t b R) (few_rules b standing z) (begin_in j b standing) (begin_in (suc j) b standing) (begins t b R j);
      everywhere = λ k ss h. all_forms d (kept t b R) (λ i. begin_in i b standing) (begins t b R) k ss h;
    }
