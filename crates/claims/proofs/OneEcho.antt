-- Where rule 1 asks for t in place of t + 1, one echo from the faulty board brings board 0 from V0 to SE: the figure `one_enough` refutes the claim.
use mathlib.Core.Path.{◌≡◌, refl, sym, ap, ◌∙◌}
use mathlib.Core.List.{List}
use Prim.Native.Nat.{ℕ, zero, suc}
use native.Mathlib.Omega.{arith}
use lib.ListN.{get_or, replicate}
use Rattle.fault.specs.declared.Answer.{Answer}
use Rattle.bundle.specs.Bundle.{front_length, starts_of}
use Rattle.paper.specs.Words.{state}
use Rattle.echo.specs.Echo.{asking, one_echo}
use Rattle.figures.proofs.Outline.{one-enough-holds}
use Rattle.claims.specs.NoEcho.{beside, InV0, whole, NoEcho}

in_V0 : InV0 (asking 0) (one_echo 1 0 3) (asking 0)
unfolding front_length starts_of
in_V0 = record { uses = beside refl refl; starts = λ p _. zeros p }
  where
    zeros : (p : ℕ) → get_or (starts_of (one_echo 1 0 3)) p 0 ≡ 0
    zeros zero = refl
    zeros (suc zero) = refl
    zeros (suc (suc zero)) = refl
    zeros (suc (suc (suc p))) = refl

pub one-enough : NoEcho (asking 0) → ⊥
unfolding state
one-enough N =
    let e : ◌≡◌ {A = ℕ} 2 0 =
    sym (ap (λ (w : List ℕ). get_or w 0 0) one-enough-holds.1) ∙ (N.runs (one_echo 1 0 3) (asking 0) (replicate 8 9) in_V0 (whole (ap (λ (a : Answer). a.refusal) one-enough-holds.0))).states 0 (omega arith) in
    omega arith
