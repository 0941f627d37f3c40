-- The records fill their bytes, since there are as many; what is left is as long as a trailer.
use mathlib.Core.Path.{refl, sym, ap, ap₂, ◌∙◌}
use mathlib.Core.List.{List, ◌++◌}
use Prim.Native.Nat.{ℕ, ◌-◌}
use native.Mathlib.Omega.{arith}
use lib.ListN.{length}
use lib.Seq.{length-take-le}
use Rattle.fault.specs.Bytes.{most_steps, trailer_bytes}
use Rattle.service_log.specs.Lines.{log_steps}
use Rattle.service_log.proofs.LinesLaws.{steps-few}
use Rattle.replay.specs.Made.{raised}
use Rattle.replay.proofs.MadeLaws.{tail_long, put_tail, steps-fill, filled_long}
use Rattle.replay.proofs.append.Goals as goal

pub slice_bounds-take_lines-end-2 : goal.slice_bounds-take_lines-end-2
slice_bounds-take_lines-end-2 c = sym (length-take-le _ _ (omega arith))

pub close-requires : goal.close-requires
close-requires c = let a = c.args in
    let ss = log_steps a.log.now in
    let z = steps-fill ss a.out.now (length a.out.now - trailer_bytes) c.requires.3 refl c.take_lines.ensures.out_after in
    let f = steps-few most_steps a.log.now in (
      c.requires.0,
      tail_long c.take_lines.new.out a.out.now (length a.out.now - trailer_bytes) (filled_long ss z ∙ omega (arith, c.requires.3)) trailer_bytes (omega (arith, c.requires.3)),
      omega (arith, c.requires.1, c.requires.3, f),
      omega (arith, c.requires.2, c.requires.3, f),
    )

pub returns : goal.returns
returns c = let a = c.args in
    let ss = log_steps a.log.now in
    let z = steps-fill ss a.out.now (length a.out.now - trailer_bytes) c.requires.3 refl c.take_lines.ensures.out_after in
    put_tail c.take_lines.new.out a.out.now (length a.out.now - trailer_bytes) (filled_long ss z ∙ omega (arith, c.requires.3)) c.close.new.out
    ∙ ap₂ (λ (x y : List ℕ). x ++ y) z (c.close.ensures ∙ ap (raised a.bundle.now) (omega (arith, c.requires.3)))
