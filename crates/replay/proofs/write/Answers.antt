-- The bytes before the trailer, and then the steps and the trailer.
use mathlib.Core.Path.{sym, ap, ap₂, ◌∙◌}
use mathlib.Core.List.{List, ◌++◌}
use Prim.Native.Nat.{ℕ}
use native.Mathlib.Omega.{arith}
use lib.ListN.{length}
use lib.Seq.{length-take-le}
use borrow.Author.Rules.{rules}
use Rattle.fault.specs.Bytes.{trailer_of}
use Rattle.replay.specs.Made.{made}
use Rattle.replay.proofs.MadeLaws.{tail_long, put_tail}
use Rattle.replay.proofs.write.Goals as goal

pub overflow_sub-at : goal.overflow_sub-at
unfolding made
overflow_sub-at c = search rules

pub slice_bounds-copy-end : goal.slice_bounds-copy-end
unfolding made
slice_bounds-copy-end c = sym (length-take-le _ _ (omega arith))

pub slice_bounds-copy-end-2 : goal.slice_bounds-copy-end-2
unfolding made
slice_bounds-copy-end-2 c = search rules

pub slice_bounds-copy-end-3 : goal.slice_bounds-copy-end-3
unfolding made
slice_bounds-copy-end-3 c = sym (length-take-le _ c.args.out.now (omega (arith, c.requires.3)))

pub copy-requires : goal.copy-requires
unfolding made
copy-requires c = length-take-le (trailer_of c.args.bundle.now) c.args.out.now (omega (arith, c.requires.3)) ∙ sym (length-take-le (trailer_of c.args.bundle.now) c.args.bundle.now (omega arith))

pub slice_bounds-append-count : goal.slice_bounds-append-count
unfolding made
slice_bounds-append-count c = search rules

pub slice_bounds-append-start : goal.slice_bounds-append-start
unfolding made
slice_bounds-append-start c = search rules

pub slice_bounds-append-end : goal.slice_bounds-append-end
unfolding made
slice_bounds-append-end c = search rules

pub append-requires : goal.append-requires
unfolding made
append-requires c = let a = c.args in (
  c.requires.0,
  c.requires.1,
  c.requires.2,
  tail_long c.copy.new.to a.out.now (trailer_of a.bundle.now) (ap length c.copy.ensures ∙ length-take-le (trailer_of a.bundle.now) a.bundle.now (omega arith)) _ (omega (arith, c.requires.0, c.requires.3)),
)

pub shape_of-out : goal.shape_of-out
unfolding made
shape_of-out c = search rules

pub returns : goal.returns
unfolding made
returns c = let a = c.args in
    put_tail c.copy.new.to a.out.now (trailer_of a.bundle.now) (ap length c.copy.ensures ∙ length-take-le (trailer_of a.bundle.now) a.bundle.now (omega arith)) c.append.new.out
    ∙ ap₂ (λ (x y : List ℕ). x ++ y) c.copy.ensures c.append.ensures
