-- The four tests are those of `not_admitted`; the product k·t fits, since both are bytes.
use borrow.Author.Rules.{rules}
use Rattle.bundle.specs.Refusals.{not_admitted}
use Rattle.bundle.proofs.not_admitted.Goals as goal

pub n-n-requires : goal.n-n-requires
unfolding not_admitted
n-n-requires c = search rules

pub t-t-requires : goal.t-t-requires
unfolding not_admitted
t-t-requires c = search rules

pub outside-requires : goal.outside-requires
unfolding not_admitted
outside-requires c = search rules

pub times-requires : goal.times-requires
unfolding not_admitted
times-requires c = search rules

pub f-requires : goal.f-requires
unfolding not_admitted
f-requires c = search rules

pub form-requires : goal.form-requires
unfolding not_admitted
form-requires c = search rules

pub returns : goal.returns
unfolding not_admitted
returns c = cc
