-- The array holds 0 everywhere, and 0 is read past its end.
use mathlib.Core.Path.{fun_ext}
use Rattle.tv_concrete.proofs.Lists.{get_or-replicate_zero}
use Rattle.tv_concrete.proofs.heap_list.Values.blank.Goals as goal

pub returns : goal.returns
returns c = fun_ext (λ v. get_or-replicate_zero 256 v)
