use Rattle.std.proofs.Common.{◌∙◌}
use Rattle.tv_flat.specs.Views.{params_of, pairs_of}
use Rattle.tv_flat.proofs.BindingLaws.{innermost_replaced}
use Rattle.tv_flat.proofs.binding.replaced.Goals as goal

pub returns : goal.returns
returns c =
    c.innermost.ensures ∙ rw (c.argument.ensures, c.as_slice.ensures.value) (innermost_replaced (params_of c.args.binding.now.params.now.entries) (pairs_of c.args.binding.now.vars.items) c.args.word.now)
