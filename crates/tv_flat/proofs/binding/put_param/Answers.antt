use Rattle.std.proofs.Common.{◌∙◌, ap}
use Rattle.tv_flat.specs.Views.{params_of}
use Rattle.tv_flat.proofs.BindingLaws.{bound_param}
use Rattle.tv_flat.proofs.binding.put_param.Goals as goal

pub returns : goal.returns
returns c = ap params_of c.in_ok-insert.ensures.entries ∙ bound_param c.args.params.now.entries c.args.word c.args.by
