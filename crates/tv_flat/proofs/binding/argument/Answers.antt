use Rattle.tv_flat.proofs.BindingLaws.{argument_found, argument_none}
use Rattle.tv_flat.proofs.binding.argument.Goals as goal

pub returns-in-Some : goal.returns-in-Some
returns-in-Some c = argument_found c.args.params.now.entries c.args.word.now c.in-Some.by.now c.in-Some.ensures.value

pub returns-in-None : goal.returns-in-None
returns-in-None c = argument_none c.args.params.now.entries c.args.word.now c.in-None.ensures.value
