use Rattle.tv_expand.proofs.SetLaws.{known_found, known_none}
use Rattle.tv_expand.proofs.sets.find_set.Goals as goal

pub returns-in-Some : goal.returns-in-Some
returns-in-Some c = known_found c.args.sets.now.entries c.args.name.now c.in-Some.words.now c.in-Some.ensures.value

pub returns-in-None : goal.returns-in-None
returns-in-None c = known_none c.args.sets.now.entries c.args.name.now c.in-None.ensures.value
