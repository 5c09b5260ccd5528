use Rattle.std.proofs.lemmas.List.{take_all}
use Rattle.tv_structure_form.proofs.OriginLaws.{copies_count}
use Rattle.tv_struct.proofs.origins.copies.Goals as goal

pub returns-clause-count : goal.returns-clause-count
returns-clause-count c =
    rw (c.loop-u.invariant, take_all c.loop-u.u c.args.parts.now c.loop-u-test.false) (copies_count 0 c.args.parts.now)
