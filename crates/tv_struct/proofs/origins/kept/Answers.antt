use Rattle.std.proofs.lemmas.List.{take_all}
use Rattle.tv_structure_form.proofs.OriginLaws.{kept_count}
use Rattle.tv_struct.proofs.origins.kept.Goals as goal

pub returns-clause-count : goal.returns-clause-count
returns-clause-count c =
    rw (c.loop-u.invariant, take_all c.loop-u.u c.args.keep.now c.loop-u-test.false) (kept_count 0 c.args.keep.now)
