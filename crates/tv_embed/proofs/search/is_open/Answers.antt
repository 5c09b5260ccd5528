use Rattle.std.proofs.Common.{Bool, true, false, arith}
use Rattle.std.specs.Bool.{OnFalse}
use Rattle.tv_embed.proofs.BoundLaws.{out_of_reach}
use Rattle.tv_embed.proofs.search.is_open.Goals as goal

mapped : {P Q : Type 0} → (b : Bool) → (P → Q) → OnFalse b P → OnFalse b Q
mapped true f p = tt
mapped false f p = f p

pub are_in_reach-requires : goal.are_in_reach-requires
are_in_reach-requires c = omega (arith, c.requires.bounds.count, c.size.ensures.kept.table.size)

pub returns : goal.returns
returns c =
    mapped c.are_in_reach.result
    (out_of_reach c.args.small.now c.args.large.now c.args.bounds.now c.args.images.now c.requires.bounds)
    c.are_in_reach.ensures
