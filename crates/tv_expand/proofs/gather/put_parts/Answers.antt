use Rattle.std.proofs.Common.{sym}
use Rattle.tv_tree.specs.Copies.{part_of}
use Rattle.tv_expand.specs.Expansion.{gathered}
use Rattle.tv_flat.specs.Views.{binding_of}
use Rattle.tv_expand.specs.Views.{sets_of}
use Rattle.tv_expand.specs.States.{gathered_of}
use Rattle.tv_expand.proofs.StepLaws.{each_map}
use Rattle.tv_expand.proofs.gather.put_parts.Goals as goal

pub loop-part-init : goal.loop-part-init
loop-part-init c = sym (each_map (gathered (sets_of c.args.sets.now.entries) (binding_of c.args.binding.now)) part_of c.args.parts.now (gathered_of c.args.state.now))
