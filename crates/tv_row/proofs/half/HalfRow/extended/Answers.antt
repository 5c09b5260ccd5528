use Rattle.std.proofs.Common.{map, arith}
use Rattle.tv_row.specs.RowForm.{half_word}
use Rattle.tv_row.proofs.HalfLaws.{next_holds, next_is}
use Rattle.tv_row.proofs.half.HalfRow.extended.Goals as goal

pub overflow_add-result : goal.overflow_add-result
overflow_add-result c = omega (arith, c.self.invariant.small)

pub invariant_of-result : goal.invariant_of-result
invariant_of-result c =
    next_holds (map half_word c.self.inside.bits) c.self.inside.size c.args.self.now c.self.invariant c.self.view_is c.requires

pub returns : goal.returns
returns c =
    next_is (map half_word c.self.inside.bits) c.self.inside.size c.args.self.now c.self.invariant c.self.view_is c.requires
