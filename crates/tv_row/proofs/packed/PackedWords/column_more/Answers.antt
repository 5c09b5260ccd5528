use Rattle.std.proofs.Common.{◌+◌, ◌*◌, arith}
use Rattle.std.proofs.lemmas.List.FromFn.{fill_by_all}
use Rattle.tv_kleene.specs.declared.K3.TheVariants.{No}
use Rattle.tv_row.specs.Places.{value_in}
use Rattle.tv_row.proofs.packed.PackedWords.column_more.Goals as goal

pub returns : goal.returns
returns c =
    fill_by_all (λ u. value_in c.args.self.now.words (c.args.start + u * c.args.width) c.args.column) c.loop-u.values c.args.rows No
    c.loop-u.invariant.0 (λ v lt. c.loop-u.invariant.1 v (omega arith))
