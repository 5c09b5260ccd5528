use Rattle.std.proofs.Common.{◌∙◌, arith}
use Rattle.tv_row.proofs.RowOps.{read_holds, read_row}
use Rattle.tv_row.proofs.packed.PackedWords.row_more.Goals as goal

pub held-requires : goal.held-requires
held-requires c =
    read_holds c.args.self.now.words c.loop-p.held c.args.start c.args.size c.loop-p.p c.len.ensures.words c.requires.size c.requires.words
    c.requires.unused (omega (arith, c.div_ceil-p-end.ensures)) c.loop-p.invariant

pub returns : goal.returns
returns c =
    c.held.ensures
    ∙ read_row c.args.self.now.words c.loop-p.held c.args.start c.args.size c.loop-p.p c.len.ensures.words c.requires.size c.requires.words
    c.requires.unused (omega (arith, c.div_ceil-p-end.ensures)) c.loop-p.invariant
