use Rattle.std.proofs.Common.{◌+◌, ◌∙◌, arith}
use Rattle.std.proofs.lemmas.List.FromFn.{length-range_with_len, get_or-range_with_len}
use Rattle.std.specs.List.{range_with_len}
use Rattle.tv_structure_form.proofs.DrawnLaws.{IsMark-drawn, summary_at-past}
use Rattle.tv_struct.proofs.structure.Structure.with_new.Goals as goal

pub extended-requires-clause-mark : goal.extended-requires-clause-mark
extended-requires-clause-mark c =
    IsMark-drawn (range_with_len 0 (c.args.self.now.size + 1)) c.args.self.now c.args.self.now.size c.args.self.now.size
    (omega (arith, length-range_with_len 0 (c.args.self.now.size + 1)))
    (get_or-range_with_len 0 (c.args.self.now.size + 1) c.args.self.now.size 0 (omega arith) ∙ omega arith)
    (summary_at-past c.args.self.now c.args.self.now.size c.size-size.ensures.kept (omega arith))

pub drawn-requires-clause-mark : goal.drawn-requires-clause-mark
drawn-requires-clause-mark c =
    IsMark-drawn c.in_ok-origins.origins.items c.args.self.now c.size-size.result c.size-size.result
    (omega (arith, c.in_ok-origins.ensures.count))
    (rw c.in_ok-origins.ensures.items
    (get_or-range_with_len 0 (c.size-size.result + 1) c.size-size.result 0 (omega arith) ∙ omega arith))
    (summary_at-past c.args.self.now c.size-size.result c.size-size.ensures.kept (omega (arith, c.size-size.ensures.size)))
