use Rattle.tv_structure_form.proofs.DrawnLaws.{IsMark-split}
use Rattle.tv_struct.proofs.structure.Structure.split.Goals as goal

pub drawn-requires-in-Some-clause-mark : goal.drawn-requires-in-Some-clause-mark
drawn-requires-in-Some-clause-mark c =
    rw (c.in_ok-origins.ensures.items, c.total.ensures)
    (IsMark-split c.args.self.now c.args.parts.now c.in-Some.u c.size.ensures.kept
    (rw (← c.self.view_is) c.in-Some.is) c.requires.individuals c.requires.each)
