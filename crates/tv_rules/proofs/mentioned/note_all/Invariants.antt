use Rattle.std.proofs.Common.{take}
use Rattle.tv_rules.specs.Noting.{Notes}
use Rattle.tv_rules.proofs.mentioned.note_all.Given as goal

abbrev pub invariant-loop-q : goal.invariant-loop-q
invariant-loop-q l = Notes (take l.q-index l.preds) l.number l.fn.lists.items l.lists.items
