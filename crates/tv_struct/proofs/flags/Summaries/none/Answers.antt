use Rattle.std.proofs.Common.{◌∙◌, ap, subst, sym}
use Rattle.tv_struct.specs.StructureRows.{flags_of}
use Rattle.tv_struct.proofs.FlagLaws.{IsFlagRow, IsFlagRow-none, flags_none}
use Rattle.tv_struct.proofs.flags.Summaries.none.Goals as goal

pub invariant_of-result : goal.invariant_of-result
invariant_of-result c = subst IsFlagRow (sym (c.of-2.ensures ∙ c.of.ensures)) (IsFlagRow-none c.args.size)

pub returns : goal.returns
returns c = ap flags_of (c.of-2.ensures ∙ c.of.ensures) ∙ flags_none c.args.size
