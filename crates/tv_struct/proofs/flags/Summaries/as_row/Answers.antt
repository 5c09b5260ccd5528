use Rattle.std.proofs.Common.{◌∙◌, Bool, List, map, ap}
use Rattle.tv_struct.specs.StructureRows.{flag_value}
use Rattle.tv_struct.proofs.flags.Summaries.as_row.Goals as goal

pub returns : goal.returns
returns c = c.as_row.ensures ∙ c.self.invariant ∙ ap (λ (flags : List Bool). map flag_value flags) c.self.view_is
