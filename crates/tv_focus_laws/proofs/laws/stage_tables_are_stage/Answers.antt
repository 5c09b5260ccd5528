use Rattle.tv_focus_laws.proofs.StageTables.{stage_tables_are_stage}
use Rattle.tv_focus_laws.proofs.laws.stage_tables_are_stage.Goals as goal

pub returns : goal.returns
returns c = stage_tables_are_stage
