use Rattle.tv_tvs.proofs.Valid.{valid_fits}
use Rattle.tv_report.proofs.write.write_report.Goals as goal

pub write_nodes-requires-clause-vocabulary : goal.write_nodes-requires-clause-vocabulary
write_nodes-requires-clause-vocabulary c = (valid_fits c.args.program.now c.requires.valid).vocabulary
