use Rattle.tv_flat.specs.FlatForm.{flat_of}
use Rattle.tv_vocab.proofs.valid.Programs.{valid_given}
use Rattle.tv_vocab.proofs.resolution.resolve.Goals as goal

pub returns-clause-valid : goal.returns-clause-valid
returns-clause-valid c is = valid_given (flat_of c.args.flat.now) c.flat_program.result c.flat_program.ensures is
