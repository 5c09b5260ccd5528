-- The vocabulary of a valid program.
use Rattle.tv_model.specs.declared.program.Program.{Program}
use Rattle.tv_model.specs.Program.{program_of}
use Rattle.tv_model.specs.Valid.{IsValid}
use Rattle.tv_tvs.specs.Laws.{ValidProgramsFit}
use Rattle.tv_tvs.specs.Meaning.{IsVocabulary}

pub vocabulary_fits : (p : Program) → ValidProgramsFit → IsValid (program_of p) → IsVocabulary p.vocab
vocabulary_fits p fits valid = (fits p valid).vocabulary
