use Rattle.tv_source_syntax.proofs.Sources as sources
use Rattle.tv_source_syntax.proofs.laws.one_source.Goals as goal

pub returns : goal.returns
returns c = sources.one_source
