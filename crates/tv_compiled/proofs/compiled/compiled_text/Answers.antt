use Rattle.std.proofs.Common.{Ok, subst}
use Rattle.tv_texts.specs.Meaning.{MeansProgram}
use Rattle.tv_compiled.proofs.compiled.compiled_text.Goals as goal

pub returns-then-branch-clause-means : goal.returns-then-branch-clause-means
returns-then-branch-clause-means c =
    subst (λ t. MeansProgram t (Ok c.args.program.now)) c.deref.ensures.value
    (c.in_ok-means.ensures.value.0 c.if-branch.true)
