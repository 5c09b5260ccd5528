use Rattle.std.proofs.Common.{◌≡◌}
use Rattle.tv_lemmas.proofs.Lists.{All-found}
use Rattle.tv_structure_form.specs.StructureForm.{arities_of}
use Rattle.tv_cover.specs.Listed.{structures_in}
use Rattle.tv_cover.proofs.targets.cover_at.Goals as goal

pub embedding_in-requires-clause-vocabulary : goal.embedding_in-requires-clause-vocabulary
embedding_in-requires-clause-vocabulary c =
    All-found (λ t. arities_of c.args.s.now ≡ arities_of t) (structures_in c.args.x.now) c.args.place c.at.result.now
    c.requires.vocabulary c.at.ensures.value
