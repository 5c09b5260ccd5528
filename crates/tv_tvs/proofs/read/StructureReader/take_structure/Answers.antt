use Rattle.std.proofs.Common.{subst}
use Rattle.tv_tvs.specs.Targets.{IsRead}
use Rattle.tv_tvs.proofs.read.StructureReader.take_structure.Goals as goal

pub returns-clause-over : goal.returns-clause-over
returns-clause-over c =
    let read = c.in_ok-s.ensures.over c.self.inside.vocab.now c.structure-found.ensures.over
    in let one = subst (λ v. IsRead v c.in_ok-s.s) c.self.view_is read
    in (one.over, one.fresh)
