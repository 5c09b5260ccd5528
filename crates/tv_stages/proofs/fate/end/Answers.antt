use Rattle.tv_stages.proofs.Coercing.{kept-over}
use Rattle.tv_stages.proofs.fate.end.Goals as goal

pub blurred-requires : goal.blurred-requires
blurred-requires c =
    kept-over c.args.x.now.program.now c.args.s.now c.in-Kept.coerced c.in_ok-claim.field-0 c.in_ok-claim.ensures.fate
    c.in-Kept.is
