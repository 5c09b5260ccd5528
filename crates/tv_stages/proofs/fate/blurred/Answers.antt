use Rattle.tv_stages.proofs.Coercing.{blurred-of}
use Rattle.tv_stages.proofs.fate.blurred.Goals as goal

pub returns : goal.returns
returns c =
    blurred-of c.args.x.now.program.now c.in_ok-copy.field-0 c.args.coerced.now c.into_blurred.result
    c.in_ok-copy.ensures.value c.requires c.into_blurred.ensures.exact c.into_blurred.ensures.kept
