use Rattle.std.proofs.Common.{ap, arith, ◌∙◌}
use Rattle.tv_trail_laws.specs.declared.trail.Link.{Link}
use Rattle.tv_trail.specs.Reasons.{last_from}
use Rattle.tv_trail.proofs.Ends.{last-at}
use Rattle.tv_trail.proofs.cause.last.Goals as goal

pub returns-in-len1-up : goal.returns-in-len1-up
returns-in-len1-up c =
    let opening = c.args.trail.now.opening in
    ap (λ (l : Link). l.structure) c.link-item.is
    ∙ last-at opening c.as_slice.result.now c.link-item.result (omega (arith, c.in-len1-up.len_at_least))
    ∙ ap (last_from opening) c.as_slice.ensures
