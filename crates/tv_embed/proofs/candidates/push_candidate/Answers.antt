use Rattle.tv_embed.proofs.CandidateLaws.{candidates_push}
use Rattle.tv_embed.proofs.candidates.push_candidate.Goals as goal

pub returns-in_ok-push : goal.returns-in_ok-push
returns-in_ok-push c =
    rw (c.in_ok-push.ensures)
    (candidates_push c.args.small.now c.args.large.now c.args.u c.args.w c.args.list.now c.requires.so_far
    (c.is_candidate.ensures.0 c.if-is_candidate.true))
