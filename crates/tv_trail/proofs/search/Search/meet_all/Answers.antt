use Rattle.std.proofs.Common.{◌≡◌, ◌⊎◌, length, rules, sym}
use Rattle.std.specs.Prelude.{Contains}
use Rattle.std.proofs.lemmas.Iterator.Adapters.{YieldsList-from_vec}
use Rattle.std.proofs.lemmas.Iterator.Consumers.{YieldsList-turn}
use Rattle.std.proofs.lemmas.Result.{err_from_is_err_and}
use Rattle.tv_work.specs.Reach.{Point}
use Rattle.tv_work.proofs.Causes.{meet-weaker}
use Rattle.tv_trail_laws.specs.Met.{IsMet}
use Rattle.tv_trail.proofs.Kept.{met-next, next-cases}
use Rattle.tv_trail.proofs.search.Search.meet_all.Goals as goal

pub loop-s-preserved : goal.loop-s-preserved
loop-s-preserved c =
    let turn = YieldsList-turn
    (YieldsList-from_vec {s = c.into_iter-s-iterator.result} c.args.results (search rules) (search rules))
    c.loop-s.yielded c.loop-s.s-iterator c.loop-s.yielded_by c.next.result c.next.new.self c.in-Some.s
    c.in-Some.is
    c.next.ensures.steps
    in met-next c.args.max c.args.node c.args.origin c.args.results c.loop-s.yielded c.in-Some.s
    c.args.self.now c.loop-s.self c.loop-s.invariant (length c.loop-s.yielded, turn.0, sym turn.1)
    c.meet.new.self
    c.in_ok-meet.ensures.meets c.in_ok-meet.ensures.has c.in_ok-meet.ensures.within
    c.in_ok-meet.ensures.listed

pub returns-in_err-meet-clause-cause : goal.returns-in_err-meet-clause-cause
returns-in_err-meet-clause-cause c =
    let turn = YieldsList-turn
    (YieldsList-from_vec {s = c.into_iter-s-iterator.result} c.args.results (search rules) (search rules))
    c.loop-s.yielded c.loop-s.s-iterator c.loop-s.yielded_by c.next.result c.next.new.self c.in-Some.s
    c.in-Some.is
    c.next.ensures.steps
    in let p = err_from_is_err_and c.from_residual.result c.from_residual.ensures.1
    in let P : Point → Type 0
    = λ x. IsMet c.loop-s.self.found x ⊎ (x ≡ record { node = c.args.node; structure = c.in-Some.s })
    in let Q : Point → Type 0
    = λ x. IsMet c.args.self.now.found x ⊎ ((x.node ≡ c.args.node) × Contains c.args.results x.structure)
    in rw (p.1, p.2)
    (meet-weaker c.args.max P Q
    (next-cases c.args.max c.args.node c.args.origin c.args.results c.loop-s.yielded c.in-Some.s
    c.args.self.now c.loop-s.self c.loop-s.invariant (length c.loop-s.yielded, turn.0, sym turn.1))
    c.in_err-meet.field-0.0 c.in_err-meet.ensures.cause)
