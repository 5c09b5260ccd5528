use Rattle.std.proofs.Common.{◌≡◌, length, rules, sym}
use Rattle.std.specs.Prelude.{Contains}
use Rattle.std.proofs.lemmas.Iterator.Adapters.{YieldsList-from_vec}
use Rattle.std.proofs.lemmas.Iterator.Consumers.{YieldsList-turn}
use Rattle.std.proofs.lemmas.Result.{err_from_is_err_and}
use Rattle.tv_work.specs.Reach.{Point}
use Rattle.tv_work.proofs.Causes.{stop-on}
use Rattle.tv_work.proofs.Growing.{met-next, met-cause}
use Rattle.tv_work.proofs.search.Search.meet_all.Goals as goal

pub loop-s-preserved : goal.loop-s-preserved
loop-s-preserved c =
    let turn = YieldsList-turn
    (YieldsList-from_vec {s = c.into_iter-s-iterator.result} c.args.found (search rules) (search rules))
    c.loop-s.yielded c.loop-s.s-iterator c.loop-s.yielded_by c.next.result c.next.new.self c.in-Some.s
    c.in-Some.is
    c.next.ensures.steps
    in met-next c.args.max c.args.node c.args.found c.loop-s.yielded c.in-Some.s c.args.self.now c.loop-s.self
    c.meet.new.self
    c.loop-s.invariant (length c.loop-s.yielded, turn.0, sym turn.1)
    c.in_ok-meet.ensures.grows c.in_ok-meet.ensures.has c.in_ok-meet.ensures.only c.in_ok-meet.ensures.within

pub returns-in_err-meet-clause-cause : goal.returns-in_err-meet-clause-cause
returns-in_err-meet-clause-cause c =
    let turn = YieldsList-turn
    (YieldsList-from_vec {s = c.into_iter-s-iterator.result} c.args.found (search rules) (search rules))
    c.loop-s.yielded c.loop-s.s-iterator c.loop-s.yielded_by c.next.result c.next.new.self c.in-Some.s
    c.in-Some.is
    c.next.ensures.steps
    in let p = err_from_is_err_and c.from_residual.result c.from_residual.ensures.1
    in let P : Point → Type 0 = λ x. x ≡ record { node = c.args.node; structure = c.in-Some.s }
    in let Q : Point → Type 0 = λ x. (x.node ≡ c.args.node) × Contains c.args.found x.structure
    in rw (p.1, p.2)
    (stop-on c.args.max P Q c.args.self.now.listing c.loop-s.self.listing c.meet.new.self.listing
    c.loop-s.invariant.grows.nodes c.loop-s.invariant.grows.kept
    (met-cause c.args.max c.args.node c.args.found c.loop-s.yielded c.in-Some.s c.args.self.now c.loop-s.self
    c.loop-s.invariant
    (length c.loop-s.yielded, turn.0, sym turn.1))
    c.in_err-meet.field-0.0 c.in_err-meet.ensures.cause)
