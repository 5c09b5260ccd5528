use Rattle.std.proofs.Common.{refl, ap, ◌∙◌}
use Rattle.tv_quantifiers.specs.Runs.{owed}
use Rattle.tv_quantifiers.proofs.Running.{inner-fewer, outer-fewer, moved-on}
use Rattle.tv_quantifiers.proofs.runs.+advance.Goals as goal

pub returns-in_err-found-in-Some-clause-fewer : goal.returns-in_err-found-in-Some-clause-fewer
returns-in_err-found-in-Some-clause-fewer t c none =
    inner-fewer c.args.size c.args.levels.now c.in-Some.level.now c.in-Some.inner.now c.advance.new.levels
    c.in-Some.ensures.cases.0 c.advance.ensures.turns (c.in_err-found-in-Some.ensures.fewer refl)

pub returns-in_ok-found-in-Some-clause-next : goal.returns-in_ok-found-in-Some-clause-next
returns-in_ok-found-in-Some-clause-next t c none s a f all =
    ap (λ ls. owed s c.args.size a ls f c.args.k) c.in-Some.ensures.cases.0
    ∙ moved-on s c.args.size all c.in-Some.level.now c.take.new.self c.in-Some.inner.now c.advance.new.levels a f
    c.args.k c.in_ok-found-in-Some.found c.take.ensures.same.0 c.take.ensures.same.1 (c.take.ensures.next none).0
    (c.take.ensures.next none).1 (c.take.ensures.next none).2
    (c.in_ok-found-in-Some.ensures.done s (Rattle.tv_model.specs.Truth.put a c.in-Some.level.now.var.0 c.in-Some.level.now.at) f)
    (c.in_ok-found-in-Some.ensures.fresh refl) (c.advance.ensures.same f)

pub returns-in_ok-found-in-Some-clause-fewer : goal.returns-in_ok-found-in-Some-clause-fewer
returns-in_ok-found-in-Some-clause-fewer t c none =
    outer-fewer c.args.size c.args.levels.now c.in-Some.level.now c.take.new.self c.in-Some.inner.now
    c.advance.new.levels c.in-Some.ensures.cases.0 c.advance.ensures.turns (c.take.ensures.next none).0
    (c.take.ensures.next none).1 (c.in_ok-found-in-Some.ensures.fresh refl)
