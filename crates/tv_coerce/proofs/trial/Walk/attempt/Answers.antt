use Rattle.std.proofs.Common.{◌∙◌, ap, arith, subst, sym}
use Rattle.tv_rules.specs.EntryForms.{rules_of}
use Rattle.std.specs.Global.{Vec}
use Rattle.tv_eval.specs.Bound.{bound_room, bound_structure}
use Rattle.tv_coerce.specs.Attempts.{AreAsked}
use Rattle.tv_coerce.specs.Ready.{CanCoerce}
use Rattle.tv_coerce.specs.Trying.{IsTrialResult}
use Rattle.tv_coerce.specs.declared.noted.Ask.{Ask}
use Rattle.tv_coerce.proofs.Attempting.{attempted-all, attempted-asked, attempted-more, kin-below}
use Rattle.tv_coerce.proofs.trial.Walk.attempt.Goals as goal

pub returns-then-has_some-clause-attempted : goal.returns-then-has_some-clause-attempted
returns-then-has_some-clause-attempted c =
    let asks = c.find.new.self.noted.list
    in let found = subst (IsTrialResult c.args.closed.now c.in-Some.number c.args.s.now asks.items) c.in-Possible.is c.in_ok-find.ensures.found
    in subst (λ (list : Vec Ask). AreAsked (rules_of c.args.closed.now) c.args.s.now c.take.new.self
    c.in-Some.number list.items)
    (sym c.take_asks.ensures)
    (attempted-asked c.args.closed.now c.args.s.now c.in-Some.number c.loop-number.waiting c.take.new.self
    c.args.self.now.evaluator
    c.loop-number.self.evaluator c.find.new.self.evaluator c.loop-number.invariant.0 c.in-Some.ensures.0
    c.in-Some.ensures.1 c.in_ok-find.ensures.same
    asks.items found c.if-has_some.ensures)

pub find-requires-clause-structure : goal.find-requires-clause-structure
find-requires-clause-structure c = ap bound_structure c.loop-number.invariant.0.same ∙ c.requires.structure

pub find-requires-clause-rules : goal.find-requires-clause-rules
find-requires-clause-rules c =
    subst (λ e. CanCoerce (rules_of c.args.closed.now) c.args.s.now (bound_room e)) (sym
    c.loop-number.invariant.0.same) c.requires.rules

pub remove_all-requires : goal.remove_all-requires
remove_all-requires c =
    kin-below c.args.closed.now c.in-Some.number c.kin.result.now c.take.new.self c.kin.ensures
    (c.in-Some.ensures.1.count ∙ c.loop-number.invariant.0.count)

pub loop-number-smaller : goal.loop-number-smaller
loop-number-smaller c = omega (arith, c.remove_all.ensures.fewer, c.in-Some.ensures.1.fewer)

pub loop-number-preserved : goal.loop-number-preserved
loop-number-preserved c =
    let asks = c.find.new.self.noted.list
    in let found = subst (IsTrialResult c.args.closed.now c.in-Some.number c.args.s.now asks.items) c.in-Possible.is c.in_ok-find.ensures.found
    in (
      attempted-more c.args.closed.now c.args.s.now c.in-Some.number c.loop-number.waiting c.take.new.self
          c.args.self.now.evaluator
          c.loop-number.self.evaluator c.find.new.self.evaluator c.loop-number.invariant.0 c.in-Some.ensures.0
          c.in-Some.ensures.1
          c.in_ok-find.ensures.same asks.items c.kin.result.now c.remove_all.new.self found c.if-has_some.ensures
          c.kin.ensures
          c.remove_all.ensures,
      c.if-has_some.ensures,
    )

pub returns-clause-attempted : goal.returns-clause-attempted
returns-clause-attempted c =
    attempted-all (rules_of c.args.closed.now) c.args.s.now c.loop-number.waiting c.loop-number.invariant.0.rest c.in_default.ensures.0
