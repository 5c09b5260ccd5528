use Rattle.std.proofs.Common.{◌∙◌, ◌++◌, length, ap, map, subst, sym}
use Rattle.std.specs.List.{range_with_len}
use Rattle.std.proofs.lemmas.Result.{IfOk-weaker}
use Rattle.tv_rules.specs.EntryForms.{rules_of}
use Rattle.tv_coerce.specs.RuleSets.{IsStableBut}
use Rattle.tv_structure_form.specs.StructureForm.{arities_of}
use Rattle.tv_coerce_sets.specs.Unmet.{WaitsAmong}
use Rattle.tv_step.specs.Changed.{DiffersWithin, IsFew}
use Rattle.tv_step.specs.Setting.{form_in}
use Rattle.tv_step.proofs.Differing.{alike-anywhere, few-found}
use Rattle.tv_step.proofs.changed.waiting_by_changes.Goals as goal

pub returns-then-not-are_alike : goal.returns-then-not-are_alike
returns-then-not-are_alike c = (
  ap length c.in_ok-copy-in-Anywhere.ensures ∙ c.requires.count,
  subst (λ set. IsStableBut (rules_of c.args.x.now.closed.now) set c.args.s.now) (sym c.in_ok-copy-in-Anywhere.ensures)
      c.requires.rest,
)

pub waiting_in_all-requires-clause-size : goal.waiting_in_all-requires-clause-size
waiting_in_all-requires-clause-size c = (c.are_alike.ensures c.if-not-are_alike.false).size

pub returns-else-not-are_alike : goal.returns-else-not-are_alike
returns-else-not-are_alike c =
    let rules = rules_of c.args.x.now.closed.now
    in let p = form_in c.args.x.now
    in let from = c.args.parent.now.from.now
    in let preds = range_with_len 0 (length (arities_of from))
    in IfOk-weaker c.waiting_in_all.result (WaitsAmong preds rules from c.args.s.now) (IsFew p rules c.args.s.now)
    (λ found waits. few-found p c.requires.valid from c.args.s.now preds rules c.requires.rules c.requires.from
    (alike-anywhere from c.args.s.now c.requires.like (c.are_alike.ensures c.if-not-are_alike.false)) found waits)
    c.waiting_in_all.ensures

pub waiting_in_some-requires-clause-size : goal.waiting_in_some-requires-clause-size
waiting_in_some-requires-clause-size c =
    (subst (λ reach. DiffersWithin reach c.args.parent.now.from.now c.args.s.now) c.in-Of.is c.requires.within).alike.size

pub returns-in-Of : goal.returns-in-Of
returns-in-Of c =
    let rules = rules_of c.args.x.now.closed.now
    in let p = form_in c.args.x.now
    in let from = c.args.parent.now.from.now
    in let preds = map (λ w. w.pred.0) c.in-Of.updates.now ++ map (λ p. p.0) c.in-Of.preds.now
    in IfOk-weaker c.waiting_in_some.result (WaitsAmong preds rules from c.args.s.now) (IsFew p rules c.args.s.now)
    (λ found waits. few-found p c.requires.valid from c.args.s.now preds rules c.requires.rules c.requires.from
    (subst (λ reach. DiffersWithin reach from c.args.s.now) c.in-Of.is c.requires.within) found waits)
    c.waiting_in_some.ensures
