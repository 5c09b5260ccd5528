use Rattle.std.proofs.Common.{length, rules, sym}
use Rattle.std.proofs.lemmas.Iterator.Adapters.{YieldsList-from_vec}
use Rattle.std.proofs.lemmas.Iterator.Consumers.{YieldsList-turn}
use Rattle.std.proofs.lemmas.List.Elements.{All-contains}
use Rattle.tv_coerce.specs.RuleSets.{IsStableBut}
use Rattle.tv_rules.specs.EntryForms.{rules_of}
use Rattle.tv_step.specs.Ending.{Becomes}
use Rattle.tv_step.specs.Redefined.{IsMetBy}
use Rattle.tv_step.specs.Setting.{form_in}
use Rattle.tv_step.proofs.Adding.{adds-more}
use Rattle.tv_step.proofs.coerced.coerce_each.Goals as goal

pub waiting_in-requires-clause-rest : goal.waiting_in-requires-clause-rest
waiting_in-requires-clause-rest c =
    let turn = YieldsList-turn
    (YieldsList-from_vec {s = c.into_iter-s-iterator.result} c.args.structures (search rules) (search rules))
    c.loop-s.yielded c.loop-s.s-iterator c.loop-s.yielded_by c.next.result c.next.new.self c.in-Some.s
    c.in-Some.is c.next.ensures.steps
    in All-contains (IsStableBut (rules_of c.args.x.now.closed.now) c.args.waiting.now) c.args.structures
    c.in-Some.s c.requires.rest (length c.loop-s.yielded, turn.0, sym turn.1)

pub waiting_in-requires-clause-met : goal.waiting_in-requires-clause-met
waiting_in-requires-clause-met c =
    let turn = YieldsList-turn
    (YieldsList-from_vec {s = c.into_iter-s-iterator.result} c.args.structures (search rules) (search rules))
    c.loop-s.yielded c.loop-s.s-iterator c.loop-s.yielded_by c.next.result c.next.new.self c.in-Some.s
    c.in-Some.is c.next.ensures.steps
    in All-contains (IsMetBy c.args.parent.now.redefined (rules_of c.args.x.now.closed.now)) c.args.structures
    c.in-Some.s c.requires.met (length c.loop-s.yielded, turn.0, sym turn.1)

pub loop-s-preserved : goal.loop-s-preserved
loop-s-preserved c = record {
  out = adds-more (Becomes c.args.ending (form_in c.args.x.now)) c.loop-s.yielded c.in-Some.s
      c.args.out.now c.loop-s.out c.coerce_if_unmet.new.out c.loop-s.invariant.out c.in_ok-coerce_if_unmet.ensures.out;
  scratch = cc;
}
