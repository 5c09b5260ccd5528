use Rattle.std.proofs.Common.{length, rules, subst, sym, ◌∙◌}
use Rattle.std.proofs.lemmas.Iterator.Adapters.{YieldsList-from_vec}
use Rattle.std.proofs.lemmas.Iterator.Consumers.{YieldsList-turn}
use Rattle.std.proofs.lemmas.List.Elements.{All-contains, All-push}
use Rattle.tv_model.specs.Program.{message_of, program_of}
use Rattle.tv_step.specs.EngineForm.{EngineForm}
use Rattle.tv_step_laws.specs.Shaped.{IsShaped}
use Rattle.tv_trail.specs.Causes.{IsConditionValue}
use Rattle.tv_trail.proofs.Causing.{told-unequal}
use Rattle.tv_trail.proofs.cause.cause_among.Goals as goal

pub condition-requires-clause-shaped : goal.condition-requires-clause-shaped
condition-requires-clause-shaped c =
    let turn = YieldsList-turn
    (YieldsList-from_vec {s = c.into_iter-t-iterator.result} c.args.at_hand (search rules) (search rules))
    c.loop-t.yielded c.loop-t.t-iterator c.loop-t.yielded_by c.next.result c.next.new.self c.in-Some.t
    c.in-Some.is c.next.ensures.steps
    in subst (λ (e : EngineForm). IsShaped (program_of e.program) c.in-Some.t) (sym c.loop-t.invariant.same)
    (All-contains (IsShaped (program_of c.args.stepper.now.program)) c.args.at_hand c.in-Some.t c.requires.shaped
    (length c.loop-t.yielded, turn.0, sym turn.1))

pub loop-t-preserved : goal.loop-t-preserved
loop-t-preserved c = record {
  none = All-push (λ t. ¬ IsConditionValue (message_of c.args.message.now) t c.args.value) c.loop-t.yielded c.in-Some.t
      c.loop-t.invariant.none
      (λ is. told-unequal c.condition.result c.args.value c.eq.result c.eq.ensures.same c.if-eq.false
      (sym c.condition.ensures.value ∙ is));
  same = c.condition.ensures.same ∙ c.loop-t.invariant.same;
}
