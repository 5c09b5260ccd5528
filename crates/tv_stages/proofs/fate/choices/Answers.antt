use Rattle.std.proofs.Common.{length, refl, rules, subst, sym}
use Rattle.std.proofs.lemmas.Iterator.Adapters.{YieldsList-from_vec}
use Rattle.std.proofs.lemmas.Iterator.Consumers.{YieldsList-turn}
use Rattle.std.proofs.lemmas.List.Elements.{All-contains}
use Rattle.tv_structure_form.specs.StructureForm.{IsOver}
use Rattle.tv_stages_laws.specs.declared.record.Choice.{Choice}
use Rattle.tv_stages_laws.specs.Stages.{IsFate}
use Rattle.tv_stages.specs.Tasks.{IsReadyToRecord, task_program}
use Rattle.tv_stages.proofs.Telling.{all-pushed, map-pushed}
use Rattle.tv_stages.proofs.fate.choices.Goals as goal

pub fate-requires-clause-ready : goal.fate-requires-clause-ready
fate-requires-clause-ready c =
    subst (IsReadyToRecord c.args.x.now) (sym c.loop-structure.invariant.same) c.requires.ready

pub fate-requires-clause-over : goal.fate-requires-clause-over
fate-requires-clause-over c =
    let turn = YieldsList-turn
    (YieldsList-from_vec {s = c.into_iter-structure-iterator.result} c.args.structures (search rules) (search rules))
    c.loop-structure.yielded c.loop-structure.structure-iterator c.loop-structure.yielded_by c.next.result
    c.next.new.self c.in-Some.structure c.in-Some.is c.next.ensures.steps
    in All-contains (IsOver c.args.x.now.program.now.vocab) c.args.structures c.in-Some.structure c.requires.over
    (length c.loop-structure.yielded, turn.0, sym turn.1)

pub loop-structure-preserved : goal.loop-structure-preserved
loop-structure-preserved c = record {
  structures = map-pushed (λ (x : Choice). x.structure) c.loop-structure.choices _ _ _ c.loop-structure.yielded
      c.in_ok-push.ensures refl c.loop-structure.invariant.structures;
  fates = all-pushed (λ (x : Choice). IsFate (task_program c.args.x.now) x.structure x.fate)
      c.loop-structure.choices _ _ c.in_ok-push.ensures c.loop-structure.invariant.fates c.in_ok-fate.ensures.fate;
  same = cc;
}
