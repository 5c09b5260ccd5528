use Rattle.std.proofs.Common.{length, refl, rules, subst, sym}
use Rattle.std.proofs.lemmas.Iterator.Adapters.{YieldsList-from_vec}
use Rattle.std.proofs.lemmas.Iterator.Consumers.{YieldsList-turn}
use Rattle.std.proofs.lemmas.List.Elements.{All-contains}
use Rattle.tv_structure_form.specs.StructureForm.{IsOver}
use Rattle.tv_stages_laws.specs.declared.record.Given.{Given}
use Rattle.tv_stages_laws.specs.Stages.{IsEndFrom}
use Rattle.tv_stages.specs.Tasks.{IsReadyToRecord, task_program}
use Rattle.tv_stages.proofs.Telling.{all-pushed, map-pushed}
use Rattle.tv_stages.proofs.fate.given_each.Goals as goal

pub end-requires-clause-ready : goal.end-requires-clause-ready
end-requires-clause-ready c =
    subst (IsReadyToRecord c.args.x.now) (sym c.loop-structure.invariant.same) c.requires.ready

pub end-requires-clause-over : goal.end-requires-clause-over
end-requires-clause-over c =
    let turn = YieldsList-turn
    (YieldsList-from_vec {s = c.into_iter-structure-iterator.result} c.args.structures (search rules) (search rules))
    c.loop-structure.yielded c.loop-structure.structure-iterator c.loop-structure.yielded_by c.next.result
    c.next.new.self c.in-Some.structure c.in-Some.is c.next.ensures.steps
    in All-contains (IsOver c.args.x.now.program.now.vocab) c.args.structures c.in-Some.structure c.requires.over
    (length c.loop-structure.yielded, turn.0, sym turn.1)

pub loop-structure-preserved : goal.loop-structure-preserved
loop-structure-preserved c = record {
  structures = map-pushed (λ (x : Given). x.structure) c.loop-structure.given _ _ _ c.loop-structure.yielded
      c.in_ok-push.ensures refl c.loop-structure.invariant.structures;
  ends = all-pushed (λ (x : Given). IsEndFrom (task_program c.args.x.now) x.structure x.end)
      c.loop-structure.given _ _ c.in_ok-push.ensures c.loop-structure.invariant.ends c.in_ok-end.ensures.end;
  same = cc;
}
