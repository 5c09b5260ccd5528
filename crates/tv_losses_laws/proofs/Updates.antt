-- A given update that alone loses a case doesn't agree.
use Rattle.std.proofs.Common.{◌≡◌, map, sym, subst, Contains}
use Rattle.std.proofs.lemmas.List.Elements.{All-contains}
use Rattle.tv_model.specs.declared.program.Mode.TheVariants.{Recompute}
use Rattle.tv_model.proofs.Lists.{Contains-map_back}
use Rattle.tv_embedding_laws.specs.LogicalStructure.{LogicalStructure}
use Rattle.tv_embedding_laws.specs.Embedding.{IsHeapOf}
use Rattle.tv_structure_form.specs.StructureForm.{StructureForm, structure_of}
use Rattle.tv_update_laws.specs.Laws.{StepsFrom}
use Rattle.tv_update_laws.specs.Picks.{picks_of}
use Rattle.tv_update_laws.proofs.Choices.{update_loses_no_heap}
use Rattle.tv_step_laws.specs.Transfer.{HasNoOpening}
use Rattle.tv_step_laws.proofs.Heaps.{opening-heap}
use Rattle.tv_losses_laws.specs.Laws.{DroppingUpdatesDisagree}
use Rattle.tv_losses_laws.specs.Updated.{with_core}
use Rattle.tv_losses_laws.proofs.Cored.{concrete-cored, cored-valid, meets-cored, step-cored}

pub updates-disagree : DroppingUpdatesDisagree
updates-disagree p valid action has c q lost d there w its picked h of middle new step meets agrees =
    let from : StepsFrom (with_core q p) Recompute action (structure_of c.at_hand) (picks_of action c.picked) new
    = record {
      m = of.place;
      old = h;
      picked = picked;
      embeds = of.embeds;
      concrete = concrete-cored q p h of.start.concrete;
      takes = of.takes;
      steps = (
        middle,
        record {
          step = step-cored q p action picked h middle new step d there w its agrees;
          given = tt;
          old_meets = meets-cored q p h of.start.meets;
          new_meets = meets-cored q p new meets;
        },
      );
    }
    in let found : (l : LogicalStructure) × Contains (map structure_of lost.given) l × IsHeapOf new l
    = update_loses_no_heap (with_core q p) (cored-valid q p valid) Recompute action has (structure_of c.at_hand)
    (picks_of action c.picked) new from (map structure_of lost.given) lost.are_given.0
    in let table : (u : StructureForm) × Contains lost.given u × (structure_of u ≡ found.0)
    = Contains-map_back structure_of lost.given found.0 found.1
    in (opening-heap p valid new (record {
      is_heap = step.new_heap;
      concrete = step.concrete;
      meets = meets;
    }) table.0 (subst (IsHeapOf new) (sym table.2) found.2)).0
    (All-contains (HasNoOpening p) lost.given table.0 lost.none table.1)
