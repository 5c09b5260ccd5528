-- Fair steps are in cases that aren't dropped, and there are none where nothing is at hand.
use Rattle.std.specs.Prelude.{IfSome}
use Rattle.std.proofs.Common.{ℕ, ◌≡◌, ◌≢◌, List, [], true, length, map, Option, None, Some, inl, refl, sym}
use Rattle.std.proofs.Common.{subst, All, Contains}
use Rattle.std.proofs.lemmas.List.{length-map}
use Rattle.std.proofs.lemmas.List.Elements.{All-map}
use Rattle.tv_kleene.specs.declared.K3.TheVariants.{No}
use Rattle.tv_model.specs.Form.{Form}
use Rattle.tv_model.specs.Rules.{blank}
use Rattle.tv_model.specs.Truth.{Assignment}
use Rattle.tv_model.proofs.Lists.{Contains-filter, Contains-none}
use Rattle.tv_embedding_laws.specs.LogicalStructure.{LogicalStructure}
use Rattle.tv_eval_laws.specs.Value.{value}
use Rattle.tv_structure_form.specs.StructureForm.{StructureForm, structure_of}
use Rattle.tv_update_laws.specs.Laws.{StepsFrom}
use Rattle.tv_update_laws.specs.Picks.{isnt_no, lists_of, passing_picks, picks_of, precondition_value}
use Rattle.tv_update_laws.proofs.Picks.{isnt-no, list-found, put_all-reads}
use Rattle.tv_update_laws.proofs.Preconditions.{precondition_passes}
use Rattle.tv_step_laws.specs.Transfer.{focus_places}
use Rattle.tv_step_laws.proofs.From.{Some-of}
use Rattle.tv_step_laws.proofs.Heaps.{HasHeap, at_hand-heap}
use Rattle.tv_losses_laws.specs.Cases.{CaseForm, IsHeapOfCase}
use Rattle.tv_losses_laws.specs.Laws.{FairStepsAreKept, NothingAtHandHasNoHeap}
use Rattle.tv_losses_laws.proofs.Breaks.{dropped-unfair}

pub nothing-at_hand : NothingAtHandHasNoHeap
nothing-at_hand p valid action s none h of =
    let some : Some-of (HasHeap p h) []
    = at_hand-heap p valid h of.start (focus_places action.focus) s [] none of.embeds
    in Contains-none some.0 some.1

passes : (s : LogicalStructure) (a : Assignment) (pre : Option Form) → IfSome pre (λ f. value s a f ≢ No)
    → isnt_no (precondition_value s a pre) ≡ true
passes s a None holds = refl
passes s a (Some f) holds = isnt-no (value s a f) holds

pub fair-kept : FairStepsAreKept
fair-kept p valid mode action has s at_hand are picked old new of steps = record {
  kept = kept;
  passed = record { is_focused = (at_hand, are, some.1); passes = listed };
  heap = heap;
  stays = λ lost. dropped-unfair p valid mode action has kept lost picked old heap new steps;
}
  where
    some : Some-of (HasHeap p old) at_hand
    some = at_hand-heap p valid old of.start (focus_places action.focus) s at_hand are of.embeds

    t : StructureForm
    t = some.0

    m : ℕ → ℕ
    m = some.2.1.0

    us : List ℕ
    us = map (λ v. m (picked v)) action.picks

    kept : CaseForm
    kept = record { at_hand = t; picked = us }

    takes : (v : ℕ) → Contains action.picks v → m (picked v) ≡ picks_of action us v
    takes v at = sym (put_all-reads (λ x. m (picked x)) action.picks blank v (inl at))

    heap : IsHeapOfCase p action kept picked old
    heap = record {
      start = of.start;
      place = m;
      embeds = some.2.1.1;
      picks = steps.1.step.picks_individuals;
      takes = takes;
    }

    from : StepsFrom p mode action (structure_of t) (picks_of action us) new
    from = record {
      m = m;
      old = old;
      picked = picked;
      embeds = some.2.1.1;
      concrete = of.start.concrete;
      takes = takes;
      steps = steps;
    }

    inside : All (Contains (structure_of t).individuals) us
    inside = All-map (Contains (structure_of t).individuals) (λ v. m (picked v)) action.picks
        (λ k d lt. some.2.1.1.into _ (steps.1.step.picks_individuals k d lt))

    found : Contains (lists_of (structure_of t).individuals (length action.picks)) us
    found = subst (λ n. Contains (lists_of (structure_of t).individuals n) us)
        (length-map action.picks (λ v. m (picked v)))
        (list-found (structure_of t).individuals us inside)

    listed : Contains (passing_picks action (structure_of t)) us
    listed = Contains-filter
        (λ ws. isnt_no (precondition_value (structure_of t) (picks_of action ws) action.pre))
        (lists_of (structure_of t).individuals (length action.picks)) us found
        (passes (structure_of t) (picks_of action us) action.pre
        (precondition_passes p valid mode action has (structure_of t) (picks_of action us) new from))
