use Rattle.std.proofs.Common.{ℕ, ◌<◌, ◌≢◌, [], get_or, All, AllPairs}
use Rattle.tv_model.specs.Heap.{Heap}
use Rattle.tv_structure_form.specs.StructureForm.{arities_of, structure_of, split}
use Rattle.tv_start_laws.specs.Starts.{FitsBelow}
use Rattle.tv_openings.specs.Openings.{IsPlainOpening, LiesInOne}
use Rattle.tv_openings.proofs.opened.open_each.Given as goal

abbrev pub invariant-loop-parts : goal.invariant-loop-parts
invariant-loop-parts l = record {
  each : All (IsPlainOpening (arities_of l.s) l.cells) l.all.items;
  found : (k : ℕ) → k < l.parts-index → (h : Heap) → AllPairs ◌≢◌ h.individuals
      → FitsBelow h (structure_of (split l.s (get_or l.lists k []))) → LiesInOne l.all.items h;
}
