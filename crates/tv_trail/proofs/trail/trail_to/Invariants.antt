use Rattle.std.specs.Prelude.{All}
use Rattle.tv_structure_form.specs.StructureForm.{IsStructure, IsOver}
use Rattle.tv_trail_laws.proofs.Walking.{ComesFrom}
use Rattle.tv_work.specs.Task.{task_of}
use Rattle.tv_trail.proofs.trail.trail_to.Given as goal

abbrev pub invariant-loop-links : goal.invariant-loop-links
invariant-loop-links l = record {
  comes : ComesFrom (task_of l.x) l.search.found l.place l.last l.links.items;
  over : All (λ link. IsStructure link.structure × IsOver l.x.program.now.vocab link.structure) l.links.items;
}

abbrev pub decreases-loop-links : goal.decreases-loop-links
decreases-loop-links l = l.last
