use Rattle.std.proofs.Common.{◌≡◌, map, All}
use Rattle.tv_stages_laws.specs.declared.record.Given.{Given}
use Rattle.tv_stages_laws.specs.Stages.{IsEndFrom}
use Rattle.tv_stages.specs.Tasks.{task_program}
use Rattle.tv_stages.proofs.fate.given_each.Given as goal

abbrev pub invariant-loop-structure : goal.invariant-loop-structure
invariant-loop-structure l = record {
  structures : map (λ (g : Given). g.structure) l.given ≡ l.yielded;
  ends : All (λ (g : Given). IsEndFrom (task_program l.x) g.structure g.end) l.given;
  same : l.tools ≡ l.fn.tools;
}
