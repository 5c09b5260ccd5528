use Rattle.std.proofs.Common.{◌≡◌, map, All}
use Rattle.tv_stages_laws.specs.declared.record.Choice.{Choice}
use Rattle.tv_stages_laws.specs.Stages.{IsFate}
use Rattle.tv_stages.specs.Tasks.{task_program}
use Rattle.tv_stages.proofs.fate.choices.Given as goal

abbrev pub invariant-loop-structure : goal.invariant-loop-structure
invariant-loop-structure l = record {
  structures : map (λ (c : Choice). c.structure) l.choices ≡ l.yielded;
  fates : All (λ (c : Choice). IsFate (task_program l.x) c.structure c.fate) l.choices;
  same : l.tools ≡ l.fn.tools;
}
