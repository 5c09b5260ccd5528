use Rattle.std.proofs.Common.{◌≡◌, map}
use Rattle.std.specs.List.{range_with_len}
use Rattle.tv_structure_form.specs.StructureForm.{structure_of, summary_at}
use Rattle.tv_focus_laws.specs.Choices.{sets_of, aimed}
use Rattle.tv_focus.specs.Seen.{aim_of}
use Rattle.tv_focus.proofs.stage.all_sets.Given as goal

abbrev pub invariant-loop-u : goal.invariant-loop-u
invariant-loop-u l =
    l.sets.items ≡ map (λ u. sets_of (summary_at l.s u) (map ((structure_of l.s).value l.p.0) (aimed (aim_of l.aim) u))) (range_with_len 0 l.u)
