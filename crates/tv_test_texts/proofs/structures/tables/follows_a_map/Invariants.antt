use Rattle.std.proofs.Common.{◌≡◌, [], ◌∷◌}
use Rattle.tv_structure_form.specs.TableForm.{arities_in}
use Rattle.tv_test_texts.proofs.structures.tables.follows_a_map.Given as goal

abbrev pub invariant-loop-step : goal.invariant-loop-step
invariant-loop-step g l = arities_in (g.T.Table.table l.table).planes ≡ 0 ∷ 1 ∷ 2 ∷ []
