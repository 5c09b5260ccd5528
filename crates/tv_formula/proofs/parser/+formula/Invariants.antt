use Rattle.std.proofs.Common.{◌≡◌, ◌+◌, ◌*◌, ◌<◌}
use Rattle.tv_lex.specs.Token.{spec_tokens}
use Rattle.tv_tree.specs.Copies.{form_of}
use Rattle.tv_formula.specs.Grammar.{Joined, Behind}
use Rattle.tv_formula.specs.Reading.{reading}
use Rattle.tv_formula.proofs.parser.+formula.Given as goal

abbrev pub decreases-bound_at : goal.decreases-bound_at
decreases-bound_at l = 3 * l.depth + 2

abbrev pub decreases-group_at : goal.decreases-group_at
decreases-group_at l = 3 * l.depth + 2

abbrev pub decreases-negation_at : goal.decreases-negation_at
decreases-negation_at l = 3 * l.depth + 2

abbrev pub decreases-unary_at : goal.decreases-unary_at
decreases-unary_at l = 3 * l.depth

abbrev pub decreases-operand_at : goal.decreases-operand_at
decreases-operand_at l = 3 * l.depth + 1

abbrev pub decreases-joined_at : goal.decreases-joined_at
decreases-joined_at l = 3 * l.depth

abbrev pub decreases-implication_at : goal.decreases-implication_at
decreases-implication_at l = 3 * l.depth

abbrev pub decreases-chosen_at : goal.decreases-chosen_at
decreases-chosen_at l = 3 * l.depth + 2

abbrev pub decreases-formula_at : goal.decreases-formula_at
decreases-formula_at l = 3 * l.depth

-- the formula so far, and what is still to come, are read as the whole is
abbrev pub invariant-joined_at-parts : goal.invariant-joined_at-parts
invariant-joined_at-parts l = record {
  read : reading l.depth (Joined l.link) (spec_tokens l.bytes l.tokens) ≡ reading l.left (Behind l.link (form_of l.tree.value)) (spec_tokens l.bytes l.rest);
  below : l.left < l.depth;
}

abbrev pub decreases-joined_at-parts : goal.decreases-joined_at-parts
decreases-joined_at-parts l = l.left
