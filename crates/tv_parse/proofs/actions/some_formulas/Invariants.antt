use Rattle.std.proofs.Common.{◌≡◌, map}
use Rattle.std.specs.Prelude.{codes}
use Rattle.tv_lex.specs.Token.{spec_tokens}
use Rattle.tv_phrases.specs.Lists.{with_front}
use Rattle.tv_formula.specs.Reading.{formula_reading}
use Rattle.tv_tree.specs.Copies.{form_of}
use Rattle.tv_phrases.specs.Repeated.{begins_with, separated, behind, many}
use Rattle.tv_parse.proofs.actions.some_formulas.Given as goal

-- those so far and those that are left are all of them
abbrev pub invariant-formulas : goal.invariant-formulas
invariant-formulas l = separated (codes ",") formula_reading (spec_tokens l.bytes l.tokens) ≡ with_front (map form_of l.list.items) (many (begins_with (codes ",")) (behind (codes ",") formula_reading) l.left (spec_tokens l.bytes l.rest))

abbrev pub decreases-formulas : goal.decreases-formulas
decreases-formulas l = l.left
