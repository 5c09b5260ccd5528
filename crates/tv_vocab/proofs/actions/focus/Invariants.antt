use Rattle.tv_names.specs.Copies.{symbols_of, naming_of}
use Rattle.tv_tree.specs.Copies.{form_of as tree_of}
use Rattle.tv_model.specs.Form.{form_of}
use Rattle.tv_names.specs.Naming.{no_names}
use Rattle.tv_vocab.specs.Vocabulary.{anywhere}
use Rattle.tv_vocab.specs.Actions.{with_formula, resolved_all}
use Rattle.std.proofs.Common.{◌≡◌, map}
use Rattle.tv_names.proofs.Loops.{left}
use Rattle.tv_vocab.proofs.actions.focus.Given as goal

-- what the items so far gave, and those that are left, give what all give
abbrev pub invariant-loop-formula : goal.invariant-loop-formula
invariant-loop-formula l = resolved_all (anywhere (symbols_of l.symbols)) (map tree_of l.formulas) no_names ≡ left (with_formula (anywhere (symbols_of l.symbols))) tree_of (map form_of l.done.items, naming_of l.naming) l.formula-index l.formulas
