use Rattle.tv_names.specs.Copies.{symbols_of}
use Rattle.tv_tree.specs.Copies.{pred_of}
use Rattle.tv_vocab.specs.Vocabulary.{with_symbol, symbols}
use Rattle.std.proofs.Common.{◌≡◌, map}
use Rattle.tv_names.proofs.Loops.{left}
use Rattle.tv_vocab.proofs.vocabulary.symbols.Given as goal

-- what the items so far gave, and those that are left, give what all give
abbrev pub invariant-loop-decl : goal.invariant-loop-decl
invariant-loop-decl l = symbols (map pred_of l.decls) ≡ left (with_symbol) pred_of (symbols_of l.seen) l.decl-index l.decls
