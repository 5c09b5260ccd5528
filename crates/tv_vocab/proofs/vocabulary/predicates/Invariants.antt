use Rattle.tv_names.specs.Copies.{symbols_of}
use Rattle.tv_tree.specs.Copies.{pred_of}
use Rattle.tv_model.specs.Program.{pred_of as model_of}
use Rattle.tv_vocab.specs.Vocabulary.{predicate}
use Rattle.std.proofs.Common.{◌≡◌, map}
use Rattle.tv_names.proofs.Loops.{left}
use Rattle.tv_names.specs.Refusal.{put_behind, each}
use Rattle.tv_vocab.proofs.vocabulary.predicates.Given as goal

-- what the items so far gave, and those that are left, give what all give
abbrev pub invariant-loop-decl : goal.invariant-loop-decl
invariant-loop-decl l = each (predicate (symbols_of l.symbols)) (map pred_of l.decls) ≡ left (put_behind (predicate (symbols_of l.symbols))) pred_of (map model_of l.preds.items) l.decl-index l.decls
