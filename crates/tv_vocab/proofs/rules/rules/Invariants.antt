use Rattle.tv_names.specs.Copies.{symbols_of}
use Rattle.tv_flat.specs.FlatForm.{rule_of}
use Rattle.tv_model.specs.Program.{rule_of as model_of}
use Rattle.tv_vocab.specs.Vocabulary.{rule}
use Rattle.std.proofs.Common.{◌≡◌, map}
use Rattle.tv_names.proofs.Loops.{left}
use Rattle.tv_names.specs.Refusal.{put_behind, each}
use Rattle.tv_vocab.proofs.rules.rules.Given as goal

-- what the items so far gave, and those that are left, give what all give
abbrev pub invariant-loop-decl : goal.invariant-loop-decl
invariant-loop-decl l = each (λ r. rule (symbols_of l.symbols) r.body r.head) (map rule_of l.decls) ≡ left (put_behind (λ r. rule (symbols_of l.symbols) r.body r.head)) rule_of (map model_of l.rules.items) l.decl-index l.decls
