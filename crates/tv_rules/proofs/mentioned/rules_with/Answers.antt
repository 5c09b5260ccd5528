use Rattle.std.proofs.Common.{ℕ, List, [], ap, arith, length}
use Rattle.std.proofs.lemmas.List.{length-replicate}
use Rattle.tv_rules.proofs.mentioned.rules_with.Goals as goal

pub note_rules-requires-clause-preds : goal.note_rules-requires-clause-preds
note_rules-requires-clause-preds c q n rule at so =
    omega (arith, c.requires q n rule at so, ap length c.in_ok-lists.ensures, length-replicate {A = List ℕ} c.args.preds [])
