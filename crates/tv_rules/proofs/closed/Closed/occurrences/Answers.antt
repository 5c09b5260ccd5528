use Rattle.std.proofs.Common.{ℕ, ◌≡◌, Some, List, slice_get, subst, sym}
use Rattle.tv_model.specs.Program.{RuleForm, head_of}
use Rattle.tv_model.specs.declared.program.Rule.{Rule}
use Rattle.tv_coerce_moves.specs.declared.list.Occurrence.{Occurrence}
use Rattle.tv_rules.specs.EntryForms.{rules_of}
use Rattle.tv_rules.specs.Moved.{IsMovedBySome}
use Rattle.tv_rules.specs.Seen.{Sees}
use Rattle.tv_rules.proofs.closed.Closed.occurrences.Goals as goal

pub returns : goal.returns
returns c =
    let Of : List Rule → Type 0 = λ bases. (n : ℕ) (rule : RuleForm) → slice_get (rules_of bases) n ≡ Some rule
    → Sees (head_of c.args.head) rule → IsMovedBySome bases c.by_change.result.now n
    in subst Of c.self.view_is
    (λ n rule at sees. subst (λ (ms : List Occurrence). IsMovedBySome c.self.inside.bases ms n) (sym c.by_change.ensures)
    (c.self.invariant.1.seen (head_of c.args.head) n rule at sees))
