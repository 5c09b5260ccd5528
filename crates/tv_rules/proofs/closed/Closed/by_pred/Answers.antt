use Rattle.std.proofs.Common.{ap, ◌∙◌, slice_get}
use Rattle.tv_rules.specs.EntryForms.{rules_of}
use Rattle.std.proofs.Common.{ℕ, List, subst}
use Rattle.tv_model.specs.declared.program.Rule.{Rule}
use Rattle.std.proofs.Common.{unwrap_or, []}
use Rattle.tv_rules.specs.Standing.{AreNumbersOf, StandsIn}
use Rattle.tv_rules.proofs.KeptLemmas.{watched-at}
use Rattle.tv_rules.proofs.closed.Closed.by_pred.Goals as goal

pub returns : goal.returns
returns c =
    let Of : List Rule → Type 0 = λ bases. AreNumbersOf (StandsIn c.args.p.0) (rules_of bases) c.numbers_at.result.now
    in subst Of c.self.view_is
    (watched-at (rules_of c.self.inside.bases) c.self.inside.by_pred c.self.invariant.0.watched c.args.p.0 c.numbers_at.result.now
    (c.numbers_at.ensures ∙ ap (λ (lists : List (List ℕ)). unwrap_or (slice_get lists c.args.p.0) []) c.as_slice.ensures))
