use Rattle.std.proofs.Common.{ap, sym, ◌∙◌, length}
use Rattle.tv_rules.specs.EntryForms.{rules_of}
use Rattle.tv_rules.proofs.KeptLemmas.{count-of}
use Rattle.tv_rules.proofs.closed.Closed.count.Goals as goal

pub returns : goal.returns
returns c =
    c.len.ensures
    ∙ sym (count-of c.self.inside.bases c.self.inside.shapes c.self.inside.entries c.self.inside.by_pred
    c.self.inside.by_sm c.self.invariant.0)
    ∙ ap (λ bases. length (rules_of bases)) c.self.view_is
