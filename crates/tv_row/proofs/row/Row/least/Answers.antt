use Rattle.std.proofs.Common.{◌∙◌, take, ap, arith, []}
use Rattle.std.proofs.lemmas.List.{get_or_default}
use Rattle.tv_row.specs.Bits.{greatest_in, least_in}
use Rattle.tv_kleene.specs.Kleene.{negation_of}
use Rattle.tv_row.proofs.Greatest.{least_negated}
use Rattle.tv_row.proofs.RowOps.{first_values}
use Rattle.tv_row.proofs.row.Row.least.Goals as goal

pub returns-then-self-le64 : goal.returns-then-self-le64
returns-then-self-le64 c =
    c.least.ensures
    ∙ ap (λ word. least_in (take c.self.inside.size word)) (get_or_default c.self.inside.words 0
    c.index-self-0.result [] (omega (arith, c.self.invariant.as_many)))
    ∙ ap least_in (first_values c.self.inside.words c.self.inside.size c.self.invariant
    (omega (arith, c.if-self-le64.true)) ∙ c.self.view_is)

pub returns : goal.returns
returns c =
    c.not.ensures ∙ ap negation_of (c.greatest.ensures ∙ ap greatest_in c.not_more.ensures) ∙ least_negated
    c.args.self.now
