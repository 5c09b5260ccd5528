use Rattle.std.proofs.Common.{false, subst, All}
use Rattle.std.specs.Prelude.{IsTrue}
use Rattle.std.proofs.lemmas.List.{take_all}
use Rattle.std.proofs.lemmas.List.Elements.{All-contains}
use Rattle.tv_model.specs.Form.{form_of, Mentions}
use Rattle.tv_model.proofs.Lists.{All-from_contains}
use Rattle.tv_coerce_sets.proofs.Listing.{all-next}
use Rattle.tv_coerce_sets.proofs.preds.are_about.Goals as goal

pub loop-formula-preserved : goal.loop-formula-preserved
loop-formula-preserved c =
    all-next (λ f. ¬ Mentions c.args.pred.0 (form_of f)) c.args.formulas.now c.loop-formula.formula-index
    c.formula-item.result c.loop-formula-test.true c.formula-item.is c.loop-formula.invariant
    (λ is. absurd (cc (subst IsTrue c.if-mentions.false (c.mentions.ensures.1 is))))

pub returns : goal.returns
returns c =
    let fs = c.args.formulas.now
    in let none : All (λ f. ¬ Mentions c.args.pred.0 (form_of f)) fs
    = subst (All (λ f. ¬ Mentions c.args.pred.0 (form_of f)))
    (take_all c.loop-formula.formula-index fs c.loop-formula-test.false) c.loop-formula.invariant
    in All-from_contains (λ f. Mentions c.args.pred.0 (form_of f) → IsTrue false) fs
    (λ f at is. absurd (All-contains (λ g. ¬ Mentions c.args.pred.0 (form_of g)) fs f none at is))
