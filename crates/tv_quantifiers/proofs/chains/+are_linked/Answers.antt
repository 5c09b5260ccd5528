use Rattle.std.proofs.Common.{◌∙◌, ap, sym, subst}
use Rattle.tv_model.specs.Form.{form_of}
use Rattle.tv_quantifiers.specs.Chains.{AreLinked, parts_of, parts_by}
use Rattle.tv_quantifiers.proofs.Linking.{linked-append}
use Rattle.tv_quantifiers.proofs.chains.+are_linked.Goals as goal

pub returns-then-are_linked : goal.returns-then-are_linked
returns-then-are_linked t c said =
    subst (AreLinked c.args.levels.now)
    (sym (c.split.ensures.parts
    ∙ ap (λ shape. parts_by shape c.args.sign (form_of c.args.f.now)) c.in-Two.is))
    (linked-append c.args.levels.now (parts_of c.args.sign (form_of c.in-Two.g.now))
    (parts_of c.args.sign (form_of c.in-Two.h.now)) (c.are_linked.ensures c.if-are_linked.true)
    (c.are_linked-then-are_linked.ensures said))
