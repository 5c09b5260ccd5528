use Rattle.std.proofs.Common.{◌≡◌, true, false, subst, sym, ap, ◌∙◌}
use Rattle.tv_model.specs.Form.{form_of}
use Rattle.tv_quantifiers.specs.Quantified.{quantified}
use Rattle.tv_quantifiers.specs.Runs.{IsOpened}
use Rattle.tv_quantifiers.proofs.Opening.{opened_more, opened_past}
use Rattle.tv_quantifiers.proofs.runs.push_free.Goals as goal

pub returns-then-free : goal.returns-then-free
returns-then-free c whole is =
    let same : quantified c.args.quantifier c.args.v.0 (form_of c.args.f.now)
    ≡ quantified c.new.result.quantifier c.new.result.var.0 (form_of c.args.f.now) =
    ap (λ q. quantified q c.args.v.0 (form_of c.args.f.now)) (sym c.new.ensures.0)
    ∙ ap (λ v. quantified c.new.result.quantifier v.0 (form_of c.args.f.now)) (sym c.new.ensures.1)
    in subst (λ ls. IsOpened whole ls (form_of c.args.f.now)) (sym c.push.ensures.items)
    (opened_more whole c.args.levels.now.items c.new.result (form_of c.args.f.now) c.new.ensures.2 c.new.ensures.3
    (subst (IsOpened whole c.args.levels.now.items) same is))

pub returns-else-free : goal.returns-else-free
returns-else-free c whole is =
    opened_past whole c.args.levels.now.items c.args.quantifier c.args.v.0 (form_of c.args.f.now)
    (λ free. let yes : c.free.result ≡ true = c.free.ensures.1 free in let no : c.free.result ≡ false = c.if-free.false in cc)
    is
