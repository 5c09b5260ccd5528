use Rattle.std.proofs.Common.{sym, subst, arith}
use Rattle.tv_model.specs.Form.{form_of}
use Rattle.tv_quantifiers.specs.Quantified.{quantified}
use Rattle.tv_quantifiers.specs.Runs.{IsOpened}
use Rattle.tv_quantifiers.proofs.Opening.{opened_none}
use Rattle.tv_quantifiers.proofs.runs.opened.Goals as goal

pub loop-w-init : goal.loop-w-init
loop-w-init c = (
  c.push_free.ensures (quantified c.args.quantifier c.args.v.0 (form_of c.args.f.now))
      (subst (λ ls. IsOpened (quantified c.args.quantifier c.args.v.0 (form_of c.args.f.now)) ls
      (quantified c.args.quantifier c.args.v.0 (form_of c.args.f.now))) (sym c.new-levels.ensures)
      (opened_none (quantified c.args.quantifier c.args.v.0 (form_of c.args.f.now)))),
  omega arith,
)
