use Rattle.std.proofs.Common.{◌≡◌, ◌↔◌, ◌∙◌, ◌∷◌, [], IsTrue, sym, ap, subst}
use Rattle.tv_eval.specs.Along.{values_along}
use Rattle.tv_eval.specs.AssignmentForm.{assignment_of}
use Rattle.tv_eval.specs.Formulas.{AreAssigned}
use Rattle.tv_model.specs.Form.{form_of, vars_of, FExists}
use Rattle.tv_model.specs.Rules.{blank}
use Rattle.tv_model.specs.Valid.{IsOver}
use Rattle.tv_model.specs.declared.formula.Terms.{Terms}
use Rattle.tv_structure_form.specs.StructureForm.{structure_of}
use Rattle.tv_eval_laws.specs.Value.{value}
use Rattle.tv_replay_judge.specs.Same.{HasValuesOf}
use Rattle.tv_replay_judge.proofs.Compared.{none-assigned, none-blank, one-assigned, values-nullary}
use Rattle.tv_replay_judge.proofs.Compared.{values-unary}
use Rattle.tv_replay_judge.proofs.defined.has_values.Goals as goal

pub value-requires-clause-assigned : goal.value-requires-clause-assigned
value-requires-clause-assigned c =
    let f = form_of c.args.f.now
    in let over : IsOver [] f = subst (λ (ts : Terms). IsOver (vars_of ts) f) c.in-Zero.is c.requires.can.over
    in subst (λ t. AreAssigned t.size c.new-none.result f) (sym c.requires.structure)
    (none-assigned c.args.s.now.size c.new-none.result f over)

pub row-requires-clause-assigned : goal.row-requires-clause-assigned
row-requires-clause-assigned c =
    let f = form_of c.args.f.now
    in let over : IsOver (c.in-One.v.0 ∷ []) f = subst (λ (ts : Terms). IsOver (vars_of ts) f) c.in-One.is c.requires.can.over
    in subst (λ t. AreAssigned t.size c.new-none.result (FExists c.in-One.v.0 f)) (sym c.requires.structure)
    (one-assigned c.args.s.now.size c.new-none.result c.in-One.v.0 f over)

pub returns-in-Zero-clause-same : goal.returns-in-Zero-clause-same
returns-in-Zero-clause-same c =
    let s = c.args.s.now
    in let f = form_of c.args.f.now
    in let read : c.value.result ≡ value (structure_of s) blank f
    = c.value.ensures.exact ∙ ap (λ t. value (structure_of t) (assignment_of c.new-none.result) f) c.requires.structure
    ∙ ap (λ a. value (structure_of s) a f) (none-blank c.new-none.result c.new-none.ensures)
    in let both = values-nullary s c.args.p.0 f
    in subst (λ (ts : Terms). IsTrue c.are_equal.result ↔ HasValuesOf s c.args.p.0 (vars_of ts) f) (sym c.in-Zero.is) (
      λ t. both.0 (sym read ∙ c.are_equal.ensures.0 t ∙ c.get.ensures),
      λ has. c.are_equal.ensures.1 (read ∙ both.1 has ∙ sym c.get.ensures),
    )

pub returns-in-One-clause-same : goal.returns-in-One-clause-same
returns-in-One-clause-same c =
    let s = c.args.s.now
    in let f = form_of c.args.f.now
    in let v = c.in-One.v.0
    in let read : c.row.result ≡ values_along s blank v f
    = c.row.ensures.exact ∙ ap (λ t. values_along t (assignment_of c.new-none.result) v f) c.requires.structure
    ∙ ap (λ a. values_along s a v f) (none-blank c.new-none.result c.new-none.ensures)
    in let both = values-unary s c.args.p.0 f v
    in subst (λ (ts : Terms). IsTrue c.equals.result ↔ HasValuesOf s c.args.p.0 (vars_of ts) f) (sym c.in-One.is) (
      λ t. both.0 (sym read ∙ c.equals.ensures.0 t ∙ c.unary_row.ensures),
      λ has. c.equals.ensures.1 (read ∙ both.1 has ∙ sym c.unary_row.ensures),
    )
