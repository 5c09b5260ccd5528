use Rattle.std.proofs.Common.{◌≡◌, ◌↔◌, ◌∙◌, IsTrue, [], ap, subst}
use Rattle.std.specs.Prelude.{Any, Some}
use Rattle.tv_kleene.specs.declared.K3.TheVariants.{Half}
use Rattle.tv_structure_form.specs.StructureForm.{value_at}
use Rattle.tv_struct.specs.StructureRows.{unary_row}
use Rattle.tv_two_valued.proofs.Definite.{IsDefinite, nullary-definite, unary-definite, turned}
use Rattle.tv_two_valued.proofs.whether.is_definite.Goals as goal

pub returns-in-0 : goal.returns-in-0
returns-in-0 c =
    let s = c.args.s.now
    in let q = c.args.p.0
    in turned c.is_half.result (value_at s q [] ≡ Half) (IsDefinite s q)
    (subst (λ k. IsTrue c.is_half.result ↔ (k ≡ Half)) c.get.ensures c.is_half.ensures)
    (nullary-definite s q c.size.ensures.kept (c.arity.ensures.value ∙ ap Some c.in-0.is))

pub returns-in-1 : goal.returns-in-1
returns-in-1 c =
    let s = c.args.s.now
    in let q = c.args.p.0
    in turned c.has_half.result (Any (λ x. x ≡ Half) (unary_row s q)) (IsDefinite s q)
    (subst (λ row. IsTrue c.has_half.result ↔ Any (λ x. x ≡ Half) row) c.unary_row.ensures c.has_half.ensures)
    (unary-definite s q c.size.ensures.kept (c.arity.ensures.value ∙ ap Some c.in-1.is))
