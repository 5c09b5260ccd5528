use Rattle.std.proofs.Common.{ℕ, ◌≡◌, ◌∙◌, List, IfOk, ap, subst, sym}
use Rattle.tv_struct.specs.LayoutForm.{LayoutForm}
use Rattle.tv_structure_form.specs.TableForm.{table_of_no}
use Rattle.tv_struct.proofs.HeldLaws.{now_arities}
use Rattle.tv_struct.proofs.planes.Planes.emptied.Goals as goal

pub returns-clause-value : goal.returns-clause-value
returns-clause-value c =
    let Gives : LayoutForm → Type 0 = λ l. IfOk c.all_no.result (λ t. t ≡ table_of_no l.size l.arities)
    in subst Gives
    (c.in_ok-resized.ensures
    ∙ ap (λ (arities : List ℕ). record { size = c.args.size; arities = arities })
    (sym (now_arities c.self.inside.layout c.self.inside.words.words c.args.self.now c.self.view_is)))
    c.all_no.ensures.value
