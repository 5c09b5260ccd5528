use Rattle.std.proofs.Common.{subst, ap, ◌∙◌}
use Rattle.tv_structure_form.specs.TableForm.{TableForm}
use Rattle.tv_structure_form.specs.StructureForm.{StructureForm, IsStructure}
use Rattle.tv_struct.specs.StructureRows.{with_row}
use Rattle.tv_struct.proofs.RowLaws.{writes_unary_row}
use Rattle.tv_struct.proofs.structure.Structure.set_unary_row.Goals as goal

pub returns-clause-row : goal.returns-clause-row
returns-clause-row c =
    (writes_unary_row c.args.self.now _ c.args.p.0 c.args.values.now (subst IsStructure c.self.view_is c.self.invariant) c.requires.arity
    c.requires.size
    (ap (λ (t : TableForm). record { size = t.size; summaries = c.self.inside.summaries; planes = t.planes; fresh = c.self.inside.fresh })
    c.put_row.ensures.value
    ∙ ap (λ (s : StructureForm). with_row s c.args.p.0 0 c.args.values.now) c.self.view_is)).1

pub returns-clause-others : goal.returns-clause-others
returns-clause-others c =
    λ q tuple apart.
    (writes_unary_row c.args.self.now _ c.args.p.0 c.args.values.now (subst IsStructure c.self.view_is c.self.invariant) c.requires.arity
    c.requires.size
    (ap (λ (t : TableForm). record { size = t.size; summaries = c.self.inside.summaries; planes = t.planes; fresh = c.self.inside.fresh })
    c.put_row.ensures.value
    ∙ ap (λ (s : StructureForm). with_row s c.args.p.0 0 c.args.values.now) c.self.view_is)).0.others q tuple (λ both. apart both.0)

pub returns-clause-over : goal.returns-clause-over
returns-clause-over c =
    (writes_unary_row c.args.self.now _ c.args.p.0 c.args.values.now (subst IsStructure c.self.view_is c.self.invariant) c.requires.arity
    c.requires.size
    (ap (λ (t : TableForm). record { size = t.size; summaries = c.self.inside.summaries; planes = t.planes; fresh = c.self.inside.fresh })
    c.put_row.ensures.value
    ∙ ap (λ (s : StructureForm). with_row s c.args.p.0 0 c.args.values.now) c.self.view_is)).0.over
