use Rattle.std.proofs.Common.{◌∙◌, ap, sym}
use Rattle.tv_structure_form.specs.TableForm.{TableForm, plane_at, row_count}
use Rattle.tv_struct.proofs.HeldLaws.{now_listed, now_arity, now_rows}
use Rattle.tv_struct.proofs.planes.Planes.row_total.Goals as goal

pub arity-requires : goal.arity-requires
arity-requires c = now_listed c.self.inside.layout c.self.inside.words.words c.args.self.now c.self.view_is c.self.invariant.table c.args.p.0 c.requires

pub returns-clause-count : goal.returns-clause-count
returns-clause-count c =
    c.row_count.ensures ∙ ap (λ n. row_count n c.arity.result) c.size.ensures.size
    ∙ ap (row_count c.self.inside.layout.size) (c.arity.ensures ∙ sym (now_arity c.self.inside.layout c.self.inside.words.words c.args.self.now c.self.view_is c.self.invariant.table c.args.p.0 c.requires))
    ∙ ap (λ (t : TableForm). row_count t.size (plane_at c.args.self.now c.args.p.0).arity) c.self.view_is

pub returns-clause-value : goal.returns-clause-value
returns-clause-value c =
    c.row_count.ensures ∙ ap (λ n. row_count n c.arity.result) c.size.ensures.size ∙ ap (row_count c.self.inside.layout.size) c.arity.ensures
    ∙ sym (now_rows c.self.inside.layout c.self.inside.words.words c.args.self.now c.self.view_is c.self.invariant.table c.args.p.0 c.requires)
