use Rattle.std.proofs.Common.{◌*◌, ◌∙◌, refl, ap, subst, sym}
use Rattle.tv_struct.specs.LayoutForm.{LayoutForm, HoldsTable, table_held, end_from, words_for}
use Rattle.tv_row.specs.Packed.{cells_for}
use Rattle.tv_structure_form.specs.TableForm.{TableForm}
use Rattle.tv_struct.specs.Order.{planes_cmp}
use Rattle.tv_struct.proofs.WordsLaws.{words_compare}
use Rattle.tv_struct.proofs.planes.Planes.compare_values.Goals as goal

pub compare-requires-clause-cells : goal.compare-requires-clause-cells
compare-requires-clause-cells c =
    c.self.invariant.room ∙ ap (λ (l : LayoutForm). cells_for l.size) (c.if-agrees.ensures refl) ∙ sym c.other.invariant.room

pub compare-requires-clause-count : goal.compare-requires-clause-count
compare-requires-clause-count c =
    c.self.invariant.table.as_many
    ∙ ap (λ (l : LayoutForm). end_from l.size 0 l.arities * words_for l.size) (c.if-agrees.ensures refl)
    ∙ sym c.other.invariant.table.as_many

pub returns-then-agrees : goal.returns-then-agrees
returns-then-agrees c =
    let Holds : LayoutForm → Type 0 = λ l. HoldsTable l c.other.inside.words.words
    in c.compare.ensures.value
    ∙ words_compare c.self.inside.layout c.self.inside.words.words c.other.inside.words.words c.self.invariant.table
    (subst Holds (sym (c.if-agrees.ensures refl)) c.other.invariant.table) c.compare.ensures.words.0 c.compare.ensures.words.1
    ∙ ap (λ (t : TableForm). planes_cmp t.planes (table_held c.self.inside.layout c.other.inside.words.words).planes) c.self.view_is
    ∙ ap (λ (l : LayoutForm). planes_cmp c.args.self.now.planes (table_held l c.other.inside.words.words).planes) (c.if-agrees.ensures refl)
    ∙ ap (λ (t : TableForm). planes_cmp c.args.self.now.planes t.planes) c.other.view_is
