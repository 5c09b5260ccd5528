use Rattle.std.proofs.Common.{ℕ, ◌∙◌, List, ap, get_or, refl}
use Rattle.tv_kleene.specs.declared.K3.{K3}
use Rattle.tv_kleene.specs.declared.K3.TheVariants.{No}
use Rattle.tv_structure_form.specs.TableForm.{PlaneForm, TableForm, plane_at, row_in, selected}
use Rattle.tv_structure_form.specs.TableForm.{table_with_row}
use Rattle.tv_struct.proofs.PlaneDraws.{DrawsFrom, arity_read, row_origins, column_origins, drawn_row}
use Rattle.tv_struct.proofs.PlaneDraws.{drawn_plane}
use Rattle.tv_struct.proofs.planes.Planes.draw_plane.Goals as goal

pub loop-row-preserved : goal.loop-row-preserved
loop-row-preserved c =
    let source : PlaneForm = plane_at c.args.source.now c.args.p.0
    in let columns : List ℕ = column_origins source.arity c.args.drawing.now.origins
    in let values : List K3 = selected No (row_in source (get_or c.row_origins-rows.result.now c.loop-row.row 0)) columns
    in let from : DrawsFrom source c.args.drawing.now.origins c.row_origins-rows.result.now columns = record {
      rows_are = c.row_origins-rows.ensures ∙ ap (row_origins c.arity.result) c.origins.ensures.value
          ∙ ap (λ n. row_origins n c.args.drawing.now.origins)
          (arity_read c.args.source.now c.args.p.0 c.arity.result c.requires.source c.arity.ensures.value);
      columns_are = refl;
    }
    in record {
      so_far = c.draw_row.ensures.value
          ∙ ap (λ (t : TableForm). table_with_row t c.args.p.0 c.loop-row.row values) c.loop-row.invariant.so_far
          ∙ drawn_row c.args.self.now source c.args.drawing.now.origins c.row_origins-rows.result.now columns c.args.p.0 c.loop-row.row
          values c.requires.table c.requires.predicate c.requires.size c.requires.arity from c.loop-row-test.true refl;
      kept = c.draw_row.ensures.kept;
    }

pub returns-clause-value : goal.returns-clause-value
returns-clause-value c =
    let source : PlaneForm = plane_at c.args.source.now c.args.p.0
    in let columns : List ℕ = column_origins source.arity c.args.drawing.now.origins
    in let from : DrawsFrom source c.args.drawing.now.origins c.row_origins-rows.result.now columns = record {
      rows_are = c.row_origins-rows.ensures ∙ ap (row_origins c.arity.result) c.origins.ensures.value
          ∙ ap (λ n. row_origins n c.args.drawing.now.origins)
          (arity_read c.args.source.now c.args.p.0 c.arity.result c.requires.source c.arity.ensures.value);
      columns_are = refl;
    }
    in c.loop-row.invariant.so_far
    ∙ drawn_plane c.args.self.now source c.args.drawing.now.origins c.row_origins-rows.result.now columns c.args.p.0 c.loop-row.row
    c.requires.table c.requires.predicate c.requires.size c.requires.arity from c.loop-row-test.false
