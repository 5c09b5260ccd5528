use Rattle.std.proofs.Common.{ℕ, ◌≡◌, ◌<◌, ◌+◌, ◌∙◌, List, ap, sym, length, refl, arith}
use Rattle.std.proofs.lemmas.List.FromFn.{length-range_with_len}
use Rattle.std.specs.List.{range_with_len}
use Rattle.tv_kleene.specs.declared.K3.{K3}
use Rattle.tv_kleene.specs.declared.K3.TheVariants.{No}
use Rattle.tv_structure_form.specs.TableForm.{PlaneForm, TableForm, plane_at, row_in, selected}
use Rattle.tv_structure_form.specs.TableForm.{table_with_row}
use Rattle.tv_structure_form.specs.TableForm.{row_count}
use Rattle.tv_struct.proofs.PlaneDraws.{DrawsFrom, row_origins, column_origins, row_origins-count, drawn_row}
use Rattle.tv_struct.proofs.PlaneDraws.{drawn_plane, own_origin}
use Rattle.tv_struct.proofs.planes.Planes.extend_plane.Goals as goal

pub loop-row-preserved : goal.loop-row-preserved
loop-row-preserved c =
    let source : PlaneForm = plane_at c.args.source.now c.args.p.0
    in let origins : List ℕ = range_with_len 0 (c.args.source.now.size + 1)
    in let rows : List ℕ = row_origins source.arity origins
    in let columns : List ℕ = column_origins source.arity origins
    in let values : List K3 = selected No (row_in source c.loop-row.row) columns
    in let size : c.args.self.now.size ≡ length origins = c.requires.size ∙ sym (length-range_with_len 0 (c.args.source.now.size + 1))
    in let from : DrawsFrom source origins rows columns = record { rows_are = refl; columns_are = refl }
    in let many : c.row_total-rows.result ≡ length rows
    = c.row_total-rows.ensures.count ∙ ap (λ n. row_count n (plane_at c.args.self.now c.args.p.0).arity) size
    ∙ ap (row_count (length origins)) c.requires.arity ∙ sym (row_origins-count source.arity origins)
    in let lt : c.loop-row.row < length rows = omega (arith, c.loop-row-test.true, many)
    in record {
      so_far = c.extend_row.ensures.value
          ∙ ap (λ (t : TableForm). table_with_row t c.args.p.0 c.loop-row.row values) c.loop-row.invariant.so_far
          ∙ drawn_row c.args.self.now source origins rows columns c.args.p.0 c.loop-row.row
          values c.requires.table c.requires.predicate size c.requires.arity from lt
          (ap (λ n. selected No (row_in source n) columns) (sym (own_origin source.arity (c.args.source.now.size + 1) c.loop-row.row lt)));
      kept = c.extend_row.ensures.kept;
    }

pub returns-clause-value : goal.returns-clause-value
returns-clause-value c =
    let source : PlaneForm = plane_at c.args.source.now c.args.p.0
    in let origins : List ℕ = range_with_len 0 (c.args.source.now.size + 1)
    in let rows : List ℕ = row_origins source.arity origins
    in let columns : List ℕ = column_origins source.arity origins
    in let size : c.args.self.now.size ≡ length origins = c.requires.size ∙ sym (length-range_with_len 0 (c.args.source.now.size + 1))
    in let from : DrawsFrom source origins rows columns = record { rows_are = refl; columns_are = refl }
    in let many : c.row_total-rows.result ≡ length rows
    = c.row_total-rows.ensures.count ∙ ap (λ n. row_count n (plane_at c.args.self.now c.args.p.0).arity) size
    ∙ ap (row_count (length origins)) c.requires.arity ∙ sym (row_origins-count source.arity origins)
    in c.loop-row.invariant.so_far
    ∙ drawn_plane c.args.self.now source origins rows columns c.args.p.0 c.loop-row.row
    c.requires.table c.requires.predicate size c.requires.arity from (omega (arith, c.loop-row-test.false, many))
