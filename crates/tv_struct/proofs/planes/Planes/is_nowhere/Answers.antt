use Rattle.std.proofs.Common.{◌≡◌, ◌≢◌, ◌≤◌, ◌∙◌, ℕ, ap, sym, arith}
use Rattle.tv_structure_form.specs.TableForm.{TableForm, plane_at, row_in, column_count}
use Rattle.tv_struct.proofs.HeldLaws.{narrow_words}
use Rattle.tv_struct.proofs.PlaneDraws.{arity_read, nowhere_drawn}
use Rattle.tv_struct.proofs.RowLaws.{flat_there}
use Rattle.tv_struct.proofs.NowhereLaws.{front_none}
use Rattle.tv_struct.proofs.planes.Planes.is_nowhere.Goals as goal

-- the columns of the one row
columns_are : (t : TableForm) (pred size arity columns : ℕ) → size ≡ t.size → arity ≡ (plane_at t pred).arity → columns ≡ column_count size arity
    → columns ≡ column_count t.size (plane_at t pred).arity
columns_are t pred size arity columns e f is = is ∙ ap (λ n. column_count n arity) e ∙ ap (column_count t.size) f

pub word-word-requires-clause-row : goal.word-word-requires-clause-row
word-word-requires-clause-row c =
    omega (
      arith,
      (flat_there c.args.self.now c.args.p.0 c.size-size.ensures.one_value_each c.requires
          (λ e. c.if-arity-eq2.false (arity_read c.args.self.now c.args.p.0 c.arity-arity.result c.requires c.arity-arity.ensures.value ∙ e))).0,
    )

pub word-word-requires-clause-chunk : goal.word-word-requires-clause-chunk
word-word-requires-clause-chunk c =
    omega (
      arith,
      (flat_there c.args.self.now c.args.p.0 c.size-size.ensures.one_value_each c.requires
          (λ e. c.if-arity-eq2.false (arity_read c.args.self.now c.args.p.0 c.arity-arity.result c.requires c.arity-arity.ensures.value ∙ e))).1,
      (narrow_words c.args.self.now.size (plane_at c.args.self.now c.args.p.0).arity
          (omega (arith, c.if-size-eq0.false, c.size-size.ensures.size)) (omega (arith, c.if-size-gt64.false, c.size-size.ensures.size))).0,
    )

pub first-requires : goal.first-requires
first-requires c =
    omega (
      arith,
      columns_are c.args.self.now c.args.p.0 c.size-size.result c.arity-arity.result c.column_count-columns.result c.size-size.ensures.size
          (arity_read c.args.self.now c.args.p.0 c.arity-arity.result c.requires c.arity-arity.ensures.value) c.column_count-columns.ensures,
      (narrow_words c.args.self.now.size (plane_at c.args.self.now c.args.p.0).arity
          (omega (arith, c.if-size-eq0.false, c.size-size.ensures.size)) (omega (arith, c.if-size-gt64.false, c.size-size.ensures.size))).1,
    )

pub returns-in-No : goal.returns-in-No
returns-in-No c = λ t origins.
    let flat : (plane_at c.args.self.now c.args.p.0).arity ≢ 2
    = λ e. c.if-arity-eq2.false (arity_read c.args.self.now c.args.p.0 c.arity-arity.result c.requires c.arity-arity.ensures.value ∙ e)
    in let columns : c.column_count-columns.result ≡ column_count c.args.self.now.size (plane_at c.args.self.now c.args.p.0).arity
    = columns_are c.args.self.now c.args.p.0 c.size-size.result c.arity-arity.result c.column_count-columns.result c.size-size.ensures.size
    (arity_read c.args.self.now c.args.p.0 c.arity-arity.result c.requires c.arity-arity.ensures.value) c.column_count-columns.ensures
    in let small : c.column_count-columns.result ≤ 64
    = omega (
      arith,
      columns,
      (narrow_words c.args.self.now.size (plane_at c.args.self.now c.args.p.0).arity
          (omega (arith, c.if-size-eq0.false, c.size-size.ensures.size)) (omega (arith, c.if-size-gt64.false, c.size-size.ensures.size))).1,
    )
    in nowhere_drawn (plane_at c.args.self.now c.args.p.0) origins flat
    (front_none (row_in (plane_at c.args.self.now c.args.p.0) 0) c.word-word.result c.first.result c.column_count-columns.result
    ((flat_there c.args.self.now c.args.p.0 c.size-size.ensures.one_value_each c.requires flat).1 ∙ sym columns)
    small c.word-word.ensures.long c.first.ensures (sym c.greatest.ensures ∙ c.in-No.is) c.word-word.ensures.values)
