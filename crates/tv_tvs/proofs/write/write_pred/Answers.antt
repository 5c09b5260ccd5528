use Rattle.std.proofs.Common.{◌≡◌, ◌++◌, refl, subst}
use Rattle.std.specs.Prelude.{OnOk}
use Rattle.tv_struct.specs.StructureRows.{unary_row}
use Rattle.tv_tvs.proofs.PredLines.{unary_line}
use Rattle.tv_tvs.proofs.write.write_pred.Goals as goal

pub returns-in-1 : goal.returns-in-1
returns-in-1 c =
    subst (λ t. OnOk c.write_unary.result (c.write_unary.new.out ≡ c.args.out.now ++ t))
    (unary_line c.args.s.now c.args.p.0 c.args.pred.now.arity c.as_slice-name.result.now c.args.pred.now.name
    (unary_row c.args.s.now c.args.p.0) c.as_slice-name.ensures c.in-1.is refl)
    c.write_unary.ensures
