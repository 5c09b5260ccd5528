use Rattle.std.proofs.Common.{sym}
use Rattle.tv_model.specs.Form.{vars_of}
use Rattle.tv_model.specs.Program.{pred_of}
use Rattle.tv_delta.proofs.AtomSteps.{starts}
use Rattle.tv_delta.proofs.atoms.opened.Goals as goal

pub returns-in-Some : goal.returns-in-Some
returns-in-Some c =
    λ depth on ends.
    starts c.args.o.now depth c.args.q.0 (vars_of c.args.args) (pred_of c.in-Some.pred.now) _ (sym c.in-Some.ensures)
    c.start_by_kind.ensures on ends
