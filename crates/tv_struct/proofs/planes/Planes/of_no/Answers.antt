use Rattle.std.proofs.Common.{◌≤◌, arith}
use Rattle.std.proofs.lemmas.List.{length-map}
use Rattle.std.proofs.lemmas.List.Elements.{All-map}
use Rattle.tv_struct.proofs.planes.Planes.of_no.Goals as goal

pub new-requires : goal.new-requires
new-requires c =
    record {
      size = c.requires.size;
      predicates = rw (length-map c.args.preds.now (λ pred. pred.arity)) (omega arith);
      arities = All-map (λ arity. arity ≤ 2) (λ pred. pred.arity) c.args.preds.now c.requires.arities;
    }
