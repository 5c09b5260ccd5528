use Rattle.std.proofs.Common.{◌≡◌, true, rules}
use Rattle.tv_delta_laws.specs.Deltas.{is_flagged}
use Rattle.tv_delta.proofs.atoms.atom_start.Goals as goal

pub returns-in-None : goal.returns-in-None
returns-in-None c =
    let on : is_flagged c.args.o.now.affected.now c.args.q.0 ≡ true = search rules
    in λ depth ends. c.opened.ensures depth on ends
