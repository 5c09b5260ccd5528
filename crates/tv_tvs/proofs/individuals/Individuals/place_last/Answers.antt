use Rattle.std.proofs.Common.{◌++◌, ◌-◌, subst, sym, arith, if◌then◌else◌}
use Rattle.std.specs.Prelude.{codes}
use Rattle.tv_tvs.specs.Canonical.{individual}
use Rattle.tv_tvs.specs.Rows.{IsPlaced, listed_name}
use Rattle.tv_tvs.proofs.Rooms.{placed_behind, placed_less}
use Rattle.tv_tvs.proofs.individuals.Individuals.place_last.Goals as goal

pub returns-else-known-clause-placed : goal.returns-else-known-clause-placed
returns-else-known-clause-placed c =
    let room = c.args.room.now
    in let named = c.place-end.new.room
    in let end = c.place-end.result
    in let first = placed_less room named (individual c.args.u) (codes ", ") c.args.at end (omega (arith, c.requires.room))
    (subst (λ t. IsPlaced room named c.args.at t end) c.last.ensures c.place-end.ensures.placed)
    in let second = subst (λ t. IsPlaced named c.place.new.room (end - 2) t c.place.result) c.unknown.ensures c.place.ensures.placed
    in let both = placed_behind room named c.place.new.room (individual c.args.u) (codes ":1/2, ") c.args.at (end - 2) c.place.result
    first second
    in subst (λ b. IsPlaced room c.place.new.room c.args.at
    (if b then listed_name c.args.u else (individual c.args.u ++ codes ":1/2, ")) c.place.result) (sym c.if-known.false) both
