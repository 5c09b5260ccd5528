use Rattle.std.proofs.Common.{arith}
use Rattle.tv_listing.specs.ListingForm.{at_node}
use Rattle.tv_model.specs.Program.{program_of}
use Rattle.tv_losses.specs.Losses.{IsLost, IsLostAt}
use Rattle.tv_losses.proofs.Exactly.{none-below, below-all, below-next}
use Rattle.tv_losses.proofs.Losing.{lost-at, lost-within, ready-again, same-answer}
use Rattle.tv_losses.proofs.along.lost_along.Goals as goal

pub loop-place-init : goal.loop-place-init
loop-place-init c = record {
  are = none-below (IsLostAt (program_of c.args.x.now.program.now) c.args.x.now.mode c.args.number
      (at_node c.args.x.now.listing.now c.args.edge.from)) c.new-places.result c.new-places.ensures;
  same = cc;
}

pub is_lost-requires-clause-ready : goal.is_lost-requires-clause-ready
is_lost-requires-clause-ready c =
    ready-again c.args.x.now c.args.stepper.now c.loop-place.stepper c.loop-place.invariant.same c.requires.ready

pub loop-place-preserved : goal.loop-place-preserved
loop-place-preserved c =
    let p = program_of c.args.x.now.program.now
    in let mode = c.args.x.now.mode
    in let source = at_node c.args.x.now.listing.now c.args.edge.from
    in let k = c.loop-place.place
    in let s = c.at-s.result.now
    in record {
      are = below-next (IsLostAt p mode c.args.number source) k c.loop-place.places c.loop-place.invariant.are
          c.in_ok-on.on c.push_if.new.places
          (same-answer (IsLost p mode c.args.number s) (IsLostAt p mode c.args.number source k) c.in_ok-on.on
          c.in_ok-on.ensures.lost (lost-at p mode c.args.number source k s c.at-s.ensures.value))
          c.in_ok-push_if.ensures;
      same = cc;
    }

pub returns-clause-places : goal.returns-clause-places
returns-clause-places c =
    let p = program_of c.args.x.now.program.now
    in let mode = c.args.x.now.mode
    in let source = at_node c.args.x.now.listing.now c.args.edge.from
    in below-all (IsLostAt p mode c.args.number source) c.loop-place.place c.loop-place.places
    c.loop-place.invariant.are
    (λ k lost. omega (
      arith,
      lost-within p mode c.args.number source k lost,
      c.loop-place-test.false,
      c.loop-place.auto.place-end,
      c.count-place-end.ensures,
    ))
