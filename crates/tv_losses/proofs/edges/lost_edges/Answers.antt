use Rattle.std.proofs.Common.{ℕ, ◌≡◌, List, [], Some, length, get_or, ap, arith, slice_get, subst}
use Rattle.std.specs.Prelude.{IfSome, IfNone}
use Rattle.tv_listing.specs.ListingForm.{at_node}
use Rattle.std.proofs.lemmas.Option.{slice_get-get_or, slice_get_within}
use Rattle.tv_model.specs.Program.{program_of}
use Rattle.tv_model.specs.declared.program.Edge.{Edge}
use Rattle.tv_losses.specs.Tasks.{Tells}
use Rattle.tv_losses.proofs.Losing.{ready-again}
use Rattle.tv_losses.proofs.Telling.{told-all, told-next, none-told}
use Rattle.tv_losses.proofs.edges.lost_edges.Goals as goal

pub loop-number-init : goal.loop-number-init
loop-number-init c = record {
  told = none-told (program_of c.args.x.now.program.now) c.args.x.now.mode c.args.x.now.listing.now c.new-losses.result
      c.new-losses.ensures;
  same = cc;
}

pub lost_along-requires-clause-ready : goal.lost_along-requires-clause-ready
lost_along-requires-clause-ready c =
    ready-again c.args.x.now c.args.stepper.now c.loop-number.stepper c.loop-number.invariant.same
    c.requires.ready

pub loop-number-preserved : goal.loop-number-preserved
loop-number-preserved c =
    let x = c.args.x.now
    in let p = program_of x.program.now
    in let mode = x.mode
    in let listing = c.args.x.now.listing.now
    in let n = c.loop-number.number
    in let items = c.as_slice-edge-items.result.now
    in let edge : Edge = get_or items n (record { from = 0; action = 0; to = 0 })
    in let is : slice_get x.program.now.edges n ≡ Some edge
    = subst (λ (xs : List Edge). slice_get xs n ≡ Some edge) c.as_slice-edge-items.ensures
    (slice_get-get_or items n (record { from = 0; action = 0; to = 0 }) c.loop-number-test.true)
    in let places = c.in_ok-places.places
    in let loss = c.loss_of-loss.result
    in record {
      told = told-next p mode listing n edge is places c.in_ok-places.ensures.places c.loop-number.losses
          c.loop-number.invariant.told loss c.push_some.new.losses
          (subst (λ ns. IfSome loss (Tells n (length (at_node listing edge.from)) ns)) c.as_slice.ensures
          (subst (λ k. IfSome loss (Tells n k c.as_slice.result.now)) c.count-listed.ensures
          c.loss_of-loss.ensures.some))
          (subst (λ (ns : List ℕ). IfNone loss (ns ≡ [])) c.as_slice.ensures c.loss_of-loss.ensures.none)
          c.in_ok-push_some.ensures;
      same = cc;
    }

pub returns-clause-losses : goal.returns-clause-losses
returns-clause-losses c =
    let x = c.args.x.now
    in told-all (program_of x.program.now) x.mode x.listing.now c.loop-number.number c.loop-number.losses
    c.loop-number.invariant.told
    (λ edge taken is. omega (
      arith,
      slice_get_within x.program.now.edges edge taken is,
      c.loop-number-test.false,
      ap length c.as_slice-edge-items.ensures,
    ))
