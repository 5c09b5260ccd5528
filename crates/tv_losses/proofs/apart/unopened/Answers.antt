use Rattle.std.proofs.Common.{◌∙◌, Some, ap, arith, sym}
use Rattle.std.proofs.lemmas.List.Elements.{All-contains}
use Rattle.std.proofs.lemmas.Option.{slice_get-get_or}
use Rattle.tv_model.specs.Program.{program_of}
use Rattle.tv_structure_form.specs.StructureForm.{IsOver}
use Rattle.tv_step_laws.specs.Transfer.{HasNoOpening}
use Rattle.tv_losses.specs.Losses.{HasNoOpeningAt}
use Rattle.tv_losses.proofs.Exactly.{none-below, below-all, below-next}
use Rattle.tv_losses.proofs.Losing.{opening-at, ready-again, same-answer, unopened-within}
use Rattle.tv_losses.proofs.apart.unopened.Goals as goal

pub loop-place-init : goal.loop-place-init
loop-place-init c = record {
  are = none-below (HasNoOpeningAt (program_of c.args.x.now.program.now) c.args.x.now.initial.now) c.new-places.result
      c.new-places.ensures;
  same = cc;
}

pub is_unopened-requires-clause-ready : goal.is_unopened-requires-clause-ready
is_unopened-requires-clause-ready c =
    ready-again c.args.x.now c.args.stepper.now c.loop-place.stepper c.loop-place.invariant.same c.requires.ready

pub is_unopened-requires-clause-over : goal.is_unopened-requires-clause-over
is_unopened-requires-clause-over c =
    All-contains (IsOver c.args.x.now.program.now.vocab) c.args.x.now.initial.now c.s-item.result
    c.requires.ready.initial (c.loop-place.place, c.loop-place-test.true, sym c.s-item.is)

pub loop-place-preserved : goal.loop-place-preserved
loop-place-preserved c =
    let p = program_of c.args.x.now.program.now
    in let initial = c.args.x.now.initial.now
    in let k = c.loop-place.place
    in let s = c.s-item.result
    in record {
      are = below-next (HasNoOpeningAt p initial) k c.loop-place.places c.loop-place.invariant.are c.in_ok-on.on
          c.push_if.new.places
          (same-answer (HasNoOpening p s) (HasNoOpeningAt p initial k) c.in_ok-on.on c.in_ok-on.ensures.unopened
          (opening-at p initial k s (slice_get-get_or initial k s c.loop-place-test.true ∙ ap Some (sym c.s-item.is))))
          c.in_ok-push_if.ensures;
      same = cc;
    }

pub returns-clause-places : goal.returns-clause-places
returns-clause-places c =
    let p = program_of c.args.x.now.program.now
    in let initial = c.args.x.now.initial.now
    in below-all (HasNoOpeningAt p initial) c.loop-place.place c.loop-place.places c.loop-place.invariant.are
    (λ k none. omega (arith, unopened-within p initial k none, c.loop-place-test.false))
