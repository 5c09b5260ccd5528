use Rattle.std.proofs.Common.{◌<◌, ◌≤◌, List, length, take, arith, refl, subst, sym, ap}
use Rattle.std.proofs.lemmas.List.{take_all}
use Rattle.tv_lemmas.proofs.Options.{IfErr-same}
use Rattle.tv_focus_laws.specs.FocusAtoms.{focus_atoms}
use Rattle.tv_model.specs.Form.{form_of}
use Rattle.tv_stages_laws.specs.Stages.{NumberedPlace}
use Rattle.tv_stages.specs.Tasks.{IsReadyToRecord, task_program}
use Rattle.tv_stages.specs.Turns.{StopsFocus, Turned, numbered_places}
use Rattle.tv_stages.proofs.Turning.{place-at, places-count, stops-next, turned-next, turned-none}
use Rattle.tv_stages.proofs.Turning.{turned-shaped}
use Rattle.tv_stages.proofs.focus.take_turns.Goals as goal

pub loop-atom-init : goal.loop-atom-init
loop-atom-init c = record { turned = turned-none (task_program c.args.x.now) c.args.progress.now; same = refl }

pub take_turn-requires : goal.take_turn-requires
take_turn-requires c = record {
  ready = subst (IsReadyToRecord c.args.x.now) (sym c.loop-atom.invariant.same) c.requires.ready;
  place = record {
    formula = c.requires.formula;
    atom = omega (
      arith,
      c.loop-atom-test.true,
      c.count-count.ensures,
      ap (λ g. length (focus_atoms (form_of g))) c.in_ok-new.ensures,
    );
  };
  shaped = turned-shaped (task_program c.args.x.now)
      (take c.loop-atom.atom (numbered_places c.args.number (form_of c.args.formula.now))) c.args.progress.now
      c.loop-atom.progress c.loop-atom.invariant.turned c.requires.shaped;
}

pub returns-in_err-take_turn-clause-cause : goal.returns-in_err-take_turn-clause-cause
returns-in_err-take_turn-clause-cause c =
    let f = form_of c.args.formula.now
    in let n = c.args.number
    in let k = c.loop-atom.atom
    in let turn : NumberedPlace = record { number = n; place = record { formula = f; atom = k } }
    in let below : k < length (focus_atoms f)
    = omega (
      arith,
      c.loop-atom-test.true,
      c.count-count.ensures,
      ap (λ g. length (focus_atoms (form_of g))) c.in_ok-new.ensures,
    )
    in let e = c.in_err-take_turn.field-0.0
    in IfErr-same (StopsFocus (task_program c.args.x.now) (numbered_places n f) c.args.progress.now.at_hand)
    c.from_residual-in_err-take_turn.result e c.from_residual-in_err-take_turn.ensures.1
    (stops-next (task_program c.args.x.now) (numbered_places n f) k turn c.args.progress.now c.loop-atom.progress e
    (omega (arith, below, places-count n f)) (place-at n f k turn below) c.loop-atom.invariant.turned
    c.in_err-take_turn.ensures.cause)

pub loop-atom-preserved : goal.loop-atom-preserved
loop-atom-preserved c =
    let f = form_of c.args.formula.now
    in let n = c.args.number
    in let k = c.loop-atom.atom
    in let turn : NumberedPlace = record { number = n; place = record { formula = f; atom = k } }
    in let below : k < length (focus_atoms f)
    = omega (
      arith,
      c.loop-atom-test.true,
      c.count-count.ensures,
      ap (λ g. length (focus_atoms (form_of g))) c.in_ok-new.ensures,
    )
    in record {
      turned = turned-next (task_program c.args.x.now) (numbered_places n f) k turn c.args.progress.now
          c.loop-atom.progress c.take_turn.new.progress (omega (arith, below, places-count n f))
          (place-at n f k turn below) c.loop-atom.invariant.turned c.in_ok-take_turn.ensures.turned;
      same = cc;
    }

pub returns-clause-turned : goal.returns-clause-turned
returns-clause-turned c =
    let f = form_of c.args.formula.now
    in let n = c.args.number
    in let all : length (numbered_places n f) ≤ c.loop-atom.atom
    = omega (
      arith,
      c.loop-atom-test.false,
      c.loop-atom.auto.atom-end,
      c.count-count.ensures,
      ap (λ g. length (focus_atoms (form_of g))) c.in_ok-new.ensures,
      places-count n f,
    )
    in subst (λ (turns : List NumberedPlace). Turned (task_program c.args.x.now) turns c.args.progress.now
    c.loop-atom.progress)
    (take_all c.loop-atom.atom (numbered_places n f) all) c.loop-atom.invariant.turned
