use Rattle.std.proofs.Common.{◌++◌, [], List, map, take, drop, refl}
use Rattle.std.proofs.Common.{subst, sym}
use Rattle.std.proofs.Common.{◌+◌}
use Rattle.std.proofs.lemmas.List.{take_all}
use Rattle.tv_lemmas.proofs.Lists.{All-mapped}
use Rattle.tv_lemmas.proofs.Options.{IfErr-same}
use Rattle.tv_model.specs.declared.formula.Formula.{Formula}
use Rattle.tv_model.specs.Form.{form_of}
use Rattle.tv_model.specs.Valid.{IsFormula}
use Rattle.std.proofs.lemmas.List.Elements.{All-contains}
use Rattle.tv_stages_laws.specs.declared.record.FocusRow.{FocusRow}
use Rattle.tv_stages_laws.specs.Stages.{AreFocusRows, NumberedPlace, places_from}
use Rattle.tv_stages.specs.Tasks.{IsReadyToRecord, task_program}
use Rattle.tv_stages.specs.Turns.{StopsFocus, Turned, numbered_places}
use Rattle.tv_stages.specs.declared.turn.Progress.{Progress}
use Rattle.tv_stages.proofs.Telling.{item-there}
use Rattle.tv_stages.proofs.Turning.{formulas-next, formulas-split, stops-later, stops-sooner, turned-more}
use Rattle.tv_stages.proofs.Turning.{turned-shaped}
use Rattle.tv_stages.proofs.focus.focus.Goals as goal

pub loop-number-init : goal.loop-number-init
loop-number-init c =
    record { turned = ([], c.new.ensures, (refl, refl)); same = refl }

pub take_turns-requires-clause-ready : goal.take_turns-requires-clause-ready
take_turns-requires-clause-ready c =
    subst (IsReadyToRecord c.args.x.now) (sym c.loop-number.invariant.same) c.requires.ready

pub take_turns-requires-clause-formula : goal.take_turns-requires-clause-formula
take_turns-requires-clause-formula c =
    let p = task_program c.args.x.now
    in let fs = c.args.formulas.now
    in let f = c.index-formulas-number.result
    in All-contains (λ (g : Formula). IsFormula p (form_of g)) fs f
    (All-mapped (IsFormula p) form_of fs c.requires.formulas)
    (item-there fs c.loop-number.number f c.loop-number-test.true c.index-formulas-number.is)

pub take_turns-requires-clause-shaped : goal.take_turns-requires-clause-shaped
take_turns-requires-clause-shaped c =
    turned-shaped (task_program c.args.x.now)
    (places_from 0 (map form_of (take c.loop-number.number c.args.formulas.now)))
    (record { rows = []; at_hand = c.args.start }) c.loop-number.progress c.loop-number.invariant.turned
    c.requires.shaped

pub returns-in_err-take_turns-clause-cause : goal.returns-in_err-take_turns-clause-cause
returns-in_err-take_turns-clause-cause c =
    let p = task_program c.args.x.now
    in let fs = c.args.formulas.now
    in let i = c.loop-number.number
    in let f = c.index-formulas-number.result
    in let own = numbered_places i (form_of f)
    in let rest = places_from (i + 1) (map form_of (drop (i + 1) fs))
    in let before : Progress = record { rows = []; at_hand = c.args.start }
    in let e = c.in_err-take_turns.field-0.0
    in IfErr-same (StopsFocus p (places_from 0 (map form_of fs)) c.args.start) c.from_residual.result e
    c.from_residual.ensures.1
    (subst (λ (turns : List NumberedPlace). StopsFocus p turns c.args.start e)
    (sym (formulas-split fs i f c.loop-number-test.true (sym c.index-formulas-number.is)))
    (stops-later p (places_from 0 (map form_of (take i fs))) (own ++ rest) before c.loop-number.progress e
    c.loop-number.invariant.turned
    (stops-sooner p own rest c.loop-number.progress.at_hand e c.in_err-take_turns.ensures.cause)))

pub loop-number-preserved : goal.loop-number-preserved
loop-number-preserved c =
    let p = task_program c.args.x.now
    in let fs = c.args.formulas.now
    in let i = c.loop-number.number
    in let f = c.index-formulas-number.result
    in let before : Progress = record { rows = []; at_hand = c.args.start }
    in record {
      turned = subst (λ (turns : List NumberedPlace). Turned p turns before c.take_turns.new.progress)
          (sym (formulas-next fs i f c.loop-number-test.true (sym c.index-formulas-number.is)))
          (turned-more p (places_from 0 (map form_of (take i fs))) (numbered_places i (form_of f)) before
          c.loop-number.progress c.take_turns.new.progress c.loop-number.invariant.turned
          c.in_ok-take_turns.ensures.turned);
      same = cc;
    }

pub returns-clause-rows : goal.returns-clause-rows
returns-clause-rows c =
    let p = task_program c.args.x.now
    in let fs = c.args.formulas.now
    in let x = c.loop-number.progress
    in let turned = c.loop-number.invariant.turned
    in subst (λ (rows : List FocusRow). AreFocusRows p (places_from 0 (map form_of fs)) c.args.start rows x.at_hand)
    (sym turned.1)
    (subst (λ (gs : List Formula). AreFocusRows p (places_from 0 (map form_of gs)) c.args.start turned.0 x.at_hand)
    (take_all c.loop-number.number fs c.loop-number-test.false) turned.2)
