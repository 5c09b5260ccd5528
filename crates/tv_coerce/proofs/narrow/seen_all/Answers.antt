-- One member more.
use Rattle.std.proofs.Common.{◌∙◌, ap, arith, get_or, length, subst, sym}
use Rattle.std.proofs.lemmas.Option.{slice_get-get_or}
use Rattle.tv_kleene.specs.declared.K3.TheVariants.{No, Yes}
use Rattle.tv_row.proofs.WordOps.{get_or-paired, length-paired}
use Rattle.tv_coerce.specs.Counting.{counted, members_in}
use Rattle.tv_coerce.proofs.Counts.{TellsBy, tells-next, tells-whole}
use Rattle.tv_coerce.proofs.Narrowing.{all-places}
use Rattle.tv_coerce.proofs.narrow.seen_all.Goals as goal

pub loop-step-init : goal.loop-step-init
loop-step-init c = (
  (all-places Yes c.of-word.result c.of-word.ensures).0,
  λ w b seen e within. subst (TellsBy c.args.trial.now.structure.now b (members_in c.args.trial.now) c.args.steps.now 0)
      (sym ((all-places Yes c.of-word.result c.of-word.ensures).1 (b w) (omega (arith, within, c.requires.few.1)))) tt,
)

pub seen-requires-clause-can : goal.seen-requires-clause-can
seen-requires-clause-can c =
    let one = c.requires.can.1 c.loop-step.step-index _ c.loop-step-test.true
    in (c.requires.can.0, one.member.form, one.read, one.formula)

pub loop-step-preserved : goal.loop-step-preserved
loop-step-preserved c = (
  ap length c.counted-word.ensures ∙ length-paired counted c.loop-step.word c.seen.result (c.loop-step.invariant.0 ∙ sym c.seen.ensures.long)
      ∙ c.loop-step.invariant.0,
  λ w b seen e within.
      let one = seen c.loop-step.step-index _ c.loop-step-test.true
      in let s = c.args.trial.now.structure.now
      in subst (TellsBy s b (members_in c.args.trial.now) c.args.steps.now _)
      (sym (ap (λ x. get_or x (b w) No) c.counted-word.ensures
      ∙ get_or-paired counted c.loop-step.word c.seen.result (b w) (omega (arith, within, c.requires.few.1, c.loop-step.invariant.0))
      (omega (arith, within, c.requires.few.1, c.seen.ensures.long))))
      (tells-next s b (members_in c.args.trial.now) c.args.steps.now c.loop-step.step-index _ one.member (get_or c.loop-step.word (b w) No)
      (get_or c.seen.result (b w) No) (slice_get-get_or c.args.steps.now c.loop-step.step-index _ c.loop-step-test.true) one.there
      (c.loop-step.invariant.1 w b seen e within) (c.seen.ensures.tells w b one.member one.read e within)),
)

pub returns-clause-tells : goal.returns-clause-tells
returns-clause-tells c = λ left last w b are seen e within.
    tells-whole c.args.trial.now.structure.now b (members_in c.args.trial.now) c.args.steps.now left last are c.loop-step.step-index
    (get_or c.loop-step.word (b w) No) (c.loop-step.invariant.1 w b seen e within)
