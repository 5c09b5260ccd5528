use Rattle.std.proofs.Common.{◌∙◌, []}
use Rattle.tv_lemmas.proofs.Lists.{nothing_added}
use Rattle.tv_rules.specs.EntryForms.{rules_of}
use Rattle.tv_step_laws.proofs.Shapes.{shaped-over}
use Rattle.tv_step.specs.Ending.{Becomes}
use Rattle.tv_step.specs.Setting.{form_in}
use Rattle.tv_step.proofs.Coercing.{can-coerce, push-adds, some-coerces}
use Rattle.tv_step.proofs.Finishing.{coerced-over, none-becomes, some-becomes}
use Rattle.tv_step.proofs.coerced.coerce_one.Goals as goal

pub coerce_in_place-requires-clause-ready : goal.coerce_in_place-requires-clause-ready
coerce_in_place-requires-clause-ready c =
    can-coerce c.args.x.now c.args.s c.args.scratch.now c.requires.ready c.requires.shaped
    c.size.ensures.kept

pub returns-in-None-clause-out : goal.returns-in-None-clause-out
returns-in-None-clause-out c = (
  [],
  none-becomes c.args.ending (form_in c.args.x.now) (rules_of c.args.x.now.closed.now) c.args.s
      c.in_ok-coerce_in_place.field-0
      c.requires.ready.rules c.in_ok-coerce_in_place.ensures.exact c.in-None.is,
  nothing_added c.args.out.now,
)

pub finish-requires : goal.finish-requires
finish-requires c =
    coerced-over (rules_of c.args.x.now.closed.now) c.args.s c.in_ok-coerce_in_place.field-0 c.in-Some.t
    c.in_ok-coerce_in_place.ensures.exact c.in-Some.is
    ∙ shaped-over c.args.x.now.program.now c.args.s c.requires.shaped

pub returns-in_ok-finish-in-Some-clause-out : goal.returns-in_ok-finish-in-Some-clause-out
returns-in_ok-finish-in-Some-clause-out c =
    let rules = rules_of c.args.x.now.closed.now
    in let found = c.in_ok-coerce_in_place.field-0
    in let exact = c.in_ok-coerce_in_place.ensures.exact
    in push-adds (Becomes c.args.ending (form_in c.args.x.now)) c.args.s c.push.result c.args.out.now
    c.push.new.self c.in_ok-finish-in-Some.field-0
    (some-becomes c.args.ending c.args.x.now.program.now c.args.s c.in-Some.t
    c.in_ok-finish-in-Some.field-0
    (some-coerces (form_in c.args.x.now) rules c.args.s found c.in-Some.t c.requires.ready.rules
    c.requires.shaped exact c.in-Some.is)
    (coerced-over rules c.args.s found c.in-Some.t exact c.in-Some.is ∙ c.requires.shaped.over)
    c.in_ok-finish-in-Some.ensures) c.push.ensures
