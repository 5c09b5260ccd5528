use Rattle.std.proofs.Common.{subst}
use Rattle.tv_rules.specs.EntryForms.{rules_of}
use Rattle.tv_step.specs.Changed.{IsFew}
use Rattle.tv_step.specs.Ending.{Becomes}
use Rattle.tv_step.specs.Setting.{form_in}
use Rattle.tv_step_laws.proofs.Shapes.{shaped-over}
use Rattle.tv_step.proofs.Coercing.{push-adds}
use Rattle.tv_step.proofs.Finishing.{itself-becomes}
use Rattle.tv_step.proofs.coerced.coerce_if_unmet.Goals as goal

pub finish-requires : goal.finish-requires
finish-requires c = shaped-over c.args.x.now.program.now c.args.s c.requires.shaped

pub returns-in_ok-finish-in-None-clause-out : goal.returns-in_ok-finish-in-None-clause-out
returns-in_ok-finish-in-None-clause-out c =
    push-adds (Becomes c.args.ending (form_in c.args.x.now)) c.args.s c.push.result
    c.args.out.now c.push.new.self c.in_ok-finish-in-None.field-0
    (itself-becomes c.args.ending c.args.x.now.program.now c.args.s c.in_ok-finish-in-None.field-0 c.requires.shaped
    (subst (IsFew (form_in c.args.x.now) (rules_of c.args.x.now.closed.now) c.args.s) c.in-None.is c.requires.few)
    c.in_ok-finish-in-None.ensures) c.push.ensures

pub coerce_one-requires-clause-count : goal.coerce_one-requires-clause-count
coerce_one-requires-clause-count c =
    (subst (IsFew (form_in c.args.x.now) (rules_of c.args.x.now.closed.now) c.args.s) c.in-Some.is
    c.requires.few).0

pub coerce_one-requires-clause-rest : goal.coerce_one-requires-clause-rest
coerce_one-requires-clause-rest c =
    (subst (IsFew (form_in c.args.x.now) (rules_of c.args.x.now.closed.now) c.args.s) c.in-Some.is
    c.requires.few).1
