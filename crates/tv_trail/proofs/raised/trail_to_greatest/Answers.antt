use Rattle.std.proofs.Common.{subst, Option}
use Rattle.std.specs.Prelude.{IfNone, IfSome}
use Rattle.tv_kleene.specs.declared.K3.TheVariants.{Half, Yes}
use Rattle.tv_model.specs.Program.{program_of}
use Rattle.tv_trail_laws.specs.Trails.{HasValueAt, IsShortest}
use Rattle.tv_trail_laws.specs.declared.trail.Trail.{Trail}
use Rattle.tv_trail.proofs.Greatest.{IsNowhere, leads-maybe, leads-surely, never-raised}
use Rattle.tv_trail.proofs.raised.trail_to_greatest.Goals as goal

pub returns-in-Some-clause-some : goal.returns-in-Some-clause-some
returns-in-Some-clause-some c =
    let p = program_of c.args.x.now.program.now in
    let mode = c.args.x.now.mode in
    let initial = c.args.x.now.initial.now in
    leads-surely p mode initial c.args.edge c.args.number c.in-Some.trail
    (subst (λ (f : Option Trail). IfSome f (IsShortest p mode initial (HasValueAt p c.args.edge c.args.number Yes)))
    c.in-Some.is c.in_ok-trail.ensures.some)

pub returns-in_default-2-clause-none : goal.returns-in_default-2-clause-none
returns-in_default-2-clause-none c =
    let p = program_of c.args.x.now.program.now in
    let mode = c.args.x.now.mode in
    let initial = c.args.x.now.initial.now in
    never-raised p mode initial c.args.edge c.args.number
    (subst (λ (f : Option Trail). IfNone f (IsNowhere p mode initial c.args.edge c.args.number Yes)) c.in_default.is
    c.in_ok-trail.ensures.none)
    (subst (λ (f : Option Trail). IfNone f (IsNowhere p mode initial c.args.edge c.args.number Half)) c.in_default-2.is
    c.in_ok-trail-2.ensures.none)

pub returns-clause-some : goal.returns-clause-some
returns-clause-some c =
    let p = program_of c.args.x.now.program.now in
    let mode = c.args.x.now.mode in
    let initial = c.args.x.now.initial.now in
    leads-maybe p mode initial c.args.edge c.args.number c.in-Some-2.trail
    (subst (λ (f : Option Trail). IfSome f (IsShortest p mode initial (HasValueAt p c.args.edge c.args.number Half)))
    c.in-Some-2.is c.in_ok-trail-2.ensures.some)
    (subst (λ (f : Option Trail). IfNone f (IsNowhere p mode initial c.args.edge c.args.number Yes)) c.in_default.is
    c.in_ok-trail.ensures.none)
