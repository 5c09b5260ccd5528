-- What the rules that ask for changes make of the structure.
use Rattle.std.proofs.Common.{◌<◌, ◌∙◌, Some, length, subst, sym}
use Rattle.std.specs.Prelude.{All}
use Rattle.tv_rules.specs.EntryForms.{rules_of}
use Rattle.tv_coerce.specs.Attempts.{IsAttempted}
use Rattle.tv_coerce.specs.Changes.{IsPlace}
use Rattle.tv_coerce.specs.Ready.{CanCoerce}
use Rattle.tv_coerce.specs.RuleSets.{HasAtLeast, IsRuleThat, SeesSome}
use Rattle.tv_coerce.specs.Sharpened.{IsSharpened}
use Rattle.tv_coerce.proofs.Attempting.{numbers-asked, places-asked, sharper-made}
use Rattle.tv_coerce.proofs.OnTheWay.{ready-on, way-asked, way-ends}
use Rattle.tv_coerce.proofs.greatest.settle.Goals as goal

pub attempt-requires-clause-ready : goal.attempt-requires-clause-ready
attempt-requires-clause-ready c =
    subst (CanCoerce (rules_of c.args.closed.now) c.loop-noted.t) (sym c.loop-noted.invariant.1)
    (ready-on (rules_of c.args.closed.now) c.loop-noted.waiting c.args.t.now c.loop-noted.t c.args.scratch.now c.requires.ready
    c.loop-noted.invariant.0)

pub sharpen-requires : goal.sharpen-requires
sharpen-requires c =
    let rules = rules_of c.args.closed.now
    in let asked = subst (λ a. IsAttempted rules c.loop-noted.t c.attempt.new.waiting (Some a)) c.in-Changes.is
    (subst (IsAttempted rules c.loop-noted.t c.attempt.new.waiting) c.in-Some.is c.in_ok-asked.ensures.attempted)
    in subst (All (λ ask. IsPlace c.loop-noted.t ask.change)) (sym c.as_slice.ensures.value)
    (places-asked rules c.loop-noted.t c.in-Changes.asks.items asked.forced)

pub add_seeing_asks-requires-clause-count : goal.add_seeing_asks-requires-clause-count
add_seeing_asks-requires-clause-count c =
    let rules = rules_of c.args.closed.now
    in let asked = subst (λ a. IsAttempted rules c.loop-noted.t c.attempt.new.waiting (Some a)) c.in-Changes.is
    (subst (IsAttempted rules c.loop-noted.t c.attempt.new.waiting) c.in-Some.is c.in_ok-asked.ensures.attempted)
    in asked.count

pub add_seeing_asks-requires-clause-within : goal.add_seeing_asks-requires-clause-within
add_seeing_asks-requires-clause-within c =
    let rules = rules_of c.args.closed.now
    in let asked = subst (λ a. IsAttempted rules c.loop-noted.t c.attempt.new.waiting (Some a)) c.in-Changes.is
    (subst (IsAttempted rules c.loop-noted.t c.attempt.new.waiting) c.in-Some.is c.in_ok-asked.ensures.attempted)
    in subst (All (λ ask. ask.number < length rules)) (sym c.as_slice-in-Changes.ensures.value)
    (numbers-asked rules c.loop-noted.t c.in-Changes.asks.items asked.forced)

pub loop-noted-smaller : goal.loop-noted-smaller
loop-noted-smaller c =
    let rules = rules_of c.args.closed.now
    in let asked = subst (λ a. IsAttempted rules c.loop-noted.t c.attempt.new.waiting (Some a)) c.in-Changes.is
    (subst (IsAttempted rules c.loop-noted.t c.attempt.new.waiting) c.in-Some.is c.in_ok-asked.ensures.attempted)
    in let made = subst (λ asks. IsSharpened asks (length asks) c.loop-noted.t c.sharpen.new.s) c.as_slice.ensures.value c.sharpen.ensures
    in (sharper-made rules c.in-Changes.asks.items c.loop-noted.t c.sharpen.new.s asked.forced made asked.some).fewer

pub loop-noted-preserved : goal.loop-noted-preserved
loop-noted-preserved c =
    let rules = rules_of c.args.closed.now
    in let asked = subst (λ a. IsAttempted rules c.loop-noted.t c.attempt.new.waiting (Some a)) c.in-Changes.is
    (subst (IsAttempted rules c.loop-noted.t c.attempt.new.waiting) c.in-Some.is c.in_ok-asked.ensures.attempted)
    in let made = subst (λ asks. IsSharpened asks (length asks) c.loop-noted.t c.sharpen.new.s) c.as_slice.ensures.value c.sharpen.ensures
    in (
      way-asked rules c.in-Changes.tried c.loop-noted.waiting c.attempt.new.waiting c.add_seeing_asks.new.self c.insert.new.self c.args.t.now
          c.loop-noted.t c.sharpen.new.s c.in-Changes.asks.items c.requires.ready.plain c.loop-noted.invariant.0 asked
          (sharper-made rules c.in-Changes.asks.items c.loop-noted.t c.sharpen.new.s asked.forced made asked.some)
          (subst (λ asks. HasAtLeast (IsRuleThat (SeesSome rules asks) rules) c.attempt.new.waiting c.add_seeing_asks.new.self)
          c.as_slice-in-Changes.ensures.value c.add_seeing_asks.ensures)
          c.insert.ensures,
      c.attempt.ensures.scratch ∙ c.loop-noted.invariant.1,
      c.reuse.ensures,
    )

pub returns-clause-settled : goal.returns-clause-settled
returns-clause-settled c =
    let rules = rules_of c.args.closed.now
    in way-ends rules c.loop-noted.waiting c.args.t.now c.loop-noted.t c.loop-noted.invariant.0
    (subst (IsAttempted rules c.loop-noted.t c.attempt.new.waiting) c.in_default.is c.in_ok-asked.ensures.attempted)
