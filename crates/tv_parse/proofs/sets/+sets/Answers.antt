use Rattle.std.proofs.Common.{◌≡◌, ◌∙◌, sym, arith, None}
use Rattle.tv_lex.specs.Token.{spec_tokens}
use Rattle.tv_tree.specs.Copies.{term_of}
use Rattle.tv_parse.specs.Reading.{set_sign}
use Rattle.tv_parse.proofs.SetSteps.{set_ends, set_pushed}
use Rattle.tv_parse.proofs.sets.+sets.Goals as goal

pub set_at-returns-in_default : goal.set_at-returns-in_default
set_at-returns-in_default t c =
    let none : set_sign (spec_tokens c.args.bytes.now c.steps.rest.now) ≡ None = grind arith in
    set_ends _ c.steps.left c.in_ok-left-2.left _ (spec_tokens c.args.bytes.now c.steps.rest.now) c.steps.invariant.same c.in_ok-left-2.ensures.value none

pub set_at-steps-preserved : goal.set_at-steps-preserved
set_at-steps-preserved t c = record {
  same = c.steps.invariant.same
      ∙ set_pushed c.steps.left c.in_ok-left-2.left (term_of _) c.steps.more.items c.push.new.self.items _ (spec_tokens c.args.bytes.now c.steps.rest.now) (spec_tokens c.args.bytes.now c.in-Some.behind.now) (spec_tokens c.args.bytes.now c.in_ok-term.further.now) c.in_ok-push.ensures.items c.in_ok-left-2.ensures.value (sym c.in-Some.ensures) c.in_ok-term.ensures;
  less = omega (arith, c.in_ok-left-2.ensures.less, c.steps.invariant.less);
}
