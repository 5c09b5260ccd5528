use Rattle.std.proofs.Common.{◌∙◌, ◌∷◌, ◌++◌, [], ap, arith, not}
use Rattle.std.specs.Prelude.{if◌then◌else◌}
use Rattle.tv_focus.proofs.Lines.{found_all, found_next}
use Rattle.tv_focus.proofs.anchors.ordinary_in.Goals as goal

pub loop-u-preserved : goal.loop-u-preserved
loop-u-preserved c = (
  omega (arith, c.in-Some.ensures.1),
  found_next c.args.s.now c.args.row.now c.loop-u.from c.in-Some.u c.loop-u.found.items c.push_if.new.anchors.items
      c.loop-u.invariant.1 c.in-Some.ensures.0 c.in-Some.ensures.3 c.in-Some.ensures.2
      (c.in_ok-push_if.ensures
      ∙ ap (λ b. c.loop-u.found.items ++ (if not b then c.in-Some.u ∷ [] else [])) c.summary.ensures),
)

pub returns : goal.returns
returns c =
    found_all c.args.s.now c.args.row.now c.loop-u.from c.loop-u.found.items c.loop-u.invariant.1 c.loop-u.invariant.0
    c.requires c.in_default.ensures
