use Rattle.std.proofs.Common.{subst, sym}
use Rattle.tv_coerce.specs.Ready.{CanCoerce}
use Rattle.tv_test_engine.proofs.coerce.coerced.coerced.Goals as goal

pub coerce-requires : goal.coerce-requires
coerce-requires c =
    subst (λ rules. CanCoerce rules c.args.s.now c.in_ok-scratch.scratch) (sym c.in_ok-closed.ensures.rules)
    (c.closed_rules_can_be_tried.ensures c.args.program.now c.args.s.now c.in_ok-scratch.scratch c.requires.valid
    c.requires.over c.size.ensures.kept c.in_ok-scratch.ensures)
