use Rattle.std.proofs.Common.{ℕ, ◌∙◌, ◌++◌, ap, List}
use Rattle.tv_model.specs.declared.formula.PredId.{PredId}
use Rattle.tv_model.specs.Program.{program_of}
use Rattle.tv_plan.specs.Orders.{is_held_at}
use Rattle.tv_plan.specs.Texts.{plan_lines}
use Rattle.tv_plan.proofs.Planned.{planned}
use Rattle.tv_plan.proofs.plan.plan_text.Goals as goal

pub returns : goal.returns
returns c =
    let heads = c.args.heads.now in
    let lines : List (List PredId) → List ℕ
    = λ orders. plan_lines (program_of c.args.program.now) c.args.mode (is_held_at orders) 0 heads in
    planned c.args.program.now c.args.mode c.in_ok-plans.plans.items c.in_ok-plans.ensures heads
    c.append_edges.new.out.items
    (c.in_ok-append_edges.ensures ∙ ap (λ out. out ++ lines c.deref.result.now) c.new-out.ensures.items
    ∙ ap lines c.deref.ensures.value)
