use Rattle.std.proofs.Common.{ℕ, ◌≡◌, ◌≤◌, false, refl, Bool, List, map, subst, sym}
use Rattle.std.proofs.lemmas.List.{length-map}
use Rattle.tv_model.specs.declared.formula.PredId.{PredId}
use Rattle.tv_model.specs.Program.{program_of, action_of, pred_of}
use Rattle.tv_update.specs.Plan.{is_set, IsPlan, IsPlanSoFar, AreWaiting}
use Rattle.tv_update.proofs.Plans.{plan_start, plan_none, plan_done}
use Rattle.tv_update.proofs.plan.changed_definitions.Goals as goal

pub returns-then-changes_nothing : goal.returns-then-changes_nothing
returns-then-changes_nothing c =
    let p = program_of c.args.applied.now.program.now
    in let action = action_of c.args.applied.now.action.now
    in subst (λ (plan : List PredId). IsPlan p c.args.applied.now.mode action (map (λ x. x.0) plan))
    (sym c.new.ensures.items)
    (plan_none p c.args.applied.now.mode action c.in_ok-changed.changed.items c.requires.action
    c.in_ok-changed.ensures (c.if-changes_nothing.ensures.stays refl)
    (subst (λ (flags : List Bool). (q : ℕ) → is_set flags q ≡ false) c.as_slice.ensures.value
    (c.if-changes_nothing.ensures.clear refl)))

pub settle_hinted-requires : goal.settle_hinted-requires
settle_hinted-requires c =
    let p = program_of c.args.applied.now.program.now
    in let action = action_of c.args.applied.now.action.now
    in let waiting = c.in_ok-waiting.waiting.items
    in let changed = c.in_ok-changed.changed.items
    in subst (λ (plan : List PredId). IsPlanSoFar p c.args.applied.now.mode action waiting changed
    (map (λ x. x.0) plan))
    (sym c.new-2.ensures.items)
    (plan_start p c.args.applied.now.mode action waiting changed c.requires.action c.in_ok-changed.ensures
    (subst (λ (flags : List Bool). AreWaiting p flags waiting) c.as_slice-2.ensures.value
    c.in_ok-waiting.ensures))

pub settle_rest-requires-clause-few : goal.settle_rest-requires-clause-few
settle_rest-requires-clause-few c =
    subst (λ n. n ≤ 512) (length-map c.args.applied.now.program.now.vocab.preds pred_of)
    c.requires.valid.pred_count

pub returns : goal.returns
returns c =
    plan_done (program_of c.args.applied.now.program.now) c.requires.valid c.args.applied.now.mode
    (action_of c.args.applied.now.action.now) c.settle_rest.new.draft.waiting.items
    c.settle_rest.new.draft.changed.items (map (λ x. x.0) c.settle_rest.new.draft.plan.items)
    c.in_ok-settle_rest.ensures.so_far c.in_ok-settle_rest.ensures.none
