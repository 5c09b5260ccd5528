use Rattle.std.proofs.Common.{ℕ, ◌≡◌, min, max, ◌∙◌, refl}
use Rattle.tv_model.specs.Form.{form_of, height}
use Rattle.tv_model.specs.Program.{ActionForm, action_of, message_of, update_of}
use Rattle.tv_quantifiers.specs.Heights.{deepest, pre_height, retain_height, change_height}
use Rattle.tv_quantifiers.proofs.Deepest.{fold-of_parts, capped-max}
use Rattle.tv_quantifiers.proofs.height.in_action.Goals as goal

pub returns : goal.returns
returns c =
    let a : ActionForm = action_of c.args.action.now
    in let focus : c.in_formulas-focus.result ≡ min (deepest height a.focus) 18446744073709551615 =
    fold-of_parts height form_of 18446744073709551615 c.in_formulas-focus.result c.args.action.now.focus
    (c.in_formulas-focus.ensures ∙ (rw c.as_slice.ensures refl))
    in let messages : c.in_messages-messages.result ≡ min (deepest (λ m. height m.cond) a.messages)
    18446744073709551615 =
    fold-of_parts (λ m. height m.cond) message_of 18446744073709551615 c.in_messages-messages.result
    c.args.action.now.messages
    (c.in_messages-messages.ensures ∙ (rw c.as_slice-2.ensures refl))
    in let updates : c.in_updates-updates.result ≡ min (deepest (λ w. change_height w.change) a.updates)
    18446744073709551615 =
    fold-of_parts (λ w. change_height w.change) update_of 18446744073709551615 c.in_updates-updates.result
    c.args.action.now.updates
    (c.in_updates-updates.ensures ∙ (rw c.as_slice-3.ensures refl))
    in let m : ℕ = 18446744073709551615
    in let keep : ℕ = retain_height a.retain
    in let last : ℕ = deepest (λ w. change_height w.change) a.updates
    in let said : ℕ = deepest (λ m. height m.cond) a.messages
    in let two : c.max.result ≡ min (max keep last) m =
    capped-max c.in_retain.result c.in_updates-updates.result keep last m c.max.result c.in_retain.ensures
    updates c.max.ensures
    in let three : c.max-2.result ≡ min (max said (max keep last)) m =
    capped-max c.in_messages-messages.result c.max.result said (max keep last) m c.max-2.result messages two
    c.max-2.ensures
    in let four : c.max-3.result ≡ min (max (deepest height a.focus) (max said (max keep last))) m =
    capped-max c.in_formulas-focus.result c.max-2.result (deepest height a.focus) (max said (max keep last)) m
    c.max-3.result
    focus three c.max-3.ensures
    in capped-max c.in_pre.result c.max-3.result (pre_height a.pre)
    (max (deepest height a.focus) (max said (max keep last))) m
    c.max-4.result c.in_pre.ensures four c.max-4.ensures
