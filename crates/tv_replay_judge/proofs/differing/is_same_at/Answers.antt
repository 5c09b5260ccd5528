use Rattle.std.proofs.Common.{◌≡◌, ◌↔◌, ◌∙◌, IsTrue, length, map, refl, sym, ap, subst}
use Rattle.std.specs.Prelude.{is_some}
use Rattle.tv_model.specs.Form.{form_of, vars_of}
use Rattle.tv_model.specs.Program.{KDefined, action_of, kind_of, pred_of, update_of}
use Rattle.tv_model.specs.Step.{update_for}
use Rattle.tv_replay_judge.specs.Same.{HasSameValues, HasVariables}
use Rattle.tv_replay_judge.proofs.Preds.{same-at}
use Rattle.tv_replay_judge.proofs.differing.is_same_at.Goals as goal

pub returns-else-not-has_update : goal.returns-else-not-has_update
returns-else-not-has_update c =
    let given = c.args.given.now
    in let new = c.args.new.now
    in let q = c.args.p.0
    in let kind : kind_of c.args.pred.now.kind ≡ KDefined (vars_of c.in-Defined.vars) (form_of c.in-Defined.body) = ap kind_of c.in-Defined.is
    in let count : length (vars_of c.in-Defined.vars) ≡ c.args.pred.now.arity = subst (HasVariables c.args.pred.now.arity) kind c.requires.variables
    in let updated : is_some (update_for q (map update_of c.args.action.now.updates)) ≡ is_some (update_for q (action_of c.args.action.now).updates) = refl
    in same-at (action_of c.args.action.now) given new q (pred_of c.args.pred.now) (vars_of c.in-Defined.vars) (form_of c.in-Defined.body)
    c.have_same_values.result kind
    (sym updated ∙ ap (λ us. is_some (update_for q (map update_of us))) (sym c.as_slice.ensures) ∙ sym c.has_update.ensures ∙ c.if-not-has_update.false)
    (subst (λ n. IsTrue c.have_same_values.result ↔ HasSameValues given new q n) count c.have_same_values.ensures)
