use Rattle.std.proofs.Common.{◌∙◌, ap, refl}
use Rattle.std.specs.Prelude.{option_map}
use Rattle.tv_model.specs.Form.{form_of, vars_of}
use Rattle.tv_model.specs.Program.{program_of, action_of}
use Rattle.tv_delta_laws.specs.Differences.{DTo, or_evaluate}
use Rattle.tv_delta.proofs.FormedLaws.{named}
use Rattle.tv_delta.proofs.answer.formed.Goals as goal

pub returns-clause-forms : goal.returns-clause-forms
returns-clause-forms c =
    let own = vars_of c.in_ok-own.own
    in let some = rw c.as_slice.ensures at c.in_ok-own.ensures
    in (
      own,
      form_of c.in_ok-f.f,
      named (program_of c.args.a.now.program.now) (action_of c.args.a.now.action.now) c.args.a.now.affected.now c.args.q.0
          (vars_of c.args.vars) (form_of c.args.body.now) own some
          ∙ ap (λ o. or_evaluate (option_map (λ f. DTo own f) o)) c.in_ok-f.ensures.formula,
      refl,
    )
