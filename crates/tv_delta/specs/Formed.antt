-- The update of a defined predicate, step by step.
use Rattle.std.specs.Prelude.{ℕ, ◌≡◌, List, Option, option_and_then, Result, Ok, Err}
use Rattle.std.specs.List.{zip}
use Rattle.tv_model.specs.declared.program.Update.{Update}
use Rattle.tv_model.specs.Form.{Form, FAtom, vars_of}
use Rattle.tv_model.specs.Program.{program_of, action_of, CTo, update_of}
use Rattle.tv_delta_laws.specs.Deltas.{Delta, small_put}
use Rattle.tv_delta_laws.specs.Differences.{Answer, DEvaluate, DTo, formed}
use Rattle.tv_delta_laws.specs.Simple.{simple_not, simple_cond}
use Rattle.tv_delta_form.specs.declared.stop.Stop.{Stop}
use Rattle.tv_delta_form.specs.declared.stop.Stop.TheVariants.{Unformed}
use Rattle.tv_delta_form.specs.Views.{small_form}
use Rattle.tv_delta.specs.declared.answer.Affecting.{Affecting}
use Rattle.tv_delta.specs.declared.opening.Opening.{Opening}
use Rattle.tv_delta.specs.Opening.{reserved_for, delta_at}

-- the delta of the body over the variables, with the update's own variables put in
abbrev pub definition_delta : Opening → (vars : List ℕ) → Form → Option Delta
definition_delta o vars body =
    option_and_then (delta_at o) (small_put (reserved_for o) body (zip vars (vars_of o.own)))

-- the formula of the update of q, defined by the body over the variables
abbrev pub formula_for : Opening → (q : ℕ) → (vars : List ℕ) → Form → Option Form
formula_for o q vars body =
    option_and_then (λ d. small_form (simple_cond (FAtom q (vars_of o.own)) (simple_not d.down) d.up))
    (definition_delta o vars body)

abbrev pub formed_at : Affecting → (q : ℕ) → (vars : List ℕ) → Form → Answer
formed_at a q vars body =
    formed (program_of a.program.now) (action_of a.action.now) a.affected.now q vars body

-- the answer is this update; the call stops only where there is none, or for lack of memory
abbrev pub Forms : (q : ℕ) → Result Update Stop → Answer → Type 0
Forms q (Ok w) answer =
    (vars : List ℕ) × (f : Form) × (answer ≡ DTo vars f)
    × (update_of w ≡ record { pred = q; vars = vars; change = CTo f })
Forms q (Err e) answer = e ≡ Unformed → answer ≡ DEvaluate
