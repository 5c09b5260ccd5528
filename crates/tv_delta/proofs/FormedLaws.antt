-- The update of a defined predicate is formed step by step.
use Rattle.std.proofs.Common.{ℕ, ◌≡◌, Bool, true, false, List, ◌++◌, Option, Some, None, length, refl, cond}
use Rattle.std.specs.Prelude.{option_and_then, option_map}
use Rattle.std.specs.List.{zip}
use Rattle.tv_model.specs.Form.{Form, FAtom}
use Rattle.tv_model.specs.Program.{ProgramForm, ActionForm}
use Rattle.tv_delta_laws.specs.Deltas.{Delta, delta_of, atom_delta, small_put}
use Rattle.tv_delta_laws.specs.Differences.{DEvaluate, DTo, formed, or_evaluate, update_by}
use Rattle.tv_delta_laws.specs.Putting.{own_variables, variables}
use Rattle.tv_delta_laws.specs.Simple.{is_small, simple_not, simple_cond}
use Rattle.tv_delta_form.specs.Views.{small_form}

-- the formula of the update with these own variables
abbrev pub formula_by : ProgramForm → ActionForm → (affected : List Bool) → (q : ℕ) → (vars : List ℕ) → Form → (own : List ℕ)
    → Option Form
formula_by p action affected q vars body own =
    option_and_then (λ d. small_form (simple_cond (FAtom q own) (simple_not d.down) d.up))
    (option_and_then (delta_of (atom_delta (length p.preds) p action (record { picks = action.picks; own = own }) affected) affected)
    (small_put (record { picks = action.picks; own = own }) body (zip vars own)))

by-delta : (q : ℕ) (own : List ℕ) (o : Option Delta)
    → or_evaluate (option_and_then (λ d. Some (update_by q own d)) o)
    ≡ or_evaluate (option_map (λ f. DTo own f)
    (option_and_then (λ d. small_form (simple_cond (FAtom q own) (simple_not d.down) d.up)) o))
by-delta q own None = refl
by-delta q own (Some d) =
    go (is_small (simple_cond (FAtom q own) (simple_not d.down) d.up))
  where
    go : (b : Bool) → cond b (DTo own (simple_cond (FAtom q own) (simple_not d.down) d.up)) DEvaluate
        ≡ or_evaluate (option_map (λ f. DTo own f)
        (cond b (Some (simple_cond (FAtom q own) (simple_not d.down) d.up)) None))
    go true = refl
    go false = refl

-- with them it is by its formula
pub named : (p : ProgramForm) (action : ActionForm) (affected : List Bool) (q : ℕ) (vars : List ℕ) (body : Form)
    (own : List ℕ) → own_variables action.picks (action.picks ++ (vars ++ variables body)) vars ≡ Some own
    → formed p action affected q vars body
    ≡ or_evaluate (option_map (λ f. DTo own f) (formula_by p action affected q vars body own))
named p action affected q vars body own some =
    rw some
    (by-delta q own
    (option_and_then (delta_of (atom_delta (length p.preds) p action (record { picks = action.picks; own = own }) affected) affected)
    (small_put (record { picks = action.picks; own = own }) body (zip vars own))))
