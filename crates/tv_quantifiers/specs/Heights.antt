-- How high the formulas of a program are.
use Rattle.std.specs.Prelude.{ℕ, List, [], ◌∷◌, max, Option, Some, None}
use Rattle.tv_model.specs.Form.{Form, height}
use Rattle.tv_model.specs.Program.{ProgramForm, KindForm, KCore, KDefined, ChangeForm, CFree, CTo, RetainForm}
use Rattle.tv_model.specs.Program.{ActionForm}

-- the greatest of the numbers that the elements have, 0 where there are none
abbrev pub deepest : {X : Type 0} → (X → ℕ) → List X → ℕ
deepest g [] = 0
deepest g (x ∷ xs) = max (g x) (deepest g xs)

-- the height of the highest formula of a part of a program, 0 where it has none
abbrev pub kind_height : KindForm → ℕ
kind_height KCore = 0
kind_height (KDefined vars body) = height body

abbrev pub change_height : ChangeForm → ℕ
change_height CFree = 0
change_height (CTo f) = height f

abbrev pub pre_height : Option Form → ℕ
pre_height None = 0
pre_height (Some f) = height f

abbrev pub retain_height : Option RetainForm → ℕ
retain_height None = 0
retain_height (Some r) = height r.keep

abbrev pub action_height : ActionForm → ℕ
action_height a =
    max (pre_height a.pre) (max (deepest height a.focus) (max (deepest (λ m. height m.cond) a.messages)
    (max (retain_height a.retain) (deepest (λ w. change_height w.change) a.updates))))

-- the height of the highest formula of a program, 0 where it has none
abbrev pub program_height : ProgramForm → ℕ
program_height p =
    max (deepest (λ d. kind_height d.kind) p.preds)
    (max (deepest (λ rule. height rule.body) p.rules) (deepest action_height p.actions))
