-- Updates as they are written in a block.
use Rattle.std.specs.Prelude.{List, [], ◌++◌, ℕ, codes}
use Rattle.tv_model.specs.Program.{PredForm, ChangeForm, CFree, CTo, UpdateForm}
use Rattle.tv_formula_text.specs.Formulas.{atom_text, form_text}

-- what an update sets its predicate to
abbrev pub change_text : List PredForm → ChangeForm → List ℕ
change_text preds CFree = codes "1/2"
change_text preds (CTo f) = form_text preds f

-- `NAME(VARIABLES) = FORMULA`
abbrev pub update_entry : List PredForm → UpdateForm → List ℕ
update_entry preds u = atom_text preds u.pred [] u.vars ++ (codes " = " ++ change_text preds u.change)
