-- Predicates, rules and parts of actions as they are written, each in a line.
use Rattle.std.specs.Prelude.{ℕ, ◌==◌, Bool, not, List, [], ◌∷◌, ◌++◌, Option, None, Some, if◌then◌else◌}
use Rattle.std.specs.Prelude.{codes}
use Rattle.std.specs.List.{flat_map}
use Rattle.tv_model.specs.declared.program.Props.{Props}
use Rattle.tv_model.specs.Form.{Form}
use Rattle.tv_model.specs.Program.{PredForm, KindForm, KCore, KDefined, HeadForm, HNever, HAtom, HSame}
use Rattle.tv_model.specs.Program.{RuleForm, UpdateForm, RetainForm, MessageForm}
use Rattle.tv_formula_text.specs.Entries.{update_entry}
use Rattle.tv_formula_text.specs.Formulas.{atom_text, equality_text, form_text, terms_text}

-- the word where the flag is true
abbrev pub flag_text : Bool → (word : List ℕ) → List ℕ
flag_text flag word = if flag then word else []

-- ---- predicates

abbrev pub props_text : Props → List ℕ
props_text props =
    flag_text props.unique (codes " unique") ++ (flag_text props.function (codes " function")
    ++ (flag_text props.invfunction (codes " invfunction")
    ++ (flag_text props.transitive (codes " transitive")
    ++ (flag_text props.reflexive (codes " reflexive") ++ flag_text props.symmetric (codes " symmetric")))))

-- the first variables, as many as the arity
abbrev pub first_variables : (arity : ℕ) → List ℕ
first_variables arity = if arity == 0 then [] else if arity == 1 then 0 ∷ [] else 0 ∷ 1 ∷ []

abbrev pub kind_text : List PredForm → (name : List ℕ) → (arity : ℕ) → KindForm → List ℕ
kind_text preds name arity KCore = codes "%p " ++ (name ++ terms_text (first_variables arity))
kind_text preds name arity (KDefined vars body) =
    codes "%i " ++ (name ++ (terms_text vars ++ (codes " = " ++ form_text preds body)))

abbrev pub pred_text : List PredForm → PredForm → List ℕ
pred_text preds d = kind_text preds d.name d.arity d.kind
    ++ (props_text d.props ++ (flag_text (not d.abs) (codes " nonabs") ++ codes "\n"))

-- ---- rules

abbrev pub head_text : List PredForm → HeadForm → List ℕ
head_text preds HNever = codes "0"
head_text preds (HAtom flag p vars) = flag_text (not flag) (codes "!") ++ atom_text preds p [] vars
head_text preds (HSame flag v w) = equality_text (if flag then codes " == " else codes " != ") v w

abbrev pub rule_text : List PredForm → RuleForm → List ℕ
rule_text preds rule = codes "%r "
    ++ (form_text preds rule.body ++ (codes " ==> " ++ (head_text preds rule.head ++ codes "\n")))

-- ---- parts of actions

-- a formula behind a word
abbrev pub part_text : List PredForm → (word : List ℕ) → Form → List ℕ
part_text preds word f = word ++ (form_text preds f ++ codes "\n")

abbrev pub pre_text : List PredForm → Option Form → List ℕ
pre_text preds None = []
pre_text preds (Some f) = part_text preds (codes "  %p ") f

abbrev pub retain_text : List PredForm → Option RetainForm → List ℕ
retain_text preds None = []
retain_text preds (Some r) = part_text preds (codes "  %retain ") r.keep

abbrev pub more_text : List PredForm → List Form → List ℕ
more_text preds fs = flat_map (λ f. codes ", " ++ form_text preds f) fs

abbrev pub focus_text : List PredForm → List Form → List ℕ
focus_text preds [] = []
focus_text preds (f ∷ fs) =
    codes "  %f { " ++ (form_text preds f ++ (more_text preds fs ++ codes " }\n"))

abbrev pub message_text : List PredForm → MessageForm → List ℕ
message_text preds m = codes "  %message "
    ++ (form_text preds m.cond ++ (codes " -> \"" ++ (m.text ++ codes "\"\n")))

abbrev pub update_text : List PredForm → UpdateForm → List ℕ
update_text preds u = codes "    " ++ (update_entry preds u ++ codes "\n")

-- a block, where there are updates
abbrev pub updates_text : List PredForm → List UpdateForm → List ℕ
updates_text preds [] = []
updates_text preds (u ∷ us) = codes "  {\n" ++ (flat_map (update_text preds) (u ∷ us) ++ codes "  }\n")
