-- Programs as they are written. Something may be noted of each action.
use Rattle.std.specs.Prelude.{ℕ, ◌+◌, List, [], ◌∷◌, ◌++◌, Option, None, Some, slice_get, unwrap_or, codes}
use Rattle.std.specs.Prelude.{decimal}
use Rattle.std.specs.List.{flat_map}
use Rattle.tv_model.specs.declared.program.Edge.{Edge}
use Rattle.tv_model.specs.Program.{PredForm, ActionForm, ProgramForm}
use Rattle.tv_compiled.specs.Parts.{flag_text, focus_text, message_text, pre_text, pred_text, retain_text}
use Rattle.tv_compiled.specs.Parts.{rule_text, updates_text}

-- what is noted of an action, if anything is, in a comment up to the end of the line
abbrev pub note_text : Option (List ℕ) → List ℕ
note_text None = []
note_text (Some note) = codes " // " ++ note

abbrev pub noted : (notes : List (List ℕ)) → (action : ℕ) → List ℕ
noted notes action = note_text (slice_get notes action)

abbrev pub parts_text : List PredForm → ActionForm → List ℕ
parts_text preds a =
    focus_text preds a.focus ++ (pre_text preds a.pre ++ (flat_map (message_text preds) a.messages
    ++ (flag_text a.fresh (codes "  %new\n")
    ++ (retain_text preds a.retain ++ updates_text preds a.updates))))

-- the action of this number: A0, A1 and so on
abbrev pub action_text : List PredForm → (notes : List (List ℕ)) → (number : ℕ) → ActionForm → List ℕ
action_text preds notes number a =
    (codes "%action A" ++ (decimal number ++ (codes "() {" ++ (noted notes number ++ codes "\n"))))
    ++ (parts_text preds a ++ codes "}\n")

-- actions, of which the first has this number
abbrev pub actions_text : List PredForm → (notes : List (List ℕ)) → (number : ℕ) → List ActionForm → List ℕ
actions_text preds notes number [] = []
actions_text preds notes number (a ∷ actions) =
    action_text preds notes number a ++ actions_text preds notes (number + 1) actions

abbrev pub node_at : (nodes : List (List ℕ)) → (number : ℕ) → List ℕ
node_at nodes number = unwrap_or (slice_get nodes number) []

abbrev pub edge_text : (nodes notes : List (List ℕ)) → Edge → List ℕ
edge_text nodes notes e =
    node_at nodes e.from ++ (codes " A" ++ (decimal e.action ++ (codes "() " ++ (node_at nodes e.to
    ++ (noted notes e.action ++ codes "\n")))))

abbrev pub program_text : (notes : List (List ℕ)) → ProgramForm → List ℕ
program_text notes p =
    flat_map (pred_text p.preds) p.preds ++ (flat_map (rule_text p.preds) p.rules ++ (codes "%%\n"
    ++ (actions_text p.preds notes 0 p.actions ++ (codes "%%\n"
    ++ flat_map (edge_text p.nodes notes) p.edges))))
