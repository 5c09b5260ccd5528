-- The definitions of a program that are evaluated: those of the predicates that aren't named. In the program
-- that has these alone, the named predicates are core.
use Rattle.std.specs.Prelude.{ℕ, false, List, [], ◌∷◌, None, map, codes, if◌then◌else◌}
use Rattle.tv_model.specs.Program.{ProgramForm, PredForm, KindForm, KCore, ActionForm}
use Rattle.tv_model.specs.declared.program.Edge.{Edge}
use Rattle.tv_tree.specs.Names.{is_among}

abbrev pub kept_kind : (names : List (List ℕ)) → PredForm → KindForm
kept_kind names d = if is_among names d.name then KCore else d.kind

abbrev pub core_if_named : (names : List (List ℕ)) → PredForm → PredForm
core_if_named names d = record d { kind = kept_kind names d }

-- an action that does nothing, and an edge with it, since a program has one
abbrev pub idle_action : ActionForm
idle_action = record {
  pre = None;
  picks = [];
  focus = [];
  messages = [];
  fresh = false;
  retain = None;
  updates = [];
}

abbrev pub idle_edge : Edge
idle_edge = record { from = 0; action = 0; to = 0 }

abbrev pub definitions_but : (names : List (List ℕ)) → ProgramForm → ProgramForm
definitions_but names p = record {
  preds = map (core_if_named names) p.preds;
  rules = [];
  actions = idle_action ∷ [];
  edges = idle_edge ∷ [];
  nodes = codes "0" ∷ [];
}
