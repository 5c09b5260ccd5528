-- The written text of a replay: its states, or where it is stuck.
use Rattle.std.specs.Prelude.{ℕ, ◌+◌, List, [], ◌∷◌, ◌++◌, map, Option, Some, None, codes, decimal, slice_get}
use Rattle.tv_model.specs.declared.formula.PredId.{PredId}
use Rattle.tv_model.specs.declared.program.Program.{Program}
use Rattle.tv_model.specs.declared.program.Pred.{Pred}
use Rattle.tv_replay_laws.specs.declared.state.ListedCover.{ListedCover}
use Rattle.tv_replay_laws.specs.declared.state.State.{State}
use Rattle.tv_replay_laws.specs.declared.state.Why.{Why}
use Rattle.tv_replay_laws.specs.declared.state.Why.TheVariants as why
use Rattle.tv_tvs.specs.Canonical.{comma_text}

-- the name at that place, if there is one
abbrev pub some_name : Option (List ℕ) → List ℕ
some_name None = []
some_name (Some name) = name

abbrev pub node_name : Program → (node : ℕ) → List ℕ
node_name program node = some_name (slice_get program.nodes node)

abbrev pub own_name : Option Pred → List ℕ
own_name None = []
own_name (Some pred) = pred.name

abbrev pub predicate_name : Program → PredId → List ℕ
predicate_name program pred = own_name (slice_get program.vocab.preds pred.0)

-- ` ok`, or ` broken NAME`
abbrev pub broken_text : Program → Option PredId → List ℕ
broken_text program None = codes " ok\n"
broken_text program (Some pred) = codes " broken " ++ (predicate_name program pred ++ codes "\n")

-- `rules ok`, or `rules broken J`
abbrev pub rule_text : Option ℕ → List ℕ
rule_text None = codes "rules ok\n"
rule_text (Some rule) = codes "rules broken " ++ (decimal rule ++ codes "\n")

-- ` none`, or ` I {..}`: the number of a structure, and a map with commas between its numbers
abbrev pub place_text : Option ListedCover → List ℕ
place_text None = codes " none\n"
place_text (Some place) =
    codes " " ++ (decimal place.structure ++ (codes " {" ++ (comma_text (map decimal place.map)
    ++ codes "}\n")))

-- `state K node NAME size N`
abbrev pub head_text : Program → (number : ℕ) → State → List ℕ
head_text program number x = codes "state " ++ (decimal number ++ (codes " node " ++ (node_name program x.node
    ++ (codes " size " ++ (decimal x.heap.size ++ codes "\n")))))

-- what is judged of every state
abbrev pub judged_text : State → List ℕ
judged_text x = rule_text x.rule ++ (codes "listed" ++ place_text x.listed)

-- the first state, of which it is told whether it is concrete, and the initial structure in which its heap
-- embeds
abbrev pub first_text : Program → State → List ℕ
first_text program x = head_text program 0 x ++ (codes "concrete" ++ (broken_text program x.broken
    ++ (codes "initial" ++ (place_text x.initial ++ judged_text x))))

-- a later state, of which it is told whether the updates agree with their definitions
abbrev pub later_text : Program → (number : ℕ) → State → List ℕ
later_text program number x = head_text program number x ++ (codes "updates" ++ (broken_text program x.broken
    ++ judged_text x))

-- later states, numbered from there on
abbrev pub later_texts : Program → (number : ℕ) → List State → List ℕ
later_texts program number [] = []
later_texts program number (x ∷ later) = later_text program number x ++ later_texts program (number + 1) later

-- all states, numbered from 0, and `end`
abbrev pub states_text : Program → List State → List ℕ
states_text program [] = codes "end\n"
states_text program (first ∷ later) =
    first_text program first ++ (later_texts program 1 later ++ codes "end\n")

abbrev pub why_name : Why → List ℕ
why_name why.Edge = codes "edge"
why_name why.Picks = codes "picks"
why_name why.Precondition = codes "precondition"
why_name why.Individuals = codes "individuals"
why_name why.Values = codes "values"

-- `stuck: step K WHY`
abbrev pub stuck_line : (step : ℕ) → Why → List ℕ
stuck_line step reason =
    codes "stuck: step " ++ (decimal step ++ (codes " " ++ (why_name reason ++ codes "\n")))
