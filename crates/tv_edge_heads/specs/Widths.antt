-- How many tokens edges have, and where those begin that follow one another.
use Rattle.std.specs.Prelude.{ℕ, ◌+◌, ◌-◌, List, [], ◌∷◌, Option, Some, None, length, drop}
use Rattle.std.specs.List.{sum_by}
use Rattle.tv_lex.specs.declared.token.Token.{Token}
use Rattle.tv_tree.specs.Forms.{EdgeForm}

-- a comma list of so many words
abbrev pub list_width : ℕ → ℕ
list_width count = count + (count - 1)

-- two nodes, an action, two parentheses and the arguments
abbrev pub edge_width : EdgeForm → ℕ
edge_width edge = list_width (length edge.arguments) + 5

abbrev pub edges_width : List EdgeForm → ℕ
edges_width edges = sum_by edge_width edges

-- a third `%%`, where there is one, and the words behind it
abbrev pub tail_width : Option (List (List ℕ)) → ℕ
tail_width None = 0
tail_width (Some words) = list_width (length words) + 1

abbrev pub first_start : List Token → ℕ
first_start [] = 0
first_start (t ∷ ts) = t.start

-- where edges start, of which the first begins with these tokens
abbrev pub edge_starts : List Token → List EdgeForm → List ℕ
edge_starts tokens [] = []
edge_starts tokens (edge ∷ edges) = first_start tokens ∷ edge_starts (drop (edge_width edge) tokens) edges
