-- Turns of the loops that write structures and nodes.
use Rattle.std.proofs.Common.{ℕ, ◌≡◌, ◌∙◌, ◌+◌, List, ◌++◌, Some, drop, ap, sym, append_assoc}
use Rattle.std.specs.Prelude.{slice_get}
use Rattle.tv_lemmas.proofs.Lists.{drop_there}
use Rattle.tv_listing.specs.ListingForm.{at_node}
use Rattle.tv_model.specs.declared.program.Vocab.{Vocab}
use Rattle.tv_structure_form.specs.StructureForm.{StructureForm}
use Rattle.tv_explain_text.specs.Texts.{node_lines, nodes_text, structure_line, structure_lines}

pub structure_turn : (vocab : Vocab) (ss : List StructureForm) (i : ℕ) (s : StructureForm) (out new total : List ℕ)
    → slice_get ss i ≡ Some s → new ≡ out ++ structure_line vocab i s
    → out ++ structure_lines vocab i (drop i ss) ≡ total → new ++ structure_lines vocab (i + 1) (drop (i + 1) ss) ≡ total
structure_turn vocab ss i s out new total at grown so_far =
    ap (λ t. t ++ structure_lines vocab (i + 1) (drop (i + 1) ss)) grown
    ∙ append_assoc out (structure_line vocab i s) (structure_lines vocab (i + 1) (drop (i + 1) ss))
    ∙ ap (λ rest. out ++ structure_lines vocab i rest) (sym (drop_there ss i s at)) ∙ so_far

pub node_turn : (vocab : Vocab) (listing : List (List StructureForm)) (names : List (List ℕ)) (number : ℕ)
    (name out new total : List ℕ) → slice_get names number ≡ Some name
    → new ≡ out ++ node_lines vocab name (at_node listing number)
    → out ++ nodes_text vocab listing number (drop number names) ≡ total
    → new ++ nodes_text vocab listing (number + 1) (drop (number + 1) names) ≡ total
node_turn vocab listing names number name out new total at grown so_far =
    ap (λ t. t ++ nodes_text vocab listing (number + 1) (drop (number + 1) names)) grown
    ∙ append_assoc out (node_lines vocab name (at_node listing number))
    (nodes_text vocab listing (number + 1) (drop (number + 1) names))
    ∙ ap (λ rest. out ++ nodes_text vocab listing number rest) (sym (drop_there names number name at)) ∙ so_far
