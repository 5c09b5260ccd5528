-- Turns of the loop that writes nodes.
use Rattle.std.proofs.Common.{ℕ, ◌≡◌, ◌∙◌, ◌+◌, List, ◌++◌, Some, drop, ap, length, sym, append_assoc}
use Rattle.std.specs.Prelude.{slice_get}
use Rattle.tv_explain_text.specs.Texts.{node_line}
use Rattle.tv_lemmas.proofs.Lists.{drop_there}
use Rattle.tv_listing.specs.ListingForm.{at_node}
use Rattle.tv_structure_form.specs.StructureForm.{StructureForm}
use Rattle.tv_counts.specs.Counts.{node_counts}

pub count_turn : (listing : List (List StructureForm)) (names : List (List ℕ)) (number : ℕ)
    (name out new total : List ℕ) → slice_get names number ≡ Some name
    → new ≡ out ++ node_line name (length (at_node listing number))
    → out ++ node_counts listing number (drop number names) ≡ total
    → new ++ node_counts listing (number + 1) (drop (number + 1) names) ≡ total
count_turn listing names number name out new total at grown so_far =
    let later = node_counts listing (number + 1) (drop (number + 1) names) in
    ap (λ t. t ++ later) grown
    ∙ append_assoc out (node_line name (length (at_node listing number))) later
    ∙ ap (λ rest. out ++ node_counts listing number rest) (sym (drop_there names number name at)) ∙ so_far
