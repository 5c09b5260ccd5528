-- Pieces of texts, joined.
use Rattle.std.proofs.Common.{◌≡◌, ℕ, ◌+◌, ◌<◌, ◌≤◌, get_or, List, [], ◌∷◌, ◌++◌, length, map, drop, refl, ap}
use Rattle.std.proofs.Common.{sym, ◌∙◌, add-one, drop-cons, append_assoc}
use Rattle.std.specs.List.{flat_map}
use Rattle.std.proofs.lemmas.List.{drop_all, append-nil}
use Rattle.tv_tree.specs.declared.trees.Piece.{Piece}
use Rattle.tv_tree.specs.Copies.{piece_of}
use Rattle.std.specs.List.{list_any}
use Rattle.std.proofs.Common.{suc, Bool, ◌||◌, ◌==◌}
use Rattle.tv_tree.specs.Forms.{Nest}
use Rattle.tv_tree.specs.Copies.{nests, part_of, update_of as nest_of}
use Rattle.tv_tree.specs.declared.trees.Part.{Part}
use Rattle.tv_tree.specs.declared.trees.Part.TheVariants as part
use Rattle.tv_tree.specs.declared.trees.UpdateTrees.{UpdateTrees}
use Rattle.tv_tree.proofs.Unfolds.{updates_of_items}
use Rattle.tv_model.specs.Program.{update_of}
use Rattle.tv_model.specs.declared.program.Update.{Update}
use Rattle.tv_vocab.specs.Actions.{piece_text, is_updated, nest_list, updates_in}

pub pieces_step : (total text : List ℕ) (xs : List Piece) (i : ℕ) (x : Piece) → i < length xs → x ≡ get_or xs i x → total ≡ text ++ flat_map piece_text (map piece_of (drop i xs)) → total ≡ (text ++ piece_text (piece_of x)) ++ flat_map piece_text (map piece_of (drop (i + 1) xs))
pieces_step total text xs i x lt is so_far =
    let e : drop i xs ≡ x ∷ drop (i + 1) xs = rw add-one (drop-cons xs i x lt ∙ ap (λ (y : Piece). y ∷ drop (suc i) xs) (sym is)) in
    so_far ∙ ap (λ (ys : List Piece). text ++ flat_map piece_text (map piece_of ys)) e ∙ sym (append_assoc text (piece_text (piece_of x)) (flat_map piece_text (map piece_of (drop (i + 1) xs))))

pub pieces_done : (total text : List ℕ) (xs : List Piece) (i : ℕ) → length xs ≤ i → total ≡ text ++ flat_map piece_text (map piece_of (drop i xs)) → text ≡ total
pieces_done total text xs i past so_far =
    sym (so_far ∙ ap (λ (ys : List Piece). text ++ flat_map piece_text (map piece_of ys)) (drop_all i xs past) ∙ append-nil text)

pub updated_over : (done : List Update) (pred : ℕ) → is_updated (map update_of done) pred ≡ list_any (λ w. w.pred.0 == pred) done
updated_over [] pred = refl
updated_over (w ∷ done) pred = ap (λ (b : Bool). (w.pred.0 == pred) || b) (updated_over done pred)

pub nest_list_nests : {X : Type 0} (ds : List (Nest X)) → nest_list (nests ds) ≡ ds
nest_list_nests [] = refl
nest_list_nests (d ∷ ds) = ap (λ es. d ∷ es) (nest_list_nests ds)

-- the block of the part at i
pub block_here : (parts : List Part) (i : ℕ) (p : Part) (us : UpdateTrees) → i < length parts → p ≡ get_or parts i p → p ≡ part.Block us → updates_in (map part_of (drop i parts)) ≡ map nest_of us.items.items
block_here parts i p us lt is block =
    let e : drop i parts ≡ p ∷ drop (suc i) parts = drop-cons parts i p lt ∙ ap (λ (q : Part). q ∷ drop (suc i) parts) (sym is) in
    ap (λ (ps : List Part). updates_in (map part_of ps)) e
    ∙ ap (λ (q : Part). updates_in (map part_of (q ∷ drop (suc i) parts))) block
    ∙ ap nest_list (updates_of_items us) ∙ nest_list_nests (map nest_of us.items.items)
