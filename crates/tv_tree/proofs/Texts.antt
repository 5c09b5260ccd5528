-- Texts of tokens and lines, put together.
use Rattle.std.proofs.Common.{◌≡◌, ℕ, suc, ◌+◌, ◌-◌, ◌<◌, ◌≤◌, List, [], ◌∷◌, ◌++◌, length, take, drop}
use Rattle.std.proofs.Common.{get_or, refl, sym, ◌∙◌, ap, append_assoc, arith, length-append, add-one}
use Rattle.std.proofs.Common.{drop-cons, map}
use Rattle.std.specs.List.{flat_map}
use Rattle.std.specs.Prelude.{codes}
use Rattle.std.proofs.lemmas.List.{drop_more, drop_all}
use Rattle.std.proofs.lemmas.List.Concat.{flat_map-cons}
use Rattle.std.proofs.Math.Seq.{take-append-add}
use Rattle.std.proofs.lemmas.Grind.{common_steps}
use Rattle.tv_tree.specs.Printed.{sign_token, set_tokens, steps_tokens, spaced, ended, line_text}
use Rattle.tv_tree.specs.Printed.{text_of_lines, more_tokens, joined_tokens, one_token, prop_token}
use Rattle.tv_tree.specs.Printed.{formula_tokens, piece_tokens, nest_lines, nests_lines, decl_tokens}
use Rattle.tv_tree.specs.Printed.{update_tokens, part_lines, action_lines, edge_lines}
use Rattle.tv_tree.specs.Copies.{joined_set, term_of, step_of, set_of, form_of, piece_of, decl_of, nests}
use Rattle.tv_tree.specs.Copies.{update_of, part_of, action_of, edge_of}
use Rattle.tv_tree.specs.Forms.{SetForm, SPlus, SMinus}
use Rattle.tv_tree.specs.declared.trees.SetSign.{SetSign}
use Rattle.tv_tree.specs.declared.trees.SetSign.TheVariants as sign
use Rattle.tv_tree.specs.declared.trees.SetStep.{SetStep}
use Rattle.tv_tree.specs.declared.trees.SetTree.{SetTree, out-SetTree}
use Rattle.tv_tree.specs.declared.trees.PropWord.{PropWord}
use Rattle.tv_tree.specs.declared.trees.FormulaTree.{FormulaTree}
use Rattle.tv_tree.specs.declared.trees.Piece.{Piece}
use Rattle.tv_tree.specs.declared.trees.Part.{Part}
use Rattle.tv_tree.specs.declared.trees.ActionTree.{ActionTree}
use Rattle.tv_tree.specs.declared.trees.EdgeTree.{EdgeTree}
use Rattle.tv_tree.specs.declared.trees.Decl.{Decl}
use Rattle.tv_tree.specs.declared.trees.UpdateTree.{UpdateTree}
use Rattle.tv_tree.proofs.Unfolds.{set_of_steps, step_of_parts}

pub spaced_append : (xs ys : List (List ℕ)) → spaced (xs ++ ys) ≡ spaced xs ++ spaced ys
unfolding spaced
spaced_append [] ys = refl
spaced_append (x ∷ xs) ys = rw (spaced_append xs ys) (simp append_assoc)

pub spaced_push : (out : List ℕ) (ws vs : List (List ℕ)) → (out ++ spaced ws) ++ spaced vs ≡ out ++ spaced (ws ++ vs)
spaced_push out ws vs = simp (append_assoc, spaced_append)

pub spaced_between : (out : List ℕ) (ws vs : List (List ℕ)) (mark : List ℕ) → ((out ++ spaced ws) ++ spaced (mark ∷ [])) ++ spaced vs ≡ out ++ spaced (ws ++ mark ∷ vs)
spaced_between out ws vs mark = rw (spaced_push, spaced_push) refl

-- what is left of a list is its next item and what is left behind it
rest_at : {T : Type 0} (xs : List T) (i : ℕ) (x : T) → i < length xs → x ≡ get_or xs i x → drop i xs ≡ x ∷ drop (i + 1) xs
rest_at xs i x below is = drop_more xs i x below ∙ ap (λ y. y ∷ drop (i + 1) xs) (sym is)

-- one more item of a list, behind its mark
pub more_step : {T : Type 0} (out : List ℕ) (mark : List ℕ) (tokens : T → List (List ℕ)) (xs : List T) (i : ℕ) (x : T) → i < length xs → x ≡ get_or xs i x → ((out ++ spaced (mark ∷ [])) ++ spaced (tokens x)) ++ spaced (more_tokens mark tokens (drop (i + 1) xs)) ≡ out ++ spaced (more_tokens mark tokens (drop i xs))
more_step out mark tokens xs i x below is = rw (rest_at xs i x below is) (rw (spaced_push, spaced_push) refl)

-- the same where the items are words
pub words_step : (out : List ℕ) (mark : List ℕ) (xs : List (List ℕ)) (i : ℕ) (x : List ℕ) → i < length xs → x ≡ get_or xs i x → ((out ++ spaced (mark ∷ [])) ++ spaced (x ∷ [])) ++ spaced (more_tokens mark one_token (drop (i + 1) xs)) ≡ out ++ spaced (more_tokens mark one_token (drop i xs))
words_step out mark xs i x below is = more_step out mark one_token xs i x below is

append_nil : {T : Type 0} (xs : List T) → xs ++ [] ≡ xs
append_nil [] = refl
append_nil (x ∷ xs) = ap (λ ys. x ∷ ys) (append_nil xs)

pub spaced_none : (out : List ℕ) → out ++ spaced [] ≡ out
unfolding spaced
spaced_none out = append_nil out

pub more_done : {T : Type 0} (out : List ℕ) (mark : List ℕ) (tokens : T → List (List ℕ)) (xs : List T) (i : ℕ) → length xs ≤ i → out ++ spaced (more_tokens mark tokens (drop i xs)) ≡ out
more_done out mark tokens xs i past = rw (drop_all i xs past) (spaced_none out)

pub props_step : (out : List ℕ) (xs : List PropWord) (i : ℕ) (d : PropWord) → i < length xs → (out ++ spaced (prop_token (get_or xs i d) ∷ [])) ++ spaced (map prop_token (drop (i + 1) xs)) ≡ out ++ spaced (map prop_token (drop i xs))
props_step out xs i d below = rw (drop_more xs i d below, spaced_push) refl

pub props_done : (out : List ℕ) (xs : List PropWord) (i : ℕ) → length xs ≤ i → out ++ spaced (map prop_token (drop i xs)) ≡ out
props_done out xs i past = rw (drop_all i xs past) (spaced_none out)

pub pieces_step : (out : List ℕ) (xs : List Piece) (i : ℕ) (x : Piece) → i < length xs → x ≡ get_or xs i x → ((out ++ spaced (codes "+" ∷ [])) ++ spaced (piece_tokens (piece_of x))) ++ spaced (more_tokens (codes "+") piece_tokens (map piece_of (drop (i + 1) xs))) ≡ out ++ spaced (more_tokens (codes "+") piece_tokens (map piece_of (drop i xs)))
pieces_step out xs i x below is = rw (rest_at xs i x below is) (rw (spaced_push, spaced_push) refl)

pub pieces_done : (out : List ℕ) (xs : List Piece) (i : ℕ) → length xs ≤ i → out ++ spaced (more_tokens (codes "+") piece_tokens (map piece_of (drop i xs))) ≡ out
pieces_done out xs i past = rw (drop_all i xs past) (spaced_none out)

pub formulas_step : (out : List ℕ) (xs : List FormulaTree) (i : ℕ) (x : FormulaTree) → i < length xs → x ≡ get_or xs i x → ((out ++ spaced (codes "," ∷ [])) ++ spaced (formula_tokens (form_of x))) ++ spaced (more_tokens (codes ",") formula_tokens (map form_of (drop (i + 1) xs))) ≡ out ++ spaced (more_tokens (codes ",") formula_tokens (map form_of (drop i xs)))
formulas_step out xs i x below is = rw (rest_at xs i x below is) (rw (spaced_push, spaced_push) refl)

pub formulas_done : (out : List ℕ) (xs : List FormulaTree) (i : ℕ) → length xs ≤ i → out ++ spaced (more_tokens (codes ",") formula_tokens (map form_of (drop i xs))) ≡ out
formulas_done out xs i past = rw (drop_all i xs past) (spaced_none out)

pub lines_append : (xs ys : List (List (List ℕ))) → text_of_lines (xs ++ ys) ≡ text_of_lines xs ++ text_of_lines ys
unfolding text_of_lines
lines_append [] ys = refl
lines_append (x ∷ xs) ys = rw (lines_append xs ys) (simp append_assoc)

pub lines_push : (out : List ℕ) (xs ys : List (List (List ℕ))) → (out ++ text_of_lines xs) ++ text_of_lines ys ≡ out ++ text_of_lines (xs ++ ys)
lines_push out xs ys = simp (append_assoc, lines_append)

-- the last byte of a text that follows another
ended_append : (out text : List ℕ) → 0 < length text → ended (out ++ text) ≡ out ++ ended text
unfolding ended
ended_append out text some =
    let e : length (out ++ text) - 1 ≡ length out + (length text - 1) = omega (arith, length-append {A = ℕ}) in
    rw (e, take-append-add out text (length text - 1), append_assoc) refl

spaced_some : (w : List ℕ) (ws : List (List ℕ)) → 0 < length (spaced (w ∷ ws))
unfolding spaced
spaced_some w ws = simp length-append (omega arith)

-- the last token's space becomes a line feed, and the line is done
pub line_done : (out w : List ℕ) (ws : List (List ℕ)) → ended (out ++ spaced (w ∷ ws)) ≡ out ++ text_of_lines ((w ∷ ws) ∷ [])
unfolding line_text text_of_lines
line_done out w ws = rw (ended_append out (spaced (w ∷ ws)) (spaced_some w ws)) (simp append_nil)

pub lines_none : (out : List ℕ) → out ++ text_of_lines [] ≡ out
unfolding text_of_lines
lines_none out = append_nil out

lines_done : {S T : Type 0} (out : List ℕ) (see : S → T) (lines : T → List (List (List ℕ))) (xs : List S) (i : ℕ) → length xs ≤ i → out ++ text_of_lines (flat_map lines (map see (drop i xs))) ≡ out
lines_done out see lines xs i past = rw (drop_all i xs past) (lines_none out)

pub parts_done : (out : List ℕ) (xs : List Part) (i : ℕ) → length xs ≤ i → out ++ text_of_lines (flat_map part_lines (map part_of (drop i xs))) ≡ out
parts_done out xs i past = lines_done out part_of part_lines xs i past

pub actions_done : (out : List ℕ) (xs : List ActionTree) (i : ℕ) → length xs ≤ i → out ++ text_of_lines (flat_map action_lines (map action_of (drop i xs))) ≡ out
actions_done out xs i past = lines_done out action_of action_lines xs i past

pub edges_done : (out : List ℕ) (xs : List EdgeTree) (i : ℕ) → length xs ≤ i → out ++ text_of_lines (flat_map edge_lines (map edge_of (drop i xs))) ≡ out
edges_done out xs i past = lines_done out edge_of edge_lines xs i past

pub decl_lines_done : (out : List ℕ) (xs : List Decl) (i : ℕ) → length xs ≤ i → out ++ text_of_lines (nests_lines decl_tokens (nests (map decl_of (drop i xs)))) ≡ out
decl_lines_done out xs i past = rw (drop_all i xs past) (lines_none out)

pub update_lines_done : (out : List ℕ) (xs : List UpdateTree) (i : ℕ) → length xs ≤ i → out ++ text_of_lines (nests_lines update_tokens (nests (map update_of (drop i xs)))) ≡ out
update_lines_done out xs i past = rw (drop_all i xs past) (lines_none out)

-- the lines of one more item of a list
lines_step : {S T : Type 0} (out : List ℕ) (see : S → T) (lines : T → List (List (List ℕ))) (xs : List S) (i : ℕ) (x : S) → i < length xs → x ≡ get_or xs i x → (out ++ text_of_lines (lines (see x))) ++ text_of_lines (flat_map lines (map see (drop (i + 1) xs))) ≡ out ++ text_of_lines (flat_map lines (map see (drop i xs)))
lines_step out see lines xs i x below is = rw (rest_at xs i x below is, flat_map-cons, lines_push) refl

pub parts_step : (out : List ℕ) (xs : List Part) (i : ℕ) (x : Part) → i < length xs → x ≡ get_or xs i x → (out ++ text_of_lines (part_lines (part_of x))) ++ text_of_lines (flat_map part_lines (map part_of (drop (i + 1) xs))) ≡ out ++ text_of_lines (flat_map part_lines (map part_of (drop i xs)))
parts_step out xs i x below is = lines_step out part_of part_lines xs i x below is

pub actions_step : (out : List ℕ) (xs : List ActionTree) (i : ℕ) (x : ActionTree) → i < length xs → x ≡ get_or xs i x → (out ++ text_of_lines (action_lines (action_of x))) ++ text_of_lines (flat_map action_lines (map action_of (drop (i + 1) xs))) ≡ out ++ text_of_lines (flat_map action_lines (map action_of (drop i xs)))
actions_step out xs i x below is = lines_step out action_of action_lines xs i x below is

pub edges_step : (out : List ℕ) (xs : List EdgeTree) (i : ℕ) (x : EdgeTree) → i < length xs → x ≡ get_or xs i x → (out ++ text_of_lines (edge_lines (edge_of x))) ++ text_of_lines (flat_map edge_lines (map edge_of (drop (i + 1) xs))) ≡ out ++ text_of_lines (flat_map edge_lines (map edge_of (drop i xs)))
edges_step out xs i x below is = lines_step out edge_of edge_lines xs i x below is

pub decl_step_lines : (out : List ℕ) (xs : List Decl) (i : ℕ) (x : Decl) → i < length xs → x ≡ get_or xs i x → (out ++ text_of_lines (nest_lines decl_tokens (decl_of x))) ++ text_of_lines (nests_lines decl_tokens (nests (map decl_of (drop (i + 1) xs)))) ≡ out ++ text_of_lines (nests_lines decl_tokens (nests (map decl_of (drop i xs))))
decl_step_lines out xs i x below is = rw (rest_at xs i x below is, lines_push) refl

pub update_step_lines : (out : List ℕ) (xs : List UpdateTree) (i : ℕ) (x : UpdateTree) → i < length xs → x ≡ get_or xs i x → (out ++ text_of_lines (nest_lines update_tokens (update_of x))) ++ text_of_lines (nests_lines update_tokens (nests (map update_of (drop (i + 1) xs)))) ≡ out ++ text_of_lines (nests_lines update_tokens (nests (map update_of (drop i xs))))
update_step_lines out xs i x below is = rw (rest_at xs i x below is, lines_push) refl

pub lines_start : (lines : List (List (List ℕ))) → [] ++ text_of_lines lines ≡ text_of_lines lines
lines_start lines = refl

pub quoted_done : (out text : List ℕ) → ((out ++ 34 ∷ []) ++ text) ++ spaced ((34 ∷ []) ∷ []) ≡ out ++ spaced ((34 ∷ (text ++ 34 ∷ [])) ∷ [])
unfolding spaced
quoted_done out text = simp append_assoc

pub formulas_none : (out : List ℕ) (xs : List FormulaTree) → length xs ≡ 0 → out ++ spaced (joined_tokens (codes ",") formula_tokens (map form_of xs)) ≡ out
formulas_none out [] none = spaced_none out
formulas_none out (x ∷ xs) none = absurd (omega arith)

pub pieces_none : (out : List ℕ) (xs : List Piece) → length xs ≡ 0 → out ++ spaced (joined_tokens (codes "+") piece_tokens (map piece_of xs)) ≡ out
pieces_none out [] none = spaced_none out
pieces_none out (x ∷ xs) none = absurd (omega arith)

-- the tokens of an expression are those of its sets, with their signs between them
joined_tokens_of : (s : SetForm) (more : List (SetSign × SetForm)) → set_tokens (joined_set s more) ≡ set_tokens s ++ steps_tokens more
joined_tokens_of s [] = sym (append_nil (set_tokens s))
joined_tokens_of s ((sign.Plus, t) ∷ more) = rw (joined_tokens_of (SPlus s t) more) (simp append_assoc)
joined_tokens_of s ((sign.Minus, t) ∷ more) = rw (joined_tokens_of (SMinus s t) more) (simp append_assoc)

pub steps_start : (out : List ℕ) (s : SetTree) → (out ++ spaced (set_tokens (term_of (out-SetTree s).first))) ++ spaced (steps_tokens (map step_of (out-SetTree s).more.items)) ≡ out ++ spaced (set_tokens (set_of s))
steps_start out s = rw (set_of_steps s, joined_tokens_of (term_of (out-SetTree s).first) (map step_of (out-SetTree s).more.items), spaced_push) refl

pub steps_step : (out : List ℕ) (xs : List SetStep) (i : ℕ) (x : SetStep) → i < length xs → x ≡ get_or xs i x → ((out ++ spaced (sign_token x.sign ∷ [])) ++ spaced (set_tokens (term_of x.term))) ++ spaced (steps_tokens (map step_of (drop (i + 1) xs))) ≡ out ++ spaced (steps_tokens (map step_of (drop i xs)))
steps_step out xs i x below is = rw (rest_at xs i x below is, step_of_parts x) (rw (spaced_push, spaced_push) refl)

pub steps_done : (out : List ℕ) (xs : List SetStep) (i : ℕ) → length xs ≤ i → out ++ spaced (steps_tokens (map step_of (drop i xs))) ≡ out
steps_done out xs i past = rw (drop_all i xs past) (spaced_none out)

pub closure_parts : (out : List ℕ) (ws vs us : List (List ℕ)) → (out ++ spaced (codes "TC" ∷ (ws ++ vs))) ++ spaced us ≡ out ++ spaced (codes "TC" ∷ (ws ++ (vs ++ us)))
closure_parts out ws vs us = rw (spaced_push, append_assoc) refl
