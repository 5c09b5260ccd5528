-- Copies of lists, step by step: what is copied, and the copies of what is left.
use Rattle.std.proofs.Common.{◌≡◌, ℕ, ◌+◌, ◌<◌, ◌≤◌, get_or, List, [], ◌∷◌, ◌++◌, length, map, drop, refl}
use Rattle.std.proofs.Common.{append_assoc}
use Rattle.std.proofs.lemmas.List.{drop_more, drop_all, map_push, append-nil}
use Rattle.tv_tree.specs.declared.trees.FormulaTree.{FormulaTree}
use Rattle.tv_tree.specs.declared.trees.PropWord.{PropWord}
use Rattle.tv_tree.specs.declared.trees.Piece.{Piece}
use Rattle.tv_tree.specs.Copies.{form_of, piece_of}
use Rattle.tv_flat.specs.declared.binding.Scope.{Scope}
use Rattle.tv_flat.specs.Replaced.{replaced}
use Rattle.tv_flat.specs.Replaced.{flat_form, piece_text, joined_text}
use Rattle.tv_flat.specs.Views.{binding_of}

pub words_more : (copy words : List (List ℕ)) (i : ℕ) (x y : List ℕ) → i < length words → x ≡ get_or words i x → y ≡ x → (copy ++ y ∷ []) ++ drop (i + 1) words ≡ copy ++ drop i words
words_more copy words i x y below is same = rw (same, drop_more words i x below, append_assoc, ← is) refl

pub words_done : (copy words : List (List ℕ)) (i : ℕ) → length words ≤ i → copy ++ drop i words ≡ copy
words_done copy words i past = rw (drop_all i words past) (append-nil copy)

pub props_more : (copy words : List PropWord) (i : ℕ) (d : PropWord) → i < length words → (copy ++ get_or words i d ∷ []) ++ drop (i + 1) words ≡ copy ++ drop i words
props_more copy words i d below = rw (drop_more words i d below, append_assoc) refl

pub props_done : (copy words : List PropWord) (i : ℕ) → length words ≤ i → copy ++ drop i words ≡ copy
props_done copy words i past = rw (drop_all i words past) (append-nil copy)

pub flat_words_more : (bs : Scope) (copy words : List (List ℕ)) (i : ℕ) (x y : List ℕ) → i < length words → x ≡ get_or words i x → y ≡ replaced (binding_of bs) x → (copy ++ y ∷ []) ++ map (replaced (binding_of bs)) (drop (i + 1) words) ≡ copy ++ map (replaced (binding_of bs)) (drop i words)
flat_words_more bs copy words i x y below is same = rw (same, drop_more words i x below, append_assoc, ← is) refl

pub flat_words_done : (bs : Scope) (copy words : List (List ℕ)) (i : ℕ) → length words ≤ i → copy ++ map (replaced (binding_of bs)) (drop i words) ≡ copy
flat_words_done bs copy words i past = rw (drop_all i words past) (append-nil copy)

pub flat_forms_more : (bs : Scope) (copy fs : List FormulaTree) (i : ℕ) (f g : FormulaTree) → i < length fs → f ≡ get_or fs i f → form_of g ≡ flat_form (binding_of bs) (form_of f) → map form_of (copy ++ g ∷ []) ++ map (flat_form (binding_of bs)) (map form_of (drop (i + 1) fs)) ≡ map form_of copy ++ map (flat_form (binding_of bs)) (map form_of (drop i fs))
flat_forms_more bs copy fs i f g below is same = rw (map_push form_of copy g, same, drop_more fs i f below, append_assoc, ← is) refl

pub flat_forms_done : (bs : Scope) (copy fs : List FormulaTree) (i : ℕ) → length fs ≤ i → map form_of copy ++ map (flat_form (binding_of bs)) (map form_of (drop i fs)) ≡ map form_of copy
flat_forms_done bs copy fs i past = rw (drop_all i fs past) (append-nil (map form_of copy))

pub joined_more : (bs : Scope) (text more : List ℕ) (ps : List Piece) (i : ℕ) (p : Piece) → i < length ps → p ≡ get_or ps i p → more ≡ piece_text (binding_of bs) (piece_of p) → (text ++ more) ++ joined_text (binding_of bs) (map piece_of (drop (i + 1) ps)) ≡ text ++ joined_text (binding_of bs) (map piece_of (drop i ps))
joined_more bs text more ps i p below is same = rw (same, drop_more ps i p below, append_assoc, ← is) refl

pub joined_done : (bs : Scope) (text : List ℕ) (ps : List Piece) (i : ℕ) → length ps ≤ i → text ++ joined_text (binding_of bs) (map piece_of (drop i ps)) ≡ text
joined_done bs text ps i past = rw (drop_all i ps past) (append-nil text)
