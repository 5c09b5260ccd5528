-- The text of a name, written step by step.
use Rattle.std.proofs.Common.{◌≡◌, ℕ, ◌+◌, ◌<◌, ◌≤◌, get_or, List, [], ◌∷◌, ◌++◌, length, drop, refl, sym, ap}
use Rattle.std.proofs.Common.{append_assoc}
use Rattle.std.specs.List.{join_with_byte, flat_map}
use Rattle.std.proofs.lemmas.List.{append-nil, drop_more, drop_all}
use Rattle.tv_tree.specs.Names.{brackets_text}

-- words, each behind a comma
abbrev pub behind_commas : List (List ℕ) → List ℕ
behind_commas xs = flat_map (λ x. 44 ∷ x) xs

pub words_more : (text : List ℕ) (xs : List (List ℕ)) (i : ℕ) (x : List ℕ) → i < length xs → x ≡ get_or xs i x → ((text ++ 44 ∷ []) ++ x) ++ behind_commas (drop (i + 1) xs) ≡ text ++ behind_commas (drop i xs)
words_more text xs i x below is = rw (drop_more xs i x below, append_assoc, append_assoc, ← is) refl

pub words_done : (text : List ℕ) (xs : List (List ℕ)) (i : ℕ) → length xs ≤ i → text ++ behind_commas (drop i xs) ≡ text
words_done text xs i past = rw (drop_all i xs past) (append-nil text)

joined : (x : List ℕ) (xs : List (List ℕ)) → join_with_byte 44 (x ∷ xs) ≡ x ++ behind_commas xs
joined x [] = sym (append-nil x)
joined x (y ∷ ys) = ap (λ t. x ++ 44 ∷ t) (joined y ys)

pub brackets_put : (text x : List ℕ) (xs : List (List ℕ)) → (((text ++ 91 ∷ []) ++ x) ++ behind_commas xs) ++ 93 ∷ [] ≡ text ++ brackets_text (x ∷ xs)
brackets_put text x xs = rw (joined x xs) (simp append_assoc)
