-- Names as texts.
use Rattle.std.proofs.Common.{◌≡◌, ℕ, List, [], ◌∷◌, ◌++◌, refl, sym, ap, ◌∙◌, map, append_assoc}
use Rattle.std.specs.List.{flat_map, join_with_byte}
use Rattle.tv_tree.specs.Names.{brackets_text}

-- names with commas between them
pub joined : {X : Type 0} (f : X → List ℕ) (x : X) (xs : List X) → join_with_byte 44 (map f (x ∷ xs)) ≡ f x ++ flat_map (λ y. 44 ∷ f y) xs
joined f x [] = sym (append_nil (f x))
  where
    append_nil : (ys : List ℕ) → ys ++ [] ≡ ys
    append_nil [] = refl
    append_nil (y ∷ ys) = ap (λ zs. y ∷ zs) (append_nil ys)
joined f x (y ∷ ys) = ap (λ t. f x ++ 44 ∷ t) (joined f y ys)

pub brackets_put : {X : Type 0} (f : X → List ℕ) (out : List ℕ) (x : X) (xs : List X)
    → (((out ++ 91 ∷ []) ++ f x) ++ flat_map (λ y. 44 ∷ f y) xs) ++ 93 ∷ [] ≡ out ++ brackets_text (map f (x ∷ xs))
brackets_put f out x xs = rw (joined f x xs) (simp append_assoc)

pub brackets_whole : {X : Type 0} (f : X → List ℕ) (out a b d e : List ℕ) (first : X) (others words : List X) → words ≡ first ∷ others
    → a ≡ out ++ 91 ∷ [] → b ≡ a ++ f first → d ≡ b ++ flat_map (λ y. 44 ∷ f y) others → e ≡ d ++ 93 ∷ []
    → e ≡ out ++ brackets_text (map f words)
brackets_whole f out a b d e first others words is at_a at_b at_d at_e =
    at_e ∙ ap (λ t. t ++ 93 ∷ []) (at_d ∙ ap (λ t. t ++ flat_map (λ y. 44 ∷ f y) others) (at_b ∙ ap (λ t. t ++ f first) at_a))
    ∙ brackets_put f out first others ∙ ap (λ ws. out ++ brackets_text (map f ws)) (sym is)
