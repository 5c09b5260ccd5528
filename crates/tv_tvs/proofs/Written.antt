-- What is written of a predicate, tuple by tuple.
use Rattle.std.proofs.Common.{ℕ, ◌≡◌, ◌+◌, List, [], ◌∷◌, ◌++◌, map, Option, Some, None, refl}
use Rattle.std.proofs.Common.{sym, ap, ◌∙◌}
use Rattle.std.specs.List.{flat_map, filter_map, cons_option, range_with_len}
use Rattle.std.proofs.lemmas.List.{flat_map_more}
use Rattle.std.proofs.lemmas.List.Elements.{filter_map-append}
use Rattle.tv_lemmas.proofs.Lists.{range_more}
use Rattle.tv_kleene.specs.declared.K3.{K3}
use Rattle.tv_kleene.specs.declared.K3.TheVariants.{No, Half, Yes}
use Rattle.tv_tvs.specs.Canonical.{written_item, written_items, written_one, row_items, tuples}

-- one turn of a loop over individuals that puts what f gives behind the others
pub turn : {X : Type 0} (f : ℕ → List X) (before list : List X) (a n u : ℕ) → a + n ≡ u
    → list ≡ before ++ flat_map f (range_with_len a n) → list ++ f u ≡ before ++ flat_map f (range_with_len a (n + 1))
turn f before list a n u at so_far =
    ap (λ t. t ++ f u) so_far ∙ flat_map_more f before (range_with_len a n) u
    ∙ ap (λ us. before ++ flat_map f us) (ap (λ v. range_with_len a n ++ v ∷ []) (sym at) ∙ sym (range_more a n))

filter_map-flat_map : {X Y Z : Type 0} (h : Y → Option Z) (g : X → List Y) (xs : List X)
    → filter_map h (flat_map g xs) ≡ flat_map (λ x. filter_map h (g x)) xs
filter_map-flat_map h g [] = refl
filter_map-flat_map h g (x ∷ xs) =
    filter_map-append h (g x) (flat_map g xs) ∙ ap (λ zs. filter_map h (g x) ++ zs) (filter_map-flat_map h g xs)

map-flat_map : {X Y Z : Type 0} (h : Y → Z) (g : X → Y) (xs : List X)
    → map h (flat_map (λ x. g x ∷ []) xs) ≡ flat_map (λ x. h (g x) ∷ []) xs
map-flat_map h g [] = refl
map-flat_map h g (x ∷ xs) = ap (λ zs. h (g x) ∷ zs) (map-flat_map h g xs)

flat_map-same : {X Y : Type 0} (f g : X → List Y) → ((x : X) → f x ≡ g x) → (xs : List X) → flat_map f xs ≡ flat_map g xs
flat_map-same f g same [] = refl
flat_map-same f g same (x ∷ xs) = λ i. same x i ++ flat_map-same f g same xs i

single_item : (u : ℕ) (k : K3) → cons_option (written_item (u ∷ []) k) [] ≡ written_one u None k
single_item u No = refl
single_item u Half = refl
single_item u Yes = refl

pair_item : (u w : ℕ) (k : K3) → cons_option (written_item (u ∷ w ∷ []) k) [] ≡ written_one u (Some w) k
pair_item u w No = refl
pair_item u w Half = refl
pair_item u w Yes = refl

-- the items of a unary predicate
pub singles_written : (value : List ℕ → K3) (size : ℕ)
    → flat_map (λ u. written_one u None (value (u ∷ []))) (range_with_len 0 size) ≡ written_items value (tuples 1 size)
singles_written value size =
    sym (filter_map-flat_map (λ tuple. written_item tuple (value tuple)) (λ u. (u ∷ []) ∷ []) (range_with_len 0 size)
    ∙ flat_map-same _ _ (λ u. single_item u (value (u ∷ []))) (range_with_len 0 size))

-- the items of a row of a binary one
pub row_written : (value : List ℕ → K3) (size u : ℕ)
    → flat_map (λ w. written_one u (Some w) (value (u ∷ w ∷ []))) (range_with_len 0 size) ≡ row_items value size u
row_written value size u =
    sym (ap (filter_map (λ tuple. written_item tuple (value tuple))) (map-flat_map (λ tuple. u ∷ tuple) (λ w. w ∷ []) (range_with_len 0 size))
    ∙ filter_map-flat_map (λ tuple. written_item tuple (value tuple)) (λ w. (u ∷ w ∷ []) ∷ []) (range_with_len 0 size)
    ∙ flat_map-same _ _ (λ w. pair_item u w (value (u ∷ w ∷ []))) (range_with_len 0 size))

-- and of its rows
pub rows_written : (value : List ℕ → K3) (size : ℕ)
    → flat_map (row_items value size) (range_with_len 0 size) ≡ written_items value (tuples 2 size)
rows_written value size =
    sym (filter_map-flat_map (λ tuple. written_item tuple (value tuple)) (λ u. map (λ tuple. u ∷ tuple) (tuples 1 size)) (range_with_len 0 size))
