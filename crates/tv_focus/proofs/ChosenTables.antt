-- The tables of choices, one set after the other.
use Rattle.std.proofs.Common.{◌≡◌, List, [], ◌∷◌, ◌++◌, refl, sym, ap, subst, ◌∙◌, Contains, map, append-nil}
use Rattle.std.specs.List.{flat_map, AllByRecursion}
use Rattle.std.proofs.lemmas.List.{append_assoc, map-append}
use Rattle.tv_model.proofs.Lists.{Contains-here, Contains-there, Contains-map, Contains-flat_map, map-compose}
use Rattle.tv_model.proofs.Lists.{map-agreed}
use Rattle.tv_structure_form.specs.StructureForm.{StructureForm}
use Rattle.tv_focus_laws.specs.Choices.{ChoiceForm, VectorSet, product}
use Rattle.tv_focus.specs.Puts.{AreChosen, chosen_tables}

-- each of the list, element by element
every : (xs : List VectorSet) (P : VectorSet → Type 0) → ((x : VectorSet) → Contains xs x → P x) → AllByRecursion P xs
every [] P each = tt
every (x ∷ xs) P each = (each x (Contains-here x xs), every xs P (λ y at. each y (Contains-there x y xs at)))

-- one more set
pub one_more : (table : ChoiceForm → StructureForm) (begun now : ChoiceForm) (rest : List (List VectorSet))
    (set : VectorSet) (later : List VectorSet) (old mid new : List StructureForm) → now ≡ begun
    → mid ≡ old ++ chosen_tables table (begun ++ set ∷ []) rest
    → new ≡ mid ++ flat_map (λ one. chosen_tables table (now ++ one ∷ []) rest) later
    → new ≡ old ++ flat_map (λ one. chosen_tables table (begun ++ one ∷ []) rest) (set ∷ later)
one_more table begun now rest set later old mid new same first second =
    second
    ∙ ap (λ b. mid ++ flat_map (λ one. chosen_tables table (b ++ one ∷ []) rest) later) same
    ∙ ap (λ m. m ++ flat_map (λ one. chosen_tables table (begun ++ one ∷ []) rest) later) first
    ∙ append_assoc old (chosen_tables table (begun ++ set ∷ []) rest)
    (flat_map (λ one. chosen_tables table (begun ++ one ∷ []) rest) later)

-- what holds of each choice that begins so holds of each tail of it
pub all_chosen : (P : ChoiceForm → Type 0) (begun : ChoiceForm) (sets : List (List VectorSet))
    → ((tail : ChoiceForm) → Contains (product sets) tail → P (begun ++ tail)) → AreChosen P begun sets
all_chosen P begun [] each = subst P (append-nil begun) (each [] (Contains-here [] []))
all_chosen P begun (first ∷ rest) each =
    every first (λ set. AreChosen P (begun ++ set ∷ []) rest)
    (λ set within. all_chosen P (begun ++ set ∷ []) rest
    (λ tail at. subst P (sym (append_assoc begun (set ∷ []) tail))
    (each (set ∷ tail) (Contains-flat_map (λ one. map (λ rest_of. one ∷ rest_of) (product rest)) first set (set ∷ tail)
    within (Contains-map (λ rest_of. set ∷ rest_of) tail (product rest) at)))))

-- what is made of each of some sets, one after the other
made : (f g : VectorSet → List StructureForm) (some : List VectorSet) → ((set : VectorSet) → f set ≡ g set)
    → flat_map f some ≡ flat_map g some
made f g [] same = refl
made f g (set ∷ some) same =
    ap (λ ts. ts ++ flat_map f some) (same set) ∙ ap (λ ts. g set ++ ts) (made f g some same)

mapped : (table : ChoiceForm → StructureForm) (tails : VectorSet → List ChoiceForm) (some : List VectorSet)
    → flat_map (λ set. map table (tails set)) some ≡ map table (flat_map tails some)
mapped table tails [] = refl
mapped table tails (set ∷ some) =
    ap (λ ts. map table (tails set) ++ ts) (mapped table tails some) ∙ sym (map-append table (tails set) (flat_map tails some))

-- the tables are those of the choices, in order
pub tables_are : (table : ChoiceForm → StructureForm) (begun : ChoiceForm) (sets : List (List VectorSet))
    → chosen_tables table begun sets ≡ map (λ tail. table (begun ++ tail)) (product sets)
tables_are table begun [] = ap (λ choice. table choice ∷ []) (sym (append-nil begun))
tables_are table begun (first ∷ rest) =
    made (λ set. chosen_tables table (begun ++ set ∷ []) rest)
    (λ set. map (λ tail. table (begun ++ tail)) (map (λ tail. set ∷ tail) (product rest))) first
    (λ set. tables_are table (begun ++ set ∷ []) rest
    ∙ map-agreed (λ tail. table ((begun ++ set ∷ []) ++ tail)) (λ tail. table (begun ++ set ∷ tail)) (product rest)
    (λ tail at. ap table (append_assoc begun (set ∷ []) tail))
    ∙ sym (map-compose (λ tail. set ∷ tail) (λ tail. table (begun ++ tail)) (product rest)))
    ∙ mapped (λ tail. table (begun ++ tail)) (λ set. map (λ tail. set ∷ tail) (product rest)) first
