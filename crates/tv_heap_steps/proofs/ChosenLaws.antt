-- All lists of so many individuals, and actions that leave nothing free.
use Rattle.std.proofs.Common.{ℕ, zero, suc, ◌≡◌, ◌<◌, ◌+◌, ◌==◌, List, [], ◌∷◌, ◌++◌, length, map, take}
use Rattle.std.proofs.Common.{get_or, All}
use Rattle.std.proofs.Common.{Contains, append-nil, sym, ap, ◌∙◌, arith}
use Rattle.std.specs.List.{flat_map, range_with_len}
use Rattle.std.proofs.lemmas.Grind.{flat_map-append}
use Rattle.std.proofs.lemmas.List.{take_more}
use Rattle.std.proofs.lemmas.List.Elements.{All-contains, All-head, All-tail}
use Rattle.tv_concrete.specs.Tuples.{tuples_of}
use Rattle.tv_lemmas.proofs.Lists.{in_range}
use Rattle.tv_model.specs.Program.{ActionForm, UpdateForm, CFree}
use Rattle.tv_model.proofs.Lists.{All-from_contains, Contains-here, Contains-flat_map, Contains-map}
use Rattle.tv_replay_laws.specs.Next.{IsFreelyUpdated}
use Rattle.tv_replay_laws.specs.Stuck.{ArePicked}
use Rattle.tv_structure_form.specs.StructureForm.{StructureForm}
use Rattle.tv_update_laws.proofs.Facts.{find-found}
use Rattle.tv_heap_steps.specs.Settled.{AreSettled}

tuple-found : (xs : List ℕ) (n : ℕ) (us : List ℕ) → length us ≡ n → All (Contains xs) us → Contains (tuples_of xs n) us
tuple-found xs zero [] long all = Contains-here [] []
tuple-found xs zero (u ∷ us) long all = absurd (omega (arith, long))
tuple-found xs (suc n) [] long all = absurd (omega (arith, long))
tuple-found xs (suc n) (u ∷ us) long all =
    Contains-flat_map (λ tuple. map (λ w. w ∷ tuple) xs) (tuples_of xs n) us (u ∷ us)
    (tuple-found xs n us (omega (arith, long)) (All-tail (Contains xs) u us all))
    (Contains-map (λ w. w ∷ us) u xs (All-head (Contains xs) u us all))

-- one more list gives one more part
pub one_part_more : (f : List ℕ → List (List ℕ)) (xs : List (List ℕ)) (i : ℕ) (x : List ℕ) → i < length xs
    → x ≡ get_or xs i x → flat_map f (take (i + 1) xs) ≡ flat_map f (take i xs) ++ f x
one_part_more f xs i x below is =
    ap (flat_map f) (take_more xs i x below ∙ ap (λ y. take i xs ++ y ∷ []) (sym is))
    ∙ flat_map-append f (take i xs) (x ∷ []) ∙ ap (λ ys. flat_map f (take i xs) ++ ys) (append-nil (f x))

-- each list of individuals of s for the picked variables is one of them
pub chosen_listed : (action : ActionForm) (chosen : List ℕ) (s : StructureForm) → ArePicked action chosen s
    → Contains (tuples_of (range_with_len 0 s.size) (length action.picks)) chosen
chosen_listed action chosen s are =
    tuple-found (range_with_len 0 s.size) (length action.picks) chosen are.0
    (All-from_contains (Contains (range_with_len 0 s.size)) chosen
    (λ u at. in_range s.size u (All-contains (λ w. w < s.size) chosen u are.1 at)))

pub none_free : (action : ActionForm) → AreSettled action.updates → (q : ℕ) → ¬ IsFreelyUpdated action q
none_free action settled q (w, found, is_free) =
    All-contains (λ (x : UpdateForm). x.change ≡ CFree → ⊥) action.updates w settled
    (find-found (λ (x : UpdateForm). x.pred == q) action.updates w found).0 is_free
