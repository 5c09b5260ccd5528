-- Actions by their names, and calls told apart by their words.
use Rattle.std.proofs.Common.{◌≡◌, ℕ, ◌+◌, ◌<◌, ◌≤◌, Bool, true, false, cond, ◌&&◌, get_or, List, [], ◌∷◌}
use Rattle.std.proofs.Common.{◌++◌, length, drop, refl, ap, Option, Some, None, Ok, Err, Bor}
use Rattle.std.specs.Prelude.{is_some, if◌then◌else◌}
use Rattle.std.specs.Option.{option_map}
use Rattle.std.specs.Str.{bytes_eq}
use Rattle.std.specs.Map.{lookup}
use Rattle.std.specs.List.{list_any, position_or_len, zip}
use Rattle.std.specs.Cmp.Lexicographic.{pointwise}
use Rattle.std.specs.Global.{Vec}
use Rattle.std.proofs.lemmas.List.{drop_more, drop_all, map_push}
use Rattle.tv_tree.specs.declared.trees.ActionTree.{ActionTree}
use Rattle.tv_tree.specs.Copies.{action_of}
use Rattle.tv_expand.specs.declared.error.ExpandError.TheVariants.{NameUnknown}
use Rattle.tv_flat.specs.Replaced.{Binding, bound, all_bound}
use Rattle.tv_expand.specs.Sets.{known}
use Rattle.indexmap.specs.IndexMap.{insert_entry}
use Rattle.tv_expand.specs.Expansion.{find_action, same_call}
use Rattle.tv_expand.specs.Views.{names_of, action_entry_of, actions_of, call_of, calls_of}
use Rattle.tv_lemmas.proofs.Options.{is_some-map}

-- an action that is looked up
pub found_action : (entries : List (Bor (List ℕ) × Bor ActionTree)) (name : List ℕ) → find_action (actions_of entries) name ≡ option_map (λ (a : Bor ActionTree). action_of a.now) (lookup (λ (k : Bor (List ℕ)). bytes_eq name k.now) entries)
found_action [] name = refl
found_action (e ∷ entries) name = by (bytes_eq name e.0.now) (found_action entries name)
  where
    by : (t : Bool) → find_action (actions_of entries) name ≡ option_map (λ (a : Bor ActionTree). action_of a.now) (lookup (λ (k : Bor (List ℕ)). bytes_eq name k.now) entries) → cond t (Some (action_of e.1.now)) (find_action (actions_of entries) name) ≡ option_map (λ (a : Bor ActionTree). action_of a.now) (cond t (Some e.1) (lookup (λ (k : Bor (List ℕ)). bytes_eq name k.now) entries))
    by true rest = refl
    by false rest = rest

pub action_there : (entries : List (Bor (List ℕ) × Bor ActionTree)) (name : List ℕ) → is_some (lookup (λ (k : Bor (List ℕ)). bytes_eq name k.now) entries) ≡ is_some (find_action (actions_of entries) name)
action_there entries name = rw (found_action entries name) (is_some-map (λ (a : Bor ActionTree). action_of a.now) (lookup (λ (k : Bor (List ℕ)). bytes_eq name k.now) entries))

pub known_action : (entries : List (Bor (List ℕ) × Bor ActionTree)) (name : List ℕ) (a : Bor ActionTree) → ◌≡◌ {A = Option (Bor ActionTree)} (Some a) (lookup (λ (k : Bor (List ℕ)). bytes_eq name k.now) entries) → known (find_action (actions_of entries) name) ≡ Ok (action_of a.now)
known_action entries name a is = rw (found_action entries name, ← is) refl

pub unknown_action : (entries : List (Bor (List ℕ) × Bor ActionTree)) (name : List ℕ) → ◌≡◌ {A = Option (Bor ActionTree)} None (lookup (λ (k : Bor (List ℕ)). bytes_eq name k.now) entries) → known (find_action (actions_of entries) name) ≡ Err NameUnknown
unknown_action entries name is = rw (found_action entries name, ← is) refl

-- an action that is put behind the others
pub added_action : (entries : List (Bor (List ℕ) × Bor ActionTree)) (name : Bor (List ℕ)) (a : Bor ActionTree) → is_some (find_action (actions_of entries) name.now) ≡ false → actions_of (insert_entry (λ (x y : Bor (List ℕ)). bytes_eq x.now y.now) entries name a) ≡ actions_of entries ++ (name.now, action_of a.now) ∷ []
added_action [] name a new = refl
added_action (e ∷ entries) name a new = by (bytes_eq name.now e.0.now) new (added_action entries name a)
  where
    by : (t : Bool) → is_some (cond t (Some (action_of e.1.now)) (find_action (actions_of entries) name.now)) ≡ false → (is_some (find_action (actions_of entries) name.now) ≡ false → actions_of (insert_entry (λ (x y : Bor (List ℕ)). bytes_eq x.now y.now) entries name a) ≡ actions_of entries ++ (name.now, action_of a.now) ∷ []) → actions_of (cond t ((e.0, a) ∷ entries) (e ∷ insert_entry (λ (x y : Bor (List ℕ)). bytes_eq x.now y.now) entries name a)) ≡ action_entry_of e ∷ (actions_of entries ++ (name.now, action_of a.now) ∷ [])
    by true h rest = absurd cc
    by false h rest = ap (λ es. action_entry_of e ∷ es) (rest h)

-- the same words, where they are borrowed
pub same_words : (xs ys : List (Bor (List ℕ))) → pointwise (λ (a : Bor (List ℕ)) (b : Bor (List ℕ)). bytes_eq a.now b.now) xs ys ≡ same_call (names_of xs) (names_of ys)
same_words [] [] = refl
same_words [] (y ∷ ys) = refl
same_words (x ∷ xs) [] = refl
same_words (x ∷ xs) (y ∷ ys) = ap (λ (t : Bool). bytes_eq x.now y.now && t) (same_words xs ys)

pub any_call : (words : List (Bor (List ℕ))) (ks : List (Vec (Bor (List ℕ)))) → list_any (λ (k : Vec (Bor (List ℕ))). pointwise (λ (a : Bor (List ℕ)) (b : Bor (List ℕ)). bytes_eq a.now b.now) words k.items) ks ≡ list_any (same_call (names_of words)) (calls_of ks)
any_call words [] = refl
any_call words (k ∷ ks) = rw (same_words words k.items, any_call words ks) refl

pub call_place : (words : List (Bor (List ℕ))) (ks : List (Vec (Bor (List ℕ)))) → position_or_len (λ (k : Vec (Bor (List ℕ))). pointwise (λ (a : Bor (List ℕ)) (b : Bor (List ℕ)). bytes_eq a.now b.now) words k.items) ks ≡ position_or_len (same_call (names_of words)) (calls_of ks)
call_place words [] = refl
call_place words (k ∷ ks) = rw (same_words words k.items, call_place words ks) refl

pub pairs_more : (b : Binding) (xs ys : List (List ℕ)) (i : ℕ) (x y : List ℕ) → i < length xs → i < length ys → x ≡ get_or xs i x → y ≡ get_or ys i y → all_bound (bound b x y) (zip (drop (i + 1) xs) (drop (i + 1) ys)) ≡ all_bound b (zip (drop i xs) (drop i ys))
pairs_more b xs ys i x y below within is are = rw (drop_more xs i x below, drop_more ys i y within, ← is, ← are) refl

pub pairs_done : (b : Binding) (xs ys : List (List ℕ)) (i : ℕ) → length xs ≤ i → all_bound b (zip (drop i xs) (drop i ys)) ≡ b
pairs_done b xs ys i past = rw (drop_all i xs past) refl

pub calls_with : (words : Vec (Bor (List ℕ))) (ks : List (Vec (Bor (List ℕ)))) → calls_of (if list_any (λ (k : Vec (Bor (List ℕ))). pointwise (λ (a : Bor (List ℕ)) (b : Bor (List ℕ)). bytes_eq a.now b.now) words.items k.items) ks then ks else ks ++ words ∷ []) ≡ (if list_any (same_call (call_of words)) (calls_of ks) then calls_of ks else calls_of ks ++ call_of words ∷ [])
calls_with words ks = rw (any_call words.items ks) (by (list_any (same_call (call_of words)) (calls_of ks)))
  where
    by : (t : Bool) → calls_of (cond t ks (ks ++ words ∷ [])) ≡ cond t (calls_of ks) (calls_of ks ++ call_of words ∷ [])
    by true = refl
    by false = map_push call_of ks words
