-- Looking for an equal structure, and what it says of adding.
use Rattle.std.proofs.Common.{ℕ, ◌≡◌, ◌≢◌, ◌<◌, ◌≤◌, ◌+◌, ◌-◌, ◌⊎◌, ⊎_elim, inl, inr}
use Rattle.std.proofs.Common.{Bool, true, false, ◌||◌, not, List}
use Rattle.std.proofs.Common.{[], ◌∷◌}
use Rattle.std.proofs.Common.{◌++◌, length, true≢false, Result, Ok, Err, set, refl, sym, ap, subst}
use Rattle.std.proofs.Common.{◌∙◌, arith, if◌then◌else◌}
use Rattle.std.specs.Prelude.{Any, ◌↔◌, IsTrue}
use Rattle.std.specs.List.{list_any}
use Rattle.std.specs.declared.alloc.AllocError.{AllocError}
use Rattle.std.specs.Ordering.{is_eq, eq_by_cmp}
use Rattle.std.specs.Cmp.{Equal-is}
use Rattle.std.proofs.lemmas.List.{get_or_append_left, get_or-append_right, get_or-append-add}
use Rattle.std.proofs.lemmas.List.{length-append, append-nil, set-get_or, length-set, get_or-set_same}
use Rattle.std.proofs.lemmas.List.{get_or-set_other}
use Rattle.std.proofs.lemmas.List.Folds.{Any-from_list_any, list_any_at}
use Rattle.std.proofs.lemmas.Bool.{cases_eq, cases_lt}
use Rattle.indexmap.specs.IndexSet.{insert_key}
use Rattle.tv_listing.specs.ListingForm.{HasEqual, Adds, AddsAt, IsSortedFrom, at_node}
use Rattle.tv_struct.specs.Order.{structure_cmp}
use Rattle.tv_structure_form.specs.StructureForm.{StructureForm, unmarked}
use Rattle.tv_struct.proofs.OrderLaws.{structure_cmp-Equal, Equal-from_unmarked}

-- equal, marks aside, as the order decides it
abbrev pub same : StructureForm → StructureForm → Bool
same = eq_by_cmp structure_cmp

same-unmarked : (a b : StructureForm) → same a b ≡ true → unmarked a ≡ unmarked b
same-unmarked a b e = structure_cmp-Equal a b ((Equal-is (structure_cmp a b)).0 e)

unmarked-same : (a b : StructureForm) → unmarked a ≡ unmarked b → same a b ≡ true
unmarked-same a b e = ap is_eq (Equal-from_unmarked a b e)

-- a search by such a test finds an equal structure exactly where there is one
module _ (structures : List StructureForm) (s : StructureForm) where
  pub has_from_search : list_any (λ t. same t s) structures ≡ true → HasEqual structures s
  has_from_search e =
      let hit : Any (λ t. same t s ≡ true) structures = Any-from_list_any (λ t. same t s) structures e
      in (hit.0, hit.1, hit.2, hit.3, same-unmarked hit.1 s hit.4)

  pub search_from_has : HasEqual structures s → list_any (λ t. same t s) structures ≡ true
  search_from_has (k, t, lt, at, e) =
      list_any_at (λ t. same t s) structures k t lt (ap (λ x. same x s) at ∙ unmarked-same t s e)

  pub has_from_hash : list_any (same s) structures ≡ true → HasEqual structures s
  has_from_hash e =
      let hit : Any (λ t. same s t ≡ true) structures = Any-from_list_any (same s) structures e
      in (hit.0, hit.1, hit.2, hit.3, sym (same-unmarked s hit.1 hit.4))

  pub hash_from_has : HasEqual structures s → list_any (same s) structures ≡ true
  hash_from_has (k, t, lt, at, e) =
      list_any_at (same s) structures k t lt (ap (λ x. same s x) at ∙ unmarked-same s t (sym e))

-- an equal structure stands among the first or among those behind them
HasEqual-left : (ks ps : List StructureForm) (s : StructureForm) → HasEqual ks s → HasEqual (ks ++ ps) s
HasEqual-left ks ps s (k, t, lt, at, e) =
    (k, t, omega (arith, lt, length-append ks ps), get_or_append_left ks ps t k lt ∙ at, e)

HasEqual-right : (ks ps : List StructureForm) (s : StructureForm) → HasEqual ps s → HasEqual (ks ++ ps) s
HasEqual-right ks ps s (k, t, lt, at, e) =
    (length ks + k, t, omega (arith, lt, length-append ks ps), get_or-append-add ks ps k t ∙ at, e)

HasEqual-either : (ks ps : List StructureForm) (s : StructureForm) → HasEqual (ks ++ ps) s → HasEqual ks s ⊎ HasEqual ps s
HasEqual-either ks ps s (k, t, lt, at, e) = by (cases_lt k (length ks))
  where
    by : (k < length ks) ⊎ (length ks ≤ k) → HasEqual ks s ⊎ HasEqual ps s
    by (inl before) = inl (k, t, before, sym (get_or_append_left ks ps t k before) ∙ at, e)
    by (inr behind) =
        inr (k - length ks, t, omega (arith, lt, behind, length-append ks ps), sym (get_or-append_right ks ps (length ks) k t refl behind) ∙ at, e)

-- what a search by hash among the first, and one by one among those behind them, says of all
pub has_either : (ks ps : List StructureForm) (s : StructureForm) (b c : Bool) → b ≡ list_any (same s) ks
    → c ≡ list_any (λ t. same t s) ps → IsTrue (b || c) ↔ HasEqual (ks ++ ps) s
has_either ks ps s true c e f = ((λ _. HasEqual-left ks ps s (has_from_hash ks s (sym e))), (λ _. refl))
has_either ks ps s false true e f = ((λ _. HasEqual-right ks ps s (has_from_search ps s (sym f))), (λ _. refl))
has_either ks ps s false false e f = ((λ x. absurd (true≢false (sym x))), (λ has. absurd (by (HasEqual-either ks ps s has))))
  where
    by : HasEqual ks s ⊎ HasEqual ps s → ⊥
    by (inl has) = true≢false (sym (hash_from_has ks s has) ∙ sym e)
    by (inr has) = true≢false (sym (search_from_has ps s has) ∙ sym f)

-- what putting in by hash says of adding, where there are none behind
pub Adds-inserted : (ks new ps : List StructureForm) (s : StructureForm) (r : Bool) → ps ≡ []
    → r ≡ not (list_any (same s) ks) → new ≡ insert_key same ks s → Adds (ks ++ ps) (new ++ ps) s (Ok r)
Adds-inserted ks new ps s r none told keys =
    let before : ks ++ ps ≡ ks = ap (λ xs. ks ++ xs) none ∙ append-nil ks
    in let after : new ++ ps ≡ insert_key same ks s = ap (λ xs. new ++ xs) none ∙ append-nil new ∙ keys
    in let Old : List StructureForm → Type 0 = λ xs. Adds xs (new ++ ps) s (Ok r)
    in let New : List StructureForm → Type 0 = λ xs. Adds ks xs s (Ok r)
    in let Told : Bool → Type 0 = λ b. Adds ks (insert_key same ks s) s (Ok b)
    in subst Old (sym before) (subst New (sym after) (subst Told (sym told) (by (list_any (same s) ks) refl)))
  where
    by : (b : Bool) → list_any (same s) ks ≡ b → Adds ks (if b then ks else ks ++ s ∷ []) s (Ok (not b))
    by true e = (has_from_hash ks s e, refl)
    by false e = ((λ has. true≢false (sym (hash_from_has ks s has) ∙ e)), refl)

-- from the list at the node to the listing
pub AddsAt-from_list : (old : List (List StructureForm)) (node : ℕ) (list new : List StructureForm) (s : StructureForm)
    (r : Result Bool AllocError) → list ≡ at_node old node → Adds list new s r → AddsAt old (set old node new) node s r
AddsAt-from_list old node list new s (Ok true) e h =
    (rw (← e) h.0, ap (set old node) h.1 ∙ ap (λ xs. set old node (xs ++ s ∷ [])) e)
AddsAt-from_list old node list new s (Ok false) e h =
    (rw (← e) h.0, ap (set old node) (h.1 ∙ e) ∙ set-get_or old node [])
AddsAt-from_list old node list new s (Err x) e h = ap (set old node) (h ∙ e) ∙ set-get_or old node []

-- ---- sorted lists

-- one more node's list is sorted, where it stands
module _ (old nodes : List (List StructureForm)) (i : ℕ) (empty new : List StructureForm) (many : length nodes ≡ length old)
    (lt : i < length nodes)
    (each : (node : ℕ) → node < i → IsSortedFrom (at_node old node) (at_node nodes node))
    (others : (node : ℕ) → i ≤ node → at_node nodes node ≡ at_node old node) where
  abbrev next : List (List StructureForm)
  next = set (set nodes i empty) i new

  elsewhere : (node : ℕ) → node ≢ i → at_node next node ≡ at_node nodes node
  elsewhere node ne = get_or-set_other (set nodes i empty) i node new [] ne ∙ get_or-set_other nodes i node empty [] ne

  pub sorted_many : length next ≡ length old
  sorted_many = length-set (set nodes i empty) i new ∙ length-set nodes i empty ∙ many

  pub sorted_each : IsSortedFrom (at_node nodes i) new → (node : ℕ) → node < i + 1 → IsSortedFrom (at_node old node) (at_node next node)
  sorted_each one node before =
      ⊎_elim
      (λ e.
      rw (e, get_or-set_same (set nodes i empty) i new [] (omega (arith, lt, length-set nodes i empty)), ← others i (omega arith)) one)
      (λ ne. rw (elsewhere node ne) (each node (omega (arith, before, ne))))
      (cases_eq node i)

  pub sorted_others : (node : ℕ) → i + 1 ≤ node → at_node next node ≡ at_node old node
  sorted_others node behind = elsewhere node (λ e. omega (arith, e, behind)) ∙ others node (omega (arith, behind))
