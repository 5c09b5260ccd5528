-- The predicates of a compiled program, by their numbers.
use Rattle.std.proofs.Common.{ℕ, ◌≡◌, ◌≤◌, ◌<◌, ◌+◌, ◌⊎◌, ◌∙◌, zero, suc, List, [], ◌∷◌, ◌++◌, length, map}
use Rattle.std.proofs.Common.{Some, slice_get, get_or, ap, inl, inr, ⊎_elim, refl, arith, Contains}
use Rattle.std.proofs.lemmas.List.{length-map}
use Rattle.tv_model.specs.Program.{PredForm}
use Rattle.tv_model.proofs.Lists.{slice_get-contains, Contains-map_back, Contains-flat_map_back}
use Rattle.tv_source.specs.Forms.{SourceForm}
use Rattle.tv_plang_laws.specs.Compiled.{compiled_preds, field_number, field_pred, numbers_below, reach_pred}
use Rattle.tv_plang_laws.specs.Compiled.{reach_preds, variable_pred}
pub use Rattle.tv_lemmas.proofs.Lists.{range_below as range-below}

-- ---- lists

-- what stands at a place of two lists joined stands in one of them
pub front-or_behind : {X : Type 0} (xs ys : List X) (i : ℕ) (x : X) → slice_get (xs ++ ys) i ≡ Some x
    → ((i < length xs) × (slice_get xs i ≡ Some x)) ⊎ ((j : ℕ) × (i ≡ length xs + j) × (slice_get ys j ≡ Some x))
front-or_behind [] ys i x found = inr (i, omega arith, found)
front-or_behind (y ∷ xs) ys zero x found = inl (omega arith, found)
front-or_behind (y ∷ xs) ys (suc i) x found =
    ⊎_elim
    (λ front. inl (omega (arith, front.0), front.1))
    (λ behind. inr (behind.0, omega (arith, behind.1), behind.2))
    (front-or_behind xs ys i x found)

pub at-front : {X : Type 0} (xs ys : List X) (i : ℕ) → i < length xs → slice_get (xs ++ ys) i ≡ slice_get xs i
at-front [] ys i below = absurd (omega (arith, below))
at-front (x ∷ xs) ys zero below = refl
at-front (x ∷ xs) ys (suc i) below = at-front xs ys i (omega (arith, below))

pub at-behind : {X : Type 0} (xs ys : List X) (n i : ℕ) → n ≡ length xs + i → slice_get (xs ++ ys) n ≡ slice_get ys i
at-behind [] ys n i e = let same : n ≡ i = omega (arith, e) in ap (slice_get ys) same
at-behind (x ∷ xs) ys zero i e = absurd (omega (arith, e))
at-behind (x ∷ xs) ys (suc n) i e = at-behind xs ys n i (omega (arith, e))

-- what stands at a place of a mapped list comes from what stands there
pub map-at : {X Y : Type 0} (f : X → Y) (xs : List X) (i : ℕ) (y : Y) → slice_get (map f xs) i ≡ Some y
    → (x : X) × (slice_get xs i ≡ Some x) × (f x ≡ y)
map-at f [] i y found = absurd (cc found)
map-at f (x ∷ xs) zero y found = (x, refl, cc found)
map-at f (x ∷ xs) (suc i) y found = map-at f xs i y found

pub mapped-at : {X Y : Type 0} (f : X → Y) (xs : List X) (i : ℕ) (d : X) → i < length xs → slice_get (map f xs) i ≡ Some (f (get_or xs i d))
mapped-at f [] i d below = absurd (omega (arith, below))
mapped-at f (x ∷ xs) zero d below = refl
mapped-at f (x ∷ xs) (suc i) d below = mapped-at f xs i d (omega (arith, below))

-- ---- predicates

-- the predicate of number q is a variable's, a field's, or tells what a variable reaches along a field
pub data PredAt (p : SourceForm) (q : ℕ) (d : PredForm) : Type 0 where
  of_variable : q < length p.variables → (name : List ℕ) → Contains p.variables name → d ≡ variable_pred name → PredAt p q d
  of_field : (f : ℕ) → f < length p.fields → q ≡ field_number p f → (name : List ℕ) → Contains p.fields name → d ≡ field_pred name → PredAt p q d
  of_reach : (f x : ℕ) → f < length p.fields → x < length p.variables → length p.variables + length p.fields ≤ q
      → d ≡ reach_pred p f x → PredAt p q d

pub pred-at : (p : SourceForm) (q : ℕ) (d : PredForm) → slice_get (compiled_preds p) q ≡ Some d → PredAt p q d
pred-at p q d found = go (front-or_behind (map variable_pred p.variables) (map field_pred p.fields ++ reach_preds p) q d found)
  where
    reached : Contains (reach_preds p) d → length p.variables + length p.fields ≤ q → PredAt p q d
    reached at behind =
        let of_f = Contains-flat_map_back (λ f. map (reach_pred p f) (numbers_below (length p.variables))) (numbers_below (length p.fields)) d at
        in let of_x = Contains-map_back (reach_pred p of_f.0) (numbers_below (length p.variables)) d of_f.2
        in of_reach of_f.0 of_x.0 (omega (arith, range-below 0 (length p.fields) of_f.0 of_f.1))
        (omega (arith, range-below 0 (length p.variables) of_x.0 of_x.1)) behind (cc of_x.2)

    later : (j : ℕ) → q ≡ length (map variable_pred p.variables) + j
        → ((j < length (map field_pred p.fields)) × (slice_get (map field_pred p.fields) j ≡ Some d))
        ⊎ ((i : ℕ) × (j ≡ length (map field_pred p.fields) + i) × (slice_get (reach_preds p) i ≡ Some d))
        → PredAt p q d
    later j e (inl (below, at)) =
        let from = map-at field_pred p.fields j d at
        in of_field j (omega (arith, below, length-map p.fields field_pred)) (omega (arith, e, length-map p.variables variable_pred)) from.0 (slice_get-contains p.fields j from.0 from.1) (cc from.2)
    later j e (inr (i, e2, at)) =
        reached (slice_get-contains (reach_preds p) i d at)
        (omega (arith, e, e2, length-map p.variables variable_pred, length-map p.fields field_pred))

    go : ((q < length (map variable_pred p.variables)) × (slice_get (map variable_pred p.variables) q ≡ Some d))
        ⊎ ((j : ℕ) × (q ≡ length (map variable_pred p.variables) + j) × (slice_get (map field_pred p.fields ++ reach_preds p) j ≡ Some d))
        → PredAt p q d
    go (inl (below, at)) =
        let from = map-at variable_pred p.variables q d at
        in of_variable (omega (arith, below, length-map p.variables variable_pred)) from.0 (slice_get-contains p.variables q from.0 from.1) (cc from.2)
    go (inr (j, e, at)) = later j e (front-or_behind (map field_pred p.fields) (reach_preds p) j d at)

-- a declared variable's predicate, and a field's
pub variable-found : (p : SourceForm) (x : ℕ) → x < length p.variables
    → (name : List ℕ) × (slice_get (compiled_preds p) x ≡ Some (variable_pred name))
variable-found p x below = (
  get_or p.variables x [],
  at-front (map variable_pred p.variables) (map field_pred p.fields ++ reach_preds p) x (omega (arith, below, length-map p.variables variable_pred))
      ∙ mapped-at variable_pred p.variables x [] below,
)

pub field-found : (p : SourceForm) (f : ℕ) → f < length p.fields
    → (name : List ℕ) × (slice_get (compiled_preds p) (field_number p f) ≡ Some (field_pred name))
field-found p f below = (
  get_or p.fields f [],
  at-behind (map variable_pred p.variables) (map field_pred p.fields ++ reach_preds p) (field_number p f) f
      (omega (arith, length-map p.variables variable_pred))
      ∙ at-front (map field_pred p.fields) (reach_preds p) f (omega (arith, below, length-map p.fields field_pred))
      ∙ mapped-at field_pred p.fields f [] below,
)
