-- Memories have heaps, and steps keep memories.
use Rattle.std.proofs.Common.{ℕ, ◌≡◌, ◌≢◌, ◌≤◌, ◌<◌, ◌+◌, ◌-◌, ◌↔◌, ◌⊎◌, ◌∙◌, zero, suc, List, [], ◌∷◌, ◌++◌}
use Rattle.std.proofs.Common.{length, map, replicate, Option, Some, None, unwrap_or, slice_get, get_or, inl}
use Rattle.std.proofs.Common.{inr, ⊎_elim, refl, sym, ap, subst, arith, All, AllPairs, Contains}
use Rattle.std.proofs.Common.{length-append}
use Rattle.std.specs.List.{flat_map}
use Rattle.std.proofs.lemmas.Bool.{cases_eq}
use Rattle.std.proofs.lemmas.List.{length-map, length-replicate}
use Rattle.std.proofs.lemmas.List.Elements.{All-nil, All-cons}
use Rattle.std.proofs.lemmas.List.FromFn.{get_or-range_with_len, length-range_with_len}
use Rattle.std.proofs.lemmas.List.Kept.{AllPairs-cons}
use Rattle.tv_concrete.specs.Laws.{AtLeastOneConcrete, SameCore}
use Rattle.tv_model.specs.Heap.{Heap, Holds, IsTuple, extent}
use Rattle.tv_model.specs.Program.{PredForm}
use Rattle.tv_model.specs.Rules.{IsHeap}
use Rattle.tv_model.proofs.Lists.{All-from_contains, Contains-cases, Contains-flat_map}
use Rattle.tv_model.proofs.Lists.{Contains-flat_map_back, Contains-here, Contains-none, pushed-cases}
use Rattle.tv_model.proofs.Lists.{pushed-last, pushed-old}
use Rattle.tv_source.specs.Forms.{SourceForm, AssignForm, ANull, ANew, ACopy, ALoad, AStore, AClear, Stmt}
use Rattle.tv_source.specs.Forms.{SAssign, SIf, SWhile}
use Rattle.tv_source.specs.Valid.{IsAssignOf, IsFieldOf, IsVariableOf}
use Rattle.tv_plang_laws.specs.Compiled.{compiled, field_number, field_pred, numbers_below, reach_preds}
use Rattle.tv_plang_laws.specs.Compiled.{variable_pred}
use Rattle.tv_plang_laws.specs.Heaps.{IsMemory}
use Rattle.tv_plang_laws.specs.Laws.{MemoriesHaveHeaps, MemoriesStay}
use Rattle.tv_plang_laws.specs.Memories.{Memory, Assigns, Allocates, Links, Does}
use Rattle.tv_plang_laws.specs.Positions.{Numbered}
use Rattle.tv_plang_laws.specs.Steps.{State, GoThrough, Performs, StepsFrom}
use Rattle.tv_plang_laws.proofs.Graph.{Fits}
use Rattle.tv_plang_laws.proofs.Pairs.{pairs-append, pairs-nil}
use Rattle.tv_plang_laws.proofs.Predicates.{PredAt, of_variable, of_field, of_reach, at-behind, at-front}
use Rattle.tv_plang_laws.proofs.Predicates.{field-found, mapped-at, pred-at, variable-found}
use Rattle.tv_plang_laws.proofs.Runs.{fits-start, takes-first}
use Rattle.tv_plang_laws.proofs.Valid.{compiled_is_valid}

-- ---- the core of a memory's heap

abbrev one_tuple : Option ℕ → List (List ℕ)
one_tuple None = []
one_tuple (Some cell) = (cell ∷ []) ∷ []

abbrev pair_from : ℕ → Option ℕ → List (List ℕ)
pair_from cell None = []
pair_from cell (Some to) = (cell ∷ to ∷ []) ∷ []

abbrev variable_extents : SourceForm → Memory → List (List (List ℕ))
variable_extents p m = map (λ x. one_tuple (m.variable x)) (numbers_below (length p.variables))

abbrev field_extents : SourceForm → Memory → List (List (List ℕ))
field_extents p m = map (λ f. flat_map (λ cell. pair_from cell (m.field f cell)) m.cells) (numbers_below (length p.fields))

abbrev reach_extents : SourceForm → List (List (List ℕ))
reach_extents p = replicate (length (reach_preds p)) []

abbrev core_heap : SourceForm → Memory → Heap
core_heap p m = record {
  individuals = m.cells;
  extents = variable_extents p m ++ (field_extents p m ++ reach_extents p);
  fresh = None;
}

variables-long : (p : SourceForm) (m : Memory) → length (variable_extents p m) ≡ length p.variables
variables-long p m =
    length-map (numbers_below (length p.variables)) (λ x. one_tuple (m.variable x)) ∙ length-range_with_len 0 (length p.variables)

fields-long : (p : SourceForm) (m : Memory) → length (field_extents p m) ≡ length p.fields
fields-long p m =
    length-map (numbers_below (length p.fields)) (λ f. flat_map (λ cell. pair_from cell (m.field f cell)) m.cells)
    ∙ length-range_with_len 0 (length p.fields)

variable-extent : (p : SourceForm) (m : Memory) (x : ℕ) → IsVariableOf p x → extent (core_heap p m) x ≡ one_tuple (m.variable x)
variable-extent p m x declared =
    let all : List ℕ = numbers_below (length p.variables)
    in let below : x < length all = omega (arith, declared, length-range_with_len 0 (length p.variables))
    in let number : get_or all x 0 ≡ x = get_or-range_with_len 0 (length p.variables) x 0 declared ∙ omega arith
    in ap (λ (o : Option (List (List ℕ))). unwrap_or o [])
    (at-front (variable_extents p m) (field_extents p m ++ reach_extents p) x (omega (arith, declared, variables-long p m))
    ∙ mapped-at (λ y. one_tuple (m.variable y)) all x 0 below
    ∙ ap (λ y. Some (one_tuple (m.variable y))) number)

field-extent : (p : SourceForm) (m : Memory) (f : ℕ) → IsFieldOf p f
    → extent (core_heap p m) (field_number p f) ≡ flat_map (λ cell. pair_from cell (m.field f cell)) m.cells
field-extent p m f declared =
    let all : List ℕ = numbers_below (length p.fields)
    in let Of : ℕ → List (List ℕ) = λ g. flat_map (λ cell. pair_from cell (m.field g cell)) m.cells
    in let below : f < length all = omega (arith, declared, length-range_with_len 0 (length p.fields))
    in let number : get_or all f 0 ≡ f = get_or-range_with_len 0 (length p.fields) f 0 declared ∙ omega arith
    in ap (λ (o : Option (List (List ℕ))). unwrap_or o [])
    (at-behind (variable_extents p m) (field_extents p m ++ reach_extents p) (field_number p f) f (omega (arith, variables-long p m))
    ∙ at-front (field_extents p m) (reach_extents p) f (omega (arith, declared, fields-long p m))
    ∙ mapped-at Of all f 0 below
    ∙ ap (λ g. Some (Of g)) number)

nothing-there : (n i : ℕ) (tuple : List ℕ) → Contains (unwrap_or (slice_get (replicate n []) i) []) tuple → ⊥
nothing-there zero i tuple at = Contains-none tuple at
nothing-there (suc n) zero tuple at = Contains-none tuple at
nothing-there (suc n) (suc i) tuple at = nothing-there n i tuple at

reach-empty : (p : SourceForm) (m : Memory) (q : ℕ) → length p.variables + length p.fields ≤ q → (tuple : List ℕ) → Holds (core_heap p m) q tuple → ⊥
reach-empty p m q behind tuple at = go (q_behind q behind)
  where
    q_behind : (n : ℕ) → length p.variables + length p.fields ≤ n → (i : ℕ) × (n ≡ length (variable_extents p m) + (length (field_extents p m) + i))
    q_behind n le = (n - (length p.variables + length p.fields), omega (arith, le, variables-long p m, fields-long p m))

    go : (i : ℕ) × (q ≡ length (variable_extents p m) + (length (field_extents p m) + i)) → ⊥
    go (i, e) =
        let Of : Option (List (List ℕ)) → Type 0 = λ o. Contains (unwrap_or o []) tuple
        in nothing-there (length (reach_preds p)) i tuple
        (subst Of
        (at-behind (variable_extents p m) (field_extents p m ++ reach_extents p) q (length (field_extents p m) + i) e
        ∙ at-behind (field_extents p m) (reach_extents p) (length (field_extents p m) + i) i refl)
        at)

one-there : (value : Option ℕ) (cell : ℕ) → Contains (one_tuple value) (cell ∷ []) ↔ (value ≡ Some cell)
one-there None cell = (λ at. absurd (Contains-none (cell ∷ []) at), λ e. absurd (cc e))
one-there (Some c) cell = (
  λ at. ⊎_elim (λ e. let same : c ≡ cell = cc e in ap (λ (u : ℕ). Some u) same) (λ none. absurd (Contains-none (cell ∷ []) none))
      (Contains-cases (c ∷ []) (cell ∷ []) [] at),
  λ e. let same : c ≡ cell = cc e
      in let In : ℕ → Type 0 = λ u. Contains ((c ∷ []) ∷ []) (u ∷ []) in subst In same (Contains-here (c ∷ []) []),
)

pair-there : (value : Option ℕ) (from cell to : ℕ) → Contains (pair_from from value) (cell ∷ to ∷ []) → (from ≡ cell) × (value ≡ Some to)
pair-there None from cell to at = absurd (Contains-none (cell ∷ to ∷ []) at)
pair-there (Some d) from cell to at =
    ⊎_elim
    (λ e. let first : from ≡ cell = cc e in let second : d ≡ to = cc e in (first, ap (λ (u : ℕ). Some u) second))
    (λ none. absurd (Contains-none (cell ∷ to ∷ []) none))
    (Contains-cases (from ∷ d ∷ []) (cell ∷ to ∷ []) [] at)

pair-back : (value : Option ℕ) (cell to : ℕ) → value ≡ Some to → Contains (pair_from cell value) (cell ∷ to ∷ [])
pair-back None cell to e = absurd (cc e)
pair-back (Some d) cell to e =
    let same : d ≡ to = cc e
    in let In : ℕ → Type 0 = λ u. Contains ((cell ∷ d ∷ []) ∷ []) (cell ∷ u ∷ []) in subst In same (Contains-here (cell ∷ d ∷ []) [])

core-variable : (p : SourceForm) (m : Memory) (x cell : ℕ) → IsVariableOf p x → Holds (core_heap p m) x (cell ∷ []) ↔ (m.variable x ≡ Some cell)
core-variable p m x cell declared =
    let In : List (List ℕ) → Type 0 = λ ts. Contains ts (cell ∷ [])
    in let there = one-there (m.variable x) cell
    in let same = variable-extent p m x declared
    in (λ at. there.0 (subst In same at), λ e. subst In (sym same) (there.1 e))

core-field : (p : SourceForm) (m : Memory) (f cell to : ℕ) → IsFieldOf p f → Contains m.cells cell
    → Holds (core_heap p m) (field_number p f) (cell ∷ to ∷ []) ↔ (m.field f cell ≡ Some to)
core-field p m f cell to declared is_cell =
    let In : List (List ℕ) → Type 0 = λ ts. Contains ts (cell ∷ to ∷ [])
    in let Of : ℕ → List (List ℕ) = λ c. pair_from c (m.field f c)
    in let same = field-extent p m f declared
    in (
      λ at. let from = Contains-flat_map_back Of m.cells (cell ∷ to ∷ []) (subst In same at)
          in let pair = pair-there (m.field f from.0) from.0 cell to from.2
          in let Leads : ℕ → Type 0 = λ c. m.field f c ≡ Some to
          in subst Leads pair.0 pair.1,
      λ e. subst In (sym same) (Contains-flat_map Of m.cells cell (cell ∷ to ∷ []) is_cell (pair-back (m.field f cell) cell to e)),
    )

-- ---- it is a heap of the program

one-fits : (p : SourceForm) (m : Memory) (value : Option ℕ) → ((cell : ℕ) → value ≡ Some cell → Contains m.cells cell)
    → All (IsTuple (core_heap p m) 1) (one_tuple value)
one-fits p m None inside = All-nil (IsTuple (core_heap p m) 1)
one-fits p m (Some cell) inside =
    All-cons (IsTuple (core_heap p m) 1) (cell ∷ []) []
    (refl, All-cons (Contains m.cells) cell [] (inside cell refl) (All-nil (Contains m.cells)))
    (All-nil (IsTuple (core_heap p m) 1))

pair-fits : (p : SourceForm) (m : Memory) (value : Option ℕ) (cell : ℕ) → Contains m.cells cell
    → ((to : ℕ) → value ≡ Some to → Contains m.cells to) → (tuple : List ℕ) → Contains (pair_from cell value) tuple
    → IsTuple (core_heap p m) 2 tuple
pair-fits p m None cell is_cell inside tuple at = absurd (Contains-none tuple at)
pair-fits p m (Some to) cell is_cell inside tuple at =
    ⊎_elim
    (λ e. subst (IsTuple (core_heap p m) 2) e
    (refl, All-cons (Contains m.cells) cell (to ∷ []) is_cell (All-cons (Contains m.cells) to [] (inside to refl) (All-nil (Contains m.cells)))))
    (λ none. absurd (Contains-none tuple none))
    (Contains-cases (cell ∷ to ∷ []) tuple [] at)

core-fits : (p : SourceForm) (m : Memory) → IsMemory p m → (q : ℕ) (d : PredForm) → PredAt p q d
    → All (IsTuple (core_heap p m) d.arity) (extent (core_heap p m) q)
core-fits p m is q d (of_variable declared name among e) =
    let Fit : PredForm → Type 0 = λ c. All (IsTuple (core_heap p m) c.arity) (extent (core_heap p m) q)
    in subst Fit (sym e) (subst (All (IsTuple (core_heap p m) 1)) (sym (variable-extent p m q declared))
    (one-fits p m (m.variable q) (λ cell there. is.variables q cell declared there)))
core-fits p m is q d (of_field f declared number name among e) =
    let Fit : PredForm → Type 0 = λ c. All (IsTuple (core_heap p m) c.arity) (extent (core_heap p m) q)
    in let At : ℕ → Type 0 = λ n. All (IsTuple (core_heap p m) 2) (extent (core_heap p m) n)
    in let Of : ℕ → List (List ℕ) = λ c. pair_from c (m.field f c)
    in subst Fit (sym e) (subst At (sym number) (subst (All (IsTuple (core_heap p m) 2)) (sym (field-extent p m f declared))
    (All-from_contains (IsTuple (core_heap p m) 2) (flat_map Of m.cells)
    (λ tuple at. let from = Contains-flat_map_back Of m.cells tuple at
    in pair-fits p m (m.field f from.0) from.0 from.1 (λ to there. is.fields f from.0 to declared from.1 there) tuple from.2))))
core-fits p m is q d (of_reach f x f_declared x_declared behind e) =
    All-from_contains (IsTuple (core_heap p m) d.arity) (extent (core_heap p m) q) (λ tuple at. absurd (reach-empty p m q behind tuple at))

core-is_heap : (p : SourceForm) (m : Memory) → IsMemory p m → IsHeap (compiled p) (core_heap p m)
core-is_heap p m is = record {
  individuals_differ = is.cells_differ;
  one_extent_each = omega (
    arith,
    length-append (variable_extents p m) (field_extents p m ++ reach_extents p),
    length-append (field_extents p m) (reach_extents p),
    variables-long p m,
    fields-long p m,
    length-replicate {A = List (List ℕ)} (length (reach_preds p)) [],
    length-append (map variable_pred p.variables) (map field_pred p.fields ++ reach_preds p),
    length-append (map field_pred p.fields) (reach_preds p),
    length-map p.variables variable_pred,
    length-map p.fields field_pred,
  );
  tuples_fit = λ q d found. core-fits p m is q d (pred-at p q d found);
  no_mark = refl;
}

pub memories_have_heaps : AtLeastOneConcrete → MemoriesHaveHeaps
memories_have_heaps concrete p valid small m is =
    let made = concrete (compiled p) (compiled_is_valid p valid small) (core_heap p m) (core-is_heap p m is)
    in let same : SameCore (compiled p) (core_heap p m) made.0 = made.3
    in (
      made.0,
      record {
        is_heap = made.1;
        individuals = λ u. ((same.individuals u).1, (same.individuals u).0);
        variables = λ x cell declared.
            let found = variable-found p x declared
            in let core = same.core x (variable_pred found.0) found.1 refl (cell ∷ [])
            in let there = core-variable p m x cell declared
            in (λ t. there.0 (core.1 t), λ e. core.0 (there.1 e));
        fields = λ f cell to declared is_cell.
            let found = field-found p f declared
            in let core = same.core (field_number p f) (field_pred found.0) found.1 refl (cell ∷ to ∷ [])
            in let there = core-field p m f cell to declared is_cell
            in (λ t. there.0 (core.1 t), λ e. core.0 (there.1 e));
        concrete = made.2;
      },
    )

-- ---- steps keep memories

assigned-stays : (p : SourceForm) (m n : Memory) (x : ℕ) (value : Option ℕ) → IsMemory p m
    → ((cell : ℕ) → value ≡ Some cell → Contains m.cells cell) → Assigns x value m n → IsMemory p n
assigned-stays p m n x value is inside assigns = record {
  cells_differ = subst (AllPairs ◌≢◌) (sym assigns.cells) is.cells_differ;
  variables = λ y cell declared there. here cell (which y cell declared there (cases_eq y x));
  fields = λ f cell to declared at leads.
      let was : Contains m.cells cell = before cell at
      in here to (is.fields f cell to declared was (sym (assigns.fields f cell was) ∙ leads));
}
  where
    here : (u : ℕ) → Contains m.cells u → Contains n.cells u
    here u at = let In : List ℕ → Type 0 = λ us. Contains us u in subst In (sym assigns.cells) at

    before : (u : ℕ) → Contains n.cells u → Contains m.cells u
    before u at = let In : List ℕ → Type 0 = λ us. Contains us u in subst In assigns.cells at

    which : (y cell : ℕ) → IsVariableOf p y → n.variable y ≡ Some cell → (y ≡ x) ⊎ (y ≡ x → ⊥) → Contains m.cells cell
    which y cell declared there (inl e) =
        let Has : ℕ → Type 0 = λ z. n.variable z ≡ Some cell in inside cell (sym assigns.assigned ∙ subst Has e there)
    which y cell declared there (inr ne) = is.variables y cell declared (sym (assigns.other_variables y ne) ∙ there)

allocated-stays : (p : SourceForm) (m n : Memory) (x new : ℕ) → IsMemory p m → Allocates x new m n → IsMemory p n
allocated-stays p m n x new is allocates = record {
  cells_differ = subst (AllPairs ◌≢◌) (sym allocates.cells)
      (pairs-append ◌≢◌ m.cells (new ∷ []) is.cells_differ (AllPairs-cons ◌≢◌ new [] (All-nil (λ u. new ≢ u)) (pairs-nil ◌≢◌))
      (λ u w at_u at_w e. apart u w at_u e (Contains-cases new w [] at_w)));
  variables = λ y cell declared there. which y cell declared there (cases_eq y x);
  fields = λ f cell to declared at leads. old_or_new f cell to declared leads (pushed-cases m.cells new cell (before cell at));
}
  where
    apart : (u w : ℕ) → Contains m.cells u → u ≡ w → (new ≡ w) ⊎ Contains [] w → ⊥
    apart u w at e (inl is_new) = let In : ℕ → Type 0 = λ c. Contains m.cells c in allocates.wasnt_there (subst In (e ∙ sym is_new) at)
    apart u w at e (inr none) = Contains-none w none

    here : (u : ℕ) → Contains (m.cells ++ new ∷ []) u → Contains n.cells u
    here u at = let In : List ℕ → Type 0 = λ us. Contains us u in subst In (sym allocates.cells) at

    before : (u : ℕ) → Contains n.cells u → Contains (m.cells ++ new ∷ []) u
    before u at = let In : List ℕ → Type 0 = λ us. Contains us u in subst In allocates.cells at

    which : (y cell : ℕ) → IsVariableOf p y → n.variable y ≡ Some cell → (y ≡ x) ⊎ (y ≡ x → ⊥) → Contains n.cells cell
    which y cell declared there (inl e) =
        let Has : ℕ → Type 0 = λ z. n.variable z ≡ Some cell
        in let same : new ≡ cell = cc (sym allocates.assigned ∙ subst Has e there)
        in here cell (pushed-last m.cells new cell (sym same))
    which y cell declared there (inr ne) =
        here cell (pushed-old m.cells new cell (is.variables y cell declared (sym (allocates.other_variables y ne) ∙ there)))

    old_or_new : (f cell to : ℕ) → IsFieldOf p f → n.field f cell ≡ Some to → Contains m.cells cell ⊎ (cell ≡ new) → Contains n.cells to
    old_or_new f cell to declared leads (inl was) =
        here to (pushed-old m.cells new to (is.fields f cell to declared was (sym (allocates.old_fields f cell was) ∙ leads)))
    old_or_new f cell to declared leads (inr e) =
        let Leads : ℕ → Type 0 = λ c. n.field f c ≡ Some to in absurd (cc (sym (allocates.null_fields f) ∙ subst Leads e leads))

linked-stays : (p : SourceForm) (m n : Memory) (f cell : ℕ) (value : Option ℕ) → IsMemory p m
    → ((to : ℕ) → value ≡ Some to → Contains m.cells to) → Links f cell value m n → IsMemory p n
linked-stays p m n f cell value is inside links = record {
  cells_differ = subst (AllPairs ◌≢◌) (sym links.cells) is.cells_differ;
  variables = λ y c declared there. here c (is.variables y c declared (sym (links.variables y) ∙ there));
  fields = λ g c to declared at leads. here to (which g c to declared (before c at) leads (cases_eq g f) (cases_eq c cell));
}
  where
    here : (u : ℕ) → Contains m.cells u → Contains n.cells u
    here u at = let In : List ℕ → Type 0 = λ us. Contains us u in subst In (sym links.cells) at

    before : (u : ℕ) → Contains n.cells u → Contains m.cells u
    before u at = let In : List ℕ → Type 0 = λ us. Contains us u in subst In links.cells at

    which : (g c to : ℕ) → IsFieldOf p g → Contains m.cells c → n.field g c ≡ Some to → (g ≡ f) ⊎ (g ≡ f → ⊥) → (c ≡ cell) ⊎ (c ≡ cell → ⊥)
        → Contains m.cells to
    which g c to declared was leads (inr ne) either = is.fields g c to declared was (sym (links.other_fields g ne c was) ∙ leads)
    which g c to declared was leads (inl e) (inl same) =
        let Leads : ℕ → Type 0 = λ u. n.field u c ≡ Some to
        in let Of : ℕ → Type 0 = λ u. n.field f u ≡ Some to
        in inside to (sym links.linked ∙ subst Of same (subst Leads e leads))
    which g c to declared was leads (inl e) (inr ne) =
        let Leads : ℕ → Type 0 = λ u. n.field u c ≡ Some to
        in let Declared : ℕ → Type 0 = λ u. IsFieldOf p u
        in is.fields f c to (subst Declared e declared) was (sym (links.other_cells c ne was) ∙ subst Leads e leads)

does-stay : (p : SourceForm) (m n : Memory) (a : AssignForm) → IsAssignOf p a → IsMemory p m → Does a m n → IsMemory p n
does-stay p m n (ANull x) declared is does = assigned-stays p m n x None is (λ cell e. absurd (cc e)) does
does-stay p m n (ANew x) declared is does = allocated-stays p m n x does.0 is does.1
does-stay p m n (ACopy x y) declared is does =
    assigned-stays p m n x (m.variable y) is (λ cell e. is.variables y cell declared.1 e) does
does-stay p m n (ALoad x y f) declared is does =
    let at : Contains m.cells does.0 = is.variables y does.0 declared.1 does.1
    in assigned-stays p m n x (m.field f does.0) is (λ cell e. is.fields f does.0 cell declared.2 at e) does.2
does-stay p m n (AStore x f y) declared is does =
    linked-stays p m n f does.0 (m.variable y) is (λ to e. is.variables y to declared.2 e) does.2
does-stay p m n (AClear x f) declared is does = linked-stays p m n f does.0 None is (λ to e. absurd (cc e)) does.2

performs-stay : (p : SourceForm) (number : ℕ) (s : Stmt) (behind : List Numbered) (m : Memory) (t : State)
    → Fits p (record { number = number; statement = s } ∷ behind) → IsMemory p m → Performs number s behind m t → IsMemory p t.memory
performs-stay p number (SAssign a) behind m t fits is performs = does-stay p m t.memory a fits.declared.0 is performs.0
performs-stay p number (SIf test then_ else_) behind m t fits is performs = subst (IsMemory p) (sym performs.0) is
performs-stay p number (SWhile test body) behind m t fits is performs = subst (IsMemory p) (sym performs.0) is

steps-stay : (p : SourceForm) (left : List Numbered) (m : Memory) (t : State) → Fits p left → IsMemory p m → StepsFrom left m t → IsMemory p t.memory
steps-stay p [] m t fits is step = absurd step
steps-stay p (n ∷ behind) m t fits is step = performs-stay p n.number n.statement behind m t fits is step

all-stay : (p : SourceForm) (s : State) (later : List State) → Fits p s.left → GoThrough s later → IsMemory p s.memory
    → All (λ (t : State). IsMemory p t.memory) later
all-stay p s [] fits goes is = All-nil (λ (t : State). IsMemory p t.memory)
all-stay p s (t ∷ later) fits goes is =
    let next : IsMemory p t.memory = steps-stay p s.left s.memory t fits is goes.0
    in All-cons (λ (u : State). IsMemory p u.memory) t later next
    (all-stay p t later (takes-first p s.left s.memory t fits goes.0).fits goes.1 next)

pub memories_stay : MemoriesStay
memories_stay p valid s later start goes is = all-stay p s later (subst (Fits p) (sym start) (fits-start p valid)) goes is
