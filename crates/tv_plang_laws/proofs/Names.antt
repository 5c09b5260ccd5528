-- Names of predicates and nodes of a compiled program.
use Rattle.std.proofs.Common.{ℕ, ◌≡◌, ◌≢◌, ◌<◌, ◌+◌, ◌%◌, ◌^◌, ◌⊎◌, ◌∙◌, List, [], ◌∷◌, ◌++◌, length, map}
use Rattle.std.proofs.Common.{eqb, inl, inr, ⊎_elim, refl, sym, ap, subst, arith, append_assoc, All, AllPairs}
use Rattle.std.proofs.Common.{Contains, eq-eqb, ne_eqb, get_or}
use Rattle.std.specs.Prelude.{codes, decimal}
use Rattle.std.proofs.lemmas.Bool.{cases_eq, cases_order, cond-true, cond-false}
use Rattle.std.proofs.lemmas.Fmt.{decimal_by_steps, decimal_injective}
use Rattle.std.proofs.lemmas.List.{append_cancel_right}
use Rattle.std.proofs.lemmas.List.Elements.{All-nil, All-cons, All-append, All-contains, Contains-get_or}
use Rattle.std.proofs.lemmas.List.Elements.{Contains-append_cases, Contains-append_left}
use Rattle.std.proofs.lemmas.List.Elements.{Contains-append_right}
use Rattle.std.proofs.lemmas.Option.{unwrap_or-slice_get}
use Rattle.tv_model.specs.Program.{PredForm}
use Rattle.tv_model.specs.Spelling.{IsDigit, IsIdentifier, IsLetter, IsName, IsWord, reserved_words}
use Rattle.tv_model.proofs.Lists.{Contains-cases, Contains-here, Contains-flat_map_back, Contains-map_back}
use Rattle.tv_model.proofs.Lists.{Contains-none, Contains-there}
use Rattle.tv_source.specs.Forms.{SourceForm}
use Rattle.tv_source.specs.Valid.{IsDeclarable, IsFieldOf, IsSource, IsVariableOf}
use Rattle.tv_plang_laws.specs.Compiled.{compiled_preds, field_pred, name_in, node_name, numbers_below}
use Rattle.tv_plang_laws.specs.Compiled.{reach_name, reach_pred, reach_preds, variable_pred}
use Rattle.tv_plang_laws.specs.Positions.{last}
use Rattle.tv_plang_laws.proofs.Pairs.{pairs-across, pairs-append, pairs-behind, pairs-flat_map, pairs-front}
use Rattle.tv_plang_laws.proofs.Pairs.{pairs-map, pairs-weaker, range-differ}
use Rattle.tv_plang_laws.proofs.Predicates.{range-below}

pub heads : (c d : ℕ) (xs ys : List ℕ) → c ∷ xs ≡ d ∷ ys → c ≡ d
heads c d xs ys e = cc e

-- ---- identifiers

abbrev pub IsWordByte : ℕ → Type 0
IsWordByte b = IsLetter b ⊎ IsDigit b ⊎ (b ≡ 95)

-- a mark stands in no identifier
pub no-mark : (name : List ℕ) (b : ℕ) → IsIdentifier name → ¬ IsWordByte b → ¬ Contains name b
no-mark name b is mark at = mark (All-contains IsWordByte name b is.0.1 at)

comma : ¬ IsWordByte 44
comma (inl (inl at)) = omega (arith, at.0)
comma (inl (inr at)) = omega (arith, at.0)
comma (inr (inl at)) = omega (arith, at.0)
comma (inr (inr e)) = omega (arith, e)

bracket : ¬ IsWordByte 91
bracket (inl (inl at)) = omega (arith, at.1)
bracket (inl (inr at)) = omega (arith, at.0)
bracket (inr (inl at)) = omega (arith, at.1)
bracket (inr (inr e)) = omega (arith, e)

-- ---- declared names

name-contained : (names : List (List ℕ)) (i : ℕ) → i < length names → Contains names (name_in names i)
name-contained names i below =
    let Of : List ℕ → Type 0 = λ name. Contains names name
    in subst Of (sym (unwrap_or-slice_get names i [])) (Contains-get_or names i [] below)

pub declared-name : (p : SourceForm) → IsSource p → (name : List ℕ) → Contains p.variables name ⊎ Contains p.fields name → IsDeclarable name
declared-name p valid name (inl at) =
    All-contains IsDeclarable (p.variables ++ p.fields) name valid.names (Contains-append_left p.variables p.fields name at)
declared-name p valid name (inr at) =
    All-contains IsDeclarable (p.variables ++ p.fields) name valid.names (Contains-append_right p.variables p.fields name at)

pub variable-declarable : (p : SourceForm) → IsSource p → (x : ℕ) → IsVariableOf p x → IsDeclarable (name_in p.variables x)
variable-declarable p valid x declared =
    All-contains IsDeclarable (p.variables ++ p.fields) (name_in p.variables x) valid.names
    (Contains-append_left p.variables p.fields (name_in p.variables x) (name-contained p.variables x declared))

pub field-declarable : (p : SourceForm) → IsSource p → (f : ℕ) → IsFieldOf p f → IsDeclarable (name_in p.fields f)
field-declarable p valid f declared =
    All-contains IsDeclarable (p.variables ++ p.fields) (name_in p.fields f) valid.names
    (Contains-append_right p.variables p.fields (name_in p.fields f) (name-contained p.fields f declared))

-- ---- names of what is reached

is-r : IsIdentifier (codes "r")
is-r = (
  (omega arith, All-cons IsWordByte 114 [] (inl (inr (omega arith, omega arith))) (All-nil IsWordByte)),
  (λ digit. omega (arith, digit.1)),
  unreserved,
)
  where
    other : (c : ℕ) (xs : List ℕ) → c < 114 → c ∷ xs ≡ codes "r" → ⊥
    other c xs less e = let same : c ≡ 114 = heads c 114 xs [] e in omega (arith, less, same)

    unreserved : ¬ Contains reserved_words (codes "r")
    unreserved at =
        ⊎_elim (λ e. other 69 [] (omega arith) e)
        (λ at. ⊎_elim (λ e. other 65 [] (omega arith) e)
        (λ at. ⊎_elim (λ e. other 84 (codes "C") (omega arith) e)
        (λ at. ⊎_elim (λ e. other 102 (codes "oreach") (omega arith) e)
        (λ at. ⊎_elim (λ e. other 105 (codes "n") (omega arith) e) (λ at. Contains-none (codes "r") at)
        (Contains-cases (codes "in") (codes "r") [] at))
        (Contains-cases (codes "foreach") (codes "r") (codes "in" ∷ []) at))
        (Contains-cases (codes "TC") (codes "r") (codes "foreach" ∷ codes "in" ∷ []) at))
        (Contains-cases (codes "A") (codes "r") (codes "TC" ∷ codes "foreach" ∷ codes "in" ∷ []) at))
        (Contains-cases (codes "E") (codes "r") (codes "A" ∷ codes "TC" ∷ codes "foreach" ∷ codes "in" ∷ []) at)

pub reach-is_name : (p : SourceForm) → IsSource p → (f x : ℕ) → IsFieldOf p f → IsVariableOf p x → IsName (reach_name p f x)
reach-is_name p valid f x f_declared x_declared =
    let field : List ℕ = name_in p.fields f
    in let variable : List ℕ = name_in p.variables x
    in inr (
      codes "r",
      field ∷ variable ∷ [],
      is-r,
      omega arith,
      All-cons IsIdentifier field (variable ∷ []) (field-declarable p valid f f_declared).0
          (All-cons IsIdentifier variable [] (variable-declarable p valid x x_declared).0 (All-nil IsIdentifier)),
      ap (λ (rest : List ℕ). codes "r[" ++ rest) (sym (append_assoc field (44 ∷ variable) (codes "]"))),
    )

pub reach-not_sm : (p : SourceForm) (f x : ℕ) → reach_name p f x ≢ codes "sm"
reach-not_sm p f x e =
    let first : 114 ≡ 115
    = heads 114 115 (91 ∷ (name_in p.fields f ++ (codes "," ++ (name_in p.variables x ++ codes "]")))) (codes "m") e
    in omega (arith, first)

pub reach-not_new : (p : SourceForm) (f x : ℕ) → reach_name p f x ≢ codes "isNew"
reach-not_new p f x e =
    let first : 114 ≡ 105
    = heads 114 105 (91 ∷ (name_in p.fields f ++ (codes "," ++ (name_in p.variables x ++ codes "]")))) (codes "sNew") e
    in omega (arith, first)

-- two lists in front of a mark that stands in neither are one where both with it are
cut-at : (c : ℕ) (xs ys us ws : List ℕ) → ¬ Contains xs c → ¬ Contains ys c → xs ++ c ∷ us ≡ ys ++ c ∷ ws → (xs ≡ ys) × (us ≡ ws)
cut-at c [] [] us ws no_x no_y e = (refl, cc e)
cut-at c [] (y ∷ ys) us ws no_x no_y e =
    let same : c ≡ y = cc e in let In : ℕ → Type 0 = λ b. Contains (y ∷ ys) b in absurd (no_y (subst In (sym same) (Contains-here y ys)))
cut-at c (x ∷ xs) [] us ws no_x no_y e =
    let same : x ≡ c = cc e in let In : ℕ → Type 0 = λ b. Contains (x ∷ xs) b in absurd (no_x (subst In same (Contains-here x xs)))
cut-at c (x ∷ xs) (y ∷ ys) us ws no_x no_y e =
    let heads : x ≡ y = cc e
    in let tails : xs ++ c ∷ us ≡ ys ++ c ∷ ws = cc e
    in let rest = cut-at c xs ys us ws (λ at. no_x (Contains-there x c xs at)) (λ at. no_y (Contains-there y c ys at)) tails
    in (cc (heads, rest.0), rest.1)

-- what is reached along a field from a variable has a name that tells both
pub reach-apart : (p : SourceForm) → IsSource p → (f x g y : ℕ) → IsFieldOf p f → IsVariableOf p x → IsFieldOf p g → IsVariableOf p y
    → reach_name p f x ≡ reach_name p g y → (name_in p.fields f ≡ name_in p.fields g) × (name_in p.variables x ≡ name_in p.variables y)
reach-apart p valid f x g y f_declared x_declared g_declared y_declared e =
    let field : List ℕ = name_in p.fields f
    in let other : List ℕ = name_in p.fields g
    in let behind : field ++ 44 ∷ (name_in p.variables x ++ codes "]") ≡ other ++ 44 ∷ (name_in p.variables y ++ codes "]") = cc e
    in let cut = cut-at 44 field other (name_in p.variables x ++ codes "]") (name_in p.variables y ++ codes "]")
    (no-mark field 44 (field-declarable p valid f f_declared).0 comma) (no-mark other 44 (field-declarable p valid g g_declared).0 comma) behind
    in (cut.0, append_cancel_right (name_in p.variables x) (name_in p.variables y) (codes "]") cut.1)

-- different names stand at different places
pub name-place : (names : List (List ℕ)) → AllPairs ◌≢◌ names → (i j : ℕ) → i < length names → j < length names
    → name_in names i ≡ name_in names j → i ≡ j
name-place names differ i j i_below j_below e = go (cases_order i j)
  where
    same : get_or names i [] ≡ get_or names j []
    same = sym (unwrap_or-slice_get names i []) ∙ e ∙ unwrap_or-slice_get names j []

    go : (i ≡ j) ⊎ ((i < j) ⊎ (j < i)) → i ≡ j
    go (inl is) = is
    go (inr (inl lt)) = absurd (differ i j [] lt j_below same)
    go (inr (inr lt)) = absurd (differ j i [] lt i_below (sym same))

-- ---- nodes

digits-digits : (n : ℕ) → n < 2 ^ 64 → All IsWordByte (decimal n)
digits-digits n below =
    decimal_by_steps (λ m ds. All IsWordByte ds)
    (λ m lt. All-cons IsWordByte (48 + m) [] (inr (inl (omega arith, omega (arith, lt)))) (All-nil IsWordByte))
    (λ m ds le rest. All-append IsWordByte ds ((48 + m % 10) ∷ []) rest
    (All-cons IsWordByte (48 + m % 10) [] (inr (inl (omega arith, omega arith))) (All-nil IsWordByte)))
    n below

-- a node's name is a word, and tells its position
pub node-is_word : (p : SourceForm) (k : ℕ) → k < 2 ^ 64 → IsWord (node_name (last p) k)
node-is_word p k below = go (cases_eq k (last p))
  where
    exit : IsWord (codes "Exit")
    exit = (
      omega arith,
      All-cons IsWordByte 69 (codes "xit") (inl (inl (omega arith, omega arith)))
          (All-cons IsWordByte 120 (codes "it") (inl (inr (omega arith, omega arith)))
          (All-cons IsWordByte 105 (codes "t") (inl (inr (omega arith, omega arith)))
          (All-cons IsWordByte 116 [] (inl (inr (omega arith, omega arith))) (All-nil IsWordByte)))),
    )

    go : (k ≡ last p) ⊎ (k ≡ last p → ⊥) → IsWord (node_name (last p) k)
    go (inl e) = subst IsWord (sym (cond-true (eqb k (last p)) (codes "Exit") (codes "S" ++ decimal k) (eq-eqb k (last p) e))) exit
    go (inr ne) =
        subst IsWord (sym (cond-false (eqb k (last p)) (codes "Exit") (codes "S" ++ decimal k) (ne_eqb k (last p) ne)))
        (omega arith, All-cons IsWordByte 83 (decimal k) (inl (inl (omega arith, omega arith))) (digits-digits k below))

pub node-apart : (p : SourceForm) (j k : ℕ) → j < 2 ^ 64 → k < 2 ^ 64 → node_name (last p) j ≡ node_name (last p) k → j ≡ k
node-apart p j k j_below k_below e = go (cases_eq j (last p)) (cases_eq k (last p))
  where
    at-exit : (i : ℕ) → i ≡ last p → node_name (last p) i ≡ codes "Exit"
    at-exit i is = cond-true (eqb i (last p)) (codes "Exit") (codes "S" ++ decimal i) (eq-eqb i (last p) is)

    elsewhere : (i : ℕ) → (i ≡ last p → ⊥) → node_name (last p) i ≡ 83 ∷ decimal i
    elsewhere i ne = cond-false (eqb i (last p)) (codes "Exit") (codes "S" ++ decimal i) (ne_eqb i (last p) ne)

    differ : (ds : List ℕ) → codes "Exit" ≡ 83 ∷ ds → ⊥
    differ ds same = let first : 69 ≡ 83 = heads 69 83 (codes "xit") ds same in omega (arith, first)

    go : (j ≡ last p) ⊎ (j ≡ last p → ⊥) → (k ≡ last p) ⊎ (k ≡ last p → ⊥) → j ≡ k
    go (inl is_j) (inl is_k) = is_j ∙ sym is_k
    go (inl is_j) (inr ne_k) = absurd (differ (decimal k) (sym (at-exit j is_j) ∙ e ∙ elsewhere k ne_k))
    go (inr ne_j) (inl is_k) = absurd (differ (decimal j) (sym (at-exit k is_k) ∙ sym e ∙ elsewhere j ne_j))
    go (inr ne_j) (inr ne_k) =
        let same : 83 ∷ decimal j ≡ 83 ∷ decimal k = sym (elsewhere j ne_j) ∙ e ∙ elsewhere k ne_k
        in decimal_injective j k j_below k_below (cc same)

-- ---- names of predicates differ

abbrev pub NamedApart : PredForm → PredForm → Type 0
NamedApart d e = d.name ≢ e.name

reaches-apart : (p : SourceForm) → IsSource p → AllPairs ◌≢◌ p.variables → AllPairs ◌≢◌ p.fields → AllPairs NamedApart (reach_preds p)
reaches-apart p valid variables_differ fields_differ =
    pairs-flat_map NamedApart ◌≢◌ (λ f. map (reach_pred p f) (numbers_below (length p.variables))) (numbers_below (length p.fields)) (range-differ 0 (length p.fields))
    (λ f at. pairs-map NamedApart (reach_pred p f) (numbers_below (length p.variables))
    (pairs-weaker ◌≢◌ (λ x y. reach_name p f x ≢ reach_name p f y) (numbers_below (length p.variables))
    (λ x y at_x at_y ne e. ne (name-place p.variables variables_differ x y (is-variable x at_x) (is-variable y at_y)
    (reach-apart p valid f x f y (is-field f at) (is-variable x at_x) (is-field f at) (is-variable y at_y) e).1))
    (range-differ 0 (length p.variables))))
    (λ f g at_f at_g ne d e at_d at_e. across f g at_f at_g ne d e
    (Contains-map_back (reach_pred p f) (numbers_below (length p.variables)) d at_d) (Contains-map_back (reach_pred p g) (numbers_below (length p.variables)) e at_e))
  where
    is-variable : (x : ℕ) → Contains (numbers_below (length p.variables)) x → IsVariableOf p x
    is-variable x at = omega (arith, range-below 0 (length p.variables) x at)

    is-field : (f : ℕ) → Contains (numbers_below (length p.fields)) f → IsFieldOf p f
    is-field f at = omega (arith, range-below 0 (length p.fields) f at)

    across : (f g : ℕ) → Contains (numbers_below (length p.fields)) f → Contains (numbers_below (length p.fields)) g → f ≢ g → (d e : PredForm)
        → (x : ℕ) × Contains (numbers_below (length p.variables)) x × (reach_pred p f x ≡ d) → (y : ℕ) × Contains (numbers_below (length p.variables)) y × (reach_pred p g y ≡ e)
        → NamedApart d e
    across f g at_f at_g ne d e (x, at_x, is_d) (y, at_y, is_e) same =
        let Name : PredForm → List ℕ = λ c. c.name
        in let names : reach_name p f x ≡ reach_name p g y = ap Name is_d ∙ same ∙ sym (ap Name is_e)
        in ne (name-place p.fields fields_differ f g (is-field f at_f) (is-field g at_g)
        (reach-apart p valid f x g y (is-field f at_f) (is-variable x at_x) (is-field g at_g) (is-variable y at_y) names).0)

-- an identifier has no bracket, and a name of what is reached has one
identifier-reach : (p : SourceForm) (f x : ℕ) (name : List ℕ) → IsIdentifier name → name ≢ reach_name p f x
identifier-reach p f x name is e =
    let In : List ℕ → Type 0 = λ bytes. Contains bytes 91
    in let rest : List ℕ = name_in p.fields f ++ (codes "," ++ (name_in p.variables x ++ codes "]"))
    in no-mark name 91 is bracket (subst In (sym e) (Contains-there 114 91 (91 ∷ rest) (Contains-here 91 rest)))

pub names-apart : (p : SourceForm) → IsSource p → AllPairs NamedApart (compiled_preds p)
names-apart p valid =
    pairs-append NamedApart (map variable_pred p.variables) (map field_pred p.fields ++ reach_preds p)
    (pairs-map NamedApart variable_pred p.variables variables_differ)
    (pairs-append NamedApart (map field_pred p.fields) (reach_preds p) (pairs-map NamedApart field_pred p.fields fields_differ)
    (reaches-apart p valid variables_differ fields_differ)
    (λ d e at_d at_e. field-reach d e (Contains-map_back field_pred p.fields d at_d) (reach-of e at_e)))
    (λ d e at_d at_e. variable-other d e (Contains-map_back variable_pred p.variables d at_d)
    (Contains-append_cases (map field_pred p.fields) (reach_preds p) e at_e))
  where
    variables_differ : AllPairs ◌≢◌ p.variables
    variables_differ = pairs-front ◌≢◌ p.variables p.fields valid.names_differ

    fields_differ : AllPairs ◌≢◌ p.fields
    fields_differ = pairs-behind ◌≢◌ p.variables p.fields valid.names_differ

    reach-of : (e : PredForm) → Contains (reach_preds p) e → (f x : ℕ) × (reach_pred p f x ≡ e)
    reach-of e at =
        let of_f = Contains-flat_map_back (λ f. map (reach_pred p f) (numbers_below (length p.variables))) (numbers_below (length p.fields)) e at
        in let of_x = Contains-map_back (reach_pred p of_f.0) (numbers_below (length p.variables)) e of_f.2
        in (of_f.0, of_x.0, of_x.2)

    from-reach : (name : List ℕ) (e : PredForm) → IsIdentifier name → (f x : ℕ) × (reach_pred p f x ≡ e) → name ≢ e.name
    from-reach name e is (f, x, of_e) same =
        let Name : PredForm → List ℕ = λ c. c.name in identifier-reach p f x name is (same ∙ sym (ap Name of_e))

    identifier : (name : List ℕ) → Contains (p.variables ++ p.fields) name → IsIdentifier name
    identifier name at = (All-contains IsDeclarable (p.variables ++ p.fields) name valid.names at).0

    field-reach : (d e : PredForm) → (name : List ℕ) × Contains p.fields name × (field_pred name ≡ d)
        → (f x : ℕ) × (reach_pred p f x ≡ e) → NamedApart d e
    field-reach d e (name, at, of_d) reach same =
        let Name : PredForm → List ℕ = λ c. c.name
        in from-reach name e (identifier name (Contains-append_right p.variables p.fields name at)) reach (ap Name of_d ∙ same)

    variable-other : (d e : PredForm) → (name : List ℕ) × Contains p.variables name × (variable_pred name ≡ d)
        → Contains (map field_pred p.fields) e ⊎ Contains (reach_preds p) e → NamedApart d e
    variable-other d e (name, at, of_d) (inl field) same =
        let of_e = Contains-map_back field_pred p.fields e field
        in let Name : PredForm → List ℕ = λ c. c.name
        in pairs-across ◌≢◌ p.variables p.fields valid.names_differ name of_e.0 at of_e.1 (ap Name of_d ∙ same ∙ sym (ap Name of_e.2))
    variable-other d e (name, at, of_d) (inr reach) same =
        let Name : PredForm → List ℕ = λ c. c.name
        in from-reach name e (identifier name (Contains-append_left p.variables p.fields name at)) (reach-of e reach) (ap Name of_d ∙ same)
