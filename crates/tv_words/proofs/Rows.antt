-- What the rows of `clap` tell of an argument, and how a use of one changes it.
use Rattle.std.proofs.Common.{◌≡◌, ◌∙◌, ℕ, cond, true, false, refl, ap, subst, List, [], ◌∷◌, ◌++◌, Option}
use Rattle.std.proofs.Common.{Some, None, inl, inr}
use Rattle.std.specs.Prelude.{codes, find, unwrap_or, option_map}
use Rattle.std.specs.Option.{option_map_or}
use Rattle.std.specs.Str.{bytes_eq}
use Rattle.std.proofs.lemmas.Bool.{cases_Bool, or_parts}
use Rattle.tv_lemmas.proofs.Texts.{same_text, text_itself}
use Rattle.clap.specs.Walk.{Row, Rule, all_of, at_row, count_of, default_rows, first_as_count, has_row}
use Rattle.clap.specs.Walk.{reading_by, stronger, with_count, with_default, with_values, without}
use Rattle.clap.specs.Matches.{count_text}
use Rattle.clap.specs.declared.builder.value_parser.Reading.{Reading}
use Rattle.clap.specs.declared.parser.matches.ValueSource.{ValueSource}
use Rattle.clap.specs.declared.parser.matches.ValueSource.TheVariants.{DefaultValue}

-- the row of an argument
abbrev pub row_for : List ℕ → List Row → Option Row
row_for id rows = find (λ r. bytes_eq r.id id) rows

-- the texts of an argument
abbrev pub texts_of : List ℕ → List Row → List (List ℕ)
texts_of id rows = unwrap_or (all_of id rows) []

-- ---- one row changed, or one more row

module _ (id other : List ℕ) (ne : bytes_eq id other ≡ false) where
  differs : (r : Row) → bytes_eq r.id id ≡ true → bytes_eq r.id other ≡ false
  differs r e = ap (λ x. bytes_eq x other) (same_text r.id id e) ∙ ne

  pub other_changed : (f : Row → Row) (missing : Row) → ((r : Row) → (f r).id ≡ r.id) → missing.id ≡ id
      → (rows : List Row)
      → row_for other (at_row id (λ r. f r ∷ []) (missing ∷ []) rows) ≡ row_for other rows
  other_changed f missing keeps is [] = rw (is, ne) refl
  other_changed f missing keeps is (r ∷ rs) = elim (cases_Bool (bytes_eq r.id id)) [
    | inl e ↦ let d = differs r e in rw (e, keeps, d) refl
    | inr e ↦ rw e (ap (λ found. cond (bytes_eq r.id other) (Some r) found)
        (other_changed f missing keeps is rs))
  ]

  pub other_removed : (rows : List Row) → row_for other (without id rows) ≡ row_for other rows
  other_removed [] = refl
  other_removed (r ∷ rs) = elim (cases_Bool (bytes_eq r.id id)) [
    | inl e ↦ let d = differs r e in rw (e, d) refl
    | inr e ↦ rw e (ap (λ found. cond (bytes_eq r.id other) (Some r) found) (other_removed rs))
  ]

pub same_changed : (id : List ℕ) (f : Row → Row) (missing : Row) → ((r : Row) → (f r).id ≡ r.id) → missing.id
    ≡ id → (rows : List Row)
    → row_for id (at_row id (λ r. f r ∷ []) (missing ∷ []) rows)
    ≡ Some (option_map_or f (row_for id rows) missing)
same_changed id f missing keeps is [] = rw (is, text_itself) refl
same_changed id f missing keeps is (r ∷ rs) = elim (cases_Bool (bytes_eq r.id id)) [
  | inl e ↦ rw (e, keeps, e) refl
  | inr e ↦ rw (e, e) (same_changed id f missing keeps is rs)
]

-- ---- what the texts and the counts are then

abbrev texts_in : Option Row → List (List ℕ)
texts_in found = unwrap_or (option_map (λ (r : Row). r.values) found) []

abbrev count_in : Option Row → ℕ
count_in found = option_map_or (λ (r : Row). unwrap_or r.count (first_as_count r.values)) found 0

-- these values join those of the argument
pub texts_grow : (id : List ℕ) (how : Reading) (s : ValueSource) (values : List (List ℕ)) (rows : List Row)
    → texts_of id (with_values id how s values rows) ≡ texts_of id rows ++ values
texts_grow id how s values rows = ap texts_in (same_changed id _ _ (λ r. refl) refl rows)
    ∙ go (row_for id rows)
  where
    go : (found : Option Row)
        → texts_in
        (Some (option_map_or (λ (r : Row). record r {
          values = r.values ++ values;
          source =
              Some (stronger r.source s);
        }) found
        (record { id = id; values = values; count = None; source = Some s; reading = how })))
        ≡ texts_in found ++ values
    go None = refl
    go (Some r) = refl

pub texts_stay : (id other : List ℕ) → bytes_eq id other ≡ false → (how : Reading) (s : ValueSource)
    (values : List (List ℕ)) (rows : List Row)
    → texts_of other (with_values id how s values rows) ≡ texts_of other rows
texts_stay id other ne how s values rows = ap texts_in (other_changed id other ne _ _ (λ r. refl) refl rows)

pub count_stays : (id other : List ℕ) → bytes_eq id other ≡ false → (how : Reading) (s : ValueSource)
    (values : List (List ℕ)) (rows : List Row)
    → count_of other (with_values id how s values rows) ≡ count_of other rows
count_stays id other ne how s values rows = ap count_in (other_changed id other ne _ _ (λ r. refl) refl rows)

-- the argument is counted anew
pub counted_as : (id : List ℕ) (how : Reading) (s : ValueSource) (n : ℕ) (rows : List Row)
    → count_of id (with_count id how s n (without id rows)) ≡ n
counted_as id how s n rows = ap count_in (same_changed id _ _ (λ r. refl) refl (without id rows))
    ∙ go (row_for id (without id rows))
  where
    go : (found : Option Row) → count_in (Some (option_map_or (λ (r : Row). record r {
      values = r.values ++ count_text n ∷ [];
      count = Some n;
      source = Some (stronger r.source s);
    }) found (record {
      id = id;
      values = count_text n ∷ [];
      count = Some n;
      source = Some s;
      reading =
          how;
    }))) ≡ n
    go None = refl
    go (Some r) = refl

pub other_counted : (id other : List ℕ) → bytes_eq id other ≡ false → (how : Reading) (s : ValueSource)
    (n : ℕ) (rows : List Row)
    → row_for other (with_count id how s n (without id rows)) ≡ row_for other rows
other_counted id other ne how s n rows = other_changed id other ne _ _ (λ r. refl) refl (without id rows)
    ∙ other_removed id other ne rows

pub texts_not_counted : (id other : List ℕ) → bytes_eq id other ≡ false → (how : Reading) (s : ValueSource)
    (n : ℕ) (rows : List Row)
    → texts_of other (with_count id how s n (without id rows)) ≡ texts_of other rows
texts_not_counted id other ne how s n rows = ap texts_in (other_counted id other ne how s n rows)

pub count_not_counted : (id other : List ℕ) → bytes_eq id other ≡ false → (how : Reading) (s : ValueSource)
    (n : ℕ) (rows : List Row)
    → count_of other (with_count id how s n (without id rows)) ≡ count_of other rows
count_not_counted id other ne how s n rows = ap count_in (other_counted id other ne how s n rows)

-- ---- defaults

no_row : (id : List ℕ) (rows : List Row) → has_row id rows ≡ false → row_for id rows ≡ None
no_row id [] e = refl
no_row id (r ∷ rs) e = let parts = or_parts (bytes_eq r.id id) (has_row id rs) e in
    rw parts.0 (no_row id rs parts.1)

-- an argument with no default stays without one
pub no_default : (a : Rule) → a.defaults ≡ [] → (rows : List Row) → with_default rows a ≡ rows
no_default a e rows = elim (cases_Bool (has_row a.id rows)) [
  | inl has ↦ rw has refl
  | inr none ↦ rw (none, e) refl
]

-- the default `0` of a count is no use of it
pub zero_default : (a : Rule) → a.defaults ≡ codes "0" ∷ [] → (id : List ℕ) (rows : List Row)
    → count_of id (with_default rows a) ≡ count_of id rows
zero_default a e id rows = elim (cases_Bool (has_row a.id rows)) [
  | inl has ↦ rw has refl
  | inr none ↦ rw (none, e) (elim (cases_Bool (bytes_eq a.id id)) [
    | inl same ↦ subst (λ x. count_of x (with_values a.id (reading_by a) DefaultValue (codes "0" ∷ []) rows)
        ≡ count_of x rows) (same_text a.id id same)
        (ap count_in (same_changed a.id _ _ (λ r. refl) refl rows) ∙ rw (no_row a.id rows none) refl)
    | inr ne ↦ count_stays a.id id ne (reading_by a) DefaultValue (codes "0" ∷ []) rows
  ])
]

pub other_default : (a : Rule) (other : List ℕ) → bytes_eq a.id other ≡ false → (rows : List Row)
    → texts_of other (with_default rows a) ≡ texts_of other rows
other_default a other ne rows = elim (cases_Bool (has_row a.id rows)) [
  | inl has ↦ rw has refl
  | inr none ↦ rw none (go a.defaults)
]
  where
    go : (values : List (List ℕ)) → texts_of other (default_rows a.id (reading_by a) values rows)
        ≡ texts_of other rows
    go [] = refl
    go (v ∷ vs) = texts_stay a.id other ne (reading_by a) DefaultValue (v ∷ vs) rows
