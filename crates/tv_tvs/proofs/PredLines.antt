-- The lines of predicates whose values are read off by rows.
use Rattle.std.proofs.Common.{ℕ, ◌≡◌, ◌<◌, List, [], ◌∷◌, ap, ◌∙◌, sym, arith, length}
use Rattle.std.specs.Prelude.{codes, slice_index_or}
use Rattle.std.proofs.lemmas.List.FromFn.{length-map-range_with_len, get_or-map-range_with_len}
use Rattle.tv_kleene.specs.declared.K3.{K3}
use Rattle.tv_kleene.specs.declared.K3.TheVariants.{No}
use Rattle.tv_structure_form.specs.StructureForm.{StructureForm, value_at}
use Rattle.tv_struct.specs.StructureRows.{unary_row, row_at, summary_row}
use Rattle.tv_tvs.specs.Canonical.{content_of, if_some, line_text, summaries_text, summary_value}
use Rattle.tv_tvs.specs.Rows.{single_items}
use Rattle.tv_tvs.proofs.RowTexts.{no_singles, single_items_of}

-- the values of a row of pairs
pub pair_value : (s : StructureForm) (p u w : ℕ) → w < s.size
    → slice_index_or (row_at s p u) w No ≡ value_at s p (u ∷ w ∷ [])
pair_value s p u w lt =
    get_or-map-range_with_len (λ v. value_at s p (u ∷ v ∷ [])) 0 s.size w w No (omega (arith, lt)) (omega arith)

pub row_length : (s : StructureForm) (p u : ℕ) → length (row_at s p u) ≡ s.size
row_length s p u = length-map-range_with_len (λ w. value_at s p (u ∷ w ∷ [])) 0 s.size

-- and of a unary predicate
pub single_value : (s : StructureForm) (p u : ℕ) → u < s.size → slice_index_or (unary_row s p) u No ≡ value_at s p (u ∷ [])
single_value s p u lt =
    get_or-map-range_with_len (λ v. value_at s p (v ∷ [])) 0 s.size u u No (omega (arith, lt)) (omega arith)

pub singles_length : (s : StructureForm) (p : ℕ) → length (unary_row s p) ≡ s.size
singles_length s p = length-map-range_with_len (λ u. value_at s p (u ∷ [])) 0 s.size

-- the line of a unary predicate
pub unary_line : (s : StructureForm) (p arity : ℕ) (text name : List ℕ) (row : List K3) → text ≡ name → arity ≡ 1
    → row ≡ unary_row s p
    → line_text text (if_some (single_items row)) ≡ line_text name (content_of s.size arity (value_at s p))
unary_line s p arity text name row named is same =
    (λ i. line_text (named i) (if_some (single_items (same i))))
    ∙ ap (λ items. line_text name (if_some items)) (single_items_of (value_at s p) s.size)
    ∙ ap (λ n. line_text name (content_of s.size n (value_at s p))) (sym is)

-- one that holds nowhere has no line
pub no_line : (s : StructureForm) (p : ℕ) (name : List ℕ)
    → ((u : ℕ) → u < s.size → value_at s p (u ∷ []) ≡ No)
    → line_text name (if_some (single_items (unary_row s p))) ≡ []
no_line s p name none =
    ap (λ items. line_text name (if_some items)) (no_singles (unary_row s p) (λ u lt.
    let here : ℕ → K3 = λ w. value_at s p (w ∷ [])
    in let within : u < s.size = omega (arith, lt, length-map-range_with_len here 0 s.size)
    in get_or-map-range_with_len here 0 s.size u u No within (omega arith) ∙ none u within))

-- the line of the summaries
pub summaries_line : (s : StructureForm) (row : List K3) → row ≡ summary_row s
    → line_text (codes "sm") (if_some (single_items row)) ≡ summaries_text s
summaries_line s row same =
    ap (λ items. line_text (codes "sm") (if_some items)) (ap single_items same ∙ single_items_of (summary_value s) s.size)
