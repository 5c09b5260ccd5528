-- Flags that are kept as rows of values.
use Rattle.std.proofs.Common.{ℕ, ◌≡◌, ◌≢◌, ◌<◌, zero, suc, Bool, true, false, List, [], ◌∷◌, length, map}
use Rattle.std.proofs.Common.{get_or}
use Rattle.std.proofs.Common.{set, replicate, refl, sym, ap, ◌∙◌, arith, if◌then◌else◌}
use Rattle.std.specs.Prelude.{All}
use Rattle.std.specs.List.{range_with_len}
use Rattle.std.specs.Cmp.Lexicographic.{slice_cmp}
use Rattle.std.specs.Ordering.{bool_cmp, ordering_then}
use Rattle.std.proofs.lemmas.List.{ext_get_or, length-map, get_or-map, map-set}
use Rattle.std.proofs.lemmas.List.FromFn.{length-map-range_with_len, get_or-map-range_with_len}
use Rattle.tv_kleene.specs.declared.K3.{K3}
use Rattle.tv_kleene.specs.declared.K3.TheVariants.{No, Half, Yes}
use Rattle.tv_row.specs.Bits.{is_possible, value_cmp}
use Rattle.tv_structure_form.specs.TableForm.{selected}
use Rattle.tv_structure_form.specs.StructureForm.{StructureForm, summary_at}
use Rattle.tv_struct.specs.StructureRows.{flag_value, flags_of, summary_row}

pub flags_none : (n : ℕ) → flags_of (replicate n No) ≡ replicate n false
flags_none zero = refl
flags_none (suc n) = ap (λ flags. false ∷ flags) (flags_none n)

flag_back : (on : Bool) → is_possible (flag_value on) ≡ on
flag_back true = refl
flag_back false = refl

pub flags_put : (row : List K3) (u : ℕ) (on : Bool) → flags_of (set row u (flag_value on)) ≡ set (flags_of row) u on
flags_put row u on = map-set is_possible row u (flag_value on) ∙ ap (set (flags_of row) u) (flag_back on)

flag_at : (row : List K3) (u : ℕ) → is_possible (get_or row u No) ≡ get_or (flags_of row) u false
flag_at [] u = refl
flag_at (k ∷ row) zero = refl
flag_at (k ∷ row) (suc u) = flag_at row u

pub flags_selected : (row : List K3) (places : List ℕ) → flags_of (selected No row places) ≡ selected false (flags_of row) places
flags_selected row [] = refl
flags_selected row (place ∷ places) =
    let head : is_possible (get_or row place No) ≡ get_or (flags_of row) place false = flag_at row place
    in let tail : flags_of (selected No row places) ≡ selected false (flags_of row) places = flags_selected row places
    in λ i. head i ∷ tail i

-- ---- rows that say no more than flags

abbrev pub IsFlagRow : List K3 → Type 0
IsFlagRow row = row ≡ map flag_value (flags_of row)

pub IsFlagRow-none : (n : ℕ) → IsFlagRow (replicate n No)
IsFlagRow-none zero = refl
IsFlagRow-none (suc n) = ap (λ row. No ∷ row) (IsFlagRow-none n)

pub IsFlagRow-put : (row : List K3) (u : ℕ) (on : Bool) → IsFlagRow row → IsFlagRow (set row u (flag_value on))
IsFlagRow-put row u on is =
    ap (λ line. set line u (flag_value on)) is ∙ sym (map-set flag_value (flags_of row) u on) ∙ ap (map flag_value) (sym (flags_put row u on))

value_at : (flags : List Bool) (u : ℕ) → flag_value (get_or flags u false) ≡ get_or (map flag_value flags) u No
value_at [] u = refl
value_at (flag ∷ flags) zero = refl
value_at (flag ∷ flags) (suc u) = value_at flags u

pub IsFlagRow-selected : (row : List K3) (places : List ℕ) → IsFlagRow row → IsFlagRow (selected No row places)
IsFlagRow-selected row [] is = refl
IsFlagRow-selected row (place ∷ places) is =
    let head : get_or row place No ≡ flag_value (is_possible (get_or row place No))
    = ap (λ line. get_or line place No) is ∙ sym (value_at (flags_of row) place) ∙ ap flag_value (sym (flag_at row place))
    in let tail : selected No row places ≡ map flag_value (flags_of (selected No row places)) = IsFlagRow-selected row places is
    in λ i. head i ∷ tail i

-- none of its values is certain
pub never_yes : (row : List K3) → IsFlagRow row → All (λ k. k ≢ Yes) row
never_yes row is u d lt e =
    let flags : List Bool = flags_of row
    in let told : get_or row u d ≡ flag_value (get_or flags u false)
    = ap (λ line. get_or line u d) is
    ∙ get_or-map flag_value flags u false d (omega (arith, lt, length-map row is_possible))
    in at (get_or flags u false) (sym told ∙ e)
  where
    at : (b : Bool) → flag_value b ≡ Yes → ⊥
    at true e = cc
    at false e = cc

flag_cmp : (a b : Bool) → value_cmp (flag_value a) (flag_value b) ≡ bool_cmp a b
flag_cmp false false = refl
flag_cmp false true = refl
flag_cmp true false = refl
flag_cmp true true = refl

pub flags_cmp : (a b : List Bool) → slice_cmp value_cmp (map flag_value a) (map flag_value b) ≡ slice_cmp bool_cmp a b
flags_cmp [] [] = refl
flags_cmp [] (y ∷ b) = refl
flags_cmp (x ∷ a) [] = refl
flags_cmp (x ∷ a) (y ∷ b) =
    ap (λ o. ordering_then o (slice_cmp value_cmp (map flag_value a) (map flag_value b))) (flag_cmp x y)
    ∙ ap (ordering_then (bool_cmp x y)) (flags_cmp a b)

pub summaries_row : (s : StructureForm) → length s.summaries ≡ s.size → map flag_value s.summaries ≡ summary_row s
summaries_row s long =
    let value : ℕ → K3 = λ u. if summary_at s u then Half else No
    in ext_get_or No (map flag_value s.summaries) (map value (range_with_len 0 s.size))
    (length-map s.summaries flag_value ∙ long ∙ sym (length-map-range_with_len value 0 s.size))
    (λ u lt.
    let lu : u < length s.summaries = omega (arith, lt, length-map s.summaries flag_value)
    in get_or-map flag_value s.summaries u false No lu
    ∙ sym (get_or-map-range_with_len value 0 s.size u u No (omega (arith, lu, long)) (omega arith)))
