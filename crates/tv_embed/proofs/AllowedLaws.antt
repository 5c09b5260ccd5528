-- Individuals that the values of unary predicates leave as candidates.
use Rattle.std.proofs.Common.{ℕ, ◌≡◌, ◌≢◌, ◌<◌, inl, inr, List, [], ◌∷◌, length, get_or, ap}
use Rattle.std.proofs.Common.{refl, sym, ◌∙◌, arith}
use Rattle.std.specs.Prelude.{Contains, Some, slice_get}
use Rattle.tv_kleene.specs.declared.K3.{K3}
use Rattle.tv_kleene.specs.declared.K3.TheVariants.{No, Half, Yes}
use Rattle.tv_kleene.specs.Kleene.{LiesUnder, negation_of, smaller_of}
use Rattle.tv_row.proofs.WordOps.{get_or-paired, length-paired}
use Rattle.tv_row.specs.Bits.{paired}
use Rattle.tv_structure_form.specs.StructureForm.{StructureForm, arities_of, value_at}
use Rattle.tv_struct.specs.StructureRows.{unary_row}
use Rattle.tv_struct.proofs.Library.{get_or-unary_row, length-unary_row}
use Rattle.tv_embed.specs.Fits.{FitsSoFar, IsCandidate}
use Rattle.tv_embed.specs.Maps.{image_of}
use Rattle.tv_embed.specs.Search.{AllowsAll, AreCandidates, HasNoneWith}
use Rattle.tv_embed.proofs.MapLaws.{FitsSoFar-embedding}

-- ---- values over a value

pub half_over : (x : K3) → LiesUnder Half x → smaller_of x (negation_of x) ≢ No
half_over No (inl is) e = absurd (cc)
half_over No (inr is) e = absurd (cc)
half_over Half under e = absurd (cc)
half_over Yes (inl is) e = absurd (cc)
half_over Yes (inr is) e = absurd (cc)

pub neither_no : (x y : K3) → x ≢ No → y ≢ No → smaller_of x y ≢ No
neither_no No y a b e = a refl
neither_no Half No a b e = b refl
neither_no Half Half a b e = absurd (cc)
neither_no Half Yes a b e = absurd (cc)
neither_no Yes y a b e = b e

-- ---- the row, one predicate after the other

pub allowed_more : (small large : StructureForm) (u : ℕ) (row above new : List K3) → AllowsAll small large u row
    → length above ≡ large.size
    → ((w : ℕ) → w < large.size → IsCandidate small large u w → get_or above w No ≢ No) → new ≡ paired smaller_of row above
    → AllowsAll small large u new
allowed_more small large u row above new allows long over is = record {
  long = rw (is, length-paired smaller_of row above (allows.long ∙ sym long)) allows.long;
  each = λ w lt one.
      rw (is, get_or-paired smaller_of row above w (rw allows.long lt) (rw long lt))
      (neither_no (get_or row w No) (get_or above w No) (allows.each w lt one) (over w lt one));
}

pub as_long : (large : StructureForm) (p n : ℕ) (values above : List K3) → n ≡ large.size → values ≡ unary_row large p
    → length above ≡ length values → n ≡ length above
as_long large p n values above size are long = size ∙ sym (length-unary_row large p) ∙ ap length (sym are) ∙ sym long

pub narrowed : (small large : StructureForm) (u p : ℕ) (k : K3) (row values above new : List K3) → AllowsAll small large u row
    → slice_get (arities_of small) p ≡ Some 1 → k ≡ value_at small p (u ∷ []) → values ≡ unary_row large p
    → length above ≡ length values
    → ((w : ℕ) → w < length values → LiesUnder k (get_or values w No) → get_or above w No ≢ No)
    → new ≡ paired smaller_of row above → AllowsAll small large u new
narrowed small large u p k row values above new allows unary value are long over is =
    allowed_more small large u row above new allows (sym (as_long large p large.size values above refl are long)) each is
  where
    each : (w : ℕ) → w < large.size → IsCandidate small large u w → get_or above w No ≢ No
    each w lt one = over w (rw (are, length-unary_row large p) lt)
        (rw (value, are, get_or-unary_row large p w lt) (one.values p unary))

-- ---- nobody to go to

pub none_to_go_to : (small large : StructureForm) (u : ℕ) (list : List ℕ) → u < small.size
    → AreCandidates small large u large.size list → length list ≡ 0 → HasNoneWith small large []
none_to_go_to small large u list lt are empty other embeds begins =
    let fits : FitsSoFar small large other = FitsSoFar-embedding small large other embeds
    in let inside : u < length other = omega (arith, lt, embeds.0)
    in from (are.each (image_of other u) (fits.within u inside) (fits.candidates u inside))
  where
    from : {w : ℕ} → Contains list w → ⊥
    from (k, within, at) = omega (arith, within, empty)
