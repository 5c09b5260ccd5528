-- Tables that are drawn of all individuals, in order, are the tables themselves.
use Rattle.std.proofs.Common.{ℕ, ◌≡◌, ◌∙◌, ◌<◌, true, false, Bool, List, [], ◌∷◌, length, map, refl, sym, ap}
use Rattle.std.proofs.Common.{subst, get_or, All}
use Rattle.std.specs.Prelude.{◌==◌, if◌then◌else◌}
use Rattle.std.specs.List.{range_with_len}
use Rattle.std.proofs.lemmas.List.Elements.{All-head, All-tail}
use Rattle.std.proofs.lemmas.List.FromFn.{fill_by_all}
use Rattle.tv_kleene.specs.declared.K3.TheVariants.{No}
use Rattle.tv_structure_form.specs.TableForm.{PlaneForm, IsPlane, plane_drawn, row_count, column_count}
use Rattle.tv_structure_form.specs.TableForm.{selected}

-- the elements at all places, in order
pub all-selected : {X : Type 0} (d : X) (xs : List X) (n : ℕ) → length xs ≡ n
    → selected d xs (range_with_len 0 n) ≡ xs
all-selected d xs n count = sym (fill_by_all (λ k. get_or xs k d) xs n d count (λ k lt. refl))

columns-are : (size : ℕ) (b : Bool) → (if b then 0 ∷ [] else range_with_len 0 size)
    ≡ range_with_len 0 (if b then 1 else size)
columns-are size true = refl
columns-are size false = refl

rows-are : (size : ℕ) (b : Bool) → (if b then range_with_len 0 size else 0 ∷ [])
    ≡ range_with_len 0 (if b then size else 1)
rows-are size true = refl
rows-are size false = refl

-- a plane of all individuals is the plane itself
plane-itself : (size : ℕ) (plane : PlaneForm) → IsPlane size plane → plane_drawn (range_with_len 0 size) plane ≡ plane
plane-itself size plane is = λ i. record { arity = plane.arity; rows = rows i }
  where
    rows : (plane_drawn (range_with_len 0 size) plane).rows ≡ plane.rows
    rows =
        ap (λ columns. map (λ row. selected No (get_or plane.rows row []) columns)
        (if plane.arity == 2 then range_with_len 0 size else 0 ∷ [])) (columns-are size (plane.arity == 0))
        ∙ ap (map (λ row. selected No (get_or plane.rows row []) (range_with_len 0 (column_count size plane.arity))))
        (rows-are size (plane.arity == 2))
        ∙ sym (fill_by_all
        (λ row. selected No (get_or plane.rows row []) (range_with_len 0 (column_count size plane.arity))) plane.rows
        (row_count size plane.arity) [] is.rows
        (λ k lt. sym (all-selected No (get_or plane.rows k []) (column_count size plane.arity)
        (is.columns k [] (subst (λ n. k < n) (sym is.rows) lt)))))

pub planes-themselves : (size : ℕ) (planes : List PlaneForm) → All (IsPlane size) planes
    → map (plane_drawn (range_with_len 0 size)) planes ≡ planes
planes-themselves size [] all = refl
planes-themselves size (plane ∷ planes) all =
    let head : plane_drawn (range_with_len 0 size) plane ≡ plane
    = plane-itself size plane (All-head (IsPlane size) plane planes all)
    in let tail : map (plane_drawn (range_with_len 0 size)) planes ≡ planes
    = planes-themselves size planes (All-tail (IsPlane size) plane planes all)
    in λ i. head i ∷ tail i
