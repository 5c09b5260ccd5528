-- What an individual is called tells it from the others.
use Rattle.std.proofs.Common.{◌≡◌, ℕ, suc, ◌<◌, ◌+◌, Bool, true, false, ◌&&◌, List, [], ◌∷◌, map}
use Rattle.std.proofs.Common.{Option, Some, None, inl, refl, sym, ap, subst, ◌∙◌, arith, if◌then◌else◌, eqb}
use Rattle.std.specs.Prelude.{decimal, slice_get}
use Rattle.std.specs.List.{range_with_len}
use Rattle.std.proofs.lemmas.Bool.{eqb-true, and_parts, false≢true}
use Rattle.std.proofs.lemmas.Fmt.{decimal_injective}
use Rattle.tv_lemmas.proofs.Lists.{range_below}
use Rattle.tv_model.proofs.Lists.{map-agreed}
use Rattle.tv_model.specs.declared.program.Pred.{Pred}
use Rattle.tv_structure_form.specs.StructureForm.{StructureForm, value_at}
use Rattle.tv_struct.specs.StructureRows.{unary_row}
use Rattle.tv_show.specs.Line.{yes_places, is_only, telling, numeral, called}
use Rattle.tv_show.proofs.Parted.{FreeOf, Opens, free_shut}
use Rattle.tv_show.proofs.Spelt.{IsOther, name_free}
use Rattle.tv_show.proofs.Told.{AreNamed, same_place}

-- ---- the predicate that tells

only_one : (u w : ℕ) (xs : List ℕ) → is_only u xs ≡ true → is_only w xs ≡ true → u ≡ w
only_one u w [] a b = absurd (false≢true a)
only_one u w (x ∷ []) a b = sym (eqb-true x u a) ∙ eqb-true x w b
only_one u w (x ∷ y ∷ xs) a b = absurd (false≢true a)

-- where the name comes from
pub record IsTold (s : StructureForm) (u p : ℕ) (preds : List Pred) (name : List ℕ) : Type 0 where
  pub place : ℕ
  pub pred : Pred
  pub at : slice_get preds place ≡ Some pred
  pub alone : is_only u (yes_places (unary_row s (p + place))) ≡ true
  pub named : pred.name ≡ name

pub telling_is : (s : StructureForm) (u p : ℕ) (preds : List Pred) (name : List ℕ) → telling s u p preds ≡ Some name
    → IsTold s u p preds name
telling_is s u p [] name told = absurd (cc told)
telling_is s u p (x ∷ preds) name told =
    go (λ there. telling_is s u (p + 1) preds name there) (eqb x.arity 1 && is_only u (yes_places (unary_row s p))) refl told
  where
    go : (telling s u (p + 1) preds ≡ Some name → IsTold s u (p + 1) preds name) → (b : Bool)
        → (eqb x.arity 1 && is_only u (yes_places (unary_row s p))) ≡ b
        → (if b then Some x.name else telling s u (p + 1) preds) ≡ Some name → IsTold s u p (x ∷ preds) name
    go later true test told =
        let parts = and_parts (eqb x.arity 1) (is_only u (yes_places (unary_row s p))) test
        in let number : p ≡ p + 0 = omega arith
        in record {
          place = 0;
          pred = x;
          at = refl;
          alone = subst (λ n. is_only u (yes_places (unary_row s n)) ≡ true) number parts.1;
          named = cc told;
        }
    go later false test told =
        let rest = later told
        in let number : p + 1 + rest.place ≡ p + suc rest.place = omega arith
        in record {
          place = suc rest.place;
          pred = rest.pred;
          at = rest.at;
          alone = subst (λ n. is_only u (yes_places (unary_row s n)) ≡ true) number rest.alone;
          named = rest.named;
        }

-- ---- names and numbers

pub hash : IsOther 35
hash = inl (inl (omega arith))

pub told_free : (preds : List Pred) → AreNamed preds → (c : ℕ) → IsOther c → (s : StructureForm) (u : ℕ) (name : List ℕ)
    → telling s u 0 preds ≡ Some name → FreeOf c name
told_free preds are c other s u name told =
    let is = telling_is s u 0 preds name told
    in subst (FreeOf c) is.named (name_free c other is.pred.name (are.named is.place is.pred is.at))

pub called_tells : (preds : List Pred) → AreNamed preds → (s : StructureForm) (u w : ℕ) → u < 256 → w < 256
    → called u (telling s u 0 preds) ≡ called w (telling s w 0 preds) → u ≡ w
called_tells preds are s u w small_u small_w same = go (telling s u 0 preds) (telling s w 0 preds) refl refl same
  where
    clash : (name : List ℕ) (n x : ℕ) → telling s x 0 preds ≡ Some name → name ≡ numeral n → ⊥
    clash name n x told same =
        free_shut 35 name (told_free preds are 35 hash s x name told) (subst (Opens 35) (sym same) refl)

    go : (a b : Option (List ℕ)) → telling s u 0 preds ≡ a → telling s w 0 preds ≡ b → called u a ≡ called w b → u ≡ w
    go None None at_u at_w same =
        let digits : decimal u ≡ decimal w = cc same
        in decimal_injective u w (omega (arith, small_u)) (omega (arith, small_w)) digits
    go None (Some m) at_u at_w same = absurd (clash m u w at_w (sym same))
    go (Some n) None at_u at_w same = absurd (clash n w u at_u same)
    go (Some n) (Some m) at_u at_w same =
        let a = telling_is s u 0 preds n at_u
        in let b = telling_is s w 0 preds m at_w
        in let place = same_place preds are a.place b.place a.pred b.pred a.at b.at (a.named ∙ same ∙ sym b.named)
        in only_one u w (yes_places (unary_row s (0 + b.place)))
        (subst (λ k. is_only u (yes_places (unary_row s (0 + k))) ≡ true) place a.alone) b.alone

-- ---- structures with the same unary values

pub rows_same : (s t : StructureForm) (k : ℕ) → s.size ≡ t.size
    → ((u : ℕ) → u < s.size → value_at s k (u ∷ []) ≡ value_at t k (u ∷ [])) → unary_row s k ≡ unary_row t k
rows_same s t k size same =
    map-agreed (λ u. value_at s k (u ∷ [])) (λ u. value_at t k (u ∷ [])) (range_with_len 0 s.size)
    (λ u there. let below = range_below 0 s.size u there in same u (omega (arith, below)))
    ∙ ap (λ n. map (λ u. value_at t k (u ∷ [])) (range_with_len 0 n)) size

pub telling_same : (s t : StructureForm) (u p : ℕ) (preds : List Pred)
    → ((place : ℕ) (pred : Pred) → slice_get preds place ≡ Some pred → pred.arity ≡ 1 → unary_row s (p + place) ≡ unary_row t (p + place))
    → telling s u p preds ≡ telling t u p preds
telling_same s t u p [] rows = refl
telling_same s t u p (x ∷ preds) rows =
    go (eqb x.arity 1) refl
    (telling_same s t u (p + 1) preds (λ place pred at is.
    let number : p + suc place ≡ p + 1 + place = omega arith
    in subst (λ n. unary_row s n ≡ unary_row t n) number (rows (suc place) pred at is)))
  where
    go : (b : Bool) → eqb x.arity 1 ≡ b → telling s u (p + 1) preds ≡ telling t u (p + 1) preds
        → (if b && is_only u (yes_places (unary_row s p)) then Some x.name else telling s u (p + 1) preds)
        ≡ (if b && is_only u (yes_places (unary_row t p)) then Some x.name else telling t u (p + 1) preds)
    go true is rest =
        let number : p + 0 ≡ p = omega arith
        in let row : unary_row s p ≡ unary_row t p
        = subst (λ n. unary_row s n ≡ unary_row t n) number (rows 0 x refl (eqb-true x.arity 1 is))
        in (λ i. if is_only u (yes_places (row i)) then Some x.name else rest i)
    go false is rest = rest
