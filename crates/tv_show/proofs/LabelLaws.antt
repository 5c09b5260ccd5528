-- Names found predicate by predicate are those that are defined.
use Rattle.std.proofs.Common.{◌≡◌, ℕ, suc, ◌+◌, Bool, true, false, List, [], ◌∷◌, length, ◌<◌, zero, get_or}
use Rattle.std.proofs.Common.{drop, arith, add-one}
use Rattle.std.proofs.Common.{refl, sym, ap, ◌∙◌, if◌then◌else◌, eqb}
use Rattle.std.specs.Prelude.{Option, Some, None, ◌&&◌}
use Rattle.tv_model.specs.declared.program.Pred.{Pred}
use Rattle.tv_structure_form.specs.StructureForm.{StructureForm}
use Rattle.tv_struct.specs.StructureRows.{unary_row}
use Rattle.tv_show.specs.Line.{yes_places, is_only, telling}
use Rattle.tv_show.specs.Named.{only, told, all_told, is_at, named}

-- a place is the only one where it is the one that is found
only_at : (u : ℕ) (places : List ℕ) → is_at u (only places) ≡ is_only u places
only_at u [] = refl
only_at u (w ∷ []) = refl
only_at u (w ∷ x ∷ others) = refl

told_at : (s : StructureForm) (u p arity : ℕ) → is_at u (told s p arity) ≡ eqb arity 1 && is_only u (yes_places (unary_row s p))
told_at s u p arity = by_arity (eqb arity 1)
  where
    by_arity : (b : Bool) → is_at u (if b then only (yes_places (unary_row s p)) else None) ≡ b && is_only u (yes_places (unary_row s p))
    by_arity true = only_at u (yes_places (unary_row s p))
    by_arity false = refl

all_long : (s : StructureForm) (p : ℕ) (preds : List Pred) → length (all_told s p preds) ≡ length preds
all_long s p [] = refl
all_long s p (pred ∷ preds) = ap suc (all_long s (p + 1) preds)

all_named : (s : StructureForm) (u p : ℕ) (preds : List Pred) → named u preds (all_told s p preds) ≡ telling s u p preds
all_named s u p [] = refl
all_named s u p (pred ∷ preds) =
    λ i. if told_at s u p pred.arity i then Some pred.name else all_named s u (p + 1) preds i

pub told_long : (s : StructureForm) (preds : List Pred) (told : List (Option ℕ)) → told ≡ all_told s 0 preds
    → length told ≡ length preds
told_long s preds told are = ap length are ∙ all_long s 0 preds

-- names that are found so are those that are defined
pub named_telling : (s : StructureForm) (u : ℕ) (preds : List Pred) (told : List (Option ℕ)) → told ≡ all_told s 0 preds
    → named u preds told ≡ telling s u 0 preds
named_telling s u preds told are = ap (named u preds) are ∙ all_named s u 0 preds

passed : (u p : ℕ) (preds : List Pred) (those : List (Option ℕ)) (d : Option ℕ) → length those ≡ length preds
    → p < length preds → is_at u (get_or those p d) ≡ false
    → named u (drop (suc p) preds) (drop (suc p) those) ≡ named u (drop p preds) (drop p those)
passed u p [] those d long lt other = absurd (omega arith)
passed u p (pred ∷ preds) [] d long lt other = absurd (omega arith)
passed u zero (pred ∷ preds) (w ∷ those) d long lt other =
    sym (ap (λ (b : Bool). if b then Some pred.name else named u preds those) other)
passed u (suc p) (pred ∷ preds) (w ∷ those) d long lt other =
    passed u p preds those d (omega arith) (omega arith) other

-- a predicate that doesn't tell the individual is passed over
pub named_next : (u p : ℕ) (preds : List Pred) (those : List (Option ℕ)) (d : Option ℕ) → length those ≡ length preds
    → p < length preds → is_at u (get_or those p d) ≡ false
    → named u (drop (p + 1) preds) (drop (p + 1) those) ≡ named u (drop p preds) (drop p those)
named_next u p preds those d long lt other = rw add-one (passed u p preds those d long lt other)
