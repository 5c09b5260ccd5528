-- What is known of sets of rules that were found.
use Rattle.std.proofs.Common.{ℕ, ◌≡◌, Bool, List, All, Contains, sym, subst}
use Rattle.std.specs.Prelude.{Result, Ok, Err, IfOk, MatchResult}
use Rattle.std.proofs.lemmas.List.Elements.{All-contains}
use Rattle.tv_coerce_sets.specs.declared.found.Kept.{Kept}
use Rattle.tv_coerce_sets.specs.Found.{HasMoreSets}
use Rattle.tv_step.proofs.Adding.{all-more}

-- what holds of each set and its predicates holds of one that was found for these
pub found-right : (R : List ℕ → List Bool → Type 0) (kept : List Kept) (k : Kept) (preds : List ℕ)
    → All (λ e. R e.preds.items e.set.value) kept → Contains kept k → k.preds.items ≡ preds → R preds k.set.value
found-right R kept k preds all at same =
    subst (λ qs. R qs k.set.value) same (All-contains (λ e. R e.preds.items e.set.value) kept k all at)

-- it still does with one more of which it holds
pub kept-right : (R : List ℕ → List Bool → Type 0) (preds : List ℕ) (set : List Bool) (old new : List Kept)
    → HasMoreSets preds set old new → R preds set → All (λ e. R e.preds.items e.set.value) old
    → All (λ e. R e.preds.items e.set.value) new
kept-right R preds set old new more own before =
    subst (All (λ e. R e.preds.items e.set.value)) (sym more.last)
    (all-more (λ e. R e.preds.items e.set.value) old more.kept before
    (subst (λ qs. R qs more.kept.set.value) (sym more.preds_are) (subst (R preds) (sym more.set_is) own)))

-- what holds of what was found holds of a copy, if memory was enough for one
pub copied-right : {T E : Type 0} (copied : Result T E) (P Q : T → Type 0) → ((t : T) → P t → Q t)
    → MatchResult copied P (λ e. ¬ ⊥) → IfOk copied Q
copied-right (Ok t) P Q right is = right t is
copied-right (Err e) P Q right is = tt
