-- Lists of what definitions mention.
use Rattle.std.proofs.Common.{ℕ, ◌≡◌, ◌∙◌, ◌<◌, ◌+◌, Bool, true, false, List, [], ◌∷◌, ◌++◌, get_or, take}
use Rattle.std.proofs.Common.{length}
use Rattle.std.proofs.Common.{map, refl, sym, ap, subst, suc, zero}
use Rattle.std.specs.Prelude.{◌||◌, slice_get}
use Rattle.std.specs.List.{list_any}
use Rattle.std.proofs.lemmas.List.{take_more, map-append}
use Rattle.std.proofs.lemmas.List.Folds.{list_any-append}
use Rattle.tv_lemmas.proofs.Zips.{zip_push}
use Rattle.tv_model.specs.declared.program.Pred.{Pred}
use Rattle.tv_model.specs.Form.{Form, FZero, FOne, FAtom, FIsNew, FSame, FNot, FAnd, FOr, FIff, FCond}
use Rattle.tv_model.specs.Form.{FExists, FForall, FClosure, mentioned}
use Rattle.tv_model.specs.Program.{PredForm, pred_of}
use Rattle.tv_delta_laws.specs.Deltas.{is_flagged, touches}
use Rattle.tv_delta.specs.Flags.{rests_at, tells, AreMentionLists, ListTells}

or-none : (b : Bool) → b ≡ (b || false)
or-none true = refl
or-none false = refl

or-grouped : (a b c : Bool) → (a || (b || c)) ≡ ((a || b) || c)
or-grouped true b c = refl
or-grouped false b c = refl

both : (flags : List Bool) (f g : Form) → touches flags f ≡ list_any (is_flagged flags) (mentioned f)
    → touches flags g ≡ list_any (is_flagged flags) (mentioned g)
    → (touches flags f || touches flags g) ≡ list_any (is_flagged flags) (mentioned f ++ mentioned g)
both flags f g left right =
    ap (λ b. b || touches flags g) left ∙ ap (λ b. list_any (is_flagged flags) (mentioned f) || b) right
    ∙ sym (list_any-append (is_flagged flags) (mentioned f) (mentioned g))

pub touches_any : (flags : List Bool) (f : Form) → touches flags f ≡ list_any (is_flagged flags) (mentioned f)
touches_any flags FZero = refl
touches_any flags FOne = refl
touches_any flags (FAtom q vars) = or-none (is_flagged flags q)
touches_any flags (FIsNew v) = refl
touches_any flags (FSame v w) = refl
touches_any flags (FNot f) = touches_any flags f
touches_any flags (FAnd f g) = both flags f g (touches_any flags f) (touches_any flags g)
touches_any flags (FOr f g) = both flags f g (touches_any flags f) (touches_any flags g)
touches_any flags (FIff f g) = both flags f g (touches_any flags f) (touches_any flags g)
touches_any flags (FCond c f g) =
    let inner : (touches flags c || touches flags f) ≡ list_any (is_flagged flags) (mentioned c ++ mentioned f)
    = both flags c f (touches_any flags c) (touches_any flags f)
    in or-grouped (touches flags c) (touches flags f) (touches flags g)
    ∙ ap (λ b. b || touches flags g) inner
    ∙ ap (λ b. list_any (is_flagged flags) (mentioned c ++ mentioned f) || b) (touches_any flags g)
    ∙ sym (list_any-append (is_flagged flags) (mentioned c ++ mentioned f) (mentioned g))
touches_any flags (FExists v f) = touches_any flags f
touches_any flags (FForall v f) = touches_any flags f
touches_any flags (FClosure from to left right f) = touches_any flags f

-- one more definition has its list
pub lists_more : (preds : List Pred) (out us : List (List ℕ)) (i : ℕ) (pred : Pred) (list : List ℕ) → i < length preds
    → pred ≡ get_or preds i pred → AreMentionLists (map pred_of (take i preds)) out → ListTells (pred_of pred) list
    → us ≡ out ++ list ∷ [] → AreMentionLists (map pred_of (take (i + 1) preds)) us
lists_more preds out us i pred list lt at so_far one pushed =
    let more : map pred_of (take (i + 1) preds) ≡ map pred_of (take i preds) ++ pred_of pred ∷ []
    = ap (map pred_of) (take_more preds i pred lt) ∙ map-append pred_of (take i preds) (get_or preds i pred ∷ [])
    ∙ ap (λ d. map pred_of (take i preds) ++ pred_of d ∷ []) (sym at)
    in subst (λ zs. AreMentionLists zs us) (sym more)
    (subst (λ zs. AreMentionLists (map pred_of (take i preds) ++ pred_of pred ∷ []) zs) (sym pushed)
    (zip_push ListTells (map pred_of (take i preds)) out (pred_of pred) list so_far one))

-- the lists tell what rests on flagged predicates
pub lists_tell : (preds : List PredForm) (lists : List (List ℕ)) → AreMentionLists preds lists
    → (flags : List Bool) (q : ℕ)
    → rests_at flags preds q ≡ tells flags (slice_get lists q)
lists_tell [] [] are flags q = refl
lists_tell [] (list ∷ lists) are flags q = absurd are
lists_tell (d ∷ preds) [] are flags q = absurd are
lists_tell (d ∷ preds) (list ∷ lists) are flags zero = are.0 flags
lists_tell (d ∷ preds) (list ∷ lists) are flags (suc q) = lists_tell preds lists are.1 flags q
