-- Which formulas mention a flagged predicate.
use Rattle.std.proofs.Common.{ℕ, ◌≡◌, ◌∙◌, Bool, true, List, inl, inr, ⊎_elim, refl, sym, ap}
use Rattle.std.specs.Prelude.{◌||◌}
use Rattle.std.proofs.lemmas.Bool.{false≢true, or_cases}
pub use Rattle.std.proofs.lemmas.Bool.{or_left as or-first, or_right as or-second}
use Rattle.tv_model.specs.Form.{Form, FZero, FOne, FAtom, FIsNew, FSame, FNot, FAnd, FOr, FIff, FCond}
use Rattle.tv_model.specs.Form.{FExists, FForall, FClosure, Mentions}
use Rattle.tv_delta_laws.specs.Deltas.{is_flagged, touches}

-- a flagged predicate that the formula mentions
abbrev pub Touched : List Bool → Form → Type 0
Touched flags f = (r : ℕ) × Mentions r f × (is_flagged flags r ≡ true)

pub touched : (flags : List Bool) (f : Form) → touches flags f ≡ true → Touched flags f
touched flags FZero e = absurd (false≢true e)
touched flags FOne e = absurd (false≢true e)
touched flags (FAtom q vars) e = (q, refl, e)
touched flags (FIsNew v) e = absurd (false≢true e)
touched flags (FSame v w) e = absurd (false≢true e)
touched flags (FNot f) e = touched flags f e
touched flags (FAnd f g) e =
    ⊎_elim (λ left. let t : Touched flags f = touched flags f left in (t.0, inl t.1, t.2))
    (λ right. let t : Touched flags g = touched flags g right in (t.0, inr t.1, t.2))
    (or_cases (touches flags f) (touches flags g) e)
touched flags (FOr f g) e =
    ⊎_elim (λ left. let t : Touched flags f = touched flags f left in (t.0, inl t.1, t.2))
    (λ right. let t : Touched flags g = touched flags g right in (t.0, inr t.1, t.2))
    (or_cases (touches flags f) (touches flags g) e)
touched flags (FIff f g) e =
    ⊎_elim (λ left. let t : Touched flags f = touched flags f left in (t.0, inl t.1, t.2))
    (λ right. let t : Touched flags g = touched flags g right in (t.0, inr t.1, t.2))
    (or_cases (touches flags f) (touches flags g) e)
touched flags (FCond c f g) e =
    ⊎_elim (λ first. let t : Touched flags c = touched flags c first in (t.0, inl t.1, t.2))
    (λ later. ⊎_elim
    (λ left. let t : Touched flags f = touched flags f left in (t.0, inr (inl t.1), t.2))
    (λ right. let t : Touched flags g = touched flags g right in (t.0, inr (inr t.1), t.2))
    (or_cases (touches flags f) (touches flags g) later))
    (or_cases (touches flags c) (touches flags f || touches flags g) e)
touched flags (FExists v f) e = touched flags f e
touched flags (FForall v f) e = touched flags f e
touched flags (FClosure from to left right f) e = touched flags f e

pub touching : (flags : List Bool) (r : ℕ) (f : Form) → is_flagged flags r ≡ true → Mentions r f → touches flags f ≡ true
touching flags r FZero on m = absurd m
touching flags r FOne on m = absurd m
touching flags r (FAtom q vars) on m = ap (is_flagged flags) (sym m) ∙ on
touching flags r (FIsNew v) on m = absurd m
touching flags r (FSame v w) on m = absurd m
touching flags r (FNot f) on m = touching flags r f on m
touching flags r (FAnd f g) on m =
    ⊎_elim (λ left. or-first (touches flags f) (touches flags g) (touching flags r f on left))
    (λ right. or-second (touches flags f) (touches flags g) (touching flags r g on right)) m
touching flags r (FOr f g) on m =
    ⊎_elim (λ left. or-first (touches flags f) (touches flags g) (touching flags r f on left))
    (λ right. or-second (touches flags f) (touches flags g) (touching flags r g on right)) m
touching flags r (FIff f g) on m =
    ⊎_elim (λ left. or-first (touches flags f) (touches flags g) (touching flags r f on left))
    (λ right. or-second (touches flags f) (touches flags g) (touching flags r g on right)) m
touching flags r (FCond c f g) on m =
    ⊎_elim
    (λ first. or-first (touches flags c) (touches flags f || touches flags g) (touching flags r c on first))
    (λ later. or-second (touches flags c) (touches flags f || touches flags g)
    (⊎_elim (λ left. or-first (touches flags f) (touches flags g) (touching flags r f on left))
    (λ right. or-second (touches flags f) (touches flags g) (touching flags r g on right)) later)) m
touching flags r (FExists v f) on m = touching flags r f on m
touching flags r (FForall v f) on m = touching flags r f on m
touching flags r (FClosure from to left right f) on m = touching flags r f on m
