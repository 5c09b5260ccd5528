-- Which variables stand free in a formula, as a test.
use Rattle.std.specs.Prelude.{ℕ, Bool, false, not, ◌==◌, ◌&&◌, ◌||◌, List, [], ◌∷◌}
use Rattle.tv_model.specs.Form.{Form, FZero, FOne, FAtom, FIsNew, FSame, FNot, FAnd, FOr, FIff, FCond}
use Rattle.tv_model.specs.Form.{FExists, FForall, FClosure}

-- the list has the variable
abbrev pub has_variable : ℕ → List ℕ → Bool
has_variable v [] = false
has_variable v (w ∷ vars) = (v == w) || has_variable v vars

-- whether the variable v stands free in the formula
abbrev pub is_free : ℕ → Form → Bool
is_free v FZero = false
is_free v FOne = false
is_free v (FAtom p vars) = has_variable v vars
is_free v (FIsNew w) = v == w
is_free v (FSame w u) = (v == w) || (v == u)
is_free v (FNot f) = is_free v f
is_free v (FAnd f g) = is_free v f || is_free v g
is_free v (FOr f g) = is_free v f || is_free v g
is_free v (FIff f g) = is_free v f || is_free v g
is_free v (FCond c f g) = is_free v c || (is_free v f || is_free v g)
is_free v (FExists w f) = not (v == w) && is_free v f
is_free v (FForall w f) = not (v == w) && is_free v f
is_free v (FClosure from to left right f) =
    (v == from) || ((v == to) || (not (v == left) && (not (v == right) && is_free v f)))
