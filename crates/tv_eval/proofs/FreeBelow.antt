-- The free variables of a formula are in range.
use Rattle.std.proofs.Common.{ℕ, ◌<◌, ⊎_elim, List, sym, subst}
use Rattle.std.proofs.lemmas.List.Elements.{All-contains}
use Rattle.tv_model.specs.Form.{Form, FZero, FOne, FAtom, FIsNew, FSame, FNot, FAnd, FOr, FIff, FCond}
use Rattle.tv_model.specs.Form.{FExists, FForall, FClosure, IsFree}
use Rattle.tv_model.specs.Valid.{IsVariable, IsFormulaOver}

pub free-below : (arities : List ℕ) (f : Form) (v : ℕ) → IsFormulaOver arities f → IsFree v f → v < 32
free-below arities FZero v over free = absurd free
free-below arities FOne v over free = absurd free
free-below arities (FAtom q vars) v over free = All-contains IsVariable vars v over.1 free
free-below arities (FIsNew w) v over free = subst IsVariable (sym free) over
free-below arities (FSame w u) v over free =
    ⊎_elim (λ e. subst IsVariable (sym e) over.0) (λ e. subst IsVariable (sym e) over.1) free
free-below arities (FNot f) v over free = free-below arities f v over free
free-below arities (FAnd f g) v over free =
    ⊎_elim (λ l. free-below arities f v over.0 l) (λ r. free-below arities g v over.1 r) free
free-below arities (FOr f g) v over free =
    ⊎_elim (λ l. free-below arities f v over.0 l) (λ r. free-below arities g v over.1 r) free
free-below arities (FIff f g) v over free =
    ⊎_elim (λ l. free-below arities f v over.0 l) (λ r. free-below arities g v over.1 r) free
free-below arities (FCond c f g) v over free =
    ⊎_elim (λ l. free-below arities c v over.0 l)
    (λ r. ⊎_elim (λ l. free-below arities f v over.1 l) (λ last. free-below arities g v over.2 last) r) free
free-below arities (FExists w f) v over free = free-below arities f v over.1 free.1
free-below arities (FForall w f) v over free = free-below arities f v over.1 free.1
free-below arities (FClosure from to left right f) v over free =
    ⊎_elim (λ e. subst IsVariable (sym e) over.0)
    (λ r. ⊎_elim (λ e. subst IsVariable (sym e) over.1) (λ last. free-below arities f v over.5 last.2) r) free
