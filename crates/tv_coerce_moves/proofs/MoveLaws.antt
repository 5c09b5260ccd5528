-- What stands in a formula that is moved.
use Rattle.std.proofs.Common.{ℕ, inl, inr, ⊎_elim, Bool, not, List, sym}
use Rattle.tv_model.specs.Form.{Form, FZero, FOne, FAtom, FIsNew, FSame, FNot, FAnd, FOr, FIff, FCond}
use Rattle.tv_model.specs.Form.{FExists, FForall, FClosure, Mentions}
use Rattle.tv_model.specs.Program.{HeadForm, HNever, HAtom, HSame}
use Rattle.tv_coerce_moves.specs.Moves.{HasEquality, MayMove, Shows}

moves-never : (f : Form) (up : Bool) → ¬ MayMove HNever up f
moves-never FZero up k = k
moves-never FOne up k = k
moves-never (FAtom q vars) up k = k
moves-never (FIsNew v) up k = k
moves-never (FSame v w) up k = k.0
moves-never (FNot f) up k = moves-never f (not up) k
moves-never (FAnd f g) up k = ⊎_elim (moves-never f up) (moves-never g up) k
moves-never (FOr f g) up k = ⊎_elim (moves-never f up) (moves-never g up) k
moves-never (FIff f g) up k = ⊎_elim (λ l. l) (λ r. r) k
moves-never (FCond c f g) up k = ⊎_elim (λ l. l) (⊎_elim (moves-never f up) (moves-never g up)) k
moves-never (FExists v f) up k = moves-never f up k
moves-never (FForall v f) up k = moves-never f up k
moves-never (FClosure from to left right f) up k = moves-never f up k

module _ (flag : Bool) (pred : ℕ) (vars : List ℕ) where
  moves-mentions : (f : Form) (up : Bool) → MayMove (HAtom flag pred vars) up f → Mentions pred f
  moves-mentions FZero up k = k
  moves-mentions FOne up k = k
  moves-mentions (FAtom q us) up k = sym k.0
  moves-mentions (FIsNew v) up k = k
  moves-mentions (FSame v w) up k = absurd k.0
  moves-mentions (FNot f) up k = moves-mentions f (not up) k
  moves-mentions (FAnd f g) up k = ⊎_elim (λ l. inl (moves-mentions f up l)) (λ r. inr (moves-mentions g up r)) k
  moves-mentions (FOr f g) up k = ⊎_elim (λ l. inl (moves-mentions f up l)) (λ r. inr (moves-mentions g up r)) k
  moves-mentions (FIff f g) up k = k
  moves-mentions (FCond c f g) up k =
      ⊎_elim (λ l. inl l) (⊎_elim (λ m. inr (inl (moves-mentions f up m))) (λ r. inr (inr (moves-mentions g up r)))) k
  moves-mentions (FExists v f) up k = moves-mentions f up k
  moves-mentions (FForall v f) up k = moves-mentions f up k
  moves-mentions (FClosure from to left right f) up k = moves-mentions f up k

module _ (flag : Bool) (x y : ℕ) where
  moves-equality : (f : Form) (up : Bool) → MayMove (HSame flag x y) up f → HasEquality f
  moves-equality FZero up k = k
  moves-equality FOne up k = k
  moves-equality (FAtom q us) up k = k
  moves-equality (FIsNew v) up k = k
  moves-equality (FSame v w) up k = tt
  moves-equality (FNot f) up k = moves-equality f (not up) k
  moves-equality (FAnd f g) up k = ⊎_elim (λ l. inl (moves-equality f up l)) (λ r. inr (moves-equality g up r)) k
  moves-equality (FOr f g) up k = ⊎_elim (λ l. inl (moves-equality f up l)) (λ r. inr (moves-equality g up r)) k
  moves-equality (FIff f g) up k = k
  moves-equality (FCond c f g) up k =
      ⊎_elim (λ l. inl l) (⊎_elim (λ m. inr (inl (moves-equality f up m))) (λ r. inr (inr (moves-equality g up r)))) k
  moves-equality (FExists v f) up k = moves-equality f up k
  moves-equality (FForall v f) up k = moves-equality f up k
  moves-equality (FClosure from to left right f) up k = moves-equality f up k

pub moves-shows : (head : HeadForm) (f : Form) (up : Bool) → MayMove head up f → Shows head f
moves-shows HNever f up k = moves-never f up k
moves-shows (HAtom flag pred vars) f up k = moves-mentions flag pred vars f up k
moves-shows (HSame flag v w) f up k = moves-equality flag v w f up k
