-- The delta of each formula tells the truth, if those of its atoms do.
use Rattle.std.proofs.Common.{ℕ, ◌≡◌, ◌⊎◌, ◌↔◌, ◌∙◌, Bool, false, List, Option, None, inl, inr, ⊎_elim, sym}
use Rattle.std.specs.Prelude.{IfSome}
use Rattle.std.proofs.lemmas.Bool.{cond_both}
use Rattle.tv_model.specs.Form.{Form, FZero, FOne, FAtom, FIsNew, FSame, FNot, FAnd, FOr, FIff, FCond}
use Rattle.tv_model.specs.Form.{FExists, FForall, FClosure}
use Rattle.tv_model.specs.Truth.{Assignment, Truth}
use Rattle.tv_model.specs.Valid.{IsFormulaOver}
use Rattle.tv_model.proofs.Decided.{IsDecided}
use Rattle.tv_delta_laws.specs.Deltas.{Delta, unchanged, negated, both, either, touches, delta_of}
use Rattle.tv_delta_laws.proofs.Options.{if-then}
use Rattle.tv_delta_laws.proofs.PutTruths.{AvoidsPicks}
use Rattle.tv_delta_laws.proofs.DeltaTruths.{Change, IsChange, IsDelta, delta-alike, unchanged-tells}
use Rattle.tv_delta_laws.proofs.DeltaTruths.{negated-tells, both-tells, either-tells}
use Rattle.tv_delta_laws.proofs.QuantifierTruths.{some-tells, every-tells}

iff-written : (P Q : Type 0) → IsDecided P → (((¬ P) ⊎ Q) × ((¬ Q) ⊎ P)) ↔ (P ↔ Q)
iff-written P Q decided = (
  λ t. (λ p. ⊎_elim (λ n. absurd (n p)) (λ q. q) t.0, λ q. ⊎_elim (λ n. absurd (n q)) (λ p. p) t.1),
  λ t. ⊎_elim (λ p. (inr (t.0 p), inr p)) (λ n. (inl n, inl (λ q. n (t.1 q)))) decided,
)

-- what deltas of formulas rest on: those of atoms, and that closures without affected atoms stay
pub record TellsAtoms (s : Change) (arities : List ℕ) (affected : List Bool) (atoms : ℕ → List ℕ → Option Delta)
    : Type 0 where
  pub change : IsChange s
  pub each_atom : (q : ℕ) (args : List ℕ) → IsFormulaOver arities (FAtom q args)
      → IfSome (atoms q args) (IsDelta s (FAtom q args))
  pub untouched : (f : Form) → touches affected f ≡ false → (b : Assignment) → Truth s.old b f ↔ Truth s.new b f

pub delta-of_tells : (s : Change) (arities : List ℕ) (affected : List Bool) (atoms : ℕ → List ℕ → Option Delta)
    → TellsAtoms s arities affected atoms → (f : Form) → IsFormulaOver arities f → AvoidsPicks s.picks f
    → IfSome (delta_of atoms affected f) (IsDelta s f)
delta-of_tells s arities affected atoms is FZero fits avoids =
    unchanged-tells s is.change FZero (λ b suits. (λ t. t, λ t. t))
delta-of_tells s arities affected atoms is FOne fits avoids =
    unchanged-tells s is.change FOne (λ b suits. (λ t. t, λ t. t))
delta-of_tells s arities affected atoms is (FAtom q vars) fits avoids = is.each_atom q vars fits
delta-of_tells s arities affected atoms is (FIsNew v) fits avoids =
    unchanged-tells s is.change (FIsNew v)
    (λ b suits. (λ t. sym is.change.marks ∙ t, λ t. is.change.marks ∙ t))
delta-of_tells s arities affected atoms is (FSame v w) fits avoids =
    unchanged-tells s is.change (FSame v w) (λ b suits. (λ t. t, λ t. t))
delta-of_tells s arities affected atoms is (FNot f) fits avoids =
    negated-tells s is.change f (delta_of atoms affected f) (delta-of_tells s arities affected atoms is f fits avoids)
delta-of_tells s arities affected atoms is (FAnd f g) fits avoids =
    both-tells s is.change f g (delta_of atoms affected f) (delta_of atoms affected g)
    (delta-of_tells s arities affected atoms is f fits.0 avoids.0)
    (delta-of_tells s arities affected atoms is g fits.1 avoids.1)
delta-of_tells s arities affected atoms is (FOr f g) fits avoids =
    either-tells s is.change f g (delta_of atoms affected f) (delta_of atoms affected g)
    (delta-of_tells s arities affected atoms is f fits.0 avoids.0)
    (delta-of_tells s arities affected atoms is g fits.1 avoids.1)
delta-of_tells s arities affected atoms is (FIff f g) fits avoids =
    let o : Option Delta = delta_of atoms affected f
    in let u : Option Delta = delta_of atoms affected g
    in let one : IfSome o (IsDelta s f) = delta-of_tells s arities affected atoms is f fits.0 avoids.0
    in let two : IfSome u (IsDelta s g) = delta-of_tells s arities affected atoms is g fits.1 avoids.1
    in let there : IfSome (either (negated o) u) (IsDelta s (FOr (FNot f) g))
    = either-tells s is.change (FNot f) g (negated o) u (negated-tells s is.change f o one) two
    in let back : IfSome (either (negated u) o) (IsDelta s (FOr (FNot g) f))
    = either-tells s is.change (FNot g) f (negated u) o (negated-tells s is.change g u two) one
    in if-then (IsDelta s (FAnd (FOr (FNot f) g) (FOr (FNot g) f))) (IsDelta s (FIff f g))
    (both (either (negated o) u) (either (negated u) o))
    (both-tells s is.change (FOr (FNot f) g) (FOr (FNot g) f) (either (negated o) u) (either (negated u) o) there back)
    (λ d. delta-alike s (FAnd (FOr (FNot f) g) (FOr (FNot g) f)) (FIff f g) d
    (λ v free. ⊎_elim (λ t. t) (λ t. ⊎_elim (λ x. inr x) (λ x. inl x) t) free)
    (λ h b. iff-written (Truth h b f) (Truth h b g) (is.change.decided h b f)))
delta-of_tells s arities affected atoms is (FCond c f g) fits avoids =
    let i : Option Delta = delta_of atoms affected c
    in let o : Option Delta = delta_of atoms affected f
    in let u : Option Delta = delta_of atoms affected g
    in let guard : IfSome i (IsDelta s c) = delta-of_tells s arities affected atoms is c fits.0 avoids.0
    in let one : IfSome o (IsDelta s f) = delta-of_tells s arities affected atoms is f fits.1 avoids.1
    in let two : IfSome u (IsDelta s g) = delta-of_tells s arities affected atoms is g fits.2 avoids.2
    in if-then (IsDelta s (FOr (FAnd c f) (FAnd (FNot c) g))) (IsDelta s (FCond c f g))
    (either (both i o) (both (negated i) u))
    (either-tells s is.change (FAnd c f) (FAnd (FNot c) g) (both i o) (both (negated i) u)
    (both-tells s is.change c f i o guard one)
    (both-tells s is.change (FNot c) g (negated i) u (negated-tells s is.change c i guard) two))
    (λ d. delta-alike s (FOr (FAnd c f) (FAnd (FNot c) g)) (FCond c f g) d
    (λ v free. ⊎_elim (λ t. ⊎_elim (λ x. inl x) (λ x. inr (inl x)) t)
    (λ t. ⊎_elim (λ x. inl x) (λ x. inr (inr x)) t) free)
    (λ h b. (λ t. t, λ t. t)))
delta-of_tells s arities affected atoms is (FExists v f) fits avoids =
    some-tells s is.change v f avoids.0 (delta_of atoms affected f)
    (delta-of_tells s arities affected atoms is f fits.1 avoids.1)
delta-of_tells s arities affected atoms is (FForall v f) fits avoids =
    every-tells s is.change v f avoids.0 (delta_of atoms affected f)
    (delta-of_tells s arities affected atoms is f fits.1 avoids.1)
delta-of_tells s arities affected atoms is (FClosure from to left right f) fits avoids =
    cond_both (touches affected f) None (unchanged (FClosure from to left right f))
    (λ o. IfSome o (IsDelta s (FClosure from to left right f))) (λ e. tt)
    (λ e. unchanged-tells s is.change (FClosure from to left right f)
    (λ b suits. is.untouched (FClosure from to left right f) e b))
