-- Which variables stand free, and what a formula says of them.
use Rattle.std.proofs.Common.{ℕ, ◌≡◌, ◌≢◌, ◌⊎◌, Bool, true, false, not, ◌==◌, ◌&&◌, ◌||◌, List, [], ◌∷◌, map}
use Rattle.std.proofs.Common.{inl, inr, ⊎_elim, refl, sym, ap, subst, ◌∙◌, Contains}
use Rattle.std.proofs.lemmas.Bool.{cases_eq, eqb-true, eq-eqb, false≢true}
use Rattle.tv_model.specs.Form.{Form, FZero, FOne, FAtom, FIsNew, FSame, FNot, FAnd, FOr, FIff, FCond}
use Rattle.tv_model.specs.Form.{FExists, FForall, FClosure, IsFree}
use Rattle.tv_model.specs.Heap.{Heap}
use Rattle.tv_model.specs.Program.{HeadForm, HNever, HAtom, HSame}
use Rattle.tv_model.specs.Rules.{IsInHead}
use Rattle.tv_model.specs.Truth.{Assignment, Truth, put, put_all}
use Rattle.tv_model.proofs.Lists.{Contains-here, Contains-there, Contains-none, Contains-cases}
use Rattle.tv_model.specs.Laws.{HeapsLookAlike}
use Rattle.tv_model.proofs.Truths.{Truth-local}
use Rattle.tv_model.proofs.Assignments.{put-same, put-other}
use Rattle.tv_model.proofs.FreeTests.{has_variable-from, from-has_variable, either-from, or-first, or-second}
use Rattle.tv_model.proofs.FreeTests.{free-from, from-free}
use Rattle.tv_rules.specs.Closing.{is_in_head}
use Rattle.tv_rules.specs.Laws.{TestsAreRight}

pub in_head-from : (v : ℕ) (head : HeadForm) → is_in_head v head ≡ true → IsInHead v head
in_head-from v HNever e = false≢true e
in_head-from v (HAtom flag pred vars) e = has_variable-from v vars e
in_head-from v (HSame flag w u) e = either-from (v == w) (v == u) (v ≡ w) (v ≡ u) (eqb-true v w) (eqb-true v u) e

pub from-in_head : (v : ℕ) (head : HeadForm) → IsInHead v head → is_in_head v head ≡ true
from-in_head v HNever at = absurd at
from-in_head v (HAtom flag pred vars) at = from-has_variable v vars at
from-in_head v (HSame flag w u) at =
    ⊎_elim (λ e. or-first (v == w) (v == u) (eq-eqb v w e)) (λ e. or-second (v == w) (v == u) (eq-eqb v u e)) at

-- truth depends on what the free variables stand for
pub Truth-agreed : (h : Heap) (f : Form) (a b : Assignment) → ((v : ℕ) → IsFree v f → a v ≡ b v) → Truth h a f → Truth h b f
Truth-agreed h f a b same t = (Truth-local f h h a b itself same).0 t
  where
    itself : HeapsLookAlike f h h
    itself = record { individuals = λ u. (λ k. k, λ k. k); holds = λ q mentioned tuple. (λ k. k, λ k. k); marks = λ named. refl }

-- what stands for a variable already
pub put-itself : (a : Assignment) (v w : ℕ) → put a v (a v) w ≡ a w
put-itself a v w = ⊎_elim (λ e. put-same a v (a v) w e ∙ ap a (sym e)) (λ ne. put-other a v (a v) w ne) (cases_eq w v)

-- what is right of v stays so when values of a are put
put_all-right : (b a : Assignment) (vars : List ℕ) (v : ℕ) → b v ≡ a v → put_all b vars (map a vars) v ≡ a v
put_all-right b a [] v e = e
put_all-right b a (x ∷ vars) v e =
    put_all-right (put b x (a x)) a vars v
    (⊎_elim (λ same. put-same b x (a x) v same ∙ ap a (sym same)) (λ ne. put-other b x (a x) v ne ∙ e) (cases_eq v x))

pub put_all-gives : (b a : Assignment) (vars : List ℕ) (v : ℕ) → Contains vars v → put_all b vars (map a vars) v ≡ a v
put_all-gives b a [] v at = absurd (Contains-none v at)
put_all-gives b a (x ∷ vars) v at =
    ⊎_elim
    (λ same. put_all-right (put b x (a x)) a vars v (put-same b x (a x) v (sym same) ∙ ap a same))
    (λ later. put_all-gives (put b x (a x)) a vars v later)
    (Contains-cases x v vars at)

pub tests_are_right : TestsAreRight
tests_are_right v = record {
  free = λ f. (free-from v f, from-free v f);
  in_head = λ head. (in_head-from v head, from-in_head v head);
}
