-- What the changes that a head asks for touch.
use Rattle.std.specs.Prelude.{ℕ, ◌≡◌, Bool, true, false, IsTrue, List}
use Rattle.tv_kleene.specs.declared.K3.{K3}
use Rattle.tv_kleene.specs.declared.K3.TheVariants.{No, Yes}
use Rattle.tv_kleene.specs.Kleene.{IsAtMost}
use Rattle.tv_model.specs.Program.{HeadForm, HNever, HAtom, HSame}
use Rattle.tv_coerce_moves.specs.Moves.{IsEquality, IsHeadOf, Turns}
use Rattle.tv_structure_form.specs.StructureForm.{StructureForm, value_at, summary_at}
use Rattle.tv_coerce.specs.declared.change.Change.{Change}
use Rattle.tv_coerce.specs.declared.change.Change.TheVariants.{Value, Ordinary}

-- the change is one that the head may ask for: its predicate gets a value that meets it, or a summary becomes
-- an ordinary individual
abbrev pub IsChangeOf : HeadForm → Change → Type 0
IsChangeOf HNever c = ⊥
IsChangeOf (HAtom true pred vars) (Value p tuple k) = (p.0 ≡ pred) × (k ≡ Yes)
IsChangeOf (HAtom false pred vars) (Value p tuple k) = (p.0 ≡ pred) × (k ≡ No)
IsChangeOf (HAtom flag pred vars) (Ordinary x) = ⊥
IsChangeOf (HSame flag v w) (Value p tuple k) = ⊥
IsChangeOf (HSame flag v w) (Ordinary x) = Unit {0}

-- y isn't greater than x, in the order of truth; or isn't smaller, where up is false
abbrev pub HasNotMoved : (up : Bool) → (x y : K3) → Type 0
HasNotMoved true x y = IsAtMost y x
HasNotMoved false x y = IsAtMost x y

-- t differs from s at most by such changes
pub record IsTouched (head : HeadForm) (s t : StructureForm) : Type 0 where
  pub size : t.size ≡ s.size
  pub values : (q : ℕ) → ¬ IsHeadOf q head → (tuple : List ℕ) → value_at t q tuple ≡ value_at s q tuple
  pub moved : (up : Bool) (q : ℕ) → ¬ Turns head up q → (tuple : List ℕ)
      → HasNotMoved up (value_at s q tuple) (value_at t q tuple)
  pub summaries : ¬ IsEquality head → (u : ℕ) → summary_at t u ≡ summary_at s u
  pub fewer : (u : ℕ) → IsTrue (summary_at t u) → IsTrue (summary_at s u)
