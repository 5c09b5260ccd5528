-- What a formula is at most, whatever some of its variables stand for.
use Rattle.std.specs.Prelude.{ℕ, ◌≡◌, ◌≢◌, ◌+◌, ◌*◌, ◌<◌, List, Option, length, slice_index_or}
use Rattle.tv_kleene.specs.declared.K3.{K3}
use Rattle.tv_kleene.specs.declared.K3.TheVariants.{No}
use Rattle.tv_model.specs.Form.{Form, IsFree}
use Rattle.tv_model.specs.Truth.{Assignment, put}
use Rattle.tv_structure_form.specs.StructureForm.{StructureForm, structure_of}
use Rattle.tv_eval_laws.specs.Value.{value}
use Rattle.tv_quantifiers.specs.Quantified.{turned}
use Rattle.tv_quantifiers.specs.Sets.{IsOutside, AgreeOutside}
use Rattle.tv_quantifiers.specs.declared.quantifier.Quantifier.{Quantifier}
use Rattle.tv_quantifiers.specs.declared.variables.Variables.{Variables}
use Rattle.tv_eval.specs.AssignmentForm.{IsAssigned}

-- with x put for w the formula is No (Yes for "for all"), whatever the hidden variables stand for
abbrev pub IsRuledOut : StructureForm → Assignment → Variables → (w : ℕ) → Quantifier → Form → (x : ℕ)
    → Type 0
IsRuledOut s a hidden w q f x =
    (b : Assignment) → AgreeOutside hidden a b → turned q (value (structure_of s) (put b w x) f) ≡ No

-- a word of 64 values that are No only at individuals that are out
pub record IsCapWord (n chunk : ℕ) (Out : ℕ → Type 0) (word : List K3) : Type 0 where
  pub long : length word ≡ 64
  pub each : (i : ℕ) → i < 64 → 64 * chunk + i < n → slice_index_or word i No ≡ No → Out (64 * chunk + i)

-- a value for each of n individuals, and No only where one is out
pub record IsCapRow (n : ℕ) (Out : ℕ → Type 0) (row : List K3) : Type 0 where
  pub long : length row ≡ n
  pub each : (u : ℕ) → u < n → slice_index_or row u No ≡ No → Out u

-- the free variables of the formula that aren't hidden stand for individuals, w aside
abbrev pub AreSeen : (size : ℕ) → List (Option ℕ) → Variables → (w : ℕ) → Form → Type 0
AreSeen size places hidden w f =
    (v : ℕ) → v ≢ w → IsOutside hidden v → IsFree v f → IsAssigned size places v
