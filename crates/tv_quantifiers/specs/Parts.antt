-- Values of quantified formulas that are kept.
use Rattle.std.specs.Prelude.{ℕ, ◌≡◌, ◌+◌, ◌*◌, List, [], length, Option, Some, slice_get, slice_index_or}
use Rattle.tv_kleene.specs.declared.K3.{K3}
use Rattle.tv_kleene.specs.declared.K3.TheVariants.{No, Yes}
use Rattle.tv_model.specs.Form.{Form, form_of}
use Rattle.tv_model.specs.Truth.{Assignment, put}
use Rattle.tv_embedding_laws.specs.LogicalStructure.{LogicalStructure}
use Rattle.tv_eval_laws.specs.Value.{value}
use Rattle.tv_quantifiers.specs.declared.parts.Held.{Held}
use Rattle.tv_quantifiers.specs.declared.parts.Parts.{Parts}

-- each value that is known is the formula's in the structure, with that individual put for the variable,
-- whatever the other variables stand for
pub record HoldsPart (s : LogicalStructure) (part : Held) (known values : List K3) : Type 0 where
  pub known_long : length known ≡ 64
  pub values_long : length values ≡ 64
  pub each : (a : Assignment) (i : ℕ) → slice_index_or known i No ≡ Yes
      → value s (put a part.var.0 (64 * part.chunk + i)) (form_of part.formula.now)
      ≡ slice_index_or values i No

-- so it is at each place
pub record HoldsParts (s : LogicalStructure) (parts : Parts) : Type 0 where
  pub each : (k : ℕ) (part : Held) → slice_get parts.parts k ≡ Some (Some part)
      → HoldsPart s part (slice_index_or parts.known k []) (slice_index_or parts.values k [])

-- values of the formula stand at the place k, for individuals of that chunk, put for v
pub record StandsAt (parts : List (Option Held)) (k : ℕ) (f : Form) (v chunk : ℕ) : Type 0 where
  pub part : Held
  pub there : slice_get parts k ≡ Some (Some part)
  pub same_formula : form_of part.formula.now ≡ f
  pub same_var : part.var.0 ≡ v
  pub same_chunk : part.chunk ≡ chunk
