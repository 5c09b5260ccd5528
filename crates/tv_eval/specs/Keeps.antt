-- Closures that are kept once closed.
use Rattle.std.specs.Prelude.{ℕ, ◌≡◌, ◌<◌, ◌⊎◌, List, [], length, Option, Some, slice_get, slice_index_or}
use Rattle.tv_kleene.specs.declared.K3.{K3}
use Rattle.tv_model.specs.Form.{Form, form_of, IsFree}
use Rattle.tv_model.specs.Truth.{Assignment}
use Rattle.tv_model.specs.Valid.{IsVariable}
use Rattle.tv_structure_form.specs.StructureForm.{StructureForm, structure_of}
use Rattle.tv_quantifiers.specs.declared.edges.Edges.{Edges}
use Rattle.tv_quantifiers.specs.Parts.{HoldsParts}
use Rattle.tv_eval.specs.declared.kept.Kept.{Kept}
use Rattle.tv_eval.specs.HoldsClosure.{HoldsClosure}

-- the relation at the place of a kept closure holds its values in the structure, whatever the variables
-- stand for; so do the values of quantified formulas that are kept
pub record HoldsClosures (s : StructureForm) (kept : Kept) (rooms : List (List (List K3))) : Type 0 where
  pub each : (k : ℕ) (e : Edges) (a : Assignment) → slice_get kept.closures k ≡ Some (Some e)
      → HoldsClosure s a e.left.0 e.right.0 (form_of e.body.now) (slice_index_or rooms k [])
  pub parts : HoldsParts (structure_of s) kept.parts

-- the closure of the body is kept at the place k
pub record StandsAt (closures : List (Option Edges)) (k left right : ℕ) (body : Form) : Type 0 where
  pub edges : Edges
  pub there : slice_get closures k ≡ Some (Some edges)
  pub same_left : edges.left.0 ≡ left
  pub same_right : edges.right.0 ≡ right
  pub same_body : form_of edges.body.now ≡ body

-- no variable but the closure's own two stands free in its body
abbrev pub HasOnlyOwn : (left right : ℕ) → (body : Form) → Type 0
HasOnlyOwn left right body = (v : ℕ) → IsVariable v → IsFree v body → (v ≡ left) ⊎ (v ≡ right)

-- there is a place for the closure: the room of the next is as large as the closed edges, and no variable but
-- the closure's own two stands free in its body
pub record HasPlace (kept : Kept) (edges : Edges) (closed : List (List K3)) (rooms : List (List (List K3))) :
    Type 0 where
  pub place : kept.next < 8
  pub room : kept.next < length rooms
  pub size : length (slice_index_or rooms kept.next []) ≡ length closed
  pub own : HasOnlyOwn edges.left.0 edges.right.0 (form_of edges.body.now)
