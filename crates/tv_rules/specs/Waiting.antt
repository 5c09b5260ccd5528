-- What trying a closed rule goes by: the members of its family, and which of them its head denies.
use Rattle.std.specs.Prelude.{ℕ, ◌≡◌, ◌≢◌, ◌↔◌, List, [], ◌∷◌, ◌++◌, map, Some, Contains, slice_get}
use Rattle.tv_coerce_members.specs.Members.{IsLaidOut, members_of}
use Rattle.tv_coerce_members.specs.declared.shapes.Shape.{Shape}
use Rattle.tv_model.specs.Form.{Form}
use Rattle.tv_model.specs.Program.{RuleForm}
use Rattle.tv_rules.specs.Closing.{conjuncts, negated_head}
use Rattle.tv_rules.specs.EntryForms.{AreFreeIn}

-- what the members of a shape say
abbrev pub forms_in : Shape → List Form
forms_in shape = map (λ m. m.form) (members_of shape.members)

-- the shape is that of the base rule
pub record IsShape (rule : RuleForm) (shape : Shape) : Type 0 where
  pub free : AreFreeIn rule shape.variables
  pub members : forms_in shape ≡ conjuncts rule.body ++ negated_head rule.head ∷ []
  pub laid : IsLaidOut shape

-- the rule's conjuncts are all of these forms but one, and its head denies that one
pub record IsAllBut (forms : List Form) (skip : ℕ) (rule : RuleForm) : Type 0 where
  pub others : (f : Form) → Contains (conjuncts rule.body) f
      ↔ ((k : ℕ) × (k ≢ skip) × (slice_get forms k ≡ Some f))
  pub denied : slice_get forms skip ≡ Some (negated_head rule.head)
