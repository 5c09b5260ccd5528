-- What a step of the compiled program makes of variables and fields.
use Rattle.std.proofs.Common.{ℕ, ◌≡◌, ◌↔◌, [], ◌∷◌, List, Option, Some, None, refl, subst, Contains}
use Rattle.tv_model.specs.Form.{Form}
use Rattle.tv_model.specs.Heap.{Heap}
use Rattle.tv_model.specs.Program.{ActionForm, CTo, UpdateForm}
use Rattle.tv_model.specs.Step.{FollowsUpdate, StepsThrough, update_for}
use Rattle.tv_model.specs.Truth.{Assignment, Truth, put}
use Rattle.tv_source.specs.Forms.{SourceForm}
use Rattle.tv_source.specs.Valid.{IsVariableOf, IsFieldOf}
use Rattle.tv_plang_laws.specs.Compiled.{compiled, field_number, field_pred, variable_pred}
use Rattle.tv_plang_laws.proofs.Predicates.{field-found, variable-found}
use Rattle.tv_updates_laws.proofs.Faithful.{Has, IsFaithful, Leads, one-tuple, two-tuple}

-- x(v) = .., where v is variable 0
abbrev pub to_variable : (x : ℕ) → Form → UpdateForm
to_variable x f = record { pred = x; vars = 0 ∷ []; change = CTo f }

abbrev pub to_field : SourceForm → (f : ℕ) → Form → UpdateForm
to_field p f g = record { pred = field_number p f; vars = 0 ∷ 1 ∷ []; change = CTo g }

abbrev Of : (picked : Assignment) → (middle new : Heap) → (q : ℕ) → List ℕ → Option UpdateForm → Type 0
Of picked middle new q tuple o = FollowsUpdate q middle picked o tuple new

module _ (p : SourceForm) (action : ActionForm) (picked : Assignment) (old middle new : Heap)
    (step : StepsThrough (compiled p) action picked old middle new)
    (retains : (u : ℕ) → Contains new.individuals u ↔ Contains middle.individuals u)
    (is : IsFaithful p middle) (becomes : IsFaithful p new)
  where
    variable-follows : (y : ℕ) → IsVariableOf p y → (o : Option UpdateForm) → update_for y action.updates ≡ o
        → (c : ℕ) → Contains new.individuals c → Of picked middle new y (c ∷ []) o
    variable-follows y declared o e c at =
        let found = variable-found p y declared
        in subst (Of picked middle new y (c ∷ [])) e (step.core y (variable_pred found.0) found.1 refl (c ∷ [])
        (one-tuple new c at))

    field-follows : (g : ℕ) → IsFieldOf p g → (o : Option UpdateForm) → update_for (field_number p g)
        action.updates ≡ o
        → (c d : ℕ) → Contains new.individuals c → Contains new.individuals d
        → Of picked middle new (field_number p g) (c ∷ d ∷ []) o
    field-follows g declared o e c d at at_d =
        let found = field-found p g declared
        in subst (Of picked middle new (field_number p g) (c ∷ d ∷ [])) e
        (step.core (field_number p g) (field_pred found.0) found.1 refl (c ∷ d ∷ []) (two-tuple new c d at at_d))

    pub variable-stays : (y : ℕ) → IsVariableOf p y → update_for y action.updates ≡ None → (c : ℕ)
        → Has new y c ↔ Has middle y c
    variable-stays y declared e c = (
      λ has. (variable-follows y declared None e c (becomes.has_individual y c has)).0 has,
      λ has. (variable-follows y declared None e c ((retains c).1 (is.has_individual y c has))).1 has,
    )

    pub variable-becomes : (x : ℕ) → IsVariableOf p x → (f : Form) → update_for x action.updates ≡ Some
        (to_variable x f)
        → ((c : ℕ) → Truth middle (put picked 0 c) f → Contains middle.individuals c)
        → (c : ℕ) → Has new x c ↔ Truth middle (put picked 0 c) f
    variable-becomes x declared f e inside c = (
      λ has. (variable-follows x declared (Some (to_variable x f)) e c (becomes.has_individual x c has)).0 has,
      λ t. (variable-follows x declared (Some (to_variable x f)) e c ((retains c).1 (inside c t))).1 t,
    )

    pub field-stays : (g : ℕ) → IsFieldOf p g → update_for (field_number p g) action.updates ≡ None
        → (c d : ℕ) → Leads p new g c d ↔ Leads p middle g c d
    field-stays g declared e c d = (
      λ leads. let at = becomes.leads_between g c d leads
          in (field-follows g declared None e c d at.0 at.1).0 leads,
      λ leads. let at = is.leads_between g c d leads
          in (field-follows g declared None e c d ((retains c).1 at.0) ((retains d).1 at.1)).1 leads,
    )

    pub field-becomes : (g : ℕ) → IsFieldOf p g → (f : Form) → update_for (field_number p g)
        action.updates ≡ Some (to_field p g f)
        → ((c d : ℕ) → Truth middle (put (put picked 0 c) 1 d) f → Contains middle.individuals c × Contains
        middle.individuals d)
        → (c d : ℕ) → Leads p new g c d ↔ Truth middle (put (put picked 0 c) 1 d) f
    field-becomes g declared f e inside c d = (
      λ leads. let at = becomes.leads_between g c d leads
          in (field-follows g declared (Some (to_field p g f)) e c d at.0 at.1).0 leads,
      λ t. let at = inside c d t
          in (field-follows g declared (Some (to_field p g f)) e c d ((retains c).1 at.0) ((retains d).1 at.1)).1 t,
    )
