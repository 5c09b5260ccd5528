-- Heaps over a program: their shape, their defined predicates, and the rules that they meet.
use Rattle.std.specs.Prelude.{ℕ, ◌≡◌, ◌≢◌, ◌⊎◌, ◌↔◌, Bool, true, false, List, [], ◌∷◌, ◌++◌, length, None}
use Rattle.std.specs.Prelude.{All, AllPairs, Contains, if◌then◌else◌}
use Rattle.tv_model.specs.declared.program.Props.{Props}
use Rattle.tv_model.specs.Form.{Form, FZero, FOne, FAtom, FSame, FNot, FAnd, IsFree}
use Rattle.tv_model.specs.Heap.{Heap, Holds, IsTuple, extent}
use Rattle.tv_model.specs.Program.{ProgramForm, EachPred, KindForm, KCore, KDefined, HeadForm, HNever, HAtom}
use Rattle.tv_model.specs.Program.{HSame, RuleForm}
use Rattle.tv_model.specs.Truth.{Assignment, Truth, put_all}

-- a heap over the program's vocabulary, with no individual marked as fresh
pub record IsHeap (p : ProgramForm) (h : Heap) : Type 0 where
  pub individuals_differ : AllPairs ◌≢◌ h.individuals
  pub one_extent_each : length h.extents ≡ length p.preds
  pub tuples_fit : EachPred p.preds (λ q d. All (IsTuple h d.arity) (extent h q))
  pub no_mark : h.fresh ≡ None

-- the assignment of nothing in particular: in a valid program, what it gives to a variable that isn't put is
-- never read
abbrev pub blank : Assignment
blank v = 0

-- a defined predicate holds of the tuple exactly where its definition is true
abbrev pub MeetsDefinition : Heap → ℕ → KindForm → List ℕ → Type 0
MeetsDefinition h q KCore tuple = Unit {0}
MeetsDefinition h q (KDefined vars body) tuple = Holds h q tuple ↔ Truth h (put_all blank vars tuple) body

-- each defined predicate holds exactly of the tuples of individuals of which its definition is true
abbrev pub IsConcrete : ProgramForm → Heap → Type 0
IsConcrete p h =
    EachPred p.preds (λ q d. (tuple : List ℕ) → IsTuple h d.arity tuple → MeetsDefinition h q d.kind tuple)

-- the formula where the flag is true, else its negation
abbrev pub signed_form : Bool → Form → Form
signed_form true f = f
signed_form false f = FNot f

-- the head of a rule as a formula
abbrev pub head_formula : HeadForm → Form
head_formula HNever = FZero
head_formula (HAtom flag pred vars) = signed_form flag (FAtom pred vars)
head_formula (HSame flag v w) = signed_form flag (FSame v w)

-- the variable v stands in the head
abbrev pub IsInHead : ℕ → HeadForm → Type 0
IsInHead v HNever = ⊥
IsInHead v (HAtom flag pred vars) = Contains vars v
IsInHead v (HSame flag w u) = (v ≡ w) ⊎ (v ≡ u)

-- the variable v is free in the rule: in its body or in its head
abbrev pub IsFreeInRule : ℕ → RuleForm → Type 0
IsFreeInRule v rule = IsFree v rule.body ⊎ IsInHead v rule.head

-- the assignment gives individuals to the free variables of the rule
abbrev pub IsOfIndividuals : (individuals : List ℕ) → RuleForm → Assignment → Type 0
IsOfIndividuals individuals rule a = (v : ℕ) → IsFreeInRule v rule → Contains individuals (a v)

-- wherever the body is true, so is the head
abbrev pub MeetsRule : Heap → RuleForm → Type 0
MeetsRule h rule =
    (a : Assignment) → IsOfIndividuals h.individuals rule a → Truth h a rule.body
    → Truth h a (head_formula rule.head)

-- the rules that the properties of the predicate p stand for, over the variables 0, 1 and 2
abbrev pub unique_rule : ℕ → RuleForm
unique_rule p = record { body = FAnd (FAtom p (0 ∷ [])) (FAtom p (1 ∷ [])); head = HSame true 0 1 }

abbrev pub function_rule : ℕ → RuleForm
function_rule p = record { body = FAnd (FAtom p (0 ∷ 1 ∷ [])) (FAtom p (0 ∷ 2 ∷ [])); head = HSame true 1 2 }

abbrev pub invfunction_rule : ℕ → RuleForm
invfunction_rule p =
    record { body = FAnd (FAtom p (1 ∷ 0 ∷ [])) (FAtom p (2 ∷ 0 ∷ [])); head = HSame true 1 2 }

abbrev pub transitive_rule : ℕ → RuleForm
transitive_rule p =
    record { body = FAnd (FAtom p (0 ∷ 1 ∷ [])) (FAtom p (1 ∷ 2 ∷ [])); head = HAtom true p (0 ∷ 2 ∷ []) }

abbrev pub reflexive_rule : ℕ → RuleForm
reflexive_rule p = record { body = FOne; head = HAtom true p (0 ∷ 0 ∷ []) }

abbrev pub symmetric_rule : ℕ → RuleForm
symmetric_rule p = record { body = FAtom p (0 ∷ 1 ∷ []); head = HAtom true p (1 ∷ 0 ∷ []) }

-- the rule, where its property is declared
abbrev pub declared_rule : Bool → RuleForm → List RuleForm
declared_rule flag rule = if flag then rule ∷ [] else []

-- the rules of the declared properties of the predicate p
abbrev pub property_rules : ℕ → Props → List RuleForm
property_rules p props =
    declared_rule props.unique (unique_rule p)
    ++ declared_rule props.function (function_rule p)
    ++ declared_rule props.invfunction (invfunction_rule p)
    ++ declared_rule props.transitive (transitive_rule p)
    ++ declared_rule props.reflexive (reflexive_rule p)
    ++ declared_rule props.symmetric (symmetric_rule p)

-- the heap meets every declared rule and the rule of every property
pub record MeetsProgram (p : ProgramForm) (h : Heap) : Type 0 where
  pub rules : All (MeetsRule h) p.rules
  pub properties : EachPred p.preds (λ q d. All (MeetsRule h) (property_rules q d.props))
