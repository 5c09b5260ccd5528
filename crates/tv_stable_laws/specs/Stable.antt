-- Stable structures: those that meet rules as far as a three-valued structure can (compare Sagiv, Reps
-- and Wilhelm 2002, section 6.4).
use Rattle.std.specs.Prelude.{ℕ, ◌≡◌, ◌⊎◌, IsTrue, List, [], ◌∷◌, All}
use Rattle.tv_kleene.specs.declared.K3.TheVariants.{Half, Yes}
use Rattle.tv_model.specs.Program.{HeadForm, HNever, HAtom, HSame, RuleForm}
use Rattle.tv_model.specs.Rules.{head_formula, IsOfIndividuals}
use Rattle.tv_model.specs.Truth.{Assignment}
use Rattle.tv_embedding_laws.specs.LogicalStructure.{LogicalStructure}
use Rattle.tv_embedding_laws.specs.Embedding.{IsBelow}
use Rattle.tv_eval_laws.specs.Value.{value}

-- both places of the head are the variable v
abbrev pub IsTwice : ℕ → HeadForm → Type 0
IsTwice v HNever = ⊥
IsTwice v (HAtom flag pred vars) = vars ≡ v ∷ v ∷ []
IsTwice v (HSame flag w u) = (w ≡ v) × (u ≡ v)

-- the head may stay unknown: it has one variable twice, which stands on a summary. It says of each cell
-- there something about itself, and nothing about two different cells
pub record MayStayHalf (s : LogicalStructure) (a : Assignment) (head : HeadForm) : Type 0 where
  pub var : ℕ
  pub twice : IsTwice var head
  pub summary : IsTrue (s.is_summary (a var))
  pub half : value s a (head_formula head) ≡ Half

-- the head is met: its value is Yes, or Half where it may stay so
abbrev pub IsHeadMet : LogicalStructure → Assignment → HeadForm → Type 0
IsHeadMet s a head = (value s a (head_formula head) ≡ Yes) ⊎ MayStayHalf s a head

-- wherever the body is Yes, under an assignment of individuals to the rule's free variables, the head
-- is met
abbrev pub IsStableUnder : LogicalStructure → RuleForm → Type 0
IsStableUnder s rule =
    (a : Assignment) → IsOfIndividuals s.individuals rule a → value s a rule.body ≡ Yes
    → IsHeadMet s a rule.head

-- the structure is stable under the rules
abbrev pub IsStable : List RuleForm → LogicalStructure → Type 0
IsStable rules s = All (IsStableUnder s) rules

-- r is the greatest stable structure below t: each stable structure below t lies below it
pub record IsGreatestStable (rules : List RuleForm) (t r : LogicalStructure) : Type 0 where
  pub below : IsBelow r t
  pub stable : IsStable rules r
  pub greatest : (u : LogicalStructure) → IsBelow u t → IsStable rules u → IsBelow u r

-- no stable structure lies below t
abbrev pub HasNoStable : List RuleForm → LogicalStructure → Type 0
HasNoStable rules t = (u : LogicalStructure) → IsBelow u t → ¬ IsStable rules u
