-- What formulas of the compiled program say of the heap of a memory.
use Rattle.std.proofs.Common.{ℕ, ◌≡◌, ◌↔◌, ◌⊎◌, ◌∙◌, List, [], ◌∷◌, Bool, true, false, Option, Some, None}
use Rattle.std.proofs.Common.{All, Contains, inl, inr, ⊎_elim, refl, sym, subst}
use Rattle.std.specs.Prelude.{IfSome}
use Rattle.std.proofs.lemmas.List.Elements.{All-nil, All-cons, All-head}
use Rattle.tv_model.specs.Form.{Form, FNot, FIff, FForall}
use Rattle.tv_model.specs.Heap.{Heap, Holds}
use Rattle.tv_model.specs.Program.{PredForm}
use Rattle.tv_model.specs.Rules.{MeetsProgram, MeetsRule, property_rules, unique_rule, function_rule}
use Rattle.tv_model.specs.Rules.{signed_form, blank}
use Rattle.tv_model.specs.Truth.{Assignment, Truth}
use Rattle.tv_model.proofs.Programs.{holds-individuals}
use Rattle.tv_source.specs.Forms.{SourceForm, TestForm, TAny, TNull, TSame}
use Rattle.tv_source.specs.Valid.{IsVariableOf, IsFieldOf, IsTestOf}
use Rattle.tv_plang_laws.specs.Compiled.{compiled, field_number, points, points_somewhere, test_action}
use Rattle.tv_plang_laws.specs.Heaps.{IsHeapOfMemory}
use Rattle.tv_plang_laws.specs.Memories.{Memory, Reflects, GoesWay, agrees}
use Rattle.tv_plang_laws.proofs.Predicates.{PredAt, of_variable, of_field, of_reach, pred-at}

-- ---- options

pub null-or : (value : Option ℕ) → (value ≡ None) ⊎ ((cell : ℕ) × (value ≡ Some cell))
null-or None = inl refl
null-or (Some cell) = inr (cell, refl)

pub none-some : (value : Option ℕ) (cell : ℕ) → value ≡ None → value ≡ Some cell → ⊥
none-some value cell none some = absurd (cc (sym none ∙ some))

pub one-value : (value : Option ℕ) (cell other : ℕ) → value ≡ Some cell → value ≡ Some other → cell ≡ other
one-value value cell other is is_other = cc (sym is ∙ is_other)

same-values : (value other : Option ℕ) → ((cell : ℕ) → value ≡ Some cell → other ≡ Some cell)
    → ((cell : ℕ) → other ≡ Some cell → value ≡ Some cell) → value ≡ other
same-values None None there back = refl
same-values None (Some cell) there back = back cell refl
same-values (Some cell) other there back = sym (there cell refl)

-- ---- cells

pub is-cell : (p : SourceForm) (m : Memory) (h : Heap) → IsHeapOfMemory p m h → (u : ℕ) → Contains h.individuals u → Contains m.cells u
is-cell p m h is u at = (is.individuals u).0 at

pub is-individual : (p : SourceForm) (m : Memory) (h : Heap) → IsHeapOfMemory p m h → (u : ℕ) → Contains m.cells u → Contains h.individuals u
is-individual p m h is u at = (is.individuals u).1 at

-- the first of a tuple of which a predicate holds
pub holds-first : (p : SourceForm) (m : Memory) (h : Heap) → IsHeapOfMemory p m h → (q u : ℕ) (us : List ℕ) → Holds h q (u ∷ us)
    → Contains h.individuals u
holds-first p m h is q u us holds = All-head (Contains h.individuals) u us (holds-individuals (compiled p) h is.is_heap q (u ∷ us) holds)

-- ---- formulas

pub points-truly : (p : SourceForm) (m : Memory) (h : Heap) → IsHeapOfMemory p m h → (x : ℕ) → IsVariableOf p x → (a : Assignment)
    → Truth h a (points_somewhere x) ↔ ((cell : ℕ) × (m.variable x ≡ Some cell))
points-truly p m h is x declared a = (
  λ t. (t.0, (is.variables x t.0 declared).0 t.2),
  λ t. let holds : Holds h x (t.0 ∷ []) = (is.variables x t.0 declared).1 t.1 in (t.0, holds-first p m h is x t.0 [] holds, holds),
)

pub null-truly : (p : SourceForm) (m : Memory) (h : Heap) → IsHeapOfMemory p m h → (x : ℕ) → IsVariableOf p x → (a : Assignment)
    → Truth h a (FNot (points_somewhere x)) ↔ (m.variable x ≡ None)
null-truly p m h is x declared a =
    let points = points-truly p m h is x declared a
    in (
      λ n. ⊎_elim (λ none. none) (λ some. absurd (n (points.1 some))) (null-or (m.variable x)),
      λ none t. let some = points.0 t in none-some (m.variable x) some.0 none some.1,
    )

pub same-truly : (p : SourceForm) (m : Memory) (h : Heap) → IsHeapOfMemory p m h → (x y : ℕ) → IsVariableOf p x → IsVariableOf p y
    → (a : Assignment) → Truth h a (FForall 0 (FIff (points x 0) (points y 0))) ↔ (m.variable x ≡ m.variable y)
same-truly p m h is x y x_declared y_declared a = (
  λ t. same-values (m.variable x) (m.variable y)
      (λ cell e. let holds : Holds h x (cell ∷ []) = (is.variables x cell x_declared).1 e
      in (is.variables y cell y_declared).0 ((t cell (holds-first p m h is x cell [] holds)).0 holds))
      (λ cell e. let holds : Holds h y (cell ∷ []) = (is.variables y cell y_declared).1 e
      in (is.variables x cell x_declared).0 ((t cell (holds-first p m h is y cell [] holds)).1 holds)),
  λ e u at. (
    λ holds. (is.variables y u y_declared).1 (sym e ∙ (is.variables x u x_declared).0 holds),
    λ holds. (is.variables x u x_declared).1 (e ∙ (is.variables y u y_declared).0 holds),
  ),
)

signed-truly : (flag : Bool) (h : Heap) (a : Assignment) (f : Form) (fact : Type 0) → Truth h a f ↔ fact
    → Reflects flag fact → Truth h a (signed_form flag f)
signed-truly true h a f fact both says = both.1 says
signed-truly false h a f fact both says = λ t. says (both.0 t)

-- a test's precondition is true where the test lets control go that way
pub test-enabled : (p : SourceForm) (m : Memory) (h : Heap) → IsHeapOfMemory p m h → (way : Bool) (test : TestForm) → IsTestOf p test
    → GoesWay way test m → IfSome (test_action way test).pre (Truth h blank)
test-enabled p m h is way TAny declared goes = tt
test-enabled p m h is way (TNull equal x) declared goes =
    signed-truly (agrees equal way) h blank (FNot (points_somewhere x)) (m.variable x ≡ None) (null-truly p m h is x declared blank) goes
test-enabled p m h is way (TSame equal x y) declared goes =
    signed-truly (agrees equal way) h blank (FForall 0 (FIff (points x 0) (points y 0))) (m.variable x ≡ m.variable y)
    (same-truly p m h is x y declared.0 declared.1 blank) goes

-- ---- rules

unique-met : (p : SourceForm) (m : Memory) (h : Heap) → IsHeapOfMemory p m h → (x : ℕ) → IsVariableOf p x → MeetsRule h (unique_rule x)
unique-met p m h is x declared a individuals t =
    one-value (m.variable x) (a 0) (a 1) ((is.variables x (a 0) declared).0 t.0) ((is.variables x (a 1) declared).0 t.1)

function-met : (p : SourceForm) (m : Memory) (h : Heap) → IsHeapOfMemory p m h → (f : ℕ) → IsFieldOf p f
    → MeetsRule h (function_rule (field_number p f))
function-met p m h is f declared a individuals t =
    let cell : Contains m.cells (a 0) = is-cell p m h is (a 0) (holds-first p m h is (field_number p f) (a 0) (a 1 ∷ []) t.0)
    in one-value (m.field f (a 0)) (a 1) (a 2) ((is.fields f (a 0) (a 1) declared cell).0 t.0) ((is.fields f (a 0) (a 2) declared cell).0 t.1)

-- the heap of a memory meets the rules of the compiled program: those of unique variables and of functions
pub meets : (p : SourceForm) (m : Memory) (h : Heap) → IsHeapOfMemory p m h → MeetsProgram (compiled p) h
meets p m h is = record { rules = All-nil (MeetsRule h); properties = λ q d found. at q d (pred-at p q d found) }
  where
    at : (q : ℕ) (d : PredForm) → PredAt p q d → All (MeetsRule h) (property_rules q d.props)
    at q d (of_variable declared name among e) =
        let Met : PredForm → Type 0 = λ c. All (MeetsRule h) (property_rules q c.props)
        in subst Met (sym e) (All-cons (MeetsRule h) (unique_rule q) [] (unique-met p m h is q declared) (All-nil (MeetsRule h)))
    at q d (of_field f declared number name among e) =
        let Met : PredForm → Type 0 = λ c. All (MeetsRule h) (property_rules q c.props)
        in let Of : ℕ → Type 0 = λ n. MeetsRule h (function_rule n)
        in subst Met (sym e)
        (All-cons (MeetsRule h) (function_rule q) [] (subst Of (sym number) (function-met p m h is f declared)) (All-nil (MeetsRule h)))
    at q d (of_reach f x f_declared x_declared behind e) =
        let Met : PredForm → Type 0 = λ c. All (MeetsRule h) (property_rules q c.props) in subst Met (sym e) (All-nil (MeetsRule h))
