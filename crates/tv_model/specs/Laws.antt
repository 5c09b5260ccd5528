-- Laws of truth and of valid programs, as statements.
use Rattle.std.specs.Prelude.{ℕ, ◌≡◌, ◌↔◌, List, map, Some, All, Contains}
use Rattle.tv_model.specs.Form.{Form, IsFree, Mentions}
use Rattle.tv_model.specs.Heap.{Heap, Holds}
use Rattle.tv_model.specs.Program.{ProgramForm, PredForm, KDefined, RuleForm, CTo, UpdateForm, RetainForm}
use Rattle.tv_model.specs.Program.{MessageForm, ActionForm}
use Rattle.tv_model.specs.Rules.{head_formula}
use Rattle.tv_model.specs.Truth.{Assignment, Truth}
use Rattle.tv_model.specs.Valid.{IsValid, IsFormula, NamesNew}

-- two heaps look alike to the formula: they have the same individuals, the predicates that it mentions hold
-- alike, and the mark is the same where it speaks of the fresh individual
pub record HeapsLookAlike (f : Form) (h k : Heap) : Type 0 where
  pub individuals : (u : ℕ) → Contains h.individuals u ↔ Contains k.individuals u
  pub holds : (q : ℕ) → Mentions q f → (tuple : List ℕ) → Holds h q tuple ↔ Holds k q tuple
  pub marks : NamesNew f → h.fresh ≡ k.fresh

-- truth depends only on what the formula sees of a heap, and on what its free variables stand for
abbrev pub TruthIsLocal : Type 0
TruthIsLocal =
    (f : Form) (h k : Heap) (a b : Assignment) → HeapsLookAlike f h k → ((v : ℕ) → IsFree v f → a v ≡ b v)
    → Truth h a f ↔ Truth k b f

-- the map r renames individuals of h to those of k as far as the formula sees
pub record RenamesHeap (f : Form) (r : ℕ → ℕ) (h k : Heap) : Type 0 where
  pub into : (u : ℕ) → Contains h.individuals u → Contains k.individuals (r u)
  pub onto : (w : ℕ) → Contains k.individuals w → (u : ℕ) × Contains h.individuals u × (r u ≡ w)
  pub injective : (u w : ℕ) → Contains h.individuals u → Contains h.individuals w → r u ≡ r w → u ≡ w
  pub holds : (q : ℕ) → Mentions q f → (tuple : List ℕ) → All (Contains h.individuals) tuple
      → Holds h q tuple ↔ Holds k q (map r tuple)
  pub marks : NamesNew f → (u : ℕ) → Contains h.individuals u → (h.fresh ≡ Some u) ↔ (k.fresh ≡ Some (r u))

-- where r renames individuals, and the free variables stand for individuals and for the renamed ones, the
-- formula is true alike
abbrev pub TruthIsKept : Type 0
TruthIsKept =
    (f : Form) (r : ℕ → ℕ) (h k : Heap) (a b : Assignment) → RenamesHeap f r h k
    → ((v : ℕ) → IsFree v f → Contains h.individuals (a v) × (r (a v) ≡ b v))
    → Truth h a f ↔ Truth k b f

-- P holds of each formula that stands in the program
pub record EachFormula (P : Form → Type 0) (p : ProgramForm) : Type 0 where
  pub definitions : (d : PredForm) (vars : List ℕ) (body : Form) → Contains p.preds d
      → d.kind ≡ KDefined vars body
      → P body
  pub rules : (rule : RuleForm) → Contains p.rules rule → P rule.body
  pub preconditions : (a : ActionForm) (f : Form) → Contains p.actions a → a.pre ≡ Some f → P f
  pub focus : (a : ActionForm) (f : Form) → Contains p.actions a → Contains a.focus f → P f
  pub messages : (a : ActionForm) (m : MessageForm) → Contains p.actions a → Contains a.messages m → P m.cond
  pub retains : (a : ActionForm) (r : RetainForm) → Contains p.actions a → a.retain ≡ Some r → P r.keep
  pub updates : (a : ActionForm) (w : UpdateForm) (f : Form) → Contains p.actions a → Contains a.updates w
      → w.change ≡ CTo f → P f

-- each formula of a valid program, and each head, is one over its vocabulary
pub record FormulasFit (p : ProgramForm) : Type 0 where
  pub formulas : EachFormula (IsFormula p) p
  pub heads : (rule : RuleForm) → Contains p.rules rule → IsFormula p (head_formula rule.head)

abbrev pub ValidFormulasFit : Type 0
ValidFormulasFit = (p : ProgramForm) → IsValid p → FormulasFit p
