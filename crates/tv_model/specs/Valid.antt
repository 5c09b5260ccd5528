-- Which programs are valid: what the front end promises of a program that it answers.
use Rattle.std.specs.Prelude.{ℕ, ◌≡◌, ◌≢◌, ◌≤◌, ◌<◌, ◌⊎◌, Bool, not, ◌==◌, IsTrue, List, [], ◌∷◌, ◌++◌}
use Rattle.std.specs.Prelude.{length, map, filter, Option, Some, None, All, AllPairs, Contains, slice_get}
use Rattle.std.specs.Prelude.{codes}
use Rattle.tv_model.specs.declared.program.Edge.{Edge}
use Rattle.tv_model.specs.declared.program.Props.{Props}
use Rattle.tv_model.specs.Form.{Form, FZero, FOne, FAtom, FIsNew, FSame, FNot, FAnd, FOr, FIff, FCond}
use Rattle.tv_model.specs.Form.{FExists, FForall, FClosure, IsFree, Mentions}
use Rattle.tv_model.specs.Program.{ProgramForm, PredForm, EachPred, KindForm, KCore, KDefined, HeadForm}
use Rattle.tv_model.specs.Program.{HNever, HAtom, HSame, RuleForm, ChangeForm, CFree, CTo, UpdateForm}
use Rattle.tv_model.specs.Program.{RetainForm, MessageForm, ActionForm}
use Rattle.tv_model.specs.Spelling.{IsName, IsText, IsWord}

-- a variable's number
abbrev pub IsVariable : ℕ → Type 0
IsVariable v = v < 32

-- the arities of the program's predicates, by number
abbrev pub program_arities : ProgramForm → List ℕ
program_arities p = map (λ d. d.arity) p.preds

-- the arity of a predicate of the vocabulary
abbrev pub arity_of : ProgramForm → ℕ → Option ℕ
arity_of p q = slice_get (program_arities p) q

-- a formula over predicates of these arities: each atom has a predicate of its arity, variables are in
-- range, and the two own variables of a closure differ
abbrev pub IsFormulaOver : (arities : List ℕ) → Form → Type 0
IsFormulaOver arities FZero = Unit {0}
IsFormulaOver arities FOne = Unit {0}
IsFormulaOver arities (FAtom q vars) = (slice_get arities q ≡ Some (length vars)) × All IsVariable vars
IsFormulaOver arities (FIsNew v) = IsVariable v
IsFormulaOver arities (FSame v w) = IsVariable v × IsVariable w
IsFormulaOver arities (FNot f) = IsFormulaOver arities f
IsFormulaOver arities (FAnd f g) = IsFormulaOver arities f × IsFormulaOver arities g
IsFormulaOver arities (FOr f g) = IsFormulaOver arities f × IsFormulaOver arities g
IsFormulaOver arities (FIff f g) = IsFormulaOver arities f × IsFormulaOver arities g
IsFormulaOver arities (FCond c f g) =
    IsFormulaOver arities c × IsFormulaOver arities f × IsFormulaOver arities g
IsFormulaOver arities (FExists v f) = IsVariable v × IsFormulaOver arities f
IsFormulaOver arities (FForall v f) = IsVariable v × IsFormulaOver arities f
IsFormulaOver arities (FClosure from to left right f) =
    IsVariable from × IsVariable to × IsVariable left × IsVariable right × (left ≢ right)
    × IsFormulaOver arities f

-- a formula over the program's vocabulary
abbrev pub IsFormula : ProgramForm → Form → Type 0
IsFormula p f = IsFormulaOver (program_arities p) f

-- the formula speaks of the fresh individual
abbrev pub NamesNew : Form → Type 0
NamesNew FZero = ⊥
NamesNew FOne = ⊥
NamesNew (FAtom q vars) = ⊥
NamesNew (FIsNew v) = Unit {0}
NamesNew (FSame v w) = ⊥
NamesNew (FNot f) = NamesNew f
NamesNew (FAnd f g) = NamesNew f ⊎ NamesNew g
NamesNew (FOr f g) = NamesNew f ⊎ NamesNew g
NamesNew (FIff f g) = NamesNew f ⊎ NamesNew g
NamesNew (FCond c f g) = NamesNew c ⊎ NamesNew f ⊎ NamesNew g
NamesNew (FExists v f) = NamesNew f
NamesNew (FForall v f) = NamesNew f
NamesNew (FClosure from to left right f) = NamesNew f

-- a formula over the vocabulary that doesn't speak of a fresh individual
abbrev pub IsPlainFormula : ProgramForm → Form → Type 0
IsPlainFormula p f = IsFormula p f × (¬ NamesNew f)

-- a formula that speaks of a fresh individual only where the action adds one
abbrev pub IsFormulaWithNew : ProgramForm → (fresh : Bool) → Form → Type 0
IsFormulaWithNew p fresh f = IsFormula p f × (NamesNew f → IsTrue fresh)

-- only these variables are free in the formula
abbrev pub IsOver : List ℕ → Form → Type 0
IsOver vars f = (v : ℕ) → IsFree v f → Contains vars v

-- the list without the variable
abbrev pub without : ℕ → List ℕ → List ℕ
without v vars = filter (λ w. not (w == v)) vars

-- the free occurrences of variables in reading order
abbrev pub free_occurrences : Form → List ℕ
free_occurrences FZero = []
free_occurrences FOne = []
free_occurrences (FAtom q vars) = vars
free_occurrences (FIsNew v) = v ∷ []
free_occurrences (FSame v w) = v ∷ w ∷ []
free_occurrences (FNot f) = free_occurrences f
free_occurrences (FAnd f g) = free_occurrences f ++ free_occurrences g
free_occurrences (FOr f g) = free_occurrences f ++ free_occurrences g
free_occurrences (FIff f g) = free_occurrences f ++ free_occurrences g
free_occurrences (FCond c f g) = free_occurrences c ++ free_occurrences f ++ free_occurrences g
free_occurrences (FExists v f) = without v (free_occurrences f)
free_occurrences (FForall v f) = without v (free_occurrences f)
free_occurrences (FClosure from to left right f) =
    from ∷ to ∷ without left (without right (free_occurrences f))

-- each variable of the list once, in order of first occurrence
abbrev pub first_occurrences : List ℕ → List ℕ
first_occurrences [] = []
first_occurrences (v ∷ vars) = v ∷ without v (first_occurrences vars)

-- n different variables
abbrev pub AreVariables : ℕ → List ℕ → Type 0
AreVariables n vars = (length vars ≡ n) × All IsVariable vars × AllPairs ◌≢◌ vars

-- a definition has as many different variables as its predicate's arity, and its formula is over these
abbrev pub IsKind : ProgramForm → (arity : ℕ) → KindForm → Type 0
IsKind p arity KCore = Unit {0}
IsKind p arity (KDefined vars body) = AreVariables arity vars × IsPlainFormula p body × IsOver vars body

-- each property stands at the arity that it asks for
pub record AreProperties (arity : ℕ) (props : Props) : Type 0 where
  pub unique : IsTrue props.unique → arity ≡ 1
  pub function : IsTrue props.function → arity ≡ 2
  pub invfunction : IsTrue props.invfunction → arity ≡ 2
  pub transitive : IsTrue props.transitive → arity ≡ 2
  pub reflexive : IsTrue props.reflexive → arity ≡ 2
  pub symmetric : IsTrue props.symmetric → arity ≡ 2

pub record IsPred (p : ProgramForm) (d : PredForm) : Type 0 where
  pub name : IsName d.name × (d.name ≢ codes "sm") × (d.name ≢ codes "isNew")
  pub arity : d.arity ≤ 2
  pub kind : IsKind p d.arity d.kind
  pub props : AreProperties d.arity d.props

abbrev pub IsHead : ProgramForm → HeadForm → Type 0
IsHead p HNever = Unit {0}
IsHead p (HAtom flag q vars) = (arity_of p q ≡ Some (length vars)) × All IsVariable vars
IsHead p (HSame flag v w) = IsVariable v × IsVariable w

abbrev pub IsRule : ProgramForm → RuleForm → Type 0
IsRule p rule = IsPlainFormula p rule.body × IsHead p rule.head

-- a message's condition has no free variables
abbrev pub IsMessage : ProgramForm → MessageForm → Type 0
IsMessage p m = IsPlainFormula p m.cond × IsOver [] m.cond × IsText m.text

-- the precondition is any formula, and the picked variables are its free ones in order of first occurrence
abbrev pub IsPrecondition : ProgramForm → Option Form → (picks : List ℕ) → Type 0
IsPrecondition p None picks = picks ≡ []
IsPrecondition p (Some f) picks = IsPlainFormula p f × (picks ≡ first_occurrences (free_occurrences f))

-- the retain formula is over the picked variables and one more
abbrev pub IsRetain : ProgramForm → ActionForm → Option RetainForm → Type 0
IsRetain p action None = Unit {0}
IsRetain p action (Some r) =
    IsFormulaWithNew p action.fresh r.keep × IsOver (r.var ∷ action.picks) r.keep
    × IsVariable r.var × (¬ Contains action.picks r.var)

-- the formula of an update is over its own variables and the picked ones; only a core predicate may be
-- left free
abbrev pub IsChange : ProgramForm → ActionForm → PredForm → (vars : List ℕ) → ChangeForm → Type 0
IsChange p action d vars CFree = d.kind ≡ KCore
IsChange p action d vars (CTo f) = IsFormulaWithNew p action.fresh f × IsOver (vars ++ action.picks) f

abbrev pub IsUpdate : ProgramForm → ActionForm → UpdateForm → Type 0
IsUpdate p action w =
    (d : PredForm) × (slice_get p.preds w.pred ≡ Some d) × AreVariables d.arity w.vars
    × IsChange p action d w.vars w.change

pub record IsAction (p : ProgramForm) (action : ActionForm) : Type 0 where
  pub precondition : IsPrecondition p action.pre action.picks
  pub focus : All (IsPlainFormula p) action.focus
  pub messages : All (IsMessage p) action.messages
  pub message_count : length action.messages ≤ 65536
  pub retain : IsRetain p action action.retain
  pub updates : All (IsUpdate p action) action.updates
  pub updated_once : AllPairs ◌≢◌ (map (λ w. w.pred) action.updates)

-- nodes and action of an edge are the program's
abbrev pub IsEdge : ProgramForm → Edge → Type 0
IsEdge p edge =
    (edge.from < length p.nodes) × (edge.to < length p.nodes) × (edge.action < length p.actions)

-- no definition rests on itself, directly or through others: there are ranks that fall along mentions
pub record IsRank (p : ProgramForm) (rank : ℕ → ℕ) : Type 0 where
  pub falls : EachPred p.preds (λ q d. (vars : List ℕ) (body : Form) → d.kind ≡ KDefined vars body
      → (r : ℕ) → Mentions r body → rank r < rank q)

pub record IsValid (p : ProgramForm) : Type 0 where
  pub preds : All (IsPred p) p.preds
  pub pred_names_differ : AllPairs ◌≢◌ (map (λ d. d.name) p.preds)
  pub pred_count : length p.preds ≤ 512
  pub rank : ℕ → ℕ
  pub no_cycle : IsRank p rank
  pub rules : All (IsRule p) p.rules
  pub rule_count : length p.rules ≤ 65536
  pub actions : All (IsAction p) p.actions
  pub edges : All (IsEdge p) p.edges
  pub some_edge : 0 < length p.edges
  pub edge_count : length p.edges ≤ 16384
  pub nodes : All IsWord p.nodes
  pub node_names_differ : AllPairs ◌≢◌ p.nodes
  pub node_count : length p.nodes ≤ 4096
