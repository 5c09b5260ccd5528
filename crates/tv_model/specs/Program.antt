-- Programs as mathematical values: what a `Program` says, without its boxes and vectors.
use Rattle.std.specs.Prelude.{ℕ, ◌≡◌, Bool, true, false, List, map, Option, None, Some, slice_get}
use Rattle.tv_model.specs.Form.{Form, form_of, vars_of}
use Rattle.tv_model.specs.declared.formula.Formula.{Formula}
use Rattle.tv_model.specs.declared.formula.Var.{Var}
use Rattle.tv_model.specs.declared.program.Kind.{Kind}
use Rattle.tv_model.specs.declared.program.Kind.TheVariants.{Core, Defined}
use Rattle.tv_model.specs.declared.program.Props.{Props}
use Rattle.tv_model.specs.declared.program.Pred.{Pred}
use Rattle.tv_model.specs.declared.program.Head.{Head}
use Rattle.tv_model.specs.declared.program.Head.TheVariants.{Never, Atom, Same}
use Rattle.tv_model.specs.declared.program.Rule.{Rule}
use Rattle.tv_model.specs.declared.program.Change.{Change}
use Rattle.tv_model.specs.declared.program.Change.TheVariants.{Free, To}
use Rattle.tv_model.specs.declared.program.Update.{Update}
use Rattle.tv_model.specs.declared.program.Retain.{Retain}
use Rattle.tv_model.specs.declared.program.Message.{Message}
use Rattle.tv_model.specs.declared.program.Action.{Action}
use Rattle.tv_model.specs.declared.program.Edge.{Edge}
use Rattle.tv_model.specs.declared.program.Program.{Program}

-- whether a predicate is core, or defined: it then holds of its variables exactly where the body does
pub data KindForm : Type 0 where
  KCore : KindForm
  KDefined : (vars : List ℕ) → (body : Form) → KindForm

abbrev pub is_core_kind : KindForm → Bool
is_core_kind KCore = true
is_core_kind (KDefined vars body) = false

-- no property is declared
abbrev pub no_props : Props
no_props = record {
  unique = false;
  function = false;
  invfunction = false;
  transitive = false;
  reflexive = false;
  symmetric = false;
}

-- a predicate of the vocabulary
pub record PredForm : Type 0 where
  pub name : List ℕ
  pub arity : ℕ
  pub kind : KindForm
  pub abs : Bool
  pub props : Props

-- a predicate that is there has no definition
abbrev pub is_core_pred : Option PredForm → Bool
is_core_pred None = false
is_core_pred (Some d) = is_core_kind d.kind

-- what a rule demands: nothing is possible, or an atom or an equality, negated where the flag is false
pub data HeadForm : Type 0 where
  HNever : HeadForm
  HAtom : Bool → (pred : ℕ) → (vars : List ℕ) → HeadForm
  HSame : Bool → ℕ → ℕ → HeadForm

-- a rule: wherever the body is true, so is the head
pub record RuleForm : Type 0 where
  pub body : Form
  pub head : HeadForm

-- what an update does: it leaves its predicate free, or sets it to a formula
pub data ChangeForm : Type 0 where
  CFree : ChangeForm
  CTo : Form → ChangeForm

pub record UpdateForm : Type 0 where
  pub pred : ℕ
  pub vars : List ℕ
  pub change : ChangeForm

-- the individuals that a step keeps: those of which `keep` is true, put for `var`
pub record RetainForm : Type 0 where
  pub var : ℕ
  pub keep : Form

pub record MessageForm : Type 0 where
  pub cond : Form
  pub text : List ℕ

pub record ActionForm : Type 0 where
  pub pre : Option Form
  pub picks : List ℕ
  pub focus : List Form
  pub messages : List MessageForm
  pub fresh : Bool
  pub retain : Option RetainForm
  pub updates : List UpdateForm

-- a program; predicates, actions, edges and nodes are numbered by their places, and node 0 is the start
pub record ProgramForm : Type 0 where
  pub preds : List PredForm
  pub rules : List RuleForm
  pub actions : List ActionForm
  pub edges : List Edge
  pub nodes : List (List ℕ)

-- P holds of each predicate, by its number
abbrev pub EachPred : List PredForm → (ℕ → PredForm → Type 0) → Type 0
EachPred preds P = (q : ℕ) (d : PredForm) → slice_get preds q ≡ Some d → P q d

abbrev pub kind_of : Kind → KindForm
kind_of Core = KCore
kind_of (Defined vars body) = KDefined (vars_of vars) (form_of body)

abbrev pub pred_of : Pred → PredForm
pred_of p = record { name = p.name; arity = p.arity; kind = kind_of p.kind; abs = p.abs; props = p.props }

abbrev pub head_of : Head → HeadForm
head_of Never = HNever
head_of (Atom flag p ts) = HAtom flag p.0 (vars_of ts)
head_of (Same flag v w) = HSame flag v.0 w.0

abbrev pub rule_of : Rule → RuleForm
rule_of r = record { body = form_of r.body; head = head_of r.head }

abbrev pub change_of : Change → ChangeForm
change_of Free = CFree
change_of (To f) = CTo (form_of f)

abbrev pub update_of : Update → UpdateForm
update_of u = record { pred = u.pred.0; vars = vars_of u.vars; change = change_of u.change }

abbrev pub pre_of : Option Formula → Option Form
pre_of None = None
pre_of (Some f) = Some (form_of f)

abbrev pub retain_of : Option Retain → Option RetainForm
retain_of None = None
retain_of (Some r) = Some (record { var = r.var.0; keep = form_of r.keep })

abbrev pub message_of : Message → MessageForm
message_of m = record { cond = form_of m.cond; text = m.text }

abbrev pub picks_of : List Var → List ℕ
picks_of vs = map (λ v. v.0) vs

abbrev pub action_of : Action → ActionForm
action_of a = record {
  pre = pre_of a.pre;
  picks = picks_of a.picks;
  focus = map form_of a.focus;
  messages = map message_of a.messages;
  fresh = a.fresh;
  retain = retain_of a.retain;
  updates = map update_of a.updates;
}

abbrev pub program_of : Program → ProgramForm
program_of p = record {
  preds = map pred_of p.vocab.preds;
  rules = map rule_of p.rules;
  actions = map action_of p.actions;
  edges = p.edges;
  nodes = p.nodes;
}
