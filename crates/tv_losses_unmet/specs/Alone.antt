-- The program that makes one declaration alone.
use Rattle.std.specs.Prelude.{ℕ, suc, Bool, false, ◌==◌, List, [], ◌∷◌, None, slice_get, codes}
use Rattle.std.specs.Prelude.{if◌then◌else◌}
use Rattle.tv_model.specs.Program.{ProgramForm, PredForm, KCore, RuleForm, ActionForm, no_props}
use Rattle.tv_model.specs.declared.program.Edge.{Edge}
use Rattle.tv_losses_unmet.specs.Unmet.{listed}
use Rattle.tv_losses_unmet.specs.declared.claim.Claim.{Claim}
use Rattle.tv_losses_unmet.specs.declared.claim.Claim.TheVariants.{Predicate, Rule}

-- a predicate of which nothing is declared
abbrev pub plain_pred : PredForm → PredForm
plain_pred d = record { name = d.name; arity = d.arity; kind = KCore; abs = d.abs; props = no_props }

abbrev pub kept_pred : Bool → PredForm → PredForm
kept_pred on d = if on then d else plain_pred d

-- it is what is declared of the predicate of this number
abbrev pub is_of : Claim → ℕ → Bool
is_of (Predicate q) number = q.0 == number
is_of (Rule k) number = false

-- the predicates, the first of which has the number q, as the claim leaves them
abbrev pub preds_alone : Claim → (q : ℕ) → List PredForm → List PredForm
preds_alone claim q [] = []
preds_alone claim q (d ∷ preds) = kept_pred (is_of claim q) d ∷ preds_alone claim (suc q) preds

abbrev pub rules_alone : Claim → List RuleForm → List RuleForm
rules_alone (Predicate q) rules = []
rules_alone (Rule number) rules = listed (slice_get rules number)

-- an action that does nothing
abbrev pub idle : ActionForm
idle = record {
  pre = None;
  picks = [];
  focus = [];
  messages = [];
  fresh = false;
  retain = None;
  updates = [];
}

abbrev pub loop_edge : Edge
loop_edge = record { from = 0; action = 0; to = 0 }

-- the program over the same predicates that declares this alone, and does nothing at its only node
abbrev pub alone : Claim → ProgramForm → ProgramForm
alone claim p = record {
  preds = preds_alone claim 0 p.preds;
  rules = rules_alone claim p.rules;
  actions = idle ∷ [];
  edges = loop_edge ∷ [];
  nodes = codes "L" ∷ [];
}
