-- The closed rules of small rules, written out.
use Rattle.std.specs.Prelude.{ℕ, ◌≡◌, Bool, true, false, [], ◌∷◌}
use Rattle.tv_model.specs.Form.{Form, FOne, FAtom, FSame, FNot, FAnd, FOr, FExists}
use Rattle.tv_model.specs.Program.{ProgramForm, PredForm, KindForm, KCore, KDefined, HeadForm, HNever, HAtom}
use Rattle.tv_model.specs.Program.{HSame, RuleForm}
use Rattle.tv_model.specs.declared.program.Props.{Props}
use Rattle.tv_model.specs.Rules.{function_rule, invfunction_rule, reflexive_rule, unique_rule}
use Rattle.tv_rules.specs.Closing.{base_rules, dropped_rule, further_rules}

abbrev pub rule : Form → HeadForm → RuleForm
rule f head = record { body = f; head = head }

-- the predicates x, b and n
abbrev pub x : ℕ → Form
x v = FAtom 0 (v ∷ [])

abbrev pub b : Form
b = FAtom 1 []

abbrev pub n : ℕ → ℕ → Form
n v w = FAtom 2 (v ∷ w ∷ [])

abbrev pub properties : (unique function invfunction : Bool) → Props
properties unique function invfunction = record {
  unique = unique;
  function = function;
  invfunction = invfunction;
  transitive = false;
  reflexive = false;
  symmetric = false;
}

abbrev pub pred : ℕ → KindForm → Props → PredForm
pred arity kind props = record { name = []; arity = arity; kind = kind; abs = false; props = props }

-- x is unique and defined by b, b is core, n is a function both ways; and one rule is declared
abbrev pub program : ProgramForm
program = record {
  preds =
      pred 1 (KDefined (4 ∷ []) b) (properties true false false) ∷ pred 0 KCore (properties false false false)
      ∷ pred 2 KCore (properties false true true) ∷ [];
  rules = rule b HNever ∷ [];
  actions = [];
  edges = [];
  nodes = [];
}

pub record Samples : Type 0 where
  -- predicate by predicate the properties and the definition, then the declared rules
  pub base : base_rules program
      ≡ unique_rule 0 ∷ rule b (HAtom true 0 (4 ∷ [])) ∷ rule (FNot b) (HAtom false 0 (4 ∷ []))
      ∷ function_rule 2 ∷ invfunction_rule 2 ∷ rule b HNever ∷ []
  -- a rule for each conjunct, with the negated head at its place
  pub function : further_rules (function_rule 2)
      ≡ rule (FAnd (FNot (FSame 1 2)) (n 0 2)) (HAtom false 2 (0 ∷ 1 ∷ []))
      ∷ rule (FAnd (n 0 1) (FNot (FSame 1 2))) (HAtom false 2 (0 ∷ 2 ∷ [])) ∷ []
  -- One isn't a literal
  pub reflexive : further_rules (reflexive_rule 2) ≡ []
  -- Exists is dropped before the further rules are made
  pub never : further_rules (dropped_rule (rule (FExists 0 (x 0)) HNever))
      ≡ rule FOne (HAtom false 0 (0 ∷ [])) ∷ []
  -- no double negations
  pub negative : further_rules (rule (FNot (FSame 0 1)) (HAtom false 2 (0 ∷ 1 ∷ [])))
      ≡ rule (n 0 1) (HSame true 0 1) ∷ []
  -- what isn't a literal gives no rule, and a double negation isn't one
  pub others : further_rules (rule (FAnd (FOr b (x 0)) (FAnd (FNot (FNot b)) b)) (HAtom true 0 (0 ∷ [])))
      ≡ rule (FAnd (FOr b (x 0)) (FAnd (FNot (FNot b)) (FNot (x 0)))) (HAtom false 1 []) ∷ []
  -- an Exists stays where its variable isn't free under it, and hides those below it
  pub bare : dropped_rule (rule (FExists 0 b) HNever) ≡ rule (FExists 0 b) HNever
  pub twice : dropped_rule (rule (FExists 0 (FExists 0 (x 0))) HNever)
      ≡ rule (FExists 0 (FExists 0 (x 0))) HNever
  -- it stays where its variable is the head's
  pub heads : dropped_rule (rule (FExists 0 (x 0)) (HAtom true 3 (0 ∷ [])))
      ≡ rule (FExists 0 (x 0)) (HAtom true 3 (0 ∷ []))
  pub two : dropped_rule (rule (FExists 1 (FExists 2 (n 1 2))) (HAtom true 0 (0 ∷ [])))
      ≡ rule (n 1 2) (HAtom true 0 (0 ∷ []))
