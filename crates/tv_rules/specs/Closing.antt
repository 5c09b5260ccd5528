-- The closed set of a program's rules: its base rules, and what follows from each of them about one
-- conjunct of its body.
use Rattle.std.specs.Prelude.{ℕ, suc, Bool, true, false, not, ◌==◌, ◌&&◌, ◌||◌, List, [], ◌∷◌, ◌++◌, map}
use Rattle.std.specs.Prelude.{flat_map, filter_map, Option, None, Some, if◌then◌else◌}
use Rattle.tv_model.specs.Form.{Form, FZero, FOne, FAtom, FIsNew, FSame, FNot, FAnd, FOr, FIff, FCond}
use Rattle.tv_model.specs.Form.{FExists, FForall, FClosure}
use Rattle.tv_model.specs.Free.{has_variable, is_free}
use Rattle.tv_model.specs.Program.{ProgramForm, PredForm, KindForm, KCore, KDefined, HeadForm, HNever, HAtom}
use Rattle.tv_model.specs.Program.{HSame, RuleForm}
use Rattle.tv_model.specs.Rules.{property_rules}

-- whether the variable v stands in the head
abbrev pub is_in_head : ℕ → HeadForm → Bool
is_in_head v HNever = false
is_in_head v (HAtom flag pred vars) = has_variable v vars
is_in_head v (HSame flag w u) = (v == w) || (v == u)

-- the rules of a predicate's definition: it holds where its body is true, and nowhere else
abbrev pub definition_rules : ℕ → KindForm → List RuleForm
definition_rules q KCore = []
definition_rules q (KDefined vars body) =
    record { body = body; head = HAtom true q vars } ∷ record {
      body = FNot body;
      head = HAtom false q vars;
    } ∷ []

abbrev pub pred_rules : ℕ → PredForm → List RuleForm
pred_rules q d = property_rules q d.props ++ definition_rules q d.kind

-- the rules of these predicates, the first of which has the number q
abbrev pub rules_from : ℕ → List PredForm → List RuleForm
rules_from q [] = []
rules_from q (d ∷ preds) = pred_rules q d ++ rules_from (suc q) preds

-- the rules of the predicates, then the declared ones
abbrev pub base_rules : ProgramForm → List RuleForm
base_rules p = rules_from 0 p.preds ++ p.rules

-- an Exists over v at the top may be dropped: v isn't the head's, and stands free under it
abbrev pub may_drop : ℕ → HeadForm → Form → Bool
may_drop v head f = not (is_in_head v head) && is_free v f

-- the body without each Exists at its top, up to the first that stays
abbrev pub dropped : HeadForm → Form → Form
dropped head (FExists v f) = if may_drop v head f then dropped head f else FExists v f
dropped head f = f

abbrev pub rule_of_parts : Form → HeadForm → RuleForm
rule_of_parts body head = record { body = body; head = head }

abbrev pub dropped_rule : RuleForm → RuleForm
dropped_rule rule = record { body = dropped rule.head rule.body; head = rule.head }

-- the conjuncts of the formula: And is taken apart as often as it stands at the top
abbrev pub conjuncts : Form → List Form
conjuncts (FAnd f g) = conjuncts f ++ conjuncts g
conjuncts f = f ∷ []

-- the list with x at its first place, at its second, and so on
abbrev pub puttings : Form → List Form → List (List Form)
puttings x [] = []
puttings x (f ∷ fs) = (x ∷ fs) ∷ map (λ gs. f ∷ gs) (puttings x fs)

-- a conjunct of a body, and the body with another formula at the conjunct's place
pub record Swap : Type 0 where
  pub conjunct : Form
  pub body : Form

abbrev pub swap_left : Form → Swap → Swap
swap_left g s = record { conjunct = s.conjunct; body = FAnd s.body g }

abbrev pub swap_right : Form → Swap → Swap
swap_right f s = record { conjunct = s.conjunct; body = FAnd f s.body }

-- the conjuncts of the formula in order, each with x put at its place
abbrev pub swaps : Form → Form → List Swap
swaps x (FAnd f g) = map (swap_left g) (swaps x f) ++ map (swap_right f) (swaps x g)
swaps x f = record { conjunct = f; body = x } ∷ []

-- the atom or equality as a head, negated where the flag is false
abbrev pub signed_head : Bool → Form → Option HeadForm
signed_head flag (FAtom p vars) = Some (HAtom flag p vars)
signed_head flag (FSame v w) = Some (HSame flag v w)
signed_head flag f = None

-- the negation of a literal as a head; there is none where the formula isn't a literal
abbrev pub negated : Form → Option HeadForm
negated (FNot f) = signed_head true f
negated f = signed_head false f

-- the formula where the flag is false, else its negation
abbrev pub negated_if : Bool → Form → Form
negated_if true f = FNot f
negated_if false f = f

-- the negation of a head as a formula, with no double negation
abbrev pub negated_head : HeadForm → Form
negated_head HNever = FOne
negated_head (HAtom flag p vars) = negated_if flag (FAtom p vars)
negated_head (HSame flag v w) = negated_if flag (FSame v w)

abbrev pub rule_with : Form → Option HeadForm → Option RuleForm
rule_with body None = None
rule_with body (Some head) = Some (record { body = body; head = head })

-- for each conjunct that is a literal: where the rest of the body is true and the head isn't, the
-- conjunct is false
abbrev pub further_rules : RuleForm → List RuleForm
further_rules rule =
    filter_map (λ s. rule_with s.body (negated s.conjunct)) (swaps (negated_head rule.head) rule.body)

-- the base rules, then the further rules of each
abbrev pub closed_set : List RuleForm → List RuleForm
closed_set bases = bases ++ flat_map further_rules bases

-- the closed rules of a program: the closed set of its base rules after the dropping
abbrev pub closed_rules : ProgramForm → List RuleForm
closed_rules p = closed_set (map dropped_rule (base_rules p))
