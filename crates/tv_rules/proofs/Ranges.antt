-- The closed rules of a valid program: their predicates and variables are in range, and they are plain.
use Rattle.std.proofs.Common.{ℕ, ◌≡◌, ◌<◌, ◌∙◌, List, length, map, Option, None, Some, slice_get, Result, Ok}
use Rattle.std.proofs.Common.{Err, IfOk, ⊎_elim, refl, sym, ap, subst, All, Contains, arith}
use Rattle.std.specs.Option.{option_map}
use Rattle.std.proofs.lemmas.Option.{slice_get-map, slice_get_within}
use Rattle.std.proofs.lemmas.List.Elements.{All-contains, All-weaker}
use Rattle.tv_model.specs.Form.{Form, FZero, FOne, FAtom, FIsNew, FSame, FNot, FAnd, FOr, FIff, FCond}
use Rattle.tv_model.specs.Form.{FExists, FForall, FClosure, IsFree, Mentions}
use Rattle.tv_model.specs.declared.program.Rule.{Rule}
use Rattle.tv_model.specs.Program.{ProgramForm, PredForm, HeadForm, HNever, HAtom, HSame, RuleForm, rule_of}
use Rattle.tv_model.specs.Rules.{IsInHead}
use Rattle.tv_model.specs.Valid.{IsValid, IsPred, IsRule, IsHead, IsFormula, IsFormulaOver, IsVariable}
use Rattle.tv_model.specs.Valid.{arity_of, program_arities}
use Rattle.tv_stable_laws.specs.Laws.{IsPlainRule, IsShort}
use Rattle.tv_model.specs.Rules.{IsFreeInRule}
use Rattle.tv_rules.specs.Closing.{base_rules, dropped_rule, closed_set, closed_rules}
use Rattle.tv_rules.specs.EntryForms.{rules_of}
use Rattle.tv_rules.specs.Standing.{StandsIn, IsHeadOf}
use Rattle.tv_rules.proofs.MetByHeaps.{All-found}
use Rattle.tv_rules.proofs.Plain.{closed_rules_are_rules, dropped_are}

arity-found : (p : ProgramForm) (q n : ℕ) → arity_of p q ≡ Some n → (d : PredForm) × (slice_get p.preds q ≡ Some d) × (d.arity ≡ n)
arity-found p q n e =
    go (slice_get p.preds q) refl (sym (slice_get-map (λ (d : PredForm). d.arity) p.preds q) ∙ e)
  where
    go : (o : Option PredForm) → slice_get p.preds q ≡ o → option_map (λ (d : PredForm). d.arity) o ≡ Some n
        → (d : PredForm) × (slice_get p.preds q ≡ Some d) × (d.arity ≡ n)
    go None there none = absurd (cc none)
    go (Some d) there same = (d, there, cc same)

in_range : (p : ProgramForm) (q n : ℕ) → arity_of p q ≡ Some n → q < length p.preds
in_range p q n e =
    let found : (d : PredForm) × (slice_get p.preds q ≡ Some d) × (d.arity ≡ n) = arity-found p q n e
    in slice_get_within p.preds q found.0 found.1

mentions-in_range : (p : ProgramForm) (q : ℕ) (f : Form) → IsFormula p f → Mentions q f → q < length p.preds
mentions-in_range p q FZero is k = absurd k
mentions-in_range p q FOne is k = absurd k
mentions-in_range p q (FAtom r vars) is k =
    let Below : ℕ → Type 0 = λ x. x < length p.preds in subst Below (sym k) (in_range p r (length vars) is.0)
mentions-in_range p q (FIsNew v) is k = absurd k
mentions-in_range p q (FSame v w) is k = absurd k
mentions-in_range p q (FNot f) is k = mentions-in_range p q f is k
mentions-in_range p q (FAnd f g) is k = ⊎_elim (mentions-in_range p q f is.0) (mentions-in_range p q g is.1) k
mentions-in_range p q (FOr f g) is k = ⊎_elim (mentions-in_range p q f is.0) (mentions-in_range p q g is.1) k
mentions-in_range p q (FIff f g) is k = ⊎_elim (mentions-in_range p q f is.0) (mentions-in_range p q g is.1) k
mentions-in_range p q (FCond c f g) is k =
    ⊎_elim (mentions-in_range p q c is.0) (⊎_elim (mentions-in_range p q f is.1) (mentions-in_range p q g is.2)) k
mentions-in_range p q (FExists v f) is k = mentions-in_range p q f is.1 k
mentions-in_range p q (FForall v f) is k = mentions-in_range p q f is.1 k
mentions-in_range p q (FClosure from to left right f) is k = mentions-in_range p q f is.5 k

stands-in_range : (p : ProgramForm) (q : ℕ) (rule : RuleForm) → IsRule p rule → StandsIn q rule → q < length p.preds
stands-in_range p q rule is k = ⊎_elim (mentions-in_range p q rule.body is.0.0) (head rule.head is.1) k
  where
    head : (h : HeadForm) → IsHead p h → IsHeadOf q h → q < length p.preds
    head HNever is at = absurd at
    head (HAtom flag r vars) is at =
        let Below : ℕ → Type 0 = λ x. x < length p.preds in subst Below (sym at) (in_range p r (length vars) is.0)
    head (HSame flag v w) is at = absurd at

one-of : (x v : ℕ) → IsVariable v → x ≡ v → IsVariable x
one-of x v is e = let Is : ℕ → Type 0 = λ y. IsVariable y in subst Is (sym e) is

pub free-in_range : (arities : List ℕ) (v : ℕ) (f : Form) → IsFormulaOver arities f → IsFree v f → IsVariable v
free-in_range arities v FZero is k = absurd k
free-in_range arities v FOne is k = absurd k
free-in_range arities v (FAtom r vars) is k = All-contains IsVariable vars v is.1 k
free-in_range arities v (FIsNew w) is k = one-of v w is k
free-in_range arities v (FSame w u) is k = ⊎_elim (one-of v w is.0) (one-of v u is.1) k
free-in_range arities v (FNot f) is k = free-in_range arities v f is k
free-in_range arities v (FAnd f g) is k = ⊎_elim (free-in_range arities v f is.0) (free-in_range arities v g is.1) k
free-in_range arities v (FOr f g) is k = ⊎_elim (free-in_range arities v f is.0) (free-in_range arities v g is.1) k
free-in_range arities v (FIff f g) is k = ⊎_elim (free-in_range arities v f is.0) (free-in_range arities v g is.1) k
free-in_range arities v (FCond c f g) is k =
    ⊎_elim (free-in_range arities v c is.0) (⊎_elim (free-in_range arities v f is.1) (free-in_range arities v g is.2)) k
free-in_range arities v (FExists w f) is k = free-in_range arities v f is.1 k.1
free-in_range arities v (FForall w f) is k = free-in_range arities v f is.1 k.1
free-in_range arities v (FClosure from to left right f) is k =
    ⊎_elim (one-of v from is.0) (⊎_elim (one-of v to is.1) (λ inner. free-in_range arities v f is.5 inner.2)) k

rule-in_range : (p : ProgramForm) (v : ℕ) (rule : RuleForm) → IsRule p rule → IsFreeInRule v rule → v < 32
rule-in_range p v rule is k = ⊎_elim (free-in_range (program_arities p) v rule.body is.0.0) (head rule.head is.1) k
  where
    head : (h : HeadForm) → IsHead p h → IsInHead v h → IsVariable v
    head HNever is at = absurd at
    head (HAtom flag q vars) is at = All-contains IsVariable vars v is.1 at
    head (HSame flag w u) is at = ⊎_elim (one-of v w is.0) (one-of v u is.1) at

plain : (p : ProgramForm) → IsValid p → (rule : RuleForm) → IsRule p rule → IsPlainRule rule
plain p valid rule is = record { short = short rule.head is.1; unmarked = is.0.1 }
  where
    short : (head : HeadForm) → IsHead p head → IsShort head
    short HNever is = tt
    short (HAtom flag q vars) is =
        let found : (d : PredForm) × (slice_get p.preds q ≡ Some d) × (d.arity ≡ length vars) = arity-found p q (length vars) is.0
        in let pred : IsPred p found.0 = All-found (IsPred p) p.preds q found.0 valid.preds found.1
        in omega (arith, pred.arity, found.2)
    short (HSame flag v w) is = tt

-- what holds of the closed rules of the program holds of those that are kept
pub of_program : (p : ProgramForm) (bases : List Rule) → map rule_of bases ≡ map dropped_rule (base_rules p)
    → (Q : List RuleForm → Type 0) → Q (closed_rules p) → Q (rules_of bases)
of_program p bases is Q holds = subst Q (sym (ap closed_set is)) holds

pub ok-gives : {E : Type 0} (result : Result (List Rule) E) (bases : List Rule) (Q : List Rule → Type 0)
    → IfOk result (λ c. c ≡ bases) → Q bases → IfOk result Q
ok-gives (Ok c) bases Q is holds = subst Q (sym is) holds
ok-gives (Err e) bases Q is holds = tt

pub closed-in_range : (p : ProgramForm) (bases : List Rule) (n : ℕ) → IsValid p → map rule_of bases ≡ map dropped_rule (base_rules p)
    → length p.preds ≡ n
    → (q k : ℕ) (rule : RuleForm) → slice_get (rules_of bases) k ≡ Some rule → StandsIn q rule → q < n
closed-in_range p bases n valid is count q k rule there stands =
    let all : All (IsRule p) (rules_of bases) = of_program p bases is (λ rules. All (IsRule p) rules) (closed_rules_are_rules p valid)
    in let Below : ℕ → Type 0 = λ m. q < m
    in subst Below count (stands-in_range p q rule (All-found (IsRule p) (rules_of bases) k rule all there) stands)

pub variables-in_range : (p : ProgramForm) (bases : List Rule) → IsValid p → map rule_of bases ≡ map dropped_rule (base_rules p)
    → (v : ℕ) (rule : RuleForm) → Contains (map rule_of bases) rule → IsFreeInRule v rule → v < 32
variables-in_range p bases valid is v rule at free =
    let Of : List RuleForm → Type 0 = λ rules. All (IsRule p) rules
    in rule-in_range p v rule (All-contains (IsRule p) (map rule_of bases) rule (subst Of (sym is) (dropped_are p valid)) at) free

pub rules_are_plain : (p : ProgramForm) → IsValid p → All IsPlainRule (closed_rules p)
rules_are_plain p valid = All-weaker (IsRule p) IsPlainRule (plain p valid) (closed_rules p) (closed_rules_are_rules p valid)
