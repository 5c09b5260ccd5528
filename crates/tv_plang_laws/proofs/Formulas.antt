-- Formulas and actions of a compiled program are ones over its vocabulary.
use Rattle.std.proofs.Common.{ℕ, ◌≡◌, ◌≢◌, ◌≤◌, ◌∙◌, List, [], ◌∷◌, ◌++◌, length, map, Bool, true, false, not}
use Rattle.std.proofs.Common.{◌&&◌, leb, eqb, Option, Some, None, inl, inr, ⊎_elim, refl, sym, ap, subst}
use Rattle.std.proofs.Common.{arith, All, AllPairs, Contains, slice_get, eq-eqb}
use Rattle.std.specs.Prelude.{codes}
use Rattle.std.specs.Option.{option_map}
use Rattle.std.specs.List.{list_all}
use Rattle.std.proofs.lemmas.Bool.{leb-true, and_parts}
use Rattle.std.proofs.lemmas.List.Elements.{All-nil, All-cons, All-append, All-weaker}
use Rattle.std.proofs.lemmas.List.Kept.{AllPairs-cons}
use Rattle.std.proofs.lemmas.Option.{slice_get-map}
use Rattle.tv_model.specs.Form.{Form, FZero, FIsNew, FNot, FAnd, FOr, FIff, FExists, FForall}
use Rattle.tv_model.specs.Program.{PredForm, CTo, UpdateForm, MessageForm, ActionForm}
use Rattle.tv_model.specs.Rules.{signed_form}
use Rattle.tv_model.specs.Spelling.{IsText}
use Rattle.tv_model.specs.Valid.{AreVariables, IsAction, IsFormula, IsFormulaWithNew, IsMessage, IsOver}
use Rattle.tv_model.specs.Valid.{IsPlainFormula, IsPrecondition, IsUpdate, IsVariable, first_occurrences}
use Rattle.tv_model.specs.Valid.{free_occurrences, program_arities}
use Rattle.tv_model.proofs.Lists.{Contains-cases, Contains-here, Contains-none, Contains-there}
use Rattle.tv_source.specs.Forms.{SourceForm, AssignForm, ANull, ANew, ACopy, ALoad, AStore, AClear, TestForm}
use Rattle.tv_source.specs.Forms.{TAny, TNull, TSame}
use Rattle.tv_source.specs.Valid.{IsAssignOf, IsFieldOf, IsSource, IsTestOf, IsVariableOf}
use Rattle.tv_plang_laws.specs.Compiled.{assign_action, compiled, compiled_preds, dereferences, field_number}
use Rattle.tv_plang_laws.specs.Compiled.{field_pred, kept_elsewhere, leads, name_in, no_action, points}
use Rattle.tv_plang_laws.specs.Compiled.{points_somewhere, sets_field, sets_variable, test_action}
use Rattle.tv_plang_laws.specs.Compiled.{variable_pred}
use Rattle.tv_plang_laws.specs.Memories.{agrees}
use Rattle.tv_plang_laws.proofs.Names.{IsWordByte, variable-declarable}
use Rattle.tv_plang_laws.proofs.Pairs.{pairs-nil}
use Rattle.tv_plang_laws.proofs.Predicates.{variable-found, field-found}

-- ---- variables of formulas

one-variable : (v : ℕ) → IsVariable v → All IsVariable (v ∷ [])
one-variable v is = All-cons IsVariable v [] is (All-nil IsVariable)

two-variables : (v w : ℕ) → IsVariable v → IsVariable w → All IsVariable (v ∷ w ∷ [])
two-variables v w is_v is_w = All-cons IsVariable v (w ∷ []) is_v (one-variable w is_w)

-- ---- atoms

pub variable-arity : (p : SourceForm) (x : ℕ) → IsVariableOf p x → slice_get (program_arities (compiled p)) x ≡ Some 1
variable-arity p x declared =
    let found = variable-found p x declared
    in slice_get-map (λ (d : PredForm). d.arity) (compiled_preds p) x ∙ ap (option_map (λ (d : PredForm). d.arity)) found.1

pub field-arity : (p : SourceForm) (f : ℕ) → IsFieldOf p f → slice_get (program_arities (compiled p)) (field_number p f) ≡ Some 2
field-arity p f declared =
    let found = field-found p f declared
    in slice_get-map (λ (d : PredForm). d.arity) (compiled_preds p) (field_number p f) ∙ ap (option_map (λ (d : PredForm). d.arity)) found.1

pub points-formula : (p : SourceForm) (x v : ℕ) → IsVariableOf p x → IsVariable v → IsFormula (compiled p) (points x v)
points-formula p x v declared is = (variable-arity p x declared, one-variable v is)

pub leads-formula : (p : SourceForm) (f v w : ℕ) → IsFieldOf p f → IsVariable v → IsVariable w → IsFormula (compiled p) (leads p f v w)
leads-formula p f v w declared is_v is_w = (field-arity p f declared, two-variables v w is_v is_w)

points-plain : (p : SourceForm) (x : ℕ) → IsVariableOf p x → IsPlainFormula (compiled p) (points x 0)
points-plain p x declared = (points-formula p x 0 declared (omega arith), λ named. named)

somewhere-plain : (p : SourceForm) (x : ℕ) → IsVariableOf p x → IsPlainFormula (compiled p) (points_somewhere x)
somewhere-plain p x declared = ((omega arith, points-formula p x 0 declared (omega arith)), λ named. named)

same-plain : (p : SourceForm) (x y : ℕ) → IsVariableOf p x → IsVariableOf p y → IsPlainFormula (compiled p) (FForall 0 (FIff (points x 0) (points y 0)))
same-plain p x y x_declared y_declared = (
  (omega arith, (points-formula p x 0 x_declared (omega arith), points-formula p y 0 y_declared (omega arith))),
  λ named. ⊎_elim (λ n. n) (λ n. n) named,
)

signed-plain : (p : SourceForm) (flag : Bool) (f : Form) → IsPlainFormula (compiled p) f → IsPlainFormula (compiled p) (signed_form flag f)
signed-plain p true f plain = plain
signed-plain p false f plain = plain

signed-free : (flag : Bool) (f : Form) → free_occurrences (signed_form flag f) ≡ free_occurrences f
signed-free true f = refl
signed-free false f = refl

-- a closed precondition
closed-enabled : (p : SourceForm) (f : Form) → IsPlainFormula (compiled p) f → free_occurrences f ≡ [] → IsPrecondition (compiled p) (Some f) []
closed-enabled p f plain closed = (plain, sym (ap first_occurrences closed))

-- ---- own variables of updates

pub one-own : AreVariables 1 (0 ∷ [])
one-own = (refl, one-variable 0 (omega arith), AllPairs-cons ◌≢◌ 0 [] (All-nil (λ w. 0 ≢ w)) (pairs-nil ◌≢◌))

two-own : AreVariables 2 (0 ∷ 1 ∷ [])
two-own = (
  refl,
  two-variables 0 1 (omega arith) (omega arith),
  AllPairs-cons ◌≢◌ 0 (1 ∷ []) (All-cons (λ w. 0 ≢ w) 1 [] (λ e. omega (arith, e)) (All-nil (λ w. 0 ≢ w)))
      (AllPairs-cons ◌≢◌ 1 [] (All-nil (λ w. 1 ≢ w)) (pairs-nil ◌≢◌)),
)

one-update : (w : UpdateForm) → AllPairs ◌≢◌ (map (λ (u : UpdateForm). u.pred) (w ∷ []))
one-update w = AllPairs-cons ◌≢◌ w.pred [] (All-nil (λ u. w.pred ≢ u)) (pairs-nil ◌≢◌)

-- an action that keeps all
abbrev pub plainly : Option Form → List Form → List MessageForm → (fresh : Bool) → List UpdateForm → ActionForm
plainly pre focus messages fresh updates =
    record { pre = pre; picks = []; focus = focus; messages = messages; fresh = fresh; retain = None; updates = updates }

variable-updated : (p : SourceForm) (pre : Option Form) (focus : List Form) (messages : List MessageForm) (fresh : Bool) (x : ℕ) (f : Form)
    → IsVariableOf p x → IsFormulaWithNew (compiled p) fresh f → IsOver (0 ∷ []) f
    → All (IsUpdate (compiled p) (plainly pre focus messages fresh (sets_variable x f))) (sets_variable x f)
variable-updated p pre focus messages fresh x f declared formula over =
    let found = variable-found p x declared
    in let w : UpdateForm = record { pred = x; vars = 0 ∷ []; change = CTo f }
    in let Is : UpdateForm → Type 0 = IsUpdate (compiled p) (plainly pre focus messages fresh (sets_variable x f))
    in All-cons Is w [] (variable_pred found.0, found.1, one-own, (formula, over)) (All-nil Is)

field-updated : (p : SourceForm) (pre : Option Form) (focus : List Form) (messages : List MessageForm) (f : ℕ) (g : Form)
    → IsFieldOf p f → IsFormulaWithNew (compiled p) false g → IsOver (0 ∷ 1 ∷ []) g
    → All (IsUpdate (compiled p) (plainly pre focus messages false (sets_field p f g))) (sets_field p f g)
field-updated p pre focus messages f g declared formula over =
    let found = field-found p f declared
    in let w : UpdateForm = record { pred = field_number p f; vars = 0 ∷ 1 ∷ []; change = CTo g }
    in let Is : UpdateForm → Type 0 = IsUpdate (compiled p) (plainly pre focus messages false (sets_field p f g))
    in All-cons Is w [] (field_pred found.0, found.1, two-own, (formula, over)) (All-nil Is)

-- ---- messages

abbrev IsTextByte : ℕ → Type 0
IsTextByte b = (32 ≤ b) × (b ≤ 126) × (b ≢ 34)

word-text : (b : ℕ) → IsWordByte b → IsTextByte b
word-text b (inl (inl at)) = (omega (arith, at.0), omega (arith, at.1), λ e. omega (arith, at.0, e))
word-text b (inl (inr at)) = (omega (arith, at.0), omega (arith, at.1), λ e. omega (arith, at.0, e))
word-text b (inr (inl at)) = (omega (arith, at.0), omega (arith, at.1), λ e. omega (arith, at.0, e))
word-text b (inr (inr is)) = (omega (arith, is), omega (arith, is), λ e. omega (arith, is, e))

text-all : (xs : List ℕ) → list_all (λ b. leb 32 b && (leb b 126 && not (eqb b 34))) xs ≡ true → All IsTextByte xs
text-all [] passes = All-nil IsTextByte
text-all (b ∷ xs) passes =
    let both = and_parts (leb 32 b && (leb b 126 && not (eqb b 34))) (list_all (λ c. leb 32 c && (leb c 126 && not (eqb c 34))) xs) passes
    in let one = and_parts (leb 32 b) (leb b 126 && not (eqb b 34)) both.0
    in let two = and_parts (leb b 126) (not (eqb b 34)) one.1
    in All-cons IsTextByte b xs (leb-true 32 b one.0, leb-true b 126 two.0, λ e. other (eqb b 34) two.1 (eq-eqb b 34 e)) (text-all xs both.1)
  where
    other : (flag : Bool) → not flag ≡ true → flag ≡ true → ⊥
    other true passes is = absurd (cc passes)
    other false passes is = absurd (cc is)

message-text : (p : SourceForm) → IsSource p → (z : ℕ) → IsVariableOf p z → IsText (codes "null dereference of " ++ name_in p.variables z)
message-text p valid z declared =
    All-append IsTextByte (codes "null dereference of ") (name_in p.variables z)
    (text-all (codes "null dereference of ") refl)
    (All-weaker IsWordByte IsTextByte word-text (name_in p.variables z) (variable-declarable p valid z declared).0.0.1)

dereference-message : (p : SourceForm) → IsSource p → (z : ℕ) → IsVariableOf p z → All (IsMessage (compiled p)) (dereferences p z).messages
dereference-message p valid z declared =
    let said : MessageForm = record { cond = FNot (points_somewhere z); text = codes "null dereference of " ++ name_in p.variables z }
    in let plain = somewhere-plain p z declared
    in All-cons (IsMessage (compiled p)) said [] (
      plain,
      (λ v free. absurd (⊎_elim (λ e. free.0 (sym e)) (λ none. Contains-none v none) (Contains-cases 0 v [] free.1))),
      message-text p valid z declared,
    )
    (All-nil (IsMessage (compiled p)))

-- ---- actions

one-plain : (p : SourceForm) (f : Form) → IsPlainFormula (compiled p) f → All (IsPlainFormula (compiled p)) (f ∷ [])
one-plain p f plain = All-cons (IsPlainFormula (compiled p)) f [] plain (All-nil (IsPlainFormula (compiled p)))

two-plain : (p : SourceForm) (x y : ℕ) → IsVariableOf p x → IsVariableOf p y → All (IsPlainFormula (compiled p)) (points x 0 ∷ points y 0 ∷ [])
two-plain p x y x_declared y_declared =
    All-cons (IsPlainFormula (compiled p)) (points x 0) (points y 0 ∷ []) (points-plain p x x_declared)
    (one-plain p (points y 0) (points-plain p y y_declared))

-- an action whose parts are valid
action-valid : (p : SourceForm) (pre : Option Form) (focus : List Form) (messages : List MessageForm) (fresh : Bool) (updates : List UpdateForm)
    → IsPrecondition (compiled p) pre [] → All (IsPlainFormula (compiled p)) focus → All (IsMessage (compiled p)) messages
    → length messages ≤ 65536 → All (IsUpdate (compiled p) (plainly pre focus messages fresh updates)) updates
    → AllPairs ◌≢◌ (map (λ (u : UpdateForm). u.pred) updates) → IsAction (compiled p) (plainly pre focus messages fresh updates)
action-valid p pre focus messages fresh updates enabled focused said few updated once = record {
  precondition = enabled;
  focus = focused;
  messages = said;
  message_count = few;
  retain = tt;
  updates = updated;
  updated_once = once;
}

-- the variable of an atom, and one of two
own-one : (v : ℕ) → Contains (0 ∷ []) v → Contains (0 ∷ 1 ∷ []) v
own-one v at = ⊎_elim (λ e. let In : ℕ → Type 0 = λ w. Contains (0 ∷ 1 ∷ []) w in subst In e (Contains-here 0 (1 ∷ []))) (λ none. absurd (Contains-none v none)) (Contains-cases 0 v [] at)

kept-over : (p : SourceForm) (x f : ℕ) → IsOver (0 ∷ 1 ∷ []) (kept_elsewhere p x f)
kept-over p x f v (inl free) = own-one v free
kept-over p x f v (inr free) = free

kept-formula : (p : SourceForm) (x f : ℕ) → IsVariableOf p x → IsFieldOf p f → IsFormulaWithNew (compiled p) false (kept_elsewhere p x f)
kept-formula p x f x_declared f_declared = (
  (points-formula p x 0 x_declared (omega arith), leads-formula p f 0 1 f_declared (omega arith) (omega arith)),
  λ named. absurd (⊎_elim (λ n. n) (λ n. n) named),
)

stored-over : (p : SourceForm) (x f y : ℕ) → IsOver (0 ∷ 1 ∷ []) (FOr (FAnd (points x 0) (points y 1)) (kept_elsewhere p x f))
stored-over p x f y v (inl (inl free)) = own-one v free
stored-over p x f y v (inl (inr free)) = Contains-there 0 v (1 ∷ []) free
stored-over p x f y v (inr free) = kept-over p x f v free

stored-formula : (p : SourceForm) (x f y : ℕ) → IsVariableOf p x → IsFieldOf p f → IsVariableOf p y
    → IsFormulaWithNew (compiled p) false (FOr (FAnd (points x 0) (points y 1)) (kept_elsewhere p x f))
stored-formula p x f y x_declared f_declared y_declared = (
  (
    (points-formula p x 0 x_declared (omega arith), points-formula p y 1 y_declared (omega arith)),
    (kept-formula p x f x_declared f_declared).0,
  ),
  λ named. absurd (⊎_elim (λ n. ⊎_elim (λ n. n) (λ n. n) n) (λ n. ⊎_elim (λ n. n) (λ n. n) n) named),
)

loaded-over : (p : SourceForm) (y f : ℕ) → IsOver (0 ∷ []) (FExists 1 (FAnd (points y 1) (leads p f 1 0)))
loaded-over p y f v (ne, inl free) = absurd (⊎_elim (λ e. ne (sym e)) (λ none. Contains-none v none) (Contains-cases 1 v [] free))
loaded-over p y f v (ne, inr free) = ⊎_elim (λ e. absurd (ne (sym e))) (λ there. there) (Contains-cases 1 v (0 ∷ []) free)

pub assign-valid : (p : SourceForm) → IsSource p → (a : AssignForm) → IsAssignOf p a → IsAction (compiled p) (assign_action p a)
assign-valid p valid (ANull x) declared =
    action-valid p None [] [] false (sets_variable x FZero) refl (All-nil (IsPlainFormula (compiled p))) (All-nil (IsMessage (compiled p)))
    (omega arith)
    (variable-updated p None [] [] false x FZero declared (tt, λ named. absurd named) (λ v free. absurd free))
    (one-update (record { pred = x; vars = 0 ∷ []; change = CTo FZero }))
assign-valid p valid (ANew x) declared =
    action-valid p None [] [] true (sets_variable x (FIsNew 0)) refl (All-nil (IsPlainFormula (compiled p))) (All-nil (IsMessage (compiled p)))
    (omega arith)
    (variable-updated p None [] [] true x (FIsNew 0) declared (omega arith, λ named. refl)
    (λ v free. let In : ℕ → Type 0 = λ w. Contains (0 ∷ []) w in subst In (sym free) (Contains-here 0 [])))
    (one-update (record { pred = x; vars = 0 ∷ []; change = CTo (FIsNew 0) }))
assign-valid p valid (ACopy x y) declared =
    action-valid p None (points y 0 ∷ []) [] false (sets_variable x (points y 0)) refl (one-plain p (points y 0) (points-plain p y declared.1))
    (All-nil (IsMessage (compiled p))) (omega arith)
    (variable-updated p None (points y 0 ∷ []) [] false x (points y 0) declared.0
    (points-formula p y 0 declared.1 (omega arith), λ named. absurd named) (λ v free. free))
    (one-update (record { pred = x; vars = 0 ∷ []; change = CTo (points y 0) }))
assign-valid p valid (ALoad x y f) declared =
    let a : ActionForm = assign_action p (ALoad x y f)
    in let loaded : Form = FExists 1 (FAnd (points y 1) (leads p f 1 0))
    in action-valid p a.pre a.focus a.messages false a.updates
    (closed-enabled p (points_somewhere y) (somewhere-plain p y declared.1) refl)
    (one-plain p (FExists 0 (FAnd (points y 0) (leads p f 0 1))) (
      (omega arith, (points-formula p y 0 declared.1 (omega arith), leads-formula p f 0 1 declared.2 (omega arith) (omega arith))),
      λ named. absurd (⊎_elim (λ n. n) (λ n. n) named),
    ))
    (dereference-message p valid y declared.1) (omega arith)
    (variable-updated p a.pre a.focus a.messages false x loaded declared.0 (
      (omega arith, (points-formula p y 1 declared.1 (omega arith), leads-formula p f 1 0 declared.2 (omega arith) (omega arith))),
      λ named. absurd (⊎_elim (λ n. n) (λ n. n) named),
    ) (loaded-over p y f))
    (one-update (record { pred = x; vars = 0 ∷ []; change = CTo loaded }))
assign-valid p valid (AStore x f y) declared =
    let a : ActionForm = assign_action p (AStore x f y)
    in action-valid p a.pre a.focus a.messages false a.updates
    (closed-enabled p (points_somewhere x) (somewhere-plain p x declared.0) refl)
    (two-plain p x y declared.0 declared.2)
    (dereference-message p valid x declared.0) (omega arith)
    (field-updated p a.pre a.focus a.messages f (FOr (FAnd (points x 0) (points y 1)) (kept_elsewhere p x f)) declared.1
    (stored-formula p x f y declared.0 declared.1 declared.2) (stored-over p x f y))
    (one-update (record { pred = field_number p f; vars = 0 ∷ 1 ∷ []; change = CTo (FOr (FAnd (points x 0) (points y 1)) (kept_elsewhere p x f)) }))
assign-valid p valid (AClear x f) declared =
    let a : ActionForm = assign_action p (AClear x f)
    in action-valid p a.pre a.focus a.messages false a.updates
    (closed-enabled p (points_somewhere x) (somewhere-plain p x declared.0) refl)
    (one-plain p (points x 0) (points-plain p x declared.0))
    (dereference-message p valid x declared.0) (omega arith)
    (field-updated p a.pre a.focus a.messages f (kept_elsewhere p x f) declared.1 (kept-formula p x f declared.0 declared.1) (kept-over p x f))
    (one-update (record { pred = field_number p f; vars = 0 ∷ 1 ∷ []; change = CTo (kept_elsewhere p x f) }))

tested : (p : SourceForm) (flag : Bool) (f : Form) → IsPlainFormula (compiled p) f → free_occurrences f ≡ []
    → IsPrecondition (compiled p) (Some (signed_form flag f)) []
tested p flag f plain closed = closed-enabled p (signed_form flag f) (signed-plain p flag f plain) (signed-free flag f ∙ closed)

pub test-valid : (p : SourceForm) (way : Bool) (t : TestForm) → IsTestOf p t → IsAction (compiled p) (test_action way t)
test-valid p way TAny declared =
    action-valid p None [] [] false [] refl (All-nil (IsPlainFormula (compiled p))) (All-nil (IsMessage (compiled p))) (omega arith)
    (All-nil (IsUpdate (compiled p) no_action)) (pairs-nil ◌≢◌)
test-valid p way (TNull equal x) declared =
    let a : ActionForm = test_action way (TNull equal x)
    in action-valid p a.pre a.focus [] false []
    (tested p (agrees equal way) (FNot (points_somewhere x)) (somewhere-plain p x declared) refl)
    (one-plain p (points x 0) (points-plain p x declared)) (All-nil (IsMessage (compiled p))) (omega arith)
    (All-nil (IsUpdate (compiled p) a)) (pairs-nil ◌≢◌)
test-valid p way (TSame equal x y) declared =
    let a : ActionForm = test_action way (TSame equal x y)
    in action-valid p a.pre a.focus [] false []
    (tested p (agrees equal way) (FForall 0 (FIff (points x 0) (points y 0))) (same-plain p x y declared.0 declared.1) refl)
    (two-plain p x y declared.0 declared.1) (All-nil (IsMessage (compiled p))) (omega arith)
    (All-nil (IsUpdate (compiled p) a)) (pairs-nil ◌≢◌)
