-- Predicates of a program, one after the other.
use Rattle.std.proofs.Common.{ℕ, ◌≡◌, ◌<◌, ◌≤◌, ◌+◌, ◌⊎◌, ◌↔◌, inl, inr, Bool, true, false, IsTrue, List}
use Rattle.std.proofs.Common.{length, map, get_or, Some, None, refl, sym, ap, subst, ◌∙◌, arith}
use Rattle.std.specs.Prelude.{is_some, slice_get}
use Rattle.std.specs.Option.{option_map}
use Rattle.std.proofs.lemmas.Bool.{cases_lt, false≢true}
use Rattle.std.proofs.lemmas.List.{length-map}
use Rattle.std.proofs.lemmas.List.Elements.{All-contains}
use Rattle.std.proofs.lemmas.Option.{slice_get-map, slice_get-get_or, slice_get_within}
use Rattle.tv_lemmas.proofs.Options.{some_value}
use Rattle.tv_eval.specs.ScratchForm.{ScratchForm, program_height}
use Rattle.tv_eval.proofs.Programs.{within_height}
use Rattle.tv_model.specs.Form.{Form, height}
use Rattle.tv_model.specs.Program.{PredForm, KindForm, KCore, KDefined, ActionForm, ProgramForm}
use Rattle.tv_model.specs.Program.{kind_of, pred_of}
use Rattle.tv_model.specs.Heap.{Heap, Holds, IsTuple}
use Rattle.tv_model.specs.Rules.{MeetsDefinition, blank}
use Rattle.tv_model.specs.Step.{update_for}
use Rattle.tv_model.specs.Truth.{Truth, put_all}
use Rattle.tv_model.specs.Valid.{IsValid, IsPred, IsKind}
use Rattle.tv_model.proofs.Lists.{slice_get-contains}
use Rattle.tv_model.specs.declared.program.Pred.{Pred}
use Rattle.tv_replay_laws.specs.Judged.{IsFirst}
use Rattle.tv_structure_form.specs.StructureForm.{StructureForm, arities_of}
use Rattle.tv_replay_judge.specs.Ready.{IsReadyToEvaluate}
use Rattle.tv_replay_judge.specs.Same.{HasSameValues, IsSameAt, HasVariables, CanCompareKind}
use Rattle.tv_replay_judge.proofs.Judging.{can-tell}

-- what is asked holds of the first n predicates
abbrev pub HoldsBelow : (preds : List Pred) → (ℕ → PredForm → Type 0) → ℕ → Type 0
HoldsBelow preds P n = (k : ℕ) (e : PredForm) → k < n → slice_get (map pred_of preds) k ≡ Some e → P k e

pub found-number : (preds : List Pred) (n : ℕ) (pred : Pred) → n < length preds → pred ≡ get_or preds n pred
    → slice_get (map pred_of preds) n ≡ Some (pred_of pred)
found-number preds n pred below is =
    slice_get-map pred_of preds n ∙ ap (option_map pred_of) (slice_get-get_or preds n pred below ∙ ap Some (sym is))

same-some : (x y : PredForm) → Some x ≡ Some y → x ≡ y
same-some x y e = cc

pub below-more : (preds : List Pred) (P : ℕ → PredForm → Type 0) (n : ℕ) (pred : Pred) → n < length preds → pred ≡ get_or preds n pred
    → HoldsBelow preds P n → P n (pred_of pred) → HoldsBelow preds P (n + 1)
below-more preds P n pred below is before here k e less found = at (cases_lt k n)
  where
    at : (k < n) ⊎ (n ≤ k) → P k e
    at (inl lt) = before k e lt found
    at (inr le) =
        let same : n ≡ k = omega (arith, less, le)
        in let there : slice_get (map pred_of preds) k ≡ Some (pred_of pred)
        = ap (slice_get (map pred_of preds)) (sym same) ∙ found-number preds n pred below is
        in subst (P k) (same-some (pred_of pred) e (sym there ∙ found)) (subst (λ m. P m (pred_of pred)) same here)

pub below-all : (preds : List Pred) (P : ℕ → PredForm → Type 0) (n : ℕ) → length preds ≤ n → HoldsBelow preds P n
    → IsFirst (map pred_of preds) P None
below-all preds P n done before q d found =
    before q d (omega (arith, done, slice_get_within (map pred_of preds) q d found, length-map preds pred_of)) found

pub below-broken : (preds : List Pred) (P : ℕ → PredForm → Type 0) (n : ℕ) (pred : Pred) → n < length preds → pred ≡ get_or preds n pred
    → HoldsBelow preds P n → IsTrue false ↔ P n (pred_of pred) → IsFirst (map pred_of preds) P (Some n)
below-broken preds P n pred below is before fails = (
  (pred_of pred, found-number preds n pred below is, λ holds. false≢true (fails.1 holds)),
  λ k e less found. before k e less found,
)

-- ---- a defined predicate that is updated

defined-not_core : (kind : KindForm) (vars : List ℕ) (body : Form) → kind ≡ KDefined vars body → ¬ (kind ≡ KCore)
defined-not_core kind vars body is core = apart (sym is ∙ core)
  where
    apart : KDefined vars body ≡ KCore → ⊥
    apart e = cc

pub same-at : (action : ActionForm) (given new : StructureForm) (q : ℕ) (d : PredForm) (vars : List ℕ) (body : Form) (b : Bool)
    → d.kind ≡ KDefined vars body → is_some (update_for q action.updates) ≡ true → IsTrue b ↔ HasSameValues given new q d.arity
    → IsTrue b ↔ IsSameAt action given new q d
same-at action given new q d vars body b kind updated same = (
  λ t defined w found. same.0 t,
  λ at.
      let some = some_value (update_for q action.updates) updated
      in same.1 (at (defined-not_core d.kind vars body kind) some.0 some.1),
)

-- ---- the predicate at hand

-- an item of a list is the same item of an equal list
pub item-in : (items preds : List Pred) (n : ℕ) (pred : Pred) → items ≡ preds → n < length items → pred ≡ get_or items n pred
    → (n < length preds) × (pred ≡ get_or preds n pred)
item-in items preds n pred same below is =
    (subst (λ (ps : List Pred). n < length ps) same below, is ∙ ap (λ (ps : List Pred). get_or ps n pred) same)

pub pred-is : (p : ProgramForm) → IsValid p → (preds : List Pred) → p.preds ≡ map pred_of preds → (n : ℕ) (pred : Pred) → n < length preds
    → pred ≡ get_or preds n pred → IsPred p (pred_of pred)
pred-is p valid preds same n pred below is =
    All-contains (IsPred p) p.preds (pred_of pred) valid.preds
    (slice_get-contains p.preds n (pred_of pred) (ap (λ ps. slice_get ps n) same ∙ found-number preds n pred below is))

variables-of : (p : ProgramForm) (arity : ℕ) (kind : KindForm) → IsKind p arity kind → HasVariables arity kind
variables-of p arity KCore is = tt
variables-of p arity (KDefined vars body) is = is.0.0

pub has-variables : (p : ProgramForm) → IsValid p → (preds : List Pred) → p.preds ≡ map pred_of preds → (n : ℕ) (pred : Pred) → n < length preds
    → pred ≡ get_or preds n pred → HasVariables pred.arity (kind_of pred.kind)
has-variables p valid preds same n pred below is =
    variables-of p pred.arity (kind_of pred.kind) (pred-is p valid preds same n pred below is).kind

compared-kind : (p : ProgramForm) (s : StructureForm) (room : ScratchForm) → IsReadyToEvaluate p s room → (q arity : ℕ) (kind : KindForm) → IsKind p arity kind
    → slice_get (arities_of s) q ≡ Some arity → ((vars : List ℕ) (body : Form) → kind ≡ KDefined vars body → height body ≤ program_height p)
    → CanCompareKind s room q arity kind
compared-kind p s room ready q arity KCore is there low = tt
compared-kind p s room ready q arity (KDefined vars body) is there low = (
  record {
    tell = can-tell p s room ready body is.1.0 (more (height body) (program_height p) (low vars body refl));
    variables = is.0.1;
    over = is.2;
    arity = there ∙ ap Some (sym is.0.0);
  },
  is.0.0,
)
  where
    more : (m n : ℕ) → m ≤ n → m ≤ n + 4
    more m n le = omega (arith, le)

pub can-compare : (p : ProgramForm) (s : StructureForm) (room : ScratchForm) → IsReadyToEvaluate p s room → (preds : List Pred) → p.preds ≡ map pred_of preds
    → (n : ℕ) (pred : Pred) → n < length preds → pred ≡ get_or preds n pred → CanCompareKind s room n pred.arity (kind_of pred.kind)
can-compare p s room ready preds same n pred below is =
    let found : slice_get p.preds n ≡ Some (pred_of pred) = ap (λ ps. slice_get ps n) same ∙ found-number preds n pred below is
    in compared-kind p s room ready n pred.arity (kind_of pred.kind) (pred-is p ready.valid preds same n pred below is).kind
    (ap (λ ns. slice_get ns n) ready.arities ∙ slice_get-map (λ (d : PredForm). d.arity) p.preds n
    ∙ ap (option_map (λ (d : PredForm). d.arity)) found)
    (λ vars body kind. (within_height p).definitions (pred_of pred) vars body (slice_get-contains p.preds n (pred_of pred) found) kind)

-- what is found of a definition's values is found of the predicate
pub defined-at : (P : Type 0) (h : Heap) (q arity : ℕ) (kind : KindForm) (vars : List ℕ) (body : Form) → kind ≡ KDefined vars body
    → length vars ≡ arity
    → P ↔ ((tuple : List ℕ) → IsTuple h (length vars) tuple → Holds h q tuple ↔ Truth h (put_all blank vars tuple) body)
    → P ↔ ((tuple : List ℕ) → IsTuple h arity tuple → MeetsDefinition h q kind tuple)
defined-at P h q arity kind vars body is count both =
    subst (λ k. P ↔ ((tuple : List ℕ) → IsTuple h arity tuple → MeetsDefinition h q k tuple)) (sym is)
    (subst (λ n. P ↔ ((tuple : List ℕ) → IsTuple h n tuple → MeetsDefinition h q (KDefined vars body) tuple)) count both)
