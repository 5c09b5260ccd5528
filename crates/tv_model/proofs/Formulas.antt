-- Each formula of a valid program is one over its vocabulary.
use Rattle.std.proofs.Common.{Some, Option, true, false, subst, Contains}
use Rattle.std.proofs.lemmas.List.Elements.{All-contains}
use Rattle.tv_model.specs.Form.{Form}
use Rattle.tv_model.specs.Program.{ProgramForm, KDefined, HeadForm, HNever, HAtom, HSame, CTo, ActionForm}
use Rattle.tv_model.specs.Rules.{head_formula}
use Rattle.tv_model.specs.Laws.{ValidFormulasFit}
use Rattle.tv_model.specs.Valid.{IsFormula, IsPlainFormula, IsKind, IsPred, IsHead, IsRule, IsMessage}
use Rattle.tv_model.specs.Valid.{IsPrecondition, IsRetain, IsChange, IsUpdate, IsAction}

head-fits : (p : ProgramForm) (head : HeadForm) → IsHead p head → IsFormula p (head_formula head)
head-fits p HNever is = tt
head-fits p (HAtom true q vars) is = is
head-fits p (HAtom false q vars) is = is
head-fits p (HSame true v w) is = is
head-fits p (HSame false v w) is = is

pub valid_formulas_fit : ValidFormulasFit
valid_formulas_fit p valid = record {
  formulas = record {
    definitions = λ d vars body at is.
        let fits : IsKind p d.arity (KDefined vars body)
        = subst (IsKind p d.arity) is (All-contains (IsPred p) p.preds d valid.preds at).kind
        in fits.1.0;
    rules = λ rule at. (All-contains (IsRule p) p.rules rule valid.rules at).0.0;
    preconditions = λ a f at is.
        let fits : IsPrecondition p (Some f) a.picks
        = subst (λ (o : Option Form). IsPrecondition p o a.picks) is (action a at).precondition
        in fits.0.0;
    focus = λ a f at of. (All-contains (IsPlainFormula p) a.focus f (action a at).focus of).0;
    messages = λ a m at of. (All-contains (IsMessage p) a.messages m (action a at).messages of).0.0;
    retains = λ a r at is.
        let fits : IsRetain p a (Some r) = subst (IsRetain p a) is (action a at).retain
        in fits.0.0;
    updates = λ a w f at of is.
        let update : IsUpdate p a w = All-contains (IsUpdate p a) a.updates w (action a at).updates of
        in let fits : IsChange p a update.0 w.vars (CTo f) = subst (IsChange p a update.0 w.vars) is update.3
        in fits.0.0;
  };
  heads = λ rule at. head-fits p rule.head (All-contains (IsRule p) p.rules rule valid.rules at).1;
}
  where
    action : (a : ActionForm) → Contains p.actions a → IsAction p a
    action a at = All-contains (IsAction p) p.actions a valid.actions at
