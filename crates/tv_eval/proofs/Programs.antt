-- The formulas of a program, and what a scratch that was made for it has room for.
use Rattle.std.proofs.Common.{ℕ, ◌≡◌, ◌≤◌, ◌+◌, List, [], ◌∷◌, map, max, Contains, refl, sym, ap, subst, ◌∙◌}
use Rattle.std.proofs.Common.{arith}
use Rattle.tv_model.specs.declared.program.Pred.{Pred}
use Rattle.tv_model.specs.Form.{Form, FZero, FOne, FAtom, FIsNew, FSame, FNot, FAnd, FOr, FIff, FCond}
use Rattle.tv_model.specs.Form.{FExists, FForall, FClosure, height}
use Rattle.tv_model.specs.Program.{ProgramForm, PredForm, RuleForm, UpdateForm, MessageForm, ActionForm}
use Rattle.tv_model.specs.Program.{program_of, pred_of}
use Rattle.tv_model.specs.Valid.{IsFormulaOver}
use Rattle.tv_structure_form.specs.StructureForm.{arities_of}
use Rattle.tv_eval.specs.Formulas.{nesting}
use Rattle.tv_eval.specs.ScratchForm.{deepest, kind_height, change_height, pre_height, retain_height}
use Rattle.tv_eval.specs.ScratchForm.{action_height, program_height}
use Rattle.tv_eval.specs.Laws.{FormulasAreWithinHeight, MadeScratchesFit, ProgramFormulasAreOver}
use Rattle.tv_quantifiers.proofs.Deepest.{deepest-above}

-- no action is higher than the program
in_action : (p : ProgramForm) (a : ActionForm) → Contains p.actions a → action_height a ≤ program_height p
in_action p a at = let below : action_height a ≤ deepest action_height p.actions = deepest-above action_height
    p.actions a at in omega arith

pub within_height : FormulasAreWithinHeight
within_height p = record {
  definitions = λ d vars body at is.
      let below : kind_height d.kind ≤ deepest (λ e. kind_height e.kind) p.preds =
      deepest-above (λ (e : PredForm). kind_height e.kind) p.preds d at
      in let own : kind_height d.kind ≡ height body = ap kind_height is
      in omega arith;
  rules = λ rule at.
      let below : height rule.body ≤ deepest (λ r. height r.body) p.rules =
      deepest-above (λ (r : RuleForm). height r.body) p.rules rule at
      in omega arith;
  preconditions = λ a f at is.
      let own : pre_height a.pre ≡ height f = ap pre_height is in within a (height f) at (omega arith);
  focus = λ a f at of.
      let below : height f ≤ deepest height a.focus = deepest-above height a.focus f of in within a (height f)
      at (omega arith);
  messages = λ a m at of.
      let below : height m.cond ≤ deepest (λ k. height k.cond) a.messages =
      deepest-above (λ (k : MessageForm). height k.cond) a.messages m of
      in within a (height m.cond) at (omega arith);
  retains = λ a r at is.
      let own : retain_height a.retain ≡ height r.keep = ap retain_height is in within a (height r.keep) at
      (omega arith);
  updates = λ a w f at of is.
      let below : change_height w.change ≤ deepest (λ k. change_height k.change) a.updates =
      deepest-above (λ (k : UpdateForm). change_height k.change) a.updates w of
      in let own : change_height w.change ≡ height f = ap change_height is
      in within a (height f) at (omega arith);
}
  where
    within : (a : ActionForm) (k : ℕ) → Contains p.actions a → k ≤ action_height a → k ≤ program_height p
    within a k at le = let low : action_height a ≤ program_height p = in_action p a at in omega arith

either_below : (f g : Form) → nesting f + 1 ≤ height f → nesting g + 1 ≤ height g
    → max (nesting f) (nesting g) + 1 ≤ max (height f) (height g) + 1
either_below f g one two = omega arith

-- fewer closures stand inside one another than a formula is high
nesting-below_height : (f : Form) → nesting f + 1 ≤ height f
nesting-below_height FZero = omega arith
nesting-below_height FOne = omega arith
nesting-below_height (FAtom q vars) = omega arith
nesting-below_height (FIsNew v) = omega arith
nesting-below_height (FSame v w) = omega arith
nesting-below_height (FNot f) = let inner : nesting f + 1 ≤ height f = nesting-below_height f in omega arith
nesting-below_height (FAnd f g) = either_below f g (nesting-below_height f) (nesting-below_height g)
nesting-below_height (FOr f g) = either_below f g (nesting-below_height f) (nesting-below_height g)
nesting-below_height (FIff f g) = either_below f g (nesting-below_height f) (nesting-below_height g)
nesting-below_height (FCond c f g) =
    let one : nesting c + 1 ≤ height c = nesting-below_height c
    in let two : max (nesting f) (nesting g) + 1 ≤ max (height f) (height g) + 1 =
    either_below f g (nesting-below_height f) (nesting-below_height g)
    in omega arith
nesting-below_height (FExists v f) = let inner : nesting f + 1 ≤ height f = nesting-below_height f in omega arith
nesting-below_height (FForall v f) = let inner : nesting f + 1 ≤ height f = nesting-below_height f in omega arith
nesting-below_height (FClosure from to left right f) =
    let inner : nesting f + 1 ≤ height f = nesting-below_height f in omega arith

pub made_scratches_fit : MadeScratchesFit
made_scratches_fit p n m scratch f made high le =
    let fewer : nesting f + 1 ≤ height f = nesting-below_height f
    in let levels : scratch.levels ≡ program_height p + 4 = made.closures
    in let wide : scratch.size ≡ n = made.individuals
    in record { closures = omega arith; individuals = omega arith }

-- ---- formulas of a program

-- the arities in a program's value are those of its vocabulary
same_arities : (preds : List Pred) → map (λ d. d.arity) (map pred_of preds) ≡ map (λ pred. pred.arity) preds
same_arities [] = refl
same_arities (pred ∷ preds) = ap (λ ns. pred.arity ∷ ns) (same_arities preds)

pub program_formulas_are_over : ProgramFormulasAreOver
program_formulas_are_over program s f is h =
    let p : ProgramForm = program_of program
    in let arities : map (λ d. d.arity) p.preds ≡ arities_of s = same_arities program.vocab.preds ∙ sym is
    in subst (λ ns. IsFormulaOver ns f) arities h
