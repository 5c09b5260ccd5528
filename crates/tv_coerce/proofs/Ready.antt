-- The closed rules of a valid program can be tried; so can the conjuncts of a rule that can.
use Rattle.std.proofs.Common.{ℕ, ◌≡◌, ◌≤◌, ◌+◌, max, ◌∙◌, List, [], ◌∷◌, map, All, refl, sym, ap, subst}
use Rattle.std.proofs.Common.{arith}
use Rattle.std.proofs.lemmas.List.Elements.{All-cons, All-nil, All-append, All-weaker}
use Rattle.tv_model.specs.declared.program.Pred.{Pred}
use Rattle.tv_model.specs.Form.{Form, FZero, FOne, FAtom, FIsNew, FSame, FNot, FAnd, FOr, FIff, FCond}
use Rattle.tv_model.specs.Form.{FExists, FForall, FClosure, height}
use Rattle.tv_model.specs.Program.{ProgramForm, HeadForm, HNever, HAtom, HSame, RuleForm, program_of, pred_of}
use Rattle.tv_model.specs.Valid.{IsRule, IsHead, program_arities}
use Rattle.tv_rules.specs.Closing.{closed_rules, conjuncts}
use Rattle.tv_rules.specs.Laws.{IsNoHigher}
use Rattle.tv_rules.proofs.Heights.{closed-low}
use Rattle.tv_rules.proofs.Plain.{closed_rules_are_rules}
use Rattle.tv_rules.proofs.Ranges.{rules_are_plain}
use Rattle.tv_structure_form.specs.StructureForm.{arities_of}
use Rattle.tv_eval.specs.Formulas.{nesting}
use Rattle.tv_eval.specs.Laws.{HasHeightsUpTo}
use Rattle.tv_eval.specs.ScratchForm.{ScratchForm, HasScratchFor, program_height}
use Rattle.tv_eval.proofs.Programs.{within_height, made_scratches_fit, program_formulas_are_over}
use Rattle.tv_coerce.specs.Ready.{IsHeadOver, IsRuleOver}
use Rattle.tv_coerce.specs.Laws.{ClosedRulesCanBeTried}

-- ---- the closed rules of a program

same_arities : (preds : List Pred) → map (λ d. d.arity) (map pred_of preds) ≡ map (λ pred. pred.arity) preds
same_arities [] = refl
same_arities (pred ∷ preds) = ap (λ ns. pred.arity ∷ ns) (same_arities preds)

head-over : (p : ProgramForm) (head : HeadForm) → IsHead p head → IsHeadOver (program_arities p) head
head-over p HNever is = tt
head-over p (HAtom flag q vars) is = is
head-over p (HSame flag v w) is = is

no_higher : (p : ProgramForm) → IsNoHigher p (program_height p)
no_higher p =
    let h : HasHeightsUpTo (program_height p) p = within_height p
    in record {
      definitions = h.definitions;
      rules = h.rules;
      preconditions = h.preconditions;
      focus = h.focus;
      messages = h.messages;
      retains = h.retains;
      updates = h.updates;
    }

pub closed_rules_can_be_tried : ClosedRulesCanBeTried
closed_rules_can_be_tried program s scratch valid over is made =
    let p : ProgramForm = program_of program
    in let arities : program_arities p ≡ arities_of s = same_arities program.vocab.preds ∙ sym over
    in let small : s.size ≤ 256 = is.table.size
    in record {
      over = All-weaker (IsRule p) (IsRuleOver (arities_of s))
          (λ rule r. record {
            body = program_formulas_are_over program s rule.body over r.0.0;
            head = subst (λ ns. IsHeadOver ns rule.head) arities (head-over p rule.head r.1);
          })
          (closed_rules p) (closed_rules_are_rules p valid);
      plain = rules_are_plain p valid;
      fits = All-weaker (λ (rule : RuleForm). height rule.body ≤ program_height p + 4) (λ rule. HasScratchFor scratch rule.body s.size)
          (λ rule low. made_scratches_fit p 256 s.size scratch rule.body made low small)
          (closed_rules p) (closed-low p (program_height p) (no_higher p));
    }

-- ---- conjuncts

alone : (f : Form) → All (λ g. nesting g ≤ nesting f) (f ∷ [])
alone f = All-cons (λ g. nesting g ≤ nesting f) f [] (omega arith) (All-nil (λ g. nesting g ≤ nesting f))

-- no closures stand deeper in a conjunct
nesting-conjuncts : (f : Form) → All (λ g. nesting g ≤ nesting f) (conjuncts f)
nesting-conjuncts (FAnd f g) =
    All-append (λ h. nesting h ≤ max (nesting f) (nesting g)) (conjuncts f) (conjuncts g)
    (All-weaker (λ h. nesting h ≤ nesting f) (λ h. nesting h ≤ max (nesting f) (nesting g))
    (λ h le. omega (arith, le)) (conjuncts f) (nesting-conjuncts f))
    (All-weaker (λ h. nesting h ≤ nesting g) (λ h. nesting h ≤ max (nesting f) (nesting g))
    (λ h le. omega (arith, le)) (conjuncts g) (nesting-conjuncts g))
nesting-conjuncts FZero = alone FZero
nesting-conjuncts FOne = alone FOne
nesting-conjuncts (FAtom q vars) = alone (FAtom q vars)
nesting-conjuncts (FIsNew v) = alone (FIsNew v)
nesting-conjuncts (FSame v w) = alone (FSame v w)
nesting-conjuncts (FNot f) = alone (FNot f)
nesting-conjuncts (FOr f g) = alone (FOr f g)
nesting-conjuncts (FIff f g) = alone (FIff f g)
nesting-conjuncts (FCond c f g) = alone (FCond c f g)
nesting-conjuncts (FExists v f) = alone (FExists v f)
nesting-conjuncts (FForall v f) = alone (FForall v f)
nesting-conjuncts (FClosure from to left right f) = alone (FClosure from to left right f)

-- where there is room for a body, there is for its conjuncts
pub fits-conjuncts : (scratch : ScratchForm) (f : Form) (n : ℕ) → HasScratchFor scratch f n → All (λ g. HasScratchFor scratch g n) (conjuncts f)
fits-conjuncts scratch f n fits =
    let deep : nesting f ≤ scratch.levels = fits.closures
    in All-weaker (λ g. nesting g ≤ nesting f) (λ g. HasScratchFor scratch g n)
    (λ g le. record { closures = omega (arith, le, deep); individuals = fits.individuals })
    (conjuncts f) (nesting-conjuncts f)
