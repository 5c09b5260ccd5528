-- A run of quantifiers is evaluated one list of individuals after the other.
use Rattle.std.proofs.Common.{ℕ, ◌≡◌, ◌<◌, ◌+◌, ◌-◌, List, [], ◌∷◌, Option}
use Rattle.std.proofs.Common.{refl, sym, subst, ◌∙◌}
use Rattle.std.specs.List.{range_with_len}
use Rattle.tv_model.specs.Form.{Form, FExists}
use Rattle.tv_model.specs.Valid.{IsFormulaOver}
use Rattle.tv_structure_form.specs.StructureForm.{StructureForm, structure_of, arities_of}
use Rattle.tv_eval_laws.specs.Value.{value}
use Rattle.tv_quantifiers.specs.declared.quantifier.Quantifier.{Quantifier}
use Rattle.tv_quantifiers.specs.declared.quantifier.Quantifier.TheVariants.{Exists, Forall}
use Rattle.tv_quantifiers.specs.declared.runs.Level.{Level}
use Rattle.tv_quantifiers.specs.Quantified.{quantified}
use Rattle.tv_quantifiers.specs.Runs.{AreVariables, AreWithin, IsOpened, owed, placed, under_run}
use Rattle.tv_quantifiers.proofs.Opening.{formula-over, formula-under, free-under, nesting-under}
use Rattle.tv_quantifiers.proofs.Running.{owed-fresh, range-all}
use Rattle.tv_eval.specs.AssignmentForm.{assignment_of}
use Rattle.tv_eval.specs.CanEvaluate.{CanEvaluate}
use Rattle.tv_eval.specs.Formulas.{HasRooms}
use Rattle.tv_eval.proofs.Parts.{IsPut, can-forall, can-put}

can-quantified : (q : Quantifier) (s : StructureForm) (a : List (Option ℕ)) (sizes : List ℕ) (v : ℕ) (f : Form)
    → CanEvaluate s a sizes (quantified q v f) → CanEvaluate s a sizes (FExists v f)
can-quantified Exists s a sizes v f h = h
can-quantified Forall s a sizes v f h = can-forall s a sizes v f h

pub whole-parts : (q : Quantifier) (s : StructureForm) (a : List (Option ℕ)) (sizes : List ℕ) (v w : ℕ) (f : Form)
    → CanEvaluate s a sizes (FExists v (FExists w f)) → CanEvaluate s a sizes (FExists v (quantified q w f))
whole-parts Exists s a sizes v w f h = h
whole-parts Forall s a sizes v w f h = record { formula = h.formula; assigned = h.assigned; rooms = h.rooms }

-- the run may be evaluated where the quantifier may
pub can-open : (q : Quantifier) (s : StructureForm) (a : List (Option ℕ)) (sizes : List ℕ) (v : ℕ) (f part : Form)
    (levels : List Level) → CanEvaluate s a sizes (FExists v f) → IsOpened (quantified q v f) levels part
    → CanEvaluate s a sizes (under_run levels part)
can-open q s a sizes v f part levels h opened = record {
  formula = opened.over (arities_of s) (formula-over q (arities_of s) v f h.formula);
  assigned = λ w free. h.assigned w (free-under q v w f (opened.free w free));
  rooms = subst (λ n. HasRooms s.size n sizes) (sym (opened.closures ∙ nesting-under q v f)) h.rooms;
}

pub are-variables : (arities : List ℕ) (levels : List Level) (f : Form)
    → IsFormulaOver arities (under_run levels f) → AreVariables levels
are-variables arities [] f is = tt
are-variables arities (l ∷ ls) f is =
    let inner : IsFormulaOver arities (quantified l.quantifier l.var.0 (under_run ls f)) = is
    in (
      (formula-under l.quantifier arities l.var.0 (under_run ls f) inner).0,
      are-variables arities ls f (formula-under l.quantifier arities l.var.0 (under_run ls f) inner).1,
    )

-- one variable more
pub put-level : (s : StructureForm) (here new : List (Option ℕ)) (sizes : List ℕ) (l : Level) (ls : List Level) (f : Form)
    → IsPut here l.var.0 l.at new → AreWithin s.size (l ∷ ls) × CanEvaluate s here sizes (under_run (l ∷ ls) f)
    → AreWithin s.size ls × CanEvaluate s new sizes (under_run ls f)
put-level s here new sizes l ls f is h = (
  h.0.1,
  can-put s here new sizes l.var.0 l.at (under_run ls f)
      (can-quantified l.quantifier s here sizes l.var.0 (under_run ls f) h.1) h.0.0 is,
)

-- at the beginning the value of the whole is owed
pub owed-first : (q : Quantifier) (s : StructureForm) (a : List (Option ℕ)) (v : ℕ) (f part : Form) (levels : List Level)
    → 0 < s.size → IsOpened (quantified q v f) levels part
    → owed (structure_of s) s.size (assignment_of a) levels part (value (structure_of s) (placed (assignment_of a) levels) part)
    ≡ value (structure_of s) (assignment_of a) (quantified q v f)
owed-first q s a v f part levels some opened =
    owed-fresh (structure_of s) s.size refl levels (assignment_of a) part some opened.fresh
    ∙ opened.values (structure_of s) (assignment_of a) 0 (range_with_len (0 + 1) (s.size - (0 + 1))) (range-all s.size some)
