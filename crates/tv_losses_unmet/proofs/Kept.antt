-- The closed rules of each declaration, made one after the other, and tried.
use Rattle.std.proofs.Common.{ℕ, ◌≡◌, ◌∙◌, ◌⊎◌, inl, inr, List, [], ◌∷◌, ◌++◌, All, Some, length, sym, ap}
use Rattle.std.proofs.Common.{subst}
use Rattle.std.proofs.Common.{get_or, slice_get}
use Rattle.std.proofs.lemmas.Option.{slice_get-get_or}
use Rattle.tv_lemmas.proofs.Lists.{pushed_at}
use Rattle.tv_coerce.specs.Laws.{ClosedRulesCanBeTried}
use Rattle.tv_coerce.specs.Ready.{CanCoerce, IsRuleOver}
use Rattle.tv_eval.specs.ScratchForm.{ScratchForm, HasScratchFor}
use Rattle.tv_model.specs.Program.{ProgramForm, RuleForm, program_of}
use Rattle.tv_model.specs.declared.program.Program.{Program}
use Rattle.tv_model.specs.declared.program.Rule.{Rule as Declaration}
use Rattle.tv_rules.specs.Closing.{closed_rules}
use Rattle.tv_rules.specs.EntryForms.{rules_of}
use Rattle.tv_stable_laws.specs.Laws.{IsPlainRule}
use Rattle.tv_structure_form.specs.StructureForm.{StructureForm, arities_of}
use Rattle.tv_losses_unmet.specs.Kept.{AreClosedAlone, AreDeclared, CanTryOver}
use Rattle.tv_losses_unmet.specs.Unmet.{closed_alone}
use Rattle.tv_losses_unmet.specs.declared.claim.Claim.{Claim}
use Rattle.tv_losses_unmet.proofs.Closing.{also-alone}

-- one more behind them
pub one-more : (p : ProgramForm) (numbered : ℕ → Claim) (lists new : List (List Declaration)) (number : ℕ)
    (bases : List Declaration) → AreClosedAlone p numbered lists → length lists ≡ number
    → rules_of bases ≡ closed_alone p (numbered number) → new ≡ lists ++ bases ∷ []
    → AreClosedAlone p numbered new
one-more p numbered lists new number bases are count is pushed k other at =
    by (pushed_at lists bases other k (subst (λ xs. slice_get xs k ≡ Some other) pushed at))
  where
    by : (slice_get lists k ≡ Some other) ⊎ ((k ≡ length lists) × (bases ≡ other))
        → rules_of other ≡ closed_alone p (numbered k)
    by (inl earlier) = are k other earlier
    by (inr (last, same)) =
        ap rules_of (sym same) ∙ is ∙ ap (λ n. closed_alone p (numbered n)) (sym (last ∙ count))

-- what can be tried of all rules can of one declaration's
can-alone : (p : ProgramForm) (claim : Claim) (s : StructureForm) (scratch : ScratchForm)
    → CanCoerce (closed_rules p) s scratch → CanCoerce (closed_alone p claim) s scratch
can-alone p claim s scratch can = record {
  over = also-alone (IsRuleOver (arities_of s)) p claim can.over;
  plain = also-alone IsPlainRule p claim can.plain;
  fits = also-alone (λ rule. HasScratchFor scratch rule.body s.size) p claim can.fits;
}

pub can-try : (program : Program) (preds rules : List (List Declaration)) (scratch : ScratchForm)
    → AreDeclared program preds rules scratch → ClosedRulesCanBeTried → (numbered : ℕ → Claim)
    (lists : List (List Declaration)) → AreClosedAlone (program_of program) numbered lists
    → All (λ bases. CanTryOver program scratch (rules_of bases)) lists
can-try program preds rules scratch are can numbered lists alone k d within s over is =
    subst (λ (some : List RuleForm). CanCoerce some s scratch)
    (sym (alone k (get_or lists k d) (slice_get-get_or lists k d within)))
    (can-alone (program_of program) (numbered k) s scratch (can program s scratch are.valid over is are.room))
