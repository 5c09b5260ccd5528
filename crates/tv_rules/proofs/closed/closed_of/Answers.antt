use Rattle.std.proofs.Common.{ℕ, ◌≡◌, ◌<◌, ◌∙◌, List, Some, ap, arith, map, slice_get, subst, sym}
use Rattle.tv_model.specs.Program.{RuleForm, rule_of}
use Rattle.tv_model.specs.declared.program.Rule.{Rule}
use Rattle.tv_rules.specs.declared.entries.Entry.{Entry}
use Rattle.tv_rules.specs.EntryForms.{closed_entries, entry_of, rules_of}
use Rattle.tv_rules.specs.Standing.{StandsIn}
use Rattle.tv_rules.proofs.MovedLaws.{are-moved_by, base-within}
use Rattle.tv_rules.proofs.KeptLemmas.{are-kept, below-count, range-of}
use Rattle.tv_rules.proofs.NotingLaws.{bases-range}
use Rattle.tv_rules.proofs.closed.closed_of.Goals as goal

pub shapes-requires : goal.shapes-requires
shapes-requires c = range-of c.args.bases c.as_slice.result.now c.as_slice.ensures c.requires.variables

pub watch_lists-requires-clause-preds : goal.watch_lists-requires-clause-preds
watch_lists-requires-clause-preds c =
    bases-range c.args.bases c.as_slice-3.result.now c.args.preds c.as_slice-3.ensures c.requires.preds

pub invariant_of-result : goal.invariant_of-result
invariant_of-result c = (
  are-kept c.args.bases c.in_ok-shapes.shapes c.in_ok-entries.entries c.in_ok-by_pred.by_pred
      c.in_ok-by_sm.by_sm
      c.as_slice.result.now c.as_slice-2.result.now c.as_slice-3.result.now c.as_slice-5.result.now
      c.as_slice.ensures c.as_slice-2.ensures c.as_slice-3.ensures c.as_slice-5.ensures
      c.in_ok-shapes.ensures c.in_ok-entries.ensures c.in_ok-by_pred.ensures.lists
      (below-count (rules_of c.args.bases) c.in_ok-by_pred.by_pred c.args.preds c.in_ok-by_pred.ensures.count c.requires.preds)
      c.in_ok-by_sm.ensures,
  are-moved_by c.args.bases c.in_ok-occurrences.occurrences c.in_ok-families.families c.in_ok-entries.entries c.as_slice-7.result.now
      c.as_slice-9.result.now c.as_slice-7.ensures c.as_slice-9.ensures
      (subst (λ (rs : List Rule). map entry_of c.in_ok-entries.entries ≡ closed_entries (map rule_of rs)) c.as_slice-2.ensures c.in_ok-entries.ensures)
      c.in_ok-occurrences.ensures c.in_ok-families.ensures,
)

pub occurrences_of-requires-clause-entries : goal.occurrences_of-requires-clause-entries
occurrences_of-requires-clause-entries c =
    ap (λ (es : List Entry). map entry_of es) c.as_slice-8.ensures ∙ c.in_ok-entries.ensures
    ∙ ap (λ (rs : List Rule). closed_entries (map rule_of rs)) (c.as_slice-2.ensures ∙ sym c.as_slice-7.ensures)

pub occurrences_of-requires-clause-preds : goal.occurrences_of-requires-clause-preds
occurrences_of-requires-clause-preds c =
    subst (λ (rs : List Rule). (q n : ℕ) (rule : RuleForm) → slice_get (rules_of rs) n ≡ Some rule → StandsIn q rule → q < c.args.preds)
    (sym c.as_slice-7.ensures) c.requires.preds

pub families-requires : goal.families-requires
families-requires c = λ n e at. omega (
  arith,
  c.len.ensures,
  base-within c.args.bases c.as_slice-2.result.now c.in_ok-entries.entries c.as_slice-9.result.now c.as_slice-2.ensures c.as_slice-9.ensures
      c.in_ok-entries.ensures n e at,
)
