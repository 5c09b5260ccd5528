use Rattle.std.proofs.Common.{ℕ, length, ap, arith}
use Rattle.std.proofs.lemmas.Result.{IfOk-weaker}
use Rattle.tv_structure_form.specs.StructureForm.{StructureForm, arities_of}
use Rattle.tv_blur.specs.Names.{abstraction_preds}
use Rattle.tv_blur.specs.Blur.{IsBlur}
use Rattle.tv_blur.specs.Classes.{HasMerged}
use Rattle.tv_blur.specs.Naming.{IsGathered, named_in}
use Rattle.tv_blur.proofs.Assembly.{HasClasses, are_classes, gathered_classes, is_blur}
use Rattle.tv_blur.proofs.canonical.regrouped.Goals as goal

pub merged-requires : goal.merged-requires
merged-requires c =
    let gathered : IsGathered c.in_ok-names.names (named_in c.in_ok-names.names).size c.deref.result.now
    = rw c.deref.ensures.value c.in_ok-classes.ensures
    in let has : (place : ℕ → ℕ) × HasClasses (abstraction_preds c.args.vocab.now) c.args.s.now place c.deref.result.now
    = gathered_classes (abstraction_preds c.args.vocab.now) c.args.s.now c.in_ok-names.names c.deref.result.now c.in_ok-names.ensures gathered
    in are_classes (abstraction_preds c.args.vocab.now) c.args.s.now has.0 c.deref.result.now has.1
    (omega (
      arith,
      gathered.few,
      ap (λ (t : StructureForm). t.size) c.in_ok-names.ensures.of,
      c.size.ensures.kept.table.size,
    ))

pub returns-clause-exact : goal.returns-clause-exact
returns-clause-exact c =
    let gathered : IsGathered c.in_ok-names.names (named_in c.in_ok-names.names).size c.deref.result.now
    = rw c.deref.ensures.value c.in_ok-classes.ensures
    in let has : (place : ℕ → ℕ) × HasClasses (abstraction_preds c.args.vocab.now) c.args.s.now place c.deref.result.now
    = gathered_classes (abstraction_preds c.args.vocab.now) c.args.s.now c.in_ok-names.names c.deref.result.now c.in_ok-names.ensures gathered
    in IfOk-weaker c.merged.result (HasMerged c.deref.result.now c.args.s.now (length (arities_of c.args.s.now)))
    (IsBlur (abstraction_preds c.args.vocab.now) c.args.s.now)
    (λ t merged. (has.0, is_blur (abstraction_preds c.args.vocab.now) c.args.s.now t has.0 c.deref.result.now has.1 merged))
    c.merged.ensures.merged
