use Rattle.std.proofs.Common.{◌≡◌, length, subst, sym, All}
use Rattle.tv_model.specs.Form.{form_of}
use Rattle.tv_rules.specs.EntryForms.{rules_of}
use Rattle.tv_coerce_sets.specs.Listed.{AreListed}
use Rattle.tv_step.specs.Waiting.{WaitsAbout, WaitsAt}
use Rattle.tv_step.proofs.Keeping.{copied-right, found-right, kept-right}
use Rattle.tv_step.proofs.Noting.{waits-at}
use Rattle.tv_step.proofs.waiting.waiting_at.Goals as goal

pub returns-in-Some-clause-waits : goal.returns-in-Some-clause-waits
returns-in-Some-clause-waits c =
    let n = length c.args.x.now.program.now.vocab.preds
    in let fs = c.args.formulas.now
    in let rules = rules_of c.args.x.now.closed.now
    in let preds = c.in_ok-preds.preds.items
    in let right : WaitsAbout preds rules c.in-Some.kept.now.set.value
    = found-right (λ qs set. WaitsAbout qs rules set) c.args.shared.now.at.kept.items c.in-Some.kept.now preds
    c.requires.shared.at c.in-Some.ensures.0 c.in-Some.ensures.1
    in copied-right c.clone.result (λ set. set.value ≡ c.in-Some.kept.now.set.value)
    (λ set. All (λ f. WaitsAt n (form_of f) rules set.value) fs)
    (λ set same. waits-at n fs preds rules set.value
    (subst (λ count. AreListed count fs preds) c.len.ensures c.in_ok-preds.ensures)
    (subst (WaitsAbout preds rules) (sym same) right))
    c.clone.ensures.cases

pub returns-clause-waits : goal.returns-clause-waits
returns-clause-waits c =
    let rules = rules_of c.args.x.now.closed.now
    in waits-at (length c.args.x.now.program.now.vocab.preds) c.args.formulas.now c.in_ok-preds.preds.items rules
    c.in_ok-set.set.value
    (subst (λ count. AreListed count c.args.formulas.now c.in_ok-preds.preds.items) c.len.ensures c.in_ok-preds.ensures)
    (subst (λ qs. WaitsAbout qs rules c.in_ok-set.set.value) c.as_slice.ensures.value c.in_ok-set.ensures)

pub returns-clause-shared : goal.returns-clause-shared
returns-clause-shared c =
    let rules = rules_of c.args.x.now.closed.now
    in record {
      all = c.requires.shared.all;
      defined = c.requires.shared.defined;
      after = c.requires.shared.after;
      at = kept-right (λ qs set. WaitsAbout qs rules set) c.in_ok-preds.preds.items c.in_ok-set.set.value
          c.args.shared.now.at.kept.items c.keep.new.found.kept.items c.in_ok-keep.ensures
          (subst (λ qs. WaitsAbout qs rules c.in_ok-set.set.value) c.as_slice.ensures.value c.in_ok-set.ensures)
          c.requires.shared.at;
      defining = c.requires.shared.defining;
    }
