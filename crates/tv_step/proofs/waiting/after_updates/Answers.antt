use Rattle.std.proofs.Common.{◌≡◌, map, subst, sym}
use Rattle.tv_rules.specs.EntryForms.{rules_of}
use Rattle.tv_step.specs.Setting.{form_in}
use Rattle.tv_step.specs.Waiting.{WaitsAfter}
use Rattle.tv_step.proofs.Keeping.{copied-right, found-right, kept-right}
use Rattle.tv_step.proofs.Noting.{waits-among}
use Rattle.tv_step.proofs.waiting.after_updates.Goals as goal

pub returns-in-Some-clause-waits : goal.returns-in-Some-clause-waits
returns-in-Some-clause-waits c =
    let p = form_in c.args.x.now
    in let rules = rules_of c.args.x.now.closed.now
    in let preds = c.in_ok-preds.preds.items
    in let right : WaitsAfter p preds rules c.in-Some.kept.now.set.value
    = found-right (λ qs set. WaitsAfter p qs rules set) c.args.shared.now.after.kept.items c.in-Some.kept.now preds
    c.requires.after c.in-Some.ensures.0 c.in-Some.ensures.1
    in copied-right c.clone.result (λ set. set.value ≡ c.in-Some.kept.now.set.value)
    (λ set. WaitsAfter p (map (λ w. w.pred.0) c.args.updates.now) rules set.value)
    (λ set same. waits-among p (map (λ w. w.pred.0) c.args.updates.now) preds rules set.value c.in_ok-preds.ensures
    (subst (WaitsAfter p preds rules) (sym same) right))
    c.clone.ensures.cases

pub returns-clause-waits : goal.returns-clause-waits
returns-clause-waits c =
    let p = form_in c.args.x.now
    in let rules = rules_of c.args.x.now.closed.now
    in waits-among p (map (λ w. w.pred.0) c.args.updates.now) c.in_ok-preds.preds.items rules c.in_ok-set.set.value
    c.in_ok-preds.ensures
    (subst (λ qs. WaitsAfter p qs rules c.in_ok-set.set.value) c.as_slice.ensures.value c.in_ok-set.ensures)

pub returns-clause-shared : goal.returns-clause-shared
returns-clause-shared c =
    let p = form_in c.args.x.now
    in let rules = rules_of c.args.x.now.closed.now
    in record {
      all = c.requires.all;
      defined = c.requires.defined;
      after = kept-right (λ qs set. WaitsAfter p qs rules set) c.in_ok-preds.preds.items c.in_ok-set.set.value
          c.args.shared.now.after.kept.items c.keep.new.found.kept.items c.in_ok-keep.ensures
          (subst (λ qs. WaitsAfter p qs rules c.in_ok-set.set.value) c.as_slice.ensures.value c.in_ok-set.ensures)
          c.requires.after;
      at = c.requires.at;
      defining = c.requires.defining;
    }
