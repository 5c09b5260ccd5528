use Rattle.std.proofs.Common.{List, ◌≡◌, ◌<◌, ◌∷◌, [], ◌∙◌, All, Some, ap, arith, get_or, length}
use Rattle.std.proofs.Common.{slice_get, subst, sym}
use Rattle.std.specs.Option.{option_map}
use Rattle.std.proofs.lemmas.List.{length-append}
use Rattle.std.proofs.lemmas.Option.{slice_get-get_or, slice_get-map}
use Rattle.tv_model.specs.Program.{kind_of, pred_of}
use Rattle.tv_model.specs.declared.program.Pred.{Pred}
use Rattle.tv_rules.specs.Defining.{IsOfDefinition}
use Rattle.tv_update_laws.specs.Applied.{kind_at, kind_or_core}
use Rattle.tv_step.specs.Redefined.{AreOfDefinitions}
use Rattle.tv_step.specs.Setting.{form_in}
use Rattle.tv_step.proofs.Redefining.{no-lists, one-list-more}
use Rattle.tv_step.proofs.waiting.defining_rules.Goals as goal

pub loop-number-init : goal.loop-number-init
loop-number-init c = record {
  long = ap length c.new-lists.ensures;
  of = subst (AreOfDefinitions (form_in c.args.x.now) c.args.x.now.closed.now) (sym c.new-lists.ensures)
      (no-lists (form_in c.args.x.now) c.args.x.now.closed.now);
}

pub loop-number-preserved : goal.loop-number-preserved
loop-number-preserved c =
    let p = form_in c.args.x.now
    in let bases = c.args.x.now.closed.now
    in let preds = c.args.x.now.program.now.vocab.preds
    in let k = c.loop-number.number
    in let pred : Pred = c.index-preds-number.result
    in let lists = c.loop-number.lists
    in let xs = c.in_ok-defining.field-0
    in let below : k < length preds = omega (arith, c.loop-number-test.true, ap length c.as_slice-preds.ensures)
    in let at : slice_get preds k ≡ Some pred
    = slice_get-get_or preds k pred below
    ∙ ap Some (sym (c.index-preds-number.is ∙ ap (λ (ds : List Pred). get_or ds k pred) c.as_slice-preds.ensures))
    in let kind : kind_of pred.kind ≡ kind_at p k
    = sym (ap kind_or_core (slice_get-map pred_of preds k ∙ ap (option_map pred_of) at))
    in let own : All (IsOfDefinition bases k (kind_at p k)) xs
    = subst (λ d. All (IsOfDefinition bases k d) xs)
    (ap (λ (d : Pred). kind_of d.kind) (sym c.index-preds-number.is) ∙ kind) c.in_ok-defining.ensures
    in record {
      long = omega (arith, ap length c.in_ok-push.ensures, length-append lists (xs ∷ []), c.loop-number.invariant.long);
      of = subst (AreOfDefinitions p bases) (sym c.in_ok-push.ensures)
          (one-list-more p bases lists xs k c.loop-number.invariant.long c.loop-number.invariant.of own);
    }

pub returns : goal.returns
returns c = c.loop-number.invariant.of
