use Rattle.std.proofs.Common.{◌≡◌, ◌∙◌, ◌∷◌, ◌++◌, [], List, ap, arith, get_or, length, map, subst, sym, take}
use Rattle.std.specs.Prelude.{if◌then◌else◌}
use Rattle.tv_model.specs.declared.program.Pred.{Pred}
use Rattle.tv_structure_form.specs.StructureForm.{kept_from}
use Rattle.tv_blur.specs.Names.{is_abstraction}
use Rattle.tv_blur.specs.Naming.{TellNames}
use Rattle.tv_blur.proofs.ClassLaws.{abstraction_more}
use Rattle.tv_blur.proofs.names.rows.Goals as goal

pub loop-p-preserved : goal.loop-p-preserved
loop-p-preserved c =
    let At : List Pred → Type 0 = λ preds. c.pred-item.result ≡ get_or preds c.loop-p.p c.pred-item.result
    in let same : c.as_slice-pred-items.result.now ≡ c.args.vocab.now.preds = c.as_slice-pred-items.ensures
    in let is : c.pred-item.result ≡ get_or c.args.vocab.now.preds c.loop-p.p c.pred-item.result = subst At same c.pred-item.is
    in subst (λ ps. TellNames ps c.args.s.now c.add_row.new.rows.items)
    (sym (abstraction_more c.args.vocab.now.preds c.loop-p.p c.pred-item.result (omega (arith, c.loop-p-test.true, ap length same))
    ∙ ap (λ x. kept_from 0 (take c.loop-p.p (map is_abstraction c.args.vocab.now.preds)) ++ (if is_abstraction x then c.loop-p.p ∷ [] else []))
    (sym is)))
    (c.in_ok-add_row.ensures (kept_from 0 (take c.loop-p.p (map is_abstraction c.args.vocab.now.preds))) c.loop-p.invariant)
