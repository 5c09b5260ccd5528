use Rattle.std.proofs.Common.{◌≡◌, true, false, List, ap, refl, subst, sym, arith, length, map, take, get_or}
use Rattle.std.proofs.Common.{◌+◌}
use Rattle.std.proofs.lemmas.List.{take_all, length-map}
use Rattle.tv_kleene.specs.declared.K3.{K3}
use Rattle.tv_kleene.specs.declared.K3.TheVariants.{No}
use Rattle.std.specs.Prelude.{MatchBool}
use Rattle.tv_model.specs.declared.program.Pred.{Pred}
use Rattle.tv_structure_form.specs.StructureForm.{kept_from, structure_of}
use Rattle.tv_struct.specs.StructureRows.{unary_row}
use Rattle.tv_struct.proofs.Library.{length-unary_row}
use Rattle.tv_blur.specs.Names.{abstraction_preds, is_abstraction}
use Rattle.tv_blur.specs.Rising.{AddsRises, TellsRises}
use Rattle.tv_blur.proofs.Ascended.{ascending-follows}
use Rattle.tv_blur.proofs.Rises.{all_rise, falls_out, passed_adds, rises_all, rises_enough, rises_next}
use Rattle.tv_blur.proofs.Rises.{told_adds}
use Rattle.tv_blur.proofs.ascending.are_ascending_by_rows.Goals as goal
use Rattle.tv_blur.proofs.ascending.are_ascending_by_rows.Goals.{then-is_told+else-not-add_rises+else-are_possible}
use Rattle.tv_blur.proofs.ascending.are_ascending_by_rows.Goals.{else-is_told}

pub add_rises-requires : goal.add_rises-requires
add_rises-requires c =
    omega (arith, c.loop-p.invariant.long, ap length c.unary_row.ensures, length-unary_row c.args.s.now c.loop-p.p)

pub loop-p-preserved : goal.loop-p-preserved
loop-p-preserved c =
    let At : List Pred → Type 0 = λ preds. c.pred-item.result ≡ get_or preds c.loop-p.p c.pred-item.result
    in let same : c.as_slice-pred-items.result.now ≡ c.args.vocab.now.preds = c.as_slice-pred-items.ensures
    in let Adds : List K3 → Type 0
    = λ new. MatchBool (is_abstraction c.pred-item.result)
    (AddsRises (unary_row c.args.s.now c.loop-p.p) (length c.loop-p.rises) c.loop-p.rises new) (new ≡ c.loop-p.rises)
    in rises_next c.args.vocab.now.preds c.args.s.now c.loop-p.p c.pred-item.result c.loop-p.rises c.if-is_told.rises
    (omega (arith, c.loop-p-test.true, ap length same)) (subst At same c.pred-item.is) c.loop-p.invariant
    (elim c.if-is_told.branch [
      | then-is_told+else-not-add_rises+else-are_possible w ↦ subst Adds (sym w.rises-is)
          (told_adds (is_abstraction c.pred-item.result) (unary_row c.args.s.now c.loop-p.p) c.loop-p.rises w.add_rises.new.rises
          w.if-is_told.ensures (rw w.unary_row.ensures at w.if-not-add_rises.ensures))
      | else-is_told w ↦ subst Adds (sym w.rises-is)
          (passed_adds (is_abstraction c.pred-item.result) c.args.s.now c.loop-p.p c.loop-p.rises w.if-is_told.ensures
          c.loop-p.invariant.long)
    ])

pub returns-then-not-add_rises : goal.returns-then-not-add_rises
returns-then-not-add_rises c =
    let At : List Pred → Type 0 = λ preds. c.pred-item.result ≡ get_or preds c.loop-p.p c.pred-item.result
    in let same : c.as_slice-pred-items.result.now ≡ c.args.vocab.now.preds = c.as_slice-pred-items.ensures
    in (
      λ holds. absurd (let e : false ≡ true = holds in cc),
      λ follows. absurd (falls_out c.args.vocab.now.preds c.args.s.now c.loop-p.p c.pred-item.result c.loop-p.rises
          (omega (arith, c.loop-p-test.true, ap length same)) (subst At same c.pred-item.is)
          c.if-is_told.ensures c.loop-p.invariant
          (rw c.unary_row.ensures at c.if-not-add_rises.ensures) follows),
    )

pub returns : goal.returns
returns c =
    let tells : TellsRises (abstraction_preds c.args.vocab.now) c.args.s.now c.loop-p.rises
    = subst (λ flags. TellsRises (kept_from 0 flags) c.args.s.now c.loop-p.rises)
    (take_all c.loop-p.p (map is_abstraction c.args.vocab.now.preds)
    (rw (length-map c.args.vocab.now.preds is_abstraction, ← c.as_slice-pred-items.ensures) c.loop-p-test.false))
    c.loop-p.invariant
    in (
      λ holds. ascending-follows (abstraction_preds c.args.vocab.now) (structure_of c.args.s.now) c.args.s.now.size
          (rises_all (abstraction_preds c.args.vocab.now) c.args.s.now c.loop-p.rises tells
          (λ u lt. c.are_possible-2.ensures.0 holds u No lt)),
      λ follows. c.are_possible-2.ensures.1
          (all_rise (abstraction_preds c.args.vocab.now) c.args.s.now c.loop-p.rises tells follows),
    )

pub returns-then-are_possible : goal.returns-then-are_possible
returns-then-are_possible c =
    let At : List Pred → Type 0 = λ preds. c.pred-item.result ≡ get_or preds c.loop-p.p c.pred-item.result
    in let same : c.as_slice-pred-items.result.now ≡ c.args.vocab.now.preds = c.as_slice-pred-items.ensures
    in let tells : TellsRises (kept_from 0 (take (c.loop-p.p + 1) (map is_abstraction c.args.vocab.now.preds))) c.args.s.now c.add_rises.new.rises
    = rises_next c.args.vocab.now.preds c.args.s.now c.loop-p.p c.pred-item.result c.loop-p.rises c.add_rises.new.rises
    (omega (arith, c.loop-p-test.true, ap length same)) (subst At same c.pred-item.is) c.loop-p.invariant
    (told_adds (is_abstraction c.pred-item.result) (unary_row c.args.s.now c.loop-p.p) c.loop-p.rises c.add_rises.new.rises
    c.if-is_told.ensures (rw c.unary_row.ensures at c.if-not-add_rises.ensures))
    in (
      λ holds. ascending-follows (abstraction_preds c.args.vocab.now) (structure_of c.args.s.now) c.args.s.now.size
          (rises_enough (map is_abstraction c.args.vocab.now.preds) c.args.s.now c.add_rises.new.rises (c.loop-p.p + 1) tells
          (λ u lt. c.are_possible.ensures.0 c.if-are_possible.true u No lt)),
      λ follows. refl,
    )
