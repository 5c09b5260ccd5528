use Rattle.std.proofs.Common.{ℕ, ◌≡◌, ◌∙◌, ◌+◌, ◌-◌, true, false, List, ap, refl, subst, sym, arith, length}
use Rattle.std.proofs.Common.{map, take, get_or}
use Rattle.std.specs.Prelude.{All, MatchBool, ◌≢◌}
use Rattle.std.proofs.lemmas.List.{take_all, length-map}
use Rattle.tv_kleene.specs.declared.K3.{K3}
use Rattle.tv_kleene.specs.declared.K3.TheVariants.{No}
use Rattle.tv_row.proofs.RowOps.{no_word}
use Rattle.tv_model.specs.declared.program.Pred.{Pred}
use Rattle.tv_structure_form.specs.StructureForm.{arities_of, kept_from, structure_of}
use Rattle.tv_struct.specs.StructureRows.{unary_row}
use Rattle.tv_blur.specs.Names.{abstraction_preds, is_abstraction}
use Rattle.tv_blur.specs.Rising.{AddsRises, Falls, TellsRises}
use Rattle.tv_blur.proofs.Ascended.{ascending-follows}
use Rattle.tv_blur.proofs.ClassLaws.{told_arity}
use Rattle.tv_blur.proofs.Rises.{adds_word, all_rise, falls_out, falls_word, rises_all, rises_enough}
use Rattle.tv_blur.proofs.Rises.{rises_next, rises_none_in, told_adds, untold}
use Rattle.tv_blur.proofs.ascending.are_ascending_in.Goals as goal
use Rattle.tv_blur.proofs.ascending.are_ascending_in.Goals.{then-tells_apart+in-Some+else-all_rise}
use Rattle.tv_blur.proofs.ascending.are_ascending_in.Goals.{else-tells_apart}

pub loop-p-init : goal.loop-p-init
loop-p-init c = (
  rises_none_in c.args.s.now c.of-rises.result c.requires.few c.of-rises.ensures,
  ap length c.of-rises.ensures ∙ no_word,
)

pub unary_word-requires-clause-arity : goal.unary_word-requires-clause-arity
unary_word-requires-clause-arity c =
    let At : List Pred → Type 0 = λ preds. c.pred-item.result ≡ get_or preds c.loop-p.p c.pred-item.result
    in let same : c.as_slice-pred-items.result.now ≡ c.args.vocab.now.preds = c.as_slice-pred-items.ensures
    in told_arity c.args.vocab.now.preds (arities_of c.args.s.now) c.loop-p.p c.pred-item.result c.requires.over
    (omega (arith, c.loop-p-test.true, ap length same)) (subst At same c.pred-item.is)
    (sym c.tells_apart.ensures ∙ c.if-tells_apart.true)

pub loop-p-preserved : goal.loop-p-preserved
loop-p-preserved c =
    let At : List Pred → Type 0 = λ preds. c.pred-item.result ≡ get_or preds c.loop-p.p c.pred-item.result
    in let same : c.as_slice-pred-items.result.now ≡ c.args.vocab.now.preds = c.as_slice-pred-items.ensures
    in let before : List K3 = take (c.args.s.now.size - 1) c.loop-p.rises
    in let Now : List K3 → Type 0
    = λ new. TellsRises (kept_from 0 (take (c.loop-p.p + 1) (map is_abstraction c.args.vocab.now.preds))) c.args.s.now
    (take (c.args.s.now.size - 1) new) × (length new ≡ 64)
    in let next : (new : List K3)
    → MatchBool (is_abstraction c.pred-item.result)
    (AddsRises (unary_row c.args.s.now c.loop-p.p) (length before) before (take (c.args.s.now.size - 1) new))
    (take (c.args.s.now.size - 1) new ≡ before)
    → TellsRises (kept_from 0 (take (c.loop-p.p + 1) (map is_abstraction c.args.vocab.now.preds))) c.args.s.now
    (take (c.args.s.now.size - 1) new)
    = λ new adds. rises_next c.args.vocab.now.preds c.args.s.now c.loop-p.p c.pred-item.result before
    (take (c.args.s.now.size - 1) new) (omega (arith, c.loop-p-test.true, ap length same))
    (subst At same c.pred-item.is) c.loop-p.invariant.0 adds
    in elim c.if-tells_apart.branch [
      | then-tells_apart+in-Some+else-all_rise w ↦
          (let adds : AddsRises w.unary_word.result (c.args.s.now.size - 1) c.loop-p.rises w.in-Some.told
          = subst (λ n. AddsRises w.unary_word.result (n - 1) c.loop-p.rises w.in-Some.told) w.size.ensures.size w.in-Some.ensures
          in subst Now (sym w.rises-is) (
            next w.in-Some.told
                (told_adds (is_abstraction c.pred-item.result) (unary_row c.args.s.now c.loop-p.p) before
                (take (c.args.s.now.size - 1) w.in-Some.told) (sym c.tells_apart.ensures ∙ w.if-tells_apart.true)
                (adds_word c.args.s.now c.loop-p.p w.unary_word.result c.loop-p.rises w.in-Some.told c.requires.few
                w.unary_word.ensures.values c.loop-p.invariant.1 adds)),
            adds.long ∙ c.loop-p.invariant.1,
          ))
      | else-tells_apart w ↦ subst Now (sym w.rises-is) (
        next c.loop-p.rises
            (untold (is_abstraction c.pred-item.result)
            (AddsRises (unary_row c.args.s.now c.loop-p.p) (length before) before before) (before ≡ before)
            (sym c.tells_apart.ensures ∙ w.if-tells_apart.false) refl),
        c.loop-p.invariant.1,
      )
    ]

pub returns-in-None : goal.returns-in-None
returns-in-None c =
    let At : List Pred → Type 0 = λ preds. c.pred-item.result ≡ get_or preds c.loop-p.p c.pred-item.result
    in let same : c.as_slice-pred-items.result.now ≡ c.args.vocab.now.preds = c.as_slice-pred-items.ensures
    in (
      λ holds. absurd (let e : false ≡ true = holds in cc),
      λ follows. absurd (falls_out c.args.vocab.now.preds c.args.s.now c.loop-p.p c.pred-item.result
          (take (c.args.s.now.size - 1) c.loop-p.rises)
          (omega (arith, c.loop-p-test.true, ap length same)) (subst At same c.pred-item.is)
          (sym c.tells_apart.ensures ∙ c.if-tells_apart.true) c.loop-p.invariant.0
          (falls_word c.args.s.now c.loop-p.p c.unary_word.result c.loop-p.rises c.requires.few c.unary_word.ensures.values
          c.loop-p.invariant.1
          (subst (λ n. Falls c.unary_word.result (take (n - 1) c.loop-p.rises)) c.size.ensures.size c.in-None.ensures)) follows),
    )

pub returns-then-all_rise : goal.returns-then-all_rise
returns-then-all_rise c =
    let At : List Pred → Type 0 = λ preds. c.pred-item.result ≡ get_or preds c.loop-p.p c.pred-item.result
    in let same : c.as_slice-pred-items.result.now ≡ c.args.vocab.now.preds = c.as_slice-pred-items.ensures
    in let before : List K3 = take (c.args.s.now.size - 1) c.loop-p.rises
    in let after : List K3 = take (c.args.s.now.size - 1) c.in-Some.told
    in let adds : AddsRises c.unary_word.result (c.args.s.now.size - 1) c.loop-p.rises c.in-Some.told
    = subst (λ n. AddsRises c.unary_word.result (n - 1) c.loop-p.rises c.in-Some.told) c.size.ensures.size c.in-Some.ensures
    in let tells : TellsRises (kept_from 0 (take (c.loop-p.p + 1) (map is_abstraction c.args.vocab.now.preds))) c.args.s.now after
    = rises_next c.args.vocab.now.preds c.args.s.now c.loop-p.p c.pred-item.result before after
    (omega (arith, c.loop-p-test.true, ap length same)) (subst At same c.pred-item.is) c.loop-p.invariant.0
    (told_adds (is_abstraction c.pred-item.result) (unary_row c.args.s.now c.loop-p.p) before after
    (sym c.tells_apart.ensures ∙ c.if-tells_apart.true)
    (adds_word c.args.s.now c.loop-p.p c.unary_word.result c.loop-p.rises c.in-Some.told c.requires.few
    c.unary_word.ensures.values c.loop-p.invariant.1 adds))
    in let all : All (λ k. k ≢ No) after
    = subst (λ n. All (λ k. k ≢ No) (take (n - 1) c.in-Some.told)) c.size-then-tells_apart.ensures.size
    (c.all_rise.ensures.0 c.if-all_rise.true)
    in (
      λ holds. ascending-follows (abstraction_preds c.args.vocab.now) (structure_of c.args.s.now) c.args.s.now.size
          (rises_enough (map is_abstraction c.args.vocab.now.preds) c.args.s.now after (c.loop-p.p + 1) tells
          (λ u lt. all u No lt)),
      λ follows. refl,
    )

pub returns : goal.returns
returns c =
    let rises : List K3 = take (c.args.s.now.size - 1) c.loop-p.rises
    in let tells : TellsRises (abstraction_preds c.args.vocab.now) c.args.s.now rises
    = subst (λ flags. TellsRises (kept_from 0 flags) c.args.s.now rises)
    (take_all c.loop-p.p (map is_abstraction c.args.vocab.now.preds)
    (rw (length-map c.args.vocab.now.preds is_abstraction, ← c.as_slice-pred-items.ensures) c.loop-p-test.false))
    c.loop-p.invariant.0
    in let Rise : ℕ → Type 0 = λ n. All (λ k. k ≢ No) (take (n - 1) c.loop-p.rises)
    in (
      λ holds. ascending-follows (abstraction_preds c.args.vocab.now) (structure_of c.args.s.now) c.args.s.now.size
          (rises_all (abstraction_preds c.args.vocab.now) c.args.s.now rises tells
          (λ u lt. subst Rise c.size-2.ensures.size (c.all_rise-2.ensures.0 holds) u No lt)),
      λ follows. c.all_rise-2.ensures.1
          (subst Rise (sym c.size-2.ensures.size)
          (all_rise (abstraction_preds c.args.vocab.now) c.args.s.now rises tells follows)),
    )
