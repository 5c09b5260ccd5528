use Rattle.std.proofs.Common.{◌∙◌, arith, length, map}
use Rattle.std.proofs.lemmas.List.{length-map}
use Rattle.tv_model.specs.Program.{rule_of}
use Rattle.tv_rules.proofs.NotingLaws.{mapped-at, noted-all, noted-next, preds-below}
use Rattle.tv_rules.proofs.mentioned.note_rules.Goals as goal

pub note_all-requires : goal.note_all-requires
note_all-requires c =
    preds-below (map rule_of c.args.rules.now) c.loop-number.number (length c.loop-number.lists.items)
    (rule_of c.index-rules-number.result) c.as_slice.result.now
    (mapped-at rule_of c.args.rules.now c.loop-number.number c.index-rules-number.result c.loop-number-test.true
    c.index-rules-number.is)
    (c.as_slice.ensures.value ∙ c.in_ok-preds.ensures)
    (λ q k rule at so. omega (arith, c.requires.preds q k rule at so, c.loop-number.invariant.0))

pub loop-number-preserved : goal.loop-number-preserved
loop-number-preserved c = (
  c.in_ok-note_all.ensures.count ∙ c.loop-number.invariant.0,
  noted-next c.loop-number.number (map rule_of c.args.rules.now) (rule_of c.index-rules-number.result) c.as_slice.result.now
      c.loop-number.lists.items c.note_all.new.lists.items
      (mapped-at rule_of c.args.rules.now c.loop-number.number c.index-rules-number.result c.loop-number-test.true
      c.index-rules-number.is)
      (c.as_slice.ensures.value ∙ c.in_ok-preds.ensures) c.loop-number.invariant.1 c.in_ok-note_all.ensures,
)

pub returns-clause-lists : goal.returns-clause-lists
returns-clause-lists c =
    noted-all c.loop-number.number (map rule_of c.args.rules.now) c.loop-number.lists.items
    (omega (arith, c.loop-number-test.false, length-map c.args.rules.now rule_of)) c.loop-number.invariant.1
