use Rattle.std.proofs.Common.{map}
use Rattle.tv_model.specs.Program.{rule_of}
use Rattle.tv_coerce_moves.proofs.NotedLaws.{keeps-both}
use Rattle.tv_rules.proofs.MovedLaws.{rules-next}
use Rattle.tv_rules.proofs.NotingLaws.{mapped-at}
use Rattle.tv_rules.proofs.moved.note_rules.Goals as goal

pub loop-number-preserved : goal.loop-number-preserved
loop-number-preserved c =
    let k = c.loop-number.number
    in (
      keeps-both c.args.occurrences.now c.loop-number.occurrences c.note_members.new.occurrences c.loop-number.invariant.0 c.in_ok-note_members.ensures.kept,
      rules-next k (map rule_of c.args.rules.now) (rule_of c.index-rules-number.result) c.loop-number.occurrences c.note_members.new.occurrences
          (mapped-at rule_of c.args.rules.now k c.index-rules-number.result c.loop-number-test.true c.index-rules-number.is)
          c.loop-number.invariant.1 c.in_ok-note_members.ensures.kept c.in_ok-note_members.ensures.noted,
    )
