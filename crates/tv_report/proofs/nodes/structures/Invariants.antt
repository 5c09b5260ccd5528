use Rattle.tv_lex.specs.Token.{spec_tokens}
use Rattle.tv_report.specs.Reading.{structures_at}
use Rattle.tv_report.proofs.NodeLaws.{SoMany}
use Rattle.tv_report.proofs.nodes.structures.Given as goal

abbrev pub invariant-loop : goal.invariant-loop
invariant-loop l =
    SoMany l.reader l.list.items l.node.count l.counter (spec_tokens l.bytes l.rest)
    (structures_at l.reader l.node.count (spec_tokens l.bytes l.node.structures.now))
