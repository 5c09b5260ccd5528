use Rattle.std.proofs.Common.{arith}
use Rattle.tv_source.specs.Copies.{source_of}
use Rattle.tv_plang.proofs.Small.{edges-built, edges-past, nodes-built, nodes-past, small-from}
use Rattle.tv_plang.proofs.whole.built.Goals as goal
use Rattle.tv_plang.proofs.whole.built.Goals.{then-len-gt16384-via-then-len-gt16384}
use Rattle.tv_plang.proofs.whole.built.Goals.{then-len-gt16384-via-else-len-gt16384+then-len-gt4096}

pub returns-then-len-gt16384-clause-too_many : goal.returns-then-len-gt16384-clause-too_many
returns-then-len-gt16384-clause-too_many c = λ e small.
    let edges = edges-built (source_of c.args.source.now) _ c.in_ok-arcs.ensures
    in let nodes = nodes-built (source_of c.args.source.now) _ _ _ c.in_ok-arcs.ensures c.deref.ensures.value c.in_ok-places.ensures
    in elim c.then-len-gt16384.branch [
      | then-len-gt16384-via-then-len-gt16384 w ↦
          edges-past (source_of c.args.source.now) (omega (arith, w.if-len-gt16384.true, edges)) small
      | then-len-gt16384-via-else-len-gt16384+then-len-gt4096 w ↦
          nodes-past (source_of c.args.source.now)
          (omega (arith, w.if-len-gt4096.true, w.len-else-len-gt16384.ensures, nodes)) small
    ]

pub returns-clause-within : goal.returns-clause-within
returns-clause-within c =
    let edges = edges-built (source_of c.args.source.now) _ c.in_ok-arcs.ensures
    in let nodes = nodes-built (source_of c.args.source.now) _ _ _ c.in_ok-arcs.ensures c.deref.ensures.value c.in_ok-places.ensures
    in small-from (source_of c.args.source.now) c.requires.few (omega (arith, c.if-len-gt16384.false, edges))
    (omega (arith, c.if-len-gt4096.false, c.len-else-len-gt16384.ensures, nodes))
