use Rattle.std.proofs.Common.{◌∙◌, ap, sym, drop_of_length-le}
use Rattle.std.specs.List.{flat_map, fold}
use Rattle.tv_plang_laws.specs.Compiled.{ends}
use Rattle.tv_plang.specs.Arcs.{arcs_of}
use Rattle.tv_plang.specs.Nodes.{seen}
use Rattle.tv_plang.proofs.Sights.{seen-first}
use Rattle.tv_plang.proofs.nodes.Positions.of.Goals as goal

pub returns : goal.returns
returns c =
    ap (λ arcs. fold seen c.loop-arc.places.list.keys (flat_map ends (arcs_of arcs))) (sym (drop_of_length-le c.args.arcs.now c.loop-arc-test.false))
    ∙ c.loop-arc.invariant
    ∙ seen-first (flat_map ends (arcs_of c.args.arcs.now))
