use Rattle.std.proofs.Common.{◌≡◌, map}
use Rattle.std.specs.Prelude.{All}
use Rattle.tv_tvs.specs.Views.{names_of}
use Rattle.tv_report.specs.Meaning.{ListsNodes, node_name}
use Rattle.tv_report.specs.Nodes.{AreRead}
use Rattle.tv_report.specs.Reading.{marked_node}
use Rattle.tv_report.specs.Views.{node_marks}
use Rattle.tv_report.proofs.nodes.listing.Given as goal

abbrev pub invariant-loop-node : goal.invariant-loop-node
invariant-loop-node l = record {
  seen : names_of l.seen.keys ≡ map node_name (map (marked_node l.program.vocab) (node_marks l.bytes l.yielded));
  listed : ListsNodes l.program (map (marked_node l.program.vocab) (node_marks l.bytes l.yielded)) l.listing;
  kept : All (AreRead l.program.vocab) l.listing;
}
