use Rattle.std.proofs.Common.{◌≡◌, ◌++◌}
use Rattle.std.specs.Prelude.{IfSome}
use Rattle.std.specs.List.{flat_map}
use Rattle.std.proofs.lemmas.Option.{IfSome_then}
use Rattle.std.proofs.lemmas.Result.{IfOk-weaker}
use Rattle.tv_listing.specs.ListingForm.{at_node}
use Rattle.tv_report.specs.Text.{node_text}
use Rattle.tv_report.proofs.Fronts.{node_front}
use Rattle.tv_tvs.specs.Canonical.{canonical_text}
use Rattle.tv_report.proofs.matching.behind_node.Goals as goal

pub returns-in-Some-clause-text : goal.returns-in-Some-clause-text
returns-in-Some-clause-text c =
    let vocab = c.args.vocab.now
    in let name = c.args.name.now
    in let ss = at_node c.args.listing.now c.args.node
    in IfOk-weaker c.behind_structures.result
    (λ found. IfSome found (λ rest. c.in-Some.inside.now ≡ flat_map (canonical_text vocab) ss ++ rest.now))
    (λ found. IfSome found (λ rest. c.args.bytes.now ≡ node_text vocab name ss ++ rest.now))
    (λ found so. IfSome_then found so (λ rest next. node_front vocab name ss c.count-count.result c.clear.new.self.items c.write_node_line.new.out.items
    c.args.bytes.now c.as_slice.result.now c.in-Some.inside.now rest.now c.count-count.ensures c.clear.ensures.items c.in_ok-write_node_line.ensures
    c.as_slice.ensures.value c.in-Some.ensures next))
    c.behind_structures.ensures
