use Rattle.std.proofs.Common.{◌<◌, ◌∙◌, [], List, length, ap, subst, arith}
use Rattle.std.proofs.lemmas.List.{get_or_read}
use Rattle.tv_structure_form.specs.StructureForm.{StructureForm}
use Rattle.tv_listing.specs.ListingForm.{IsSortedFrom}
use Rattle.tv_listing.proofs.ListingLaws.{sorted_many, sorted_each, sorted_others}
use Rattle.tv_listing.proofs.listing.Listing.sorted.Goals as goal

pub loop-i-preserved : goal.loop-i-preserved
loop-i-preserved c =
    let Of : List StructureForm → Type 0 = λ old. IsSortedFrom old c.in_ok-nodes.field-0
    in let lt : c.loop-i.i < length c.loop-i.nodes.items
    = omega (arith, c.loop-i-test.true, c.len-i-end.ensures, c.self.inside.nodes.ok, ap length c.self.view_is, c.loop-i.invariant.nodes)
    in record {
      nodes = sorted_many c.args.self c.loop-i.nodes.items c.loop-i.i c.replace-node.new.dest c.in_ok-nodes.field-0 c.loop-i.invariant.nodes
          lt c.loop-i.invariant.each c.loop-i.invariant.others;
      each = sorted_each c.args.self c.loop-i.nodes.items c.loop-i.i c.replace-node.new.dest c.in_ok-nodes.field-0 c.loop-i.invariant.nodes
          lt c.loop-i.invariant.each c.loop-i.invariant.others
          (subst Of
          (c.replace-node.ensures.value
          ∙ get_or_read c.loop-i.nodes.items c.loop-i.i c.index_mut.result.now lt c.index_mut.ensures.value [])
          c.in_ok-nodes.ensures);
      others = sorted_others c.args.self c.loop-i.nodes.items c.loop-i.i c.replace-node.new.dest c.in_ok-nodes.field-0 c.loop-i.invariant.nodes
          lt c.loop-i.invariant.each c.loop-i.invariant.others;
    }
