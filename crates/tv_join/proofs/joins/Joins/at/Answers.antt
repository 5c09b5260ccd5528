use Rattle.std.proofs.Common.{◌≡◌, ◌<◌, ◌∙◌, List, Some, ap, arith, length, sym, subst}
use Rattle.std.specs.Prelude.{slice_get}
use Rattle.std.proofs.lemmas.Option.{slice_get-get_or}
use Rattle.tv_structure_form.specs.StructureForm.{StructureForm}
use Rattle.tv_join.proofs.Nodes.{member-within}
use Rattle.tv_join.proofs.joins.Joins.at.Goals as goal

pub at_node-structures-requires : goal.at_node-structures-requires
at_node-structures-requires c = member-within c.args.self.now.nodes c.args.w.node c.args.w.at c.requires

pub returns : goal.returns
returns c =
    let xs : List StructureForm = c.at_node-structures.result.now
    in let r = c.index-structures-w.result
    in let within : c.args.w.at < length xs
    = omega (arith, c.requires, ap (λ (ys : List StructureForm). length ys) c.at_node-structures.ensures)
    in subst (λ (ys : List StructureForm). slice_get ys c.args.w.at ≡ Some r) c.at_node-structures.ensures
    (slice_get-get_or xs c.args.w.at r within ∙ ap Some (sym c.index-structures-w.is))
