use Rattle.std.proofs.Common.{◌∙◌, ◌++◌, List, Ok, arith, subst, sym}
use Rattle.std.proofs.lemmas.Bool.{eqb-true}
use Rattle.std.proofs.lemmas.List.{nil_from_length}
use Rattle.tv_listing.specs.ListingForm.{Adds}
use Rattle.tv_structure_form.specs.StructureForm.{StructureForm}
use Rattle.tv_listing.proofs.ListingLaws.{Adds-inserted}
use Rattle.tv_listing.proofs.node.Node.add.Goals as goal

pub returns-then-is_empty : goal.returns-then-is_empty
returns-then-is_empty c =
    let New : List StructureForm = c.insert.new.self.keys ++ c.self.inside.pushed.items
    in let Of : List StructureForm → Type 0 = λ old. Adds old New c.in_ok-s.s (Ok c.in_ok-insert.field-0)
    in let Put : StructureForm → Type 0 = λ s. Adds c.args.self.now New s (Ok c.in_ok-insert.field-0)
    in subst Put c.in_ok-s.ensures
    (subst Of c.self.view_is
    (Adds-inserted c.self.inside.added.keys c.insert.new.self.keys c.self.inside.pushed.items c.in_ok-s.s c.in_ok-insert.field-0
    (nil_from_length c.self.inside.pushed.items (omega (arith, eqb-true _ _ (sym c.is_empty.ensures ∙ c.if-is_empty.true))))
    c.in_ok-insert.ensures.added c.in_ok-insert.ensures.keys))
