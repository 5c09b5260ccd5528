use Rattle.std.proofs.Common.{◌∙◌, ◌++◌, Bool, true, false, refl, subst, sym}
use Rattle.std.specs.Prelude.{◌↔◌, IsTrue}
use Rattle.tv_listing.specs.ListingForm.{HasEqual}
use Rattle.tv_listing.proofs.ListingLaws.{has_either}
use Rattle.tv_listing.proofs.node.Node.has.Goals as goal

pub returns-then-contains : goal.returns-then-contains
returns-then-contains c =
    let Of : Bool → Type 0
    = λ b. IsTrue b ↔ HasEqual (c.self.inside.added.keys ++ c.self.inside.pushed.items) c.args.s.now
    in rw (← c.self.view_is)
    (subst Of (sym c.if-contains.true)
    (has_either c.self.inside.added.keys c.self.inside.pushed.items c.args.s.now true _ (sym c.if-contains.true ∙ c.contains.ensures) refl))

pub returns-else-contains : goal.returns-else-contains
returns-else-contains c =
    rw (← c.self.view_is)
    (has_either c.self.inside.added.keys c.self.inside.pushed.items c.args.s.now false c.contains-else-contains.result
    (sym c.if-contains.false ∙ c.contains.ensures)
    (c.contains-else-contains.ensures.value ∙ (rw c.deref.ensures.value refl)))
