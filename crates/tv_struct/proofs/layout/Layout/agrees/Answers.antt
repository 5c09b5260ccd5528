use Rattle.std.proofs.Common.{◌≡◌, ◌∙◌, ℕ, List, ap, sym}
use Rattle.tv_struct.specs.declared.layout.RowOffsets.{RowOffsets}
use Rattle.tv_struct.proofs.LayoutLaws.{same_arities}
use Rattle.tv_struct.proofs.layout.Layout.agrees.Goals as goal

pub returns-then-self-other : goal.returns-then-self-other
returns-then-self-other c =
    λ same.
    let arities : c.self.inside.places.value.arities.items ≡ c.other.inside.places.value.arities.items
    = ap (λ (p : RowOffsets). p.arities.items) (sym c.deref.ensures)
    ∙ same_arities c.deref.result.now.arities.items c.deref-then-self-other.result.now.arities.items (sym c.eq.ensures ∙ same)
    ∙ ap (λ (p : RowOffsets). p.arities.items) c.deref-then-self-other.ensures
    in sym c.self.view_is
    ∙ ap (λ n. record { size = n; arities = c.self.inside.places.value.arities.items }) c.if-self-other.true
    ∙ ap (λ (ns : List ℕ). record { size = c.other.inside.size; arities = ns }) arities
    ∙ c.other.view_is
