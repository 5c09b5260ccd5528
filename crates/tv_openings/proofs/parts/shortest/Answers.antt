use Rattle.std.proofs.Common.{◌≡◌, List, [], ◌∷◌, ◌++◌, ◌∙◌, sym, ap, subst, ℕ, arith}
use Rattle.tv_openings.specs.Parts.{AreAllParts}
use Rattle.tv_openings.proofs.PartLaws.{one_fits}
use Rattle.tv_openings.proofs.parts.shortest.Goals as goal

pub returns : goal.returns
returns c =
    let is : c.push.new.self.items ≡ [] ∷ []
    = c.in_ok-push.ensures.items ∙ ap (λ (xs : List (List ℕ)). xs ++ c.new.result ∷ []) c.new-lists.ensures.items
    ∙ ap (λ (x : List ℕ). x ∷ []) c.new.ensures
    in subst (AreAllParts c.args.s.now c.args.cells c.args.s.now.size) (sym is)
    (one_fits c.args.s.now c.args.cells (omega (arith, c.if-size-cells.false, c.size.ensures.size)))
