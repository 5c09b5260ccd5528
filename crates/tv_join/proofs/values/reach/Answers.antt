use Rattle.std.proofs.Common.{◌≡◌, ◌∙◌, ◌++◌, ◌∷◌, [], List, ap, arith, get_or, refl}
use Rattle.tv_kleene.specs.declared.K3.{K3}
use Rattle.tv_join.proofs.Keeping.{none-pushed}
use Rattle.tv_join.proofs.values.reach.Goals as goal

pub loop-alloc-init : goal.loop-alloc-init
loop-alloc-init c = λ p. refl

pub loop-alloc-preserved : goal.loop-alloc-preserved
loop-alloc-preserved c = λ p.
    let before : List (List K3) = c.loop-alloc.places.items
    in let pushed : c.push.new.self.items ≡ before ++ [] ∷ []
    = c.in_ok-push.ensures.items ∙ ap (λ (values : List K3). before ++ values ∷ []) c.new.ensures
    in ap (λ (row : List (List K3)). get_or row p []) pushed ∙ none-pushed before p ∙ c.loop-alloc.invariant p

pub loop-alloc-smaller : goal.loop-alloc-smaller
loop-alloc-smaller c = omega (arith, c.loop-alloc-test.true, c.len.ensures, c.in_ok-push.ensures.len)
