use Rattle.std.proofs.Common.{◌≡◌, ◌∙◌, true, false, ⊎_elim, arith, below_more, get_or, sym}
use Rattle.std.proofs.lemmas.List.{get_or_default}
use Rattle.tv_kleene.specs.declared.K3.TheVariants.{No, Yes}
use Rattle.tv_kleene.proofs.Lattice.{different-told, value-decided}
use Rattle.tv_update.proofs.kept.are_yes.Goals as goal

pub loop-k-preserved : goal.loop-k-preserved
loop-k-preserved c =
    below_more _ _ c.loop-k.invariant
    (⊎_elim (λ same. same)
    (λ other. absurd (let f : true ≡ false
    = sym ((different-told c.ne.result (get_or c.args.values.now c.loop-k.k-index No) Yes c.ne.ensures).1 other) ∙ c.if-ne.false in cc))
    (value-decided (get_or c.args.values.now c.loop-k.k-index No) Yes))

pub returns : goal.returns
returns c is k d lt =
    get_or_default c.args.values.now k d No lt ∙ c.loop-k.invariant k (omega (arith, lt, c.loop-k-test.false))
