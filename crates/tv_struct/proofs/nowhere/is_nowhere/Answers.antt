use Rattle.std.proofs.Common.{◌≡◌, ◌∙◌, true, false, ⊎_elim, sym}
use Rattle.tv_kleene.specs.declared.K3.TheVariants.{No}
use Rattle.tv_kleene.proofs.Lattice.{different-told, value-decided}
use Rattle.tv_struct.proofs.NowhereLaws.{none_more}
use Rattle.tv_struct.proofs.nowhere.is_nowhere.Goals as goal

pub loop-chunk-preserved : goal.loop-chunk-preserved
loop-chunk-preserved c =
    let none : c.greatest.result ≡ No
    = ⊎_elim (λ same. same)
    (λ other. absurd (let f : true ≡ false
    = sym ((different-told c.ne.result c.greatest.result No c.ne.ensures).1 other) ∙ c.if-ne.false in cc))
    (value-decided c.greatest.result No)
    in none_more c.args.s.now c.args.p.0 c.loop-chunk.chunk c.unary_word.result (sym c.greatest.ensures ∙ none)
    c.unary_word.ensures.long c.unary_word.ensures.values c.loop-chunk.invariant
