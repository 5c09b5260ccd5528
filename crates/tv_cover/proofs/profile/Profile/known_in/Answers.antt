use Rattle.std.proofs.Common.{◌≡◌, ◌∙◌, List, length, get_or, ap, map, sym}
use Rattle.tv_kleene.specs.declared.K3.{K3}
use Rattle.tv_kleene.specs.declared.K3.TheVariants.{No}
use Rattle.tv_kleene.specs.Kleene.{larger_of, negation_of, smaller_of}
use Rattle.tv_row.specs.Bits.{paired}
use Rattle.tv_row.proofs.WordOps.{length-paired}
use Rattle.tv_cover.proofs.GlanceLaws.{length-either, marks-more}
use Rattle.tv_cover.proofs.profile.Profile.known_in.Goals as goal

long : (row denied either : List K3) → length row ≡ 256 → denied ≡ map negation_of row
    → either ≡ paired larger_of row denied → length either ≡ 256
long row denied either wide is so =
    ap length (so ∙ ap (paired larger_of row) is) ∙ length-either row wide

pub and-requires : goal.and-requires
and-requires c =
    c.self.invariant
    ∙ sym (long c.other.inside.row c.not.result c.or.result c.other.invariant c.not.ensures c.or.ensures)

pub invariant_of-result : goal.invariant_of-result
invariant_of-result c =
    ap length c.and.ensures
    ∙ length-paired smaller_of c.self.inside.row c.or.result
    (c.self.invariant
    ∙ sym (long c.other.inside.row c.not.result c.or.result c.other.invariant c.not.ensures c.or.ensures))
    ∙ c.self.invariant

pub returns : goal.returns
returns c = λ place lt on definite.
    let other : List K3 = c.args.other.now
    in let either : c.or.result ≡ paired larger_of other (map negation_of other)
    = c.or.ensures
    ∙ (λ i. paired larger_of (c.other.view_is i) ((c.not.ensures ∙ ap (map negation_of) c.other.view_is) i))
    in ap (λ r. get_or r place No) (c.and.ensures ∙ (λ i. paired smaller_of (c.self.view_is i) (either i)))
    ∙ marks-more c.args.self.now other place (sym (ap length c.self.view_is) ∙ c.self.invariant)
    (sym (ap length c.other.view_is) ∙ c.other.invariant) lt on definite
