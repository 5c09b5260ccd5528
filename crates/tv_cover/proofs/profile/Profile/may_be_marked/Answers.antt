use Rattle.std.proofs.Common.{◌∙◌, length, ap, sym}
use Rattle.tv_kleene.specs.Kleene.{smaller_of}
use Rattle.tv_row.specs.Bits.{paired}
use Rattle.tv_cover.proofs.GlanceLaws.{marked-same}
use Rattle.tv_cover.proofs.profile.Profile.may_be_marked.Goals as goal

pub returns : goal.returns
returns c = λ are.
    c.equals.ensures.1
    (c.and.ensures ∙ (λ i. paired smaller_of (c.self.view_is i) (c.marks.view_is i))
    ∙ marked-same c.args.self.now c.args.marks.now (sym (ap length c.self.view_is) ∙ c.self.invariant)
    (sym (ap length c.marks.view_is) ∙ c.marks.invariant) are
    ∙ sym c.self.view_is)
