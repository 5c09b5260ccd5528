use Rattle.std.proofs.Common.{ap, ◌∙◌}
use Rattle.tv_kleene.specs.Kleene.{smaller_of}
use Rattle.tv_row.specs.Bits.{paired}
use Rattle.tv_row.specs.Mixed.{row_mixed}
use Rattle.tv_cover.proofs.profile.Profile.number.Goals as goal

pub returns : goal.returns
returns c =
    c.mix.ensures
    ∙ ap (row_mixed 0) (c.and.ensures ∙ (λ i. paired smaller_of (c.self.view_is i) (c.known.view_is i)))
