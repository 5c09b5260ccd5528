use Rattle.std.proofs.Common.{◌∙◌, sym}
use Rattle.tv_blur.proofs.ascending.is_blurred.Goals as goal

pub returns-in-None : goal.returns-in-None
returns-in-None c = (
  λ holds. record { order = c.are_ascending.ensures.0 holds; unmarked = sym c.fresh.ensures ∙ c.in-None.is },
  λ is. c.are_ascending.ensures.1 is.order,
)
