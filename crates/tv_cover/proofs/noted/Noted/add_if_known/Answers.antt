use Rattle.std.proofs.Common.{sym, ◌∙◌}
use Rattle.std.proofs.lemmas.Bool.{false≢true}
use Rattle.tv_cover.proofs.CoverLaws.{on_ok}
use Rattle.tv_cover.proofs.noted.Noted.add_if_known.Goals as goal

pub returns-then-not-may_be_marked-clause-added : goal.returns-then-not-may_be_marked-clause-added
returns-then-not-may_be_marked-clause-added c = λ are.
    absurd (false≢true
    (sym c.if-not-may_be_marked.true ∙ c.may_be_marked.ensures (c.requires c.args.known.now are)))

pub returns-clause-added : goal.returns-clause-added
returns-clause-added c = on_ok c.add_alike.result (λ finds are. finds) c.add_alike.ensures.added
