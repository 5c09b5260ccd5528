-- One more change.
use Rattle.std.proofs.lemmas.List.Elements.{Contains-get_or}
use Rattle.tv_coerce.proofs.Sharpening.{sharpened-more}
use Rattle.tv_coerce.proofs.sharpen.sharpen.Goals as goal

pub loop-ask-preserved : goal.loop-ask-preserved
loop-ask-preserved c =
    sharpened-more c.args.asks.now c.loop-ask.ask-index _ c.args.s.now c.loop-ask.s c.lower.new.s
    c.loop-ask.invariant (Contains-get_or c.args.asks.now c.loop-ask.ask-index _ c.loop-ask-test.true) c.requires
    c.lower.ensures
