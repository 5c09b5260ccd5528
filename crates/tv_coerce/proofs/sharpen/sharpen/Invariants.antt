-- The structure after the changes so far.
use Rattle.tv_coerce.specs.Sharpened.{IsSharpened}
use Rattle.tv_coerce.proofs.sharpen.sharpen.Given as goal

abbrev pub invariant-loop-ask : goal.invariant-loop-ask
invariant-loop-ask l = IsSharpened l.asks l.ask-index l.fn.s l.s
