use Rattle.std.proofs.Common.{◌≡◌, fold, drop}
use Rattle.tv_flat.specs.Views.{pairs_of}
use Rattle.tv_flat.proofs.BindingLaws.{further}
use Rattle.tv_flat.proofs.binding.innermost.Given as goal

-- what is found so far and the pairs that are left give what stands for the word
abbrev pub invariant-loop-bound : goal.invariant-loop-bound
invariant-loop-bound l = fold (further l.word) l.last (pairs_of (drop l.bound-index l.vars)) ≡ fold (further l.word) l.found (pairs_of l.vars)
