use Rattle.std.proofs.Common.{◌≡◌, ◌++◌, ◌∷◌, drop}
use Rattle.tv_expand.specs.Views.{names_of}
use Rattle.tv_expand.proofs.wiring.call_words.Given as goal

-- the words so far and the arguments that are left are all
abbrev pub invariant-loop-argument : goal.invariant-loop-argument
invariant-loop-argument l = names_of l.words.items ++ drop l.argument-index l.arguments ≡ l.name ∷ l.arguments
