use Rattle.std.proofs.Common.{◌≡◌, ◌++◌, drop, map}
use Rattle.tv_flat.specs.Replaced.{replaced}
use Rattle.tv_flat.specs.Views.{binding_of}
use Rattle.tv_flat.proofs.copies.flat_words.Given as goal

-- what is copied and the copies of what is left are the whole copy
abbrev pub invariant-loop-word : goal.invariant-loop-word
invariant-loop-word l = l.copy.items ++ map (replaced (binding_of l.binding)) (drop l.word-index l.words) ≡ map (replaced (binding_of l.binding)) l.words
