use Rattle.std.proofs.Common.{◌≡◌, drop, map}
use Rattle.tv_flat.specs.Replaced.{replaced}
use Rattle.tv_expand.specs.Sets.{with_members}
use Rattle.tv_flat.specs.Views.{binding_of}
use Rattle.tv_expand.specs.Views.{names_of}
use Rattle.tv_expand.proofs.words.add_replaced.Given as goal

-- the words so far and those that are left are all of them
abbrev pub invariant-loop-word : goal.invariant-loop-word
invariant-loop-word l = with_members (names_of l.seen.keys) (map (replaced (binding_of l.binding)) (drop l.word-index l.words)) ≡ with_members (names_of l.initial.seen.keys) (map (replaced (binding_of l.binding)) l.words)
