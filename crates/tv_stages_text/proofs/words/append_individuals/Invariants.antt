use Rattle.std.proofs.Common.{◌≡◌, ◌++◌, drop}
use Rattle.tv_stages_text.specs.Texts.{each_from, picked_word}
use Rattle.tv_stages_text.proofs.words.append_individuals.Given as goal

abbrev pub invariant-loop-k : goal.invariant-loop-k
invariant-loop-k l =
    l.out.items ++ each_from picked_word l.k (drop l.k l.individuals)
    ≡ l.fn.out.items ++ each_from picked_word 0 l.individuals
