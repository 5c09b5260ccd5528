use Rattle.std.proofs.Common.{◌≡◌, ◌∷◌, ◌++◌, take}
use Rattle.std.specs.List.{flat_map}
use Rattle.tv_lex.specs.Token.{text_of}
use Rattle.tv_tvs.proofs.names.put_next.Given as goal

abbrev pub invariant-loop-word : goal.invariant-loop-word
invariant-loop-word l =
    l.out.items ≡ l.initial.out.items ++ flat_map (λ t. 44 ∷ text_of l.bytes t) (take l.word-index l.words)
