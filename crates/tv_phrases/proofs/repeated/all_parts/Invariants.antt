use Rattle.std.specs.Prelude.{◌+◌, length, map}
use Rattle.tv_lex.specs.Token.{spec_tokens}
use Rattle.tv_phrases.specs.Repeated.{all_of}
use Rattle.tv_phrases.proofs.Turns.{SoFar}
use Rattle.tv_phrases.proofs.repeated.all_parts.Given as goal

abbrev pub invariant-loop : goal.invariant-loop
invariant-loop g l =
    SoFar g.P.Part.starts g.P.Part.part_at (map (g.P.Part.tree l.bytes) l.list.items) (length (spec_tokens l.bytes l.tokens) + 1) l.counter (spec_tokens l.bytes l.rest)
    (all_of g.P.Part.starts g.P.Part.part_at (spec_tokens l.bytes l.tokens))
