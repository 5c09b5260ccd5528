use Rattle.std.proofs.Common.{◌≡◌, map, take}
use Rattle.tv_lex.specs.Token.{text_of}
use Rattle.tv_source_names.proofs.read.names.Given as goal

abbrev pub invariant-loop-token : goal.invariant-loop-token
invariant-loop-token l = l.list.items ≡ map (text_of l.bytes) (take l.token-index l.tokens)
