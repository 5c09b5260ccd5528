use Rattle.std.proofs.Common.{◌≡◌, ◌++◌, drop, map}
use Rattle.tv_lex.specs.Token.{text_of}
use Rattle.tv_formula.proofs.words.spellings.Given as goal

-- the spellings so far and those that are left are all of them
abbrev pub invariant-loop-token : goal.invariant-loop-token
invariant-loop-token l = l.list.items ++ map (text_of l.bytes) (drop l.token-index l.tokens) ≡ map (text_of l.bytes) l.tokens
