use Rattle.std.proofs.Common.{◌≡◌, ◌++◌, map, take, drop}
use Rattle.tv_lex.specs.Token.{text_of}
use Rattle.tv_source_names.specs.Meaning.{declared}
use Rattle.tv_tree.specs.Names.{names_of}
use Rattle.tv_source_names.proofs.declare.declared.Given as goal

abbrev pub invariant-loop-token : goal.invariant-loop-token
invariant-loop-token l = record {
  so_far : names_of l.names.keys ≡ map (text_of l.bytes) (take l.token-index l.tokens);
  left : declared (names_of l.before.keys) (map (text_of l.bytes) l.tokens)
      ≡ declared (names_of l.before.keys ++ names_of l.names.keys) (map (text_of l.bytes) (drop l.token-index l.tokens));
}
