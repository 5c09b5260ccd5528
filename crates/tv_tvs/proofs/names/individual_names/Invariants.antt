use Rattle.std.proofs.Common.{◌≡◌, [], map, take, drop}
use Rattle.tv_lex.specs.Token.{text_of}
use Rattle.tv_tvs.specs.Meaning.{has_twice}
use Rattle.tv_tree.specs.Names.{names_of}
use Rattle.tv_tvs.proofs.names.individual_names.Given as goal

abbrev pub invariant-loop-individual : goal.invariant-loop-individual
invariant-loop-individual l = record {
  so_far : names_of l.names.keys ≡ map (text_of l.bytes) (take l.individual-index l.individuals);
  left : has_twice [] (map (text_of l.bytes) l.individuals) ≡ has_twice (names_of l.names.keys) (map (text_of l.bytes) (drop l.individual-index l.individuals));
}
