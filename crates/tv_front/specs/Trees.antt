-- Texts that mean a program, with their tokens and their trees.
use Rattle.std.specs.Prelude.{◌≡◌, ℕ, List, Ok}
use Rattle.tv_expand.specs.Expansion.{expansion}
use Rattle.tv_flat.specs.FlatForm.{FlatForm}
use Rattle.tv_lex.specs.Pieces.{Reads}
use Rattle.tv_lex.specs.Token.{spec_tokens}
use Rattle.tv_model.specs.Program.{program_of}
use Rattle.tv_parse.specs.Grammar.{IsProgram}
use Rattle.tv_tree.specs.Copies.{program_of as tree_of}
use Rattle.tv_vocab.specs.Resolution.{program as resolution}
use Rattle.tv_front.specs.Meaning.{HasTree}
use Rattle.tv_front.specs.declared.understood.Understood.{Understood}

-- the text has these tokens and this tree, whose flat form says the program
pub record IsUnderstood (text : List ℕ) (u : Understood) : Type 0 where
  pub reads : Reads text (Ok u.tokens.list.items)
  pub grammar : IsProgram (spec_tokens text u.tokens.list.items) (tree_of u.tree)
  pub has : HasTree text (tree_of u.tree)
  pub flat : FlatForm
  pub expands : expansion (tree_of u.tree) ≡ Ok flat
  pub resolves : resolution flat ≡ Ok (program_of u.program)
