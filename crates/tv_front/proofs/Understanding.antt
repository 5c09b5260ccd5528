-- A text with its tokens, its tree and its program.
use Rattle.std.proofs.Common.{◌≡◌, ℕ, List, Ok}
use Rattle.tv_expand.specs.Expansion.{expansion}
use Rattle.tv_flat.specs.FlatForm.{FlatForm}
use Rattle.tv_lex.specs.Pieces.{Reads}
use Rattle.tv_lex.specs.Token.{spec_tokens}
use Rattle.tv_model.specs.Program.{program_of}
use Rattle.tv_parse.specs.Grammar.{IsProgram}
use Rattle.tv_parse.specs.Height.{IsTooDeep}
use Rattle.tv_tree.specs.Copies.{program_of as tree_of}
use Rattle.tv_vocab.specs.Resolution.{program as resolution}
use Rattle.tv_front.proofs.Stages.{tree_read}
use Rattle.tv_front.specs.Trees.{IsUnderstood}
use Rattle.tv_front.specs.declared.understood.Understood.{Understood}

pub understood : (text : List ℕ) (u : Understood) (flat : FlatForm)
    → Reads text (Ok u.tokens.list.items) → (¬ IsTooDeep (spec_tokens text u.tokens.list.items))
    → IsProgram (spec_tokens text u.tokens.list.items) (tree_of u.tree) → expansion (tree_of u.tree) ≡ Ok flat
    → resolution flat ≡ Ok (program_of u.program) → IsUnderstood text u
understood text u flat reads low grammar expands resolves = record {
  reads = reads;
  grammar = grammar;
  has = tree_read text u.tokens.list.items (tree_of u.tree) reads low grammar;
  flat = flat;
  expands = expands;
  resolves = resolves;
}
