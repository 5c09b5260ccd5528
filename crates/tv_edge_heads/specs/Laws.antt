-- Laws of heads, as statements.
use Rattle.std.specs.Prelude.{◌≡◌, ℕ, List}
use Rattle.tv_edge_heads.specs.Heads.{AreHeads}
use Rattle.tv_lex.specs.Traced.{Traced}
use Rattle.tv_tree.specs.Forms.{ProgramForm}

-- the edges of a tree have one list of heads in a text whose bytes come from these files and lines
abbrev pub HeadsAreOne : Type 0
HeadsAreOne = (traced : List Traced) (text : List ℕ) (tree : ProgramForm) (heads others : List (List ℕ))
    → AreHeads traced text tree heads → AreHeads traced text tree others → heads ≡ others
