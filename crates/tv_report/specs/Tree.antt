-- Reports as they are written.
use Rattle.std.specs.Prelude.{ℕ, List}
use Rattle.tv_listing.specs.declared.analysis.MapLine.{MapLine}
use Rattle.tv_listing.specs.declared.analysis.MessageLine.{MessageLine}
use Rattle.tv_tvs.specs.Tree.{StructTree}

-- a node's name and its structures
pub record NodeTree : Type 0 where
  pub name : List ℕ
  pub structures : List StructTree

-- a report; the texts of its messages are left out, since nothing is compared with them
pub record ReportTree : Type 0 where
  pub nodes : List NodeTree
  pub messages : List MessageLine
  pub maps : List MapLine
