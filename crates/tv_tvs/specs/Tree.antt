-- Structures as they are written.
use Rattle.std.specs.Prelude.{ℕ, List, Option}
use Rattle.tv_tree.specs.Names as names
use Rattle.tv_kleene.specs.declared.K3.{K3}

-- a predicate's name: an identifier, and those in brackets behind it
abbrev pub NameTree : Type 0
NameTree = List ℕ × List (List ℕ)

-- a name as one text, as in programs
abbrev pub name_text : NameTree → List ℕ
name_text name = names.name_text (record { first = name.0; brackets = name.1 })

-- an individual, or a pair of them, and the value that is written behind, if one is
pub record ItemTree : Type 0 where
  pub first : List ℕ
  pub second : Option (List ℕ)
  pub value : Option K3

-- what is written of a predicate: one value, or tuples
pub data ContentTree : Type 0 where
  OneValue : K3 → ContentTree
  Listed : List ItemTree → ContentTree

pub record EntryTree : Type 0 where
  pub name : NameTree
  pub content : ContentTree

-- a structure: the names of its individuals in order, and its entries
pub record StructTree : Type 0 where
  pub individuals : List (List ℕ)
  pub entries : List EntryTree
