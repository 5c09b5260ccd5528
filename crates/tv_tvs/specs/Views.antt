-- What values of the program's types say.
use Rattle.std.specs.Prelude.{ℕ, List, map, is_some, if◌then◌else◌}
use Rattle.std.specs.Option.{option_map}
use Rattle.tv_lex.specs.Token.{text_of}
use Rattle.tv_phrases.specs.declared.lists.NamePhrase.{NamePhrase}
pub use Rattle.tv_tree.specs.Names.{names_of}
use Rattle.tv_tvs.specs.declared.syntax.ItemText.{ItemText}
use Rattle.tv_tvs.specs.declared.syntax.ContentText.{ContentText}
use Rattle.tv_tvs.specs.declared.syntax.ContentText.TheVariants.{OneValue as OneText, Listed as ListedText}
use Rattle.tv_tvs.specs.declared.syntax.EntryText.{EntryText}
use Rattle.tv_tvs.specs.declared.syntax.StructText.{StructText}
use Rattle.tv_tvs.specs.Tree.{NameTree, ItemTree, ContentTree, OneValue, Listed, EntryTree, StructTree}

-- ---- the trees that are read from these bytes

abbrev pub name_tree : List ℕ → NamePhrase → NameTree
name_tree bytes n = (text_of bytes n.first, map (text_of bytes) n.brackets.items)

abbrev pub item_tree : List ℕ → ItemText → ItemTree
item_tree bytes item =
    record {
      first = text_of bytes item.first;
      second = option_map (text_of bytes) item.second;
      value = item.value;
    }

-- how many individuals an item names
abbrev pub text_arity : ItemText → ℕ
text_arity item = if is_some item.second then 2 else 1

abbrev pub item_trees : List ℕ → List ItemText → List ItemTree
item_trees bytes items = map (item_tree bytes) items

abbrev pub content_tree : List ℕ → ContentText → ContentTree
content_tree bytes (OneText k) = OneValue k
content_tree bytes (ListedText items) = Listed (item_trees bytes items.items)

abbrev pub entry_tree : List ℕ → EntryText → EntryTree
entry_tree bytes entry =
    record { name = name_tree bytes entry.name; content = content_tree bytes entry.content }

abbrev pub entry_trees : List ℕ → List EntryText → List EntryTree
entry_trees bytes entries = map (entry_tree bytes) entries

abbrev pub struct_tree : List ℕ → StructText → StructTree
struct_tree bytes t =
    record {
      individuals = map (text_of bytes) t.individuals.items;
      entries = entry_trees bytes t.entries.items;
    }

abbrev pub struct_trees : List ℕ → List StructText → List StructTree
struct_trees bytes ts = map (struct_tree bytes) ts
