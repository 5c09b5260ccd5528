-- The canonical text of a structure.
use Rattle.std.specs.Prelude.{ℕ, zero, suc, ◌+◌, List, [], ◌∷◌, ◌++◌, map, Option, Some, None, slice_get}
use Rattle.std.specs.Prelude.{slice_index, if◌then◌else◌, codes, decimal}
use Rattle.std.specs.List.{flat_map, filter_map, range_with_len}
use Rattle.std.specs.Option.{option_map}
use Rattle.tv_kleene.specs.declared.K3.{K3}
use Rattle.tv_kleene.specs.declared.K3.TheVariants.{No, Half, Yes}
use Rattle.tv_model.specs.declared.program.Pred.{Pred}
use Rattle.tv_model.specs.declared.program.Vocab.{Vocab}
use Rattle.tv_structure_form.specs.StructureForm.{StructureForm, value_at, summary_at}
use Rattle.tv_tvs.specs.Tree.{ItemTree, ContentTree, OneValue, Listed}

-- ---- how items and entries are laid out

-- texts, each behind a comma and a blank, and texts with these between them
abbrev pub more_texts : List (List ℕ) → List ℕ
more_texts texts = flat_map (λ text. codes ", " ++ text) texts

abbrev pub comma_text : List (List ℕ) → List ℕ
comma_text [] = []
comma_text (x ∷ xs) = x ++ more_texts xs

abbrev pub value_text : K3 → List ℕ
value_text No = codes "0"
value_text Yes = codes "1"
value_text Half = codes "1/2"

abbrev pub second_text : Option (List ℕ) → List ℕ
second_text None = []
second_text (Some bytes) = codes "->" ++ bytes

abbrev pub item_value_text : Option K3 → List ℕ
item_value_text None = []
item_value_text (Some k) = codes ":" ++ value_text k

abbrev pub item_text : ItemTree → List ℕ
item_text item = item.first ++ (second_text item.second ++ item_value_text item.value)

abbrev pub content_text : ContentTree → List ℕ
content_text (OneValue k) = value_text k
content_text (Listed items) = codes "{" ++ (comma_text (map item_text items) ++ codes "}")

-- a line: two blanks, the name, ` = ` and the content
abbrev pub entry_text : (name : List ℕ) → ContentTree → List ℕ
entry_text name content = codes "  " ++ (name ++ (codes " = " ++ (content_text content ++ codes "\n")))

-- ---- what is written of a structure

-- the name of an individual: `i` and its number
abbrev pub individual : ℕ → List ℕ
individual u = codes "i" ++ decimal u

abbrev pub individuals : (size : ℕ) → List (List ℕ)
individuals size = map individual (range_with_len 0 size)

-- the tuples of that many individuals below `size`, in lexicographic order
abbrev pub tuples : (arity size : ℕ) → List (List ℕ)
tuples zero size = [] ∷ []
tuples (suc n) size = flat_map (λ u. map (λ tuple. u ∷ tuple) (tuples n size)) (range_with_len 0 size)

-- a value other than 1 is written
abbrev pub written_value : K3 → Option K3
written_value No = Some No
written_value Half = Some Half
written_value Yes = None

abbrev pub tuple_item : (tuple : List ℕ) → K3 → ItemTree
tuple_item tuple k = record {
  first = individual (slice_index tuple 0);
  second = option_map individual (slice_get tuple 1);
  value = written_value k;
}

-- nothing is written of a tuple with the value 0
abbrev pub written_item : (tuple : List ℕ) → K3 → Option ItemTree
written_item tuple No = None
written_item tuple Half = Some (tuple_item tuple Half)
written_item tuple Yes = Some (tuple_item tuple Yes)

abbrev pub written_items : (List ℕ → K3) → (tuples : List (List ℕ)) → List ItemTree
written_items value tuples = filter_map (λ tuple. written_item tuple (value tuple)) tuples

-- what is written of one tuple, and of the pairs that begin with an individual
abbrev pub written_one : (first : ℕ) → (second : Option ℕ) → K3 → List ItemTree
written_one first second No = []
written_one first second Half =
    record { first = individual first; second = option_map individual second; value = Some Half } ∷ []
written_one first second Yes =
    record { first = individual first; second = option_map individual second; value = None } ∷ []

abbrev pub row_items : (List ℕ → K3) → (size u : ℕ) → List ItemTree
row_items value size u = written_items value (map (λ tuple. u ∷ tuple) (tuples 1 size))

-- nothing is written of a predicate that is 0 everywhere
abbrev pub if_some : List ItemTree → Option ContentTree
if_some [] = None
if_some (item ∷ items) = Some (Listed (item ∷ items))

abbrev pub value_content : K3 → Option ContentTree
value_content No = None
value_content Half = Some (OneValue Half)
value_content Yes = Some (OneValue Yes)

abbrev pub content_of : (size arity : ℕ) → (List ℕ → K3) → Option ContentTree
content_of size zero value = value_content (value [])
content_of size (suc n) value = if_some (written_items value (tuples (suc n) size))

abbrev pub line_text : (name : List ℕ) → Option ContentTree → List ℕ
line_text name None = []
line_text name (Some content) = entry_text name content

-- what the summaries are as values of a predicate
abbrev pub summary_value : StructureForm → (tuple : List ℕ) → K3
summary_value s tuple = if summary_at s (slice_index tuple 0) then Half else No

abbrev pub pred_text : StructureForm → ℕ → Pred → List ℕ
pred_text s p pred = line_text pred.name (content_of s.size pred.arity (value_at s p))

-- the lines of the predicates from a number on
abbrev pub preds_text : StructureForm → ℕ → List Pred → List ℕ
preds_text s p [] = []
preds_text s p (pred ∷ preds) = pred_text s p pred ++ preds_text s (p + 1) preds

abbrev pub summaries_text : StructureForm → List ℕ
summaries_text s = line_text (codes "sm") (content_of s.size 1 (summary_value s))

-- the canonical text: the individuals, a line for each predicate that isn't 0 everywhere, in declaration
-- order, and one for the summaries, if there are any
abbrev pub canonical_text : Vocab → StructureForm → List ℕ
canonical_text vocab s =
    codes "%n = {" ++ (comma_text (individuals s.size) ++ (codes "}\n%p = {\n"
    ++ (preds_text s 0 vocab.preds ++ (summaries_text s ++ codes "}\n"))))
