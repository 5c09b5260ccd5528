-- The canonical text is cut into the tokens of the canonical tree.
use Rattle.std.proofs.Common.{◌≡◌, ℕ, List, [], ◌∷◌, ◌++◌, Option, Some, None, map, ap, sym, refl, ◌∙◌, subst}
use Rattle.std.proofs.Common.{arith, append_assoc}
use Rattle.std.specs.Prelude.{codes}
use Rattle.std.specs.List.{flat_map, AllByRecursion, join_with_byte}
use Rattle.std.proofs.lemmas.List.{append-nil}
use Rattle.tv_kleene.specs.declared.K3.{K3}
use Rattle.tv_kleene.specs.declared.K3.TheVariants.{No, Half, Yes}
use Rattle.tv_lex.specs.Token.{SpecToken}
use Rattle.tv_tree.specs.Names.{brackets_text}
use Rattle.tv_tvs.specs.Tree.{NameTree, name_text, ItemTree, ContentTree, OneValue, Listed, EntryTree}
use Rattle.tv_tvs.specs.Tree.{StructTree}
use Rattle.tv_tvs.specs.Canonical.{more_texts, comma_text, value_text, second_text, item_value_text}
use Rattle.tv_tvs.specs.Canonical.{item_text, content_text, line_text}
use Rattle.tv_lex.proofs.PieceTokens.{Lexes}
use Rattle.tv_tvs.proofs.Lexing.{Clear, IsWordText, mark, directive, word, half, word_first, half_first}
use Rattle.tv_tvs.proofs.Lexing.{space_first, feed_first, open_brace_first, close_brace_first}
use Rattle.tv_tvs.proofs.Lexing.{open_bracket_first, close_bracket_first, comma_first, colon_first}
use Rattle.tv_tvs.proofs.Lexing.{arrow_first, equals_first}
use Rattle.tv_tvs.proofs.Entries.{entry_if}

-- ---- the tokens of a tree

abbrev pub more_items : {X : Type 0} → (X → List SpecToken) → List X → List SpecToken
more_items spell [] = []
more_items spell (x ∷ xs) = mark (codes ",") ∷ (spell x ++ more_items spell xs)

abbrev pub comma_items : {X : Type 0} → (X → List SpecToken) → List X → List SpecToken
comma_items spell [] = []
comma_items spell (x ∷ xs) = spell x ++ more_items spell xs

abbrev pub spell_word : List ℕ → List SpecToken
spell_word w = word w ∷ []

abbrev pub spell_brackets : List (List ℕ) → List SpecToken
spell_brackets [] = []
spell_brackets (n ∷ ns) = mark (codes "[") ∷ (comma_items spell_word (n ∷ ns) ++ mark (codes "]") ∷ [])

abbrev pub spell_name : NameTree → List SpecToken
spell_name n = word n.0 ∷ spell_brackets n.1

abbrev pub spell_value : K3 → SpecToken
spell_value No = word (codes "0")
spell_value Yes = word (codes "1")
spell_value Half = half

abbrev pub spell_second : Option (List ℕ) → List SpecToken
spell_second None = []
spell_second (Some w) = mark (codes "->") ∷ word w ∷ []

abbrev pub spell_item_value : Option K3 → List SpecToken
spell_item_value None = []
spell_item_value (Some k) = mark (codes ":") ∷ spell_value k ∷ []

abbrev pub spell_item : ItemTree → List SpecToken
spell_item item = word item.first ∷ (spell_second item.second ++ spell_item_value item.value)

abbrev pub spell_content : ContentTree → List SpecToken
spell_content (OneValue k) = spell_value k ∷ []
spell_content (Listed items) = mark (codes "{") ∷ (comma_items spell_item items ++ mark (codes "}") ∷ [])

abbrev pub spell_entry : EntryTree → List SpecToken
spell_entry e = spell_name e.name ++ mark (codes "=") ∷ spell_content e.content

abbrev pub spell_opening : List ℕ → List SpecToken → List SpecToken
spell_opening d ts = directive d ∷ mark (codes "=") ∷ mark (codes "{") ∷ ts

-- a structure and the tokens behind it
abbrev pub spell_struct : StructTree → List SpecToken → List SpecToken
spell_struct t ts =
    spell_opening (codes "%n") (comma_items spell_word t.individuals ++ mark (codes "}") ∷ spell_opening (codes "%p") (flat_map spell_entry t.entries ++ mark (codes "}") ∷ ts))

-- ---- words

abbrev pub SomeWord : Option (List ℕ) → Type 0
SomeWord None = Unit {0}
SomeWord (Some w) = IsWordText w

abbrev pub IsItemText : ItemTree → Type 0
IsItemText item = IsWordText item.first × SomeWord item.second

abbrev pub IsContentText : Option ContentTree → Type 0
IsContentText None = Unit {0}
IsContentText (Some (OneValue k)) = Unit {0}
IsContentText (Some (Listed items)) = AllByRecursion IsItemText items

abbrev pub IsNameText : NameTree → Type 0
IsNameText n = IsWordText n.0 × AllByRecursion IsWordText n.1

-- ---- each part in front of what follows

value_lexes : (k : K3) (rest : List ℕ) (ts : List SpecToken) → Clear rest → Lexes rest ts → Lexes (value_text k ++ rest) (spell_value k ∷ ts)
value_lexes No rest ts clear l = word_first (codes "0") rest ts (omega arith, refl) clear l
value_lexes Yes rest ts clear l = word_first (codes "1") rest ts (omega arith, refl) clear l
value_lexes Half rest ts clear l = half_first rest ts clear l

item_value_lexes : (v : Option K3) (rest : List ℕ) (ts : List SpecToken) → Clear rest → Lexes rest ts
    → Lexes (item_value_text v ++ rest) (spell_item_value v ++ ts) × Clear (item_value_text v ++ rest)
item_value_lexes None rest ts clear l = (l, clear)
item_value_lexes (Some k) rest ts clear l =
    (colon_first (value_text k ++ rest) (spell_value k ∷ ts) (value_lexes k rest ts clear l), (refl, refl))

second_lexes : (o : Option (List ℕ)) → SomeWord o → (rest : List ℕ) (ts : List SpecToken) → Clear rest → Lexes rest ts
    → Lexes (second_text o ++ rest) (spell_second o ++ ts) × Clear (second_text o ++ rest)
second_lexes None is rest ts clear l = (l, clear)
second_lexes (Some w) is rest ts clear l = (arrow_first (w ++ rest) (word w ∷ ts) (word_first w rest ts is clear l), (refl, refl))

item_lexes : (item : ItemTree) → IsItemText item → (rest : List ℕ) (ts : List SpecToken) → Clear rest → Lexes rest ts
    → Lexes (item_text item ++ rest) (spell_item item ++ ts)
item_lexes item is rest ts clear l =
    let value = item_value_lexes item.value rest ts clear l
    in let second = second_lexes item.second is.1 (item_value_text item.value ++ rest) (spell_item_value item.value ++ ts) value.1 value.0
    in let first = word_first item.first (second_text item.second ++ (item_value_text item.value ++ rest)) (spell_second item.second ++ (spell_item_value item.value ++ ts)) is.0 second.1 second.0
    in let text : item.first ++ (second_text item.second ++ (item_value_text item.value ++ rest)) ≡ item_text item ++ rest = simp append_assoc
    in let tokens : word item.first ∷ (spell_second item.second ++ (spell_item_value item.value ++ ts)) ≡ spell_item item ++ ts = simp append_assoc
    in subst (λ us. Lexes (item_text item ++ rest) us) tokens (subst (λ t. Lexes t (word item.first ∷ (spell_second item.second ++ (spell_item_value item.value ++ ts)))) text first)

-- lists with commas
module _ {X : Type 0} (text : X → List ℕ) (spell : X → List SpecToken) (Good : X → Type 0) (one : (x : X) → Good x → (rest : List ℕ) (ts : List SpecToken) → Clear rest → Lexes rest ts → Lexes (text x ++ rest) (spell x ++ ts)) where
  more_lexes : (xs : List X) → AllByRecursion Good xs → (rest : List ℕ) (ts : List SpecToken) → Clear rest → Lexes rest ts
      → Lexes (more_texts (map text xs) ++ rest) (more_items spell xs ++ ts) × Clear (more_texts (map text xs) ++ rest)
  more_lexes [] good rest ts clear l = (l, clear)
  more_lexes (x ∷ xs) good rest ts clear l =
      let later = more_lexes xs good.1 rest ts clear l
      in let here = one x good.0 (more_texts (map text xs) ++ rest) (more_items spell xs ++ ts) later.1 later.0
      in let comma = comma_first (32 ∷ (text x ++ (more_texts (map text xs) ++ rest))) (spell x ++ (more_items spell xs ++ ts)) (space_first (text x ++ (more_texts (map text xs) ++ rest)) (spell x ++ (more_items spell xs ++ ts)) here)
      in let same : 44 ∷ 32 ∷ (text x ++ (more_texts (map text xs) ++ rest)) ≡ more_texts (map text (x ∷ xs)) ++ rest = ap (λ t. 44 ∷ 32 ∷ t) (sym (append_assoc (text x) (more_texts (map text xs)) rest))
      in let tokens : mark (codes ",") ∷ (spell x ++ (more_items spell xs ++ ts)) ≡ more_items spell (x ∷ xs) ++ ts = ap (λ us. mark (codes ",") ∷ us) (sym (append_assoc (spell x) (more_items spell xs) ts))
      in (subst (λ us. Lexes (more_texts (map text (x ∷ xs)) ++ rest) us) tokens (subst (λ t. Lexes t (mark (codes ",") ∷ (spell x ++ (more_items spell xs ++ ts)))) same comma), (refl, refl))

  pub comma_lexes : (xs : List X) → AllByRecursion Good xs → (rest : List ℕ) (ts : List SpecToken) → Clear rest → Lexes rest ts
      → Lexes (comma_text (map text xs) ++ rest) (comma_items spell xs ++ ts)
  comma_lexes [] good rest ts clear l = l
  comma_lexes (x ∷ xs) good rest ts clear l =
      let later = more_lexes xs good.1 rest ts clear l
      in let here = one x good.0 (more_texts (map text xs) ++ rest) (more_items spell xs ++ ts) later.1 later.0
      in subst (λ us. Lexes (comma_text (map text (x ∷ xs)) ++ rest) us) (sym (append_assoc (spell x) (more_items spell xs) ts))
      (subst (λ t. Lexes t (spell x ++ (more_items spell xs ++ ts))) (sym (append_assoc (text x) (more_texts (map text xs)) rest)) here)

content_lexes : (c : ContentTree) → IsContentText (Some c) → (rest : List ℕ) (ts : List SpecToken) → Clear rest → Lexes rest ts
    → Lexes (content_text c ++ rest) (spell_content c ++ ts)
content_lexes (OneValue k) is rest ts clear l = value_lexes k rest ts clear l
content_lexes (Listed items) is rest ts clear l =
    let closed = close_brace_first rest ts l
    in let inner = comma_lexes item_text spell_item IsItemText item_lexes items is (125 ∷ rest) (mark (codes "}") ∷ ts) (refl, refl) closed
    in let whole = open_brace_first (comma_text (map item_text items) ++ 125 ∷ rest) (comma_items spell_item items ++ mark (codes "}") ∷ ts) inner
    in subst (λ us. Lexes (content_text (Listed items) ++ rest) us) (ap (λ us. mark (codes "{") ∷ us) (sym (append_assoc (comma_items spell_item items) (mark (codes "}") ∷ []) ts)))
    (subst (λ t. Lexes t (mark (codes "{") ∷ (comma_items spell_item items ++ mark (codes "}") ∷ ts))) (ap (λ t. 123 ∷ t) (sym (append_assoc (comma_text (map item_text items)) (125 ∷ []) rest))) whole)

join_lexes : (n : List ℕ) (ns : List (List ℕ)) → IsWordText n → AllByRecursion IsWordText ns → (rest : List ℕ) (ts : List SpecToken) → Clear rest → Lexes rest ts
    → Lexes (join_with_byte 44 (n ∷ ns) ++ rest) (comma_items spell_word (n ∷ ns) ++ ts)
join_lexes n [] is others rest ts clear l = word_first n rest ts is clear l
join_lexes n (m ∷ ms) is others rest ts clear l =
    let later = join_lexes m ms others.0 others.1 rest ts clear l
    in let comma = comma_first (join_with_byte 44 (m ∷ ms) ++ rest) (comma_items spell_word (m ∷ ms) ++ ts) later
    in let here = word_first n (44 ∷ (join_with_byte 44 (m ∷ ms) ++ rest)) (mark (codes ",") ∷ (comma_items spell_word (m ∷ ms) ++ ts)) is (refl, refl) comma
    in subst (λ t. Lexes t (word n ∷ mark (codes ",") ∷ (comma_items spell_word (m ∷ ms) ++ ts))) (sym (append_assoc n (44 ∷ join_with_byte 44 (m ∷ ms)) rest)) here

brackets_lexes : (ns : List (List ℕ)) → AllByRecursion IsWordText ns → (rest : List ℕ) (ts : List SpecToken) → Clear rest → Lexes rest ts
    → Lexes (brackets_text ns ++ rest) (spell_brackets ns ++ ts) × Clear (brackets_text ns ++ rest)
brackets_lexes [] is rest ts clear l = (l, clear)
brackets_lexes (n ∷ ns) is rest ts clear l =
    let closed = close_bracket_first rest ts l
    in let inner = join_lexes n ns is.0 is.1 (93 ∷ rest) (mark (codes "]") ∷ ts) (refl, refl) closed
    in let whole = open_bracket_first (join_with_byte 44 (n ∷ ns) ++ 93 ∷ rest) (comma_items spell_word (n ∷ ns) ++ mark (codes "]") ∷ ts) inner
    in (
      subst (λ us. Lexes (brackets_text (n ∷ ns) ++ rest) us) (ap (λ us. mark (codes "[") ∷ us) (sym (append_assoc (comma_items spell_word (n ∷ ns)) (mark (codes "]") ∷ []) ts)))
          (subst (λ t. Lexes t (mark (codes "[") ∷ (comma_items spell_word (n ∷ ns) ++ mark (codes "]") ∷ ts))) (ap (λ t. 91 ∷ t) (sym (append_assoc (join_with_byte 44 (n ∷ ns)) (93 ∷ []) rest))) whole),
      (refl, refl),
    )

name_lexes : (n : NameTree) → IsNameText n → (rest : List ℕ) (ts : List SpecToken) → Clear rest → Lexes rest ts
    → Lexes (name_text n ++ rest) (spell_name n ++ ts)
name_lexes n is rest ts clear l =
    let inner = brackets_lexes n.1 is.1 rest ts clear l
    in subst (λ t. Lexes t (word n.0 ∷ (spell_brackets n.1 ++ ts))) (sym (append_assoc n.0 (brackets_text n.1) rest))
    (word_first n.0 (brackets_text n.1 ++ rest) (spell_brackets n.1 ++ ts) is.0 inner.1 inner.0)

-- the line of an entry, if there is one
pub line_lexes : (n : NameTree) (o : Option ContentTree) → IsNameText n → IsContentText o → (rest : List ℕ) (ts : List SpecToken) → Lexes rest ts
    → Lexes (line_text (name_text n) o ++ rest) (flat_map spell_entry (entry_if n o) ++ ts)
line_lexes n None is good rest ts l = l
line_lexes n (Some c) is good rest ts l =
    let content = content_lexes c good (10 ∷ rest) ts (refl, refl) (feed_first rest ts l)
    in let equals = equals_first (content_text c ++ 10 ∷ rest) (spell_content c ++ ts) (space_first (content_text c ++ 10 ∷ rest) (spell_content c ++ ts) content)
    in let named = name_lexes n is (32 ∷ 61 ∷ 32 ∷ (content_text c ++ 10 ∷ rest)) (mark (codes "=") ∷ (spell_content c ++ ts)) (refl, refl)
    (space_first (61 ∷ 32 ∷ (content_text c ++ 10 ∷ rest)) (mark (codes "=") ∷ (spell_content c ++ ts)) equals)
    in let line = space_first (32 ∷ (name_text n ++ 32 ∷ 61 ∷ 32 ∷ (content_text c ++ 10 ∷ rest))) (spell_name n ++ mark (codes "=") ∷ (spell_content c ++ ts))
    (space_first (name_text n ++ 32 ∷ 61 ∷ 32 ∷ (content_text c ++ 10 ∷ rest)) (spell_name n ++ mark (codes "=") ∷ (spell_content c ++ ts)) named)
    in let text : 32 ∷ 32 ∷ (name_text n ++ 32 ∷ 61 ∷ 32 ∷ (content_text c ++ 10 ∷ rest)) ≡ line_text (name_text n) (Some c) ++ rest
    = ap (λ t. 32 ∷ 32 ∷ t)
    (sym (append_assoc (name_text n) (32 ∷ 61 ∷ 32 ∷ (content_text c ++ 10 ∷ [])) rest ∙ ap (λ t. name_text n ++ 32 ∷ 61 ∷ 32 ∷ t) (append_assoc (content_text c) (10 ∷ []) rest)))
    in let tokens : spell_name n ++ mark (codes "=") ∷ (spell_content c ++ ts) ≡ flat_map spell_entry (entry_if n (Some c)) ++ ts
    = sym (ap (λ us. us ++ ts) (append-nil (spell_name n ++ mark (codes "=") ∷ spell_content c)) ∙ append_assoc (spell_name n) (mark (codes "=") ∷ spell_content c) ts)
    in subst (λ us. Lexes (line_text (name_text n) (Some c) ++ rest) us) tokens (subst (λ t. Lexes t (spell_name n ++ mark (codes "=") ∷ (spell_content c ++ ts))) text line)
