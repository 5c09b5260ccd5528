-- The tokens that spell a tree are that tree.
use Rattle.std.proofs.Common.{◌≡◌, ℕ, ◌<◌, ◌≤◌, List, [], ◌∷◌, ◌++◌, Option, Some, None, Bool, true, false}
use Rattle.std.proofs.Common.{not, get_or, ap, sym, refl, ◌∙◌, subst, ◌⊎◌, inl, inr, arith, append_assoc, leb}
use Rattle.std.proofs.Common.{eqb}
use Rattle.std.specs.Prelude.{codes, Contains}
use Rattle.std.specs.List.{flat_map, AllByRecursion}
use Rattle.std.specs.Int.{is_in_range}
use Rattle.std.specs.Str.{bytes_eq}
use Rattle.std.proofs.lemmas.Bool.{le-leb, and_from, or_left, or_right, false_from_ne_true, eq-eqb}
use Rattle.std.proofs.lemmas.Slice.Eq.{bytes_eq-Decides}
use Rattle.tv_kleene.specs.declared.K3.{K3}
use Rattle.tv_kleene.specs.declared.K3.TheVariants.{No, Half, Yes}
use Rattle.tv_lex.specs.Bytes.{is_letter}
use Rattle.tv_lex.specs.Token.{SpecToken}
use Rattle.tv_model.specs.Spelling.{IsIdentifier, IsLetter, IsDigit, reserved_words}
use Rattle.tv_phrases.specs.Tokens.{after, first, word_item, identifier_item, is_identifier, is_reserved}
use Rattle.tv_phrases.specs.Tokens.{begins_name}
use Rattle.tv_phrases.specs.Lists.{with_front, items_from, optional_list, optional_brackets, between, name}
use Rattle.tv_tvs.specs.Tree.{NameTree, ItemTree, ContentTree, OneValue, Listed, EntryTree, StructTree}
use Rattle.tv_phrases.specs.Repeated.{Repeated}
use Rattle.tv_tvs.specs.Grammar.{value_item, IsItemTree, IsNextItem, AreItems, IsContent, IsEntry, IsOpening}
use Rattle.tv_tvs.specs.Grammar.{IsStruct, begins_comma, begins_name as begins_entry}
use Rattle.tv_tvs.proofs.Lexing.{mark, directive, word}
use Rattle.tv_tvs.proofs.LaidOut.{more_items, comma_items, spell_word, spell_brackets, spell_name}
use Rattle.tv_tvs.proofs.LaidOut.{spell_value, spell_second, spell_item_value, spell_item, spell_content}
use Rattle.tv_tvs.proofs.LaidOut.{spell_entry, spell_opening, spell_struct}

-- ---- identifiers

pub in_range : (low high b : ℕ) → low ≤ b → b ≤ high → is_in_range low high b ≡ true
in_range low high b from to = and_from (leb low b) (leb b high) (le-leb low b from) (le-leb b high to)

letter : (b : ℕ) → IsLetter b → is_letter b ≡ true
letter b (inl h) = or_left (is_in_range 65 90 b) (is_in_range 97 122 b) (in_range 65 90 b h.0 h.1)
letter b (inr h) = or_right (is_in_range 65 90 b) (is_in_range 97 122 b) (in_range 97 122 b h.0 h.1)

begins : (w : List ℕ) → IsIdentifier w → begins_name w ≡ true
begins [] is = absurd (omega (arith, is.0.0))
begins (b ∷ w) is = at (is.0.1 0 0 (omega arith))
  where
    at : (IsLetter b ⊎ IsDigit b ⊎ (b ≡ 95)) → begins_name (b ∷ w) ≡ true
    at (inl h) = or_left (is_letter b) (eqb b 95) (letter b h)
    at (inr (inl h)) = absurd (is.1 h)
    at (inr (inr h)) = or_right (is_letter b) (eqb b 95) (eq-eqb b 95 h)

differs : (w r : List ℕ) (k : ℕ) → (¬ Contains reserved_words w) → k < 5 → get_or reserved_words k w ≡ r → bytes_eq w r ≡ false
differs w r k apart lt at = false_from_ne_true (bytes_eq w r) (λ h. apart (k, lt, at ∙ sym ((bytes_eq-Decides w r).0 h)))

unreserved : (w : List ℕ) → (¬ Contains reserved_words w) → is_reserved w ≡ false
unreserved w apart =
    let a : bytes_eq w (codes "E") ≡ false = differs w (codes "E") 0 apart (omega arith) refl
    in let b : bytes_eq w (codes "A") ≡ false = differs w (codes "A") 1 apart (omega arith) refl
    in let c : bytes_eq w (codes "TC") ≡ false = differs w (codes "TC") 2 apart (omega arith) refl
    in let d : bytes_eq w (codes "foreach") ≡ false = differs w (codes "foreach") 3 apart (omega arith) refl
    in let e : bytes_eq w (codes "in") ≡ false = differs w (codes "in") 4 apart (omega arith) refl
    in rw (a, b, c, d, e) refl

pub identifier_is : (w : List ℕ) → IsIdentifier w → is_identifier w ≡ true
identifier_is w is = and_from (begins_name w) (not (is_reserved w)) (begins w is) (ap not (unreserved w is.2))

-- ---- words with commas

module _ (item : SpecToken → Option (List ℕ)) (Good : List ℕ → Type 0) (one : (w : List ℕ) → Good w → item (word w) ≡ Some w) (close : List ℕ) (ends : bytes_eq close (codes ",") ≡ false) where
  words_behind : (ws : List (List ℕ)) → AllByRecursion Good ws → (ts : List SpecToken)
      → items_from item false (more_items spell_word ws ++ mark close ∷ ts) ≡ Some (ws, mark close ∷ ts)
  unfolding items_from with_front after
  words_behind [] good ts = rw ends refl
  words_behind (w ∷ ws) good ts = rw (one w good.0, words_behind ws good.1 ts) refl

  pub words_read : (w : List ℕ) (ws : List (List ℕ)) → Good w → AllByRecursion Good ws → (ts : List SpecToken)
      → items_from item true (comma_items spell_word (w ∷ ws) ++ mark close ∷ ts) ≡ Some (w ∷ ws, mark close ∷ ts)
  unfolding items_from with_front
  words_read w ws is good ts = rw (one w is, words_behind ws good ts) refl

identifier_read : (w : List ℕ) → IsIdentifier w → identifier_item (word w) ≡ Some w
identifier_read w is = rw (identifier_is w is) refl

AllWords : (ws : List (List ℕ)) → AllByRecursion (λ w. Unit {0}) ws
AllWords [] = tt
AllWords (w ∷ ws) = (tt, AllWords ws)

individuals_read : (ws : List (List ℕ)) (ts : List SpecToken) → optional_list word_item (comma_items spell_word ws ++ mark (codes "}") ∷ ts) ≡ Some (ws, mark (codes "}") ∷ ts)
unfolding optional_list first
individuals_read [] ts = refl
individuals_read (w ∷ ws) ts = words_read word_item (λ w. Unit {0}) (λ v is. refl) (codes "}") refl w ws tt (AllWords ws) ts

-- ---- names

abbrev pub IsNameTree : NameTree → Type 0
IsNameTree n = IsIdentifier n.0 × AllByRecursion IsIdentifier n.1

brackets_read : (ns : List (List ℕ)) → AllByRecursion IsIdentifier ns → (ts : List SpecToken)
    → optional_brackets (spell_brackets ns ++ mark (codes "=") ∷ ts) ≡ Some (ns, mark (codes "=") ∷ ts)
unfolding optional_brackets between after
brackets_read [] is ts = refl
brackets_read (n ∷ ns) is ts =
    let tokens : comma_items spell_word (n ∷ ns) ++ mark (codes "]") ∷ [] ++ mark (codes "=") ∷ ts ≡ comma_items spell_word (n ∷ ns) ++ mark (codes "]") ∷ (mark (codes "=") ∷ ts)
    = append_assoc (comma_items spell_word (n ∷ ns)) (mark (codes "]") ∷ []) (mark (codes "=") ∷ ts)
    in rw (tokens, words_read identifier_item IsIdentifier identifier_read (codes "]") refl n ns is.0 is.1 (mark (codes "=") ∷ ts)) refl

name_read : (n : NameTree) → IsNameTree n → (ts : List SpecToken) → name (spell_name n ++ mark (codes "=") ∷ ts) ≡ Some (n, mark (codes "=") ∷ ts)
unfolding name first
name_read n is ts = rw (identifier_read n.0 is.0, brackets_read n.1 is.1 ts) refl

-- ---- items

value_read : (k : K3) (ts : List SpecToken) → first value_item (spell_value k ∷ ts) ≡ Some (k, ts)
unfolding first
value_read No ts = refl
value_read Yes ts = refl
value_read Half ts = refl

-- what stands behind an item
abbrev separator : Bool → SpecToken
separator true = mark (codes ",")
separator false = mark (codes "}")

no_arrow : (b : Bool) (ts : List SpecToken) → after (codes "->") (separator b ∷ ts) ≡ None
unfolding after
no_arrow true ts = refl
no_arrow false ts = refl

no_colon : (b : Bool) (ts : List SpecToken) → after (codes ":") (separator b ∷ ts) ≡ None
unfolding after
no_colon true ts = refl
no_colon false ts = refl

item_is_at : (w : List ℕ) (second : Option (List ℕ)) (value : Option K3) (b : Bool) (ts : List SpecToken)
    → IsItemTree (word w ∷ (spell_second second ++ spell_item_value value) ++ separator b ∷ ts) (record { first = w; second = second; value = value }) (separator b ∷ ts)
unfolding first after
item_is_at w None None b ts = (separator b ∷ ts, separator b ∷ ts, refl, (no_arrow b ts, refl), (no_colon b ts, refl))
item_is_at w None (Some k) b ts =
    let vs = mark (codes ":") ∷ spell_value k ∷ separator b ∷ ts
    in (vs, vs, refl, (refl, refl), (spell_value k ∷ separator b ∷ ts, refl, value_read k (separator b ∷ ts)))
item_is_at w (Some v) None b ts =
    (mark (codes "->") ∷ word v ∷ separator b ∷ ts, separator b ∷ ts, refl, (word v ∷ separator b ∷ ts, refl, refl), (no_colon b ts, refl))
item_is_at w (Some v) (Some k) b ts =
    let vs = mark (codes ":") ∷ spell_value k ∷ separator b ∷ ts
    in (mark (codes "->") ∷ word v ∷ vs, vs, refl, (word v ∷ vs, refl, refl), (spell_value k ∷ separator b ∷ ts, refl, value_read k (separator b ∷ ts)))

-- the tokens behind an item begin with a separator
abbrev tail_tokens : List ItemTree → List SpecToken → List SpecToken
tail_tokens items ts = more_items spell_item items ++ mark (codes "}") ∷ ts

item_in_front : (item : ItemTree) (items : List ItemTree) (ts : List SpecToken) → IsItemTree (spell_item item ++ tail_tokens items ts) item (tail_tokens items ts)
item_in_front item [] ts = item_is_at item.first item.second item.value false ts
item_in_front item (next ∷ items) ts = item_is_at item.first item.second item.value true ((spell_item next ++ more_items spell_item items) ++ mark (codes "}") ∷ ts)

next_items_are : (items : List ItemTree) (ts : List SpecToken) → Repeated begins_comma IsNextItem (tail_tokens items ts) items (mark (codes "}") ∷ ts)
unfolding after
next_items_are [] ts = (refl, refl)
next_items_are (item ∷ items) ts =
    let tokens : spell_item item ++ tail_tokens items ts ≡ (spell_item item ++ more_items spell_item items) ++ mark (codes "}") ∷ ts
    = sym (append_assoc (spell_item item) (more_items spell_item items) (mark (codes "}") ∷ ts))
    in (tail_tokens items ts, refl, (spell_item item ++ tail_tokens items ts, ap (λ us. Some us) (sym tokens), item_in_front item items ts), next_items_are items ts)

items_are : (items : List ItemTree) (ts : List SpecToken) → AreItems (comma_items spell_item items ++ mark (codes "}") ∷ ts) items (mark (codes "}") ∷ ts)
unfolding first
items_are [] ts = (refl, refl)
items_are (item ∷ items) ts =
    let tokens : spell_item item ++ tail_tokens items ts ≡ (spell_item item ++ more_items spell_item items) ++ mark (codes "}") ∷ ts
    = sym (append_assoc (spell_item item) (more_items spell_item items) (mark (codes "}") ∷ ts))
    in (tail_tokens items ts, subst (λ us. IsItemTree us item (tail_tokens items ts)) tokens (item_in_front item items ts), next_items_are items ts)

content_is : (c : ContentTree) (ts : List SpecToken) → IsContent (spell_content c ++ ts) c ts
unfolding after
content_is (OneValue k) ts = (at k, value_read k ts)
  where
    at : (k : K3) → after (codes "{") (spell_value k ∷ ts) ≡ None
    at No = refl
    at Yes = refl
    at Half = refl
content_is (Listed items) ts =
    let tokens : comma_items spell_item items ++ mark (codes "}") ∷ [] ++ ts ≡ comma_items spell_item items ++ mark (codes "}") ∷ ts
    = append_assoc (comma_items spell_item items) (mark (codes "}") ∷ []) ts
    in (comma_items spell_item items ++ mark (codes "}") ∷ ts, mark (codes "}") ∷ ts, ap (λ us. Some us) tokens, items_are items ts, refl)

entry_is : (e : EntryTree) → IsNameTree e.name → (ts : List SpecToken) → IsEntry (spell_entry e ++ ts) e ts
unfolding after
entry_is e is ts =
    let tokens : spell_entry e ++ ts ≡ spell_name e.name ++ mark (codes "=") ∷ (spell_content e.content ++ ts)
    = append_assoc (spell_name e.name) (mark (codes "=") ∷ spell_content e.content) ts
    in (mark (codes "=") ∷ (spell_content e.content ++ ts), spell_content e.content ++ ts, ap name tokens ∙ name_read e.name is (spell_content e.content ++ ts), refl, content_is e.content ts)

entries_are : (es : List EntryTree) → AllByRecursion (λ e. IsNameTree e.name) es → (ts : List SpecToken)
    → Repeated begins_entry IsEntry (flat_map spell_entry es ++ mark (codes "}") ∷ ts) es (mark (codes "}") ∷ ts)
unfolding first
entries_are [] is ts = (refl, refl)
entries_are (e ∷ es) is ts =
    let tokens : spell_entry e ++ (flat_map spell_entry es ++ mark (codes "}") ∷ ts) ≡ flat_map spell_entry (e ∷ es) ++ mark (codes "}") ∷ ts
    = sym (append_assoc (spell_entry e) (flat_map spell_entry es) (mark (codes "}") ∷ ts))
    in (
      flat_map spell_entry es ++ mark (codes "}") ∷ ts,
      rw (identifier_read e.name.0 is.0.0) refl,
      subst (λ us. IsEntry us e (flat_map spell_entry es ++ mark (codes "}") ∷ ts)) tokens
          (entry_is e is.0 (flat_map spell_entry es ++ mark (codes "}") ∷ ts)),
      entries_are es is.1 ts,
    )

opening_is : (d : List ℕ) (ts : List SpecToken) → after d (directive d ∷ mark (codes "=") ∷ mark (codes "{") ∷ ts) ≡ Some (mark (codes "=") ∷ mark (codes "{") ∷ ts)
    → IsOpening d (spell_opening d ts) ts
unfolding after
opening_is d ts e = (mark (codes "=") ∷ mark (codes "{") ∷ ts, mark (codes "{") ∷ ts, e, refl, refl)

pub struct_is : (t : StructTree) → AllByRecursion (λ e. IsNameTree e.name) t.entries → (ts : List SpecToken) → IsStruct (spell_struct t ts) t ts
unfolding after
struct_is t is ts =
    let last = mark (codes "}") ∷ ts
    in let entries = flat_map spell_entry t.entries ++ last
    in let middle = spell_opening (codes "%p") entries
    in let end = mark (codes "}") ∷ middle
    in record {
      individuals = comma_items spell_word t.individuals ++ end;
      end = end;
      middle = middle;
      entries = entries;
      last = last;
      opens = opening_is (codes "%n") (comma_items spell_word t.individuals ++ end) refl;
      words = individuals_read t.individuals middle;
      closes = refl;
      opens_entries = opening_is (codes "%p") entries refl;
      are_entries = entries_are t.entries is ts;
      closes_entries = refl;
    }
