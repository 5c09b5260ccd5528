-- What is written of a structure is read as that structure again.
use Rattle.std.proofs.Common.{◌≡◌, ◌≢◌, ℕ, zero, suc, ◌+◌, ◌<◌, ◌≤◌, ◌^◌, ◌%◌, List, [], ◌∷◌, ◌++◌, Option}
use Rattle.std.proofs.Common.{Some, None, Ok, true, ◌||◌, eqb, length, map, get_or, ap, sym, refl, ◌∙◌, subst}
use Rattle.std.proofs.Common.{◌⊎◌, inl, inr, arith, append_assoc}
use Rattle.std.specs.Prelude.{codes, decimal, All, Contains}
use Rattle.std.specs.List.{list_all, flat_map, AllByRecursion, join_with_byte, cons_option, range_with_len}
use Rattle.std.specs.Char.{is_ascii_alphanumeric}
use Rattle.std.specs.Int.{is_in_range}
use Rattle.std.proofs.lemmas.Bool.{and_from, and_parts, or_left, or_right}
use Rattle.std.proofs.lemmas.List.{append-nil}
use Rattle.std.proofs.lemmas.List.Concat.{flat_map-append}
use Rattle.std.proofs.lemmas.Fmt.{decimal_by_steps}
use Rattle.tv_kleene.specs.declared.K3.{K3}
use Rattle.tv_kleene.specs.declared.K3.TheVariants.{No, Half, Yes}
use Rattle.tv_lex.specs.Bytes.{is_word_byte}
use Rattle.tv_lex.specs.Token.{SpecToken, spec_tokens}
use Rattle.tv_model.specs.Spelling.{IsIdentifier, IsLetter, IsDigit, IsName, reserved_words}
use Rattle.tv_model.specs.declared.program.Pred.{Pred}
use Rattle.tv_model.specs.declared.program.Vocab.{Vocab}
use Rattle.tv_structure_form.specs.StructureForm.{StructureForm, value_at, unmarked}
use Rattle.tv_tvs.specs.Tree.{NameTree, name_text, ItemTree, ContentTree, EntryTree, StructTree}
use Rattle.tv_tvs.specs.Canonical.{comma_text, individual, individuals, tuples, tuple_item, written_item}
use Rattle.tv_tvs.specs.Canonical.{written_items, if_some, value_content, content_of, line_text}
use Rattle.tv_tvs.specs.Canonical.{summary_value, preds_text, summaries_text, canonical_text}
use Rattle.tv_tvs.specs.Grammar.{IsStruct, AreStructs}
use Rattle.tv_phrases.specs.Tokens.{after}
use Rattle.tv_tree.specs.Steps.{◌>>=◌}
use Rattle.tv_tvs.specs.Meaning.{IsVocabulary, struct_meant, structs_meant}
use Rattle.tv_tvs.specs.Laws.{HaveOneReading, IsSpelled, StructuresAreReadAgain}
use Rattle.tv_lex.proofs.PieceTokens.{Lexes, lexes_read, read_lexes}
use Rattle.tv_tvs.proofs.Lexing.{Clear, IsWordText, mark, space_first, feed_first, open_brace_first}
use Rattle.tv_tvs.proofs.Lexing.{close_brace_first, equals_first, n_first, p_first, word_first}
use Rattle.tv_tvs.proofs.LaidOut.{comma_items, more_items, spell_word, spell_entry, spell_struct}
use Rattle.tv_tvs.proofs.LaidOut.{spell_opening, IsItemText, IsContentText, IsNameText, comma_lexes}
use Rattle.tv_tvs.proofs.LaidOut.{line_lexes}
use Rattle.tv_tvs.proofs.Spelled.{IsNameTree, struct_is, in_range}
use Rattle.tv_tvs.proofs.Entries.{entry_if, pred_entries, sm_name, canonical_tree, AreNames, IsPlain}
use Rattle.tv_tvs.proofs.Entries.{tree_again}
use Rattle.tv_tvs.proofs.Again.{IsTuple, tuples_are}
use Rattle.tv_tvs.proofs.Complete.{one_struct, one_text}

-- ---- words

digit_byte : (b : ℕ) → 48 ≤ b → b ≤ 57 → is_word_byte b ≡ true
digit_byte b from to =
    or_left (is_ascii_alphanumeric b) (eqb b 95)
    (or_left (is_in_range 48 57 b || is_in_range 65 90 b) (is_in_range 97 122 b)
    (or_left (is_in_range 48 57 b) (is_in_range 65 90 b) (in_range 48 57 b from to)))

letter_byte : (b : ℕ) → IsLetter b → is_word_byte b ≡ true
letter_byte b (inl h) =
    or_left (is_ascii_alphanumeric b) (eqb b 95)
    (or_left (is_in_range 48 57 b || is_in_range 65 90 b) (is_in_range 97 122 b)
    (or_right (is_in_range 48 57 b) (is_in_range 65 90 b) (in_range 65 90 b h.0 h.1)))
letter_byte b (inr h) =
    or_left (is_ascii_alphanumeric b) (eqb b 95)
    (or_right (is_in_range 48 57 b || is_in_range 65 90 b) (is_in_range 97 122 b) (in_range 97 122 b h.0 h.1))

pub word_bytes : (bytes : List ℕ) → All (λ b. IsLetter b ⊎ IsDigit b ⊎ (b ≡ 95)) bytes → list_all is_word_byte bytes ≡ true
word_bytes [] all = refl
word_bytes (b ∷ bytes) all =
    and_from (is_word_byte b) (list_all is_word_byte bytes) (at (all 0 0 (omega arith)))
    (word_bytes bytes (λ k d lt. all (suc k) d (omega (arith, lt))))
  where
    at : (IsLetter b ⊎ IsDigit b ⊎ (b ≡ 95)) → is_word_byte b ≡ true
    at (inl h) = letter_byte b h
    at (inr (inl h)) = digit_byte b h.0 h.1
    at (inr (inr h)) = rw h refl

identifier_word : (w : List ℕ) → IsIdentifier w → IsWordText w
identifier_word w is = (is.0.0, word_bytes w is.0.1)

all_append : (xs ys : List ℕ) → list_all is_word_byte xs ≡ true → list_all is_word_byte ys ≡ true → list_all is_word_byte (xs ++ ys) ≡ true
all_append [] ys all others = others
all_append (x ∷ xs) ys all others =
    let both = and_parts (is_word_byte x) (list_all is_word_byte xs) all
    in and_from (is_word_byte x) (list_all is_word_byte (xs ++ ys)) both.0 (all_append xs ys both.1 others)

decimal_word : (u : ℕ) → u < 2 ^ 64 → list_all is_word_byte (decimal u) ≡ true
decimal_word u small =
    decimal_by_steps (λ n ds. list_all is_word_byte ds ≡ true)
    (λ n lt. and_from (is_word_byte (48 + n)) true (digit_byte (48 + n) (omega arith) (omega (arith, lt))) refl)
    (λ n ds ge all. all_append ds ((48 + n % 10) ∷ []) all (and_from (is_word_byte (48 + n % 10)) true (digit_byte (48 + n % 10) (omega arith) (last n)) refl))
    u small
  where
    last : (n : ℕ) → 48 + n % 10 ≤ 57
    last n = omega arith

individual_word : (u : ℕ) → u < 2 ^ 64 → IsWordText (individual u)
individual_word u small = (omega arith, decimal_word u small)

-- ---- what is written is made of words

item_text_is : (arity size : ℕ) (t : List ℕ) (k : K3) → size ≤ 256 → 1 ≤ arity → IsTuple arity size t → IsItemText (tuple_item t k)
item_text_is arity size [] k small low is = absurd (omega (arith, is.0, low))
item_text_is arity size (u ∷ []) k small low is = (individual_word u (omega (arith, is.1.0, small)), tt)
item_text_is arity size (u ∷ w ∷ t) k small low is =
    (individual_word u (omega (arith, is.1.0, small)), individual_word w (omega (arith, is.1.1.0, small)))

items_text_are : (arity size : ℕ) (value : List ℕ → K3) → size ≤ 256 → 1 ≤ arity → (ts : List (List ℕ)) → AllByRecursion (IsTuple arity size) ts
    → AllByRecursion IsItemText (written_items value ts)
items_text_are arity size value small low [] all = tt
items_text_are arity size value small low (t ∷ ts) all = at (value t) (items_text_are arity size value small low ts all.1)
  where
    at : (k : K3) → AllByRecursion IsItemText (written_items value ts) → AllByRecursion IsItemText (cons_option (written_item t k) (written_items value ts))
    at No rest = rest
    at Half rest = (item_text_is arity size t Half small low all.0, rest)
    at Yes rest = (item_text_is arity size t Yes small low all.0, rest)

some_text : (items : List ItemTree) → AllByRecursion IsItemText items → IsContentText (if_some items)
some_text [] all = tt
some_text (item ∷ items) all = all

content_text_is : (size arity : ℕ) (value : List ℕ → K3) → size ≤ 256 → IsContentText (content_of size arity value)
content_text_is size zero value small = at (value [])
  where
    at : (k : K3) → IsContentText (value_content k)
    at No = tt
    at Half = tt
    at Yes = tt
content_text_is size (suc n) value small =
    some_text (written_items value (tuples (suc n) size))
    (items_text_are (suc n) size value small (omega arith) (tuples (suc n) size) (tuples_are (suc n) size))

-- ---- names

pub record Named (name : List ℕ) : Type 0 where
  pub tree : NameTree
  pub text : name_text tree ≡ name
  pub is : IsNameTree tree

all_identifiers : (ws : List (List ℕ)) → All IsIdentifier ws → AllByRecursion IsIdentifier ws
all_identifiers [] all = tt
all_identifiers (w ∷ ws) all = (all 0 [] (omega arith), all_identifiers ws (λ k d lt. all (suc k) d (omega (arith, lt))))

bracketed : (first : List ℕ) (inner : List (List ℕ)) (name : List ℕ) → IsIdentifier first → 0 < length inner → All IsIdentifier inner
    → name ≡ first ++ codes "[" ++ join_with_byte 44 inner ++ codes "]" → Named name
bracketed first [] name is some all spelled = absurd (omega (arith, some))
bracketed first (w ∷ ws) name is some all spelled =
    let same : name_text (first, w ∷ ws) ≡ first ++ codes "[" ++ join_with_byte 44 (w ∷ ws) ++ codes "]" = simp append_assoc
    in record { tree = (first, w ∷ ws); text = same ∙ sym spelled; is = (is, all_identifiers (w ∷ ws) all) }

named : (name : List ℕ) → IsName name → Named name
named name (inl is) = record { tree = (name, []); text = append-nil name; is = (is, tt) }
named name (inr b) = bracketed b.0 b.1 name b.2 b.3 b.4 b.5

pub record AllNamed (preds : List Pred) : Type 0 where
  pub trees : List NameTree
  pub are : AreNames trees preds
  pub is : AllByRecursion IsNameTree trees

all_named : (preds : List Pred) → All (λ pred. IsName pred.name × (pred.name ≢ codes "sm")) preds → AllNamed preds
all_named [] all = record { trees = []; are = tt; is = tt }
all_named (pred ∷ preds) all =
    let first = named pred.name (all 0 pred (omega arith)).0
    in let others = all_named preds (λ k d lt. all (suc k) d (omega (arith, lt)))
    in record { trees = first.tree ∷ others.trees; are = (first.text, others.are); is = (first.is, others.is) }

words_are : (ws : List (List ℕ)) → AllByRecursion IsIdentifier ws → AllByRecursion IsWordText ws
words_are [] is = tt
words_are (w ∷ ws) is = (identifier_word w is.0, words_are ws is.1)

name_words : (n : NameTree) → IsNameTree n → IsNameText n
name_words n is = (identifier_word n.0 is.0, words_are n.1 is.1)

-- ---- the canonical text

preds_lexes : (s : StructureForm) (p : ℕ) (preds : List Pred) (ns : List NameTree) → s.size ≤ 256 → AreNames ns preds → AllByRecursion IsNameTree ns
    → (rest : List ℕ) (ts : List SpecToken) → Lexes rest ts
    → Lexes (preds_text s p preds ++ rest) (flat_map spell_entry (pred_entries s p preds ns) ++ ts)
preds_lexes s p [] ns small are is rest ts l = l
preds_lexes s p (pred ∷ preds) [] small are is rest ts l = absurd are
preds_lexes s p (pred ∷ preds) (n ∷ ns) small are is rest ts l =
    let content : Option ContentTree = content_of s.size pred.arity (value_at s p)
    in let later = preds_lexes s (p + 1) preds ns small are.1 is.1 rest ts l
    in let line = line_lexes n content (name_words n is.0) (content_text_is s.size pred.arity (value_at s p) small)
    (preds_text s (p + 1) preds ++ rest) (flat_map spell_entry (pred_entries s (p + 1) preds ns) ++ ts) later
    in let text : line_text (name_text n) content ++ (preds_text s (p + 1) preds ++ rest) ≡ preds_text s p (pred ∷ preds) ++ rest
    = ap (λ w. line_text w content ++ (preds_text s (p + 1) preds ++ rest)) are.0
    ∙ sym (append_assoc (line_text pred.name content) (preds_text s (p + 1) preds) rest)
    in let tokens : flat_map spell_entry (entry_if n content) ++ (flat_map spell_entry (pred_entries s (p + 1) preds ns) ++ ts) ≡ flat_map spell_entry (pred_entries s p (pred ∷ preds) (n ∷ ns)) ++ ts
    = sym (append_assoc (flat_map spell_entry (entry_if n content)) (flat_map spell_entry (pred_entries s (p + 1) preds ns)) ts)
    ∙ ap (λ us. us ++ ts) (sym (flat_map-append spell_entry (entry_if n content) (pred_entries s (p + 1) preds ns)))
    in subst (λ us. Lexes (preds_text s p (pred ∷ preds) ++ rest) us) tokens
    (subst (λ t. Lexes t (flat_map spell_entry (entry_if n content) ++ (flat_map spell_entry (pred_entries s (p + 1) preds ns) ++ ts))) text line)

more-map : {X Y : Type 0} (f : X → Y) (spell : Y → List SpecToken) (xs : List X) → more_items spell (map f xs) ≡ more_items (λ x. spell (f x)) xs
more-map f spell [] = refl
more-map f spell (x ∷ xs) = ap (λ us. mark (codes ",") ∷ (spell (f x) ++ us)) (more-map f spell xs)

comma-map : {X Y : Type 0} (f : X → Y) (spell : Y → List SpecToken) (xs : List X) → comma_items spell (map f xs) ≡ comma_items (λ x. spell (f x)) xs
comma-map f spell [] = refl
comma-map f spell (x ∷ xs) = ap (λ us. spell (f x) ++ us) (more-map f spell xs)

below : (a n : ℕ) → a + n ≤ 256 → AllByRecursion (λ u. u < 2 ^ 64) (range_with_len a n)
below a zero small = tt
below a (suc n) small = (omega (arith, small), below (a + 1) n (omega (arith, small)))

individuals_lex : (size : ℕ) → size ≤ 256 → (rest : List ℕ) (ts : List SpecToken) → Clear rest → Lexes rest ts
    → Lexes (comma_text (individuals size) ++ rest) (comma_items spell_word (individuals size) ++ ts)
individuals_lex size small rest ts clear l =
    subst (λ us. Lexes (comma_text (individuals size) ++ rest) (us ++ ts)) (sym (comma-map individual spell_word (range_with_len 0 size)))
    (comma_lexes individual (λ u. spell_word (individual u)) (λ u. u < 2 ^ 64)
    (λ u lt more us is k. word_first (individual u) more us (individual_word u lt) is k) (range_with_len 0 size) (below 0 size (omega (arith, small))) rest ts clear l)

text_lexes : (vocab : Vocab) (s : StructureForm) (ns : List NameTree) → s.size ≤ 256 → AreNames ns vocab.preds → AllByRecursion IsNameTree ns
    → (behind : List ℕ) (ts : List SpecToken) → Lexes behind ts
    → Lexes (canonical_text vocab s ++ behind) (spell_struct (canonical_tree s vocab.preds ns) ts)
text_lexes vocab s ns small are is behind ts l =
    let end = mark (codes "}") ∷ ts
    in let sm_entries = entry_if sm_name (content_of s.size 1 (summary_value s))
    in let closed : Lexes (125 ∷ 10 ∷ behind) end = close_brace_first (10 ∷ behind) ts (feed_first behind ts l)
    in let summaries : Lexes (summaries_text s ++ 125 ∷ 10 ∷ behind) (flat_map spell_entry sm_entries ++ end)
    = line_lexes sm_name (content_of s.size 1 (summary_value s)) ((omega arith, refl), tt) (content_text_is s.size 1 (summary_value s) small) (125 ∷ 10 ∷ behind) end closed
    in let text_3 = preds_text s 0 vocab.preds ++ (summaries_text s ++ 125 ∷ 10 ∷ behind)
    in let tokens_3 = flat_map spell_entry (pred_entries s 0 vocab.preds ns) ++ (flat_map spell_entry sm_entries ++ end)
    in let entries : Lexes text_3 tokens_3 = preds_lexes s 0 vocab.preds ns small are is (summaries_text s ++ 125 ∷ 10 ∷ behind) (flat_map spell_entry sm_entries ++ end) summaries
    in let brace = open_brace_first (10 ∷ text_3) tokens_3 (feed_first text_3 tokens_3 entries)
    in let equals = equals_first (123 ∷ 10 ∷ text_3) (mark (codes "{") ∷ tokens_3) (space_first (123 ∷ 10 ∷ text_3) (mark (codes "{") ∷ tokens_3) brace)
    in let opening = p_first (61 ∷ 32 ∷ 123 ∷ 10 ∷ text_3) (mark (codes "=") ∷ mark (codes "{") ∷ tokens_3) (space_first (61 ∷ 32 ∷ 123 ∷ 10 ∷ text_3) (mark (codes "=") ∷ mark (codes "{") ∷ tokens_3) equals)
    in let text_4 = 37 ∷ 112 ∷ 32 ∷ 61 ∷ 32 ∷ 123 ∷ 10 ∷ text_3
    in let tokens_4 = spell_opening (codes "%p") tokens_3
    in let ended : Lexes (125 ∷ 10 ∷ text_4) (mark (codes "}") ∷ tokens_4) = close_brace_first (10 ∷ text_4) tokens_4 (feed_first text_4 tokens_4 opening)
    in let words = individuals_lex s.size small (125 ∷ 10 ∷ text_4) (mark (codes "}") ∷ tokens_4) (refl, refl) ended
    in let text_5 = comma_text (individuals s.size) ++ 125 ∷ 10 ∷ text_4
    in let tokens_5 = comma_items spell_word (individuals s.size) ++ mark (codes "}") ∷ tokens_4
    in let first_brace = open_brace_first text_5 tokens_5 words
    in let first_equals = equals_first (123 ∷ text_5) (mark (codes "{") ∷ tokens_5) (space_first (123 ∷ text_5) (mark (codes "{") ∷ tokens_5) first_brace)
    in let whole : Lexes (37 ∷ 110 ∷ 32 ∷ 61 ∷ 32 ∷ 123 ∷ text_5) (spell_opening (codes "%n") tokens_5)
    = n_first (61 ∷ 32 ∷ 123 ∷ text_5) (mark (codes "=") ∷ mark (codes "{") ∷ tokens_5) (space_first (61 ∷ 32 ∷ 123 ∷ text_5) (mark (codes "=") ∷ mark (codes "{") ∷ tokens_5) first_equals)
    in let text : 37 ∷ 110 ∷ 32 ∷ 61 ∷ 32 ∷ 123 ∷ text_5 ≡ canonical_text vocab s ++ behind
    = ap (λ t. 37 ∷ 110 ∷ 32 ∷ 61 ∷ 32 ∷ 123 ∷ t)
    (sym (append_assoc (comma_text (individuals s.size)) (125 ∷ 10 ∷ 37 ∷ 112 ∷ 32 ∷ 61 ∷ 32 ∷ 123 ∷ 10 ∷ (preds_text s 0 vocab.preds ++ (summaries_text s ++ codes "}\n"))) behind
    ∙ ap (λ t. comma_text (individuals s.size) ++ 125 ∷ 10 ∷ 37 ∷ 112 ∷ 32 ∷ 61 ∷ 32 ∷ 123 ∷ 10 ∷ t)
    (append_assoc (preds_text s 0 vocab.preds) (summaries_text s ++ codes "}\n") behind ∙ ap (λ t. preds_text s 0 vocab.preds ++ t) (append_assoc (summaries_text s) (codes "}\n") behind))))
    in let tokens : spell_opening (codes "%n") tokens_5 ≡ spell_struct (canonical_tree s vocab.preds ns) ts
    = ap (λ us. spell_opening (codes "%n") (comma_items spell_word (individuals s.size) ++ mark (codes "}") ∷ spell_opening (codes "%p") us))
    (sym (append_assoc (flat_map spell_entry (pred_entries s 0 vocab.preds ns)) (flat_map spell_entry sm_entries) end)
    ∙ ap (λ us. us ++ end) (sym (flat_map-append spell_entry (pred_entries s 0 vocab.preds ns) sm_entries)))
    in subst (λ us. Lexes (canonical_text vocab s ++ behind) us) tokens (subst (λ t. Lexes t (spell_opening (codes "%n") tokens_5)) text whole)

-- ---- entries of the tree have names

named_entries : (s : StructureForm) (p : ℕ) (preds : List Pred) (ns : List NameTree) → AllByRecursion IsNameTree ns → (es : List EntryTree)
    → AllByRecursion (λ (e : EntryTree). IsNameTree e.name) es → AllByRecursion (λ (e : EntryTree). IsNameTree e.name) (pred_entries s p preds ns ++ es)
named_entries s p [] ns is es all = all
named_entries s p (pred ∷ preds) [] is es all = all
named_entries s p (pred ∷ preds) (n ∷ ns) is es all =
    subst (AllByRecursion (λ (e : EntryTree). IsNameTree e.name)) (sym (append_assoc (entry_if n (content_of s.size pred.arity (value_at s p))) (pred_entries s (p + 1) preds ns) es))
    (one n (content_of s.size pred.arity (value_at s p)) is.0 (pred_entries s (p + 1) preds ns ++ es) (named_entries s (p + 1) preds ns is.1 es all))
  where
    one : (n : NameTree) (o : Option ContentTree) → IsNameTree n → (es : List EntryTree) → AllByRecursion (λ (e : EntryTree). IsNameTree e.name) es
        → AllByRecursion (λ (e : EntryTree). IsNameTree e.name) (entry_if n o ++ es)
    one n None is es all = all
    one n (Some c) is es all = (is, all)

not_reserved : (k : ℕ) → k < 5 → get_or reserved_words k (codes "sm") ≡ codes "sm" → ⊥
not_reserved zero lt e = let h : length (codes "E") ≡ length (codes "sm") = ap length e in omega (arith, h)
not_reserved (suc zero) lt e = let h : length (codes "A") ≡ length (codes "sm") = ap length e in omega (arith, h)
not_reserved (suc (suc zero)) lt e = let h : get_or (codes "TC") 0 0 ≡ get_or (codes "sm") 0 0 = ap (λ (w : List ℕ). get_or w 0 0) e in omega (arith, h)
not_reserved (suc (suc (suc zero))) lt e = let h : length (codes "foreach") ≡ length (codes "sm") = ap length e in omega (arith, h)
not_reserved (suc (suc (suc (suc zero)))) lt e = let h : get_or (codes "in") 0 0 ≡ get_or (codes "sm") 0 0 = ap (λ (w : List ℕ). get_or w 0 0) e in omega (arith, h)
not_reserved (suc (suc (suc (suc (suc k))))) lt e = absurd (omega (arith, lt))

sm_identifier : IsIdentifier (codes "sm")
sm_identifier = ((omega arith, sm_letters), (λ digit. absurd (omega (arith, digit.1))), free)
  where
    sm_letters : All (λ b. IsLetter b ⊎ IsDigit b ⊎ (b ≡ 95)) (codes "sm")
    sm_letters zero d lt = inl (inr (omega arith, omega arith))
    sm_letters (suc zero) d lt = inl (inr (omega arith, omega arith))
    sm_letters (suc (suc k)) d lt = absurd (omega (arith, lt))

    free : ¬ Contains reserved_words (codes "sm")
    free found = not_reserved found.0 found.1 found.2

sm_entry_named : (o : Option ContentTree) → AllByRecursion (λ (e : EntryTree). IsNameTree e.name) (entry_if sm_name o)
sm_entry_named None = tt
sm_entry_named (Some c) = ((sm_identifier, tt), tt)

-- ---- the laws

plain : (vocab : Vocab) → IsVocabulary vocab → IsSpelled vocab → IsPlain vocab.preds
plain vocab v spelled = record { names = v.names; arities = v.arities; no_sm = λ k d lt. (spelled k d lt).1 }

structs_are : (t : StructTree) → AllByRecursion (λ (e : EntryTree). IsNameTree e.name) t.entries → AreStructs (spell_struct t []) (t ∷ [])
unfolding after
structs_are t all = ([], refl, struct_is t all [], (refl, refl))

pub read_again : StructuresAreReadAgain
read_again vocab s v spelled is over =
    let names = all_named vocab.preds spelled
    in let tree : StructTree = canonical_tree s vocab.preds names.trees
    in let means : struct_meant vocab.preds tree ≡ Ok (unmarked s) = tree_again s vocab.preds names.trees is (plain vocab v spelled) over names.are
    in let all = named_entries s 0 vocab.preds names.trees names.is (entry_if sm_name (content_of s.size 1 (summary_value s))) (sm_entry_named (content_of s.size 1 (summary_value s)))
    in record {
      in_front = λ behind rest reads.
          let lexed = lexes_read (canonical_text vocab s ++ behind) (spell_struct tree (spec_tokens behind rest))
          (text_lexes vocab s names.trees is.table.size names.are names.is behind (spec_tokens behind rest) (read_lexes behind rest reads))
          in (lexed.0, lexed.1, record { tree = tree; is = subst (λ us. IsStruct us tree (spec_tokens behind rest)) (sym lexed.2) (struct_is tree all (spec_tokens behind rest)); meant = means });
      alone =
          let nothing : Lexes [] [] = record { pieces = []; fit = tt; whole = refl; are = refl }
          in let lexes = subst (λ t. Lexes t (spell_struct tree [])) (append-nil (canonical_text vocab s)) (text_lexes vocab s names.trees is.table.size names.are names.is [] [] nothing)
          in let lexed = lexes_read (canonical_text vocab s) (spell_struct tree []) lexes
          in (
            lexed.0,
            lexed.1,
            record {
              trees = tree ∷ [];
              are = subst (λ us. AreStructs us (tree ∷ [])) (sym lexed.2) (structs_are tree all);
              meant = ap (λ r. r >>= λ t. structs_meant vocab.preds [] >>= λ ss. Ok (t ∷ ss)) means;
            },
          );
    }

pub one_reading : HaveOneReading
one_reading = record { texts = one_text; structs = one_struct }
