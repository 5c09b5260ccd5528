-- What is written of an analysis, phrase by phrase, in front of a text: its tokens are those of the phrase.
use Rattle.std.proofs.Common.{◌≡◌, ◌≢◌, ℕ, suc, ◌<◌, ◌^◌, List, [], ◌∷◌, ◌++◌, false, Some, Ok, length, map}
use Rattle.std.proofs.Common.{ap, sym, refl, ◌∙◌, subst, ◌⊎◌, inl, inr, arith, append_assoc}
use Rattle.std.specs.Prelude.{codes, decimal, All}
use Rattle.std.specs.List.{flat_map, AllByRecursion}
use Rattle.std.specs.Result.{result_ok}
use Rattle.tv_kleene.specs.declared.K3.{K3}
use Rattle.tv_kleene.specs.declared.K3.TheVariants.{No, Half, Yes}
use Rattle.tv_lex.specs.Token.{SpecToken, spec_tokens}
use Rattle.tv_listing.specs.declared.analysis.Item.{Item}
use Rattle.tv_listing.specs.declared.analysis.Item.TheVariants as item
use Rattle.tv_listing.specs.declared.analysis.MapLine.{MapLine}
use Rattle.tv_listing.specs.declared.analysis.MessageLine.{MessageLine}
use Rattle.tv_model.specs.Program.{ProgramForm}
use Rattle.tv_model.specs.Spelling.{IsText}
use Rattle.tv_model.specs.declared.program.Vocab.{Vocab}
use Rattle.tv_phrases.specs.Lists.{with_front, items_from, optional_list}
use Rattle.tv_phrases.specs.Reading.{taken}
use Rattle.tv_phrases.specs.Repeated.{Repeated, begins_with}
use Rattle.tv_phrases.specs.Tokens.{after, first, number_item}
use Rattle.tv_phrases.proofs.Numerals.{number_written}
use Rattle.tv_phrases.proofs.Repeats.{begun}
use Rattle.tv_structure_form.specs.StructureForm.{StructureForm, IsStructure, IsOver, unmarked}
use Rattle.tv_tvs.specs.Canonical.{canonical_text, comma_text, value_text}
use Rattle.tv_tvs.specs.Laws.{IsSpelled}
use Rattle.tv_tvs.specs.Meaning.{IsVocabulary, MeansStruct, structs_meant}
use Rattle.tv_tvs.specs.Tree.{StructTree}
use Rattle.tv_tvs.proofs.LaidOut.{comma_items, more_items, comma_lexes, spell_word, spell_value}
use Rattle.tv_lex.proofs.PieceTokens.{Lexes, lexes_read, read_lexes}
use Rattle.tv_tvs.proofs.Lexing.{Clear, IsWordText, mark, word, word_first, half_first, space_first}
use Rattle.tv_tvs.proofs.Lexing.{feed_first, open_brace_first, close_brace_first}
use Rattle.tv_tvs.proofs.RoundTrip.{read_again}
use Rattle.tv_report.specs.Grammar.{message_value, AreStructures, IsNode, IsMessage, IsItemPhrase, IsMap}
use Rattle.tv_report.specs.Laws.{IsShort, IsShortItem}
use Rattle.tv_report.specs.Lines.{message_at}
use Rattle.tv_report.specs.Meaning.{NamedNode, named_node}
use Rattle.tv_report.specs.Text.{node_line, node_text, message_text, item_text, map_text, said}
use Rattle.tv_report.specs.Tree.{NodeTree}
use Rattle.tv_report.proofs.WordTexts.{number_word, number_first, spaced, ended, quoted, string, string_first}
use Rattle.tv_report.proofs.WordTexts.{text_first}

-- ---- structures

structure_first : (vocab : Vocab) → IsVocabulary vocab → IsSpelled vocab → (s : StructureForm) → IsStructure s → IsOver vocab s
    → (behind : List ℕ) (ts : List SpecToken) → Lexes behind ts
    → (us : List SpecToken) × Lexes (canonical_text vocab s ++ behind) us × MeansStruct vocab us ts (Ok (unmarked s))
structure_first vocab v spelled s is over behind ts l =
    let read = lexes_read behind ts l
    in let again = (read_again vocab s v spelled is over).in_front behind read.0 read.1
    in let us : List SpecToken = spec_tokens (canonical_text vocab s ++ behind) again.0
    in (us, read_lexes (canonical_text vocab s ++ behind) again.0 again.1, subst (λ vs. MeansStruct vocab us vs (Ok (unmarked s))) read.2 again.2)

record Structures (vocab : Vocab) (ss : List StructureForm) (behind : List ℕ) (ts : List SpecToken) : Type 0 where
  tokens : List SpecToken
  lexes : Lexes (flat_map (canonical_text vocab) ss ++ behind) tokens
  trees : List StructTree
  count : length trees ≡ length ss
  are : AreStructures tokens trees ts
  meant : structs_meant vocab.preds trees ≡ Ok (map unmarked ss)

structures_first : (vocab : Vocab) → IsVocabulary vocab → IsSpelled vocab → (ss : List StructureForm) → All (λ s. IsStructure s × IsOver vocab s) ss
    → (behind : List ℕ) (ts : List SpecToken) → Lexes behind ts → Structures vocab ss behind ts
structures_first vocab v spelled [] all behind ts l = record { tokens = ts; lexes = l; trees = []; count = refl; are = refl; meant = refl }
structures_first vocab v spelled (s ∷ ss) all behind ts l =
    let others = structures_first vocab v spelled ss (λ k d lt. all (suc k) d (omega (arith, lt))) behind ts l
    in let good = all 0 s (omega arith)
    in let one = structure_first vocab v spelled s good.0 good.1 (flat_map (canonical_text vocab) ss ++ behind) others.tokens others.lexes
    in record {
      tokens = one.0;
      lexes = subst (λ t. Lexes t one.0) (sym (append_assoc (canonical_text vocab s) (flat_map (canonical_text vocab) ss) behind)) one.1;
      trees = one.2.tree ∷ others.trees;
      count = ap suc others.count;
      are = (others.tokens, one.2.is, others.are);
      meant = rw (one.2.meant, others.meant) refl;
    }

-- ---- phrases in front of a text

-- the phrase of a thing stands in front of these tokens, and begins with a mark
pub record First {X : Type 0} (text : X → List ℕ) (Phrase : List SpecToken → X → List SpecToken → Type 0) (m : List ℕ) (x : X) (behind : List ℕ) (ts : List SpecToken) : Type 0 where
  pub tokens : List SpecToken
  pub lexes : Lexes (text x ++ behind) tokens
  pub is : Phrase tokens x ts
  pub inside : List SpecToken
  pub begins : after m tokens ≡ Some inside

pub record Fronts {X : Type 0} (text : X → List ℕ) (Phrase : List SpecToken → X → List SpecToken → Type 0) (m : List ℕ) (xs : List X) (behind : List ℕ) (ts : List SpecToken) : Type 0 where
  pub tokens : List SpecToken
  pub lexes : Lexes (flat_map text xs ++ behind) tokens
  pub are : Repeated (begins_with m) Phrase tokens xs ts
  pub begins : (tokens ≡ ts) ⊎ ((inside : List SpecToken) × (after m tokens ≡ Some inside))

module _ {X : Type 0} (text : X → List ℕ) (Phrase : List SpecToken → X → List SpecToken → Type 0) (m : List ℕ) (Good : X → Type 0) (one : (x : X) → Good x → (behind : List ℕ) (ts : List SpecToken) → Lexes behind ts → First text Phrase m x behind ts) where
  pub fronts : (xs : List X) → All Good xs → (behind : List ℕ) (ts : List SpecToken) → begins_with m ts ≡ false → Lexes behind ts
      → Fronts text Phrase m xs behind ts
  fronts [] all behind ts other l = record { tokens = ts; lexes = l; are = (other, refl); begins = inl refl }
  fronts (x ∷ xs) all behind ts other l =
      let others = fronts xs (λ k d lt. all (suc k) d (omega (arith, lt))) behind ts other l
      in let this = one x (all 0 x (omega arith)) (flat_map text xs ++ behind) others.tokens others.lexes
      in record {
        tokens = this.tokens;
        lexes = subst (λ t. Lexes t this.tokens) (sym (append_assoc (text x) (flat_map text xs) behind)) this.lexes;
        are = (others.tokens, begun m this.tokens this.inside this.begins, this.is, others.are);
        begins = inr (this.inside, this.begins);
      }

-- ---- nodes

-- a node's name and its structures
abbrev pub Listed : Type 0
Listed = List ℕ × List StructureForm

abbrev pub listed_text : Vocab → Listed → List ℕ
listed_text vocab node = node_text vocab node.0 node.1

abbrev pub as_named : Listed → NamedNode
as_named node = record { name = node.0; structures = Some (map unmarked node.1) }

abbrev pub IsListedNode : Vocab → List SpecToken → Listed → List SpecToken → Type 0
IsListedNode vocab ts node rest = (t : NodeTree) × IsNode ts t rest × (named_node vocab t ≡ as_named node)

pub record IsGood (vocab : Vocab) (node : Listed) : Type 0 where
  pub name : IsWordText node.0
  pub count : length node.1 < 2 ^ 32
  pub structures : All (λ s. IsStructure s × IsOver vocab s) node.1

node_line_text : (name : List ℕ) (n : ℕ) (rest : List ℕ)
    → node_line name n ++ rest ≡ codes "node " ++ (name ++ (codes " structures " ++ (decimal n ++ 10 ∷ rest)))
node_line_text name n rest =
    ap (λ t. codes "node " ++ t) (append_assoc name (codes " structures " ++ (decimal n ++ codes "\n")) rest
    ∙ ap (λ t. name ++ (codes " structures " ++ t)) (append_assoc (decimal n) (codes "\n") rest))

node_line_lexes : (name : List ℕ) (n : ℕ) (rest : List ℕ) (ts : List SpecToken) → IsWordText name → n < 2 ^ 32 → Lexes rest ts
    → Lexes (node_line name n ++ rest) (word (codes "node") ∷ word name ∷ word (codes "structures") ∷ word (decimal n) ∷ ts)
node_line_lexes name n rest ts is small l =
    let number = ended (decimal n) rest ts (number_word n small) l
    in let counted = spaced (codes "structures") (decimal n ++ 10 ∷ rest) (word (decimal n) ∷ ts) (omega arith, refl) number
    in let named = spaced name (codes "structures " ++ (decimal n ++ 10 ∷ rest)) (word (codes "structures") ∷ word (decimal n) ∷ ts) is counted
    in let whole = spaced (codes "node") (name ++ (codes " structures " ++ (decimal n ++ 10 ∷ rest))) (word name ∷ word (codes "structures") ∷ word (decimal n) ∷ ts) (omega arith, refl) named
    in subst (λ t. Lexes t (word (codes "node") ∷ word name ∷ word (codes "structures") ∷ word (decimal n) ∷ ts)) (sym (node_line_text name n rest)) whole

pub node_first : (vocab : Vocab) → IsVocabulary vocab → IsSpelled vocab → (node : Listed) → IsGood vocab node → (behind : List ℕ) (ts : List SpecToken)
    → Lexes behind ts → First (listed_text vocab) (IsListedNode vocab) (codes "node") node behind ts
unfolding after first
node_first vocab v spelled (name, ss) good behind ts l =
    let inner = structures_first vocab v spelled ss good.structures behind ts l
    in let us : List SpecToken = inner.tokens
    in let count : first number_item (word (decimal (length ss)) ∷ us) ≡ taken (length inner.trees) us
    = number_first (length ss) us good.count ∙ ap (λ n. taken n us) (sym inner.count)
    in let line = node_line_lexes name (length ss) (flat_map (canonical_text vocab) ss ++ behind) us good.name good.count inner.lexes
    in let tail_2 : List SpecToken = word (codes "structures") ∷ word (decimal (length ss)) ∷ us
    in let tail_1 : List SpecToken = word name ∷ tail_2
    in let tokens : List SpecToken = word (codes "node") ∷ tail_1
    in let tree : NodeTree = record { name = name; structures = inner.trees }
    in record {
      tokens = tokens;
      lexes = subst (λ t. Lexes t tokens) (sym (append_assoc (node_line name (length ss)) (flat_map (canonical_text vocab) ss) behind)) line;
      is = (
        tree,
        (tail_1, tail_2, word (decimal (length ss)) ∷ us, us, refl, refl, refl, count, inner.are),
        ap (λ m. record { name = name; structures = result_ok m }) inner.meant,
      );
      inside = tail_1;
      begins = refl;
    }

-- the trees of nodes
pub record NodeTrees (vocab : Vocab) (nodes : List Listed) (ts rest : List SpecToken) : Type 0 where
  pub trees : List NodeTree
  pub are : Repeated (begins_with (codes "node")) IsNode ts trees rest
  pub named : map (named_node vocab) trees ≡ map as_named nodes

pub node_trees : (vocab : Vocab) (nodes : List Listed) (ts rest : List SpecToken) → Repeated (begins_with (codes "node")) (IsListedNode vocab) ts nodes rest
    → NodeTrees vocab nodes ts rest
node_trees vocab [] ts rest are = record { trees = []; are = are; named = refl }
node_trees vocab (node ∷ nodes) ts rest are =
    let others = node_trees vocab nodes are.0 rest are.3
    in let this = are.2
    in record {
      trees = this.0 ∷ others.trees;
      are = (are.0, are.1, this.1, others.are);
      named = ap (λ n. n ∷ map (named_node vocab) others.trees) this.2 ∙ ap (λ ns. as_named node ∷ ns) others.named;
    }

-- ---- messages

pub record IsShortMessage (p : ProgramForm) (line : MessageLine) : Type 0 where
  pub edge : IsShort line.edge
  pub number : IsShort line.number
  pub value : line.value ≢ No
  pub text : IsText (said (message_at p line.edge line.number))

value_first : (k : K3) → k ≢ No → (rest : List ℕ) (ts : List SpecToken) → Lexes rest ts
    → Lexes (value_text k ++ 32 ∷ rest) (spell_value k ∷ ts) × (first message_value (spell_value k ∷ ts) ≡ taken k ts)
unfolding first
value_first No differs rest ts l = absurd (differs refl)
value_first Yes differs rest ts l = (spaced (codes "1") rest ts (omega arith, refl) l, refl)
value_first Half differs rest ts l = (half_first (32 ∷ rest) ts (refl, refl) (space_first rest ts l), refl)

message_line_text : (edge number value text rest : List ℕ)
    → (codes "message " ++ (edge ++ (codes " " ++ (number ++ (codes " " ++ (value ++ (codes " \"" ++ (text ++ codes "\"\n")))))))) ++ rest
    ≡ codes "message " ++ (edge ++ 32 ∷ (number ++ 32 ∷ (value ++ 32 ∷ (quoted text ++ 10 ∷ rest))))
message_line_text edge number value text rest =
    let last : (text ++ codes "\"\n") ++ rest ≡ (text ++ 34 ∷ []) ++ 10 ∷ rest = append_assoc text (codes "\"\n") rest ∙ sym (append_assoc text (34 ∷ []) (10 ∷ rest))
    in let third = append_assoc value (codes " \"" ++ (text ++ codes "\"\n")) rest ∙ ap (λ t. value ++ 32 ∷ 34 ∷ t) last
    in let second = append_assoc number (codes " " ++ (value ++ (codes " \"" ++ (text ++ codes "\"\n")))) rest ∙ ap (λ t. number ++ 32 ∷ t) third
    in ap (λ t. codes "message " ++ t)
    (append_assoc edge (codes " " ++ (number ++ (codes " " ++ (value ++ (codes " \"" ++ (text ++ codes "\"\n")))))) rest ∙ ap (λ t. edge ++ 32 ∷ t) second)

pub message_first : (p : ProgramForm) (line : MessageLine) → IsShortMessage p line → (behind : List ℕ) (ts : List SpecToken) → Lexes behind ts
    → First (message_text p) IsMessage (codes "message") line behind ts
unfolding after first
message_first p line good behind ts l =
    let text : List ℕ = said (message_at p line.edge line.number)
    in let ts_4 : List SpecToken = string text ∷ ts
    in let quote : Lexes (quoted text ++ 10 ∷ behind) ts_4 = string_first text (10 ∷ behind) ts good.text (feed_first behind ts l)
    in let value = value_first line.value good.value (quoted text ++ 10 ∷ behind) ts_4 quote
    in let ts_3 : List SpecToken = spell_value line.value ∷ ts_4
    in let text_3 : List ℕ = value_text line.value ++ 32 ∷ (quoted text ++ 10 ∷ behind)
    in let number = spaced (decimal line.number) text_3 ts_3 (number_word line.number good.number) value.0
    in let ts_2 : List SpecToken = word (decimal line.number) ∷ ts_3
    in let text_2 : List ℕ = decimal line.number ++ 32 ∷ text_3
    in let edge = spaced (decimal line.edge) text_2 ts_2 (number_word line.edge good.edge) number
    in let ts_1 : List SpecToken = word (decimal line.edge) ∷ ts_2
    in let whole = spaced (codes "message") (decimal line.edge ++ 32 ∷ text_2) ts_1 (omega arith, refl) edge
    in let tokens : List SpecToken = word (codes "message") ∷ ts_1
    in record {
      tokens = tokens;
      lexes = subst (λ t. Lexes t tokens) (sym (message_line_text (decimal line.edge) (decimal line.number) (value_text line.value) text behind)) whole;
      is = (
        ts_1,
        ts_2,
        ts_3,
        ts_4,
        _,
        refl,
        number_first line.edge ts_2 good.edge,
        number_first line.number ts_3 good.number,
        value.1,
        text_first text ts,
      );
      inside = ts_1;
      begins = refl;
    }

-- ---- maps

pub record IsShortMap (line : MapLine) : Type 0 where
  pub numbers : IsShortItem line.item
  pub others : (edge structure result : ℕ) → line.item ≡ item.Result edge structure result → IsShort edge × IsShort structure
  pub target : IsShort line.target
  pub map : All IsShort line.map

-- numbers with commas between them
numbers_behind : (ns : List ℕ) → AllByRecursion IsShort ns → (ts : List SpecToken)
    → items_from number_item false (more_items (λ n. spell_word (decimal n)) ns ++ mark (codes "}") ∷ ts) ≡ taken ns (mark (codes "}") ∷ ts)
unfolding items_from with_front after
numbers_behind [] good ts = refl
numbers_behind (n ∷ ns) good ts = rw (number_written n good.0, numbers_behind ns good.1 ts) refl

numbers_are : (ns : List ℕ) → AllByRecursion IsShort ns → (ts : List SpecToken)
    → optional_list number_item (comma_items (λ n. spell_word (decimal n)) ns ++ mark (codes "}") ∷ ts) ≡ taken ns (mark (codes "}") ∷ ts)
unfolding optional_list first items_from with_front
numbers_are [] good ts = refl
numbers_are (n ∷ ns) good ts = rw (number_written n good.0, numbers_behind ns good.1 ts) refl

by_recursion : (ns : List ℕ) → All IsShort ns → AllByRecursion IsShort ns
by_recursion [] all = tt
by_recursion (n ∷ ns) all = (all 0 n (omega arith), by_recursion ns (λ k d lt. all (suc k) d (omega (arith, lt))))

numbers_first : (ns : List ℕ) → AllByRecursion IsShort ns → (rest : List ℕ) (ts : List SpecToken) → Clear rest → Lexes rest ts
    → Lexes (comma_text (map decimal ns) ++ rest) (comma_items (λ n. spell_word (decimal n)) ns ++ ts)
numbers_first ns good rest ts clear l =
    comma_lexes decimal (λ n. spell_word (decimal n)) IsShort (λ n small more us is k. word_first (decimal n) more us (number_word n small) is k) ns good rest ts clear l

-- an item with a blank behind it
record ItemFirst (x : Item) (rest : List ℕ) (ts : List SpecToken) : Type 0 where
  tokens : List SpecToken
  lexes : Lexes (item_text x ++ 32 ∷ rest) tokens
  is : IsItemPhrase tokens x ts

item_first : (x : Item) → IsShortItem x → ((edge structure result : ℕ) → x ≡ item.Result edge structure result → IsShort edge × IsShort structure)
    → (rest : List ℕ) (ts : List SpecToken) → Lexes rest ts → ItemFirst x rest ts
unfolding after
item_first (item.Initial n) small others rest ts l =
    let number = spaced (decimal n) rest ts (number_word n small) l
    in record {
      tokens = word (codes "initial") ∷ word (decimal n) ∷ ts;
      lexes = spaced (codes "initial") (decimal n ++ 32 ∷ rest) (word (decimal n) ∷ ts) (omega arith, refl) number;
      is = (word (decimal n) ∷ ts, refl, number_first n ts small);
    }
item_first (item.Result edge structure result) small others rest ts l =
    let short = others edge structure result refl
    in let third = spaced (decimal result) rest ts (number_word result small) l
    in let ts_3 : List SpecToken = word (decimal result) ∷ ts
    in let second = spaced (decimal structure) (decimal result ++ 32 ∷ rest) ts_3 (number_word structure short.1) third
    in let ts_2 : List SpecToken = word (decimal structure) ∷ ts_3
    in let first_number = spaced (decimal edge) (decimal structure ++ 32 ∷ (decimal result ++ 32 ∷ rest)) ts_2 (number_word edge short.0) second
    in let ts_1 : List SpecToken = word (decimal edge) ∷ ts_2
    in let whole = spaced (codes "edge") (decimal edge ++ 32 ∷ (decimal structure ++ 32 ∷ (decimal result ++ 32 ∷ rest))) ts_1 (omega arith, refl) first_number
    in let text : item_text (item.Result edge structure result) ++ 32 ∷ rest ≡ codes "edge " ++ (decimal edge ++ 32 ∷ (decimal structure ++ 32 ∷ (decimal result ++ 32 ∷ rest)))
    = ap (λ t. codes "edge " ++ t) (append_assoc (decimal edge) (codes " " ++ (decimal structure ++ (codes " " ++ decimal result))) (32 ∷ rest)
    ∙ ap (λ t. decimal edge ++ 32 ∷ t) (append_assoc (decimal structure) (codes " " ++ decimal result) (32 ∷ rest)))
    in record {
      tokens = word (codes "edge") ∷ ts_1;
      lexes = subst (λ t. Lexes t (word (codes "edge") ∷ ts_1)) (sym text) whole;
      is = (ts_1, ts_2, ts_3, refl, number_first edge ts_2 short.0, number_first structure ts_3 short.1, number_first result ts small);
    }

map_line_text : (thing target numbers rest : List ℕ)
    → (codes "map " ++ (thing ++ (codes " to " ++ (target ++ (codes " {" ++ (numbers ++ codes "}\n")))))) ++ rest
    ≡ codes "map " ++ (thing ++ 32 ∷ (codes "to " ++ (target ++ 32 ∷ 123 ∷ (numbers ++ 125 ∷ 10 ∷ rest))))
map_line_text thing target numbers rest =
    let second = append_assoc target (codes " {" ++ (numbers ++ codes "}\n")) rest ∙ ap (λ t. target ++ 32 ∷ 123 ∷ t) (append_assoc numbers (codes "}\n") rest)
    in ap (λ t. codes "map " ++ t)
    (append_assoc thing (codes " to " ++ (target ++ (codes " {" ++ (numbers ++ codes "}\n")))) rest ∙ ap (λ t. thing ++ (codes " to " ++ t)) second)

pub map_first : (line : MapLine) → IsShortMap line → (behind : List ℕ) (ts : List SpecToken) → Lexes behind ts
    → First map_text IsMap (codes "map") line behind ts
unfolding after
map_first line good behind ts l =
    let spelled : List SpecToken = comma_items (λ n. spell_word (decimal n)) line.map
    in let short = by_recursion line.map good.map
    in let close : Lexes (125 ∷ 10 ∷ behind) (mark (codes "}") ∷ ts) = close_brace_first (10 ∷ behind) ts (feed_first behind ts l)
    in let ts_5 : List SpecToken = mark (codes "}") ∷ ts
    in let ts_4 : List SpecToken = spelled ++ ts_5
    in let text_4 : List ℕ = comma_text (map decimal line.map) ++ 125 ∷ 10 ∷ behind
    in let numbers : Lexes text_4 ts_4 = numbers_first line.map short (125 ∷ 10 ∷ behind) ts_5 (refl, refl) close
    in let ts_3 : List SpecToken = mark (codes "{") ∷ ts_4
    in let brace : Lexes (123 ∷ text_4) ts_3 = open_brace_first text_4 ts_4 numbers
    in let target = spaced (decimal line.target) (123 ∷ text_4) ts_3 (number_word line.target good.target) brace
    in let ts_2 : List SpecToken = word (decimal line.target) ∷ ts_3
    in let text_2 : List ℕ = decimal line.target ++ 32 ∷ 123 ∷ text_4
    in let to = spaced (codes "to") text_2 ts_2 (omega arith, refl) target
    in let thing = item_first line.item good.numbers good.others (codes "to " ++ text_2) (word (codes "to") ∷ ts_2) to
    in let whole = spaced (codes "map") (item_text line.item ++ 32 ∷ (codes "to " ++ text_2)) thing.tokens (omega arith, refl) thing.lexes
    in let tokens : List SpecToken = word (codes "map") ∷ thing.tokens
    in record {
      tokens = tokens;
      lexes = subst (λ t. Lexes t tokens) (sym (map_line_text (item_text line.item) (decimal line.target) (comma_text (map decimal line.map)) behind)) whole;
      is = (
        thing.tokens,
        word (codes "to") ∷ ts_2,
        ts_2,
        ts_3,
        ts_4,
        ts_5,
        refl,
        thing.is,
        refl,
        number_first line.target ts_3 good.target,
        refl,
        numbers_are line.map short ts,
        refl,
      );
      inside = thing.tokens;
      begins = refl;
    }
