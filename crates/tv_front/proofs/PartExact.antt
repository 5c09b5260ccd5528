-- The same of sets, updates, actions, edges and the words at the end: their tokens are the printed ones.
use Rattle.std.proofs.Common.{◌≡◌, ℕ, List, [], ◌∷◌, ◌++◌, Bool, true, false, Option, Some, None, refl, sym}
use Rattle.std.proofs.Common.{◌∙◌, ap, subst}
use Rattle.std.specs.Prelude.{codes, IfSome, if◌then◌else◌}
use Rattle.std.specs.List.{AllByRecursion, flat_map}
use Rattle.std.specs.Str.{bytes_eq}
use Rattle.std.proofs.lemmas.Slice.Eq.{bytes_eq-Decides}
use Rattle.tv_lex.specs.Token.{SpecToken}
use Rattle.tv_phrases.specs.Tokens.{after, word_item, text_item}
use Rattle.tv_tree.specs.Forms.{NameForm, SetForm, SNamed, SMembers, SParen, SPlus, SMinus, Form, Nest}
use Rattle.tv_tree.specs.Forms.{Single, Foreach, Nests, no_nest, with_nest, PieceForm, Quoted, Spelled}
use Rattle.tv_tree.specs.Forms.{PartForm, PCaption, PFocus, PPre, PMessage, PNew, PRetain, PBlock, ActionForm}
use Rattle.tv_tree.specs.Forms.{EdgeForm}
use Rattle.tv_tree.specs.Printed.{more_tokens, joined_tokens, words_tokens, params_tokens, name_tokens}
use Rattle.tv_tree.specs.Printed.{set_tokens, formula_tokens, foreach_tokens, lone, nest_lines, nests_lines}
use Rattle.tv_tree.specs.Printed.{piece_tokens, pieces_tokens, update_tokens, part_lines, action_tokens}
use Rattle.tv_tree.specs.Printed.{action_lines, edge_lines, tail_words, tail_lines}
use Rattle.tv_formula.specs.Grammar.{IsFormula, name_form}
use Rattle.tv_formula.specs.Spelled.{spelled}
use Rattle.tv_parse.specs.declared.kinds.PartKind.{PartKind}
use Rattle.tv_parse.specs.declared.kinds.PartKind.TheVariants as part
use Rattle.tv_parse.specs.Kinds.{looked_up, part_marks, part_kind, begins_update, kind_of}
use Rattle.tv_parse.specs.Grammar.{IsSetTerm, IsSetFront, IsSet, IsHead, IsNest, AreNests, IsSignature}
use Rattle.tv_parse.specs.Grammar.{IsUpdate, IsPiece, ArePieces, AreFormulas, IsPart, AreParts, IsAction}
use Rattle.tv_parse.specs.Grammar.{IsEdge, IsTail}
use Rattle.tv_phrases.specs.Repeated.{begins_with, Repeated, Behind, Joined}
use Rattle.tv_front.proofs.Exact.{Tokens, Exact, Tells, exact_then, none_exact, after_exact, first_exact}
use Rattle.tv_front.proofs.Exact.{tells_word, tells_text, itself, quoted, word_exact, optional_exact}
use Rattle.tv_front.proofs.Exact.{params_exact, members_exact, name_exact}
use Rattle.tv_front.proofs.FormulaExact.{formula_exact}

-- ---- sets

mutual
  term_exact : (s : SetForm) (ts rest : List SpecToken) → IsSetTerm ts s rest → Tokens ts → Exact ts (set_tokens s) rest
  term_exact (SNamed w) ts rest h are = word_exact ts rest w h are
  term_exact (SMembers xs) ts rest h are = members_exact ts rest xs h are
  term_exact (SParen s) ts rest h are =
      let open_ = after_exact (codes "(") ts h.0 h.2 are in
      let inner = front_exact s h.0 h.1 h.3 open_.1 in
      exact_then ts h.0 rest (codes "(" ∷ []) (set_tokens s ++ codes ")" ∷ []) open_ (exact_then h.0 h.1 rest (set_tokens s) (codes ")" ∷ []) inner (after_exact (codes ")") h.1 rest h.6 inner.1))
  term_exact (SPlus s t) ts rest h are = absurd h
  term_exact (SMinus s t) ts rest h are = absurd h

  front_exact : (s : SetForm) (ts rest : List SpecToken) → IsSetFront ts s rest → Tokens ts → Exact ts (set_tokens s) rest
  front_exact (SNamed w) ts rest h are = word_exact ts rest w h are
  front_exact (SMembers xs) ts rest h are = members_exact ts rest xs h are
  front_exact (SParen s) ts rest h are =
      let open_ = after_exact (codes "(") ts h.0 h.2 are in
      let inner = front_exact s h.0 h.1 h.3 open_.1 in
      exact_then ts h.0 rest (codes "(" ∷ []) (set_tokens s ++ codes ")" ∷ []) open_ (exact_then h.0 h.1 rest (set_tokens s) (codes ")" ∷ []) inner (after_exact (codes ")") h.1 rest h.6 inner.1))
  front_exact (SPlus s t) ts rest h are =
      let left = front_exact s ts h.0 h.2 are in
      let mark = after_exact (codes "+") h.0 h.1 h.3 left.1 in
      exact_then ts h.0 rest (set_tokens s) (codes "+" ∷ set_tokens t) left (exact_then h.0 h.1 rest (codes "+" ∷ []) (set_tokens t) mark (term_exact t h.1 rest h.4 mark.1))
  front_exact (SMinus s t) ts rest h are =
      let left = front_exact s ts h.0 h.2 are in
      let mark = after_exact (codes "-") h.0 h.1 h.3 left.1 in
      exact_then ts h.0 rest (set_tokens s) (codes "-" ∷ set_tokens t) left (exact_then h.0 h.1 rest (codes "-" ∷ []) (set_tokens t) mark (term_exact t h.1 rest h.4 mark.1))

pub set_exact : (s : SetForm) (ts rest : List SpecToken) → IsSet ts s rest → Tokens ts → Exact ts (set_tokens s) rest
set_exact s ts rest h are = front_exact s ts rest h.0 are

-- from behind `foreach` to its brace
abbrev pub head_tokens : List ℕ → SetForm → List (List ℕ)
head_tokens var members = codes "(" ∷ var ∷ codes "in" ∷ (set_tokens members ++ codes ")" ∷ codes "{" ∷ [])

pub head_exact : (ts rest : List SpecToken) (var : List ℕ) (s : SetForm) → IsHead ts var s rest → Tokens ts → Exact ts (head_tokens var s) rest
head_exact ts rest var s (us, vs, ws, xs, ys, a, b, c, d, e, f) are =
    let open_ = after_exact (codes "(") ts us a are in
    let named = word_exact us vs var b open_.1 in
    let mark = after_exact (codes "in") vs ws c named.1 in
    let members = set_exact s ws xs d mark.1 in
    let close = after_exact (codes ")") xs ys e members.1 in
    let brace = after_exact (codes "{") ys rest f close.1 in
    exact_then ts us rest (codes "(" ∷ []) (var ∷ codes "in" ∷ (set_tokens s ++ codes ")" ∷ codes "{" ∷ [])) open_
    (exact_then us vs rest (var ∷ []) (codes "in" ∷ (set_tokens s ++ codes ")" ∷ codes "{" ∷ [])) named
    (exact_then vs ws rest (codes "in" ∷ []) (set_tokens s ++ codes ")" ∷ codes "{" ∷ []) mark
    (exact_then ws xs rest (set_tokens s) (codes ")" ∷ codes "{" ∷ []) members
    (exact_then xs ys rest (codes ")" ∷ []) (codes "{" ∷ []) close brace))))

-- ---- lines

-- the tokens of lines, in front of others
abbrev pub laid : List (List (List ℕ)) → List SpecToken → List SpecToken
laid [] end = end
laid (ws ∷ lines) end = spelled ws (laid lines end)

abbrev pub ExactLines : List SpecToken → List (List (List ℕ)) → List SpecToken → Type 0
ExactLines ts lines rest = (ts ≡ laid lines rest) × Tokens rest

pub laid_append : (xs ys : List (List (List ℕ))) (end : List SpecToken) → laid (xs ++ ys) end ≡ laid xs (laid ys end)
laid_append [] ys end = refl
laid_append (ws ∷ lines) ys end = ap (λ ts. spelled ws ts) (laid_append lines ys end)

pub lines_then : (ts us rest : List SpecToken) (xs ys : List (List (List ℕ))) → ExactLines ts xs us → ExactLines us ys rest → ExactLines ts (xs ++ ys) rest
lines_then ts us rest xs ys a b = (a.0 ∙ ap (λ vs. laid xs vs) b.0 ∙ sym (laid_append xs ys rest), b.1)

no_lines : (ts rest : List SpecToken) → rest ≡ ts → Tokens ts → ExactLines ts [] rest
no_lines ts rest e are = (sym e, subst Tokens (sym e) are)

-- ---- rows

-- an item's tokens are its printed ones
abbrev AreExact : {X : Type 0} → (List SpecToken → X → List SpecToken → Type 0) → (X → List (List ℕ)) → Type 0
AreExact {X} Item tokens = (ts : List SpecToken) (x : X) (rest : List SpecToken) → Item ts x rest → Tokens ts → Exact ts (tokens x) rest

abbrev AreExactLines : {X : Type 0} → (List SpecToken → X → List SpecToken → Type 0) → (X → List (List (List ℕ))) → Type 0
AreExactLines {X} Item lines = (ts : List SpecToken) (x : X) (rest : List SpecToken) → Item ts x rest → Tokens ts → ExactLines ts (lines x) rest

behind_exact : {X : Type 0} (mark : List ℕ) (begins : List SpecToken → Bool) (Item : List SpecToken → X → List SpecToken → Type 0) (tokens : X → List (List ℕ)) → AreExact Item tokens
    → (xs : List X) (ts rest : List SpecToken) → Repeated begins (Behind mark Item) ts xs rest → Tokens ts → Exact ts (more_tokens mark tokens xs) rest
behind_exact mark begins Item tokens one [] ts rest h are = none_exact ts rest h.1 are
behind_exact mark begins Item tokens one (x ∷ xs) ts rest (us, b, (vs, m, i), more) are =
    let comma = after_exact mark ts vs m are in
    let item = one vs x us i comma.1 in
    exact_then ts vs rest (mark ∷ []) (tokens x ++ more_tokens mark tokens xs) comma
    (exact_then vs us rest (tokens x) (more_tokens mark tokens xs) item (behind_exact mark begins Item tokens one xs us rest more item.1))

joined_exact : {X : Type 0} (mark : List ℕ) (Item : List SpecToken → X → List SpecToken → Type 0) (tokens : X → List (List ℕ)) → AreExact Item tokens
    → AreExact (λ ts xs rest. Joined mark Item ts xs rest) (joined_tokens mark tokens)
joined_exact mark Item tokens one ts [] rest h are = absurd h
joined_exact mark Item tokens one ts (x ∷ xs) rest (us, i, more) are =
    let item = one ts x us i are in
    exact_then ts us rest (tokens x) (more_tokens mark tokens xs) item (behind_exact mark (begins_with mark) Item tokens one xs us rest more item.1)

repeated_exact : {X : Type 0} (begins : List SpecToken → Bool) (Item : List SpecToken → X → List SpecToken → Type 0) (lines : X → List (List (List ℕ))) → AreExactLines Item lines
    → AreExactLines (λ ts xs rest. Repeated begins Item ts xs rest) (λ xs. flat_map lines xs)
repeated_exact begins Item lines one ts [] rest h are = no_lines ts rest h.1 are
repeated_exact begins Item lines one ts (x ∷ xs) rest (us, b, i, more) are =
    let item = one ts x us i are in
    lines_then ts us rest (lines x) (flat_map lines xs) item (repeated_exact begins Item lines one us xs rest more item.1)

-- ---- updates

module _ {X : Type 0} (begins : List SpecToken → Bool) (IsSingle : List SpecToken → X → List SpecToken → Type 0) (tokens : X → List (List ℕ)) (one : AreExact IsSingle tokens) where
  mutual
    nest_exact : (d : Nest X) (ts rest : List SpecToken) → IsNest begins IsSingle ts d rest → Tokens ts → ExactLines ts (nest_lines tokens d) rest
    nest_exact (Single x) ts rest h are = one ts x rest h.1 are
    nest_exact (Foreach var members body) ts rest (us, vs, ws, a, b, c, d) are =
        let word_ = after_exact (codes "foreach") ts us a are in
        let head = head_exact us vs var members b word_.1 in
        let first_ = exact_then ts us vs (codes "foreach" ∷ []) (head_tokens var members) word_ head in
        let inner = nests_exact body vs ws c head.1 in
        let last_ = after_exact (codes "}") ws rest d inner.1 in
        lines_then ts vs rest (foreach_tokens var members ∷ []) (nests_lines tokens body ++ lone (codes "}")) first_
        (lines_then vs ws rest (nests_lines tokens body) (lone (codes "}")) inner last_)

    pub nests_exact : (ds : Nests X) (ts rest : List SpecToken) → AreNests begins IsSingle ts ds rest → Tokens ts → ExactLines ts (nests_lines tokens ds) rest
    nests_exact no_nest ts rest h are = no_lines ts rest h.1 are
    nests_exact (with_nest d ds) ts rest (us, b, i, more) are =
        let item = nest_exact d ts us i are in
        lines_then ts us rest (nest_lines tokens d) (nests_lines tokens ds) item (nests_exact ds us rest more item.1)

pub signature_exact : (ts rest : List SpecToken) (n : NameForm) (xs : List (List ℕ)) → IsSignature ts n xs rest → Tokens ts → Exact ts (name_tokens n ++ params_tokens xs) rest
signature_exact ts rest n xs (us, w, a, e, b) are =
    let named = name_exact ts us w a are in
    subst (λ (m : NameForm). Exact ts (name_tokens m ++ params_tokens xs) rest) (sym e)
    (exact_then ts us rest (name_tokens (name_form w)) (params_tokens xs) named (params_exact us rest xs b named.1))

-- a name's tokens, its parameters and what follows, grouped from the right
pub signed_exact : (ts us rest : List SpecToken) (n : NameForm) (xs : List (List ℕ)) (ws : List (List ℕ)) → IsSignature ts n xs us → Tokens ts → (Tokens us → Exact us ws rest) → Exact ts (name_tokens n ++ (params_tokens xs ++ ws)) rest
signed_exact ts us rest n xs ws (vs, w, a, e, b) are h =
    let named = name_exact ts vs w a are in
    let args = params_exact vs us xs b named.1 in
    subst (λ (m : NameForm). Exact ts (name_tokens m ++ (params_tokens xs ++ ws)) rest) (sym e)
    (exact_then ts vs rest (name_tokens (name_form w)) (params_tokens xs ++ ws) named (exact_then vs us rest (params_tokens xs) ws args (h args.1)))

-- a formula behind a mark
pub marked_formula : (mark : List ℕ) (ts us rest : List SpecToken) (f : Form) → after mark ts ≡ Some us → IsFormula us f rest → Tokens ts → Exact ts (mark ∷ formula_tokens f) rest
marked_formula mark ts us rest f a b are =
    let m = after_exact mark ts us a are in
    exact_then ts us rest (mark ∷ []) (formula_tokens f) m (formula_exact us rest f b m.1)

update_exact : AreExact (λ ts u rest. IsUpdate ts u rest) update_tokens
update_exact ts u rest (us, vs, a, b, c) are =
    signed_exact ts us rest u.name u.params (codes "=" ∷ formula_tokens u.body) a are (λ more. marked_formula (codes "=") us vs rest u.body b c more)

-- ---- parts of actions

piece_exact : AreExact (λ ts p rest. IsPiece ts p rest) piece_tokens
piece_exact ts (Quoted s) rest h are = first_exact text_item quoted tells_text ts rest s h are
piece_exact ts (Spelled s) rest h are = word_exact ts rest s h are

pieces_exact : (ts rest : List SpecToken) (ps : List PieceForm) → ArePieces ts ps rest → Tokens ts → Exact ts (pieces_tokens ps) rest
pieces_exact ts rest ps h are = joined_exact (codes "+") (λ us p vs. IsPiece us p vs) piece_tokens piece_exact ts ps rest h are

formulas_exact : (ts rest : List SpecToken) (fs : List Form) → AreFormulas ts fs rest → Tokens ts → Exact ts (joined_tokens (codes ",") formula_tokens fs) rest
formulas_exact ts rest [] h are = none_exact ts rest h.1 are
formulas_exact ts rest (f ∷ fs) h are = joined_exact (codes ",") (λ us g vs. IsFormula us g vs) formula_tokens (λ us g vs i b. formula_exact us vs g i b) ts (f ∷ fs) rest h.1 are

spelled_at : {X : Type 0} (spelling : X → List ℕ) (m w : List ℕ) (x : X) (o : Option X) (b : Bool) → bytes_eq w m ≡ b → m ≡ spelling x → IfSome o (λ y. w ≡ spelling y) → IfSome (if b then Some x else o) (λ y. w ≡ spelling y)
spelled_at spelling m w x o true e is later = (bytes_eq-Decides w m).0 e ∙ is
spelled_at spelling m w x o false e is later = later

-- a value of a table has one spelling
pub table_spelling : {X : Type 0} (spelling : X → List ℕ) (table : List (List ℕ × X)) → AllByRecursion (λ (e : List ℕ × X). e.0 ≡ spelling e.1) table → (w : List ℕ) → IfSome (looked_up table w) (λ x. w ≡ spelling x)
table_spelling spelling [] all w = tt
table_spelling spelling ((m, x) ∷ table) all w =
    spelled_at spelling m w x (looked_up table w) (bytes_eq w m) refl all.0 (table_spelling spelling table all.1 w)

abbrev part_mark : PartKind → List ℕ
part_mark part.Caption = codes "%t"
part_mark part.Focus = codes "%f"
part_mark part.Pre = codes "%p"
part_mark part.Message = codes "%message"
part_mark part.New = codes "%new"
part_mark part.Retain = codes "%retain"
part_mark part.Block = codes "{"

tells_part : Tells part_kind part_mark
tells_part t is = table_spelling part_mark part_marks (refl, (refl, (refl, (refl, (refl, (refl, (refl, tt))))))) t.bytes

-- a part, from its mark on
part_exact : (p : PartForm) (ts us rest : List SpecToken) → Exact ts (part_mark (kind_of p) ∷ []) us → IsPart us p rest → ExactLines ts (part_lines p) rest
part_exact (PCaption ps) ts us rest m h = exact_then ts us rest (codes "%t" ∷ []) (pieces_tokens ps) m (pieces_exact us rest ps h m.1)
part_exact (PFocus fs) ts us rest m (vs, ws, a, b, c) =
    let brace = after_exact (codes "{") us vs a m.1 in
    let inner = formulas_exact vs ws fs b brace.1 in
    exact_then ts us rest (codes "%f" ∷ []) (codes "{" ∷ (joined_tokens (codes ",") formula_tokens fs ++ codes "}" ∷ [])) m
    (exact_then us vs rest (codes "{" ∷ []) (joined_tokens (codes ",") formula_tokens fs ++ codes "}" ∷ []) brace
    (exact_then vs ws rest (joined_tokens (codes ",") formula_tokens fs) (codes "}" ∷ []) inner (after_exact (codes "}") ws rest c inner.1)))
part_exact (PPre f) ts us rest m h = exact_then ts us rest (codes "%p" ∷ []) (formula_tokens f) m (formula_exact us rest f h m.1)
part_exact (PMessage f ps) ts us rest m (vs, ws, a, b, c, d) =
    let test = formula_exact us vs f a m.1 in
    let mark = after_exact (codes "->") vs ws b test.1 in
    exact_then ts us rest (codes "%message" ∷ []) (formula_tokens f ++ codes "->" ∷ pieces_tokens ps) m
    (exact_then us vs rest (formula_tokens f) (codes "->" ∷ pieces_tokens ps) test
    (exact_then vs ws rest (codes "->" ∷ []) (pieces_tokens ps) mark (pieces_exact ws rest ps d mark.1)))
part_exact PNew ts us rest m h = exact_then ts us rest (codes "%new" ∷ []) [] m (none_exact us rest h m.1)
part_exact (PRetain f) ts us rest m h = exact_then ts us rest (codes "%retain" ∷ []) (formula_tokens f) m (formula_exact us rest f h m.1)
part_exact (PBlock updates) ts us rest m (vs, a, b) =
    let inner = nests_exact begins_update (λ xs u ys. IsUpdate xs u ys) update_tokens update_exact updates us vs a m.1 in
    lines_then ts us rest (lone (codes "{")) (nests_lines update_tokens updates ++ lone (codes "}")) m
    (lines_then us vs rest (nests_lines update_tokens updates) (lone (codes "}")) inner (after_exact (codes "}") vs rest b inner.1))

parts_exact : (before ps : List PartForm) (ts rest : List SpecToken) → AreParts before ts ps rest → Tokens ts → ExactLines ts (flat_map part_lines ps) rest
parts_exact before [] ts rest h are = no_lines ts rest h.1 are
parts_exact before (p ∷ ps) ts rest (us, vs, a, b, c, d) are =
    let mark = first_exact part_kind part_mark tells_part ts us (kind_of p) a are in
    let one = part_exact p ts us vs mark c in
    lines_then ts vs rest (part_lines p) (flat_map part_lines ps) one (parts_exact (before ++ p ∷ []) ps vs rest d one.1)

-- ---- actions, edges and the end

action_exact : AreExactLines (λ ts a rest. IsAction ts a rest) action_lines
action_exact ts x rest (us, vs, ws, xs, ys, a, b, c, d, e, f) are =
    let mark = after_exact (codes "%action") ts us a are in
    let named = word_exact us vs x.name b mark.1 in
    let args = params_exact vs ws x.params c named.1 in
    let brace = after_exact (codes "{") ws xs d args.1 in
    let first_ = exact_then ts us xs (codes "%action" ∷ []) (x.name ∷ (params_tokens x.params ++ codes "{" ∷ [])) mark
    (exact_then us vs xs (x.name ∷ []) (params_tokens x.params ++ codes "{" ∷ []) named
    (exact_then vs ws xs (params_tokens x.params) (codes "{" ∷ []) args brace)) in
    let inner = parts_exact [] x.parts xs ys e brace.1 in
    lines_then ts xs rest (action_tokens x.name x.params ∷ []) (flat_map part_lines x.parts ++ lone (codes "}")) first_
    (lines_then xs ys rest (flat_map part_lines x.parts) (lone (codes "}")) inner (after_exact (codes "}") ys rest f inner.1))

pub actions_exact : (ts rest : List SpecToken) (xs : List ActionForm) → Repeated (begins_with (codes "%action")) IsAction ts xs rest → Tokens ts → ExactLines ts (flat_map action_lines xs) rest
actions_exact ts rest xs h are = repeated_exact (begins_with (codes "%action")) (λ us a vs. IsAction us a vs) action_lines action_exact ts xs rest h are

edge_exact : AreExactLines (λ ts e rest. IsEdge ts e rest) edge_lines
edge_exact ts x rest (us, vs, ws, a, b, c, d) are =
    let source = first_exact word_item itself tells_word ts us x.from a are in
    let named = word_exact us vs x.action b source.1 in
    let args = params_exact vs ws x.arguments c named.1 in
    let target = first_exact word_item itself tells_word ws rest x.to d args.1 in
    exact_then ts us rest (x.from ∷ []) (x.action ∷ (params_tokens x.arguments ++ x.to ∷ [])) source
    (exact_then us vs rest (x.action ∷ []) (params_tokens x.arguments ++ x.to ∷ []) named
    (exact_then vs ws rest (params_tokens x.arguments) (x.to ∷ []) args target))

pub edges_exact : (begins : List SpecToken → Bool) (ts rest : List SpecToken) (xs : List EdgeForm) → Repeated begins IsEdge ts xs rest → Tokens ts → ExactLines ts (flat_map edge_lines xs) rest
edges_exact begins ts rest xs h are = repeated_exact begins (λ us e vs. IsEdge us e vs) edge_lines edge_exact ts xs rest h are

words_lines : (ts : List SpecToken) (ws : List (List ℕ)) → Exact ts (words_tokens ws) [] → ExactLines ts (tail_words ws) []
words_lines ts [] h = h
words_lines ts (w ∷ ws) h = h

pub tail_exact : (ts : List SpecToken) (tail : Option (List (List ℕ))) → IsTail ts tail → Tokens ts → ExactLines ts (tail_lines tail) []
tail_exact ts None h are = (h.1, tt)
tail_exact ts (Some words) (us, a, b) are =
    let mark = after_exact (codes "%%") ts us a are in
    lines_then ts us [] (lone (codes "%%")) (tail_words words) mark (words_lines us words (optional_exact word_item tells_word us [] words b mark.1))
