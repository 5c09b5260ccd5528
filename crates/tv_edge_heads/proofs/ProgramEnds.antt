-- What stands behind the declarations and the actions of a program is the end of its tokens.
use Rattle.std.proofs.Common.{ℕ, List, [], ◌∷◌, ◌++◌, Bool, Option, Some, None, sym, subst, inl, inr}
use Rattle.std.specs.Prelude.{codes}
use Rattle.tv_lex.specs.Token.{SpecToken}
use Rattle.tv_phrases.specs.Tokens.{text_item, word_item}
use Rattle.tv_tree.specs.Forms.{NameForm, SetForm, SNamed, SMembers, SParen, SPlus, SMinus, Form, Nest}
use Rattle.tv_tree.specs.Forms.{Single, Foreach, Nests, no_nest, with_nest, DSet, DPred, DRule}
use Rattle.tv_tree.specs.Forms.{PieceForm, Quoted, Spelled, PartForm, PCaption, PFocus, PPre}
use Rattle.tv_tree.specs.Forms.{PMessage, PNew, PRetain, PBlock, EdgeForm, ProgramForm}
use Rattle.tv_tree.specs.declared.trees.PropWord.{PropWord}
use Rattle.tv_formula.specs.Grammar.{IsFormula}
use Rattle.tv_parse.specs.Kinds.{decl_kind, part_kind, prop_item, begins_decl, begins_update, kind_of}
use Rattle.tv_parse.specs.Grammar.{IsSetTerm, IsSetFront, IsHead, IsNest, AreNests, IsSignature}
use Rattle.tv_parse.specs.Grammar.{begins_prop, IsProp, AreProps, IsOptional, IsPredEnd, pred_kind, IsDecl}
use Rattle.tv_parse.specs.Grammar.{IsUpdate, IsPiece, ArePieces, AreFormulas, IsPart, AreParts, IsAction}
use Rattle.tv_parse.specs.Grammar.{IsEdge}
use Rattle.tv_phrases.specs.Repeated.{begins_with, Repeated, Behind, Joined}
use Rattle.tv_edge_heads.specs.EdgePlaces.{StandBehindActions}
use Rattle.tv_edge_heads.proofs.Ends.{Ends, ends_whole, after_ends, first_ends, params_end, members_end}
use Rattle.tv_edge_heads.proofs.Ends.{name_ends}
use Rattle.tv_edge_heads.proofs.FormulaEnds.{word_ends, formula_ends}

-- ---- items in a row

-- what stands behind an item is the end of the tokens, where the item is
abbrev pub LeavesEnd : (whole : List SpecToken) → {X : Type 0} → (List SpecToken → X → List SpecToken → Type 0) → Type 0
LeavesEnd whole {X} Item = (ts : List SpecToken) (x : X) (rest : List SpecToken) → Item ts x rest → Ends whole ts
    → Ends whole rest

repeated_end : (whole : List SpecToken) {X : Type 0} (begins : List SpecToken → Bool)
    (Item : List SpecToken → X → List SpecToken → Type 0) → LeavesEnd whole Item
    → LeavesEnd whole (λ ts xs rest. Repeated begins Item ts xs rest)
repeated_end whole begins Item one ts [] rest h at = subst (Ends whole) (sym h.1) at
repeated_end whole begins Item one ts (x ∷ xs) rest h at =
    repeated_end whole begins Item one h.0 xs rest h.3 (one ts x h.0 h.2 at)

behind_end : (whole : List SpecToken) {X : Type 0} (mark : List ℕ)
    (Item : List SpecToken → X → List SpecToken → Type 0) → LeavesEnd whole Item
    → LeavesEnd whole (λ ts x rest. Behind mark Item ts x rest)
behind_end whole mark Item one ts x rest h at = one h.0 x rest h.2 (after_ends whole mark ts h.0 h.1 at)

joined_end : (whole : List SpecToken) {X : Type 0} (mark : List ℕ)
    (Item : List SpecToken → X → List SpecToken → Type 0) → LeavesEnd whole Item
    → LeavesEnd whole (λ ts xs rest. Joined mark Item ts xs rest)
joined_end whole mark Item one ts [] rest h at = absurd h
joined_end whole mark Item one ts (x ∷ xs) rest h at =
    repeated_end whole (begins_with mark) (λ us y vs. Behind mark Item us y vs) (behind_end whole mark Item one) h.0 xs
    rest h.2 (one ts x h.0 h.1 at)

-- ---- sets

mutual
  term_ends : (whole : List SpecToken) (s : SetForm) (ts rest : List SpecToken) → IsSetTerm ts s rest → Ends whole ts → Ends whole rest
  term_ends whole (SNamed w) ts rest h at = word_ends whole ts rest w h at
  term_ends whole (SMembers xs) ts rest h at = members_end whole ts rest xs h at
  term_ends whole (SParen s) ts rest h at =
      after_ends whole (codes ")") h.1 rest h.6 (front_ends whole s h.0 h.1 h.3 (after_ends whole (codes "(") ts h.0 h.2 at))
  term_ends whole (SPlus s t) ts rest h at = absurd h
  term_ends whole (SMinus s t) ts rest h at = absurd h

  front_ends : (whole : List SpecToken) (s : SetForm) (ts rest : List SpecToken) → IsSetFront ts s rest → Ends whole ts → Ends whole rest
  front_ends whole (SNamed w) ts rest h at = word_ends whole ts rest w h at
  front_ends whole (SMembers xs) ts rest h at = members_end whole ts rest xs h at
  front_ends whole (SParen s) ts rest h at =
      after_ends whole (codes ")") h.1 rest h.6 (front_ends whole s h.0 h.1 h.3 (after_ends whole (codes "(") ts h.0 h.2 at))
  front_ends whole (SPlus s t) ts rest h at =
      term_ends whole t h.1 rest h.4 (after_ends whole (codes "+") h.0 h.1 h.3 (front_ends whole s ts h.0 h.2 at))
  front_ends whole (SMinus s t) ts rest h at =
      term_ends whole t h.1 rest h.4 (after_ends whole (codes "-") h.0 h.1 h.3 (front_ends whole s ts h.0 h.2 at))

pub head_ends : (whole ts rest : List SpecToken) (var : List ℕ) (s : SetForm) → IsHead ts var s rest → Ends whole ts → Ends whole rest
head_ends whole ts rest var s (us, vs, ws, xs, ys, a, b, c, d, e, f) at =
    let named = word_ends whole us vs var b (after_ends whole (codes "(") ts us a at) in
    let members = front_ends whole s ws xs d.0 (after_ends whole (codes "in") vs ws c named) in
    after_ends whole (codes "{") ys rest f (after_ends whole (codes ")") xs ys e members)

-- ---- what stands by itself, or in a foreach

module _ (whole : List SpecToken) {X : Type 0} (begins : List SpecToken → Bool)
    (IsSingle : List SpecToken → X → List SpecToken → Type 0) (one : LeavesEnd whole IsSingle) where
  mutual
    nest_ends : (d : Nest X) (ts rest : List SpecToken) → IsNest begins IsSingle ts d rest → Ends whole ts → Ends whole rest
    nest_ends (Single x) ts rest h at = one ts x rest h.1 at
    nest_ends (Foreach var members body) ts rest h at =
        let head = head_ends whole h.0 h.1 var members h.4 (after_ends whole (codes "foreach") ts h.0 h.3 at) in
        after_ends whole (codes "}") h.2 rest h.6 (nests_end body h.1 h.2 h.5 head)

    nests_end : (ds : Nests X) (ts rest : List SpecToken) → AreNests begins IsSingle ts ds rest → Ends whole ts → Ends whole rest
    nests_end no_nest ts rest h at = subst (Ends whole) (sym h.1) at
    nests_end (with_nest d ds) ts rest h at = nests_end ds h.0 rest h.3 (nest_ends d ts h.0 h.2 at)

-- ---- declarations and updates

signature_ends : (whole ts rest : List SpecToken) (n : NameForm) (xs : List (List ℕ)) → IsSignature ts n xs rest
    → Ends whole ts → Ends whole rest
signature_ends whole ts rest n xs h at = params_end whole h.0 rest xs h.4 (name_ends whole ts h.0 h.1 h.2 at)

prop_ends : (whole : List SpecToken) → LeavesEnd whole IsProp
prop_ends whole ts p rest h at = first_ends whole prop_item ts rest p h at

props_end : (whole ts rest : List SpecToken) (ps : List PropWord) → AreProps ts ps rest → Ends whole ts → Ends whole rest
props_end whole ts rest ps h at =
    repeated_end whole begins_prop (λ us p vs. IsProp us p vs) (prop_ends whole) ts ps rest h at

pred_ends : (whole ts rest : List SpecToken) (body : Option Form) (ps : List PropWord) → IsPredEnd ts body ps rest
    → Ends whole ts → Ends whole rest
pred_ends whole ts rest None ps h at = props_end whole ts rest ps h at
pred_ends whole ts rest (Some f) ps h at =
    props_end whole h.1 rest ps h.4 (formula_ends whole h.0 h.1 f h.3 (after_ends whole (codes "=") ts h.0 h.2 at))

optional_ends : (whole : List SpecToken) (mark : List ℕ) (ts us : List SpecToken) → IsOptional mark ts us
    → Ends whole ts → Ends whole us
optional_ends whole mark ts us (inl h) at = after_ends whole mark ts us h at
optional_ends whole mark ts us (inr h) at = subst (Ends whole) (sym h.1) at

pub decl_ends : (whole : List SpecToken) → LeavesEnd whole (λ ts d rest. IsDecl ts d rest)
decl_ends whole ts (DSet w s) rest (us, vs, ws, a, b, c, d) at =
    let named = word_ends whole us vs w b (first_ends whole decl_kind ts us _ a at) in
    front_ends whole s ws rest d.0 (optional_ends whole (codes "=") vs ws c named)
decl_ends whole ts (DPred p) rest (us, vs, a, b, c) at =
    let named = signature_ends whole us vs p.name p.params b (first_ends whole decl_kind ts us (pred_kind p.body) a at) in
    pred_ends whole vs rest p.body p.props c named
decl_ends whole ts (DRule f g) rest (us, vs, ws, a, b, c, d) at =
    let body = formula_ends whole us vs f b (first_ends whole decl_kind ts us _ a at) in
    formula_ends whole ws rest g d (after_ends whole (codes "==>") vs ws c body)

update_ends : (whole : List SpecToken) → LeavesEnd whole (λ ts u rest. IsUpdate ts u rest)
update_ends whole ts u rest (us, vs, a, b, c) at =
    let named = signature_ends whole ts us u.name u.params a at in
    formula_ends whole vs rest u.body c (after_ends whole (codes "=") us vs b named)

-- ---- actions

piece_ends : (whole : List SpecToken) → LeavesEnd whole (λ ts p rest. IsPiece ts p rest)
piece_ends whole ts (Quoted s) rest h at = first_ends whole text_item ts rest s h at
piece_ends whole ts (Spelled s) rest h at = word_ends whole ts rest s h at

pieces_end : (whole ts rest : List SpecToken) (ps : List PieceForm) → ArePieces ts ps rest → Ends whole ts → Ends whole rest
pieces_end whole ts rest ps h at = joined_end whole (codes "+") (λ us p vs. IsPiece us p vs) (piece_ends whole) ts ps rest h at

formulas_end : (whole ts rest : List SpecToken) (fs : List Form) → AreFormulas ts fs rest → Ends whole ts → Ends whole rest
formulas_end whole ts rest [] h at = subst (Ends whole) (sym h.1) at
formulas_end whole ts rest (f ∷ fs) h at =
    joined_end whole (codes ",") (λ us g vs. IsFormula us g vs) (λ us g vs i b. formula_ends whole us vs g i b) ts (f ∷ fs) rest h.1 at

part_ends : (whole : List SpecToken) → LeavesEnd whole (λ ts p rest. IsPart ts p rest)
part_ends whole ts (PCaption ps) rest h at = pieces_end whole ts rest ps h at
part_ends whole ts (PFocus fs) rest (us, vs, a, b, c) at =
    after_ends whole (codes "}") vs rest c (formulas_end whole us vs fs b (after_ends whole (codes "{") ts us a at))
part_ends whole ts (PPre f) rest h at = formula_ends whole ts rest f h at
part_ends whole ts (PMessage f ps) rest (us, vs, a, b, c, d) at =
    pieces_end whole vs rest ps d (after_ends whole (codes "->") us vs b (formula_ends whole ts us f a at))
part_ends whole ts PNew rest h at = subst (Ends whole) (sym h) at
part_ends whole ts (PRetain f) rest h at = formula_ends whole ts rest f h at
part_ends whole ts (PBlock us) rest (vs, a, b) at =
    after_ends whole (codes "}") vs rest b
    (nests_end whole begins_update (λ ws u ys. IsUpdate ws u ys) (update_ends whole) us ts vs a at)

parts_end : (whole : List SpecToken) (before ps : List PartForm) (ts rest : List SpecToken) → AreParts before ts ps rest
    → Ends whole ts → Ends whole rest
parts_end whole before [] ts rest h at = subst (Ends whole) (sym h.1) at
parts_end whole before (p ∷ ps) ts rest (us, vs, a, b, c, d) at =
    parts_end whole (before ++ p ∷ []) ps vs rest d (part_ends whole us p vs c (first_ends whole part_kind ts us (kind_of p) a at))

action_ends : (whole : List SpecToken) → LeavesEnd whole (λ ts a rest. IsAction ts a rest)
action_ends whole ts x rest (us, vs, ws, xs, ys, a, b, c, d, e, f) at =
    let named = word_ends whole us vs x.name b (after_ends whole (codes "%action") ts us a at) in
    let args = params_end whole vs ws x.params c named in
    let inner = parts_end whole [] x.parts xs ys e (after_ends whole (codes "{") ws xs d args) in
    after_ends whole (codes "}") ys rest f inner

pub behind_actions_end : (ts rest : List SpecToken) (t : ProgramForm) → StandBehindActions ts t rest → Ends ts rest
behind_actions_end ts rest t (us, vs, ws, a, b, c, d) =
    let decls = nests_end ts begins_decl (λ ps x qs. IsDecl ps x qs) (decl_ends ts) t.decls ts us a (ends_whole ts) in
    let actions = repeated_end ts (begins_with (codes "%action")) (λ ps x qs. IsAction ps x qs) (action_ends ts) vs t.actions ws c
    (after_ends ts (codes "%%") us vs b decls) in
    after_ends ts (codes "%%") ws rest d actions

pub edge_ends : (ts rest : List SpecToken) (e : EdgeForm) → IsEdge ts e rest → Ends ts rest
edge_ends ts rest e (us, vs, ws, a, b, c, d) =
    let named = word_ends ts us vs e.action b (first_ends ts word_item ts us e.from a (ends_whole ts)) in
    first_ends ts word_item ws rest e.to d (params_end ts vs ws e.arguments c named)
