-- The words of the grammar's programs are spelled as tokens spell them, and each kind of part stands once in an action.
use Rattle.std.proofs.Common.{◌≡◌, ℕ, ◌+◌, ◌≤◌, List, [], ◌∷◌, ◌++◌, Bool, true, false, Option, Some, None}
use Rattle.std.proofs.Common.{refl, sym, subst, ◌⊎◌, inl, inr, arith}
use lib.Seq.{append_snoc}
use Rattle.std.specs.Prelude.{codes, IsTrue, ◌||◌, not, All, ⊤}
use Rattle.std.proofs.lemmas.Bool.{or_cases, not-true}
use Rattle.std.proofs.lemmas.List.Elements.{All-nil, All-cons}
use Rattle.tv_lex.specs.Token.{SpecToken}
use Rattle.tv_model.specs.Spelling.{IsIdentifier, IsWord, IsText}
use Rattle.tv_phrases.specs.Tokens.{word_item, text_item}
use Rattle.tv_tree.specs.Forms.{NameForm, SetForm, SNamed, SMembers, SParen, SPlus, SMinus, Form, Nest}
use Rattle.tv_tree.specs.Forms.{Single, Foreach, Nests, no_nest, with_nest, DSet, DPred, DRule, PieceForm}
use Rattle.tv_tree.specs.Forms.{Quoted, Spelled, PartForm, PCaption, PFocus, PPre, PMessage, PNew, PRetain}
use Rattle.tv_tree.specs.Forms.{PBlock, ProgramForm}
use Rattle.tv_tree.specs.Spelled.{AreIdentifiers, IsSpelledName, IsSpelledSet, IsSpelledForm, IsSpelledBody}
use Rattle.tv_tree.specs.Spelled.{IsSpelledPred, IsSpelledNest, AreSpelledNests, IsSpelledDecl}
use Rattle.tv_tree.specs.Spelled.{IsSpelledPiece, IsSpelledUpdate, IsSpelledPart, one_of_kind, count_of_kind}
use Rattle.tv_tree.specs.Spelled.{HasPartsOnce, IsSpelledAction, IsSpelledEdge, IsSpelledTail, IsSpelled}
use Rattle.tv_tree.specs.Spelled as kinds
use Rattle.tv_tree.specs.declared.trees.PropWord.{PropWord}
use Rattle.tv_formula.specs.Grammar.{IsFormula}
use Rattle.tv_parse.specs.declared.kinds.PartKind.{PartKind}
use Rattle.tv_parse.specs.declared.kinds.PartKind.TheVariants as part
use Rattle.tv_parse.specs.Kinds.{decl_kind, part_kind, prop_item, begins_decl, begins_update, kind_of}
use Rattle.tv_parse.specs.Kinds.{same_kind, has_kind, may_follow}
use Rattle.tv_parse.specs.Grammar.{IsSetTerm, IsSetFront, IsSet, IsHead, IsNest, AreNests, IsSignature}
use Rattle.tv_parse.specs.Grammar.{begins_prop, IsProp, AreProps, IsOptional, IsPredEnd, pred_kind, IsDecl}
use Rattle.tv_parse.specs.Grammar.{IsUpdate, IsPiece, ArePieces, AreFormulas, IsPart, AreParts, IsAction}
use Rattle.tv_parse.specs.Grammar.{IsEdge, begins_edge, IsTail, IsProgram}
use Rattle.tv_phrases.specs.Repeated.{begins_with, Repeated, Behind, Joined}
use Rattle.tv_phrases.proofs.LeftTokens.{Tokens, after_leaves}
use Rattle.tv_parse.proofs.SpelledPhrases.{says_word, says_text, says_nothing}
use Rattle.tv_parse.proofs.SpelledPhrases.{first_leaves, optional_leaves, params_leave, members_leave}
use Rattle.tv_parse.proofs.SpelledPhrases.{name_leaves}
use Rattle.tv_parse.proofs.SpelledForms.{word_leaves, formula_spelled}

-- ---- items in a row

-- an item's value is such, and tokens are left
abbrev Leaves : {X : Type 0} → (List SpecToken → X → List SpecToken → Type 0) → (X → Type 0) → Type 0
Leaves {X} Item P = (ts : List SpecToken) (x : X) (rest : List SpecToken) → Item ts x rest → Tokens ts → P x × Tokens rest

repeated_spelled : {X : Type 0} (begins : List SpecToken → Bool) (Item : List SpecToken → X → List SpecToken → Type 0) (P : X → Type 0) → Leaves Item P → Leaves (λ ts xs rest. Repeated begins Item ts xs rest) (All P)
repeated_spelled begins Item P one ts [] rest h are = (All-nil P, subst Tokens (sym h.1) are)
repeated_spelled begins Item P one ts (x ∷ xs) rest h are =
    let a = one ts x h.0 h.2 are in
    let b = repeated_spelled begins Item P one h.0 xs rest h.3 a.1 in
    (All-cons P x xs a.0 b.0, b.1)

behind_spelled : {X : Type 0} (mark : List ℕ) (Item : List SpecToken → X → List SpecToken → Type 0) (P : X → Type 0) → Leaves Item P → Leaves (λ ts x rest. Behind mark Item ts x rest) P
behind_spelled mark Item P one ts x rest h are = one h.0 x rest h.2 (after_leaves mark ts h.0 h.1 are)

joined_spelled : {X : Type 0} (mark : List ℕ) (Item : List SpecToken → X → List SpecToken → Type 0) (P : X → Type 0) → Leaves Item P → Leaves (λ ts xs rest. Joined mark Item ts xs rest) (All P)
joined_spelled mark Item P one ts [] rest h are = absurd h
joined_spelled mark Item P one ts (x ∷ xs) rest h are =
    let a = one ts x h.0 h.1 are in
    let b = repeated_spelled (begins_with mark) (λ us y vs. Behind mark Item us y vs) P (behind_spelled mark Item P one) h.0 xs rest h.2 a.1 in
    (All-cons P x xs a.0 b.0, b.1)

-- ---- sets

mutual
  term_spelled : (s : SetForm) (ts rest : List SpecToken) → IsSetTerm ts s rest → Tokens ts → IsSpelledSet s × Tokens rest
  term_spelled (SNamed w) ts rest h are = word_leaves ts rest w h are
  term_spelled (SMembers xs) ts rest h are = members_leave ts rest xs h are
  term_spelled (SParen s) ts rest h are =
      let a = front_spelled s h.0 h.1 h.3 (after_leaves (codes "(") ts h.0 h.2 are) in
      (a.0, after_leaves (codes ")") h.1 rest h.6 a.1)
  term_spelled (SPlus s t) ts rest h are = absurd h
  term_spelled (SMinus s t) ts rest h are = absurd h

  front_spelled : (s : SetForm) (ts rest : List SpecToken) → IsSetFront ts s rest → Tokens ts → IsSpelledSet s × Tokens rest
  front_spelled (SNamed w) ts rest h are = word_leaves ts rest w h are
  front_spelled (SMembers xs) ts rest h are = members_leave ts rest xs h are
  front_spelled (SParen s) ts rest h are =
      let a = front_spelled s h.0 h.1 h.3 (after_leaves (codes "(") ts h.0 h.2 are) in
      (a.0, after_leaves (codes ")") h.1 rest h.6 a.1)
  front_spelled (SPlus s t) ts rest h are =
      let a = front_spelled s ts h.0 h.2 are in
      let b = term_spelled t h.1 rest h.4 (after_leaves (codes "+") h.0 h.1 h.3 a.1) in
      ((a.0, b.0), b.1)
  front_spelled (SMinus s t) ts rest h are =
      let a = front_spelled s ts h.0 h.2 are in
      let b = term_spelled t h.1 rest h.4 (after_leaves (codes "-") h.0 h.1 h.3 a.1) in
      ((a.0, b.0), b.1)

set_spelled : (s : SetForm) (ts rest : List SpecToken) → IsSet ts s rest → Tokens ts → IsSpelledSet s × Tokens rest
set_spelled s ts rest h are = front_spelled s ts rest h.0 are

head_spelled : (ts rest : List SpecToken) (var : List ℕ) (s : SetForm) → IsHead ts var s rest → Tokens ts → (IsIdentifier var × IsSpelledSet s) × Tokens rest
head_spelled ts rest var s (us, vs, ws, xs, ys, a, b, c, d, e, f) are =
    let named = word_leaves us vs var b (after_leaves (codes "(") ts us a are) in
    let members = set_spelled s ws xs d (after_leaves (codes "in") vs ws c named.1) in
    ((named.0, members.0), after_leaves (codes "{") ys rest f (after_leaves (codes ")") xs ys e members.1))

-- ---- what stands by itself, or in a foreach

module _ {X : Type 0} (begins : List SpecToken → Bool) (IsSingle : List SpecToken → X → List SpecToken → Type 0) (P : X → Type 0) (one : Leaves IsSingle P) where
  mutual
    nest_spelled : (d : Nest X) (ts rest : List SpecToken) → IsNest begins IsSingle ts d rest → Tokens ts → IsSpelledNest P d × Tokens rest
    nest_spelled (Single x) ts rest h are = one ts x rest h.1 are
    nest_spelled (Foreach var members body) ts rest h are =
        let head = head_spelled h.0 h.1 var members h.4 (after_leaves (codes "foreach") ts h.0 h.3 are) in
        let inner = nests_spelled body h.1 h.2 h.5 head.1 in
        ((head.0.0, head.0.1, inner.0), after_leaves (codes "}") h.2 rest h.6 inner.1)

    nests_spelled : (ds : Nests X) (ts rest : List SpecToken) → AreNests begins IsSingle ts ds rest → Tokens ts → AreSpelledNests P ds × Tokens rest
    nests_spelled no_nest ts rest h are = (tt, subst Tokens (sym h.1) are)
    nests_spelled (with_nest d ds) ts rest h are =
        let a = nest_spelled d ts h.0 h.2 are in
        let b = nests_spelled ds h.0 rest h.3 a.1 in
        ((a.0, b.0), b.1)

-- ---- declarations and updates

signature_spelled : (ts rest : List SpecToken) (n : NameForm) (xs : List (List ℕ)) → IsSignature ts n xs rest → Tokens ts → (IsSpelledName n × AreIdentifiers xs) × Tokens rest
signature_spelled ts rest n xs h are =
    let a = name_leaves ts h.0 h.1 h.2 are in
    let b = params_leave h.0 rest xs h.4 a.1 in
    ((subst IsSpelledName (sym h.3) a.0, b.0), b.1)

prop_spelled : Leaves IsProp (λ p. ⊤)
prop_spelled ts p rest h are = first_leaves prop_item (λ q. ⊤) (says_nothing prop_item) ts rest p h are

props_spelled : (ts rest : List SpecToken) (ps : List PropWord) → AreProps ts ps rest → Tokens ts → Tokens rest
props_spelled ts rest ps h are = (repeated_spelled begins_prop (λ us p vs. IsProp us p vs) (λ p. ⊤) prop_spelled ts ps rest h are).1

end_spelled : (ts rest : List SpecToken) (body : Option Form) (ps : List PropWord) → IsPredEnd ts body ps rest → Tokens ts → IsSpelledBody body × Tokens rest
end_spelled ts rest None ps h are = (tt, props_spelled ts rest ps h are)
end_spelled ts rest (Some f) ps h are =
    let a = formula_spelled h.0 h.1 f h.3 (after_leaves (codes "=") ts h.0 h.2 are) in
    (a.0, props_spelled h.1 rest ps h.4 a.1)

optional_mark : (mark : List ℕ) (ts us : List SpecToken) → IsOptional mark ts us → Tokens ts → Tokens us
optional_mark mark ts us (inl h) are = after_leaves mark ts us h are
optional_mark mark ts us (inr h) are = subst Tokens (sym h.1) are

decl_spelled : Leaves (λ ts d rest. IsDecl ts d rest) IsSpelledDecl
decl_spelled ts (DSet w s) rest (us, vs, ws, a, b, c, d) are =
    let mark = first_leaves decl_kind (λ k. ⊤) (says_nothing decl_kind) ts us _ a are in
    let named = word_leaves us vs w b mark.1 in
    let members = set_spelled s ws rest d (optional_mark (codes "=") vs ws c named.1) in
    ((named.0, members.0), members.1)
decl_spelled ts (DPred p) rest (us, vs, a, b, c) are =
    let mark = first_leaves decl_kind (λ k. ⊤) (says_nothing decl_kind) ts us (pred_kind p.body) a are in
    let named = signature_spelled us vs p.name p.params b mark.1 in
    let body = end_spelled vs rest p.body p.props c named.1 in
    (record { name = named.0.0; params = named.0.1; body = body.0 }, body.1)
decl_spelled ts (DRule f g) rest (us, vs, ws, a, b, c, d) are =
    let mark = first_leaves decl_kind (λ k. ⊤) (says_nothing decl_kind) ts us _ a are in
    let body = formula_spelled us vs f b mark.1 in
    let head = formula_spelled ws rest g d (after_leaves (codes "==>") vs ws c body.1) in
    ((body.0, head.0), head.1)

update_spelled : Leaves (λ ts u rest. IsUpdate ts u rest) IsSpelledUpdate
update_spelled ts u rest (us, vs, a, b, c) are =
    let named = signature_spelled ts us u.name u.params a are in
    let body = formula_spelled vs rest u.body c (after_leaves (codes "=") us vs b named.1) in
    (record { name = named.0.0; params = named.0.1; body = body.0 }, body.1)

-- ---- actions

piece_spelled : Leaves (λ ts p rest. IsPiece ts p rest) IsSpelledPiece
piece_spelled ts (Quoted s) rest h are = first_leaves text_item IsText says_text ts rest s h are
piece_spelled ts (Spelled s) rest h are = word_leaves ts rest s h are

pieces_spelled : (ts rest : List SpecToken) (ps : List PieceForm) → ArePieces ts ps rest → Tokens ts → All IsSpelledPiece ps × Tokens rest
pieces_spelled ts rest ps h are = joined_spelled (codes "+") (λ us p vs. IsPiece us p vs) IsSpelledPiece piece_spelled ts ps rest h are

formulas_spelled : (ts rest : List SpecToken) (fs : List Form) → AreFormulas ts fs rest → Tokens ts → All IsSpelledForm fs × Tokens rest
formulas_spelled ts rest [] h are = (All-nil IsSpelledForm, subst Tokens (sym h.1) are)
formulas_spelled ts rest (f ∷ fs) h are = joined_spelled (codes ",") (λ us g vs. IsFormula us g vs) IsSpelledForm (λ us g vs i b. formula_spelled us vs g i b) ts (f ∷ fs) rest h.1 are

part_spelled : Leaves (λ ts p rest. IsPart ts p rest) IsSpelledPart
part_spelled ts (PCaption ps) rest h are = pieces_spelled ts rest ps h are
part_spelled ts (PFocus fs) rest (us, vs, a, b, c) are =
    let inner = formulas_spelled us vs fs b (after_leaves (codes "{") ts us a are) in
    (inner.0, after_leaves (codes "}") vs rest c inner.1)
part_spelled ts (PPre f) rest h are = formula_spelled ts rest f h are
part_spelled ts (PMessage f ps) rest (us, vs, a, b, c, d) are =
    let cond_ = formula_spelled ts us f a are in
    let text = pieces_spelled vs rest ps d (after_leaves (codes "->") us vs b cond_.1) in
    ((cond_.0, text.0), text.1)
part_spelled ts PNew rest h are = (tt, subst Tokens (sym h) are)
part_spelled ts (PRetain f) rest h are = formula_spelled ts rest f h are
part_spelled ts (PBlock us) rest (vs, a, b) are =
    let inner = nests_spelled begins_update (λ ws u ys. IsUpdate ws u ys) IsSpelledUpdate update_spelled us ts vs a are in
    (inner.0, after_leaves (codes "}") vs rest b inner.1)

parts_spelled : (before ps : List PartForm) (ts rest : List SpecToken) → AreParts before ts ps rest → Tokens ts → All IsSpelledPart ps × Tokens rest
parts_spelled before [] ts rest h are = (All-nil IsSpelledPart, subst Tokens (sym h.1) are)
parts_spelled before (p ∷ ps) ts rest (us, vs, a, b, c, d) are =
    let mark = first_leaves part_kind (λ k. ⊤) (says_nothing part_kind) ts us (kind_of p) a are in
    let one = part_spelled us p vs c mark.1 in
    let more = parts_spelled (before ++ p ∷ []) ps vs rest d one.1 in
    (All-cons IsSpelledPart p ps one.0 more.0, more.1)

-- ---- each kind of part once

-- the kind of a part other than a message, as the first token tells it
abbrev told : kinds.PartKind → PartKind
told kinds.CaptionPart = part.Caption
told kinds.FocusPart = part.Focus
told kinds.PrePart = part.Pre
told kinds.NewPart = part.New
told kinds.RetainPart = part.Retain
told kinds.BlockPart = part.Block

-- one such part counts if it is of the kind, and is then no message
one_if : (k : kinds.PartKind) (p : PartForm) → (one_of_kind k p ≡ 0) ⊎ ((one_of_kind k p ≡ 1) × (kind_of p ≡ told k))
one_if kinds.CaptionPart (PCaption ps) = inr (refl, refl)
one_if kinds.FocusPart (PFocus fs) = inr (refl, refl)
one_if kinds.PrePart (PPre f) = inr (refl, refl)
one_if kinds.NewPart PNew = inr (refl, refl)
one_if kinds.RetainPart (PRetain f) = inr (refl, refl)
one_if kinds.BlockPart (PBlock us) = inr (refl, refl)
one_if _ _ = inl refl

no_message : (k : kinds.PartKind) → same_kind part.Message (told k) ≡ false
no_message kinds.CaptionPart = refl
no_message kinds.FocusPart = refl
no_message kinds.PrePart = refl
no_message kinds.NewPart = refl
no_message kinds.RetainPart = refl
no_message kinds.BlockPart = refl

same_as_itself : (k : kinds.PartKind) → same_kind (told k) (told k) ≡ true
same_as_itself kinds.CaptionPart = refl
same_as_itself kinds.FocusPart = refl
same_as_itself kinds.PrePart = refl
same_as_itself kinds.NewPart = refl
same_as_itself kinds.RetainPart = refl
same_as_itself kinds.BlockPart = refl

or_left : (a b : Bool) → (a || b) ≡ false → a ≡ false
or_left false b e = refl
or_left true b e = absurd cc

or_right : (a b : Bool) → (a || b) ≡ false → b ≡ false
or_right false b e = e
or_right true b e = absurd cc

none_counted : (k : kinds.PartKind) (ps : List PartForm) → has_kind (told k) ps ≡ false → count_of_kind k ps ≡ 0
unfolding has_kind
none_counted k [] none = refl
none_counted k (p ∷ ps) none =
    let rest : count_of_kind k ps ≡ 0 = none_counted k ps (or_right (same_kind (told k) (kind_of p)) (has_kind (told k) ps) none) in
    elim (one_if k p) [
      | inl zero_ ↦ omega arith
      | inr one ↦
          let unlike : same_kind (told k) (kind_of p) ≡ false = or_left (same_kind (told k) (kind_of p)) (has_kind (told k) ps) none in
          let like : same_kind (told k) (kind_of p) ≡ true = subst (λ (q : PartKind). same_kind (told k) q ≡ true) (sym one.1) (same_as_itself k) in
          absurd cc
    ]

count_append : (k : kinds.PartKind) (ps qs : List PartForm) → count_of_kind k (ps ++ qs) ≡ count_of_kind k ps + count_of_kind k qs
count_append k [] qs = omega arith
count_append k (p ∷ ps) qs = let e = count_append k ps qs in omega arith

free_kind : (k : kinds.PartKind) (before : List PartForm) → may_follow before (told k) ≡ true → has_kind (told k) before ≡ false
free_kind k before may = elim (or_cases (same_kind part.Message (told k)) (not (has_kind (told k) before)) may) [
  | inl h ↦ let other = no_message k in absurd cc
  | inr h ↦ not-true (has_kind (told k) before) h
]

once_more : (k : kinds.PartKind) (before : List PartForm) (p : PartForm) → IsTrue (may_follow before (kind_of p)) → count_of_kind k before ≤ 1 → count_of_kind k (before ++ p ∷ []) ≤ 1
once_more k before p may le =
    let e : count_of_kind k (before ++ p ∷ []) ≡ count_of_kind k before + (one_of_kind k p + 0) = count_append k before (p ∷ []) in
    elim (one_if k p) [
      | inl zero_ ↦ omega arith
      | inr one ↦
          let free : may_follow before (told k) ≡ true = subst (λ (q : PartKind). may_follow before q ≡ true) one.1 may in
          let none : count_of_kind k before ≡ 0 = none_counted k before (free_kind k before free) in
          omega arith
    ]

parts_once : (k : kinds.PartKind) (before ps : List PartForm) (ts rest : List SpecToken) → AreParts before ts ps rest → count_of_kind k before ≤ 1 → count_of_kind k (before ++ ps) ≤ 1
parts_once k before [] ts rest h le = let e : count_of_kind k (before ++ []) ≡ count_of_kind k before + 0 = count_append k before [] in omega arith
parts_once k before (p ∷ ps) ts rest (us, vs, a, b, c, d) le =
    let more = parts_once k (before ++ p ∷ []) ps vs rest d (once_more k before p b le) in
    subst (λ (qs : List PartForm). count_of_kind k qs ≤ 1) (append_snoc before p ps) more

-- ---- actions, edges and programs

action_spelled : Leaves (λ ts a rest. IsAction ts a rest) IsSpelledAction
action_spelled ts x rest (us, vs, ws, xs, ys, a, b, c, d, e, f) are =
    let named = word_leaves us vs x.name b (after_leaves (codes "%action") ts us a are) in
    let args = params_leave vs ws x.params c named.1 in
    let inner = parts_spelled [] x.parts xs ys e (after_leaves (codes "{") ws xs d args.1) in
    (record { name = named.0; params = args.0; parts = inner.0; once = λ k. parts_once k [] x.parts xs ys e (omega arith) }, after_leaves (codes "}") ys rest f inner.1)

edge_spelled : Leaves (λ ts e rest. IsEdge ts e rest) IsSpelledEdge
edge_spelled ts x rest (us, vs, ws, a, b, c, d) are =
    let source = first_leaves word_item IsWord says_word ts us x.from a are in
    let named = word_leaves us vs x.action b source.1 in
    let args = params_leave vs ws x.arguments c named.1 in
    let target = first_leaves word_item IsWord says_word ws rest x.to d args.1 in
    (record { from = source.0; action = named.0; arguments = args.0; to = target.0 }, target.1)

tail_spelled : (ts : List SpecToken) (tail : Option (List (List ℕ))) → IsTail ts tail → Tokens ts → IsSpelledTail tail
tail_spelled ts None h are = tt
tail_spelled ts (Some words) h are = (optional_leaves word_item IsWord says_word h.0 [] words h.2 (after_leaves (codes "%%") ts h.0 h.1 are)).0

pub program_spelled : (ts : List SpecToken) (t : ProgramForm) → IsProgram ts t → Tokens ts → IsSpelled t
program_spelled ts t (us, vs, ws, xs, ys, a, b, c, d, e, f) are =
    let decls = nests_spelled begins_decl (λ ps x qs. IsDecl ps x qs) IsSpelledDecl decl_spelled t.decls ts us a are in
    let actions = repeated_spelled (begins_with (codes "%action")) (λ ps x qs. IsAction ps x qs) IsSpelledAction action_spelled vs t.actions ws c (after_leaves (codes "%%") us vs b decls.1) in
    let edges = repeated_spelled begins_edge (λ ps x qs. IsEdge ps x qs) IsSpelledEdge edge_spelled xs t.edges ys e (after_leaves (codes "%%") ws xs d actions.1) in
    record { decls = decls.0; actions = actions.0; edges = edges.0; tail = tail_spelled ys t.tail f edges.1 }
