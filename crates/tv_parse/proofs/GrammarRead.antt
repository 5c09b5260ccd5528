-- What the grammar says is a phrase is read as that phrase, where formulas are.
use Rattle.std.proofs.Common.{◌≡◌, ℕ, zero, suc, ◌+◌, ◌<◌, ◌≤◌, List, [], ◌∷◌, ◌++◌, length, Option, Some}
use Rattle.std.proofs.Common.{None, refl, sym, inl, inr, arith}
use Rattle.std.specs.Prelude.{codes, is_some, IsTrue}
use Rattle.tv_lex.specs.Token.{SpecToken}
use Rattle.tv_lex.specs.declared.token.TokenKind.{TokenKind}
use Rattle.tv_lex.specs.declared.token.TokenKind.TheVariants as kind
use Rattle.tv_phrases.specs.Reading.{taken, ◌>>=◌}
use Rattle.tv_phrases.specs.Tokens.{first, identifier_item, word_item, text_item}
use Rattle.tv_tree.specs.Forms.{NameForm, Form, DSet, DPred, DRule, PieceForm, Quoted, Spelled, PartForm}
use Rattle.tv_tree.specs.Forms.{PCaption, PFocus, PPre, PMessage, PNew, PRetain, PBlock, ProgramForm}
use Rattle.tv_tree.specs.declared.trees.PropWord.{PropWord}
use Rattle.tv_formula.specs.Grammar.{IsFormula}
use Rattle.tv_formula.specs.Reading.{formula_reading}
use Rattle.tv_parse.specs.declared.kinds.DeclKind.TheVariants as decl
use Rattle.tv_parse.specs.Kinds.{decl_kind, part_kind, prop_item, begins_decl, begins_update, kind_of}
use Rattle.tv_parse.specs.Grammar.{IsSignature, begins_prop, begins_edge, IsProp, AreProps, IsOptional}
use Rattle.tv_parse.specs.Grammar.{IsDecl, IsUpdate, IsPiece, ArePieces, AreFormulas, IsPart, AreParts}
use Rattle.tv_parse.specs.Grammar.{IsAction, IsEdge, IsTail, IsProgram}
use Rattle.tv_parse.specs.Reading.{signature, props_reading, skip, set_decl, core_decl, defined_decl}
use Rattle.tv_parse.specs.Reading.{rule_decl, decl_reading, update_reading, piece_reading, pieces_reading}
use Rattle.tv_parse.specs.Reading.{formulas_reading, caption_part, focus_part, formula_part, message_part}
use Rattle.tv_parse.specs.Reading.{block_part, part_behind, part_turn, parts, action_reading, edge_reading}
use Rattle.tv_parse.specs.Reading.{tail_reading, program_reading}
use Rattle.tv_phrases.proofs.Takes.{after_takes, first_takes, params_take, name_takes}
use Rattle.tv_parse.proofs.SetsRead.{set_read}
use Rattle.tv_parse.proofs.RowsRead.{nests_listed, rows_read}
use Rattle.tv_phrases.specs.Repeated.{begins_with, with_first}
use Rattle.tv_phrases.proofs.Repeats.{IsRead, many_read, joined_read}

pub signature_read : (ts rest : List SpecToken) (n : NameForm) (xs : List (List ℕ)) → IsSignature ts n xs rest → (signature ts ≡ taken (n, xs) rest) × (length rest < length ts)
unfolding signature
signature_read ts rest n xs h =
    let l : length h.0 < length ts = name_takes ts h.0 h.1 h.2 in
    let k : length rest < length h.0 = params_take h.0 rest xs h.4 in
    (rw (h.2, h.4, h.3) refl, omega arith)

prop_read : (ts us : List SpecToken) (p : PropWord) → IsProp ts p us → (first prop_item ts ≡ taken p us) × (length us < length ts)
prop_read ts us p h = (h, first_takes prop_item ts us p h)

pub props_read : (ts rest : List SpecToken) (ps : List PropWord) → AreProps ts ps rest → (props_reading ts ≡ taken ps rest) × (length rest ≤ length ts)
props_read ts rest ps h = many_read begins_prop (first prop_item) IsProp prop_read ps ts rest h (length ts + 1) (omega arith)

skip_read : (mark : List ℕ) (ts us : List SpecToken) → IsOptional mark ts us → (skip mark ts ≡ us) × (length us ≤ length ts)
skip_read mark ts us (inl h) = let l : length us < length ts = after_takes mark ts us h in (rw h refl, omega arith)
skip_read mark ts us (inr h) = (rw h.0 (sym h.1), rw h.1 (omega arith))

there : {A : Type 0} (o : Option A) → IsTrue (is_some o) → (x : A) × (o ≡ Some x)
there (Some x) some = (x, refl)
there None some = absurd cc

string_there : (ts : List SpecToken) → IsTrue (is_some (first text_item ts)) → (x : List ℕ × List SpecToken) × (first text_item ts ≡ Some x)
string_there ts some = there (first text_item ts) some

no_string : (k : TokenKind) (bytes : List ℕ) (ts us : List SpecToken) (w : List ℕ) → (identifier_item (record { kind = k; bytes = bytes }) >>= λ x. taken x ts) ≡ taken w us → (text_item (record { kind = k; bytes = bytes }) >>= λ x. taken x ts) ≡ None
no_string kind.Word bytes ts us w e = refl
no_string kind.Half bytes ts us w e = refl
no_string kind.Text bytes ts us w e = absurd cc
no_string kind.Directive bytes ts us w e = refl
no_string kind.Parts bytes ts us w e = refl
no_string kind.Punct bytes ts us w e = refl

text_not_first : (ts us : List SpecToken) (w : List ℕ) → first identifier_item ts ≡ taken w us → first text_item ts ≡ None
unfolding first
text_not_first [] us w e = refl
text_not_first (t ∷ ts) us w e = no_string t.kind t.bytes ts us w e

pub piece_read : IsRead piece_reading IsPiece
unfolding piece_reading
piece_read ts us (Quoted s) h = (rw h refl, first_takes text_item ts us s h)
piece_read ts us (Spelled s) h = (rw (text_not_first ts us s h, h) refl, first_takes identifier_item ts us s h)

pub pieces_read : (ts rest : List SpecToken) (ps : List PieceForm) → ArePieces ts ps rest → (pieces_reading ts ≡ taken ps rest) × (length rest ≤ length ts)
pieces_read ts rest ps h = joined_read (codes "+") piece_reading IsPiece (λ vs us x i. let a = piece_read vs us x i in let l : length us < length vs = a.1 in (a.0, omega arith)) ps ts rest h

pub edge_read : IsRead edge_reading IsEdge
unfolding edge_reading
edge_read ts us x h =
    let la : length h.0 < length ts = first_takes word_item ts h.0 x.from h.3 in
    let lb : length h.1 < length h.0 = first_takes identifier_item h.0 h.1 x.action h.4 in
    let lc : length h.2 < length h.1 = params_take h.1 h.2 x.arguments h.5 in
    let ld : length us < length h.2 = first_takes word_item h.2 us x.to h.6 in
    (rw (h.3, h.4, h.5, h.6) refl, omega arith)

tail_read : (ts : List SpecToken) (x : Option (List (List ℕ))) → IsTail ts x → tail_reading ts ≡ Some x
unfolding tail_reading
tail_read ts None h = rw (h.0, h.1) refl
tail_read ts (Some words) h = rw (h.1, h.2) refl

module _ (formula_read : (ts rest : List SpecToken) (f : Form) → IsFormula ts f rest → formula_reading ts ≡ taken f rest) (formula_takes : (ts rest : List SpecToken) (f : Form) → IsFormula ts f rest → length rest ≤ length ts) where
  pred_read : (n : NameForm) (xs : List (List ℕ)) (body : Option Form) (ps : List PropWord) (ts rest : List SpecToken) → IsDecl ts (DPred (record { name = n; params = xs; body = body; props = ps })) rest → (decl_reading ts ≡ taken (DPred (record { name = n; params = xs; body = body; props = ps })) rest) × (length rest < length ts)
  unfolding decl_reading core_decl defined_decl
  pred_read n xs None ps ts rest h =
      let s = signature_read h.0 h.1 n xs h.3 in
      let c = props_read h.1 rest ps h.4 in
      let la : length h.0 < length ts = first_takes decl_kind ts h.0 decl.Core h.2 in
      let lb : length h.1 < length h.0 = s.1 in
      let lc : length rest ≤ length h.1 = c.1 in
      (rw (h.2, s.0, c.0) refl, omega arith)
  pred_read n xs (Some f) ps ts rest h =
      let s = signature_read h.0 h.1 n xs h.3 in
      let d = h.4 in
      let c = props_read d.1 rest ps d.4 in
      let la : length h.0 < length ts = first_takes decl_kind ts h.0 decl.Defined h.2 in
      let lb : length h.1 < length h.0 = s.1 in
      let lc : length d.0 < length h.1 = after_takes (codes "=") h.1 d.0 d.2 in
      let ld : length d.1 ≤ length d.0 = formula_takes d.0 d.1 f d.3 in
      let le : length rest ≤ length d.1 = c.1 in
      (rw (h.2, s.0, d.2, formula_read d.0 d.1 f d.3, c.0) refl, omega arith)

  pub decl_read : IsRead decl_reading IsDecl
  unfolding decl_reading set_decl rule_decl
  decl_read ts rest (DSet w s) h =
      let o = skip_read (codes "=") h.1 h.2 h.5 in
      let c = set_read h.2 rest s h.6 in
      let la : length h.0 < length ts = first_takes decl_kind ts h.0 decl.Set h.3 in
      let lb : length h.1 < length h.0 = first_takes identifier_item h.0 h.1 w h.4 in
      let lc : length h.2 ≤ length h.1 = o.1 in
      let ld : length rest < length h.2 = c.1 in
      (rw (h.3, h.4, o.0, c.0) refl, omega arith)
  decl_read ts rest (DPred d) h = pred_read d.name d.params d.body d.props ts rest h
  decl_read ts rest (DRule f g) h =
      let la : length h.0 < length ts = first_takes decl_kind ts h.0 decl.Rule h.3 in
      let lb : length h.1 ≤ length h.0 = formula_takes h.0 h.1 f h.4 in
      let lc : length h.2 < length h.1 = after_takes (codes "==>") h.1 h.2 h.5 in
      let ld : length rest ≤ length h.2 = formula_takes h.2 rest g h.6 in
      (rw (h.3, formula_read h.0 h.1 f h.4, h.5, formula_read h.2 rest g h.6) refl, omega arith)

  pub update_read : IsRead update_reading IsUpdate
  unfolding update_reading
  update_read ts rest u h =
      let s = signature_read ts h.0 u.name u.params h.2 in
      let la : length h.0 < length ts = s.1 in
      let lb : length h.1 < length h.0 = after_takes (codes "=") h.0 h.1 h.3 in
      let lc : length rest ≤ length h.1 = formula_takes h.1 rest u.body h.4 in
      (rw (s.0, h.3, formula_read h.1 rest u.body h.4) refl, omega arith)

  one_formula : (ts us : List SpecToken) (f : Form) → IsFormula ts f us → (formula_reading ts ≡ taken f us) × (length us ≤ length ts)
  one_formula ts us f h = (formula_read ts us f h, formula_takes ts us f h)

  pub formulas_read : (ts rest : List SpecToken) (fs : List Form) → AreFormulas ts fs rest → (formulas_reading ts ≡ taken fs rest) × (length rest ≤ length ts)
  unfolding formulas_reading
  formulas_read ts rest [] h = (rw (h.0, h.1) refl, rw h.1 (omega arith))
  formulas_read ts rest (f ∷ fs) h =
      let a = joined_read (codes ",") formula_reading IsFormula one_formula (f ∷ fs) ts rest h.1 in
      (rw h.0 a.0, a.1)

  -- a part is read by its kind
  pub part_read : (p : PartForm) (ts rest : List SpecToken) → IsPart ts p rest → (part_behind (kind_of p) ts ≡ taken p rest) × (length rest ≤ length ts)
  unfolding caption_part focus_part formula_part message_part block_part
  part_read (PCaption ps) ts rest h = let a = pieces_read ts rest ps h in (rw a.0 refl, a.1)
  part_read (PFocus fs) ts rest h =
      let a = formulas_read h.0 h.1 fs h.3 in
      let la : length h.0 < length ts = after_takes (codes "{") ts h.0 h.2 in
      let lb : length h.1 ≤ length h.0 = a.1 in
      let lc : length rest < length h.1 = after_takes (codes "}") h.1 rest h.4 in
      (rw (h.2, a.0, h.4) refl, omega arith)
  part_read (PPre f) ts rest h = (rw (formula_read ts rest f h) refl, formula_takes ts rest f h)
  part_read (PMessage f ps) ts rest h =
      let a = pieces_read h.1 rest ps h.5 in
      let t = string_there h.1 h.4 in
      let la : length h.0 ≤ length ts = formula_takes ts h.0 f h.2 in
      let lb : length h.1 < length h.0 = after_takes (codes "->") h.0 h.1 h.3 in
      let lc : length rest ≤ length h.1 = a.1 in
      (rw (formula_read ts h.0 f h.2, h.3, t.1, a.0) refl, omega arith)
  part_read PNew ts rest h = (rw h refl, rw h (omega arith))
  part_read (PRetain f) ts rest h = (rw (formula_read ts rest f h) refl, formula_takes ts rest f h)
  part_read (PBlock us) ts rest h =
      let a = rows_read begins_update update_reading IsUpdate update_read us ts h.0 h.1 (length ts + 1) (omega arith) in
      let la : length h.0 ≤ length ts = a.1 in
      let lb : length rest < length h.0 = after_takes (codes "}") h.0 rest h.2 in
      (rw (a.0, h.2, nests_listed us) refl, omega arith)

  pub parts_read : (ps before : List PartForm) (ts rest : List SpecToken) → AreParts before ts ps rest → (n : ℕ) → length ts < n → (parts n before ts ≡ taken ps rest) × (length rest ≤ length ts)
  unfolding parts part_turn with_first
  parts_read ps before ts rest h zero lt = absurd (omega arith)
  parts_read [] before ts rest h (suc n) lt = (rw (h.0, h.1) refl, rw h.1 (omega arith))
  parts_read (p ∷ ps) before ts rest h (suc n) lt =
      let a = part_read p h.0 h.1 h.4 in
      let la : length h.0 < length ts = first_takes part_kind ts h.0 (kind_of p) h.2 in
      let lb : length h.1 ≤ length h.0 = a.1 in
      let b = parts_read ps (before ++ p ∷ []) h.1 rest h.5 n (omega arith) in
      let lc : length rest ≤ length h.1 = b.1 in
      (rw (h.2, h.3, a.0, b.0) refl, omega arith)

  pub action_read : IsRead action_reading IsAction
  unfolding action_reading
  action_read ts rest x h =
      let ps = parts_read x.parts [] h.3 h.4 h.9 (length h.3 + 1) (omega arith) in
      let la : length h.0 < length ts = after_takes (codes "%action") ts h.0 h.5 in
      let lb : length h.1 < length h.0 = first_takes identifier_item h.0 h.1 x.name h.6 in
      let lc : length h.2 < length h.1 = params_take h.1 h.2 x.params h.7 in
      let ld : length h.3 < length h.2 = after_takes (codes "{") h.2 h.3 h.8 in
      let le : length h.4 ≤ length h.3 = ps.1 in
      let lf : length rest < length h.4 = after_takes (codes "}") h.4 rest h.10 in
      (rw (h.5, h.6, h.7, h.8, ps.0, h.10) refl, omega arith)

  pub program_read : (ts : List SpecToken) (x : ProgramForm) → IsProgram ts x → program_reading ts ≡ Some x
  unfolding program_reading
  program_read ts x h =
      let ds = rows_read begins_decl decl_reading IsDecl decl_read x.decls ts h.0 h.5 (length ts + 1) (omega arith) in
      let actions = many_read (begins_with (codes "%action")) action_reading IsAction action_read x.actions h.1 h.2 h.7 (length h.1 + 1) (omega arith) in
      let edges = many_read begins_edge edge_reading IsEdge edge_read x.edges h.3 h.4 h.9 (length h.3 + 1) (omega arith) in
      rw (ds.0, h.6, actions.0, h.8, edges.0, tail_read h.4 x.tail h.10, nests_listed x.decls) refl
