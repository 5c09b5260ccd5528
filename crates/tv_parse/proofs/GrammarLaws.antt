-- What is read is a phrase of the grammar, where formulas are.
use Rattle.std.proofs.Common.{◌≡◌, ℕ, zero, suc, ◌+◌, List, [], ◌∷◌, ◌++◌, cond, length, Option, Some, None}
use Rattle.std.proofs.Common.{refl, ◌∙◌, ap, subst, inl, inr}
use Rattle.std.specs.Prelude.{codes, IsTrue}
use Rattle.std.proofs.lemmas.Option.{same_Some}
use Rattle.tv_lex.specs.Token.{SpecToken}
use Rattle.tv_phrases.specs.Reading.{taken, ◌>>=◌, choose}
use Rattle.tv_phrases.specs.Tokens.{after, first, identifier_item, word_item, text_item}
use Rattle.tv_phrases.specs.Lists.{params, name, optional_list}
use Rattle.tv_tree.specs.Forms.{NameForm, Form, DeclForm, DSet, DPred, DRule, PieceForm, Quoted, Spelled}
use Rattle.tv_tree.specs.Forms.{UpdateForm, PartForm, PCaption, PFocus, PPre, PMessage, PNew, PRetain, PBlock}
use Rattle.tv_tree.specs.Forms.{ActionForm, EdgeForm, ProgramForm}
use Rattle.tv_tree.specs.Copies.{nests}
use Rattle.tv_tree.specs.declared.trees.PropWord.{PropWord}
use Rattle.tv_formula.specs.Grammar.{IsFormula, name_form}
use Rattle.tv_formula.specs.Reading.{formula_reading}
use Rattle.tv_parse.specs.declared.kinds.DeclKind.{DeclKind}
use Rattle.tv_parse.specs.declared.kinds.DeclKind.TheVariants as decl
use Rattle.tv_parse.specs.declared.kinds.PartKind.{PartKind}
use Rattle.tv_parse.specs.declared.kinds.PartKind.TheVariants as part
use Rattle.tv_parse.specs.Kinds.{decl_kind, part_kind, prop_item, begins_decl, begins_update, begins_formula}
use Rattle.tv_parse.specs.Kinds.{kind_of, may_follow}
use Rattle.tv_parse.specs.Grammar.{IsSignature, begins_prop, begins_edge, IsProp, AreProps, IsOptional}
use Rattle.tv_parse.specs.Grammar.{IsDecl, IsUpdate, IsPiece, ArePieces, AreFormulas, IsPart, AreParts}
use Rattle.tv_parse.specs.Grammar.{IsAction, IsEdge, IsTail, IsProgram}
use Rattle.tv_parse.specs.Reading.{signature, props_reading, skip, set_reading, set_decl, core_decl}
use Rattle.tv_parse.specs.Reading.{defined_decl, rule_decl, decl_behind, decl_reading, decl_rows}
use Rattle.tv_parse.specs.Reading.{update_reading, update_rows, piece_reading, pieces_reading}
use Rattle.tv_parse.specs.Reading.{formulas_reading, caption_part, focus_part, formula_part, message_part}
use Rattle.tv_parse.specs.Reading.{block_part, part_behind, part_turn, parts, action_reading, edge_reading}
use Rattle.tv_parse.specs.Reading.{actions_reading, edges_reading, at_end, tail_reading, program_reading}
use Rattle.tv_phrases.proofs.Values.{bind_some, chosen, tested}
use Rattle.tv_parse.proofs.SetLaws.{set_sound}
use Rattle.tv_parse.proofs.RowLaws.{rows_sound}
use Rattle.tv_phrases.specs.Repeated.{begins_with, Joined, with_first, separated}
use Rattle.tv_phrases.proofs.Repeats.{held, first_sound, many_sound, joined_sound}

signature_sound : (ts rest : List SpecToken) (x : NameForm × List (List ℕ)) → signature ts ≡ taken x rest → IsSignature ts x.0 x.1 rest
unfolding signature
signature_sound ts rest x e =
    let a = bind_some (name ts) (λ n. params n.1 >>= λ xs. taken (name_form n.0, xs.0) xs.1) (x, rest) e in
    let b = bind_some (params a.0.1) (λ xs. taken (name_form a.0.0, xs.0) xs.1) (x, rest) a.2 in
    let P : (NameForm × List (List ℕ)) → List SpecToken → Type 0 = λ y us. IsSignature ts y.0 y.1 us in
    held P (name_form a.0.0, b.0.0) x b.0.1 rest b.2 (a.0.1, a.0.0, a.1, refl, b.1)

props_sound : (ts rest : List SpecToken) (ps : List PropWord) → props_reading ts ≡ taken ps rest → AreProps ts ps rest
props_sound ts rest ps e = many_sound begins_prop (first prop_item) IsProp (λ vs us x i. i) (length ts + 1) ts rest ps e

skip_sound : (mark : List ℕ) (ts : List SpecToken) (o : Option (List SpecToken)) → after mark ts ≡ o → IsOptional mark ts (choose o ts (λ us. us))
skip_sound mark ts None e = inr (e, refl)
skip_sound mark ts (Some us) e = inl e

piece_sound : (ts rest : List SpecToken) (p : PieceForm) → piece_reading ts ≡ taken p rest → IsPiece ts p rest
unfolding piece_reading
piece_sound ts rest p e =
    let P : PieceForm → List SpecToken → Type 0 = λ y us. IsPiece ts y us in
    elim (chosen (first text_item ts) (first identifier_item ts >>= λ w. taken (Spelled w.0) w.1) (λ s. taken (Quoted s.0) s.1) (taken p rest) e) [
      | inl h ↦
          let a = bind_some (first identifier_item ts) (λ w. taken (Spelled w.0) w.1) (p, rest) h.1 in
          held P (Spelled a.0.0) p a.0.1 rest a.2 a.1
      | inr h ↦ held P (Quoted h.0.0) p h.0.1 rest h.2 h.1
    ]

pieces_sound : (ts rest : List SpecToken) (ps : List PieceForm) → pieces_reading ts ≡ taken ps rest → ArePieces ts ps rest
pieces_sound ts rest ps e = joined_sound (codes "+") piece_reading IsPiece piece_sound ts rest ps e

edge_sound : (ts rest : List SpecToken) (x : EdgeForm) → edge_reading ts ≡ taken x rest → IsEdge ts x rest
unfolding edge_reading
edge_sound ts rest x e =
    let a = bind_some (first word_item ts) _ (x, rest) e in
    let b = bind_some (first identifier_item a.0.1) _ (x, rest) a.2 in
    let c = bind_some (params b.0.1) _ (x, rest) b.2 in
    let d = bind_some (first word_item c.0.1) _ (x, rest) c.2 in
    let P : EdgeForm → List SpecToken → Type 0 = λ y us. IsEdge ts y us in
    held P (record { from = a.0.0; action = b.0.0; arguments = c.0.0; to = d.0.0 }) x d.0.1 rest d.2 (a.0.1, b.0.1, c.0.1, a.1, b.1, c.1, d.1)

ended : {X : Type 0} (x y : X) (ts : List SpecToken) → at_end x ts ≡ Some y → (x ≡ y) × (ts ≡ [])
ended x y [] e = (same_Some x y e, refl)
ended x y (t ∷ ts) e = absurd cc

tail_sound : (ts : List SpecToken) (x : Option (List (List ℕ))) → tail_reading ts ≡ Some x → IsTail ts x
unfolding tail_reading
tail_sound ts x e =
    elim (chosen (after (codes "%%") ts) (at_end None ts) (λ us. optional_list word_item us >>= λ ws. at_end (Some ws.0) ws.1) (Some x) e) [
      | inl h ↦
          let end = ended None x ts h.1 in
          subst (λ (y : Option (List (List ℕ))). IsTail ts y) end.0 (h.0, end.1)
      | inr h ↦
          let a = bind_some (optional_list word_item h.0) (λ ws. at_end (Some ws.0) ws.1) x h.2 in
          let end = ended (Some a.0.0) x a.0.1 a.2 in
          let whole : IsTail ts (Some a.0.0) = (h.0, h.1, a.1 ∙ ap (λ (us : List SpecToken). taken a.0.0 us) end.1) in
          subst (λ (y : Option (List (List ℕ))). IsTail ts y) end.0 whole
    ]

-- a part of a kind
abbrev IsPartOf : PartKind → List SpecToken → PartForm → List SpecToken → Type 0
IsPartOf kind ts p rest = IsPart ts p rest × (kind ≡ kind_of p)

some_formulas : (fs : List Form) (ts rest : List SpecToken) → IsTrue (begins_formula ts) → Joined (codes ",") IsFormula ts fs rest → AreFormulas ts fs rest
some_formulas [] ts rest b j = elim j [ ]
some_formulas (f ∷ fs) ts rest b j = (b, j)

module _ (formula_sound : (ts rest : List SpecToken) (f : Form) → formula_reading ts ≡ taken f rest → IsFormula ts f rest) where
  set_decl_sound : (ts us rest : List SpecToken) (x : DeclForm) → first decl_kind ts ≡ taken decl.Set us → set_decl us ≡ taken x rest → IsDecl ts x rest
  unfolding set_decl
  set_decl_sound ts us rest x kind e =
      let a = bind_some (first identifier_item us) (λ w. set_reading (skip (codes "=") w.1) >>= λ s. taken (DSet w.0 s.0) s.1) (x, rest) e in
      let b = bind_some (set_reading (skip (codes "=") a.0.1)) (λ s. taken (DSet a.0.0 s.0) s.1) (x, rest) a.2 in
      let P : DeclForm → List SpecToken → Type 0 = λ y vs. IsDecl ts y vs in
      held P (DSet a.0.0 b.0.0) x b.0.1 rest b.2 (us, a.0.1, skip (codes "=") a.0.1, kind, a.1, skip_sound (codes "=") a.0.1 (after (codes "=") a.0.1) refl, set_sound (skip (codes "=") a.0.1) b.0.1 b.0.0 b.1)

  core_decl_sound : (ts us rest : List SpecToken) (x : DeclForm) → first decl_kind ts ≡ taken decl.Core us → core_decl us ≡ taken x rest → IsDecl ts x rest
  unfolding core_decl
  core_decl_sound ts us rest x kind e =
      let a = bind_some (signature us) (λ n. props_reading n.1 >>= λ ps. taken (DPred (record { name = n.0.0; params = n.0.1; body = None; props = ps.0 })) ps.1) (x, rest) e in
      let b = bind_some (props_reading a.0.1) (λ ps. taken (DPred (record { name = a.0.0.0; params = a.0.0.1; body = None; props = ps.0 })) ps.1) (x, rest) a.2 in
      let P : DeclForm → List SpecToken → Type 0 = λ y vs. IsDecl ts y vs in
      held P (DPred (record { name = a.0.0.0; params = a.0.0.1; body = None; props = b.0.0 })) x b.0.1 rest b.2 (us, a.0.1, kind, signature_sound us a.0.1 a.0.0 a.1, props_sound a.0.1 b.0.1 b.0.0 b.1)

  defined_decl_sound : (ts us rest : List SpecToken) (x : DeclForm) → first decl_kind ts ≡ taken decl.Defined us → defined_decl us ≡ taken x rest → IsDecl ts x rest
  unfolding defined_decl
  defined_decl_sound ts us rest x kind e =
      let a = bind_some (signature us) _ (x, rest) e in
      let b = bind_some (after (codes "=") a.0.1) _ (x, rest) a.2 in
      let c = bind_some (formula_reading b.0) _ (x, rest) b.2 in
      let d = bind_some (props_reading c.0.1) _ (x, rest) c.2 in
      let P : DeclForm → List SpecToken → Type 0 = λ y vs. IsDecl ts y vs in
      held P (DPred (record { name = a.0.0.0; params = a.0.0.1; body = Some c.0.0; props = d.0.0 })) x d.0.1 rest d.2 (us, a.0.1, kind, signature_sound us a.0.1 a.0.0 a.1, (b.0, c.0.1, b.1, formula_sound b.0 c.0.1 c.0.0 c.1, props_sound c.0.1 d.0.1 d.0.0 d.1))

  rule_decl_sound : (ts us rest : List SpecToken) (x : DeclForm) → first decl_kind ts ≡ taken decl.Rule us → rule_decl us ≡ taken x rest → IsDecl ts x rest
  unfolding rule_decl
  rule_decl_sound ts us rest x kind e =
      let a = bind_some (formula_reading us) (λ f. after (codes "==>") f.1 >>= λ vs. formula_reading vs >>= λ g. taken (DRule f.0 g.0) g.1) (x, rest) e in
      let b = bind_some (after (codes "==>") a.0.1) (λ vs. formula_reading vs >>= λ g. taken (DRule a.0.0 g.0) g.1) (x, rest) a.2 in
      let c = bind_some (formula_reading b.0) (λ g. taken (DRule a.0.0 g.0) g.1) (x, rest) b.2 in
      let P : DeclForm → List SpecToken → Type 0 = λ y vs. IsDecl ts y vs in
      held P (DRule a.0.0 c.0.0) x c.0.1 rest c.2 (us, a.0.1, b.0, kind, formula_sound us a.0.1 a.0.0 a.1, b.1, formula_sound b.0 c.0.1 c.0.0 c.1)

  behind_kind_sound : (kind : DeclKind) (ts us rest : List SpecToken) (x : DeclForm) → first decl_kind ts ≡ taken kind us → decl_behind kind us ≡ taken x rest → IsDecl ts x rest
  behind_kind_sound decl.Set ts us rest x k e = set_decl_sound ts us rest x k e
  behind_kind_sound decl.Core ts us rest x k e = core_decl_sound ts us rest x k e
  behind_kind_sound decl.Defined ts us rest x k e = defined_decl_sound ts us rest x k e
  behind_kind_sound decl.Rule ts us rest x k e = rule_decl_sound ts us rest x k e

  pub decl_sound : (ts rest : List SpecToken) (x : DeclForm) → decl_reading ts ≡ taken x rest → IsDecl ts x rest
  unfolding decl_reading
  decl_sound ts rest x e =
      let a = bind_some (first decl_kind ts) (λ k. decl_behind k.0 k.1) (x, rest) e in
      behind_kind_sound a.0.0 ts a.0.1 rest x a.1 a.2

  update_sound : (ts rest : List SpecToken) (x : UpdateForm) → update_reading ts ≡ taken x rest → IsUpdate ts x rest
  unfolding update_reading
  update_sound ts rest x e =
      let a = bind_some (signature ts) _ (x, rest) e in
      let b = bind_some (after (codes "=") a.0.1) _ (x, rest) a.2 in
      let c = bind_some (formula_reading b.0) _ (x, rest) b.2 in
      let P : UpdateForm → List SpecToken → Type 0 = λ y vs. IsUpdate ts y vs in
      held P (record { name = a.0.0.0; params = a.0.0.1; body = c.0.0 }) x c.0.1 rest c.2 (a.0.1, b.0, signature_sound ts a.0.1 a.0.0 a.1, b.1, formula_sound b.0 c.0.1 c.0.0 c.1)

  formulas_sound : (ts rest : List SpecToken) (fs : List Form) → formulas_reading ts ≡ taken fs rest → AreFormulas ts fs rest
  unfolding formulas_reading
  formulas_sound ts rest fs e =
      let P : List Form → List SpecToken → Type 0 = λ y vs. AreFormulas ts y vs in
      elim (tested (begins_formula ts) (separated (codes ",") formula_reading ts) (taken [] ts) (taken fs rest) e) [
        | inl h ↦ some_formulas fs ts rest h.0 (joined_sound (codes ",") formula_reading IsFormula formula_sound ts rest fs h.1)
        | inr h ↦ held P [] fs ts rest h.1 (h.0, refl)
      ]

  focus_sound : (ts rest : List SpecToken) (p : PartForm) → focus_part ts ≡ taken p rest → IsPartOf part.Focus ts p rest
  unfolding focus_part
  focus_sound ts rest p e =
      let a = bind_some (after (codes "{") ts) _ (p, rest) e in
      let b = bind_some (formulas_reading a.0) _ (p, rest) a.2 in
      let c = bind_some (after (codes "}") b.0.1) _ (p, rest) b.2 in
      let P : PartForm → List SpecToken → Type 0 = λ y vs. IsPartOf part.Focus ts y vs in
      held P (PFocus b.0.0) p c.0 rest c.2 ((a.0, b.0.1, a.1, formulas_sound a.0 b.0.1 b.0.0 b.1, c.1), refl)

  message_sound : (ts rest : List SpecToken) (p : PartForm) → message_part ts ≡ taken p rest → IsPartOf part.Message ts p rest
  unfolding message_part
  message_sound ts rest p e =
      let a = bind_some (formula_reading ts) _ (p, rest) e in
      let b = bind_some (after (codes "->") a.0.1) _ (p, rest) a.2 in
      let c = bind_some (first text_item b.0) _ (p, rest) b.2 in
      let d = bind_some (pieces_reading b.0) _ (p, rest) c.2 in
      let P : PartForm → List SpecToken → Type 0 = λ y vs. IsPartOf part.Message ts y vs in
      held P (PMessage a.0.0 d.0.0) p d.0.1 rest d.2 ((a.0.1, b.0, formula_sound ts a.0.1 a.0.0 a.1, b.1, rw c.1 refl, pieces_sound b.0 d.0.1 d.0.0 d.1), refl)

  block_sound : (ts rest : List SpecToken) (p : PartForm) → block_part ts ≡ taken p rest → IsPartOf part.Block ts p rest
  unfolding block_part
  block_sound ts rest p e =
      let a = bind_some (update_rows (length ts + 1) ts) (λ us. after (codes "}") us.1 >>= λ end. taken (PBlock (nests us.0)) end) (p, rest) e in
      let b = bind_some (after (codes "}") a.0.1) (λ end. taken (PBlock (nests a.0.0)) end) (p, rest) a.2 in
      let P : PartForm → List SpecToken → Type 0 = λ y vs. IsPartOf part.Block ts y vs in
      held P (PBlock (nests a.0.0)) p b.0 rest b.2 ((a.0.1, rows_sound begins_update update_reading IsUpdate (λ vs us x i. update_sound vs us x i) (length ts + 1) ts a.0.1 a.0.0 a.1, b.1), refl)

  part_sound : (kind : PartKind) (ts rest : List SpecToken) (p : PartForm) → part_behind kind ts ≡ taken p rest → IsPartOf kind ts p rest
  unfolding caption_part formula_part
  part_sound part.Caption ts rest p e =
      let a = bind_some (pieces_reading ts) (λ ps. taken (PCaption ps.0) ps.1) (p, rest) e in
      let P : PartForm → List SpecToken → Type 0 = λ y vs. IsPartOf part.Caption ts y vs in
      held P (PCaption a.0.0) p a.0.1 rest a.2 (pieces_sound ts a.0.1 a.0.0 a.1, refl)
  part_sound part.Focus ts rest p e = focus_sound ts rest p e
  part_sound part.Pre ts rest p e =
      let a = bind_some (formula_reading ts) (λ f. taken (PPre f.0) f.1) (p, rest) e in
      let P : PartForm → List SpecToken → Type 0 = λ y vs. IsPartOf part.Pre ts y vs in
      held P (PPre a.0.0) p a.0.1 rest a.2 (formula_sound ts a.0.1 a.0.0 a.1, refl)
  part_sound part.Message ts rest p e = message_sound ts rest p e
  part_sound part.New ts rest p e =
      let P : PartForm → List SpecToken → Type 0 = λ y vs. IsPartOf part.New ts y vs in
      held P PNew p ts rest e (refl, refl)
  part_sound part.Retain ts rest p e =
      let a = bind_some (formula_reading ts) (λ f. taken (PRetain f.0) f.1) (p, rest) e in
      let P : PartForm → List SpecToken → Type 0 = λ y vs. IsPartOf part.Retain ts y vs in
      held P (PRetain a.0.0) p a.0.1 rest a.2 (formula_sound ts a.0.1 a.0.0 a.1, refl)
  part_sound part.Block ts rest p e = block_sound ts rest p e

  parts_sound : (n : ℕ) (before : List PartForm) (ts rest : List SpecToken) (ps : List PartForm) → parts n before ts ≡ taken ps rest → AreParts before ts ps rest
  unfolding parts part_turn
  parts_sound zero before ts rest ps e = absurd cc
  parts_sound (suc n) before ts rest ps e =
      let P : List PartForm → List SpecToken → Type 0 = λ ys us. AreParts before ts ys us in
      elim (chosen (first part_kind ts) (taken [] ts) (λ k. cond (may_follow before k.0) (part_behind k.0 k.1 >>= λ p. with_first p.0 (parts n (before ++ p.0 ∷ []) p.1)) None) (taken ps rest) e) [
        | inl h ↦ held P [] ps ts rest h.1 (h.0, refl)
        | inr h ↦ elim (tested (may_follow before h.0.0) (part_behind h.0.0 h.0.1 >>= λ p. with_first p.0 (parts n (before ++ p.0 ∷ []) p.1)) None (taken ps rest) h.2) [
          | inl i ↦
              let a = bind_some (part_behind h.0.0 h.0.1) (λ p. with_first p.0 (parts n (before ++ p.0 ∷ []) p.1)) (ps, rest) i.1 in
              let one = part_sound h.0.0 h.0.1 a.0.1 a.0.0 a.1 in
              let kind : first part_kind ts ≡ taken (kind_of a.0.0) h.0.1 = h.1 ∙ ap (λ (k : PartKind). taken k h.0.1) one.1 in
              let free : IsTrue (may_follow before (kind_of a.0.0)) = subst (λ (k : PartKind). IsTrue (may_follow before k)) one.1 i.0 in
              first_sound P a.0.0 (parts n (before ++ a.0.0 ∷ []) a.0.1) ps rest a.2 (λ ys us j. (h.0.1, a.0.1, kind, free, one.0, parts_sound n (before ++ a.0.0 ∷ []) a.0.1 us ys j))
          | inr i ↦ absurd cc
        ]
      ]

  action_sound : (ts rest : List SpecToken) (x : ActionForm) → action_reading ts ≡ taken x rest → IsAction ts x rest
  unfolding action_reading
  action_sound ts rest x e =
      let a = bind_some (after (codes "%action") ts) _ (x, rest) e in
      let b = bind_some (first identifier_item a.0) _ (x, rest) a.2 in
      let c = bind_some (params b.0.1) _ (x, rest) b.2 in
      let d = bind_some (after (codes "{") c.0.1) _ (x, rest) c.2 in
      let f = bind_some (parts (length d.0 + 1) [] d.0) _ (x, rest) d.2 in
      let g = bind_some (after (codes "}") f.0.1) _ (x, rest) f.2 in
      let P : ActionForm → List SpecToken → Type 0 = λ y vs. IsAction ts y vs in
      held P (record { name = b.0.0; params = c.0.0; parts = f.0.0 }) x g.0 rest g.2 (a.0, b.0.1, c.0.1, d.0, f.0.1, a.1, b.1, c.1, d.1, parts_sound (length d.0 + 1) [] d.0 f.0.1 f.0.0 f.1, g.1)

  pub program_sound : (ts : List SpecToken) (x : ProgramForm) → program_reading ts ≡ Some x → IsProgram ts x
  unfolding program_reading
  program_sound ts x e =
      let a = bind_some (decl_rows (length ts + 1) ts) _ x e in
      let b = bind_some (after (codes "%%") a.0.1) _ x a.2 in
      let c = bind_some (actions_reading b.0) _ x b.2 in
      let d = bind_some (after (codes "%%") c.0.1) _ x c.2 in
      let f = bind_some (edges_reading d.0) _ x d.2 in
      let g = bind_some (tail_reading f.0.1) _ x f.2 in
      let ds = rows_sound begins_decl decl_reading IsDecl (λ vs us y i. decl_sound vs us y i) (length ts + 1) ts a.0.1 a.0.0 a.1 in
      let actions = many_sound (begins_with (codes "%action")) action_reading IsAction (λ vs us y i. action_sound vs us y i) (length b.0 + 1) b.0 c.0.1 c.0.0 c.1 in
      let edges = many_sound begins_edge edge_reading IsEdge edge_sound (length d.0 + 1) d.0 f.0.1 f.0.0 f.1 in
      subst (λ (y : ProgramForm). IsProgram ts y) (same_Some (record { decls = nests a.0.0; actions = c.0.0; edges = f.0.0; tail = g.0 }) x g.2) (a.0.1, b.0, c.0.1, d.0, f.0.1, ds, b.1, actions, d.1, edges, tail_sound f.0.1 g.0 g.1)
