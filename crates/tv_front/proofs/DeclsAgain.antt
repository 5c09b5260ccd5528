-- The printed tokens of declarations are read as these declarations again.
use Rattle.std.proofs.Common.{◌≡◌, ℕ, List, [], ◌∷◌, ◌++◌, Option, Some, None, refl, sym, ◌∙◌, ap, subst, map}
use Rattle.std.proofs.Common.{inl, inr, append_assoc}
use Rattle.std.specs.Prelude.{codes, is_some}
use Rattle.tv_lex.specs.Token.{SpecToken}
use Rattle.tv_phrases.specs.Reading.{taken}
use Rattle.tv_phrases.specs.Tokens.{first, identifier_item}
use Rattle.tv_tree.specs.Forms.{NameForm, SetForm, Form, PredForm, Nest, Single, Foreach, Nests, no_nest}
use Rattle.tv_tree.specs.Forms.{with_nest, DeclForm, DSet, DPred, DRule}
use Rattle.tv_tree.specs.Printed.{params_tokens, name_tokens, set_tokens, formula_tokens, prop_token}
use Rattle.tv_tree.specs.Printed.{body_tokens, pred_directive, pred_tokens, set_decl_tokens, rule_tokens}
use Rattle.tv_tree.specs.Printed.{foreach_tokens, lone, nest_lines, nests_lines, decl_tokens}
use Rattle.tv_tree.specs.declared.trees.PropWord.{PropWord}
use Rattle.tv_tree.specs.declared.trees.PropWord.TheVariants.{Unique, Function, Invfunction, Abs, Nonabs}
use Rattle.tv_tree.specs.declared.trees.PropWord.TheVariants.{Transitive, Reflexive, Symmetric, Boxed}
use Rattle.tv_tree.specs.declared.trees.PropWord.TheVariants.{Pointer}
use Rattle.tv_formula.specs.Grammar.{Begins, IsFormula}
use Rattle.tv_formula.specs.Spelled.{spell, spelled, formula_front}
use Rattle.tv_formula.proofs.Again.{word_ident, ident_again, mark_again, spelled_append, formula_again}
use Rattle.tv_parse.specs.declared.kinds.DeclKind.{DeclKind}
use Rattle.tv_parse.specs.declared.kinds.DeclKind.TheVariants as decl
use Rattle.tv_parse.specs.Kinds.{decl_marks, decl_kind, prop_words, prop_item, begins_decl}
use Rattle.tv_parse.specs.Grammar.{IsSet, IsHead, IsNest, IsSignature, begins_prop, AreProps, IsOptional}
use Rattle.tv_parse.specs.Grammar.{IsPredEnd, pred_kind, IsDecl, AreDecls}
use Rattle.tv_front.proofs.Exact.{Tokens, Exact, Tells, exact_then, none_exact, after_exact, first_exact}
use Rattle.tv_front.proofs.Exact.{word_exact}
use Rattle.tv_front.proofs.FormulaExact.{formula_exact}
use Rattle.tv_front.proofs.PartExact.{laid, laid_append, set_exact, head_tokens, head_exact}
use Rattle.tv_front.proofs.PartExact.{signature_exact, signed_exact, marked_formula, table_spelling}
use Rattle.tv_front.specs.ReadAgain.{Kept, mark_left}
use Rattle.tv_front.proofs.Kept.{kept_exact, SameHead, kept_head, lacks_head, prop_head, decl_head}
use Rattle.tv_front.proofs.Kept.{kept_ends}
use Rattle.tv_front.proofs.SetsAgain.{set_again, set_lacks, head_again, signature_again}

-- ---- directives and properties

abbrev decl_mark : DeclKind → List ℕ
decl_mark decl.Set = codes "%s"
decl_mark decl.Core = codes "%p"
decl_mark decl.Defined = codes "%i"
decl_mark decl.Rule = codes "%r"

tells_decl : Tells decl_kind decl_mark
tells_decl t is = table_spelling decl_mark decl_marks (refl, (refl, (refl, (refl, tt)))) t.bytes

kind_again : (k : DeclKind) (end : List SpecToken) → first decl_kind (spell (decl_mark k) ∷ end) ≡ taken k end
unfolding first
kind_again decl.Set end = refl
kind_again decl.Core end = refl
kind_again decl.Defined end = refl
kind_again decl.Rule end = refl

tells_prop : Tells prop_item prop_token
tells_prop t is = table_spelling prop_token prop_words (refl, (refl, (refl, (refl, (refl, (refl, (refl, (refl, (refl, (refl, tt)))))))))) t.bytes

prop_again : (p : PropWord) (end : List SpecToken) → first prop_item (spell (prop_token p) ∷ end) ≡ taken p end
unfolding first
prop_again Unique end = refl
prop_again Function end = refl
prop_again Invfunction end = refl
prop_again Abs end = refl
prop_again Nonabs end = refl
prop_again Transitive end = refl
prop_again Reflexive end = refl
prop_again Symmetric end = refl
prop_again Boxed end = refl
prop_again Pointer end = refl

props_exact : (ps : List PropWord) (ts rest : List SpecToken) → AreProps ts ps rest → Tokens ts → Exact ts (map prop_token ps) rest
props_exact [] ts rest h are = none_exact ts rest h.1 are
props_exact (p ∷ ps) ts rest (us, b, i, more) are =
    let one = first_exact prop_item prop_token tells_prop ts us p i are in
    exact_then ts us rest (prop_token p ∷ []) (map prop_token ps) one (props_exact ps us rest more one.1)

props_again : (ps : List PropWord) (ts rest end : List SpecToken) → AreProps ts ps rest → SameHead rest end → AreProps (spelled (map prop_token ps) end) ps end
props_again [] ts rest end h same = (sym (prop_head rest end same) ∙ ap (λ us. begins_prop us) h.1 ∙ h.0, refl)
props_again (p ∷ ps) ts rest end (us, b, i, more) same =
    let behind = spelled (map prop_token ps) end in
    (behind, ap (λ o. is_some o) (prop_again p behind), prop_again p behind, props_again ps us rest end more same)

-- ---- what survives printing

-- Tokens are left behind the item. In front of what is kept of these, its printed tokens are what is kept of the item's,
-- and are read as the item again.
abbrev Survives : List SpecToken → List SpecToken → (List SpecToken → List SpecToken) → (List SpecToken → List SpecToken → Type 0) → Type 0
Survives ts rest front Is = Tokens rest × ((end : List SpecToken) → Kept rest end → Kept ts (front end) × Is (front end) end)

-- ---- declarations

optional_mark : (ts us vs ws end : List SpecToken) (w : List ℕ) → Exact ts (codes "%s" ∷ []) us → first identifier_item us ≡ taken w vs → Exact us (w ∷ []) vs → IsOptional (codes "=") vs ws → Tokens vs → Kept ws end → Kept ts (spell (codes "%s") ∷ spell w ∷ end)
optional_mark ts us vs ws end w a i b (inl h) are kept =
    let whole = exact_then ts us ws (codes "%s" ∷ []) (w ∷ codes "=" ∷ []) a (exact_then us vs ws (w ∷ []) (codes "=" ∷ []) b (after_exact (codes "=") vs ws h are)) in
    subst (λ (xs : List SpecToken). Kept xs (spell (codes "%s") ∷ spell w ∷ end)) (sym whole.0) (mark_left w ws end (word_ident us vs w i) kept)
optional_mark ts us vs ws end w a i b (inr h) are kept =
    let whole = exact_then ts us vs (codes "%s" ∷ []) (w ∷ []) a b in
    kept_exact ts vs end (codes "%s" ∷ w ∷ []) whole (subst (λ (xs : List SpecToken). Kept xs end) h.1 kept)

optional_tokens : (vs ws : List SpecToken) → IsOptional (codes "=") vs ws → Tokens vs → Tokens ws
optional_tokens vs ws (inl h) are = (after_exact (codes "=") vs ws h are).1
optional_tokens vs ws (inr h) are = subst Tokens (sym h.1) are

set_survives : (ts rest : List SpecToken) (w : List ℕ) (s : SetForm) → IsDecl ts (DSet w s) rest → Tokens ts → Survives ts rest (λ end. spelled (set_decl_tokens w s) end) (λ new end. IsDecl new (DSet w s) end)
set_survives ts rest w s (us, vs, ws, a, b, c, d) are =
    let mark = first_exact decl_kind decl_mark tells_decl ts us decl.Set a are in
    let named = word_exact us vs w b mark.1 in
    let members = set_exact s ws rest d (optional_tokens vs ws c named.1) in (
      members.1,
      λ end kept.
          let new = spelled (set_tokens s) end in
          let is : IsSet new s end = set_again s ws rest end d (kept_ends rest end kept) in (
            optional_mark ts us vs ws new w mark b named c named.1 (kept_exact ws rest end (set_tokens s) members kept),
            (spell w ∷ new, new, new, kind_again decl.Set (spell w ∷ new), ident_again w new (word_ident us vs w b), inr (set_lacks s new end is.0, refl), is),
          ),
    )

-- what stands behind a predicate's parameters
abbrev end_tokens : Option Form → List PropWord → List (List ℕ)
end_tokens body ps = body_tokens body ++ map prop_token ps

end_exact : (body : Option Form) (ps : List PropWord) (ts rest : List SpecToken) → IsPredEnd ts body ps rest → Tokens ts → Exact ts (end_tokens body ps) rest
end_exact None ps ts rest h are = props_exact ps ts rest h are
end_exact (Some f) ps ts rest (us, vs, a, b, c) are =
    let formula = marked_formula (codes "=") ts us vs f a b are in
    exact_then ts vs rest (codes "=" ∷ formula_tokens f) (map prop_token ps) formula (props_exact ps vs rest c formula.1)

end_again : (body : Option Form) (ps : List PropWord) (ts rest end : List SpecToken) → IsPredEnd ts body ps rest → Tokens ts → Kept rest end → IsPredEnd (spelled (end_tokens body ps) end) body ps end
end_again None ps ts rest end h are kept = props_again ps ts rest end h (kept_head rest end kept)
end_again (Some f) ps ts rest end (us, vs, a, b, c) are kept =
    let formula = marked_formula (codes "=") ts us vs f a b are in
    let props = spelled (map prop_token ps) end in
    let props_kept : Kept vs props = kept_exact vs rest end (map prop_token ps) (props_exact ps vs rest c formula.1) kept in
    let behind : formula_front f props ≡ spelled (formula_tokens f ++ map prop_token ps) end = sym (spelled_append (formula_tokens f) (map prop_token ps) end) in (
      spelled (formula_tokens f ++ map prop_token ps) end,
      props,
      mark_again (codes "=") (spelled (formula_tokens f ++ map prop_token ps) end),
      subst (λ (xs : List SpecToken). IsFormula xs f props) behind (formula_again us vs props f b (kept_ends vs props props_kept)),
      props_again ps vs rest end c (kept_head rest end kept),
    )

directive_is : (body : Option Form) → decl_mark (pred_kind body) ≡ pred_directive body
directive_is None = refl
directive_is (Some f) = refl

directive_again : (body : Option Form) (end : List SpecToken) → first decl_kind (spell (pred_directive body) ∷ end) ≡ taken (pred_kind body) end
directive_again None end = kind_again decl.Core end
directive_again (Some f) end = kind_again decl.Defined end

-- a name, parameters and what follows
signed_front : (n xs ws : List (List ℕ)) (end : List SpecToken) → spelled (n ++ xs) (spelled ws end) ≡ spelled (n ++ (xs ++ ws)) end
signed_front n xs ws end = sym (spelled_append (n ++ xs) ws end) ∙ ap (λ vs. spelled vs end) (append_assoc n xs ws)

signature_leaves : (ts rest : List SpecToken) (n : NameForm) (xs : List (List ℕ)) → IsSignature ts n xs rest → Tokens ts → Tokens rest
signature_leaves ts rest n xs h are = (signature_exact ts rest n xs h are).1

pred_survives : (ts rest : List SpecToken) (d : PredForm) → IsDecl ts (DPred d) rest → Tokens ts → Survives ts rest (λ end. spelled (pred_tokens d) end) (λ new end. IsDecl new (DPred d) end)
pred_survives ts rest d (us, vs, a, b, c) are =
    let mark = subst (λ (m : List ℕ). Exact ts (m ∷ []) us) (directive_is d.body) (first_exact decl_kind decl_mark tells_decl ts us (pred_kind d.body) a are) in
    let ws = end_tokens d.body d.props in
    let after_mark = name_tokens d.name ++ (params_tokens d.params ++ ws) in
    let behind : Exact us after_mark rest = signed_exact us vs rest d.name d.params ws b mark.1 (λ more. end_exact d.body d.props vs rest c more) in
    let whole = exact_then ts us rest (pred_directive d.body ∷ []) after_mark mark behind in (
      behind.1,
      λ end kept.
          let tail_tokens : Tokens vs = signature_leaves us vs d.name d.params b mark.1 in
          let tail = end_exact d.body d.props vs rest c tail_tokens in
          let new_end = spelled ws end in
          let tail_kept : Kept vs new_end = kept_exact vs rest end ws tail kept in
          let signature : IsSignature (spelled (name_tokens d.name ++ params_tokens d.params) new_end) d.name d.params new_end = signature_again us vs new_end d.name d.params b (kept_ends vs new_end tail_kept) in (
            kept_exact ts rest end (pred_tokens d) whole kept,
            (
              spelled after_mark end,
              new_end,
              directive_again d.body (spelled after_mark end),
              subst (λ (xs : List SpecToken). IsSignature xs d.name d.params new_end) (signed_front (name_tokens d.name) (params_tokens d.params) ws end) signature,
              end_again d.body d.props vs rest end c tail_tokens kept,
            ),
          ),
    )

rule_survives : (ts rest : List SpecToken) (f g : Form) → IsDecl ts (DRule f g) rest → Tokens ts → Survives ts rest (λ end. spelled (rule_tokens f g) end) (λ new end. IsDecl new (DRule f g) end)
rule_survives ts rest f g (us, vs, ws, a, b, c, d) are =
    let mark = first_exact decl_kind decl_mark tells_decl ts us decl.Rule a are in
    let body = formula_exact us vs f b mark.1 in
    let head = marked_formula (codes "==>") vs ws rest g c d body.1 in
    let whole = exact_then ts us rest (codes "%r" ∷ []) (formula_tokens f ++ codes "==>" ∷ formula_tokens g) mark (exact_then us vs rest (formula_tokens f) (codes "==>" ∷ formula_tokens g) body head) in (
      head.1,
      λ end kept.
          let new_head = spell (codes "==>") ∷ formula_front g end in
          let head_kept : Kept vs new_head = kept_exact vs rest end (codes "==>" ∷ formula_tokens g) head kept in
          let new_body : IsFormula (formula_front f new_head) f new_head = formula_again us vs new_head f b (kept_ends vs new_head head_kept) in (
            kept_exact ts rest end (rule_tokens f g) whole kept,
            (
              spelled (formula_tokens f ++ codes "==>" ∷ formula_tokens g) end,
              new_head,
              formula_front g end,
              kind_again decl.Rule (spelled (formula_tokens f ++ codes "==>" ∷ formula_tokens g) end),
              subst (λ (xs : List SpecToken). IsFormula xs f new_head) (sym (spelled_append (formula_tokens f) (codes "==>" ∷ formula_tokens g) end)) new_body,
              mark_again (codes "==>") (formula_front g end),
              formula_again ws rest end g d (kept_ends rest end kept),
            ),
          ),
    )

decl_survives : (ts rest : List SpecToken) (x : DeclForm) → IsDecl ts x rest → Tokens ts → Survives ts rest (λ end. spelled (decl_tokens x) end) (λ new end. IsDecl new x end)
decl_survives ts rest (DSet w s) h are = set_survives ts rest w s h are
decl_survives ts rest (DPred d) h are = pred_survives ts rest d h are
decl_survives ts rest (DRule f g) h are = rule_survives ts rest f g h are

-- ---- what stands by itself, or in a foreach

abbrev IsDeclNest : List SpecToken → Nest DeclForm → List SpecToken → Type 0
IsDeclNest ts d rest = IsNest begins_decl (λ us x vs. IsDecl us x vs) ts d rest

abbrev nest_front : Nest DeclForm → List SpecToken → List SpecToken
nest_front d end = laid (nest_lines decl_tokens d) end

abbrev nests_front : Nests DeclForm → List SpecToken → List SpecToken
nests_front ds end = laid (nests_lines decl_tokens ds) end

foreach_again : (var : List ℕ) (members : SetForm) (body : Nests DeclForm) (ts us rest vs ws end : List SpecToken) → IsHead us var members rest → AreDecls vs body ws → Begins (codes "}") ws end
    → IsDeclNest (spelled (foreach_tokens var members) vs) (Foreach var members body) end
foreach_again var members body ts us rest vs ws end head inner close =
    (spelled (head_tokens var members) vs, vs, ws, mark_again (codes "foreach") (spelled (head_tokens var members) vs), head_again us rest vs var members head, inner, close)

mutual
  nest_survives : (d : Nest DeclForm) (ts rest : List SpecToken) → IsDeclNest ts d rest → Tokens ts → Survives ts rest (λ end. nest_front d end) (λ new end. IsDeclNest new d end)
  nest_survives (Single x) ts rest h are =
      let one = decl_survives ts rest x h.1 are in
      (one.0, λ end kept. let new = one.1 end kept in (new.0, (lacks_head (codes "foreach") ts (spelled (decl_tokens x) end) (kept_head ts (spelled (decl_tokens x) end) new.0) h.0, new.1)))
  nest_survives (Foreach var members body) ts rest (us, vs, ws, a, b, c, d) are =
      let word_ = after_exact (codes "foreach") ts us a are in
      let head = head_exact us vs var members b word_.1 in
      let first_ = exact_then ts us vs (codes "foreach" ∷ []) (head_tokens var members) word_ head in
      let inner = nests_survive body vs ws c head.1 in
      let last_ = after_exact (codes "}") ws rest d inner.0 in (
        last_.1,
        λ end kept.
            let close = spell (codes "}") ∷ end in
            let new = inner.1 close (kept_exact ws rest end (codes "}" ∷ []) last_ kept) in
            let lines : spelled (foreach_tokens var members) (nests_front body close) ≡ nest_front (Foreach var members body) end = ap (λ xs. spelled (foreach_tokens var members) xs) (sym (laid_append (nests_lines decl_tokens body) (lone (codes "}")) end)) in
            subst (λ (xs : List SpecToken). Kept ts xs × IsDeclNest xs (Foreach var members body) end) lines (
              kept_exact ts vs (nests_front body close) (foreach_tokens var members) first_ new.0,
              foreach_again var members body ts us vs (nests_front body close) close end b new.1 (mark_again (codes "}") end),
            ),
      )

  pub nests_survive : (ds : Nests DeclForm) (ts rest : List SpecToken) → AreDecls ts ds rest → Tokens ts → Survives ts rest (λ end. nests_front ds end) (λ new end. AreDecls new ds end)
  nests_survive no_nest ts rest h are =
      (subst Tokens (sym h.1) are, λ end kept. (subst (λ (xs : List SpecToken). Kept xs end) h.1 kept, (sym (decl_head rest end (kept_head rest end kept)) ∙ ap (λ xs. begins_decl xs) h.1 ∙ h.0, refl)))
  nests_survive (with_nest d ds) ts rest (us, b, i, more) are =
      let one = nest_survives d ts us i are in
      let others = nests_survive ds us rest more one.0 in (
        others.0,
        λ end kept.
            let behind = others.1 end kept in
            let new = one.1 (nests_front ds end) behind.0 in
            let lines : nest_front d (nests_front ds end) ≡ nests_front (with_nest d ds) end = sym (laid_append (nest_lines decl_tokens d) (nests_lines decl_tokens ds) end) in
            subst (λ (xs : List SpecToken). Kept ts xs × AreDecls xs (with_nest d ds) end) lines (
              new.0,
              (nests_front ds end, sym (decl_head ts (nest_front d (nests_front ds end)) (kept_head ts (nest_front d (nests_front ds end)) new.0)) ∙ b, new.1, behind.1),
            ),
      )
