-- Tokens off whose front a formula was read are the printed tokens of the formula, and those behind it.
use Rattle.std.proofs.Common.{◌≡◌, ℕ, List, [], ◌∷◌, ◌++◌, Some, refl, sym, ◌∙◌, ap, subst, append_assoc}
use Rattle.std.specs.Prelude.{codes}
use Rattle.tv_lemmas.proofs.Lists.{nothing_added}
use Rattle.tv_lex.specs.Token.{SpecToken}
use Rattle.tv_phrases.specs.Tokens.{after, first, text_item}
use Rattle.tv_phrases.proofs.Facts.{on_bind, on_choose, at_some}
use Rattle.tv_tree.specs.Forms.{Form}
use Rattle.tv_tree.specs.Printed.{formula_tokens, params_tokens, name_tokens, pair_tokens}
use Rattle.tv_formula.specs.declared.binder.Binder.{Binder}
use Rattle.tv_formula.specs.declared.binder.Binder.TheVariants.{Exists, Forall, Closure}
use Rattle.tv_formula.specs.declared.link.Link.{Link}
use Rattle.tv_formula.specs.declared.link.Link.TheVariants.{Iff, Or, And}
use Rattle.tv_formula.specs.Grammar.{Production, Whole, Imp, Unary, Joined, Behind, mark_of, join, operand}
use Rattle.tv_formula.specs.Grammar.{name_form, arrow, over, Leaf, zero_leaf, one_leaf, half_leaf, same_leaf}
use Rattle.tv_formula.specs.Grammar.{differ_leaf, atom_leaf, star_leaf, plus_leaf, Binds, binds_some}
use Rattle.tv_formula.specs.Grammar.{binds_all, binds_pairs, Reads, cond, no_cond, joined, further}
use Rattle.tv_formula.specs.Grammar.{no_further, imp, no_imp, negation, binding, parentheses, leaf, IsFormula}
use Rattle.tv_front.proofs.Exact.{Tokens, Exact, exact_then, after_exact, word_exact, params_exact}
use Rattle.tv_front.proofs.Exact.{variables_exact, pair_exact, name_exact}

leaf_exact : (ts rest : List SpecToken) (f : Form) → Leaf ts f rest → Tokens ts → Exact ts (formula_tokens f) rest
leaf_exact _ _ _ (zero_leaf ts rest a) are = after_exact (codes "0") ts rest a are
leaf_exact _ _ _ (one_leaf ts rest a) are = after_exact (codes "1") ts rest a are
leaf_exact _ _ _ (half_leaf ts rest a) are = after_exact (codes "1/2") ts rest a are
leaf_exact _ _ _ (same_leaf ts us vs rest v w a b c) are =
    let left = word_exact ts us v a are in
    let mark = after_exact (codes "==") us vs b left.1 in
    exact_then ts us rest (v ∷ []) (codes "==" ∷ w ∷ []) left (exact_then us vs rest (codes "==" ∷ []) (w ∷ []) mark (word_exact vs rest w c mark.1))
leaf_exact _ _ _ (differ_leaf ts us vs rest v w a b c) are =
    let left = word_exact ts us v a are in
    let mark = after_exact (codes "!=") us vs b left.1 in
    exact_then ts us rest (v ∷ []) (codes "!=" ∷ w ∷ []) left (exact_then us vs rest (codes "!=" ∷ []) (w ∷ []) mark (word_exact vs rest w c mark.1))
leaf_exact _ _ _ (atom_leaf ts us rest n xs a b) are =
    let named = name_exact ts us n a are in
    exact_then ts us rest (name_tokens (name_form n)) (params_tokens xs) named (params_exact us rest xs b named.1)
leaf_exact _ _ _ (star_leaf ts us vs rest n x a b c) are =
    let named = name_exact ts us n a are in
    let mark = after_exact (codes "*") us vs b named.1 in
    exact_then ts us rest (name_tokens (name_form n)) (codes "*" ∷ pair_tokens x.0 x.1) named (exact_then us vs rest (codes "*" ∷ []) (pair_tokens x.0 x.1) mark (pair_exact vs rest x c mark.1))
leaf_exact _ _ _ (plus_leaf ts us vs rest n x a b c) are =
    let named = name_exact ts us n a are in
    let mark = after_exact (codes "+") us vs b named.1 in
    exact_then ts us rest (name_tokens (name_form n)) (codes "+" ∷ pair_tokens x.0 x.1) named (exact_then us vs rest (codes "+" ∷ []) (pair_tokens x.0 x.1) mark (pair_exact vs rest x c mark.1))

abbrev binder_tokens : Binder → List (List ℕ)
binder_tokens (Exists xs) = codes "E" ∷ params_tokens xs
binder_tokens (Forall xs) = codes "A" ∷ params_tokens xs
binder_tokens (Closure from to left right) = codes "TC" ∷ (pair_tokens from to ++ pair_tokens left right)

binds_exact : (ts rest : List SpecToken) (b : Binder) → Binds ts b rest → Tokens ts → Exact ts (binder_tokens b) rest
binds_exact _ _ _ (binds_some ts us rest xs a b) are =
    let mark = after_exact (codes "E") ts us a are in
    exact_then ts us rest (codes "E" ∷ []) (params_tokens xs) mark (variables_exact us rest xs b mark.1)
binds_exact _ _ _ (binds_all ts us rest xs a b) are =
    let mark = after_exact (codes "A") ts us a are in
    exact_then ts us rest (codes "A" ∷ []) (params_tokens xs) mark (variables_exact us rest xs b mark.1)
binds_exact _ _ _ (binds_pairs ts us vs rest x y a b c) are =
    let mark = after_exact (codes "TC") ts us a are in
    let ends = pair_exact us vs x b mark.1 in
    exact_then ts us rest (codes "TC" ∷ []) (pair_tokens x.0 x.1 ++ pair_tokens y.0 y.1) mark (exact_then us vs rest (pair_tokens x.0 x.1) (pair_tokens y.0 y.1) ends (pair_exact vs rest y c ends.1))

over_tokens : (b : Binder) (f : Form) → binder_tokens b ++ formula_tokens f ≡ formula_tokens (over b f)
over_tokens (Exists xs) f = refl
over_tokens (Forall xs) f = refl
over_tokens (Closure from to left right) f = refl

join_tokens : (link : Link) (f g : Form) → formula_tokens (join link f g) ≡ formula_tokens f ++ mark_of link ∷ formula_tokens g
join_tokens Iff f g = refl
join_tokens Or f g = refl
join_tokens And f g = refl

exact_arrow : (ts : List SpecToken) → Tokens ts → (us : List SpecToken) → arrow ts ≡ Some us → Exact ts (codes "->" ∷ []) us
unfolding arrow
exact_arrow ts are us is =
    at_some (arrow ts) (λ vs. Exact ts (codes "->" ∷ []) vs) us
    (on_bind (after (codes "->") ts) _ _ (λ vs begins. on_choose (first text_item vs) _ _ _ (λ e. after_exact (codes "->") ts vs begins are) (λ x e. tt))) is

-- what stands behind a left part, in front of the rest
abbrev ExactBehind : Form → List SpecToken → Form → List SpecToken → Type 0
ExactBehind f ts g rest = (more : List (List ℕ)) × (formula_tokens g ≡ formula_tokens f ++ more) × Exact ts more rest

abbrev Exactly : Production → List SpecToken → Form → List SpecToken → Type 0
Exactly Whole ts f rest = Exact ts (formula_tokens f) rest
Exactly Imp ts f rest = Exact ts (formula_tokens f) rest
Exactly Unary ts f rest = Exact ts (formula_tokens f) rest
Exactly (Joined link) ts f rest = Exact ts (formula_tokens f) rest
Exactly (Behind link f) ts g rest = ExactBehind f ts g rest

by_link : (link : Link) (ts : List SpecToken) (f : Form) (rest : List SpecToken) → Exactly (operand link) ts f rest → Exact ts (formula_tokens f) rest
by_link Iff ts f rest h = h
by_link Or ts f rest h = h
by_link And ts f rest h = h

operand_exact : (link : Link) (part : Production) (ts : List SpecToken) (f : Form) (rest : List SpecToken) → operand link ≡ part → Exactly part ts f rest → Exact ts (formula_tokens f) rest
operand_exact link part ts f rest e = subst (λ (q : Production). Exactly q ts f rest → Exact ts (formula_tokens f) rest) e (by_link link ts f rest)

-- a left part and what stands behind it are the whole
behind_exact : (f g : Form) (ts us rest : List SpecToken) → Exact ts (formula_tokens f) us → ExactBehind f us g rest → Exact ts (formula_tokens g) rest
behind_exact f g ts us rest a (more, e, b) = subst (λ (ws : List (List ℕ)). Exact ts ws rest) (sym e) (exact_then ts us rest (formula_tokens f) more a b)

further_exact : (link : Link) (f g both h : Form) (ts us vs rest : List SpecToken) → Exact ts (mark_of link ∷ []) us → Exact us (formula_tokens g) vs → join link f g ≡ both → ExactBehind both vs h rest → ExactBehind f ts h rest
further_exact link f g both h ts us vs rest a b d (more, e, c) = (
  mark_of link ∷ (formula_tokens g ++ more),
  e ∙ ap (λ k. formula_tokens k ++ more) (sym d) ∙ ap (λ ws. ws ++ more) (join_tokens link f g) ∙ append_assoc (formula_tokens f) (mark_of link ∷ formula_tokens g) more,
  exact_then ts us rest (mark_of link ∷ []) (formula_tokens g ++ more) a (exact_then us vs rest (formula_tokens g) more b c),
)

reads_exact : (p : Production) (ts rest : List SpecToken) (f : Form) → Reads p ts f rest → Tokens ts → Exactly p ts f rest
reads_exact _ _ _ _ (cond ts us vs ws xs rest f g h a b c d e) are =
    let test = reads_exact (Joined Iff) ts us f a are in
    let mark = after_exact (codes "?") us vs b test.1 in
    let yes = reads_exact Whole vs ws g c mark.1 in
    let colon = after_exact (codes ":") ws xs d yes.1 in
    let other = reads_exact Whole xs rest h e colon.1 in
    exact_then ts us rest (formula_tokens f) (codes "?" ∷ (formula_tokens g ++ codes ":" ∷ formula_tokens h)) test
    (exact_then us vs rest (codes "?" ∷ []) (formula_tokens g ++ codes ":" ∷ formula_tokens h) mark
    (exact_then vs ws rest (formula_tokens g) (codes ":" ∷ formula_tokens h) yes
    (exact_then ws xs rest (codes ":" ∷ []) (formula_tokens h) colon other)))
reads_exact _ _ _ _ (no_cond ts rest f a b) are = reads_exact (Joined Iff) ts rest f a are
reads_exact _ _ _ _ (joined link part ts us rest f g a b c) are =
    let left = operand_exact link part ts f us a (reads_exact part ts us f b are) in
    behind_exact f g ts us rest left (reads_exact (Behind link f) us rest g c left.1)
reads_exact _ _ _ _ (further link part ts us vs rest f g both h a b c d e) are =
    let mark = after_exact (mark_of link) ts us a are in
    let right = operand_exact link part us g vs b (reads_exact part us vs g c mark.1) in
    further_exact link f g both h ts us vs rest mark right d (reads_exact (Behind link both) vs rest h e right.1)
reads_exact _ _ _ _ (no_further link ts f a) are = ([], nothing_added (formula_tokens f), (refl, are))
reads_exact _ _ _ _ (imp ts us vs rest f g a b c) are =
    let left = reads_exact (Joined Or) ts us f a are in
    let mark = exact_arrow us left.1 vs b in
    exact_then ts us rest (formula_tokens f) (codes "->" ∷ formula_tokens g) left (exact_then us vs rest (codes "->" ∷ []) (formula_tokens g) mark (reads_exact Imp vs rest g c mark.1))
reads_exact _ _ _ _ (no_imp ts rest f a b) are = reads_exact (Joined Or) ts rest f a are
reads_exact _ _ _ _ (negation ts us rest f a b) are =
    let mark = after_exact (codes "!") ts us a are in
    exact_then ts us rest (codes "!" ∷ []) (formula_tokens f) mark (reads_exact Unary us rest f b mark.1)
reads_exact _ _ _ _ (binding ts us rest binder f g a b c) are =
    let binds = binds_exact ts us binder a are in
    subst (λ (ws : List (List ℕ)). Exact ts ws rest) (over_tokens binder f ∙ ap (λ k. formula_tokens k) c)
    (exact_then ts us rest (binder_tokens binder) (formula_tokens f) binds (reads_exact Whole us rest f b binds.1))
reads_exact _ _ _ _ (parentheses ts us vs rest f a b c) are =
    let open_ = after_exact (codes "(") ts us a are in
    let inner = reads_exact Whole us vs f b open_.1 in
    exact_then ts us rest (codes "(" ∷ []) (formula_tokens f ++ codes ")" ∷ []) open_ (exact_then us vs rest (formula_tokens f) (codes ")" ∷ []) inner (after_exact (codes ")") vs rest c inner.1))
reads_exact _ _ _ _ (leaf ts rest f a) are = leaf_exact ts rest f a are

pub formula_exact : (ts rest : List SpecToken) (f : Form) → IsFormula ts f rest → Tokens ts → Exact ts (formula_tokens f) rest
formula_exact ts rest f is are = reads_exact Whole ts rest f is are
