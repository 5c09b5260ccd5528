-- The words of the grammar's formulas are spelled as tokens spell them.
use Rattle.std.proofs.Common.{◌≡◌, ℕ, List, Some, subst}
use Rattle.std.specs.Prelude.{codes, ⊤}
use Rattle.tv_lex.specs.Token.{SpecToken}
use Rattle.tv_model.specs.Spelling.{IsIdentifier}
use Rattle.tv_phrases.specs.Tokens.{first, identifier_item}
use Rattle.tv_tree.specs.Forms.{Form}
use Rattle.tv_tree.specs.Spelled.{AreIdentifiers, IsSpelledForm}
use Rattle.tv_formula.specs.declared.binder.Binder.{Binder}
use Rattle.tv_formula.specs.declared.binder.Binder.TheVariants.{Exists, Forall, Closure}
use Rattle.tv_formula.specs.declared.link.Link.{Link}
use Rattle.tv_formula.specs.declared.link.Link.TheVariants.{Iff, Or, And}
use Rattle.tv_formula.specs.Grammar.{Production, Whole, Imp, Unary, Joined, Behind, mark_of, join, operand}
use Rattle.tv_formula.specs.Grammar.{over, Leaf, zero_leaf, one_leaf, half_leaf, same_leaf, differ_leaf}
use Rattle.tv_formula.specs.Grammar.{atom_leaf, star_leaf, plus_leaf, Binds, binds_some, binds_all}
use Rattle.tv_formula.specs.Grammar.{binds_pairs, Reads, cond, no_cond, joined, further, no_further, imp}
use Rattle.tv_formula.specs.Grammar.{no_imp, negation, binding, parentheses, leaf, IsFormula}
use Rattle.tv_phrases.proofs.LeftTokens.{Tokens, after_leaves}
use Rattle.tv_parse.proofs.SpelledPhrases.{says_identifier, first_leaves, params_leave}
use Rattle.tv_parse.proofs.SpelledPhrases.{variables_leave, pair_leaves, name_leaves, arrow_leaves}

pub word_leaves : (ts us : List SpecToken) (w : List ℕ) → first identifier_item ts ≡ Some (w, us) → Tokens ts → IsIdentifier w × Tokens us
word_leaves ts us w is are = first_leaves identifier_item IsIdentifier says_identifier ts us w is are

leaf_spelled : (ts rest : List SpecToken) (f : Form) → Leaf ts f rest → Tokens ts → IsSpelledForm f × Tokens rest
leaf_spelled _ _ _ (zero_leaf ts rest a) are = (tt, after_leaves (codes "0") ts rest a are)
leaf_spelled _ _ _ (one_leaf ts rest a) are = (tt, after_leaves (codes "1") ts rest a are)
leaf_spelled _ _ _ (half_leaf ts rest a) are = (tt, after_leaves (codes "1/2") ts rest a are)
leaf_spelled _ _ _ (same_leaf ts us vs rest v w a b c) are =
    let left = word_leaves ts us v a are in
    let right = word_leaves vs rest w c (after_leaves (codes "==") us vs b left.1) in
    ((left.0, right.0), right.1)
leaf_spelled _ _ _ (differ_leaf ts us vs rest v w a b c) are =
    let left = word_leaves ts us v a are in
    let right = word_leaves vs rest w c (after_leaves (codes "!=") us vs b left.1) in
    ((left.0, right.0), right.1)
leaf_spelled _ _ _ (atom_leaf ts us rest n xs a b) are =
    let named = name_leaves ts us n a are in
    let args = params_leave us rest xs b named.1 in
    ((named.0, args.0), args.1)
leaf_spelled _ _ _ (star_leaf ts us vs rest n x a b c) are =
    let named = name_leaves ts us n a are in
    let args = pair_leaves vs rest x c (after_leaves (codes "*") us vs b named.1) in
    ((named.0, args.0.0, args.0.1), args.1)
leaf_spelled _ _ _ (plus_leaf ts us vs rest n x a b c) are =
    let named = name_leaves ts us n a are in
    let args = pair_leaves vs rest x c (after_leaves (codes "+") us vs b named.1) in
    ((named.0, args.0.0, args.0.1), args.1)

-- the variables of a binder
abbrev IsSpelledBinder : Binder → Type 0
IsSpelledBinder (Exists xs) = AreIdentifiers xs
IsSpelledBinder (Forall xs) = AreIdentifiers xs
IsSpelledBinder (Closure from to left right) = IsIdentifier from × IsIdentifier to × IsIdentifier left × IsIdentifier right

binds_spelled : (ts rest : List SpecToken) (b : Binder) → Binds ts b rest → Tokens ts → IsSpelledBinder b × Tokens rest
binds_spelled _ _ _ (binds_some ts us rest xs a b) are = variables_leave us rest xs b (after_leaves (codes "E") ts us a are)
binds_spelled _ _ _ (binds_all ts us rest xs a b) are = variables_leave us rest xs b (after_leaves (codes "A") ts us a are)
binds_spelled _ _ _ (binds_pairs ts us vs rest x y a b c) are =
    let ends = pair_leaves us vs x b (after_leaves (codes "TC") ts us a are) in
    let steps = pair_leaves vs rest y c ends.1 in
    ((ends.0.0, ends.0.1, steps.0.0, steps.0.1), steps.1)

over_spelled : (b : Binder) (f : Form) → IsSpelledBinder b → IsSpelledForm f → IsSpelledForm (over b f)
over_spelled (Exists xs) f b s = (b, s)
over_spelled (Forall xs) f b s = (b, s)
over_spelled (Closure from to left right) f b s = (b.0, b.1, b.2, b.3, s)

join_spelled : (link : Link) (f g : Form) → IsSpelledForm f → IsSpelledForm g → IsSpelledForm (join link f g)
join_spelled Iff f g a b = (a, b)
join_spelled Or f g a b = (a, b)
join_spelled And f g a b = (a, b)

-- the left part, where there is one
abbrev IsSpelledStart : Production → Type 0
IsSpelledStart Whole = ⊤
IsSpelledStart Imp = ⊤
IsSpelledStart Unary = ⊤
IsSpelledStart (Joined link) = ⊤
IsSpelledStart (Behind link f) = IsSpelledForm f

by_link : (link : Link) → IsSpelledStart (operand link)
by_link Iff = tt
by_link Or = tt
by_link And = tt

operand_start : (link : Link) (part : Production) → operand link ≡ part → IsSpelledStart part
operand_start link part e = subst IsSpelledStart e (by_link link)

reads_spelled : (p : Production) (ts rest : List SpecToken) (f : Form) → Reads p ts f rest → IsSpelledStart p → Tokens ts → IsSpelledForm f × Tokens rest
reads_spelled _ _ _ _ (cond ts us vs ws xs rest f g h a b c d e) s are =
    let test = reads_spelled (Joined Iff) ts us f a tt are in
    let yes = reads_spelled Whole vs ws g c tt (after_leaves (codes "?") us vs b test.1) in
    let no = reads_spelled Whole xs rest h e tt (after_leaves (codes ":") ws xs d yes.1) in
    ((test.0, yes.0, no.0), no.1)
reads_spelled _ _ _ _ (no_cond ts rest f a b) s are = reads_spelled (Joined Iff) ts rest f a tt are
reads_spelled _ _ _ _ (joined link part ts us rest f g a b c) s are =
    let first_ = reads_spelled part ts us f b (operand_start link part a) are in
    reads_spelled (Behind link f) us rest g c first_.0 first_.1
reads_spelled _ _ _ _ (further link part ts us vs rest f g both h a b c d e) s are =
    let right = reads_spelled part us vs g c (operand_start link part b) (after_leaves (mark_of link) ts us a are) in
    reads_spelled (Behind link both) vs rest h e (subst IsSpelledForm d (join_spelled link f g s right.0)) right.1
reads_spelled _ _ _ _ (no_further link ts f a) s are = (s, are)
reads_spelled _ _ _ _ (imp ts us vs rest f g a b c) s are =
    let left = reads_spelled (Joined Or) ts us f a tt are in
    let right = reads_spelled Imp vs rest g c tt (arrow_leaves us vs b left.1) in
    ((left.0, right.0), right.1)
reads_spelled _ _ _ _ (no_imp ts rest f a b) s are = reads_spelled (Joined Or) ts rest f a tt are
reads_spelled _ _ _ _ (negation ts us rest f a b) s are = reads_spelled Unary us rest f b tt (after_leaves (codes "!") ts us a are)
reads_spelled _ _ _ _ (binding ts us rest binder f g a b c) s are =
    let binds = binds_spelled ts us binder a are in
    let body = reads_spelled Whole us rest f b tt binds.1 in
    (subst IsSpelledForm c (over_spelled binder f binds.0 body.0), body.1)
reads_spelled _ _ _ _ (parentheses ts us vs rest f a b c) s are =
    let inner = reads_spelled Whole us vs f b tt (after_leaves (codes "(") ts us a are) in
    (inner.0, after_leaves (codes ")") vs rest c inner.1)
reads_spelled _ _ _ _ (leaf ts rest f a) s are = leaf_spelled ts rest f a are

-- what stands behind a formula is tokens too
pub formula_spelled : (ts rest : List SpecToken) (f : Form) → IsFormula ts f rest → Tokens ts → IsSpelledForm f × Tokens rest
formula_spelled ts rest f is are = reads_spelled Whole ts rest f is tt are
