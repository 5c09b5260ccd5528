-- What stands behind a formula is the end of the tokens.
use Rattle.std.proofs.Common.{◌≡◌, ℕ, List, Some}
use Rattle.std.specs.Prelude.{codes}
use Rattle.tv_lex.specs.Token.{SpecToken}
use Rattle.tv_phrases.specs.Tokens.{first, identifier_item}
use Rattle.tv_tree.specs.Forms.{Form}
use Rattle.tv_formula.specs.declared.binder.Binder.{Binder}
use Rattle.tv_formula.specs.Grammar.{Production, Whole, Imp, Unary, Joined, Behind, mark_of}
use Rattle.tv_formula.specs.declared.link.Link.TheVariants.{Iff, Or}
use Rattle.tv_formula.specs.Grammar.{Leaf, zero_leaf, one_leaf, half_leaf, same_leaf, differ_leaf}
use Rattle.tv_formula.specs.Grammar.{atom_leaf, star_leaf, plus_leaf, Binds, binds_some, binds_all}
use Rattle.tv_formula.specs.Grammar.{binds_pairs, Reads, cond, no_cond, joined, further, no_further, imp}
use Rattle.tv_formula.specs.Grammar.{no_imp, negation, binding, parentheses, leaf, IsFormula}
use Rattle.tv_edge_heads.proofs.Ends.{Ends, after_ends, first_ends, params_end, variables_end, pair_ends}
use Rattle.tv_edge_heads.proofs.Ends.{name_ends, arrow_ends}

pub word_ends : (whole ts us : List SpecToken) (w : List ℕ) → first identifier_item ts ≡ Some (w, us) → Ends whole ts
    → Ends whole us
word_ends whole ts us w is at = first_ends whole identifier_item ts us w is at

leaf_ends : (whole ts rest : List SpecToken) (f : Form) → Leaf ts f rest → Ends whole ts → Ends whole rest
leaf_ends whole _ _ _ (zero_leaf ts rest a) at = after_ends whole (codes "0") ts rest a at
leaf_ends whole _ _ _ (one_leaf ts rest a) at = after_ends whole (codes "1") ts rest a at
leaf_ends whole _ _ _ (half_leaf ts rest a) at = after_ends whole (codes "1/2") ts rest a at
leaf_ends whole _ _ _ (same_leaf ts us vs rest v w a b c) at =
    word_ends whole vs rest w c (after_ends whole (codes "==") us vs b (word_ends whole ts us v a at))
leaf_ends whole _ _ _ (differ_leaf ts us vs rest v w a b c) at =
    word_ends whole vs rest w c (after_ends whole (codes "!=") us vs b (word_ends whole ts us v a at))
leaf_ends whole _ _ _ (atom_leaf ts us rest n xs a b) at =
    params_end whole us rest xs b (name_ends whole ts us n a at)
leaf_ends whole _ _ _ (star_leaf ts us vs rest n x a b c) at =
    pair_ends whole vs rest x c (after_ends whole (codes "*") us vs b (name_ends whole ts us n a at))
leaf_ends whole _ _ _ (plus_leaf ts us vs rest n x a b c) at =
    pair_ends whole vs rest x c (after_ends whole (codes "+") us vs b (name_ends whole ts us n a at))

binds_ends : (whole ts rest : List SpecToken) (b : Binder) → Binds ts b rest → Ends whole ts → Ends whole rest
binds_ends whole _ _ _ (binds_some ts us rest xs a b) at = variables_end whole us rest xs b (after_ends whole (codes "E") ts us a at)
binds_ends whole _ _ _ (binds_all ts us rest xs a b) at = variables_end whole us rest xs b (after_ends whole (codes "A") ts us a at)
binds_ends whole _ _ _ (binds_pairs ts us vs rest x y a b c) at =
    pair_ends whole vs rest y c (pair_ends whole us vs x b (after_ends whole (codes "TC") ts us a at))

reads_end : (whole : List SpecToken) (p : Production) (ts rest : List SpecToken) (f : Form) → Reads p ts f rest
    → Ends whole ts → Ends whole rest
reads_end whole _ _ _ _ (cond ts us vs ws xs rest f g h a b c d e) at =
    let test = reads_end whole (Joined Iff) ts us f a at in
    let yes = reads_end whole Whole vs ws g c (after_ends whole (codes "?") us vs b test) in
    reads_end whole Whole xs rest h e (after_ends whole (codes ":") ws xs d yes)
reads_end whole _ _ _ _ (no_cond ts rest f a b) at = reads_end whole (Joined Iff) ts rest f a at
reads_end whole _ _ _ _ (joined link part ts us rest f g a b c) at =
    reads_end whole (Behind link f) us rest g c (reads_end whole part ts us f b at)
reads_end whole _ _ _ _ (further link part ts us vs rest f g both h a b c d e) at =
    reads_end whole (Behind link both) vs rest h e
    (reads_end whole part us vs g c (after_ends whole (mark_of link) ts us a at))
reads_end whole _ _ _ _ (no_further link ts f a) at = at
reads_end whole _ _ _ _ (imp ts us vs rest f g a b c) at =
    reads_end whole Imp vs rest g c (arrow_ends whole us vs b (reads_end whole (Joined Or) ts us f a at))
reads_end whole _ _ _ _ (no_imp ts rest f a b) at = reads_end whole (Joined Or) ts rest f a at
reads_end whole _ _ _ _ (negation ts us rest f a b) at = reads_end whole Unary us rest f b (after_ends whole (codes "!") ts us a at)
reads_end whole _ _ _ _ (binding ts us rest binder f g a b c) at =
    reads_end whole Whole us rest f b (binds_ends whole ts us binder a at)
reads_end whole _ _ _ _ (parentheses ts us vs rest f a b c) at =
    after_ends whole (codes ")") vs rest c (reads_end whole Whole us vs f b (after_ends whole (codes "(") ts us a at))
reads_end whole _ _ _ _ (leaf ts rest f a) at = leaf_ends whole ts rest f a at

pub formula_ends : (whole ts rest : List SpecToken) (f : Form) → IsFormula ts f rest → Ends whole ts → Ends whole rest
formula_ends whole ts rest f is at = reads_end whole Whole ts rest f is at
