-- Each formula of the grammar is read, where the depth suffices. So from any place there is at most one.
use Rattle.std.proofs.Common.{◌≡◌, ℕ, zero, suc, ◌+◌, ◌-◌, ◌*◌, ◌<◌, ◌≤◌, List, Option, Some, None, true}
use Rattle.std.proofs.Common.{false, length, refl, sym, ◌∙◌, ap, arith}
use Rattle.std.specs.Prelude.{codes}
use Rattle.std.specs.Str.{bytes_eq}
use Rattle.tv_lex.specs.Token.{SpecToken}
use Rattle.tv_phrases.specs.Reading.{taken, ◌>>=◌}
use Rattle.tv_phrases.specs.Tokens.{after, first, identifier_item, text_item}
use Rattle.tv_phrases.specs.Lists.{params, name, between}
use Rattle.tv_phrases.proofs.Facts.{on_bind, on_choose, at_some, other_mark, not_identifier, name_parts}
use Rattle.tv_phrases.proofs.Facts.{brackets_lack, after_shorter, params_shorter, variables_shorter}
use Rattle.tv_phrases.proofs.Facts.{pair_shorter, identifier_shorter, name_shorter}
use Rattle.tv_tree.specs.Forms.{Form, FParen, FNot, FCond, FImp}
use Rattle.tv_formula.specs.declared.binder.Binder.{Binder}
use Rattle.tv_formula.specs.declared.link.Link.{Link}
use Rattle.tv_formula.specs.declared.link.Link.TheVariants.{Iff, Or, And}
use Rattle.tv_formula.specs.Grammar.{Production, Whole, Imp, Unary, Joined, Behind, mark_of, join, operand}
use Rattle.tv_formula.specs.Grammar.{name_form, arrow, over, Leaf, zero_leaf, one_leaf, half_leaf, same_leaf}
use Rattle.tv_formula.specs.Grammar.{differ_leaf, atom_leaf, star_leaf, plus_leaf, Binds, binds_some}
use Rattle.tv_formula.specs.Grammar.{binds_all, binds_pairs, Reads, cond, no_cond, joined, further}
use Rattle.tv_formula.specs.Grammar.{no_further, imp, no_imp, negation, binding, parentheses, leaf}
use Rattle.tv_formula.specs.Reading.{Reader, compared, applied, closed, behind_name, predicate, named}
use Rattle.tv_formula.specs.Reading.{leaf_reading, negated, begins_binder, existence, universality}
use Rattle.tv_formula.specs.Reading.{transitive, binder, bound, grouped, unary_step, imp_step, joined_step}
use Rattle.tv_formula.specs.Reading.{behind_step, chosen, whole_step, step, reading}

-- how many levels of the grammar stand below a production at the same place
abbrev pub rank : Production → ℕ
rank Unary = 1
rank (Behind link f) = 1
rank (Joined And) = 2
rank (Joined Or) = 3
rank Imp = 4
rank (Joined Iff) = 5
rank Whole = 6

-- ---- the tokens that are left

arrow_shorter : (ts us : List SpecToken) → arrow ts ≡ Some us → length us < length ts
unfolding arrow
arrow_shorter ts us is =
    at_some (arrow ts) (λ vs. length vs < length ts) us
    (on_bind (after (codes "->") ts) _ _ (λ vs begins. on_choose (first text_item vs) _ _ _ (λ e. after_shorter (codes "->") ts vs begins) (λ x e. tt))) is

leaf_shorter : (ts rest : List SpecToken) (f : Form) → Leaf ts f rest → length rest ≤ length ts
leaf_shorter _ _ _ (zero_leaf ts rest a) = let l : length rest < length ts = after_shorter (codes "0") ts rest a in omega arith
leaf_shorter _ _ _ (one_leaf ts rest a) = let l : length rest < length ts = after_shorter (codes "1") ts rest a in omega arith
leaf_shorter _ _ _ (half_leaf ts rest a) = let l : length rest < length ts = after_shorter (codes "1/2") ts rest a in omega arith
leaf_shorter _ _ _ (same_leaf ts us vs rest v w a b c) =
    let l : length us ≤ length ts = identifier_shorter ts us v a in
    let k : length vs < length us = after_shorter (codes "==") us vs b in
    let j : length rest ≤ length vs = identifier_shorter vs rest w c in omega arith
leaf_shorter _ _ _ (differ_leaf ts us vs rest v w a b c) =
    let l : length us ≤ length ts = identifier_shorter ts us v a in
    let k : length vs < length us = after_shorter (codes "!=") us vs b in
    let j : length rest ≤ length vs = identifier_shorter vs rest w c in omega arith
leaf_shorter _ _ _ (atom_leaf ts us rest n xs a b) =
    let l : length us ≤ length ts = name_shorter ts us n a in
    let j : length rest ≤ length us = params_shorter us rest xs b in omega arith
leaf_shorter _ _ _ (star_leaf ts us vs rest n x a b c) =
    let l : length us ≤ length ts = name_shorter ts us n a in
    let k : length vs < length us = after_shorter (codes "*") us vs b in
    let j : length rest ≤ length vs = pair_shorter vs rest x c in omega arith
leaf_shorter _ _ _ (plus_leaf ts us vs rest n x a b c) =
    let l : length us ≤ length ts = name_shorter ts us n a in
    let k : length vs < length us = after_shorter (codes "+") us vs b in
    let j : length rest ≤ length vs = pair_shorter vs rest x c in omega arith

binds_shorter : (ts rest : List SpecToken) (b : Binder) → Binds ts b rest → length rest < length ts
binds_shorter _ _ _ (binds_some ts us rest xs a b) =
    let l : length us < length ts = after_shorter (codes "E") ts us a in
    let k : length rest ≤ length us = variables_shorter us rest xs b in omega arith
binds_shorter _ _ _ (binds_all ts us rest xs a b) =
    let l : length us < length ts = after_shorter (codes "A") ts us a in
    let k : length rest ≤ length us = variables_shorter us rest xs b in omega arith
binds_shorter _ _ _ (binds_pairs ts us vs rest x y a b c) =
    let l : length us < length ts = after_shorter (codes "TC") ts us a in
    let k : length vs ≤ length us = pair_shorter us vs x b in
    let j : length rest ≤ length vs = pair_shorter vs rest y c in omega arith

pub shorter : (p : Production) (ts rest : List SpecToken) (f : Form) → Reads p ts f rest → length rest ≤ length ts
shorter _ _ _ _ (cond ts us vs ws xs rest f g h a b c d e) =
    let i : length us ≤ length ts = shorter (Joined Iff) ts us f a in
    let j : length vs < length us = after_shorter (codes "?") us vs b in
    let k : length ws ≤ length vs = shorter Whole vs ws g c in
    let l : length xs < length ws = after_shorter (codes ":") ws xs d in
    let m : length rest ≤ length xs = shorter Whole xs rest h e in omega arith
shorter _ _ _ _ (no_cond ts rest f a b) = shorter (Joined Iff) ts rest f a
shorter _ _ _ _ (joined link part ts us rest f g a b c) =
    let i : length us ≤ length ts = shorter part ts us f b in
    let j : length rest ≤ length us = shorter (Behind link f) us rest g c in omega arith
shorter _ _ _ _ (further link part ts us vs rest f g both h a b c d e) =
    let i : length us < length ts = after_shorter (mark_of link) ts us a in
    let j : length vs ≤ length us = shorter part us vs g c in
    let k : length rest ≤ length vs = shorter (Behind link both) vs rest h e in omega arith
shorter _ _ _ _ (no_further link ts f a) = omega arith
shorter _ _ _ _ (imp ts us vs rest f g a b c) =
    let i : length us ≤ length ts = shorter (Joined Or) ts us f a in
    let j : length vs < length us = arrow_shorter us vs b in
    let k : length rest ≤ length vs = shorter Imp vs rest g c in omega arith
shorter _ _ _ _ (no_imp ts rest f a b) = shorter (Joined Or) ts rest f a
shorter _ _ _ _ (negation ts us rest f a b) =
    let i : length us < length ts = after_shorter (codes "!") ts us a in
    let j : length rest ≤ length us = shorter Unary us rest f b in omega arith
shorter _ _ _ _ (binding ts us rest binder f g a b c) =
    let i : length us < length ts = binds_shorter ts us binder a in
    let j : length rest ≤ length us = shorter Whole us rest f b in omega arith
shorter _ _ _ _ (parentheses ts us vs rest f a b c) =
    let i : length us < length ts = after_shorter (codes "(") ts us a in
    let j : length vs ≤ length us = shorter Whole us vs f b in
    let k : length rest < length vs = after_shorter (codes ")") vs rest c in omega arith
shorter _ _ _ _ (leaf ts rest f a) = leaf_shorter ts rest f a

-- ---- formulas without formulas in them

constant_free : (ts us : List SpecToken) (w : List ℕ) → first identifier_item ts ≡ taken w us → leaf_reading ts ≡ named ts
unfolding leaf_reading
constant_free ts us w is =
    rw (not_identifier (codes "0") w ts us refl is, not_identifier (codes "1") w ts us refl is, not_identifier (codes "1/2") w ts us refl is) refl

-- what stands behind a name is no equality
name_predicate : (ts us : List SpecToken) (n : List ℕ × List (List ℕ)) → name ts ≡ taken n us → after (codes "==") us ≡ None → after (codes "!=") us ≡ None → leaf_reading ts ≡ behind_name (name_form n) us
unfolding named predicate
name_predicate ts us n is no_same no_differ =
    let parts = name_parts ts us n is in
    constant_free ts parts.0 n.0 parts.1
    ∙ rw (parts.1, brackets_lack (codes "==") parts.0 us n.1 refl parts.2 no_same, brackets_lack (codes "!=") parts.0 us n.1 refl parts.2 no_differ, is) refl

bind_begins : {A B : Type 0} (o : Option A) (k : A → Option B) (y : B) → (o >>= k) ≡ Some y → (v : A) × (o ≡ Some v)
bind_begins None k y e = absurd (cc)
bind_begins (Some v) k y e = (v, refl)

params_begin : (ts us : List SpecToken) (xs : List (List ℕ)) → params ts ≡ taken xs us → (vs : List SpecToken) × (after (codes "(") ts ≡ Some vs)
unfolding between
params_begin ts us xs is = bind_begins (after (codes "(") ts) _ _ is

pub leaf_complete : (ts rest : List SpecToken) (f : Form) → Leaf ts f rest → leaf_reading ts ≡ taken f rest
unfolding leaf_reading named compared behind_name applied closed
leaf_complete _ _ _ (zero_leaf ts rest a) = rw a refl
leaf_complete _ _ _ (one_leaf ts rest a) = rw (other_mark (codes "1") (codes "0") ts rest refl a, a) refl
leaf_complete _ _ _ (half_leaf ts rest a) = rw (other_mark (codes "1/2") (codes "0") ts rest refl a, other_mark (codes "1/2") (codes "1") ts rest refl a, a) refl
leaf_complete _ _ _ (same_leaf ts us vs rest v w a b c) = constant_free ts us v a ∙ rw (a, b, c) refl
leaf_complete _ _ _ (differ_leaf ts us vs rest v w a b c) = constant_free ts us v a ∙ rw (a, other_mark (codes "!=") (codes "==") us vs refl b, b, c) refl
leaf_complete _ _ _ (atom_leaf ts us rest n xs a b) =
    let opens = params_begin us rest xs b in
    name_predicate ts us n a (other_mark (codes "(") (codes "==") us opens.0 refl opens.1) (other_mark (codes "(") (codes "!=") us opens.0 refl opens.1)
    ∙ rw (other_mark (codes "(") (codes "*") us opens.0 refl opens.1, other_mark (codes "(") (codes "+") us opens.0 refl opens.1, b) refl
leaf_complete _ _ _ (star_leaf ts us vs rest n x a b c) =
    name_predicate ts us n a (other_mark (codes "*") (codes "==") us vs refl b) (other_mark (codes "*") (codes "!=") us vs refl b)
    ∙ rw (b, c) refl
leaf_complete _ _ _ (plus_leaf ts us vs rest n x a b c) =
    name_predicate ts us n a (other_mark (codes "+") (codes "==") us vs refl b) (other_mark (codes "+") (codes "!=") us vs refl b)
    ∙ rw (other_mark (codes "+") (codes "*") us vs refl b, b, c) refl

binds_complete : (ts rest : List SpecToken) (b : Binder) → Binds ts b rest → binder ts ≡ taken b rest
unfolding binder existence universality transitive
binds_complete _ _ _ (binds_some ts us rest xs a b) = rw (a, b) refl
binds_complete _ _ _ (binds_all ts us rest xs a b) = rw (other_mark (codes "A") (codes "E") ts us refl a, a, b) refl
binds_complete _ _ _ (binds_pairs ts us vs rest x y a b c) = rw (other_mark (codes "TC") (codes "E") ts us refl a, other_mark (codes "TC") (codes "A") ts us refl a, a, b, c) refl

-- a word that binds is neither `!` nor `(`
binds_begin : (ts rest : List SpecToken) (b : Binder) → Binds ts b rest → (after (codes "!") ts ≡ None) × (after (codes "(") ts ≡ None) × (begins_binder ts ≡ true)
binds_begin _ _ _ (binds_some ts us rest xs a b) = (other_mark (codes "E") (codes "!") ts us refl a, other_mark (codes "E") (codes "(") ts us refl a, rw a refl)
binds_begin _ _ _ (binds_all ts us rest xs a b) = (other_mark (codes "A") (codes "!") ts us refl a, other_mark (codes "A") (codes "(") ts us refl a, rw (other_mark (codes "A") (codes "E") ts us refl a, a) refl)
binds_begin _ _ _ (binds_pairs ts us vs rest x y a b c) = (other_mark (codes "TC") (codes "!") ts us refl a, other_mark (codes "TC") (codes "(") ts us refl a, rw (other_mark (codes "TC") (codes "E") ts us refl a, other_mark (codes "TC") (codes "A") ts us refl a, a) refl)

-- a formula without formulas in it begins with none of these
abbrev Plain : List SpecToken → Type 0
Plain ts = (after (codes "!") ts ≡ None) × (after (codes "(") ts ≡ None) × (begins_binder ts ≡ false)

plain_mark : (m : List ℕ) (ts us : List SpecToken) → after m ts ≡ Some us → bytes_eq m (codes "!") ≡ false → bytes_eq m (codes "(") ≡ false → bytes_eq m (codes "E") ≡ false → bytes_eq m (codes "A") ≡ false → bytes_eq m (codes "TC") ≡ false → Plain ts
plain_mark m ts us a b c d e f = (other_mark m (codes "!") ts us b a, other_mark m (codes "(") ts us c a, rw (other_mark m (codes "E") ts us d a, other_mark m (codes "A") ts us e a, other_mark m (codes "TC") ts us f a) refl)

plain_word : (ts us : List SpecToken) (w : List ℕ) → first identifier_item ts ≡ taken w us → Plain ts
plain_word ts us w is = (not_identifier (codes "!") w ts us refl is, not_identifier (codes "(") w ts us refl is, rw (not_identifier (codes "E") w ts us refl is, not_identifier (codes "A") w ts us refl is, not_identifier (codes "TC") w ts us refl is) refl)

plain_name : (ts us : List SpecToken) (n : List ℕ × List (List ℕ)) → name ts ≡ taken n us → Plain ts
plain_name ts us n is = let parts = name_parts ts us n is in plain_word ts parts.0 n.0 parts.1

leaf_plain : (ts rest : List SpecToken) (f : Form) → Leaf ts f rest → Plain ts
leaf_plain _ _ _ (zero_leaf ts rest a) = plain_mark (codes "0") ts rest a refl refl refl refl refl
leaf_plain _ _ _ (one_leaf ts rest a) = plain_mark (codes "1") ts rest a refl refl refl refl refl
leaf_plain _ _ _ (half_leaf ts rest a) = plain_mark (codes "1/2") ts rest a refl refl refl refl refl
leaf_plain _ _ _ (same_leaf ts us vs rest v w a b c) = plain_word ts us v a
leaf_plain _ _ _ (differ_leaf ts us vs rest v w a b c) = plain_word ts us v a
leaf_plain _ _ _ (atom_leaf ts us rest n xs a b) = plain_name ts us n a
leaf_plain _ _ _ (star_leaf ts us vs rest n x a b c) = plain_name ts us n a
leaf_plain _ _ _ (plus_leaf ts us vs rest n x a b c) = plain_name ts us n a

-- ---- one step for each rule of the grammar

step_at : (n : ℕ) (p : Production) (ts : List SpecToken) → 0 < n → reading n p ts ≡ step (reading (n - 1)) p ts
unfolding reading
step_at zero p ts some = absurd (omega arith)
step_at (suc n) p ts some = let e : suc n - 1 ≡ n = omega arith in rw e refl

step_cond : (read : Reader) (ts us vs ws xs rest : List SpecToken) (f g h : Form) → read (Joined Iff) ts ≡ taken f us → after (codes "?") us ≡ Some vs → read Whole vs ≡ taken g ws → after (codes ":") ws ≡ Some xs → read Whole xs ≡ taken h rest → whole_step read ts ≡ taken (FCond f g h) rest
unfolding whole_step chosen
step_cond read ts us vs ws xs rest f g h a b c d e = rw (a, b, c, d, e) refl

step_no_cond : (read : Reader) (ts rest : List SpecToken) (f : Form) → read (Joined Iff) ts ≡ taken f rest → after (codes "?") rest ≡ None → whole_step read ts ≡ taken f rest
unfolding whole_step
step_no_cond read ts rest f a b = rw (a, b) refl

step_imp : (read : Reader) (ts us vs rest : List SpecToken) (f g : Form) → read (Joined Or) ts ≡ taken f us → arrow us ≡ Some vs → read Imp vs ≡ taken g rest → imp_step read ts ≡ taken (FImp f g) rest
unfolding imp_step
step_imp read ts us vs rest f g a b c = rw (a, b, c) refl

step_no_imp : (read : Reader) (ts rest : List SpecToken) (f : Form) → read (Joined Or) ts ≡ taken f rest → arrow rest ≡ None → imp_step read ts ≡ taken f rest
unfolding imp_step
step_no_imp read ts rest f a b = rw (a, b) refl

step_joined : (read : Reader) (link : Link) (ts us rest : List SpecToken) (f g : Form) → read (operand link) ts ≡ taken f us → read (Behind link f) us ≡ taken g rest → joined_step read link ts ≡ taken g rest
unfolding joined_step
step_joined read link ts us rest f g a b = rw (a, b) refl

step_further : (read : Reader) (link : Link) (ts us vs rest : List SpecToken) (f g h : Form) → after (mark_of link) ts ≡ Some us → read (operand link) us ≡ taken g vs → read (Behind link (join link f g)) vs ≡ taken h rest → behind_step read link f ts ≡ taken h rest
unfolding behind_step
step_further read link ts us vs rest f g h a b c = rw (a, b, c) refl

step_no_further : (read : Reader) (link : Link) (ts : List SpecToken) (f : Form) → after (mark_of link) ts ≡ None → behind_step read link f ts ≡ taken f ts
unfolding behind_step
step_no_further read link ts f a = rw a refl

step_negation : (read : Reader) (ts us rest : List SpecToken) (f : Form) → after (codes "!") ts ≡ Some us → read Unary us ≡ taken f rest → unary_step read ts ≡ taken (FNot f) rest
unfolding unary_step negated
step_negation read ts us rest f a b = rw (a, b) refl

step_parentheses : (read : Reader) (ts us vs rest : List SpecToken) (f : Form) → after (codes "(") ts ≡ Some us → read Whole us ≡ taken f vs → after (codes ")") vs ≡ Some rest → unary_step read ts ≡ taken (FParen f) rest
unfolding unary_step grouped
step_parentheses read ts us vs rest f a b c = rw (other_mark (codes "(") (codes "!") ts us refl a, a, b, c) refl

step_binding : (read : Reader) (ts us rest : List SpecToken) (b : Binder) (f : Form) → Binds ts b us → read Whole us ≡ taken f rest → unary_step read ts ≡ taken (over b f) rest
unfolding unary_step bound
step_binding read ts us rest b f binds body =
    let begins = binds_begin ts us b binds in
    rw (begins.0, begins.1, begins.2, binds_complete ts us b binds, body) refl

step_leaf : (read : Reader) (ts rest : List SpecToken) (f : Form) → Leaf ts f rest → unary_step read ts ≡ taken f rest
unfolding unary_step
step_leaf read ts rest f is =
    let plain = leaf_plain ts rest f is in
    rw (plain.0, plain.1, plain.2) (leaf_complete ts rest f is)

joined_rank : (link : Link) → 1 < rank (Joined link)
joined_rank Iff = omega arith
joined_rank Or = omega arith
joined_rank And = omega arith

operand_rank : (link : Link) (part : Production) → operand link ≡ part → (rank part < rank (Joined link)) × (rank part ≤ 4)
operand_rank Iff part e = rw (sym e) (omega arith, omega arith)
operand_rank Or part e = rw (sym e) (omega arith, omega arith)
operand_rank And part e = rw (sym e) (omega arith, omega arith)

-- each formula of the grammar is read, at a depth of six levels for each token and a few more
pub complete : (p : Production) (ts rest : List SpecToken) (f : Form) → Reads p ts f rest → (n : ℕ) → 6 * length ts + rank p ≤ n → reading n p ts ≡ taken f rest
complete _ _ _ _ (cond ts us vs ws xs rest f g h a b c d e) n deep =
    let i : length us ≤ length ts = shorter (Joined Iff) ts us f a in
    let j : length vs < length us = after_shorter (codes "?") us vs b in
    let k : length ws ≤ length vs = shorter Whole vs ws g c in
    let l : length xs < length ws = after_shorter (codes ":") ws xs d in
    step_at n Whole ts (omega arith)
    ∙ step_cond (reading (n - 1)) ts us vs ws xs rest f g h (complete (Joined Iff) ts us f a (n - 1) (omega arith)) b (complete Whole vs ws g c (n - 1) (omega arith)) d (complete Whole xs rest h e (n - 1) (omega arith))
complete _ _ _ _ (no_cond ts rest f a b) n deep =
    step_at n Whole ts (omega arith) ∙ step_no_cond (reading (n - 1)) ts rest f (complete (Joined Iff) ts rest f a (n - 1) (omega arith)) b
complete _ _ _ _ (joined link part ts us rest f g a b c) n deep =
    let i : length us ≤ length ts = shorter part ts us f b in
    let lower = operand_rank link part a in
    let low : rank part < rank (Joined link) = lower.0 in
    let two : 1 < rank (Joined link) = joined_rank link in
    step_at n (Joined link) ts (omega arith)
    ∙ step_joined (reading (n - 1)) link ts us rest f g (ap (λ q. reading (n - 1) q ts) a ∙ complete part ts us f b (n - 1) (omega arith)) (complete (Behind link f) us rest g c (n - 1) (omega arith))
complete _ _ _ _ (further link part ts us vs rest f g both h a b c d e) n deep =
    let i : length us < length ts = after_shorter (mark_of link) ts us a in
    let j : length vs ≤ length us = shorter part us vs g c in
    let lower = operand_rank link part b in
    let low : rank part ≤ 4 = lower.1 in
    step_at n (Behind link f) ts (omega arith)
    ∙ step_further (reading (n - 1)) link ts us vs rest f g h a (ap (λ q. reading (n - 1) q us) b ∙ complete part us vs g c (n - 1) (omega arith)) (ap (λ k. reading (n - 1) (Behind link k) vs) d ∙ complete (Behind link both) vs rest h e (n - 1) (omega arith))
complete _ _ _ _ (no_further link ts f a) n deep =
    step_at n (Behind link f) ts (omega arith) ∙ step_no_further (reading (n - 1)) link ts f a
complete _ _ _ _ (imp ts us vs rest f g a b c) n deep =
    let i : length us ≤ length ts = shorter (Joined Or) ts us f a in
    let j : length vs < length us = arrow_shorter us vs b in
    step_at n Imp ts (omega arith)
    ∙ step_imp (reading (n - 1)) ts us vs rest f g (complete (Joined Or) ts us f a (n - 1) (omega arith)) b (complete Imp vs rest g c (n - 1) (omega arith))
complete _ _ _ _ (no_imp ts rest f a b) n deep =
    step_at n Imp ts (omega arith) ∙ step_no_imp (reading (n - 1)) ts rest f (complete (Joined Or) ts rest f a (n - 1) (omega arith)) b
complete _ _ _ _ (negation ts us rest f a b) n deep =
    let i : length us < length ts = after_shorter (codes "!") ts us a in
    step_at n Unary ts (omega arith) ∙ step_negation (reading (n - 1)) ts us rest f a (complete Unary us rest f b (n - 1) (omega arith))
complete _ _ _ _ (binding ts us rest binder f g a b c) n deep =
    let i : length us < length ts = binds_shorter ts us binder a in
    step_at n Unary ts (omega arith) ∙ step_binding (reading (n - 1)) ts us rest binder f a (complete Whole us rest f b (n - 1) (omega arith)) ∙ ap (λ k. taken k rest) c
complete _ _ _ _ (parentheses ts us vs rest f a b c) n deep =
    let i : length us < length ts = after_shorter (codes "(") ts us a in
    step_at n Unary ts (omega arith) ∙ step_parentheses (reading (n - 1)) ts us vs rest f a (complete Whole us vs f b (n - 1) (omega arith)) c
complete _ _ _ _ (leaf ts rest f a) n deep =
    step_at n Unary ts (omega arith) ∙ step_leaf (reading (n - 1)) ts rest f a
