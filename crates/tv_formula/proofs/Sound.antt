-- What is read is a formula of the grammar.
use Rattle.std.proofs.Common.{ℕ, zero, suc, List, refl}
use Rattle.std.specs.Prelude.{codes, IfSome}
use Rattle.tv_lex.specs.Token.{SpecToken}
use Rattle.tv_phrases.specs.Tokens.{after, first, identifier_item}
use Rattle.tv_phrases.specs.Lists.{variables, params, name, pair}
use Rattle.tv_phrases.proofs.Facts.{on_bind, on_read, on_choose, on_if, on_more}
use Rattle.tv_formula.specs.declared.link.Link.TheVariants.{Iff, Or}
use Rattle.tv_formula.specs.Grammar.{Production, Whole, Imp, Unary, Joined, Behind, mark_of, join, operand}
use Rattle.tv_formula.specs.Grammar.{arrow, over, Leaf, zero_leaf, one_leaf, half_leaf, same_leaf}
use Rattle.tv_formula.specs.Grammar.{differ_leaf, atom_leaf, star_leaf, plus_leaf, Binds, binds_some}
use Rattle.tv_formula.specs.Grammar.{binds_all, binds_pairs, Reads, cond, no_cond, joined, further}
use Rattle.tv_formula.specs.Grammar.{no_further, imp, no_imp, negation, binding, parentheses, leaf}
use Rattle.tv_formula.specs.Reading.{compared, applied, closed, behind_name, predicate, named, leaf_reading}
use Rattle.tv_formula.specs.Reading.{negated, begins_binder, existence, universality, transitive, binder}
use Rattle.tv_formula.specs.Reading.{bound, grouped, unary_step, imp_step, joined_step, behind_step, chosen}
use Rattle.tv_formula.specs.Reading.{whole_step, reading}

predicate_sound : (ts : List SpecToken) → IfSome (predicate ts) (λ x. Leaf ts x.0 x.1)
unfolding predicate behind_name applied closed
predicate_sound ts =
    on_bind (name ts) _ _ (λ n is.
    on_choose (after (codes "*") n.1) _ _ _
    (λ no_star. on_choose (after (codes "+") n.1) _ _ _
    (λ no_plus. on_bind (params n.1) _ _ (λ xs args. atom_leaf ts n.1 xs.1 n.0 xs.0 is args))
    (λ us plus. on_bind (pair us) _ _ (λ x args. plus_leaf ts n.1 us x.1 n.0 x.0 is plus args)))
    (λ us star. on_bind (pair us) _ _ (λ x args. star_leaf ts n.1 us x.1 n.0 x.0 is star args)))

named_sound : (ts : List SpecToken) → IfSome (named ts) (λ x. Leaf ts x.0 x.1)
unfolding named compared
named_sound ts =
    on_bind (first identifier_item ts) _ _ (λ v is.
    on_choose (after (codes "==") v.1) _ _ _
    (λ no_same. on_choose (after (codes "!=") v.1) _ _ _
    (λ no_differ. predicate_sound ts)
    (λ us differ. on_bind (first identifier_item us) _ _ (λ w right. differ_leaf ts v.1 us w.1 v.0 w.0 is differ right)))
    (λ us same. on_bind (first identifier_item us) _ _ (λ w right. same_leaf ts v.1 us w.1 v.0 w.0 is same right)))

pub leaf_sound : (ts : List SpecToken) → IfSome (leaf_reading ts) (λ x. Leaf ts x.0 x.1)
unfolding leaf_reading
leaf_sound ts =
    on_choose (after (codes "0") ts) _ _ _
    (λ no_zero. on_choose (after (codes "1") ts) _ _ _
    (λ no_one. on_choose (after (codes "1/2") ts) _ _ _ (λ no_half. named_sound ts) (λ us half. half_leaf ts us half))
    (λ us one. one_leaf ts us one))
    (λ us constant. zero_leaf ts us constant)

pub binder_sound : (ts : List SpecToken) → IfSome (binder ts) (λ x. Binds ts x.0 x.1)
unfolding binder existence universality transitive
binder_sound ts =
    on_choose (after (codes "E") ts) _ _ _
    (λ no_some. on_choose (after (codes "A") ts) _ _ _
    (λ no_all. on_bind (after (codes "TC") ts) _ _ (λ us begins. on_bind (pair us) _ _ (λ x one. on_bind (pair x.1) _ _ (λ y two. binds_pairs ts us x.1 y.1 x.0 y.0 begins one two))))
    (λ us begins. on_bind (variables us) _ _ (λ xs vars. binds_all ts us xs.1 xs.0 begins vars)))
    (λ us begins. on_bind (variables us) _ _ (λ xs vars. binds_some ts us xs.1 xs.0 begins vars))

pub sound : (n : ℕ) (p : Production) (ts : List SpecToken) → IfSome (reading n p ts) (λ x. Reads p ts x.0 x.1)
unfolding reading whole_step chosen imp_step joined_step behind_step unary_step negated grouped bound
sound zero p ts = tt
sound (suc n) Whole ts =
    on_read (reading n (Joined Iff) ts) _ _ _ (sound n (Joined Iff) ts) (λ f test.
    on_choose (after (codes "?") f.1) _ _ _
    (λ lacks. no_cond ts f.1 f.0 test lacks)
    (λ vs begins. on_read (reading n Whole vs) _ _ _ (sound n Whole vs) (λ g first_.
    on_bind (after (codes ":") g.1) _ _ (λ xs colon.
    on_read (reading n Whole xs) _ _ _ (sound n Whole xs) (λ h second.
    cond ts f.1 vs g.1 xs h.1 f.0 g.0 h.0 test begins first_ colon second)))))
sound (suc n) Imp ts =
    on_read (reading n (Joined Or) ts) _ _ _ (sound n (Joined Or) ts) (λ f left.
    on_choose (arrow f.1) _ _ _
    (λ lacks. no_imp ts f.1 f.0 left lacks)
    (λ vs begins. on_read (reading n Imp vs) _ _ _ (sound n Imp vs) (λ g right. imp ts f.1 vs g.1 f.0 g.0 left begins right)))
sound (suc n) Unary ts =
    on_choose (after (codes "!") ts) _ _ _
    (λ no_mark. on_choose (after (codes "(") ts) _ _ _
    (λ no_bracket. on_if (begins_binder ts) _ _ _
    (λ then_. on_read (binder ts) _ _ _ (binder_sound ts) (λ b binds. on_read (reading n Whole b.1) _ _ _ (sound n Whole b.1) (λ f body. binding ts b.1 f.1 b.0 f.0 (over b.0 f.0) binds body refl)))
    (λ otherwise. on_more (leaf_reading ts) _ _ (leaf_sound ts) (λ f is. leaf ts f.1 f.0 is)))
    (λ us begins. on_read (reading n Whole us) _ _ _ (sound n Whole us) (λ f inner. on_bind (after (codes ")") f.1) _ _ (λ rest ends. parentheses ts us f.1 rest f.0 begins inner ends))))
    (λ us begins. on_read (reading n Unary us) _ _ _ (sound n Unary us) (λ f inner. negation ts us f.1 f.0 begins inner))
sound (suc n) (Joined link) ts =
    on_read (reading n (operand link) ts) _ _ _ (sound n (operand link) ts) (λ f part.
    on_more (reading n (Behind link f.0) f.1) _ _ (sound n (Behind link f.0) f.1) (λ g more. joined link (operand link) ts f.1 g.1 f.0 g.0 refl part more))
sound (suc n) (Behind link f) ts =
    on_choose (after (mark_of link) ts) _ _ _
    (λ lacks. no_further link ts f lacks)
    (λ us begins. on_read (reading n (operand link) us) _ _ _ (sound n (operand link) us) (λ g part.
    on_more (reading n (Behind link (join link f g.0)) g.1) _ _ (sound n (Behind link (join link f g.0)) g.1) (λ h more.
    further link (operand link) ts us g.1 h.1 f g.0 (join link f g.0) h.0 begins refl part refl more)))
