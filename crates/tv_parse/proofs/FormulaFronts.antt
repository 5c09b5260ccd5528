-- Each formula begins with a token that can begin one.
use Rattle.std.proofs.Common.{◌≡◌, ℕ, List, Bool, true, Option, Some, None, refl, sym, subst}
use Rattle.std.specs.Prelude.{codes, ◌||◌, is_some}
use Rattle.std.proofs.lemmas.Bool.{or_left, or_right}
use Rattle.tv_lex.specs.Token.{SpecToken}
use Rattle.tv_phrases.specs.Reading.{taken, ◌>>=◌}
use Rattle.tv_phrases.specs.Tokens.{first, identifier_item}
use Rattle.tv_phrases.specs.Lists.{name, optional_brackets}
use Rattle.tv_phrases.specs.Repeated.{begins_with}
use Rattle.tv_phrases.proofs.Values.{bind_some}
use Rattle.tv_tree.specs.Forms.{Form}
use Rattle.tv_formula.specs.declared.binder.Binder.{Binder}
use Rattle.tv_formula.specs.declared.link.Link.{Link}
use Rattle.tv_formula.specs.declared.link.Link.TheVariants.{Iff, Or, And}
use Rattle.tv_formula.specs.Grammar.{Production, Whole, Imp, Unary, Joined, Behind, operand, Leaf, zero_leaf}
use Rattle.tv_formula.specs.Grammar.{one_leaf, half_leaf, same_leaf, differ_leaf, atom_leaf, star_leaf}
use Rattle.tv_formula.specs.Grammar.{plus_leaf, Binds, binds_some, binds_all, binds_pairs, Reads, cond}
use Rattle.tv_formula.specs.Grammar.{no_cond, joined, further, no_further, imp, no_imp, negation, binding}
use Rattle.tv_formula.specs.Grammar.{parentheses, leaf}
use Rattle.tv_parse.specs.Kinds.{begins_formula}

is_there : {A : Type 0} (o : Option A) (x : A) → o ≡ Some x → is_some o ≡ true
is_there None x e = absurd cc
is_there (Some y) x e = refl

-- one of the marks that begin a formula, or else an identifier
module _ (ts : List SpecToken) where
  from_not : begins_with (codes "!") ts ≡ true → begins_formula ts ≡ true
  from_not e = or_left (begins_with (codes "!") ts) _ e

  from_parenthesis : begins_with (codes "(") ts ≡ true → begins_formula ts ≡ true
  from_parenthesis e = or_right (begins_with (codes "!") ts) _ (or_left (begins_with (codes "(") ts) _ e)

  behind_two : (rest : Bool) → rest ≡ true → (begins_with (codes "!") ts || (begins_with (codes "(") ts || rest)) ≡ true
  behind_two rest e = or_right (begins_with (codes "!") ts) _ (or_right (begins_with (codes "(") ts) rest e)

  behind_values : (rest : Bool) → rest ≡ true → (begins_with (codes "!") ts || (begins_with (codes "(") ts || (begins_with (codes "0") ts || (begins_with (codes "1") ts || (begins_with (codes "1/2") ts || rest))))) ≡ true
  behind_values rest e = behind_two _ (or_right (begins_with (codes "0") ts) _ (or_right (begins_with (codes "1") ts) _ (or_right (begins_with (codes "1/2") ts) rest e)))

  from_zero : begins_with (codes "0") ts ≡ true → begins_formula ts ≡ true
  from_zero e = behind_two _ (or_left (begins_with (codes "0") ts) _ e)

  from_one : begins_with (codes "1") ts ≡ true → begins_formula ts ≡ true
  from_one e = behind_two _ (or_right (begins_with (codes "0") ts) _ (or_left (begins_with (codes "1") ts) _ e))

  from_half : begins_with (codes "1/2") ts ≡ true → begins_formula ts ≡ true
  from_half e = behind_two _ (or_right (begins_with (codes "0") ts) _ (or_right (begins_with (codes "1") ts) _ (or_left (begins_with (codes "1/2") ts) _ e)))

  from_some : begins_with (codes "E") ts ≡ true → begins_formula ts ≡ true
  from_some e = behind_values _ (or_left (begins_with (codes "E") ts) _ e)

  from_all : begins_with (codes "A") ts ≡ true → begins_formula ts ≡ true
  from_all e = behind_values _ (or_right (begins_with (codes "E") ts) _ (or_left (begins_with (codes "A") ts) _ e))

  from_closure : begins_with (codes "TC") ts ≡ true → begins_formula ts ≡ true
  from_closure e = behind_values _ (or_right (begins_with (codes "E") ts) _ (or_right (begins_with (codes "A") ts) _ (or_left (begins_with (codes "TC") ts) _ e)))

  from_identifier : (v : List ℕ) (us : List SpecToken) → first identifier_item ts ≡ taken v us → begins_formula ts ≡ true
  from_identifier v us e = behind_values _ (or_right (begins_with (codes "E") ts) _ (or_right (begins_with (codes "A") ts) _ (or_right (begins_with (codes "TC") ts) _ (is_there (first identifier_item ts) (v, us) e))))

from_name : (ts us : List SpecToken) (n : List ℕ × List (List ℕ)) → name ts ≡ taken n us → begins_formula ts ≡ true
unfolding name
from_name ts us n e =
    let word = bind_some (first identifier_item ts) (λ word. optional_brackets word.1 >>= λ brackets. Some ((word.0, brackets.0), brackets.1)) (n, us) e in
    from_identifier ts word.0.0 word.0.1 word.1

leaf_begins : (ts rest : List SpecToken) (f : Form) → Leaf ts f rest → begins_formula ts ≡ true
leaf_begins _ _ _ (zero_leaf ts rest a) = from_zero ts (is_there _ rest a)
leaf_begins _ _ _ (one_leaf ts rest a) = from_one ts (is_there _ rest a)
leaf_begins _ _ _ (half_leaf ts rest a) = from_half ts (is_there _ rest a)
leaf_begins _ _ _ (same_leaf ts us vs rest v w a b c) = from_identifier ts v us a
leaf_begins _ _ _ (differ_leaf ts us vs rest v w a b c) = from_identifier ts v us a
leaf_begins _ _ _ (atom_leaf ts us rest n xs a b) = from_name ts us n a
leaf_begins _ _ _ (star_leaf ts us vs rest n x a b c) = from_name ts us n a
leaf_begins _ _ _ (plus_leaf ts us vs rest n x a b c) = from_name ts us n a

binds_begins : (ts rest : List SpecToken) (b : Binder) → Binds ts b rest → begins_formula ts ≡ true
binds_begins _ _ _ (binds_some ts us rest xs a b) = from_some ts (is_there _ us a)
binds_begins _ _ _ (binds_all ts us rest xs a b) = from_all ts (is_there _ us a)
binds_begins _ _ _ (binds_pairs ts us vs rest x y a b c) = from_closure ts (is_there _ us a)

-- what is said of the first token of a production: nothing of what stands behind a left part
abbrev Fronts : Production → List SpecToken → Type 0
Fronts Whole ts = begins_formula ts ≡ true
Fronts Imp ts = begins_formula ts ≡ true
Fronts Unary ts = begins_formula ts ≡ true
Fronts (Joined link) ts = begins_formula ts ≡ true
Fronts (Behind link f) ts = Unit {0}

operand_begins : (link : Link) (part : Production) (ts : List SpecToken) → operand link ≡ part → Fronts part ts → begins_formula ts ≡ true
operand_begins Iff part ts e h = subst (λ p. Fronts p ts) (sym e) h
operand_begins Or part ts e h = subst (λ p. Fronts p ts) (sym e) h
operand_begins And part ts e h = subst (λ p. Fronts p ts) (sym e) h

begins : (p : Production) (ts rest : List SpecToken) (f : Form) → Reads p ts f rest → Fronts p ts
begins _ _ _ _ (cond ts us vs ws xs rest f g h a b c d e) = begins (Joined Iff) ts us f a
begins _ _ _ _ (no_cond ts rest f a b) = begins (Joined Iff) ts rest f a
begins _ _ _ _ (joined link part ts us rest f g a b c) = operand_begins link part ts a (begins part ts us f b)
begins _ _ _ _ (further link part ts us vs rest f g both h a b c d e) = tt
begins _ _ _ _ (no_further link ts f a) = tt
begins _ _ _ _ (imp ts us vs rest f g a b c) = begins (Joined Or) ts us f a
begins _ _ _ _ (no_imp ts rest f a b) = begins (Joined Or) ts rest f a
begins _ _ _ _ (negation ts us rest f a b) = from_not ts (is_there _ us a)
begins _ _ _ _ (binding ts us rest binder f g a b c) = binds_begins ts us binder a
begins _ _ _ _ (parentheses ts us vs rest f a b c) = from_parenthesis ts (is_there _ us a)
begins _ _ _ _ (leaf ts rest f a) = leaf_begins ts rest f a

pub formula_begins : (ts rest : List SpecToken) (f : Form) → Reads Whole ts f rest → begins_formula ts ≡ true
formula_begins ts rest f is = begins Whole ts rest f is
