-- What the reading of a formula says by the grammar.
use Rattle.std.proofs.Common.{◌≡◌, ◌+◌, ◌*◌, length, List, None, sym, ◌∙◌, arith}
use Rattle.tv_lex.specs.Token.{SpecToken}
use Rattle.tv_phrases.specs.Reading.{Reading, taken}
use Rattle.tv_phrases.proofs.Facts.{at_some}
use Rattle.tv_phrases.proofs.Values.{same_value, same_rest}
use Rattle.tv_tree.specs.Forms.{Form}
use Rattle.tv_formula.specs.Grammar.{Production, Whole, Reads, IsFormula, NoFormula}
use Rattle.tv_formula.specs.Reading.{reading, enough, formula_reading}
use Rattle.tv_formula.proofs.Sound.{sound}
use Rattle.tv_formula.proofs.Complete.{complete, rank}

pub formula_is_read : (ts rest : List SpecToken) (f : Form) → IsFormula ts f rest → formula_reading ts ≡ taken f rest
unfolding formula_reading
formula_is_read ts rest f is = complete Whole ts rest f is (enough ts) (omega arith)

pub read_is_formula : (ts rest : List SpecToken) (f : Form) → formula_reading ts ≡ taken f rest → IsFormula ts f rest
unfolding formula_reading
read_is_formula ts rest f read = at_some (reading (enough ts) Whole ts) (λ x. Reads Whole ts x.0 x.1) (f, rest) (sound (enough ts) Whole ts) read

none_taken : (o : Reading Form) (f : Form) (rest : List SpecToken) → o ≡ None → o ≡ taken f rest → ⊥
none_taken o f rest none some = let e : None ≡ taken f rest = sym none ∙ some in cc

pub unread_is_none : (ts : List SpecToken) → formula_reading ts ≡ None → NoFormula ts
unread_is_none ts none f rest is = none_taken (formula_reading ts) f rest none (formula_is_read ts rest f is)

-- two readings of one production at one place are the same
pub one_reading : (p : Production) (ts us vs : List SpecToken) (f g : Form) → Reads p ts f us → Reads p ts g vs → (f ≡ g) × (us ≡ vs)
one_reading p ts us vs f g a b =
    let n = 6 * length ts + rank p in
    let same : taken f us ≡ taken g vs = sym (complete p ts us f a n (omega arith)) ∙ complete p ts vs g b n (omega arith) in
    (same_value f g us vs same, same_rest f g us vs same)
