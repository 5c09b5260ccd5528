-- One step of a reading.
use Rattle.std.proofs.Common.{◌≡◌, ℕ, zero, suc, List, Option, Some, None, true, false, refl, sym, ap, ◌∙◌}
use Rattle.std.specs.Prelude.{codes}
use Rattle.tv_lex.specs.Token.{SpecToken}
use Rattle.tv_phrases.specs.declared.error.PhraseError.{PhraseError}
use Rattle.tv_phrases.specs.Reading.{Reading, taken, ◌>>=◌, choose, Told, Refuses}
use Rattle.tv_phrases.specs.Tokens.{after}
use Rattle.tv_tree.specs.Forms.{Form, FImp, FParen, FNot, FCond}
use Rattle.tv_formula.specs.declared.binder.Binder.{Binder}
use Rattle.tv_formula.specs.declared.link.Link.{Link}
use Rattle.tv_formula.specs.declared.link.Link.TheVariants.{Iff, Or}
use Rattle.tv_formula.specs.Grammar.{Production, Whole, Imp, Unary, Joined, Behind, mark_of, join, operand}
use Rattle.tv_formula.specs.Grammar.{arrow, over}
use Rattle.tv_formula.specs.Reading.{Reader, step, reading, binder, joined_step, behind_step, unary_step}
use Rattle.tv_formula.specs.Reading.{imp_step, whole_step, negated, grouped, begins_binder, bound}
use Rattle.tv_formula.specs.Reading.{leaf_reading, chosen}
use Rattle.tv_phrases.specs.Repeated.{below}
use Rattle.tv_phrases.proofs.Values.{told_more, refused_told}

pub reading_steps : (n : ℕ) (p : Production) (ts : List SpecToken) → reading n p ts ≡ (below n >>= λ m. step (reading m) p ts)
unfolding reading
reading_steps zero p ts = refl
reading_steps (suc n) p ts = refl

pub none_below : (n : ℕ) (p : Production) (ts : List SpecToken) → below n ≡ None → reading n p ts ≡ None
unfolding reading
none_below zero p ts e = refl
none_below (suc n) p ts e = cc

some_below : (n m : ℕ) (p : Production) (ts : List SpecToken) → below n ≡ Some m → reading n p ts ≡ step (reading m) p ts
some_below n m p ts e = rw (reading_steps n p ts, e) refl

-- the parts of what a connective joins, from the first one on
pub joined_steps : (n m : ℕ) (link : Link) (ts us : List SpecToken) (f : Form) → below n ≡ Some m → reading m (operand link) ts ≡ taken f us → reading n (Joined link) ts ≡ reading m (Behind link f) us
unfolding joined_step
joined_steps n m link ts us f e read = rw (some_below n m (Joined link) ts e, read) refl

pub no_joined : (n m : ℕ) (link : Link) (ts : List SpecToken) → below n ≡ Some m → reading m (operand link) ts ≡ None → reading n (Joined link) ts ≡ None
unfolding joined_step
no_joined n m link ts e read = rw (some_below n m (Joined link) ts e, read) refl

-- what stands behind a mark, where the mark is the connective's
pub marked : (mark : List ℕ) (link : Link) (ts : List SpecToken) (o : Option (List SpecToken)) → mark ≡ mark_of link → o ≡ after mark ts → after (mark_of link) ts ≡ o
marked mark link ts o same is = ap (λ m. after m ts) (sym same) ∙ sym is

-- one more part
pub behind_steps : (n m : ℕ) (link : Link) (f g both : Form) (ts us vs : List SpecToken) → below n ≡ Some m → after (mark_of link) ts ≡ Some us → reading m (operand link) us ≡ taken g vs → both ≡ join link f g → reading n (Behind link f) ts ≡ reading m (Behind link both) vs
unfolding behind_step
behind_steps n m link f g both ts us vs e begins read same = rw (some_below n m (Behind link f) ts e, begins, read, same) refl

pub no_behind : (n m : ℕ) (link : Link) (f : Form) (ts us : List SpecToken) → below n ≡ Some m → after (mark_of link) ts ≡ Some us → reading m (operand link) us ≡ None → reading n (Behind link f) ts ≡ None
unfolding behind_step
no_behind n m link f ts us e begins read = rw (some_below n m (Behind link f) ts e, begins, read) refl

pub behind_ends : (n m : ℕ) (link : Link) (f : Form) (ts : List SpecToken) → below n ≡ Some m → after (mark_of link) ts ≡ None → reading n (Behind link f) ts ≡ taken f ts
unfolding behind_step
behind_ends n m link f ts e lacks = rw (some_below n m (Behind link f) ts e, lacks) refl

-- ---- formulas that `!`, `(` or a word begins

pub unary_negation : (n m : ℕ) (ts us : List SpecToken) → below n ≡ Some m → after (codes "!") ts ≡ Some us → reading n Unary ts ≡ negated (reading m) us
unfolding unary_step
unary_negation n m ts us e begins = some_below n m Unary ts e ∙ rw begins refl

pub unary_group : (n m : ℕ) (ts us : List SpecToken) → below n ≡ Some m → after (codes "!") ts ≡ None → after (codes "(") ts ≡ Some us → reading n Unary ts ≡ grouped (reading m) us
unfolding unary_step
unary_group n m ts us e lacks begins = some_below n m Unary ts e ∙ rw (lacks, begins) refl

pub unary_bound : (n m : ℕ) (ts : List SpecToken) → below n ≡ Some m → after (codes "!") ts ≡ None → after (codes "(") ts ≡ None → begins_binder ts ≡ true → reading n Unary ts ≡ bound (reading m) ts
unfolding unary_step
unary_bound n m ts e lacks none binds = some_below n m Unary ts e ∙ rw (lacks, none, binds) refl

pub unary_leaf : (n m : ℕ) (ts : List SpecToken) → below n ≡ Some m → after (codes "!") ts ≡ None → after (codes "(") ts ≡ None → begins_binder ts ≡ false → reading n Unary ts ≡ leaf_reading ts
unfolding unary_step
unary_leaf n m ts e lacks none binds = some_below n m Unary ts e ∙ rw (lacks, none, binds) refl

-- ---- implications

pub imp_none : (n m : ℕ) (ts : List SpecToken) → below n ≡ Some m → reading m (Joined Or) ts ≡ None → reading n Imp ts ≡ None
unfolding imp_step
imp_none n m ts e left = some_below n m Imp ts e ∙ rw left refl

pub imp_lone : (n m : ℕ) (ts us : List SpecToken) (f : Form) → below n ≡ Some m → reading m (Joined Or) ts ≡ taken f us → arrow us ≡ None → reading n Imp ts ≡ taken f us
unfolding imp_step
imp_lone n m ts us f e left lacks = some_below n m Imp ts e ∙ rw (left, lacks) refl

pub imp_broken : (n m : ℕ) (ts us vs : List SpecToken) (f : Form) → below n ≡ Some m → reading m (Joined Or) ts ≡ taken f us → arrow us ≡ Some vs → reading m Imp vs ≡ None → reading n Imp ts ≡ None
unfolding imp_step
imp_broken n m ts us vs f e left begins right = some_below n m Imp ts e ∙ rw (left, begins, right) refl

pub imp_whole : (n m : ℕ) (ts us vs rest : List SpecToken) (f g both : Form) → below n ≡ Some m → reading m (Joined Or) ts ≡ taken f us → arrow us ≡ Some vs → reading m Imp vs ≡ taken g rest → both ≡ FImp f g → reading n Imp ts ≡ taken both rest
unfolding imp_step
imp_whole n m ts us vs rest f g both e left begins right same = some_below n m Imp ts e ∙ rw (left, begins, right, same) refl

-- ---- conditionals

pub whole_none : (n m : ℕ) (ts : List SpecToken) → below n ≡ Some m → reading m (Joined Iff) ts ≡ None → reading n Whole ts ≡ None
unfolding whole_step
whole_none n m ts e test = some_below n m Whole ts e ∙ rw test refl

pub whole_lone : (n m : ℕ) (ts us : List SpecToken) (f : Form) → below n ≡ Some m → reading m (Joined Iff) ts ≡ taken f us → after (codes "?") us ≡ None → reading n Whole ts ≡ taken f us
unfolding whole_step
whole_lone n m ts us f e test lacks = some_below n m Whole ts e ∙ rw (test, lacks) refl

pub whole_chosen : (n m : ℕ) (ts us vs : List SpecToken) (f : Form) → below n ≡ Some m → reading m (Joined Iff) ts ≡ taken f us → after (codes "?") us ≡ Some vs → reading n Whole ts ≡ chosen (reading m) f vs
unfolding whole_step
whole_chosen n m ts us vs f e test begins = some_below n m Whole ts e ∙ rw (test, begins) refl

-- ---- what stands in a negation, in parentheses, behind a quantifier, behind a `?`

pub as_choice : {A B : Type 0} (o : Option A) (f : A → Option B) → (o >>= f) ≡ choose o None f
as_choice None f = refl
as_choice (Some x) f = refl

pub negated_none : (read : Reader) (ts : List SpecToken) → read Unary ts ≡ None → negated read ts ≡ None
unfolding negated
negated_none read ts inner = rw inner refl

pub negated_some : (read : Reader) (ts us : List SpecToken) (f g : Form) → read Unary ts ≡ taken f us → g ≡ FNot f → negated read ts ≡ taken g us
unfolding negated
negated_some read ts us f g inner same = rw (inner, same) refl

pub grouped_none : (read : Reader) (ts : List SpecToken) → read Whole ts ≡ None → grouped read ts ≡ None
unfolding grouped
grouped_none read ts inner = rw inner refl

pub grouped_some : (read : Reader) (ts us : List SpecToken) (f : Form) → read Whole ts ≡ taken f us → grouped read ts ≡ choose (after (codes ")") us) None (λ rest. taken (FParen f) rest)
unfolding grouped
grouped_some read ts us f inner = rw inner (as_choice (after (codes ")") us) (λ rest. taken (FParen f) rest))

pub unbound : (read : Reader) (ts : List SpecToken) → binder ts ≡ None → bound read ts ≡ None
unfolding bound
unbound read ts binds = rw binds refl

pub bound_none : (read : Reader) (ts us : List SpecToken) (b : Binder) → binder ts ≡ taken b us → read Whole us ≡ None → bound read ts ≡ None
unfolding bound
bound_none read ts us b binds body = rw (binds, body) refl

pub bound_some : (read : Reader) (ts us rest : List SpecToken) (b : Binder) (f g : Form) → binder ts ≡ taken b us → read Whole us ≡ taken f rest → g ≡ over b f → bound read ts ≡ taken g rest
unfolding bound
bound_some read ts us rest b f g binds body same = rw (binds, body, same) refl

pub chosen_none : (read : Reader) (f : Form) (ts : List SpecToken) → read Whole ts ≡ None → chosen read f ts ≡ None
unfolding chosen
chosen_none read f ts former = rw former refl

pub chosen_unmarked : (read : Reader) (f g : Form) (ts us : List SpecToken) → read Whole ts ≡ taken g us → after (codes ":") us ≡ None → chosen read f ts ≡ None
unfolding chosen
chosen_unmarked read f g ts us former lacks = rw (former, lacks) refl

pub chosen_broken : (read : Reader) (f g : Form) (ts us vs : List SpecToken) → read Whole ts ≡ taken g us → after (codes ":") us ≡ Some vs → read Whole vs ≡ None → chosen read f ts ≡ None
unfolding chosen
chosen_broken read f g ts us vs former begins no_ = rw (former, begins, no_) refl

pub chosen_some : (read : Reader) (f g h both : Form) (ts us vs rest : List SpecToken) → read Whole ts ≡ taken g us → after (codes ":") us ≡ Some vs → read Whole vs ≡ taken h rest → both ≡ FCond f g h → chosen read f ts ≡ taken both rest
unfolding chosen
chosen_some read f g h both ts us vs rest former begins no_ same = rw (former, begins, no_, same) refl

-- ---- what the error of a part says of the whole

pub told_below : (e : PhraseError) (n : ℕ) (p : Production) (ts : List SpecToken) → Refuses e (below n ≡ None) → Told e (reading n p ts ≡ None)
told_below e n p ts h = refused_told e (below n ≡ None) (reading n p ts ≡ None) (none_below n p ts) h

pub told_negated : (e : PhraseError) (read : Reader) (ts : List SpecToken) → Told e (read Unary ts ≡ None) → Told e (negated read ts ≡ None)
told_negated e read ts h = told_more e (read Unary ts ≡ None) (negated read ts ≡ None) (negated_none read ts) h

pub told_grouped : (e : PhraseError) (read : Reader) (ts : List SpecToken) → Told e (read Whole ts ≡ None) → Told e (grouped read ts ≡ None)
told_grouped e read ts h = told_more e (read Whole ts ≡ None) (grouped read ts ≡ None) (grouped_none read ts) h

pub told_unbound : (e : PhraseError) (read : Reader) (ts : List SpecToken) → Told e (binder ts ≡ None) → Told e (bound read ts ≡ None)
told_unbound e read ts h = told_more e (binder ts ≡ None) (bound read ts ≡ None) (unbound read ts) h

pub told_bound : (e : PhraseError) (read : Reader) (ts us : List SpecToken) (b : Binder) → binder ts ≡ taken b us → Told e (read Whole us ≡ None) → Told e (bound read ts ≡ None)
told_bound e read ts us b binds h = told_more e (read Whole us ≡ None) (bound read ts ≡ None) (bound_none read ts us b binds) h

pub told_yes : (e : PhraseError) (read : Reader) (f : Form) (ts : List SpecToken) → Told e (read Whole ts ≡ None) → Told e (chosen read f ts ≡ None)
told_yes e read f ts h = told_more e (read Whole ts ≡ None) (chosen read f ts ≡ None) (chosen_none read f ts) h

pub told_colon : (e : PhraseError) (read : Reader) (f g : Form) (ts us : List SpecToken) → read Whole ts ≡ taken g us → Refuses e (after (codes ":") us ≡ None) → Told e (chosen read f ts ≡ None)
told_colon e read f g ts us former h = refused_told e (after (codes ":") us ≡ None) (chosen read f ts ≡ None) (chosen_unmarked read f g ts us former) h

pub told_no : (e : PhraseError) (read : Reader) (f g : Form) (ts us vs : List SpecToken) → read Whole ts ≡ taken g us → after (codes ":") us ≡ Some vs → Told e (read Whole vs ≡ None) → Told e (chosen read f ts ≡ None)
told_no e read f g ts us vs former begins h = told_more e (read Whole vs ≡ None) (chosen read f ts ≡ None) (chosen_broken read f g ts us vs former begins) h

pub told_left : (e : PhraseError) (n m : ℕ) (ts : List SpecToken) → below n ≡ Some m → Told e (reading m (Joined Or) ts ≡ None) → Told e (reading n Imp ts ≡ None)
told_left e n m ts b h = told_more e (reading m (Joined Or) ts ≡ None) (reading n Imp ts ≡ None) (imp_none n m ts b) h

pub told_right : (e : PhraseError) (n m : ℕ) (ts us vs : List SpecToken) (f : Form) → below n ≡ Some m → reading m (Joined Or) ts ≡ taken f us → arrow us ≡ Some vs → Told e (reading m Imp vs ≡ None) → Told e (reading n Imp ts ≡ None)
told_right e n m ts us vs f b left begins h = told_more e (reading m Imp vs ≡ None) (reading n Imp ts ≡ None) (imp_broken n m ts us vs f b left begins) h

pub told_test : (e : PhraseError) (n m : ℕ) (ts : List SpecToken) → below n ≡ Some m → Told e (reading m (Joined Iff) ts ≡ None) → Told e (reading n Whole ts ≡ None)
told_test e n m ts b h = told_more e (reading m (Joined Iff) ts ≡ None) (reading n Whole ts ≡ None) (whole_none n m ts b) h

pub told_first : (e : PhraseError) (n m : ℕ) (link : Link) (ts : List SpecToken) → below n ≡ Some m → Told e (reading m (operand link) ts ≡ None) → Told e (reading n (Joined link) ts ≡ None)
told_first e n m link ts b h = told_more e (reading m (operand link) ts ≡ None) (reading n (Joined link) ts ≡ None) (no_joined n m link ts b) h

-- the same behind some parts, where the whole is read as what is still to come
pub told_depth : (e : PhraseError) (whole : Reading Form) (n : ℕ) (p : Production) (ts : List SpecToken) → whole ≡ reading n p ts → Refuses e (below n ≡ None) → Told e (whole ≡ None)
told_depth e whole n p ts same h = refused_told e (below n ≡ None) (whole ≡ None) (λ none. same ∙ none_below n p ts none) h

pub told_part : (e : PhraseError) (whole : Reading Form) (n m : ℕ) (link : Link) (f : Form) (ts us : List SpecToken) → whole ≡ reading n (Behind link f) ts → below n ≡ Some m → after (mark_of link) ts ≡ Some us → Told e (reading m (operand link) us ≡ None) → Told e (whole ≡ None)
told_part e whole n m link f ts us same b begins h = told_more e (reading m (operand link) us ≡ None) (whole ≡ None) (λ none. same ∙ no_behind n m link f ts us b begins none) h
