-- One step of the reading of a set.
use Rattle.std.proofs.Common.{◌≡◌, ℕ, zero, suc, List, [], ◌∷◌, ◌++◌, map, Some, None, refl, sym, ◌∙◌, ap}
use Rattle.std.proofs.lemmas.List.{map_push}
use Rattle.tv_lex.specs.Token.{SpecToken}
use Rattle.tv_phrases.specs.Reading.{Reading, taken, ◌>>=◌}
use Rattle.tv_phrases.specs.Repeated.{below}
use Rattle.tv_tree.specs.Forms.{SetForm, SPlus, SMinus}
use Rattle.tv_tree.specs.Copies.{joined_set, term_of, step_of, set_of, term_step, further_step}
use Rattle.tv_tree.specs.Copies.{set_step as tree_step}
use Rattle.tv_tree.specs.declared.trees.SetSign.{SetSign}
use Rattle.tv_tree.specs.declared.trees.SetSign.TheVariants as sign
use Rattle.tv_tree.specs.declared.trees.SetStep.{SetStep}
use Rattle.tv_tree.specs.declared.trees.SetTerm.{SetTerm}
use Rattle.tv_tree.specs.declared.trees.SetTree.{SetTree, SetTree-F, roll-SetTree, fold-roll-SetTree}
use Rattle.tv_tree.proofs.Unfolds.{step_of_parts}
use Rattle.tv_parse.specs.Reading.{SetPart, AllSets, Further, signed, set_sign, set_term, set_start}
use Rattle.tv_parse.specs.Reading.{set_behind, set_step, sets}

sets_steps : (n : ℕ) (p : SetPart) (ts : List SpecToken) → sets n p ts ≡ (below n >>= λ m. set_step (sets m) p ts)
unfolding sets
sets_steps zero p ts = refl
sets_steps (suc n) p ts = refl

sets_step : (n m : ℕ) (p : SetPart) (ts : List SpecToken) → below n ≡ Some m → sets n p ts ≡ set_step (sets m) p ts
sets_step n m p ts e = rw (sets_steps n p ts, e) refl

pub no_sets : (n : ℕ) (p : SetPart) (ts : List SpecToken) → below n ≡ None → sets n p ts ≡ None
no_sets n p ts e = rw (sets_steps n p ts, e) refl

pub start_steps : (n m : ℕ) (ts us : List SpecToken) (t : SetForm) → below n ≡ Some m → set_term (sets m) ts ≡ taken t us → sets n AllSets ts ≡ sets m (Further t) us
unfolding set_start
start_steps n m ts us t e i = rw (sets_step n m AllSets ts e, i) refl

pub no_start : (n m : ℕ) (ts : List SpecToken) → below n ≡ Some m → set_term (sets m) ts ≡ None → sets n AllSets ts ≡ None
unfolding set_start
no_start n m ts e i = rw (sets_step n m AllSets ts e, i) refl

pub further_steps : (n m : ℕ) (s t : SetForm) (k : SetSign) (ts us vs : List SpecToken) → below n ≡ Some m → set_sign ts ≡ Some (k, us) → set_term (sets m) us ≡ taken t vs → sets n (Further s) ts ≡ sets m (Further (signed k s t)) vs
unfolding set_behind
further_steps n m s t k ts us vs e b i = rw (sets_step n m (Further s) ts e, b, i) refl

pub further_ends : (n m : ℕ) (s : SetForm) (ts : List SpecToken) → below n ≡ Some m → set_sign ts ≡ None → sets n (Further s) ts ≡ taken s ts
unfolding set_behind
further_ends n m s ts e b = rw (sets_step n m (Further s) ts e, b) refl

pub no_further : (n m : ℕ) (s : SetForm) (k : SetSign) (ts us : List SpecToken) → below n ≡ Some m → set_sign ts ≡ Some (k, us) → set_term (sets m) us ≡ None → sets n (Further s) ts ≡ None
unfolding set_behind
no_further n m s k ts us e b i = rw (sets_step n m (Further s) ts e, b, i) refl

joined_more : (s : SetForm) (xs : List (SetSign × SetForm)) (k : SetSign) (t : SetForm) → joined_set s (xs ++ (k, t) ∷ []) ≡ signed k (joined_set s xs) t
joined_more s [] sign.Plus t = refl
joined_more s [] sign.Minus t = refl
joined_more s ((sign.Plus, u) ∷ xs) k t = joined_more (SPlus s u) xs k t
joined_more s ((sign.Minus, u) ∷ xs) k t = joined_more (SMinus s u) xs k t

-- one more set behind those so far
pub set_pushed : (n m : ℕ) (s : SetForm) (old new : List SetStep) (x : SetStep) (ts us vs : List SpecToken) → new ≡ old ++ x ∷ [] → below n ≡ Some m → set_sign ts ≡ Some (x.sign, us) → set_term (sets m) us ≡ taken (term_of x.term) vs → sets n (Further (joined_set s (map step_of old))) ts ≡ sets m (Further (joined_set s (map step_of new))) vs
set_pushed n m s old new x ts us vs p e b i =
    let grown : map step_of new ≡ map step_of old ++ (x.sign, term_of x.term) ∷ [] = ap (map step_of) p ∙ map_push step_of old x ∙ ap (λ (y : SetSign × SetForm). map step_of old ++ y ∷ []) (step_of_parts x) in
    further_steps n m (joined_set s (map step_of old)) (term_of x.term) x.sign ts us vs e b i
    ∙ ap (λ (y : SetForm). sets m (Further y) vs) (sym (ap (joined_set s) grown ∙ joined_more s (map step_of old) x.sign (term_of x.term)))

-- the expression that is made of these sets
set_made : (x : SetTree-F SetTerm SetStep SetTree) → set_of (roll-SetTree x) ≡ joined_set (term_of x.first) (map step_of x.more.items)
set_made x = fold-roll-SetTree SetForm (SetSign × SetForm) SetForm term_step further_step tree_step x

pub set_ends : (total : Reading SetForm) (n m : ℕ) (x : SetTree-F SetTerm SetStep SetTree) (ts : List SpecToken) → total ≡ sets n (Further (joined_set (term_of x.first) (map step_of x.more.items))) ts → below n ≡ Some m → set_sign ts ≡ None → total ≡ taken (set_of (roll-SetTree x)) ts
set_ends total n m x ts so_far e none = so_far ∙ further_ends n m (joined_set (term_of x.first) (map step_of x.more.items)) ts e none ∙ ap (λ (s : SetForm). taken s ts) (sym (set_made x))
