-- What the grammar says is a set is read as that set.
use Rattle.std.proofs.Common.{◌≡◌, ℕ, zero, suc, ◌+◌, ◌<◌, ◌≤◌, List, true, length, Some, None, refl, ◌∙◌}
use Rattle.std.proofs.Common.{arith}
use Rattle.std.specs.Prelude.{codes}
use Rattle.tv_lex.specs.Token.{SpecToken}
use Rattle.tv_phrases.specs.Reading.{taken, ◌>>=◌}
use Rattle.tv_phrases.specs.Tokens.{after, first, identifier_item}
use Rattle.tv_phrases.specs.Lists.{optional_list_in, between, optional_list}
use Rattle.tv_phrases.specs.declared.kinds.Brackets.TheVariants as brackets
use Rattle.tv_phrases.specs.declared.kinds.Item.TheVariants as kind
use Rattle.tv_tree.specs.Forms.{SetForm, SNamed, SMembers, SParen, SPlus, SMinus}
use Rattle.tv_tree.specs.declared.trees.SetSign.{SetSign}
use Rattle.tv_tree.specs.declared.trees.SetSign.TheVariants as sign
use Rattle.tv_formula.specs.Grammar.{Begins, Lacks}
use Rattle.tv_phrases.specs.Repeated.{begins_with}
use Rattle.tv_parse.specs.Grammar.{IsSetTerm, IsSetFront, IsSet, IsHead}
use Rattle.tv_parse.specs.Reading.{AllSets, Further, signed, set_name, set_members, set_plain, set_paren}
use Rattle.tv_parse.specs.Reading.{set_term, set_sign, set_start, set_behind, sets, set_reading, head_reading}
use Rattle.tv_phrases.proofs.Facts.{other_mark, not_identifier}
use Rattle.tv_phrases.proofs.Values.{bind_some}
use Rattle.tv_phrases.proofs.Takes.{after_takes, first_takes, members_take}

-- a set by itself is read at each depth that suffices
TermRead : SetForm → Type 0
TermRead t = (ts us : List SpecToken) → IsSetTerm ts t us → (n : ℕ) → length ts ≤ n → (set_term (sets n) ts ≡ taken t us) × (length us < length ts)

-- and so is the front of an expression, up to what may stand behind it
FrontRead : SetForm → Type 0
FrontRead s = (ts us : List SpecToken) → IsSetFront ts s us → (n : ℕ) → length ts < n → (m : ℕ) × (length us < m) × (length us < length ts) × (sets n AllSets ts ≡ sets m (Further s) us)

start_read : (t : SetForm) (n : ℕ) (ts us : List SpecToken) → set_term (sets n) ts ≡ taken t us → sets (suc n) AllSets ts ≡ sets n (Further t) us
unfolding sets set_start
start_read t n ts us e = rw e refl

further_read : (k : SetSign) (s t : SetForm) (n : ℕ) (ts us vs : List SpecToken) → set_sign ts ≡ Some (k, us) → set_term (sets n) us ≡ taken t vs → sets (suc n) (Further s) ts ≡ sets n (Further (signed k s t)) vs
unfolding sets set_behind
further_read k s t n ts us vs e i = rw (e, i) refl

ends_read : (s : SetForm) (m : ℕ) (us : List SpecToken) → length us < m → set_sign us ≡ None → sets m (Further s) us ≡ taken s us
unfolding sets set_behind
ends_read s zero us lt e = absurd (omega arith)
ends_read s (suc m) us lt e = rw e refl

no_sign : (us : List SpecToken) → Lacks (codes "+") us → Lacks (codes "-") us → set_sign us ≡ None
unfolding set_sign
no_sign us p m = rw (p, m) refl

plus_sign : (us vs : List SpecToken) → Begins (codes "+") us vs → set_sign us ≡ Some (sign.Plus, vs)
unfolding set_sign
plus_sign us vs p = rw p refl

minus_sign : (us vs : List SpecToken) → Begins (codes "-") us vs → set_sign us ≡ Some (sign.Minus, vs)
unfolding set_sign
minus_sign us vs m =
    let p : after (codes "+") us ≡ None = other_mark (codes "-") (codes "+") us vs refl m in
    rw (p, m) refl

named_read : (w : List ℕ) (ts us : List SpecToken) → first identifier_item ts ≡ taken w us → (n : ℕ) → set_term (sets n) ts ≡ taken (SNamed w) us
unfolding set_term set_plain set_name
named_read w ts us e n =
    let p : after (codes "(") ts ≡ None = not_identifier (codes "(") w ts us refl e in
    let b : after (codes "{") ts ≡ None = not_identifier (codes "{") w ts us refl e in
    rw (p, b, e) refl

opened : (ts us : List SpecToken) (xs : List (List ℕ)) → optional_list_in brackets.Curly kind.Identifier ts ≡ taken xs us → (vs : List SpecToken) × (after (codes "{") ts ≡ Some vs)
unfolding between
opened ts us xs e =
    let a = bind_some (after (codes "{") ts) (λ vs. optional_list identifier_item vs >>= λ x. after (codes "}") x.1 >>= λ rest. Some (x.0, rest)) (xs, us) e in
    (a.0, a.1)

members_read : (xs : List (List ℕ)) (ts us : List SpecToken) → optional_list_in brackets.Curly kind.Identifier ts ≡ taken xs us → (n : ℕ) → set_term (sets n) ts ≡ taken (SMembers xs) us
unfolding set_term set_plain set_members
members_read xs ts us e n =
    let o = opened ts us xs e in
    let p : after (codes "(") ts ≡ None = other_mark (codes "{") (codes "(") ts o.0 refl o.1 in
    let b : begins_with (codes "{") ts ≡ true = rw o.1 refl in
    rw (p, b, e) refl

paren_read : (s : SetForm) → FrontRead s → TermRead (SParen s)
unfolding TermRead FrontRead set_term set_paren
paren_read s inner ts rest h n le =
    let us = h.0 in
    let vs = h.1 in
    let open_ : after (codes "(") ts ≡ Some us = h.2 in
    let close_ : after (codes ")") vs ≡ Some rest = h.6 in
    let l : length us < length ts = after_takes (codes "(") ts us open_ in
    let k : length rest < length vs = after_takes (codes ")") vs rest close_ in
    let a = inner us vs h.3 n (omega arith) in
    let lv : length vs < length us = a.2 in
    let whole : sets n AllSets us ≡ taken s vs = a.3 ∙ ends_read s a.0 vs a.1 (no_sign vs h.4 h.5) in
    (rw (open_, whole, close_) refl, omega arith)

from_term : (t : SetForm) → ((ts us : List SpecToken) → IsSetFront ts t us → IsSetTerm ts t us) → TermRead t → FrontRead t
unfolding TermRead FrontRead
from_term t same read ts us h zero lt = absurd (omega arith)
from_term t same read ts us h (suc m) lt =
    let r = read ts us (same ts us h) m (omega arith) in
    let l : length us < length ts = r.1 in
    (m, omega arith, l, start_read t m ts us r.0)

-- one more set
more_read : (k : SetSign) (s t : SetForm) → TermRead t → (us vs rest : List SpecToken) → set_sign us ≡ Some (k, vs) → length vs < length us → IsSetTerm vs t rest → (m : ℕ) → length us < m → (j : ℕ) × (length rest < j) × (length rest < length us) × (sets m (Further s) us ≡ sets j (Further (signed k s t)) rest)
unfolding TermRead
more_read k s t read us vs rest e l h zero lt = absurd (omega arith)
more_read k s t read us vs rest e l h (suc m) lt =
    let r = read vs rest h m (omega arith) in
    let lr : length rest < length vs = r.1 in
    (m, omega arith, omega arith, further_read k s t m us vs rest e r.0)

signed_read : (k : SetSign) (s t : SetForm) → FrontRead s → TermRead t → (ts us vs rest : List SpecToken) → IsSetFront ts s us → set_sign us ≡ Some (k, vs) → length vs < length us → IsSetTerm vs t rest → (n : ℕ) → length ts < n → (m : ℕ) × (length rest < m) × (length rest < length ts) × (sets n AllSets ts ≡ sets m (Further (signed k s t)) rest)
unfolding FrontRead
signed_read k s t front term ts us vs rest f e l h n lt =
    let a = front ts us f n lt in
    let b = more_read k s t term us vs rest e l h a.0 a.1 in
    let la : length us < length ts = a.2 in
    let lb : length rest < length us = b.2 in
    (b.0, b.1, omega arith, a.3 ∙ b.3)

named_term : (w : List ℕ) → TermRead (SNamed w)
unfolding TermRead
named_term w ts us h n le = (named_read w ts us h n, first_takes identifier_item ts us w h)

members_term : (xs : List (List ℕ)) → TermRead (SMembers xs)
unfolding TermRead
members_term xs ts us h n le = (members_read xs ts us h n, members_take ts us xs h)

plus_front : (s t : SetForm) → FrontRead s → TermRead t → FrontRead (SPlus s t)
unfolding FrontRead
plus_front s t front term ts rest h n lt = signed_read sign.Plus s t front term ts h.0 h.1 rest h.2 (plus_sign h.0 h.1 h.3) (after_takes (codes "+") h.0 h.1 h.3) h.4 n lt

minus_front : (s t : SetForm) → FrontRead s → TermRead t → FrontRead (SMinus s t)
unfolding FrontRead
minus_front s t front term ts rest h n lt = signed_read sign.Minus s t front term ts h.0 h.1 rest h.2 (minus_sign h.0 h.1 h.3) (after_takes (codes "-") h.0 h.1 h.3) h.4 n lt

no_plus_term : (s t : SetForm) → TermRead (SPlus s t)
unfolding TermRead
no_plus_term s t ts us h n le = elim h [ ]

no_minus_term : (s t : SetForm) → TermRead (SMinus s t)
unfolding TermRead
no_minus_term s t ts us h n le = elim h [ ]

all_read : (s : SetForm) → FrontRead s × TermRead s
all_read (SNamed w) = (from_term (SNamed w) (λ ts us h. h) (named_term w), named_term w)
all_read (SMembers xs) = (from_term (SMembers xs) (λ ts us h. h) (members_term xs), members_term xs)
all_read (SParen s) =
    let inner = paren_read s (all_read s).0 in
    (from_term (SParen s) (λ ts us h. h) inner, inner)
all_read (SPlus s t) = (plus_front s t (all_read s).0 (all_read t).1, no_plus_term s t)
all_read (SMinus s t) = (minus_front s t (all_read s).0 (all_read t).1, no_minus_term s t)

pub term_read : (ts rest : List SpecToken) (t : SetForm) → IsSetTerm ts t rest → set_term (sets (length ts)) ts ≡ taken t rest
unfolding TermRead
term_read ts rest t h = ((all_read t).1 ts rest h (length ts) (omega arith)).0

pub set_read : (ts rest : List SpecToken) (s : SetForm) → IsSet ts s rest → (set_reading ts ≡ taken s rest) × (length rest < length ts)
unfolding set_reading FrontRead
set_read ts rest s h =
    let a = (all_read s).0 ts rest h.0 (length ts + 1) (omega arith) in
    (a.3 ∙ ends_read s a.0 rest a.1 (no_sign rest h.1 h.2), a.2)

pub head_read : (ts rest : List SpecToken) (var : List ℕ) (s : SetForm) → IsHead ts var s rest → (head_reading ts ≡ taken (var, s) rest) × (length rest < length ts)
unfolding head_reading
head_read ts rest var s h =
    let set = set_read h.2 h.3 s h.8 in
    let la : length h.0 < length ts = after_takes (codes "(") ts h.0 h.5 in
    let lb : length h.1 < length h.0 = first_takes identifier_item h.0 h.1 var h.6 in
    let lc : length h.2 < length h.1 = after_takes (codes "in") h.1 h.2 h.7 in
    let ld : length h.3 < length h.2 = set.1 in
    let le : length h.4 < length h.3 = after_takes (codes ")") h.3 h.4 h.9 in
    let lf : length rest < length h.4 = after_takes (codes "{") h.4 rest h.10 in
    (rw (h.5, h.6, h.7, set.0, h.9, h.10) refl, omega arith)
