-- What one reading says of another at the same place, and of the tokens that are left.
use Rattle.std.proofs.Common.{◌≡◌, ℕ, ◌<◌, ◌≤◌, List, [], ◌∷◌, Bool, true, false, Option, Some, None, length}
use Rattle.std.proofs.Common.{refl, subst, arith}
use Rattle.std.specs.Prelude.{codes, if◌then◌else◌, ◌&&◌, IfSome}
use Rattle.std.specs.Str.{bytes_eq}
use Rattle.std.proofs.lemmas.Slice.Eq.{bytes_eq-Decides}
use Rattle.tv_lex.specs.Token.{SpecToken}
use Rattle.tv_phrases.specs.Reading.{◌>>=◌, choose, taken}
use Rattle.tv_phrases.specs.Tokens.{after, first, is_word, is_identifier, identifier_item}
use Rattle.tv_phrases.specs.Lists.{comma_list, between, params, variables, optional_brackets, name, pair}
use Rattle.std.proofs.lemmas.Bool.{false_from_ne_true}
use Rattle.tv_phrases.proofs.Takes.{after_takes, first_takes, params_take, variables_take, pair_takes}
pub use Rattle.tv_lemmas.proofs.Options.{IfSome-value as at_some}
use Rattle.tv_phrases.proofs.Takes.{name_takes}

-- ---- tools over readings

pub on_bind : {A B : Type 0} (o : Option A) (k : A → Option B) (Q : B → Type 0) → ((x : A) → o ≡ Some x → IfSome (k x) Q) → IfSome (o >>= k) Q
on_bind None k Q h = tt
on_bind (Some x) k Q h = h x refl

-- the same, of a step that is known to give what P says
pub on_read : {A B : Type 0} (o : Option A) (k : A → Option B) (P : A → Type 0) (Q : B → Type 0) → IfSome o P → ((x : A) → P x → IfSome (k x) Q) → IfSome (o >>= k) Q
on_read None k P Q p h = tt
on_read (Some x) k P Q p h = h x p

pub on_choose : {A B : Type 0} (o : Option A) (none : Option B) (some : A → Option B) (Q : B → Type 0) → (o ≡ None → IfSome none Q) → ((x : A) → o ≡ Some x → IfSome (some x) Q) → IfSome (choose o none some) Q
on_choose None else_ then_ Q h k = h refl
on_choose (Some x) else_ then_ Q h k = k x refl

pub on_if : {B : Type 0} (b : Bool) (this other : Option B) (Q : B → Type 0) → (b ≡ true → IfSome this Q) → (b ≡ false → IfSome other Q) → IfSome (if b then this else other) Q
on_if true this other Q h k = h refl
on_if false this other Q h k = k refl

pub on_more : {A : Type 0} (o : Option A) (P Q : A → Type 0) → IfSome o P → ((x : A) → P x → Q x) → IfSome o Q
on_more None P Q p h = tt
on_more (Some x) P Q p h = h x p

pub on_all : {A : Type 0} (o : Option A) (Q : A → Type 0) → ((x : A) → Q x) → IfSome o Q
on_all None Q h = tt
on_all (Some x) Q h = h x

-- ---- one token

if_true : {B : Type 0} (b : Bool) (x : B) (y : B) → (if b then Some x else None) ≡ Some y → b ≡ true
if_true true x y e = refl
if_true false x y e = cc

-- a token is spelled like one mark at most
pub other_mark : (m k : List ℕ) (ts us : List SpecToken) → bytes_eq m k ≡ false → after m ts ≡ Some us → after k ts ≡ None
unfolding after
other_mark m k [] us differ begins = refl
other_mark m k (t ∷ ts) us differ begins =
    let same : t.bytes ≡ m = (bytes_eq-Decides t.bytes m).0 (if_true (bytes_eq t.bytes m) ts us begins) in
    rw (same, differ) refl

and_right : (a b : Bool) → (a && b) ≡ true → b ≡ true
and_right true b e = e
and_right false b e = cc

item_true : (b : Bool) (w : List ℕ) (ts us : List SpecToken) (x : List ℕ) → ((if b then Some w else None) >>= λ y. taken y ts) ≡ taken x us → b ≡ true
item_true true w ts us x e = refl
item_true false w ts us x e = cc

-- an identifier is spelled like no mark that isn't an identifier
pub not_identifier : (k : List ℕ) (w : List ℕ) (ts us : List SpecToken) → is_identifier k ≡ false → first identifier_item ts ≡ taken w us → after k ts ≡ None
unfolding after first
not_identifier k w [] us unlike is = refl
not_identifier k w (t ∷ ts) us unlike is =
    let named : is_identifier t.bytes ≡ true = and_right (is_word t.kind) (is_identifier t.bytes) (item_true (is_word t.kind && is_identifier t.bytes) t.bytes ts us w is) in
    let other : bytes_eq t.bytes k ≡ false = false_from_ne_true (bytes_eq t.bytes k) (λ e. let same : t.bytes ≡ k = (bytes_eq-Decides t.bytes k).0 e in let both : is_identifier k ≡ true = subst (λ (z : List ℕ). is_identifier z ≡ true) same named in cc) in
    rw other refl

-- ---- names

-- the identifier of a name, and what stands behind it
pub name_parts : (ts us : List SpecToken) (n : List ℕ × List (List ℕ)) → name ts ≡ taken n us → (vs : List SpecToken) × (first identifier_item ts ≡ taken n.0 vs) × (optional_brackets vs ≡ taken n.1 us)
unfolding name
name_parts ts us n is =
    at_some (name ts) (λ x. (vs : List SpecToken) × (first identifier_item ts ≡ taken x.0.0 vs) × (optional_brackets vs ≡ taken x.0.1 x.1)) (n, us)
    (on_bind (first identifier_item ts) _ _ (λ w word. on_bind (optional_brackets w.1) _ _ (λ b brackets. (w.1, word, brackets)))) is

-- behind a name's identifier stands `[`, or what stands behind the name
pub brackets_lack : (k : List ℕ) (ts us : List SpecToken) (ws : List (List ℕ)) → bytes_eq (codes "[") k ≡ false → optional_brackets ts ≡ taken ws us → after k us ≡ None → after k ts ≡ None
unfolding optional_brackets
brackets_lack k ts us ws differ is lacks =
    at_some (optional_brackets ts) (λ x. after k x.1 ≡ None → after k ts ≡ None) (ws, us)
    (on_choose (after (codes "[") ts) _ _ _ (λ none h. h) (λ vs begins. on_all (between (codes "[") (codes "]") (comma_list identifier_item) ts) _ (λ x h. other_mark (codes "[") k ts vs differ begins))) is lacks

-- ---- the tokens that are left

pub after_shorter : (m : List ℕ) (ts us : List SpecToken) → after m ts ≡ Some us → length us < length ts
after_shorter m ts us is = after_takes m ts us is

pub params_shorter : (ts us : List SpecToken) (xs : List (List ℕ)) → params ts ≡ taken xs us → length us ≤ length ts
params_shorter ts us xs is = let l = params_take ts us xs is in omega arith

pub variables_shorter : (ts us : List SpecToken) (xs : List (List ℕ)) → variables ts ≡ taken xs us → length us ≤ length ts
variables_shorter ts us xs is = let l = variables_take ts us xs is in omega arith

pub pair_shorter : (ts us : List SpecToken) (x : List ℕ × List ℕ) → pair ts ≡ taken x us → length us ≤ length ts
pair_shorter ts us x is = let l = pair_takes ts us x is in omega arith

pub identifier_shorter : (ts us : List SpecToken) (w : List ℕ) → first identifier_item ts ≡ taken w us → length us ≤ length ts
identifier_shorter ts us w is = let l = first_takes identifier_item ts us w is in omega arith

pub name_shorter : (ts us : List SpecToken) (n : List ℕ × List (List ℕ)) → name ts ≡ taken n us → length us ≤ length ts
name_shorter ts us n is = let l = name_takes ts us n is in omega arith
