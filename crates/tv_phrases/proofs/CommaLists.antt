-- Comma lists, item by item.
use Rattle.std.proofs.Common.{◌≡◌, List, [], ◌∷◌, ◌++◌, Bool, true, false, if◌then◌else◌, Option, Some, None}
use Rattle.std.proofs.Common.{refl, sym, ◌∙◌, ap, append_assoc, map}
use Rattle.std.specs.Prelude.{codes}
use Rattle.std.specs.Str.{bytes_eq}
use Rattle.std.proofs.lemmas.List.{append-nil}
use Rattle.tv_lex.specs.Token.{SpecToken}
use Rattle.tv_phrases.proofs.Values.{same_value, same_rest}
use Rattle.tv_phrases.specs.Reading.{Reading, ◌>>=◌, taken}
use Rattle.tv_phrases.specs.Tokens.{after, first}
use Rattle.tv_phrases.specs.Lists.{with_front, items_from}

front_front : {X : Type 0} (xs : List X) (x : X) (read : Reading (List X)) → with_front xs (with_front (x ∷ []) read) ≡ with_front (xs ++ x ∷ []) read
unfolding with_front
front_front xs x None = refl
front_front xs x (Some more) = ap (λ ys. Some (ys, more.1)) (sym (append_assoc xs (x ∷ []) more.0))

front_none : {X : Type 0} (xs : List X) → with_front xs None ≡ None
unfolding with_front
front_none xs = refl

-- an item with the tokens behind it
abbrev before : {X : Type 0} → List SpecToken → X → Reading X
before ts x = Some (x, ts)

-- an item, and the list that is read behind it
abbrev listed : {X : Type 0} → (SpecToken → Option X) → List SpecToken → X → Reading (List X)
listed item ts x = with_front (x ∷ []) (items_from item false ts)

begun_by : {X : Type 0} (item : SpecToken → Option X) (o : Option X) (ts us : List SpecToken) (x : X) → (o >>= before ts) ≡ Some (x, us) → (o >>= listed item ts) ≡ with_front (x ∷ []) (items_from item false us)
begun_by item None ts us x h = cc
begun_by item (Some y) ts us x h =
    let same : y ≡ x = same_value y x ts us h in
    let rest : ts ≡ us = same_rest y x ts us h in
    ap (λ z. listed item ts z) same ∙ ap (λ vs. listed item vs x) rest

not_begun_by : {X : Type 0} (item : SpecToken → Option X) (o : Option X) (ts : List SpecToken) → (o >>= before ts) ≡ None → (o >>= listed item ts) ≡ None
not_begun_by item None ts h = refl
not_begun_by item (Some y) ts h = cc

same_tokens : (b : Bool) (ts us : List SpecToken) → (if b then Some ts else None) ≡ Some us → ts ≡ us
same_tokens true ts us h = cc
same_tokens false ts us h = cc

-- an item is read by the reading of the first token
items_begun : {X : Type 0} (item : SpecToken → Option X) (ts us : List SpecToken) (x : X) → first item ts ≡ Some (x, us) → items_from item true ts ≡ with_front (x ∷ []) (items_from item false us)
unfolding items_from first with_front
items_begun item [] us x read = cc
items_begun item (t ∷ ts) us x read = begun_by item (item t) ts us x read

pub not_begun : {X : Type 0} (item : SpecToken → Option X) (ts : List SpecToken) → first item ts ≡ None → items_from item true ts ≡ None
unfolding items_from first
not_begun item [] read = refl
not_begun item (t ∷ ts) read = not_begun_by item (item t) ts read

pub begun : {X : Type 0} (item : SpecToken → Option X) (ts us : List SpecToken) (x : X) → first item ts ≡ Some (x, us) → items_from item true ts ≡ with_front ([] ++ x ∷ []) (items_from item false us)
begun item ts us x read = items_begun item ts us x read

-- behind an item, a comma goes on
items_gone_on : {X : Type 0} (item : SpecToken → Option X) (ts us : List SpecToken) → after (codes ",") ts ≡ Some us → items_from item false ts ≡ items_from item true us
unfolding items_from after
items_gone_on item [] us read = cc
items_gone_on item (t ∷ ts) us read = rw read (ap (λ vs. items_from item true vs) (same_tokens (bytes_eq t.bytes (codes ",")) ts us read))

pub no_more_items : {X : Type 0} (item : SpecToken → Option X) (xs : List X) (ts : List SpecToken) → after (codes ",") ts ≡ None → with_front xs (items_from item false ts) ≡ Some (xs, ts)
unfolding items_from with_front
no_more_items item xs [] none = ap (λ ys. Some (ys, [])) (append-nil xs)
no_more_items item xs (t ∷ ts) none = rw none (ap (λ ys. Some (ys, t ∷ ts)) (append-nil xs))

pub more_items : {X : Type 0} (item : SpecToken → Option X) (xs : List X) (ts us vs : List SpecToken) (x : X) → after (codes ",") ts ≡ Some us → first item us ≡ Some (x, vs) → with_front xs (items_from item false ts) ≡ with_front (xs ++ x ∷ []) (items_from item false vs)
more_items item xs ts us vs x comma read = ap (with_front xs) (items_gone_on item ts us comma ∙ items_begun item us vs x read) ∙ front_front xs x (items_from item false vs)

pub broken_items : {X : Type 0} (item : SpecToken → Option X) (xs : List X) (ts us : List SpecToken) → after (codes ",") ts ≡ Some us → first item us ≡ None → with_front xs (items_from item false ts) ≡ None
broken_items item xs ts us comma none = ap (with_front xs) (items_gone_on item ts us comma ∙ not_begun item us none) ∙ front_none xs

map_push : {A B : Type 0} (f : A → B) (xs : List A) (x : A) → map f (xs ++ x ∷ []) ≡ map f xs ++ f x ∷ []
map_push f [] x = refl
map_push f (y ∷ ys) x = ap (λ zs. f y ∷ zs) (map_push f ys x)

-- one more item in a vector of tokens
pub item_pushed : {X T : Type 0} (item : SpecToken → Option X) (text : T → X) (old new : List T) (t : T) (ts us vs : List SpecToken) → new ≡ old ++ t ∷ [] → after (codes ",") ts ≡ Some us → first item us ≡ taken (text t) vs → with_front (map text old) (items_from item false ts) ≡ with_front (map text new) (items_from item false vs)
item_pushed item text old new t ts us vs pushed comma read =
    more_items item (map text old) ts us vs (text t) comma read
    ∙ ap (λ xs. with_front xs (items_from item false vs)) (sym (ap (map text) pushed ∙ map_push text old t))
