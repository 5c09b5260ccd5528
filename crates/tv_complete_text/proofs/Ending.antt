-- What is passed over is what the grammar of structures reads.
use Rattle.std.proofs.Common.{◌≡◌, ◌∙◌, ℕ, zero, suc, ◌+◌, Bool, true, false, cond, List, [], ◌∷◌, length}
use Rattle.std.proofs.Common.{map}
use Rattle.std.proofs.Common.{Option, Some, None, refl, sym, ap}
use Rattle.std.specs.Prelude.{codes, if◌then◌else◌}
use Rattle.std.proofs.lemmas.Option.{same_Some}
use Rattle.tv_kleene.specs.declared.K3.{K3}
use Rattle.tv_lex.specs.Token.{SpecToken}
use Rattle.tv_phrases.specs.Reading.{Reading, taken, ◌>>=◌, choose}
use Rattle.tv_phrases.specs.Tokens.{after, first, word_item}
use Rattle.tv_phrases.specs.Lists.{name}
use Rattle.tv_phrases.specs.Repeated.{many, turn, with_first, all_of}
use Rattle.tv_tvs.specs.Tree.{NameTree, ItemTree, ContentTree, OneValue, Listed, EntryTree}
use Rattle.tv_tvs.specs.Grammar.{value_item, begins_comma, begins_word}
use Rattle.tv_tvs.specs.Reading.{second_at, item_value_at, item_at, next_item_at, next_items_at}
use Rattle.tv_tvs.specs.Reading.{one_or_more_at, items_at, one_value_at, braces_at, content_at, entry_at}
use Rattle.tv_complete_text.specs.Ends.{ends_of_reading, value_end, second_end, item_value_end, item_word}
use Rattle.tv_complete_text.specs.Ends.{next_item_word}
use Rattle.tv_complete_text.specs.Ends.{some_items_end, items_end, content_end, entry_name}

-- ---- readings with other values

ends-told : {A B : Type 0} (f : A → B) (r : Reading A) → ends_of_reading r ≡ ends_of_reading
    (r >>= λ x. Some (f x.0, x.1))
ends-told f None = refl
ends-told f (Some x) = refl

-- a reading with another value
abbrev pub mapped : {A B : Type 0} → (A → B) → Reading A → Reading B
mapped f r = r >>= λ x. Some (f x.0, x.1)

ends-with : {B : Type 0} (y : B) (o : Option (List SpecToken)) → o ≡ ends_of_reading (o >>= λ rest. Some (y, rest))
ends-with y None = refl
ends-with y (Some rest) = refl

-- ---- items

second-ends : (ts : List SpecToken) → second_end ts ≡ ends_of_reading (second_at ts)
unfolding second_end second_at
second-ends ts = by (after (codes "->") ts)
  where
    by : (o : Option (List SpecToken)) → choose o (Some ts) (λ us. ends_of_reading (first word_item us))
        ≡ ends_of_reading (choose o (Some (None, ts)) (λ us. first word_item us >>= λ w. Some (Some w.0, w.1)))
    by None = refl
    by (Some us) = ends-told (λ w. Some w) (first word_item us)

item_value-ends : (ts : List SpecToken) → item_value_end ts ≡ ends_of_reading (item_value_at ts)
unfolding item_value_end item_value_at value_end
item_value-ends ts = by (after (codes ":") ts)
  where
    by : (o : Option (List SpecToken)) → choose o (Some ts) (λ us. ends_of_reading (first value_item us))
        ≡ ends_of_reading (choose o (Some (None, ts)) (λ us. first value_item us >>= λ k. Some (Some k.0, k.1)))
    by None = refl
    by (Some us) = ends-told (λ k. Some k) (first value_item us)

abbrev item_with : List ℕ → Option (List ℕ) → Option K3 → ItemTree
item_with word second value = record { first = word; second = second; value = value }

item-ends : (ts : List SpecToken) → ends_of_reading (item_word ts) ≡ ends_of_reading (item_at ts)
unfolding item_word item_at
item-ends ts = whole (first word_item ts)
  where
    last : (w : List ℕ) (second : Option (List ℕ)) (v : Reading (Option K3))
        → ends_of_reading (ends_of_reading v >>= λ rest. Some (w, rest)) ≡ ends_of_reading
        (v >>= λ value. Some (item_with w second value.0, value.1))
    last w second None = refl
    last w second (Some v) = refl

    middle : (w : List ℕ) (s : Reading (Option (List ℕ)))
        → ends_of_reading (ends_of_reading s >>= λ us. item_value_end us >>= λ rest. Some (w, rest))
        ≡ ends_of_reading (s >>= λ second. item_value_at second.1 >>= λ value. Some
        (item_with w second.0 value.0, value.1))
    middle w None = refl
    middle w (Some s) =
        ap (λ o. ends_of_reading (o >>= λ rest. Some (w, rest))) (item_value-ends s.1) ∙ last w s.0 (item_value_at s.1)

    whole : (r : Reading (List ℕ))
        → ends_of_reading (r >>= λ word. second_end word.1 >>= λ us. item_value_end us >>= λ rest. Some (word.0, rest))
        ≡ ends_of_reading (r >>= λ word. second_at word.1 >>= λ second. item_value_at second.1 >>= λ value. Some
        (item_with word.0 second.0 value.0, value.1))
    whole None = refl
    whole (Some w) =
        ap (λ o. ends_of_reading (o >>= λ us. item_value_end us >>= λ rest. Some (w.0, rest))) (second-ends w.1)
        ∙ middle w.0 (second_at w.1)

next_item-ends : (ts : List SpecToken) → ends_of_reading (next_item_word ts) ≡ ends_of_reading (next_item_at ts)
unfolding next_item_word next_item_at
next_item-ends ts = by (after (codes ",") ts)
  where
    by : (o : Option (List SpecToken)) → ends_of_reading (o >>= item_word) ≡ ends_of_reading (o >>= item_at)
    by None = refl
    by (Some us) = item-ends us

-- ---- any number of them

first-ends : {X : Type 0} (x : X) (r : Reading (List X)) → ends_of_reading (with_first x r) ≡ ends_of_reading r
unfolding with_first
first-ends x None = refl
first-ends x (Some more) = refl

-- where two readings end alike, so do readings behind them
ends-alike : {A B C D : Type 0} (r : Reading A) (s : Reading B) (k : A × List SpecToken → Reading C)
    (l : B × List SpecToken → Reading D) → ends_of_reading r ≡ ends_of_reading s
    → ((x : A × List SpecToken) (y : B × List SpecToken) → x.1 ≡ y.1 → ends_of_reading (k x) ≡ ends_of_reading (l y))
    → ends_of_reading (r >>= k) ≡ ends_of_reading (s >>= l)
ends-alike None None k l e same = refl
ends-alike None (Some y) k l e same = absurd cc
ends-alike (Some x) None k l e same = absurd cc
ends-alike (Some x) (Some y) k l e same = same x y (same_Some x.1 y.1 e)

many-ends : {A B : Type 0} (begins : List SpecToken → Bool) (one : List SpecToken → Reading A)
    (other : List SpecToken → Reading B) → ((ts : List SpecToken) → ends_of_reading (one ts) ≡ ends_of_reading
    (other ts))
    → (n : ℕ) (ts : List SpecToken) → ends_of_reading (many begins one n ts) ≡ ends_of_reading (many begins other n ts)
unfolding many turn
many-ends begins one other same zero ts = refl
many-ends {A} {B} begins one other same (suc n) ts = by (many-ends begins one other same n) (begins ts)
  where
    by : ((us : List SpecToken) → ends_of_reading (many begins one n us) ≡ ends_of_reading (many begins other n us))
        → (b : Bool)
        → ends_of_reading (if b then (one ts >>= λ x. with_first x.0 (many begins one n x.1)) else taken [] ts)
        ≡ ends_of_reading (if b then (other ts >>= λ x. with_first x.0 (many begins other n x.1)) else taken [] ts)
    by rest false = refl
    by rest true =
        ends-alike (one ts) (other ts) (λ x. with_first x.0 (many begins one n x.1))
        (λ x. with_first x.0 (many begins other n x.1)) (same ts) (λ x y e.
        first-ends x.0 (many begins one n x.1)
        ∙ ap (λ us. ends_of_reading (many begins one n us)) e
        ∙ rest y.1
        ∙ sym (first-ends y.0 (many begins other n y.1)))

many-told : {A B : Type 0} (begins : List SpecToken → Bool) (f : A → B) (one : List SpecToken → Reading B)
    (other : List SpecToken → Reading A) → ((ts : List SpecToken) → one ts ≡ mapped f (other ts))
    → (n : ℕ) (ts : List SpecToken) → many begins one n ts ≡ mapped (map f) (many begins other n ts)
unfolding many turn with_first
many-told begins f one other same zero ts = refl
many-told {A} {B} begins f one other same (suc n) ts = by (many-told begins f one other same n) (begins ts)
  where
    joined : (x : A) (r : Reading (List A)) → with_first (f x) (mapped (map f) r) ≡ mapped (map f) (with_first x r)
    joined x None = refl
    joined x (Some more) = refl

    step : ((us : List SpecToken) → many begins one n us ≡ mapped (map f) (many begins other n us)) → (r : Reading A)
        → (mapped f r >>= λ y. with_first y.0 (many begins one n y.1))
        ≡ mapped (map f) (r >>= λ x. with_first x.0 (many begins other n x.1))
    step rest None = refl
    step rest (Some x) = ap (with_first (f x.0)) (rest x.1) ∙ joined x.0 (many begins other n x.1)

    by : ((us : List SpecToken) → many begins one n us ≡ mapped (map f) (many begins other n us)) → (b : Bool)
        → (if b then (one ts >>= λ y. with_first y.0 (many begins one n y.1)) else taken [] ts)
        ≡ mapped (map f) (if b then (other ts >>= λ x. with_first x.0 (many begins other n x.1)) else taken [] ts)
    by rest false = refl
    by rest true =
        ap (λ (r : Reading B). r >>= λ y. with_first y.0 (many begins one n y.1)) (same ts) ∙ step rest (other ts)

-- ---- contents

some_items-ends : (ts : List SpecToken) → some_items_end ts ≡ ends_of_reading (one_or_more_at ts)
unfolding some_items_end one_or_more_at
some_items-ends ts = by (item_word ts) (item_at ts) (item-ends ts)
  where
    by : (r : Reading (List ℕ)) (s : Reading ItemTree) → ends_of_reading r ≡ ends_of_reading s
        → (r >>= λ word. ends_of_reading (all_of begins_comma next_item_word word.1))
        ≡ ends_of_reading (s >>= λ item. next_items_at item.1 >>= λ items. Some (item.0 ∷ items.0, items.1))
    by None None e = refl
    by None (Some y) e = absurd cc
    by (Some x) None e = absurd cc
    by (Some x) (Some y) e =
        ap (λ us. ends_of_reading (all_of begins_comma next_item_word us)) (same_Some x.1 y.1 e)
        ∙ many-ends begins_comma next_item_word next_item_at next_item-ends (length y.1 + 1) y.1
        ∙ ends-told (λ items. y.0 ∷ items) (next_items_at y.1)

items-ends : (ts : List SpecToken) → items_end ts ≡ ends_of_reading (items_at ts)
unfolding items_end items_at
items-ends ts = by (begins_word ts)
  where
    by : (b : Bool) → (if b then some_items_end ts else Some ts) ≡ ends_of_reading
        (if b then one_or_more_at ts else Some ([], ts))
    by true = some_items-ends ts
    by false = refl

content-ends : (ts : List SpecToken) → content_end ts ≡ ends_of_reading (content_at ts)
unfolding content_end content_at one_value_at braces_at value_end
content-ends ts = by (after (codes "{") ts)
  where
    inside : (r : Reading (List ItemTree)) → (ends_of_reading r >>= after (codes "}"))
        ≡ ends_of_reading (r >>= λ items. after (codes "}") items.1 >>= λ rest. Some (Listed items.0, rest))
    inside None = refl
    inside (Some x) = ends-with (Listed x.0) (after (codes "}") x.1)

    by : (o : Option (List SpecToken)) → choose o (ends_of_reading (first value_item ts))
        (λ us. items_end us >>= after (codes "}"))
        ≡ ends_of_reading (choose o (first value_item ts >>= λ k. Some (OneValue k.0, k.1))
        (λ us. items_at us >>= λ items. after (codes "}") items.1 >>= λ rest. Some (Listed items.0, rest)))
    by None = ends-told OneValue (first value_item ts)
    by (Some us) = ap (λ o. o >>= after (codes "}")) (items-ends us) ∙ inside (items_at us)

-- ---- names

abbrev entry_with : NameTree → ContentTree → EntryTree
entry_with n content = record { name = n; content = content }

abbrev named_end : NameTree → Option (List SpecToken) → Reading NameTree
named_end n o = o >>= λ rest. Some (n, rest)

abbrev pub entry_named : EntryTree → NameTree
entry_named entry = entry.name

entry-named : (ts : List SpecToken) → entry_name ts ≡ mapped entry_named (entry_at ts)
unfolding entry_name entry_at
entry-named ts = whole (name ts)
  where
    last : (n : NameTree) (r : Reading ContentTree) → named_end n (ends_of_reading r) ≡ mapped entry_named
        (mapped (entry_with n) r)
    last n None = refl
    last n (Some content) = refl

    middle : (n : NameTree) (o : Option (List SpecToken)) → (o >>= λ us. named_end n (content_end us))
        ≡ mapped entry_named (o >>= λ us. mapped (entry_with n) (content_at us))
    middle n None = refl
    middle n (Some us) = ap (named_end n) (content-ends us) ∙ last n (content_at us)

    whole : (r : Reading NameTree) → (r >>= λ n. after (codes "=") n.1 >>= λ us. named_end n.0 (content_end us))
        ≡ mapped entry_named (r >>= λ n. after (codes "=") n.1 >>= λ us. mapped (entry_with n.0) (content_at us))
    whole None = refl
    whole (Some n) = middle n.0 (after (codes "=") n.1)

pub entries-named : (begins : List SpecToken → Bool) (ts : List SpecToken)
    → all_of begins entry_name ts ≡ mapped (map entry_named) (all_of begins entry_at ts)
entries-named begins ts = many-told begins entry_named entry_name entry_at entry-named (length ts + 1) ts
