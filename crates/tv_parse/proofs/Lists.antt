-- Items one after the other, as the loops read them.
use Rattle.std.proofs.Common.{◌≡◌, ℕ, zero, suc, ◌+◌, ◌<◌, ◌≤◌, drop, get_or, List, [], ◌∷◌, ◌++◌, Bool, true}
use Rattle.std.proofs.Common.{false, length, map, Some, None, refl, sym, ◌∙◌, ap}
use Rattle.std.proofs.lemmas.List.{map_push, drop_more, drop_all}
use Rattle.std.specs.Prelude.{◌||◌}
use Rattle.tv_lex.specs.Token.{SpecToken}
use Rattle.tv_phrases.specs.Reading.{Reading, taken, ◌>>=◌}
use Rattle.tv_phrases.specs.Tokens.{first}
use Rattle.tv_phrases.specs.Lists.{with_front}
use Rattle.tv_tree.specs.Forms.{Nest, PartForm}
use Rattle.tv_tree.specs.Copies.{part_of}
use Rattle.tv_tree.specs.declared.trees.Part.{Part}
use Rattle.tv_tree.specs.declared.trees.PropWord.{PropWord}
use Rattle.tv_parse.specs.declared.kinds.PartKind.{PartKind}
use Rattle.tv_parse.specs.Kinds.{part_kind, prop_item, kind_of, same_kind, has_kind, may_follow}
use Rattle.tv_parse.specs.Grammar.{begins_prop}
use Rattle.tv_parse.specs.Reading.{nest, rows, part_turn, part_behind, parts}
use Rattle.tv_phrases.specs.Repeated.{below, turn, many, all_of}
use Rattle.tv_phrases.proofs.Repeats.{front_first, front_none, front_end, front_start, pushed, turn_more}
use Rattle.tv_phrases.proofs.Repeats.{turn_end, turn_break, many_step, many_end}

-- rows of nests
rows_steps : {X : Type 0} (begins : List SpecToken → Bool) (single : List SpecToken → Reading X) (n : ℕ) (ts : List SpecToken) → rows begins single n ts ≡ (below n >>= λ m. turn begins (nest single (rows begins single m)) (rows begins single m) ts)
unfolding rows
rows_steps begins single zero ts = refl
rows_steps begins single (suc n) ts = refl

rows_step : {X : Type 0} (begins : List SpecToken → Bool) (single : List SpecToken → Reading X) (n m : ℕ) (ts : List SpecToken) → below n ≡ Some m → rows begins single n ts ≡ turn begins (nest single (rows begins single m)) (rows begins single m) ts
rows_step begins single n m ts e = rw (rows_steps begins single n ts, e) refl

pub rows_more : {A X : Type 0} (f : A → Nest X) (old new : List A) (a : A) (begins : List SpecToken → Bool) (single : List SpecToken → Reading X) (n m : ℕ) (ts us : List SpecToken) → new ≡ old ++ a ∷ [] → below n ≡ Some m → begins ts ≡ true → nest single (rows begins single m) ts ≡ taken (f a) us → with_front (map f old) (rows begins single n ts) ≡ with_front (map f new) (rows begins single m us)
rows_more f old new a begins single n m ts us p e b i = ap (with_front (map f old)) (rows_step begins single n m ts e ∙ turn_more begins (nest single (rows begins single m)) (rows begins single m) ts us (f a) b i) ∙ pushed f old new a (rows begins single m us) p

pub rows_end : {X : Type 0} (xs : List (Nest X)) (begins : List SpecToken → Bool) (single : List SpecToken → Reading X) (n m : ℕ) (ts : List SpecToken) → below n ≡ Some m → begins ts ≡ false → with_front xs (rows begins single n ts) ≡ taken xs ts
rows_end xs begins single n m ts e b = front_end xs ts (rows begins single n ts) (rows_step begins single n m ts e ∙ turn_end begins (nest single (rows begins single m)) (rows begins single m) ts b)

pub rows_break : {X : Type 0} (xs : List (Nest X)) (begins : List SpecToken → Bool) (single : List SpecToken → Reading X) (n m : ℕ) (ts : List SpecToken) → below n ≡ Some m → begins ts ≡ true → nest single (rows begins single m) ts ≡ None → with_front xs (rows begins single n ts) ≡ None
rows_break xs begins single n m ts e b i = front_none xs (rows begins single n ts) (rows_step begins single n m ts e ∙ turn_break begins (nest single (rows begins single m)) (rows begins single m) ts b i)

pub rows_out : {X : Type 0} (xs : List (Nest X)) (begins : List SpecToken → Bool) (single : List SpecToken → Reading X) (n : ℕ) (ts : List SpecToken) → below n ≡ None → with_front xs (rows begins single n ts) ≡ None
rows_out xs begins single n ts e = front_none xs (rows begins single n ts) (rw (rows_steps begins single n ts, e) refl)

-- properties
pub props_more : (old new : List PropWord) (p : PropWord) (n m : ℕ) (ts us : List SpecToken) → new ≡ old ++ p ∷ [] → below n ≡ Some m → first prop_item ts ≡ taken p us → with_front old (many begins_prop (first prop_item) n ts) ≡ with_front new (many begins_prop (first prop_item) m us)
props_more old new p n m ts us e b i =
    let begun : begins_prop ts ≡ true = rw i refl in
    ap (with_front old) (many_step begins_prop (first prop_item) n m ts b ∙ turn_more begins_prop (first prop_item) (many begins_prop (first prop_item) m) ts us p begun i)
    ∙ front_first old p (many begins_prop (first prop_item) m us) ∙ ap (λ xs. with_front xs (many begins_prop (first prop_item) m us)) (sym e)

pub props_end : (xs : List PropWord) (n m : ℕ) (ts : List SpecToken) → below n ≡ Some m → first prop_item ts ≡ None → with_front xs (many begins_prop (first prop_item) n ts) ≡ taken xs ts
props_end xs n m ts e i =
    let over : begins_prop ts ≡ false = rw i refl in
    many_end xs begins_prop (first prop_item) n m ts e over

-- parts of an action
parts_steps : (n : ℕ) (before : List PartForm) (ts : List SpecToken) → parts n before ts ≡ (below n >>= λ m. part_turn before (parts m) ts)
unfolding parts
parts_steps zero before ts = refl
parts_steps (suc n) before ts = refl

parts_step : (n m : ℕ) (before : List PartForm) (ts : List SpecToken) → below n ≡ Some m → parts n before ts ≡ part_turn before (parts m) ts
parts_step n m before ts e = rw (parts_steps n before ts, e) refl

pub parts_more : (old new : List Part) (p : Part) (n m : ℕ) (kind : PartKind) (ts us vs : List SpecToken) → new ≡ old ++ p ∷ [] → below n ≡ Some m → first part_kind ts ≡ taken kind us → may_follow (map part_of old) kind ≡ true → part_behind kind us ≡ taken (part_of p) vs → with_front (map part_of old) (parts n (map part_of old) ts) ≡ with_front (map part_of new) (parts m (map part_of new) vs)
unfolding part_turn
parts_more old new p n m kind ts us vs e b k f i =
    let grown : map part_of new ≡ map part_of old ++ part_of p ∷ [] = ap (map part_of) e ∙ map_push part_of old p in
    rw (parts_step n m (map part_of old) ts b, k, f, i, grown) (front_first (map part_of old) (part_of p) (parts m (map part_of old ++ part_of p ∷ []) vs))

pub parts_end : (xs : List PartForm) (n m : ℕ) (ts : List SpecToken) → below n ≡ Some m → first part_kind ts ≡ None → with_front xs (parts n xs ts) ≡ taken xs ts
unfolding part_turn
parts_end xs n m ts e k = front_end xs ts (parts n xs ts) (rw (parts_step n m xs ts e, k) refl)

pub parts_again : (xs : List PartForm) (n m : ℕ) (kind : PartKind) (ts us : List SpecToken) → below n ≡ Some m → first part_kind ts ≡ taken kind us → may_follow xs kind ≡ false → with_front xs (parts n xs ts) ≡ None
unfolding part_turn
parts_again xs n m kind ts us e k f = front_none xs (parts n xs ts) (rw (parts_step n m xs ts e, k, f) refl)

pub parts_break : (xs : List PartForm) (n m : ℕ) (kind : PartKind) (ts us : List SpecToken) → below n ≡ Some m → first part_kind ts ≡ taken kind us → may_follow xs kind ≡ true → part_behind kind us ≡ None → with_front xs (parts n xs ts) ≡ None
unfolding part_turn
parts_break xs n m kind ts us e k f i = front_none xs (parts n xs ts) (rw (parts_step n m xs ts e, k, f, i) refl)

pub parts_out : (xs : List PartForm) (n : ℕ) (ts : List SpecToken) → below n ≡ None → with_front xs (parts n xs ts) ≡ None
parts_out xs n ts e = front_none xs (parts n xs ts) (rw (parts_steps n xs ts, e) refl)

kind_at : (kind : PartKind) (xs : List Part) (i : ℕ) (x : Part) → i < length xs → x ≡ get_or xs i x → has_kind kind (map part_of (drop i xs)) ≡ (same_kind kind (kind_of (part_of x)) || has_kind kind (map part_of (drop (i + 1) xs)))
unfolding has_kind
kind_at kind xs i x below is =
    let rest : drop i xs ≡ x ∷ drop (i + 1) xs = drop_more xs i x below ∙ ap (λ y. y ∷ drop (i + 1) xs) (sym is) in
    rw rest refl

pub kind_step : (kind : PartKind) (xs : List Part) (i : ℕ) (x : Part) → i < length xs → x ≡ get_or xs i x → same_kind kind (kind_of (part_of x)) ≡ false → has_kind kind (map part_of (drop i xs)) ≡ has_kind kind (map part_of (drop (i + 1) xs))
kind_step kind xs i x below is other = rw (kind_at kind xs i x below is, other) refl

pub kind_found : (kind : PartKind) (xs : List Part) (i : ℕ) (x : Part) → i < length xs → x ≡ get_or xs i x → same_kind kind (kind_of (part_of x)) ≡ true → has_kind kind (map part_of (drop i xs)) ≡ true
kind_found kind xs i x below is same = rw (kind_at kind xs i x below is, same) refl

pub kind_none : (kind : PartKind) (xs : List Part) (i : ℕ) → length xs ≤ i → has_kind kind (map part_of (drop i xs)) ≡ false
unfolding has_kind
kind_none kind xs i past = rw (drop_all i xs past) refl

-- before the first item
pub many_start : {X : Type 0} (xs : List X) (begins : List SpecToken → Bool) (item : List SpecToken → Reading X) (k : ℕ) (ts : List SpecToken) → xs ≡ [] → k ≡ length ts + 1 → all_of begins item ts ≡ with_front xs (many begins item k ts)
many_start xs begins item k ts none e =
    front_start (many begins item (length ts + 1) ts)
    ∙ ap (λ ys. with_front ys (many begins item (length ts + 1) ts)) (sym none)
    ∙ ap (λ n. with_front xs (many begins item n ts)) (sym e)

pub rows_start : {X : Type 0} (xs : List (Nest X)) (begins : List SpecToken → Bool) (single : List SpecToken → Reading X) (n : ℕ) (ts : List SpecToken) → xs ≡ [] → rows begins single n ts ≡ with_front xs (rows begins single n ts)
rows_start xs begins single n ts none = front_start (rows begins single n ts) ∙ ap (λ ys. with_front ys (rows begins single n ts)) (sym none)

pub parts_start : (xs : List PartForm) (k : ℕ) (ts : List SpecToken) → xs ≡ [] → k ≡ length ts + 1 → parts (length ts + 1) [] ts ≡ with_front xs (parts k xs ts)
parts_start xs k ts none e =
    front_start (parts (length ts + 1) [] ts)
    ∙ ap (λ ys. with_front ys (parts (length ts + 1) ys ts)) (sym none)
    ∙ ap (λ n. with_front xs (parts n xs ts)) (sym e)
