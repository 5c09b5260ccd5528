-- Items one after the other: how the loops read them, that the reading gives what the grammar says and nothing else, and
-- that it is the only list there.
use Rattle.std.proofs.Common.{◌≡◌, ℕ, zero, suc, ◌+◌, ◌<◌, ◌≤◌, List, [], ◌∷◌, ◌++◌, Bool, true, false, map}
use Rattle.std.proofs.Common.{length, Some, None, refl, sym, ◌∙◌, ap, subst, inl, inr, arith, append_assoc}
use Rattle.std.proofs.lemmas.List.{map_push, append-nil}
use Rattle.std.proofs.lemmas.Option.{same_Some}
use Rattle.tv_lex.specs.Token.{SpecToken}
use Rattle.tv_phrases.specs.Reading.{Reading, taken, ◌>>=◌}
use Rattle.tv_phrases.specs.Tokens.{after}
use Rattle.tv_phrases.specs.Lists.{with_front}
use Rattle.tv_phrases.specs.Repeated.{begins_with, HasOne, Repeated, Behind, Joined, below, with_first, turn}
use Rattle.tv_phrases.specs.Repeated.{many, all_of, behind, separated}
use Rattle.tv_phrases.proofs.Values.{bind_some, tested, same_value, same_rest}
use Rattle.tv_phrases.proofs.Takes.{after_takes}

-- ---- the loops

pub front_first : {X : Type 0} (xs : List X) (x : X) (read : Reading (List X)) → with_front xs (with_first x read) ≡ with_front (xs ++ x ∷ []) read
unfolding with_front with_first
front_first xs x None = refl
front_first xs x (Some more) = ap (λ ys. Some (ys, more.1)) (sym (append_assoc xs (x ∷ []) more.0))

pub front_none : {X : Type 0} (xs : List X) (read : Reading (List X)) → read ≡ None → with_front xs read ≡ None
unfolding with_front
front_none xs read e = rw e refl

pub front_end : {X : Type 0} (xs : List X) (ts : List SpecToken) (read : Reading (List X)) → read ≡ taken [] ts → with_front xs read ≡ taken xs ts
unfolding with_front
front_end xs ts read e = rw e (ap (λ ys. Some (ys, ts)) (append-nil xs))

pub front_start : {X : Type 0} (read : Reading (List X)) → read ≡ with_front [] read
unfolding with_front
front_start None = refl
front_start (Some more) = refl

-- what a list is that an item was put behind
pub pushed : {A X : Type 0} (f : A → X) (old new : List A) (a : A) (read : Reading (List X)) → new ≡ old ++ a ∷ [] → with_front (map f old) (with_first (f a) read) ≡ with_front (map f new) read
pushed f old new a read e = front_first (map f old) (f a) read ∙ ap (λ xs. with_front xs read) (sym (ap (map f) e ∙ map_push f old a))

pub turn_more : {X : Type 0} (begins : List SpecToken → Bool) (item : List SpecToken → Reading X) (read : List SpecToken → Reading (List X)) (ts us : List SpecToken) (x : X) → begins ts ≡ true → item ts ≡ taken x us → turn begins item read ts ≡ with_first x (read us)
unfolding turn
turn_more begins item read ts us x b e = rw (b, e) refl

pub turn_end : {X : Type 0} (begins : List SpecToken → Bool) (item : List SpecToken → Reading X) (read : List SpecToken → Reading (List X)) (ts : List SpecToken) → begins ts ≡ false → turn begins item read ts ≡ taken [] ts
unfolding turn
turn_end begins item read ts b = rw b refl

pub turn_break : {X : Type 0} (begins : List SpecToken → Bool) (item : List SpecToken → Reading X) (read : List SpecToken → Reading (List X)) (ts : List SpecToken) → begins ts ≡ true → item ts ≡ None → turn begins item read ts ≡ None
unfolding turn
turn_break begins item read ts b e = rw (b, e) refl

pub many_steps : {X : Type 0} (begins : List SpecToken → Bool) (item : List SpecToken → Reading X) (n : ℕ) (ts : List SpecToken) → many begins item n ts ≡ (below n >>= λ m. turn begins item (many begins item m) ts)
unfolding many
many_steps begins item zero ts = refl
many_steps begins item (suc n) ts = refl

pub many_step : {X : Type 0} (begins : List SpecToken → Bool) (item : List SpecToken → Reading X) (n m : ℕ) (ts : List SpecToken) → below n ≡ Some m → many begins item n ts ≡ turn begins item (many begins item m) ts
many_step begins item n m ts e = rw (many_steps begins item n ts, e) refl

pub many_more : {A X : Type 0} (f : A → X) (old new : List A) (a : A) (begins : List SpecToken → Bool) (item : List SpecToken → Reading X) (n m : ℕ) (ts us : List SpecToken) → new ≡ old ++ a ∷ [] → below n ≡ Some m → begins ts ≡ true → item ts ≡ taken (f a) us → with_front (map f old) (many begins item n ts) ≡ with_front (map f new) (many begins item m us)
many_more f old new a begins item n m ts us p e b i = ap (with_front (map f old)) (many_step begins item n m ts e ∙ turn_more begins item (many begins item m) ts us (f a) b i) ∙ pushed f old new a (many begins item m us) p

pub many_end : {X : Type 0} (xs : List X) (begins : List SpecToken → Bool) (item : List SpecToken → Reading X) (n m : ℕ) (ts : List SpecToken) → below n ≡ Some m → begins ts ≡ false → with_front xs (many begins item n ts) ≡ taken xs ts
many_end xs begins item n m ts e b = front_end xs ts (many begins item n ts) (many_step begins item n m ts e ∙ turn_end begins item (many begins item m) ts b)

pub many_break : {X : Type 0} (xs : List X) (begins : List SpecToken → Bool) (item : List SpecToken → Reading X) (n m : ℕ) (ts : List SpecToken) → below n ≡ Some m → begins ts ≡ true → item ts ≡ None → with_front xs (many begins item n ts) ≡ None
many_break xs begins item n m ts e b i = front_none xs (many begins item n ts) (many_step begins item n m ts e ∙ turn_break begins item (many begins item m) ts b i)

pub many_out : {X : Type 0} (xs : List X) (begins : List SpecToken → Bool) (item : List SpecToken → Reading X) (n : ℕ) (ts : List SpecToken) → below n ≡ None → with_front xs (many begins item n ts) ≡ None
many_out xs begins item n ts e = front_none xs (many begins item n ts) (rw (many_steps begins item n ts, e) refl)

-- items behind a first one
pub joined_start : {A X : Type 0} (f : A → X) (none list : List A) (a : A) (mark : List ℕ) (item : List SpecToken → Reading X) (k : ℕ) (ts us : List SpecToken) → none ≡ [] → list ≡ none ++ a ∷ [] → k ≡ length us + 1 → item ts ≡ taken (f a) us → separated mark item ts ≡ with_front (map f list) (many (begins_with mark) (behind mark item) k us)
unfolding separated
joined_start f none list a mark item k ts us n p e i =
    let single : list ≡ [] ++ a ∷ [] = p ∙ ap (λ (xs : List _). xs ++ a ∷ []) n in
    rw (i, e) (front_start (with_first (f a) (many (begins_with mark) (behind mark item) (length us + 1) us)) ∙ pushed f [] list a (many (begins_with mark) (behind mark item) (length us + 1) us) single)

pub no_joined : {X : Type 0} (mark : List ℕ) (item : List SpecToken → Reading X) (ts : List SpecToken) → item ts ≡ None → separated mark item ts ≡ None
unfolding separated
no_joined mark item ts i = rw i refl

pub begun : (mark : List ℕ) (ts us : List SpecToken) → after mark ts ≡ Some us → begins_with mark ts ≡ true
begun mark ts us e = rw e refl

pub not_begun : (mark : List ℕ) (ts : List SpecToken) → after mark ts ≡ None → begins_with mark ts ≡ false
not_begun mark ts e = rw e refl

pub behind_mark : {X : Type 0} (mark : List ℕ) (item : List SpecToken → Reading X) (ts us : List SpecToken) → after mark ts ≡ Some us → behind mark item ts ≡ item us
unfolding behind
behind_mark mark item ts us e = rw e refl

pub joined_more : {A X : Type 0} (f : A → X) (old new : List A) (a : A) (mark : List ℕ) (item : List SpecToken → Reading X) (n m : ℕ) (ts us vs : List SpecToken) → new ≡ old ++ a ∷ [] → below n ≡ Some m → after mark ts ≡ Some us → item us ≡ taken (f a) vs → with_front (map f old) (many (begins_with mark) (behind mark item) n ts) ≡ with_front (map f new) (many (begins_with mark) (behind mark item) m vs)
joined_more f old new a mark item n m ts us vs p e b i = many_more f old new a (begins_with mark) (behind mark item) n m ts vs p e (begun mark ts us b) (behind_mark mark item ts us b ∙ i)

pub joined_end : {X : Type 0} (xs : List X) (mark : List ℕ) (item : List SpecToken → Reading X) (n m : ℕ) (ts : List SpecToken) → below n ≡ Some m → after mark ts ≡ None → with_front xs (many (begins_with mark) (behind mark item) n ts) ≡ taken xs ts
joined_end xs mark item n m ts e b = many_end xs (begins_with mark) (behind mark item) n m ts e (not_begun mark ts b)

pub joined_break : {X : Type 0} (xs : List X) (mark : List ℕ) (item : List SpecToken → Reading X) (n m : ℕ) (ts us : List SpecToken) → below n ≡ Some m → after mark ts ≡ Some us → item us ≡ None → with_front xs (many (begins_with mark) (behind mark item) n ts) ≡ None
joined_break xs mark item n m ts us e b i = many_break xs (begins_with mark) (behind mark item) n m ts e (begun mark ts us b) (behind_mark mark item ts us b ∙ i)

-- ---- what is read is what the grammar says

-- a fact about what was read
pub held : {X : Type 0} (P : X → List SpecToken → Type 0) (x y : X) (us vs : List SpecToken) → taken x us ≡ taken y vs → P x us → P y vs
held {X} P x y us vs e h = subst (λ (z : X × List SpecToken). P z.0 z.1) (same_Some (x, us) (y, vs) e) h

pub first_sound : {X : Type 0} (P : List X → List SpecToken → Type 0) (x : X) (read : Reading (List X)) (xs : List X) (rest : List SpecToken) → with_first x read ≡ taken xs rest → ((ys : List X) (us : List SpecToken) → read ≡ taken ys us → P (x ∷ ys) us) → P xs rest
unfolding with_first
first_sound P x read xs rest e all =
    let a = bind_some read (λ more. taken (x ∷ more.0) more.1) (xs, rest) e in
    held P (x ∷ a.0.0) xs a.0.1 rest a.2 (all a.0.0 a.0.1 a.1)

pub many_sound : {X : Type 0} (begins : List SpecToken → Bool) (item : List SpecToken → Reading X) (Item : List SpecToken → X → List SpecToken → Type 0) → ((ts us : List SpecToken) (x : X) → item ts ≡ taken x us → Item ts x us) → (n : ℕ) (ts rest : List SpecToken) (xs : List X) → many begins item n ts ≡ taken xs rest → Repeated begins Item ts xs rest
unfolding many turn
many_sound begins item Item one zero ts rest xs e = absurd cc
many_sound {X} begins item Item one (suc n) ts rest xs e =
    elim (tested (begins ts) (item ts >>= λ x. with_first x.0 (many begins item n x.1)) (taken [] ts) (taken xs rest) e) [
      | inl h ↦
          let a = bind_some (item ts) (λ x. with_first x.0 (many begins item n x.1)) (xs, rest) h.1 in
          let P : List X → List SpecToken → Type 0 = λ ys us. Repeated begins Item ts ys us in
          first_sound P a.0.0 (many begins item n a.0.1) xs rest a.2 (λ ys us i. (a.0.1, h.0, one ts a.0.1 a.0.0 a.1, many_sound begins item Item one n a.0.1 us ys i))
      | inr h ↦ let P : List X → List SpecToken → Type 0 = λ ys us. Repeated begins Item ts ys us in held P [] xs ts rest h.1 (h.0, refl)
    ]

pub behind_sound : {X : Type 0} (mark : List ℕ) (item : List SpecToken → Reading X) (Item : List SpecToken → X → List SpecToken → Type 0) → ((ts us : List SpecToken) (x : X) → item ts ≡ taken x us → Item ts x us) → (ts us : List SpecToken) (x : X) → behind mark item ts ≡ taken x us → Behind mark Item ts x us
unfolding behind
behind_sound mark item Item one ts us x e =
    let a = bind_some (after mark ts) item (x, us) e in
    (a.0, a.1, one a.0 us x a.2)

pub joined_sound : {X : Type 0} (mark : List ℕ) (item : List SpecToken → Reading X) (Item : List SpecToken → X → List SpecToken → Type 0) → ((ts us : List SpecToken) (x : X) → item ts ≡ taken x us → Item ts x us) → (ts rest : List SpecToken) (xs : List X) → separated mark item ts ≡ taken xs rest → Joined mark Item ts xs rest
unfolding separated
joined_sound {X} mark item Item one ts rest xs e =
    let a = bind_some (item ts) (λ x. with_first x.0 (all_of (begins_with mark) (behind mark item) x.1)) (xs, rest) e in
    let P : List X → List SpecToken → Type 0 = λ ys us. Joined mark Item ts ys us in
    first_sound P a.0.0 (all_of (begins_with mark) (behind mark item) a.0.1) xs rest a.2 (λ ys us i. (a.0.1, one ts a.0.1 a.0.0 a.1, many_sound (begins_with mark) (behind mark item) (Behind mark Item) (behind_sound mark item Item one) (length a.0.1 + 1) a.0.1 us ys i))

-- ---- what the grammar says is read

-- a phrase is read, and takes tokens
abbrev pub IsRead : {X : Type 0} → (List SpecToken → Reading X) → (List SpecToken → X → List SpecToken → Type 0) → Type 0
IsRead {X} item Item = (ts us : List SpecToken) (x : X) → Item ts x us → (item ts ≡ taken x us) × (length us < length ts)

pub many_read : {X : Type 0} (begins : List SpecToken → Bool) (item : List SpecToken → Reading X) (Item : List SpecToken → X → List SpecToken → Type 0) → IsRead item Item → (xs : List X) (ts rest : List SpecToken) → Repeated begins Item ts xs rest → (n : ℕ) → length ts < n → (many begins item n ts ≡ taken xs rest) × (length rest ≤ length ts)
unfolding many turn with_first
many_read begins item Item one xs ts rest h zero lt = absurd (omega arith)
many_read begins item Item one [] ts rest h (suc n) lt = (rw (h.0, h.1) refl, rw h.1 (omega arith))
many_read begins item Item one (x ∷ xs) ts rest h (suc n) lt =
    let a = one ts h.0 x h.2 in
    let l : length h.0 < length ts = a.1 in
    let b = many_read begins item Item one xs h.0 rest h.3 n (omega arith) in
    let k : length rest ≤ length h.0 = b.1 in
    (rw (h.1, a.0, b.0) refl, omega arith)

pub behind_read : {X : Type 0} (mark : List ℕ) (item : List SpecToken → Reading X) (Item : List SpecToken → X → List SpecToken → Type 0) → ((ts us : List SpecToken) (x : X) → Item ts x us → (item ts ≡ taken x us) × (length us ≤ length ts)) → IsRead (behind mark item) (Behind mark Item)
unfolding behind
behind_read mark item Item one ts us x h =
    let a = one h.0 us x h.2 in
    let l : length h.0 < length ts = after_takes mark ts h.0 h.1 in
    let k : length us ≤ length h.0 = a.1 in
    (rw h.1 a.0, omega arith)

pub joined_read : {X : Type 0} (mark : List ℕ) (item : List SpecToken → Reading X) (Item : List SpecToken → X → List SpecToken → Type 0) → ((ts us : List SpecToken) (x : X) → Item ts x us → (item ts ≡ taken x us) × (length us ≤ length ts)) → (xs : List X) (ts rest : List SpecToken) → Joined mark Item ts xs rest → (separated mark item ts ≡ taken xs rest) × (length rest ≤ length ts)
unfolding separated with_first
joined_read mark item Item one [] ts rest h = elim h [ ]
joined_read mark item Item one (x ∷ xs) ts rest h =
    let a = one ts h.0 x h.1 in
    let b = many_read (begins_with mark) (behind mark item) (Behind mark Item) (behind_read mark item Item one) xs h.0 rest h.2 (length h.0 + 1) (omega arith) in
    let l : length h.0 ≤ length ts = a.1 in
    let k : length rest ≤ length h.0 = b.1 in
    (rw (a.0, b.0) refl, omega arith)

-- ---- one list at most

-- what one reading gives is one tree and one end
pub one_of : {X : Type 0} (read : Reading X) (us vs : List SpecToken) (x y : X) → read ≡ taken x us → read ≡ taken y vs → (x ≡ y) × (us ≡ vs)
one_of read us vs x y a b = let same = sym a ∙ b in (same_value x y us vs same, same_rest x y us vs same)

-- any number of items
pub one_list : {X : Type 0} (begins : List SpecToken → Bool) (item : List SpecToken → Reading X) (Item : List SpecToken → X → List SpecToken → Type 0) → IsRead item Item → HasOne (Repeated begins Item)
one_list begins item Item one ts us vs x y a b =
    one_of (many begins item (length ts + 1) ts) us vs x y
    (many_read begins item Item one x ts us a (length ts + 1) (omega arith)).0
    (many_read begins item Item one y ts vs b (length ts + 1) (omega arith)).0
