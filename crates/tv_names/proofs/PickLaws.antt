-- Picks, gathered occurrence by occurrence.
use Rattle.std.proofs.Common.{◌≡◌, ℕ, zero, suc, ◌<◌, Bool, true, false, not, ◌||◌, ◌==◌, get_or, set, List}
use Rattle.std.proofs.Common.{[], ◌∷◌, ◌++◌, length, filter, refl, ap, sym, ◌∙◌, cond, append_assoc, inl, inr}
use Rattle.std.specs.List.{list_any, repeat}
use Rattle.std.proofs.lemmas.Bool.{cases_Bool, eqb-true, eq-eqb, ne_eqb, true≢false}
use Rattle.std.proofs.lemmas.List.{get_or-set_same, get_or-set_other, append-nil}
use Rattle.std.proofs.lemmas.List.Elements.{filter-append}
use Rattle.std.proofs.lemmas.List.Sums.{fold-append}
use Rattle.tv_model.specs.Form.{Form}
use Rattle.tv_model.specs.Program.{picks_of}
use Rattle.tv_model.specs.declared.formula.Var.{Var}
use Rattle.tv_model.specs.Valid.{free_occurrences, first_occurrences, without}
use Rattle.tv_names.specs.Picks.{picks_in, is_one_of, with_pick, with_picks, unbound}

pub picks_append : (bound : List Bool) (picks xs ys : List ℕ) → with_picks picks (unbound bound (xs ++ ys)) ≡ with_picks (with_picks picks (unbound bound xs)) (unbound bound ys)
picks_append bound picks xs ys =
    ap (with_picks picks) (filter-append (λ v. not (get_or bound v false)) xs ys) ∙ fold-append with_pick picks (unbound bound xs) (unbound bound ys)

pub picks_cons : (bound : List Bool) (picks : List ℕ) (v w : ℕ) → with_picks picks (unbound bound (v ∷ w ∷ [])) ≡ with_picks (with_picks picks (unbound bound (v ∷ []))) (unbound bound (w ∷ []))
picks_cons bound picks v w = picks_append bound picks (v ∷ []) (w ∷ [])

eqb_flip : (v w : ℕ) → (v == w) ≡ (w == v)
eqb_flip v w =
    elim (cases_Bool (v == w)) [
      | inl h ↦ h ∙ sym (eq-eqb w v (sym (eqb-true v w h)))
      | inr h ↦ h ∙ sym (ne_eqb w v (λ e. true≢false (sym (eq-eqb v w (sym e)) ∙ h)))
    ]

under_cons : (bound : List Bool) (v x : ℕ) (xs : List ℕ) → v < length bound → unbound bound (without v xs) ≡ unbound (set bound v true) xs → (b : Bool) → (x == v) ≡ b → unbound bound (without v (x ∷ xs)) ≡ unbound (set bound v true) (x ∷ xs)
under_cons bound v x xs lt rest true h =
    let e = eqb-true x v h in
    let g : get_or (set bound v true) x false ≡ true = ap (λ (y : ℕ). get_or (set bound v true) y false) e ∙ get_or-set_same bound v true false lt in
    rw (h, g) rest
under_cons bound v x xs lt rest false h =
    let g : get_or (set bound v true) x false ≡ get_or bound x false = get_or-set_other bound v x true false (λ e. true≢false (sym (eq-eqb x v e) ∙ h)) in
    rw (h, g, rest) refl

pub picks_under : (bound : List Bool) (v : ℕ) (xs : List ℕ) → v < length bound → unbound bound (without v xs) ≡ unbound (set bound v true) xs
picks_under bound v [] lt = refl
picks_under bound v (x ∷ xs) lt = under_cons bound v x xs lt (picks_under bound v xs lt) (x == v) refl

none_bound : (n v : ℕ) → get_or (repeat n (false ∷ [])) v false ≡ false
none_bound zero v = refl
none_bound (suc n) zero = refl
none_bound (suc n) (suc v) = none_bound n v

all_unbound : (n : ℕ) (xs : List ℕ) → unbound (repeat n (false ∷ [])) xs ≡ xs
all_unbound n [] = refl
all_unbound n (x ∷ xs) = let h = none_bound n x in rw h (ap (λ (ys : List ℕ). x ∷ ys) (all_unbound n xs))

-- those that aren't among the picks
abbrev others : List ℕ → List ℕ → List ℕ
others picks xs = filter (λ v. not (is_one_of picks v)) xs

others_cons : (picks : List ℕ) (x y : ℕ) (ys : List ℕ) → is_one_of picks x ≡ true → others picks (without x ys) ≡ others picks ys → (b : Bool) → (y == x) ≡ b → others picks (without x (y ∷ ys)) ≡ others picks (y ∷ ys)
others_cons picks x y ys seen rest true h =
    let e = eqb-true y x h in
    let g : is_one_of picks y ≡ true = ap (is_one_of picks) e ∙ seen in
    rw (h, g) rest
others_cons picks x y ys seen rest false h = rw h (ap (λ (zs : List ℕ). cond (not (is_one_of picks y)) (y ∷ zs) zs) rest)

others_without : (picks : List ℕ) (x : ℕ) (ys : List ℕ) → is_one_of picks x ≡ true → others picks (without x ys) ≡ others picks ys
others_without picks x [] seen = refl
others_without picks x (y ∷ ys) seen = others_cons picks x y ys seen (others_without picks x ys seen) (y == x) refl

or_assoc : (a b c : Bool) → (a || (b || c)) ≡ ((a || b) || c)
or_assoc true b c = refl
or_assoc false b c = refl

or_false : (b : Bool) → (b || false) ≡ (false || b)
or_false true = refl
or_false false = refl

one_of_push : (picks : List ℕ) (x y : ℕ) → is_one_of (picks ++ x ∷ []) y ≡ (is_one_of picks y || (x == y))
one_of_push [] x y = or_false (x == y)
one_of_push (p ∷ picks) x y = ap (λ (b : Bool). (p == y) || b) (one_of_push picks x y) ∙ or_assoc (p == y) (is_one_of picks y) (x == y)

or_true : (b : Bool) → (b || true) ≡ true
or_true true = refl
or_true false = refl

push_cons : (picks : List ℕ) (x y : ℕ) (ys : List ℕ) → others (picks ++ x ∷ []) ys ≡ others picks (without x ys) → (b : Bool) → (y == x) ≡ b → others (picks ++ x ∷ []) (y ∷ ys) ≡ others picks (without x (y ∷ ys))
push_cons picks x y ys rest true h =
    let g : is_one_of (picks ++ x ∷ []) y ≡ true = one_of_push picks x y ∙ ap (λ (b : Bool). is_one_of picks y || b) (eqb_flip x y ∙ h) ∙ or_true (is_one_of picks y) in
    rw (h, g) rest
push_cons picks x y ys rest false h =
    let g : is_one_of (picks ++ x ∷ []) y ≡ is_one_of picks y = one_of_push picks x y ∙ ap (λ (b : Bool). is_one_of picks y || b) (eqb_flip x y ∙ h) ∙ or_false (is_one_of picks y) in
    rw (h, g) (ap (λ (zs : List ℕ). cond (not (is_one_of picks y)) (y ∷ zs) zs) rest)

others_push : (picks : List ℕ) (x : ℕ) (ys : List ℕ) → others (picks ++ x ∷ []) ys ≡ others picks (without x ys)
others_push picks x [] = refl
others_push picks x (y ∷ ys) = push_cons picks x y ys (others_push picks x ys) (y == x) refl

gathered_cons : (picks : List ℕ) (x : ℕ) (xs : List ℕ) → ((more : List ℕ) → with_picks more xs ≡ more ++ others more (first_occurrences xs)) → (b : Bool) → is_one_of picks x ≡ b → with_picks picks (x ∷ xs) ≡ picks ++ others picks (first_occurrences (x ∷ xs))
gathered_cons picks x xs rest true h = rw h (rest picks ∙ ap (λ (zs : List ℕ). picks ++ zs) (sym (others_without picks x (first_occurrences xs) h)))
gathered_cons picks x xs rest false h =
    rw h (rest (picks ++ x ∷ []) ∙ append_assoc picks (x ∷ []) (others (picks ++ x ∷ []) (first_occurrences xs)) ∙ ap (λ (zs : List ℕ). picks ++ x ∷ zs) (others_push picks x (first_occurrences xs)))

gathered : (picks xs : List ℕ) → with_picks picks xs ≡ picks ++ others picks (first_occurrences xs)
gathered picks [] = sym (append-nil picks)
gathered picks (x ∷ xs) = gathered_cons picks x xs (λ more. gathered more xs) (is_one_of picks x) refl

others_of_none : (xs : List ℕ) → others [] xs ≡ xs
others_of_none [] = refl
others_of_none (x ∷ xs) = ap (λ (ys : List ℕ). x ∷ ys) (others_of_none xs)

pub picks_all : (f : Form) → with_picks [] (unbound (repeat 256 (false ∷ [])) (free_occurrences f)) ≡ picks_in f
picks_all f =
    ap (with_picks []) (all_unbound 256 (free_occurrences f)) ∙ gathered [] (free_occurrences f) ∙ others_of_none (picks_in f)

pub one_of_over : (vs : List Var) (v : ℕ) → is_one_of (picks_of vs) v ≡ list_any (λ w. w.0 == v) vs
one_of_over [] v = refl
one_of_over (w ∷ vs) v = ap (λ (b : Bool). (w.0 == v) || b) (one_of_over vs v)

pub flags_under : (bound : List Bool) (v : ℕ) (xs : List ℕ) → v < length bound → unbound (set bound v true) xs ≡ unbound bound (without v xs)
flags_under bound v xs lt = sym (picks_under bound v xs lt)
