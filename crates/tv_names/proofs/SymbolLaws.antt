-- The predicate of a name, as the map finds it.
use Rattle.std.proofs.Common.{◌≡◌, ℕ, zero, suc, ◌+◌, ◌<◌, Bool, true, false, get_or, List, [], ◌∷◌, length}
use Rattle.std.proofs.Common.{map, Option, Some, None, refl, ap, sym, ◌∙◌, arith}
use Rattle.std.specs.List.{slice_get}
use Rattle.std.proofs.lemmas.List.{length-map, get_or-map}
use Rattle.std.proofs.lemmas.Option.{get_or_from_slice_get}
use Rattle.std.specs.Str.{bytes_eq}
use Rattle.std.specs.Global.{Vec}
use Rattle.std.specs.Map.{lookup, keys_of}
use Rattle.std.specs.List.{position}
use Rattle.std.proofs.lemmas.List.Quantifiers.{position-Some}
use Rattle.tv_names.specs.Symbols.{KnownForm, symbol_of}
use Rattle.tv_names.specs.Copies.{symbol_form}

-- the entry at i is the first of this name
pub symbol_first : (name : List ℕ) (es : List (Vec ℕ × ℕ)) (i : ℕ) (e : Vec ℕ × ℕ) → slice_get es i ≡ Some e → bytes_eq name e.0.items ≡ true → ((k : ℕ) → k < i → (d : Vec ℕ × ℕ) → bytes_eq name (get_or es k d).0.items ≡ false) → symbol_of name (map symbol_form es) ≡ Some (record { pred = i; arity = e.1 })
symbol_first name [] i e at same_name before = absurd cc
symbol_first name (x ∷ es) zero e at same_name before =
    let same : x ≡ e = cc in
    let h : bytes_eq name x.0.items ≡ true = ap (λ (y : Vec ℕ × ℕ). bytes_eq name y.0.items) same ∙ same_name in
    rw h (ap (λ (y : Vec ℕ × ℕ). Some (record { pred = 0; arity = y.1 })) same)
symbol_first name (x ∷ es) (suc i) e at same_name before =
    let h : bytes_eq name x.0.items ≡ false = before 0 (omega arith) x in
    let rest = symbol_first name es i e at same_name (λ k lt d. before (suc k) (omega arith) d) in
    let g : i + 1 ≡ suc i = omega arith in
    rw (h, rest) (ap (λ (n : ℕ). Some (record { pred = n; arity = e.1 })) g)

absent_by : (name : List ℕ) (x : Vec ℕ × ℕ) (es : List (Vec ℕ × ℕ)) → (lookup (λ (k : Vec ℕ). bytes_eq name k.items) es ≡ None → symbol_of name (map symbol_form es) ≡ None) → (b : Bool) → bytes_eq name x.0.items ≡ b → lookup (λ (k : Vec ℕ). bytes_eq name k.items) (x ∷ es) ≡ None → symbol_of name (map symbol_form (x ∷ es)) ≡ None
absent_by name x es rest true h none = absurd (let k = rw h at none in cc)
absent_by name x es rest false h none = let k = rw h at none in rw (h, rest k) refl

pub symbol_absent : (name : List ℕ) (es : List (Vec ℕ × ℕ)) → lookup (λ (k : Vec ℕ). bytes_eq name k.items) es ≡ None → symbol_of name (map symbol_form es) ≡ None
symbol_absent name [] none = refl
symbol_absent name (x ∷ es) none = absent_by name x es (symbol_absent name es) (bytes_eq name x.0.items) refl none

new_by : (name : List ℕ) (x : Vec ℕ × ℕ) (es : List (Vec ℕ × ℕ)) → (symbol_of name (map symbol_form es) ≡ None → lookup (λ (k : Vec ℕ). bytes_eq name k.items) es ≡ None) → (b : Bool) → bytes_eq name x.0.items ≡ b → (r : Option KnownForm) → symbol_of name (map symbol_form es) ≡ r → symbol_of name (map symbol_form (x ∷ es)) ≡ None → lookup (λ (k : Vec ℕ). bytes_eq name k.items) (x ∷ es) ≡ None
new_by name x es rest true h r e none = absurd (let k = rw h at none in cc)
new_by name x es rest false h None e none = rw h (rest e)
new_by name x es rest false h (Some y) e none = absurd (let k = rw (h, e) at none in cc)

pub symbol_new : (name : List ℕ) (es : List (Vec ℕ × ℕ)) → symbol_of name (map symbol_form es) ≡ None → lookup (λ (k : Vec ℕ). bytes_eq name k.items) es ≡ None
symbol_new name [] none = refl
symbol_new name (x ∷ es) none = new_by name x es (symbol_new name es) (bytes_eq name x.0.items) refl (symbol_of name (map symbol_form es)) refl none

-- the entry at the place of this name
pub symbol_found : (name : List ℕ) (es : List (Vec ℕ × ℕ)) (i : ℕ) (e : Vec ℕ × ℕ) → Some i ≡ position (λ (k : Vec ℕ). bytes_eq name k.items) (keys_of es) → slice_get es i ≡ Some e → symbol_of name (map symbol_form es) ≡ Some (record { pred = i; arity = e.1 })
symbol_found name es i e at is =
    let p = position-Some (λ (k : Vec ℕ). bytes_eq name k.items) (keys_of es) i e.0 (sym at) in
    let lt : i < length es = omega (arith, length-map es (λ (q : Vec ℕ × ℕ). q.0), p.0) in
    let here : get_or es i e ≡ e = get_or_from_slice_get es i e e is in
    let key : get_or (keys_of es) i e.0 ≡ e.0 = get_or-map (λ (q : Vec ℕ × ℕ). q.0) es i e e.0 lt ∙ ap (λ (q : Vec ℕ × ℕ). q.0) here in
    symbol_first name es i e is
    (ap (λ (k : Vec ℕ). bytes_eq name k.items) (sym key) ∙ p.1)
    (λ k below d. ap (λ (q : Vec ℕ). bytes_eq name q.items) (sym (get_or-map (λ (q : Vec ℕ × ℕ). q.0) es k d e.0 (omega arith))) ∙ p.2 k below)
