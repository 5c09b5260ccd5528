-- Nodes, as the set finds them.
use Rattle.std.proofs.Common.{◌≡◌, ℕ, ◌+◌, ◌≤◌, Bool, false, not, ◌||◌, cond, List, [], ◌∷◌, ◌++◌, length}
use Rattle.std.proofs.Common.{map, Option, Some, None, refl, ap, sym, ◌∙◌, inl, inr, arith, ltb}
use Rattle.std.specs.Global.{Vec}
use Rattle.std.specs.List.{list_any, position_or_len}
use Rattle.std.specs.Prelude.{position}
use Rattle.std.proofs.lemmas.Bool.{cases_lt, lt-ltb, cond-true}
use Rattle.std.proofs.lemmas.Option.{cond_some, none-some}
use Rattle.std.proofs.lemmas.List.{map_push}
use Rattle.std.proofs.lemmas.List.Sums.{prefix_len-le-length}
use Rattle.indexmap.specs.IndexSet.{insert_key}

pub among_over : (p : List ℕ → Bool) (ks : List (Vec ℕ)) → list_any p (map (λ k. k.items) ks) ≡ list_any (λ k. p k.items) ks
among_over p [] = refl
among_over p (k ∷ ks) = ap (λ (b : Bool). p k.items || b) (among_over p ks)

place_over : (p : List ℕ → Bool) (ks : List (Vec ℕ)) → position_or_len p (map (λ k. k.items) ks) ≡ position_or_len (λ k. p k.items) ks
place_over p [] = refl
place_over p (k ∷ ks) = ap (λ n. cond (not (p k.items)) (1 + n) 0) (place_over p ks)

pub place_found : (p : List ℕ → Bool) (ks : List (Vec ℕ)) (n : ℕ) → ◌≡◌ {A = Option ℕ} (Some n) (position (λ k. p k.items) ks) → n ≡ position_or_len p (map (λ k. k.items) ks)
place_found p ks n e =
    let h = cond_some (ltb (position_or_len (λ k. p k.items) ks) (length ks)) (position_or_len (λ k. p k.items) ks) n (sym e) in
    sym h.1 ∙ sym (place_over p ks)

pub place_missing : (p : List ℕ → Bool) (ks : List (Vec ℕ)) → ◌≡◌ {A = Option ℕ} None (position (λ k. p k.items) ks) → length ks ≡ position_or_len p (map (λ k. k.items) ks)
place_missing p ks e =
    let n = position_or_len (λ k. p k.items) ks in
    let within : n ≤ length ks = prefix_len-le-length (λ k. not (p k.items)) ks in
    let past : length ks ≤ n = elim (cases_lt n (length ks)) [
      | inl lt ↦ absurd (none-some n (e ∙ cond-true (ltb n (length ks)) (Some n) None (lt-ltb n (length ks) lt)))
      | inr le ↦ le
    ] in
    let same : length ks ≡ n = omega arith in
    same ∙ sym (place_over p ks)

pub put_new : (ks : List (Vec ℕ)) (k : Vec ℕ) (eq : Vec ℕ → Vec ℕ → Bool) → list_any (eq k) ks ≡ false → map (λ one. one.items) (insert_key eq ks k) ≡ map (λ one. one.items) ks ++ k.items ∷ []
put_new ks k eq new = rw new (map_push (λ one. one.items) ks k)
