-- One place more holds values.
use Rattle.std.proofs.Common.{cond, ℕ, ◌≡◌, ◌≢◌, ◌<◌, ⊎_elim, zero, suc, List, [], ◌∷◌, length, set, get_or}
use Rattle.std.proofs.Common.{Option, Some}
use Rattle.std.proofs.Common.{refl, sym, ap, subst, ◌∙◌, ◌≤◌, ◌+◌, ◌*◌, replicate, arith}
use Rattle.std.specs.Prelude.{slice_get, unwrap_or}
use Rattle.std.proofs.lemmas.Bool.{cases_eq, cases_lt, lt-ltb}
use Rattle.std.proofs.lemmas.List.{get_or-set_same, get_or-set_other, length-set, length-replicate}
use Rattle.std.proofs.lemmas.List.{get_or-replicate}
use Rattle.tv_kleene.specs.declared.K3.{K3}
use Rattle.tv_kleene.specs.declared.K3.TheVariants.{No, Yes}
use Rattle.tv_row.specs.Bits.{padded}
use Rattle.tv_row.proofs.WordOps.{length-padded, get_or-padded}
use Rattle.tv_model.specs.Form.{form_of}
use Rattle.tv_model.specs.Truth.{Assignment, put}
use Rattle.tv_eval_laws.specs.Value.{value}
use Rattle.tv_embedding_laws.specs.LogicalStructure.{LogicalStructure}
use Rattle.tv_quantifiers.specs.declared.parts.Held.{Held}
use Rattle.tv_quantifiers.specs.Parts.{HoldsPart}

pub put-here : {X : Type 0} (xs : List X) (i : ℕ) (x : X) → i < length xs → slice_get (set xs i x) i ≡ Some x
put-here [] i x lt = absurd (omega arith)
put-here (y ∷ xs) zero x lt = refl
put-here (y ∷ xs) (suc i) x lt = put-here xs i x (omega arith)

pub put-elsewhere : {X : Type 0} (xs : List X) (i j : ℕ) (x : X) → j ≢ i → slice_get (set xs i x) j ≡ slice_get xs j
put-elsewhere [] i j x ne = refl
put-elsewhere (y ∷ xs) zero zero x ne = absurd (ne refl)
put-elsewhere (y ∷ xs) zero (suc j) x ne = refl
put-elsewhere (y ∷ xs) (suc i) zero x ne = refl
put-elsewhere (y ∷ xs) (suc i) (suc j) x ne = put-elsewhere xs i j x (λ e. ne (ap suc e))

-- what is put holds, and so does what is elsewhere
module _ (s : LogicalStructure) (parts : List (Option Held)) (known values : List (List K3)) (place : ℕ) (part : Held)
    (flags row : List K3) (among : place < length parts) (in_known : place < length known)
    (in_values : place < length values) (holds : HoldsPart s part flags row)
    (before : (k : ℕ) (p : Held) → slice_get parts k ≡ Some (Some p)
    → HoldsPart s p (get_or known k []) (get_or values k [])) where
  same-entry : (p other : Held) → Some (Some p) ≡ Some (Some other) → p ≡ other
  same-entry p other is = ap (λ o. unwrap_or (unwrap_or o (Some p)) p) is

  pub one-more : (k : ℕ) (p : Held) → slice_get (set parts place (Some part)) k ≡ Some (Some p)
      → HoldsPart s p (get_or (set known place flags) k []) (get_or (set values place row) k [])
  one-more k p at = ⊎_elim
      (λ here.
      let there : slice_get (set parts place (Some part)) place ≡ Some (Some p) =
      subst (λ n. slice_get (set parts place (Some part)) n ≡ Some (Some p)) here at
      in let is : part ≡ p = same-entry part p (sym (put-here parts place (Some part) among) ∙ there)
      in let now : HoldsPart s p flags row = subst (λ x. HoldsPart s x flags row) is holds
      in let read : flags ≡ get_or (set known place flags) k [] =
      sym (ap (λ n. get_or (set known place flags) n []) here ∙ get_or-set_same known place flags [] in_known)
      in let told : row ≡ get_or (set values place row) k [] =
      sym (ap (λ n. get_or (set values place row) n []) here ∙ get_or-set_same values place row [] in_values)
      in subst (λ x. HoldsPart s p (get_or (set known place flags) k []) x) told
      (subst (λ x. HoldsPart s p x row) read now))
      (λ apart.
      let there : slice_get parts k ≡ Some (Some p) = sym (put-elsewhere parts place k (Some part) apart) ∙ at
      in subst (λ x. HoldsPart s p (get_or (set known place flags) k []) x)
      (sym (get_or-set_other values place k row [] apart))
      (subst (λ x. HoldsPart s p x (get_or values k [])) (sym (get_or-set_other known place k flags [] apart))
      (before k p there)))
      (cases_eq k place)

-- ---- what a place says

past-end : (xs : List K3) (i : ℕ) → length xs ≤ i → get_or xs i No ≡ No
past-end [] i le = refl
past-end (x ∷ xs) zero le = absurd (omega arith)
past-end (x ∷ xs) (suc i) le = past-end xs i (omega arith)

none-at : (i : ℕ) → get_or (padded 64 (replicate 64 No)) i No ≡ No
none-at i = ⊎_elim
    (λ low. get_or-padded 64 (replicate 64 No) i (omega arith) (length-replicate 64 No) low
    ∙ ap (λ t. cond t (get_or (replicate 64 No) i No) No) (lt-ltb i 64 low) ∙ get_or-replicate 64 i No No low)
    (λ high. past-end (padded 64 (replicate 64 No)) i
    (omega (arith, length-padded 64 (replicate 64 No) (omega arith) (length-replicate 64 No), high)))
    (cases_lt i 64)

-- where nothing is known nothing is said
pub nothing-known : (s : LogicalStructure) (part : Held) (none : List K3) → none ≡ padded 64 (replicate 64 No)
    → HoldsPart s part none none
nothing-known s part none is =
    let long : length none ≡ 64 = ap length is ∙ length-padded 64 (replicate 64 No) (omega arith) (length-replicate 64 No)
    in record {
      known_long = long;
      values_long = long;
      each = λ a i known. absurd (yes-isn't-no (sym known ∙ ap (λ ks. get_or ks i No) is ∙ none-at i));
    }
  where
    yes-isn't-no : Yes ≡ No → ⊥
    yes-isn't-no e = cc e

-- one value more is known
pub one-known : (s : LogicalStructure) (part : Held) (flags row more new : List K3) (i : ℕ) (x : K3)
    → HoldsPart s part flags row → i < 64 → more ≡ set flags i Yes → new ≡ set row i x
    → ((a : Assignment) → value s (put a part.var.0 (64 * part.chunk + i)) (form_of part.formula.now) ≡ x)
    → HoldsPart s part more new
one-known s part flags row more new i x h low e e' is = record {
  known_long = ap length e ∙ length-set flags i Yes ∙ h.known_long;
  values_long = ap length e' ∙ length-set row i x ∙ h.values_long;
  each = λ a j known. ⊎_elim
      (λ here. ap (λ n. value s (put a part.var.0 (64 * part.chunk + n)) (form_of part.formula.now)) here ∙ is a
      ∙ sym (ap (λ ks. get_or ks j No) e' ∙ ap (λ n. get_or (set row i x) n No) here
      ∙ get_or-set_same row i x No (omega (arith, h.values_long, low))))
      (λ apart. h.each a j (sym (ap (λ ks. get_or ks j No) e ∙ get_or-set_other flags i j Yes No apart) ∙ known)
      ∙ sym (ap (λ ks. get_or ks j No) e' ∙ get_or-set_other row i j x No apart))
      (cases_eq j i);
}

-- of an equal formula they are the same values
pub same-held : (s : LogicalStructure) (p q : Held) (flags row : List K3)
    → form_of p.formula.now ≡ form_of q.formula.now → p.var.0 ≡ q.var.0 → p.chunk ≡ q.chunk
    → HoldsPart s p flags row → HoldsPart s q flags row
same-held s p q flags row f v c h = record {
  known_long = h.known_long;
  values_long = h.values_long;
  each = λ a i known.
      subst (λ g. value s (put a q.var.0 (64 * q.chunk + i)) g ≡ get_or row i No) f
      (subst (λ n. value s (put a n (64 * q.chunk + i)) (form_of p.formula.now) ≡ get_or row i No) v
      (subst (λ n. value s (put a p.var.0 (64 * n + i)) (form_of p.formula.now) ≡ get_or row i No) c
      (h.each a i known)));
}

-- what is read at a place below the length is the same with any default
pub any-default : {X : Type 0} (xs : List X) (i : ℕ) (d e : X) → i < length xs → get_or xs i d ≡ get_or xs i e
any-default [] i d e lt = absurd (omega arith)
any-default (x ∷ xs) zero d e lt = refl
any-default (x ∷ xs) (suc i) d e lt = any-default xs i d e (omega arith)
