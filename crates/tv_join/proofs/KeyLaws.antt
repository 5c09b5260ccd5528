-- Structures have one key exactly where they agree on the predicates that count.
use Rattle.std.proofs.Common.{ℕ, ◌≡◌, ◌<◌, ◌≤◌, ◌+◌, ◌⊎◌, inl, inr, Bool, true, false, ◌==◌}
use Rattle.std.proofs.Common.{List, [], ◌∷◌, length, get_or, map, Some, sym, ap, subst, ◌∙◌}
use Rattle.std.proofs.Common.{arith, eqb-true, true≢false}
use Rattle.std.specs.Prelude.{Contains, slice_get}
use Rattle.std.specs.List.{range_with_len}
use Rattle.std.proofs.lemmas.Bool.{cases_lt, or_cases, or_left, or_right}
use Rattle.std.proofs.lemmas.List.{get_or-map, get_or_past, get_or_default, length-map}
use Rattle.std.proofs.lemmas.List.FromFn.{length-map-range_with_len, get_or-map-range_with_len}
use Rattle.std.proofs.lemmas.Option.{same_Some, slice_get-get_or}
use Rattle.tv_lemmas.proofs.Lists.{some_at}
use Rattle.tv_lemmas.proofs.Bools.{and_left}
use Rattle.tv_kleene.specs.declared.K3.TheVariants.{No}
use Rattle.tv_model.specs.Program.{ProgramForm, PredForm}
use Rattle.tv_model.specs.Valid.{program_arities}
use Rattle.tv_model.proofs.Lists.{map-agreed}
use Rattle.tv_structure_form.specs.StructureForm.{StructureForm, structure_of, value_at, arities_of}
use Rattle.tv_structure_form.specs.StructureForm.{kept_from}
use Rattle.tv_struct.specs.StructureRows.{HasArity}
use Rattle.tv_structure_form.proofs.Library.{fits_or_No}
use Rattle.tv_structure_form.proofs.OriginLaws.{IsKept, kept_found, kept_flag}
use Rattle.tv_structure_form.proofs.StructureLaws.{value_at-past}
use Rattle.tv_blur.specs.Names.{canonical_name}
use Rattle.tv_step_laws.specs.Shaped.{is_telling, telling_preds}
use Rattle.tv_join.specs.Keyed.{Counts, AreFlags, SameKey}
use Rattle.tv_join.specs.Flags.{is_counted, key_flags, IsPlain}
use Rattle.tv_join.specs.Keys.{Key, key_of, nullary_preds}

-- ---- lists

-- what two lists of values have at a place
map-at : {X Y : Type 0} (f g : X → Y) (xs : List X) → map f xs ≡ map g xs → (x : X) → Contains xs x → f x ≡ g x
map-at f g xs e x (i, lt, at) =
    ap f (sym at) ∙ sym (get_or-map f xs i x (f x) lt) ∙ ap (λ ys. get_or ys i (f x)) e ∙ get_or-map g xs i x (f x) lt ∙ ap g at

-- ---- flags and the predicates whose flag is true

module _ (preds : List PredForm) (test : PredForm → Bool) where
  flagged : (pred : ℕ) → get_or (map test preds) pred false ≡ true
      → (pred < length preds) × ((d : PredForm) → test (get_or preds pred d) ≡ true)
  flagged pred on = by (cases_lt pred (length preds))
    where
      by : (pred < length preds) ⊎ (length preds ≤ pred)
          → (pred < length preds) × ((d : PredForm) → test (get_or preds pred d) ≡ true)
      by (inl lt) = (lt, λ d. sym (get_or-map test preds pred d false lt) ∙ on)
      by (inr past) =
          absurd (true≢false (sym on ∙ get_or_past (map test preds) pred false (omega (arith, past, length-map preds test))))

  flag-on : (pred : ℕ) (d : PredForm) → pred < length preds → test (get_or preds pred d) ≡ true
      → get_or (map test preds) pred false ≡ true
  flag-on pred d lt on = get_or-map test preds pred d false lt ∙ on

  flag-listed : (pred : ℕ) → get_or (map test preds) pred false ≡ true → Contains (kept_from 0 (map test preds)) pred
  flag-listed pred on =
      let e : 0 + pred ≡ pred = omega arith
      in subst (Contains (kept_from 0 (map test preds))) e (kept_found 0 (map test preds) pred on)

  listed-flag : (pred : ℕ) → Contains (kept_from 0 (map test preds)) pred → get_or (map test preds) pred false ≡ true
  listed-flag pred (i, lt, at) =
      let kept : IsKept 0 (map test preds) (get_or (kept_from 0 (map test preds)) i 0)
      = kept_flag 0 (map test preds) i lt
      in let here : kept.place ≡ get_or (kept_from 0 (map test preds)) i 0 = omega (arith, kept.is)
      in let same : kept.place ≡ pred = here ∙ get_or_default (kept_from 0 (map test preds)) i 0 pred lt ∙ at
      in subst (λ n. get_or (map test preds) n false ≡ true) same kept.on

module _ (p : ProgramForm) where
  -- a predicate that counts is nullary or telling
  counted-cases : (pred : ℕ) → Counts (key_flags p) pred
      → Contains (nullary_preds p) pred ⊎ Contains (telling_preds p) pred
  counted-cases pred on =
      let has = flagged p.preds is_counted pred on
      in by has.0 (slice_get-some has.0)
    where
      slice_get-some : pred < length p.preds → (d : PredForm) × (slice_get p.preds pred ≡ Some d)
      slice_get-some lt = some_at p.preds pred lt

      by : pred < length p.preds → (d : PredForm) × (slice_get p.preds pred ≡ Some d)
          → Contains (nullary_preds p) pred ⊎ Contains (telling_preds p) pred
      by lt (d, at) =
          let test = (flagged p.preds is_counted pred on).1 d
          in parts d (or_cases ((get_or p.preds pred d).arity == 0) (is_telling (get_or p.preds pred d)) test)
        where
          parts : (d : PredForm) → (((get_or p.preds pred d).arity == 0) ≡ true) ⊎ (is_telling (get_or p.preds pred d) ≡ true)
              → Contains (nullary_preds p) pred ⊎ Contains (telling_preds p) pred
          parts d (inl zero-ary) = inl (flag-listed p.preds (λ e. e.arity == 0) pred
              (flag-on p.preds (λ e. e.arity == 0) pred d lt zero-ary))
          parts d (inr telling) = inr (flag-listed p.preds is_telling pred
              (flag-on p.preds is_telling pred d lt telling))

  nullary-counts : (pred : ℕ) → Contains (nullary_preds p) pred → Counts (key_flags p) pred
  nullary-counts pred has =
      let on = listed-flag p.preds (λ d. d.arity == 0) pred has
      in let at = flagged p.preds (λ d. d.arity == 0) pred on
      in let some-d = some_at p.preds pred at.0
      in flag-on p.preds is_counted pred some-d.0 at.0
      (or_left ((get_or p.preds pred some-d.0).arity == 0) (is_telling (get_or p.preds pred some-d.0)) (at.1 some-d.0))

  telling-counts : (pred : ℕ) → Contains (telling_preds p) pred → Counts (key_flags p) pred
  telling-counts pred has =
      let on = listed-flag p.preds is_telling pred has
      in let at = flagged p.preds is_telling pred on
      in let some-d = some_at p.preds pred at.0
      in flag-on p.preds is_counted pred some-d.0 at.0
      (or_right ((get_or p.preds pred some-d.0).arity == 0) (is_telling (get_or p.preds pred some-d.0)) (at.1 some-d.0))

  -- its arity
  arity-at : (test : PredForm → Bool) (n : ℕ) → ((d : PredForm) → test d ≡ true → d.arity ≡ n) → (s : StructureForm)
      → IsPlain p s → (pred : ℕ) → Contains (kept_from 0 (map test p.preds)) pred → HasArity s pred n
  arity-at test n means s plain pred has =
      let on = listed-flag p.preds test pred has
      in let at = flagged p.preds test pred on
      in let d = some_at p.preds pred at.0
      in ap (λ xs. slice_get xs pred) plain.shaped.over
      ∙ slice_get-get_or (program_arities p) pred n (omega (arith, at.0, length-map p.preds (λ (e : PredForm). e.arity)))
      ∙ ap Some (get_or-map (λ (e : PredForm). e.arity) p.preds pred d.0 n at.0 ∙ means (get_or p.preds pred d.0) (at.1 d.0))

  nullary-arity : (s : StructureForm) → IsPlain p s → (pred : ℕ) → Contains (nullary_preds p) pred → HasArity s pred 0
  nullary-arity = arity-at (λ d. d.arity == 0) 0 (λ d e. eqb-true d.arity 0 e)

  telling-arity : (s : StructureForm) → IsPlain p s → (pred : ℕ) → Contains (telling_preds p) pred → HasArity s pred 1
  telling-arity = arity-at is_telling 1 (λ d e. eqb-true d.arity 1 (and_left (d.arity == 1) d.abs e))

  pub flags-fit : (s : StructureForm) → IsPlain p s → AreFlags (key_flags p) s
  flags-fit s plain = record {
    count = length-map p.preds is_counted ∙ sym (length-map p.preds (λ (d : PredForm). d.arity))
        ∙ sym (ap length plain.shaped.over);
    small = λ pred does arity. by pred arity (counted-cases pred does);
  }
    where
      by : (pred : ℕ) → HasArity s pred 2 → Contains (nullary_preds p) pred ⊎ Contains (telling_preds p) pred → ⊥
      by pred arity (inl has) = omega (arith, same_Some 2 0 (sym arity ∙ nullary-arity s plain pred has))
      by pred arity (inr has) = omega (arith, same_Some 2 1 (sym arity ∙ telling-arity s plain pred has))

  -- ---- keys

  pub key-from_same : (s t : StructureForm) → SameKey (key_flags p) s t → key_of p s ≡ key_of p t
  key-from_same s t key =
      let nullary : (key_of p s).nullary ≡ (key_of p t).nullary
      = map-agreed (λ pred. value_at s pred []) (λ pred. value_at t pred []) (nullary_preds p)
      (λ pred has. key.values pred (nullary-counts pred has) [])
      in let name : (u : ℕ) → canonical_name (telling_preds p) (structure_of s) u ≡ canonical_name (telling_preds p) (structure_of t) u
      = λ u. map-agreed (λ pred. value_at s pred (u ∷ [])) (λ pred. value_at t pred (u ∷ [])) (telling_preds p)
      (λ pred has. key.values pred (telling-counts pred has) (u ∷ []))
      in let names : (key_of p s).names ≡ (key_of p t).names
      = map-agreed (canonical_name (telling_preds p) (structure_of s)) (canonical_name (telling_preds p) (structure_of t))
      (range_with_len 0 s.size) (λ u has. name u)
      ∙ ap (λ n. map (canonical_name (telling_preds p) (structure_of t)) (range_with_len 0 n)) key.size
      in λ i. record { nullary = nullary i; names = names i }

  module _ (s t : StructureForm) (plain_s : IsPlain p s) (plain_t : IsPlain p t) (key : key_of p s ≡ key_of p t) where
    same-nullary : (pred : ℕ) → Contains (nullary_preds p) pred → value_at s pred [] ≡ value_at t pred []
    same-nullary pred has =
        map-at (λ q. value_at s q []) (λ q. value_at t q []) (nullary_preds p) (ap (λ (k : Key). k.nullary) key) pred has

    same-size : s.size ≡ t.size
    same-size = sym (length-map-range_with_len (canonical_name (telling_preds p) (structure_of s)) 0 s.size)
        ∙ ap (λ (k : Key). length k.names) key ∙ length-map-range_with_len (canonical_name (telling_preds p) (structure_of t)) 0 t.size

    same-name : (u : ℕ) → u < s.size
        → canonical_name (telling_preds p) (structure_of s) u ≡ canonical_name (telling_preds p) (structure_of t) u
    same-name u lt =
        sym (get_or-map-range_with_len (canonical_name (telling_preds p) (structure_of s)) 0 s.size u u [] lt (omega arith))
        ∙ ap (λ (k : Key). get_or k.names u []) key
        ∙ get_or-map-range_with_len (canonical_name (telling_preds p) (structure_of t)) 0 t.size u u [] (omega (arith, lt, same-size)) (omega arith)

    same-telling : (pred : ℕ) → Contains (telling_preds p) pred → (u : ℕ) → u < s.size
        → value_at s pred (u ∷ []) ≡ value_at t pred (u ∷ [])
    same-telling pred has u lt =
        map-at (λ q. value_at s q (u ∷ [])) (λ q. value_at t q (u ∷ [])) (telling_preds p) (same-name u lt) pred has

    -- the tuple fits in both or in none
    fits-cases : (n : ℕ) (pred : ℕ) (tuple : List ℕ) → HasArity s pred n → HasArity t pred n
        → (length tuple ≡ n) ⊎ ((value_at s pred tuple ≡ No) × (value_at t pred tuple ≡ No))
    fits-cases n pred tuple in_s in_t = by (fits_or_No s pred tuple) (fits_or_No t pred tuple)
      where
        by : (slice_get (arities_of s) pred ≡ Some (length tuple)) ⊎ (value_at s pred tuple ≡ No)
            → (slice_get (arities_of t) pred ≡ Some (length tuple)) ⊎ (value_at t pred tuple ≡ No)
            → (length tuple ≡ n) ⊎ ((value_at s pred tuple ≡ No) × (value_at t pred tuple ≡ No))
        by (inl fits) other = inl (sym (same_Some n (length tuple) (sym in_s ∙ fits)))
        by (inr a) (inl fits) = inl (sym (same_Some n (length tuple) (sym in_t ∙ fits)))
        by (inr a) (inr b) = inr (a, b)

    at-nullary : (pred : ℕ) → Contains (nullary_preds p) pred → (tuple : List ℕ)
        → (length tuple ≡ 0) ⊎ ((value_at s pred tuple ≡ No) × (value_at t pred tuple ≡ No))
        → value_at s pred tuple ≡ value_at t pred tuple
    at-nullary pred has tuple (inr (a, b)) = a ∙ sym b
    at-nullary pred has [] (inl none) = same-nullary pred has
    at-nullary pred has (u ∷ us) (inl none) = absurd (omega arith)

    at-telling : (pred : ℕ) → Contains (telling_preds p) pred → (tuple : List ℕ)
        → (length tuple ≡ 1) ⊎ ((value_at s pred tuple ≡ No) × (value_at t pred tuple ≡ No))
        → value_at s pred tuple ≡ value_at t pred tuple
    at-telling pred has tuple (inr (a, b)) = a ∙ sym b
    at-telling pred has [] (inl one) = absurd (omega arith)
    at-telling pred has (u ∷ w ∷ us) (inl one) = absurd (omega arith)
    at-telling pred has (u ∷ []) (inl one) = by (cases_lt u s.size)
      where
        by : (u < s.size) ⊎ (s.size ≤ u) → value_at s pred (u ∷ []) ≡ value_at t pred (u ∷ [])
        by (inl lt) = same-telling pred has u lt
        by (inr past) =
            value_at-past s plain_s.is pred (u ∷ []) (λ within. omega (arith, past, within.0))
            ∙ sym (value_at-past t plain_t.is pred (u ∷ []) (λ within. omega (arith, past, same-size, within.0)))

    pub same-from_key : SameKey (key_flags p) s t
    same-from_key = record {
      size = same-size;
      over = plain_s.shaped.over ∙ sym plain_t.shaped.over;
      values = λ pred does tuple. by pred tuple (counted-cases pred does);
    }
      where
        by : (pred : ℕ) (tuple : List ℕ) → Contains (nullary_preds p) pred ⊎ Contains (telling_preds p) pred
            → value_at s pred tuple ≡ value_at t pred tuple
        by pred tuple (inl has) = at-nullary pred has tuple
            (fits-cases 0 pred tuple (nullary-arity s plain_s pred has) (nullary-arity t plain_t pred has))
        by pred tuple (inr has) = at-telling pred has tuple
            (fits-cases 1 pred tuple (telling-arity s plain_s pred has) (telling-arity t plain_t pred has))
