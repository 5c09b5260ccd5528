-- Lists, tuples and truth under other names.
use Rattle.std.proofs.Common.{ℕ, ◌≡◌, ◌↔◌, ◌⊎◌, List, [], ◌∷◌, map, length, Option, Some, None, unwrap_or}
use Rattle.std.proofs.Common.{slice_get, All, Contains, inl, inr, ⊎_elim, refl, sym, ap, subst, ◌∙◌, arith}
use Rattle.std.specs.Option.{option_map}
use Rattle.std.proofs.lemmas.Bool.{cases_eq}
use Rattle.std.proofs.lemmas.List.Elements.{All-nil, All-cons, All-head, All-tail}
use Rattle.std.proofs.lemmas.Option.{slice_get-map, none-some, same_Some}
use Rattle.tv_model.specs.Form.{Form, IsFree}
use Rattle.tv_model.specs.Heap.{Heap, Holds, extent}
use Rattle.tv_model.specs.Truth.{Assignment, Truth, put, put_all}
use Rattle.tv_model.proofs.Assignments.{put-same, put-other, put-matched, map-images}
use Rattle.tv_model.proofs.Lists.{Contains-cases, Contains-none, Contains-map, Contains-map_back}
use Rattle.tv_model.proofs.Truths.{Matched, Truth-matched}
use Rattle.tv_renaming_laws.specs.Renamed.{renamed, IsRenaming}

-- ---- lists

pub tuple-back : (r s : ℕ → ℕ) → IsRenaming r s → (us : List ℕ) → map s (map r us) ≡ us
tuple-back r s is [] = refl
tuple-back r s is (u ∷ us) = ap (λ x. x ∷ map s (map r us)) (is.back u) ∙ ap (λ xs. u ∷ xs) (tuple-back r s is us)

pub tuple-there : (r s : ℕ → ℕ) → IsRenaming r s → (us : List ℕ) → map r (map s us) ≡ us
tuple-there r s is [] = refl
tuple-there r s is (u ∷ us) = ap (λ x. x ∷ map r (map s us)) (is.there u) ∙ ap (λ xs. u ∷ xs) (tuple-there r s is us)

pub among : (r s : ℕ → ℕ) → IsRenaming r s → (xs : List ℕ) (u : ℕ) → Contains xs u ↔ Contains (map r xs) (r u)
among r s is xs u = (
  λ at. Contains-map r u xs at,
  λ at.
      let from : (x : ℕ) × Contains xs x × (r x ≡ r u) = Contains-map_back r xs (r u) at
      in subst (Contains xs) (sym (is.back from.0) ∙ ap s from.2 ∙ is.back u) from.1,
)

-- the same of a new name
pub among-back : (r s : ℕ → ℕ) → IsRenaming r s → (xs : List ℕ) (w : ℕ) → Contains (map r xs) w ↔ Contains xs (s w)
among-back r s is xs w =
    let both = among r s is xs (s w)
    in (
      λ at. both.1 (subst (Contains (map r xs)) (sym (is.there w)) at),
      λ at. subst (Contains (map r xs)) (is.there w) (both.0 at),
    )

pub all-among : (r s : ℕ → ℕ) → IsRenaming r s → (xs us : List ℕ) → All (Contains xs) us → All (Contains (map r xs)) (map r us)
all-among r s is xs [] all = All-nil (Contains (map r xs))
all-among r s is xs (u ∷ us) all =
    All-cons (Contains (map r xs)) (r u) (map r us) ((among r s is xs u).0 (All-head (Contains xs) u us all))
    (all-among r s is xs us (All-tail (Contains xs) u us all))

pub all-among_back : (r s : ℕ → ℕ) → IsRenaming r s → (xs ws : List ℕ) → All (Contains (map r xs)) ws → All (Contains xs) (map s ws)
all-among_back r s is xs [] all = All-nil (Contains xs)
all-among_back r s is xs (w ∷ ws) all =
    All-cons (Contains xs) (s w) (map s ws) ((among-back r s is xs w).0 (All-head (Contains (map r xs)) w ws all))
    (all-among_back r s is xs ws (All-tail (Contains (map r xs)) w ws all))

-- ---- what holds

pub extent-renamed : (r : ℕ → ℕ) (h : Heap) (q : ℕ) → extent (renamed r h) q ≡ map (λ tuple. map r tuple) (extent h q)
extent-renamed r h q =
    ap (λ o. unwrap_or o []) (slice_get-map (λ (tuples : List (List ℕ)). map (λ tuple. map r tuple) tuples) h.extents q) ∙ at (slice_get h.extents q)
  where
    at : (o : Option (List (List ℕ)))
        → unwrap_or (option_map (λ (tuples : List (List ℕ)). map (λ tuple. map r tuple) tuples) o) [] ≡ map (λ tuple. map r tuple) (unwrap_or o [])
    at None = refl
    at (Some tuples) = refl

pub holds-renamed : (r s : ℕ → ℕ) → IsRenaming r s → (h : Heap) (q : ℕ) (us : List ℕ) → Holds h q us ↔ Holds (renamed r h) q (map r us)
holds-renamed r s is h q us =
    let In : List (List ℕ) → Type 0 = λ ts. Contains ts (map r us)
    in (
      λ at. subst In (sym (extent-renamed r h q)) (Contains-map (λ tuple. map r tuple) us (extent h q) at),
      λ at.
          let from : (ts : List ℕ) × Contains (extent h q) ts × (map r ts ≡ map r us)
          = Contains-map_back (λ tuple. map r tuple) (extent h q) (map r us) (subst In (extent-renamed r h q) at)
          in subst (Contains (extent h q)) (sym (tuple-back r s is from.0) ∙ ap (map s) from.2 ∙ tuple-back r s is us) from.1,
    )

-- the same of a tuple of new names
pub holds-back : (r s : ℕ → ℕ) → IsRenaming r s → (h : Heap) (q : ℕ) (ws : List ℕ) → Holds (renamed r h) q ws ↔ Holds h q (map s ws)
holds-back r s is h q ws =
    let both = holds-renamed r s is h q (map s ws)
    in (
      λ at. both.1 (subst (Holds (renamed r h) q) (sym (tuple-there r s is ws)) at),
      λ at. subst (Holds (renamed r h) q) (tuple-there r s is ws) (both.0 at),
    )

-- ---- truth

marks-renamed : (r s : ℕ → ℕ) → IsRenaming r s → (fresh : Option ℕ) (u w : ℕ) → w ≡ r u → (fresh ≡ Some u) ↔ (option_map r fresh ≡ Some w)
marks-renamed r s is None u w e = (λ t. absurd (none-some u t), λ t. absurd (none-some w t))
marks-renamed r s is (Some x) u w e = (
  λ t. ap Some (ap r (same_Some x u t) ∙ sym e),
  λ t. ap Some (sym (is.back x) ∙ ap s (same_Some (r x) w t ∙ e) ∙ is.back u),
)

matched : (r s : ℕ → ℕ) → IsRenaming r s → (h : Heap) → Matched (λ q. Unit {0}) (Unit {0}) (λ u w. w ≡ r u) h (renamed r h)
matched r s is h = record {
  there = λ u at. (r u, Contains-map r u h.individuals at, refl);
  back = λ w at. (s w, (among-back r s is h.individuals w).0 at, sym (is.there w));
  members = λ u w e. (
    λ at. subst (Contains (map r h.individuals)) (sym e) ((among r s is h.individuals u).0 at),
    λ at. (among r s is h.individuals u).1 (subst (Contains (map r h.individuals)) e at),
  );
  atoms = λ q m vars a b agrees.
      let images : map r (map a vars) ≡ map b vars = map-images r a b vars (λ v at. sym (agrees v at))
      in subst (λ ws. Holds h q (map a vars) ↔ Holds (renamed r h) q ws) images (holds-renamed r s is h q (map a vars));
  same = λ u v x y e d. (
    λ t. e ∙ ap r t ∙ sym d,
    λ t. sym (is.back u) ∙ ap s (sym e ∙ t ∙ d) ∙ is.back v,
  );
  marks = λ m u w e. marks-renamed r s is h.fresh u w e;
}

pub truth-renamed : (r s : ℕ → ℕ) → IsRenaming r s → (h : Heap) (a b : Assignment) (f : Form) → ((v : ℕ) → IsFree v f → b v ≡ r (a v))
    → Truth h a f ↔ Truth (renamed r h) b f
truth-renamed r s is h a b f agrees =
    Truth-matched (λ q. Unit {0}) (Unit {0}) (λ u w. w ≡ r u) h (renamed r h) (matched r s is h) a b f (λ q m. tt) (λ m. tt) agrees

-- ---- assignments

pub put-renamed : (r : ℕ → ℕ) (a b : Assignment) (v u w : ℕ) → w ≡ r u → ((x : ℕ) → b x ≡ r (a x)) → (x : ℕ) → put b v w x ≡ r (put a v u x)
put-renamed r a b v u w e agrees x = put-matched (λ y. Unit {0}) (λ y z. z ≡ r y) a b v u w e (λ y m. agrees y) x tt

pub put_all-renamed : (r : ℕ → ℕ) (vars us : List ℕ) (a b : Assignment) → ((x : ℕ) → b x ≡ r (a x)) → (x : ℕ)
    → put_all b vars (map r us) x ≡ r (put_all a vars us x)
put_all-renamed r [] us a b agrees x = agrees x
put_all-renamed r (v ∷ vars) [] a b agrees x = agrees x
put_all-renamed r (v ∷ vars) (u ∷ us) a b agrees x =
    put_all-renamed r vars us (put a v u) (put b v (r u)) (put-renamed r a b v u (r u) refl agrees) x

-- only the variables that are put count, where there is an individual for each
pub put_all-own : (r : ℕ → ℕ) (vars us : List ℕ) (a b : Assignment) → length vars ≡ length us → (x : ℕ) → Contains vars x ⊎ (b x ≡ r (a x))
    → put_all b vars (map r us) x ≡ r (put_all a vars us x)
put_all-own r [] us a b long x which = ⊎_elim (λ at. absurd (Contains-none x at)) (λ e. e) which
put_all-own r (v ∷ vars) [] a b long x which = absurd (omega (arith, long))
put_all-own r (v ∷ vars) (u ∷ us) a b long x which =
    put_all-own r vars us (put a v u) (put b v (r u)) (omega (arith, long)) x (at (cases_eq x v) which)
  where
    at : (x ≡ v) ⊎ (x ≡ v → ⊥) → Contains (v ∷ vars) x ⊎ (b x ≡ r (a x)) → Contains vars x ⊎ (put b v (r u) x ≡ r (put a v u x))
    at (inl e) w = inr (put-same b v (r u) x e ∙ ap r (sym (put-same a v u x e)))
    at (inr ne) (inl at_) = ⊎_elim (λ e. absurd (ne (sym e))) (λ there. inl there) (Contains-cases v x vars at_)
    at (inr ne) (inr e) = inr (put-other b v (r u) x ne ∙ e ∙ ap r (sym (put-other a v u x ne)))
