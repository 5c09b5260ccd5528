-- What the texts of a line tell of values.
use Rattle.std.proofs.Common.{◌≡◌, ◌≢◌, ℕ, zero, suc, ◌<◌, ◌≤◌, ◌+◌, Bool, true, false, List, [], ◌∷◌, ◌++◌}
use Rattle.std.proofs.Common.{map, length}
use Rattle.std.proofs.Common.{Some, refl, sym, ap, subst, ◌∙◌, ◌⊎◌, inl, inr, arith, if◌then◌else◌, eqb}
use Rattle.std.proofs.Common.{get_or}
use Rattle.std.specs.Prelude.{codes, AllPairs, Contains, slice_get}
use Rattle.std.specs.List.{flat_map, range_with_len}
use Rattle.std.proofs.lemmas.Bool.{eq-eqb, eqb-true, cases_order}
use Rattle.std.proofs.lemmas.List.{append_cancel_right, length-append}
use Rattle.std.proofs.lemmas.List.Elements.{Contains-append_left, Contains-append_right}
use Rattle.std.proofs.lemmas.List.Elements.{Contains-append_cases}
use Rattle.tv_kleene.specs.declared.K3.{K3}
use Rattle.tv_kleene.specs.declared.K3.TheVariants.{No, Half, Yes}
use Rattle.tv_lemmas.proofs.Lists.{in_range, range_below}
use Rattle.tv_model.proofs.Lists.{Contains-here, Contains-none, Contains-cases, Contains-map}
use Rattle.tv_model.proofs.Lists.{Contains-map_back}
use Rattle.tv_model.proofs.Lists.{Contains-flat_map, Contains-flat_map_back}
use Rattle.tv_model.specs.Spelling.{IsName}
use Rattle.tv_model.specs.declared.program.Pred.{Pred}
use Rattle.tv_show.specs.Texts.{valued, arrow_text, of_arity}
use Rattle.tv_show.proofs.Parted.{FreeOf, IsFull, free_append, full_append, cut}
use Rattle.tv_show.proofs.Spelt.{IsOther, name_free}

-- ---- what is said of a value

only : {X : Type 0} (x y : X) → Contains (x ∷ []) y → x ≡ y
only x y at = one (Contains-cases x y [] at)
  where
    one : (x ≡ y) ⊎ Contains [] y → x ≡ y
    one (inl same) = same
    one (inr none) = absurd (Contains-none y none)

-- a text that ends with a byte isn't free of it
not_free : (c : ℕ) (text : List ℕ) → FreeOf c (text ++ c ∷ []) → ⊥
not_free c [] free = free.0 refl
not_free c (x ∷ text) free = not_free c text free.1

-- the name stands in what is said
pub valued_name : (n m : List ℕ) (j k : K3) (text : List ℕ) → FreeOf 63 n → FreeOf 63 m → Contains (valued n j) text
    → Contains (valued m k) text → n ≡ m
valued_name n m No k text fn fm a b = absurd (Contains-none text a)
valued_name n m Half No text fn fm a b = absurd (Contains-none text b)
valued_name n m Yes No text fn fm a b = absurd (Contains-none text b)
valued_name n m Half Half text fn fm a b =
    append_cancel_right n m (codes "?") (only (n ++ codes "?") text a ∙ sym (only (m ++ codes "?") text b))
valued_name n m Half Yes text fn fm a b =
    let same : m ≡ n ++ codes "?" = only m text b ∙ sym (only (n ++ codes "?") text a)
    in absurd (not_free 63 n (subst (FreeOf 63) same fm))
valued_name n m Yes Half text fn fm a b =
    let same : n ≡ m ++ codes "?" = only n text a ∙ sym (only (m ++ codes "?") text b)
    in absurd (not_free 63 m (subst (FreeOf 63) same fn))
valued_name n m Yes Yes text fn fm a b = only n text a ∙ sym (only m text b)

longer : (name : List ℕ) → name ≡ name ++ codes "?" → ⊥
longer name same = let more = ap length same ∙ length-append name (codes "?") in omega (arith, more)

-- what is said tells the value
pub said_value : (name : List ℕ) (j k : K3) → ((text : List ℕ) → Contains (valued name j) text → Contains (valued name k) text)
    → ((text : List ℕ) → Contains (valued name k) text → Contains (valued name j) text) → j ≡ k
said_value name No No to from = refl
said_value name No Half to from = absurd (Contains-none _ (from (name ++ codes "?") (Contains-here (name ++ codes "?") [])))
said_value name No Yes to from = absurd (Contains-none _ (from name (Contains-here name [])))
said_value name Half No to from = absurd (Contains-none _ (to (name ++ codes "?") (Contains-here (name ++ codes "?") [])))
said_value name Half Half to from = refl
said_value name Half Yes to from = absurd (longer name (only name (name ++ codes "?") (to (name ++ codes "?") (Contains-here (name ++ codes "?") []))))
said_value name Yes No to from = absurd (Contains-none _ (to name (Contains-here name [])))
said_value name Yes Half to from = absurd (longer name (only name (name ++ codes "?") (from (name ++ codes "?") (Contains-here (name ++ codes "?") []))))
said_value name Yes Yes to from = refl

pub valued_free : (c : ℕ) (name : List ℕ) (k : K3) (text : List ℕ) → FreeOf c name → (63 ≡ c → ⊥) → Contains (valued name k) text
    → FreeOf c text
valued_free c name No text free other at = absurd (Contains-none text at)
valued_free c name Half text free other at =
    subst (FreeOf c) (only (name ++ codes "?") text at) (free_append (λ b. b ≡ c) name (codes "?") free (other, tt))
valued_free c name Yes text free other at = subst (FreeOf c) (only name text at) free

pub valued_full : (name : List ℕ) (k : K3) (text : List ℕ) → IsFull name → Contains (valued name k) text → IsFull text
valued_full name No text full at = absurd (Contains-none text at)
valued_full name Half text full at = subst IsFull (only (name ++ codes "?") text at) (full_append name (codes "?") full)
valued_full name Yes text full at = subst IsFull (only name text at) full

-- ---- what is said of predicates

abbrev pub Saying : Type 0
Saying = ℕ → List ℕ → List (List ℕ)

pub of_arity_in : (arity : ℕ) (say : Saying) (p : ℕ) (preds : List Pred) (place : ℕ) (pred : Pred) (text : List ℕ)
    → slice_get preds place ≡ Some pred → pred.arity ≡ arity → Contains (say (p + place) pred.name) text
    → Contains (of_arity arity say p preds) text
of_arity_in arity say p [] place pred text at is says = absurd (cc at)
of_arity_in arity say p (x ∷ preds) zero pred text at is says =
    let same : pred ≡ x = sym (cc at)
    in let number : p + 0 ≡ p = omega arith
    in let here : Contains (say p pred.name) text = subst (λ n. Contains (say n pred.name) text) number says
    in let chosen : Contains (if eqb pred.arity arity then say p pred.name else []) text
    = subst (λ b. Contains (if b then say p pred.name else []) text) (sym (eq-eqb pred.arity arity is)) here
    in let Says : Pred → Type 0 = λ y. Contains (if eqb y.arity arity then say p y.name else []) text
    in Contains-append_left (if eqb x.arity arity then say p x.name else []) (of_arity arity say (p + 1) preds) text (subst Says same chosen)
of_arity_in arity say p (x ∷ preds) (suc place) pred text at is says =
    let number : p + suc place ≡ p + 1 + place = omega arith
    in Contains-append_right (if eqb x.arity arity then say p x.name else []) (of_arity arity say (p + 1) preds) text
    (of_arity_in arity say (p + 1) preds place pred text at is (subst (λ n. Contains (say n pred.name) text) number says))

-- where a text comes from
pub record Said (arity : ℕ) (say : Saying) (p : ℕ) (preds : List Pred) (text : List ℕ) : Type 0 where
  pub place : ℕ
  pub pred : Pred
  pub at : slice_get preds place ≡ Some pred
  pub is : pred.arity ≡ arity
  pub says : Contains (say (p + place) pred.name) text

pub of_arity_out : (arity : ℕ) (say : Saying) (p : ℕ) (preds : List Pred) (text : List ℕ) → Contains (of_arity arity say p preds) text
    → Said arity say p preds text
of_arity_out arity say p [] text at = absurd (Contains-none text at)
of_arity_out arity say p (x ∷ preds) text at =
    go (λ there. of_arity_out arity say (p + 1) preds text there)
    (Contains-append_cases (if eqb x.arity arity then say p x.name else []) (of_arity arity say (p + 1) preds) text at)
  where
    first : (b : Bool) → eqb x.arity arity ≡ b → Contains (if b then say p x.name else []) text → Said arity say p (x ∷ preds) text
    first true is at = record {
      place = 0;
      pred = x;
      at = refl;
      is = eqb-true x.arity arity is;
      says = let number : p ≡ p + 0 = omega arith in subst (λ n. Contains (say n x.name) text) number at;
    }
    first false is at = absurd (Contains-none text at)

    go : (Contains (of_arity arity say (p + 1) preds) text → Said arity say (p + 1) preds text)
        → Contains (if eqb x.arity arity then say p x.name else []) text ⊎ Contains (of_arity arity say (p + 1) preds) text
        → Said arity say p (x ∷ preds) text
    go out (inl here) = first (eqb x.arity arity) refl here
    go out (inr there) =
        let later = out there
        in let number : p + 1 + later.place ≡ p + suc later.place = omega arith
        in record {
          place = suc later.place;
          pred = later.pred;
          at = later.at;
          is = later.is;
          says = subst (λ n. Contains (say n later.pred.name) text) number later.says;
        }

-- the same from the first predicate on
of_all_in : (arity : ℕ) (say : Saying) (preds : List Pred) (place : ℕ) (pred : Pred) (text : List ℕ)
    → slice_get preds place ≡ Some pred → pred.arity ≡ arity → Contains (say place pred.name) text
    → Contains (of_arity arity say 0 preds) text
of_all_in arity say preds place pred text at is says =
    let number : place ≡ 0 + place = omega arith
    in of_arity_in arity say 0 preds place pred text at is (subst (λ n. Contains (say n pred.name) text) number says)

of_all_says : (arity : ℕ) (say : Saying) (preds : List Pred) (text : List ℕ) (said : Said arity say 0 preds text)
    → Contains (say said.place said.pred.name) text
of_all_says arity say preds text said =
    let number : 0 + said.place ≡ said.place = omega arith
    in subst (λ n. Contains (say n said.pred.name) text) number said.says

-- ---- predicates by their names

pub record AreNamed (preds : List Pred) : Type 0 where
  pub differ : AllPairs ◌≢◌ (map (λ pred. pred.name) preds)
  pub named : (place : ℕ) (pred : Pred) → slice_get preds place ≡ Some pred → IsName pred.name
  pub low : (place : ℕ) (pred : Pred) → slice_get preds place ≡ Some pred → pred.arity ≤ 2

mapped_at : {X Y : Type 0} (f : X → Y) (xs : List X) (k : ℕ) (x : X) (d : Y) → slice_get xs k ≡ Some x
    → (get_or (map f xs) k d ≡ f x) × (k < length (map f xs))
mapped_at f [] k x d at = absurd (cc at)
mapped_at f (y ∷ xs) zero x d at = let same : y ≡ x = cc at in (ap f same, omega arith)
mapped_at f (y ∷ xs) (suc k) x d at = let rest = mapped_at f xs k x d at in (rest.0, omega (arith, rest.1))

pub same_place : (preds : List Pred) → AreNamed preds → (j k : ℕ) (x y : Pred) → slice_get preds j ≡ Some x → slice_get preds k ≡ Some y
    → x.name ≡ y.name → j ≡ k
same_place preds are j k x y at_j at_k same = go (cases_order j k)
  where
    one : (get_or (map (λ (pred : Pred). pred.name) preds) j [] ≡ x.name) × (j < length (map (λ (pred : Pred). pred.name) preds))
    one = mapped_at (λ (pred : Pred). pred.name) preds j x [] at_j

    other : (get_or (map (λ (pred : Pred). pred.name) preds) k [] ≡ y.name) × (k < length (map (λ (pred : Pred). pred.name) preds))
    other = mapped_at (λ (pred : Pred). pred.name) preds k y [] at_k

    go : (j ≡ k) ⊎ ((j < k) ⊎ (k < j)) → j ≡ k
    go (inl is) = is
    go (inr (inl lt)) = absurd (are.differ j k [] lt other.1 (one.0 ∙ same ∙ sym other.0))
    go (inr (inr lt)) = absurd (are.differ k j [] lt one.1 (other.0 ∙ sym same ∙ sym one.0))

question : IsOther 63
question = inr refl

dash : IsOther 45
dash = inl (inr refl)

-- ---- the values of predicates

module _ (preds : List Pred) (are : AreNamed preds) (arity : ℕ) where
  abbrev values : (ℕ → K3) → List (List ℕ)
  values v = of_arity arity (λ p name. valued name (v p)) 0 preds

  carried : (v w : ℕ → K3) → values v ≡ values w → (k : ℕ) (pred : Pred) → slice_get preds k ≡ Some pred → pred.arity ≡ arity
      → (text : List ℕ) → Contains (valued pred.name (v k)) text → Contains (valued pred.name (w k)) text
  carried v w same k pred at is text here =
      let listed = of_all_in arity (λ p name. valued name (v p)) preds k pred text at is here
      in let said = of_arity_out arity (λ p name. valued name (w p)) 0 preds text (subst (λ texts. Contains texts text) same listed)
      in let says = of_all_says arity (λ p name. valued name (w p)) preds text said
      in let name = valued_name pred.name said.pred.name (v k) (w said.place) text
      (name_free 63 question pred.name (are.named k pred at)) (name_free 63 question said.pred.name (are.named said.place said.pred said.at)) here says
      in let place = same_place preds are said.place k said.pred pred said.at at (sym name)
      in let At : ℕ → Type 0 = λ n. Contains (valued said.pred.name (w n)) text
      in subst (λ n. Contains (valued n (w k)) text) (sym name) (subst At place says)

  pub values_tell : (v w : ℕ → K3) → values v ≡ values w → (k : ℕ) (pred : Pred) → slice_get preds k ≡ Some pred → pred.arity ≡ arity
      → v k ≡ w k
  values_tell v w same k pred at is =
      said_value pred.name (v k) (w k) (carried v w same k pred at is) (carried w v (sym same) k pred at is)

-- ---- arrows

pub arrow_tells : (m n t u : List ℕ) → FreeOf 45 m → FreeOf 45 n → arrow_text m t ≡ arrow_text n u → (m ≡ n) × (t ≡ u)
arrow_tells m n t u fm fn same =
    let behind : m ++ 45 ∷ 62 ∷ t ≡ n ++ 45 ∷ 62 ∷ u = cc same
    in let parts = cut (λ b. b ≡ 45) m n (45 ∷ 62 ∷ t) (45 ∷ 62 ∷ u) fm fn refl refl behind
    in let targets : t ≡ u = cc parts.1
    in (parts.0, targets)

abbrev pub row_said : (size : ℕ) → (ℕ → List ℕ) → (ℕ → ℕ → K3) → Saying
row_said size target v p name =
    flat_map (λ x. map (λ n. arrow_text n (target x)) (valued name (v p x))) (range_with_len 0 size)

module _ (preds : List Pred) (are : AreNamed preds) (size : ℕ) where
  carried_arrow : (t u : ℕ → List ℕ) → ((x y : ℕ) → x < size → y < size → t x ≡ u y → x ≡ y) → (v w : ℕ → ℕ → K3)
      → of_arity 2 (row_said size t v) 0 preds ≡ of_arity 2 (row_said size u w) 0 preds
      → (k : ℕ) (pred : Pred) → slice_get preds k ≡ Some pred → pred.arity ≡ 2 → (x : ℕ) → x < size
      → (n : List ℕ) → Contains (valued pred.name (v k x)) n → Contains (valued pred.name (w k x)) n
  carried_arrow t u apart v w same k pred at is x lt n here =
      let text = arrow_text n (t x)
      in let in_row : Contains (row_said size t v k pred.name) text
      = Contains-flat_map (λ y. map (λ m. arrow_text m (t y)) (valued pred.name (v k y))) (range_with_len 0 size) x text (in_range size x lt)
      (Contains-map (λ m. arrow_text m (t x)) n (valued pred.name (v k x)) here)
      in let listed = of_all_in 2 (row_said size t v) preds k pred text at is in_row
      in let said = of_arity_out 2 (row_said size u w) 0 preds text (subst (λ texts. Contains texts text) same listed)
      in let row = Contains-flat_map_back (λ y. map (λ m. arrow_text m (u y)) (valued said.pred.name (w said.place y))) (range_with_len 0 size) text
      (of_all_says 2 (row_said size u w) preds text said)
      in let y = row.0
      in let below = range_below 0 size y row.1
      in let arrow = Contains-map_back (λ m. arrow_text m (u y)) (valued said.pred.name (w said.place y)) text row.2
      in let m = arrow.0
      in let named = are.named k pred at
      in let named_there = are.named said.place said.pred said.at
      in let free_n = valued_free 45 pred.name (v k x) n (name_free 45 dash pred.name named) (λ e. omega (arith, e)) here
      in let free_m = valued_free 45 said.pred.name (w said.place y) m (name_free 45 dash said.pred.name named_there) (λ e. omega (arith, e)) arrow.1
      in let parts = arrow_tells m n (u y) (t x) free_m free_n arrow.2
      in let place_x : x ≡ y = apart x y lt (omega (arith, below)) (sym parts.1)
      in let there : Contains (valued said.pred.name (w said.place x)) n
      = subst (λ z. Contains (valued said.pred.name (w said.place z)) n) (sym place_x)
      (subst (λ z. Contains (valued said.pred.name (w said.place y)) z) parts.0 arrow.1)
      in let name = valued_name pred.name said.pred.name (v k x) (w said.place x) n (name_free 63 question pred.name named)
      (name_free 63 question said.pred.name named_there) here there
      in let place = same_place preds are said.place k said.pred pred said.at at (sym name)
      in let At : ℕ → Type 0 = λ z. Contains (valued said.pred.name (w z x)) n
      in subst (λ z. Contains (valued z (w k x)) n) (sym name) (subst At place there)

  pub arrows_tell : (t u : ℕ → List ℕ) → ((x y : ℕ) → x < size → y < size → t x ≡ u y → x ≡ y) → (v w : ℕ → ℕ → K3)
      → of_arity 2 (row_said size t v) 0 preds ≡ of_arity 2 (row_said size u w) 0 preds
      → (k : ℕ) (pred : Pred) → slice_get preds k ≡ Some pred → pred.arity ≡ 2 → (x : ℕ) → x < size → v k x ≡ w k x
  arrows_tell t u apart v w same k pred at is x lt =
      said_value pred.name (v k x) (w k x) (carried_arrow t u apart v w same k pred at is x lt)
      (carried_arrow u t (λ a b below_a below_b e. sym (apart b a below_b below_a (sym e))) w v (sym same) k pred at is x lt)
