-- Lists whose elements have keys that differ: one more element, and one that breaks them; and sets of keys.
use Rattle.std.proofs.Common.{◌≡◌, ◌≢◌, ℕ, ◌+◌, ◌<◌, Bool, true, false, not, List, [], ◌∷◌, ◌++◌, length, map}
use Rattle.std.proofs.Common.{take, get_or, Option, Some, None, refl, sym, ap, ◌∙◌, subst, ◌⊎◌, inl, inr}
use Rattle.std.proofs.Common.{arith, Bor}
use Rattle.std.specs.Prelude.{All, AllPairs, Contains, MatchOption, position, slice_get, is_some, ◌&&◌, ◌==◌}
use Rattle.std.specs.List.{list_any}
use Rattle.std.specs.Str.{bytes_eq}
use Rattle.std.proofs.lemmas.Bool.{both_ways, eqb-true, eq-eqb, and_parts}
use Rattle.std.proofs.lemmas.List.{map_push, map-append, length-append, length-take-le, get_or_append_left}
use Rattle.std.proofs.lemmas.List.{get_or_at, get_or-take, get_or_default, take_more}
use Rattle.std.proofs.lemmas.List.Elements.{All-push}
use Rattle.std.proofs.lemmas.List.Folds.{list_any_at}
use Rattle.std.proofs.lemmas.List.Quantifiers.{all_pairs_push, position-Some}
use Rattle.std.proofs.lemmas.Map.Views.{Contains-from_any}
use Rattle.std.proofs.lemmas.Option.{slice_get-get_or}
use Rattle.tv_lemmas.proofs.Texts.{same_text, text_itself}
use Rattle.indexmap.specs.IndexSet.{insert_key}
use Rattle.tv_listing.specs.contracts.analysis.ItemPartialEq.TheImpl as item_eq
use Rattle.tv_listing.specs.declared.analysis.Item.{Item}
use Rattle.tv_listing.specs.declared.analysis.Item.TheVariants as item
use Rattle.tv_tvs.specs.Views.{names_of}
use Rattle.tv_tvs.proofs.Twice.{among_names, names_added}
use Rattle.tv_report.specs.Once.{AreOnce, IsSeen, GoesOn, Breaks}

-- what stands between two lists
all_between : {X : Type 0} (P : X → Type 0) (before after : List X) (x : X) → All P (before ++ x ∷ after) → P x
all_between P before after x all =
    let within : length before < length (before ++ x ∷ after) = rw (length-append before (x ∷ after)) (omega arith)
    in subst P (get_or_at before x after x (length before) refl) (all (length before) x within)

pairs_between : {X : Type 0} (before after : List X) (x : X) → AllPairs ◌≢◌ (before ++ x ∷ after) → ¬ Contains before x
pairs_between before after x apart (k, lt, at) =
    let within : length before < length (before ++ x ∷ after) = rw (length-append before (x ∷ after)) (omega arith)
    in apart k (length before) x lt within (get_or_append_left before (x ∷ after) x k lt ∙ at ∙ sym (get_or_at before x after x (length before) refl))

-- one that differs from those before it
apart_push : {K : Type 0} (ks : List K) (k : K) → AllPairs ◌≢◌ ks → (¬ Contains ks k) → AllPairs ◌≢◌ (ks ++ k ∷ [])
apart_push ks k apart new = all_pairs_push ◌≢◌ ks k apart (λ i d lt same. new (i, lt, get_or_default ks i k d lt ∙ same))

module _ {X K : Type 0} (Good : X → Type 0) (key : X → K) where
  pub goes_keys : (xs : List X) (x : X) (old new : List K) → old ≡ map key xs → GoesOn Good key old new x → new ≡ map key (xs ++ x ∷ [])
  goes_keys xs x old new seen (good, (apart, put)) = put ∙ ap (λ ks. ks ++ key x ∷ []) seen ∙ sym (map_push key xs x)

  pub goes_once : (xs : List X) (x : X) (old new : List K) → AreOnce Good key xs → old ≡ map key xs → GoesOn Good key old new x
      → AreOnce Good key (xs ++ x ∷ [])
  goes_once xs x old new (all, differ) seen (good, (apart, put)) = (
    All-push Good xs x all good,
    subst (AllPairs ◌≢◌) (sym (map_push key xs x)) (apart_push (map key xs) (key x) differ (subst (λ ks. ¬ Contains ks (key x)) seen apart)),
  )

  pub breaks_once : (xs before after : List X) (x : X) (old : List K) → xs ≡ before ++ x ∷ after → old ≡ map key before
      → Breaks Good key old x → ¬ AreOnce Good key xs
  breaks_once xs before after x old whole seen (inl bad) (all, differ) = bad (all_between Good before after x (subst (All Good) whole all))
  breaks_once xs before after x old whole seen (inr twice) (all, differ) =
      let keys : map key xs ≡ map key before ++ key x ∷ map key after = ap (map key) whole ∙ map-append key before (x ∷ after)
      in pairs_between (map key before) (map key after) (key x) (subst (AllPairs ◌≢◌) keys differ) (subst (λ ks. Contains ks (key x)) seen twice)

-- ---- sets of keys

module _ {K : Type 0} (same : K → K → Bool) (sound : (a b : K) → same a b ≡ true → a ≡ b) (self : (a : K) → same a a ≡ true) where
  contained : (ks : List K) (k : K) → Contains ks k → list_any (same k) ks ≡ true
  contained ks k (i, lt, at) = list_any_at (same k) ks i k lt (ap (same k) at ∙ self k)

  pub seen_key : (old new : List K) (k : K) (b : Bool) → b ≡ not (list_any (same k) old) → new ≡ insert_key same old k → IsSeen old new k b
  seen_key old new k b is put = at (list_any (same k) old) refl
    where
      at : (found : Bool) → list_any (same k) old ≡ found → IsSeen old new k b
      at true e = subst (IsSeen old new k) (sym (is ∙ ap not e)) (Contains-from_any sound k old e)
      at false e = subst (IsSeen old new k) (sym (is ∙ ap not e)) (λ has. both_ways (list_any (same k) old) e (contained old k has), put ∙ (rw e refl))

pub name_found : (names : List (List ℕ)) (name : List ℕ) (r : Option ℕ) → r ≡ position (bytes_eq name) names → is_some r ≡ list_any (bytes_eq name) names
    → MatchOption r (¬ Contains names name) (λ n. slice_get names n ≡ Some name)
name_found names name None at found = λ has. both_ways (list_any (bytes_eq name) names) (sym found) (contained bytes_eq same_text text_itself names name has)
name_found names name (Some n) at found =
    let p = position-Some (bytes_eq name) names n name (sym at)
    in slice_get-get_or names n name p.0 ∙ ap Some (sym (same_text name (get_or names n name) p.1))

pub contains_or : (names : List (List ℕ)) (name : List ℕ) → Contains names name ⊎ (¬ Contains names name)
contains_or names name = at (list_any (bytes_eq name) names) refl
  where
    at : (found : Bool) → list_any (bytes_eq name) names ≡ found → Contains names name ⊎ (¬ Contains names name)
    at true e = inl (Contains-from_any same_text name names e)
    at false e = inr (λ has. both_ways (list_any (bytes_eq name) names) e (contained bytes_eq same_text text_itself names name has))

-- the same of names that borrow their bytes
module _ (same : Bor (List ℕ) → Bor (List ℕ) → Bool) (means : (a b : Bor (List ℕ)) → same a b ≡ bytes_eq a.now b.now) where
  pub seen_name : (old new : List (Bor (List ℕ))) (name : Bor (List ℕ)) (b : Bool) → b ≡ not (list_any (same name) old) → new ≡ insert_key same old name
      → IsSeen (names_of old) (names_of new) name.now b
  seen_name old new name b is put =
      seen_key bytes_eq same_text text_itself (names_of old) (names_of new) name.now b
      (is ∙ ap not (among_names same means old name)) (ap names_of put ∙ put_name (list_any (same name) old) refl)
    where
      put_name : (found : Bool) → list_any (same name) old ≡ found → names_of (insert_key same old name) ≡ insert_key bytes_eq (names_of old) name.now
      put_name true e = rw (e, sym (among_names same means old name) ∙ e) refl
      put_name false e = names_added same means old name e ∙ (rw (sym (among_names same means old name) ∙ e) refl)

-- one more of names that differ
pub next_name : (names : List (List ℕ)) (i : ℕ) (name d : List ℕ) (old new : List (List ℕ)) (b : Bool) → AllPairs ◌≢◌ names → i < length names
    → name ≡ get_or names i d → old ≡ take i names → IsSeen old new name b → new ≡ take (i + 1) names
next_name names i name d old new true differ lt at so_far (apart, put) =
    put ∙ ap (λ ns. ns ++ name ∷ []) so_far ∙ ap (λ n. take i names ++ n ∷ []) at ∙ sym (take_more names i d lt)
next_name names i name d old new false differ lt at so_far has =
    let before : Contains (take i names) name = subst (λ ns. Contains ns name) so_far has
    in let small : before.0 < i = let l = before.1 in let m = length-take-le i names (omega (arith, lt)) in omega (arith, l, m)
    in absurd (differ before.0 i name small lt (sym (get_or-take i names before.0 name small) ∙ before.2 ∙ at ∙ get_or_default names i d name lt))

-- ---- pairs and items

pub pair_sound : (a b : ℕ × ℕ) → ((a.0 == b.0) && (a.1 == b.1)) ≡ true → a ≡ b
pair_sound (x, y) (u, v) e =
    let both = and_parts (x == u) (y == v) e
    in ap (λ z. (z, y)) (eqb-true x u both.0) ∙ ap (λ z. (u, z)) (eqb-true y v both.1)

pub pair_self : (a : ℕ × ℕ) → ((a.0 == a.0) && (a.1 == a.1)) ≡ true
pair_self a = rw (eq-eqb a.0 a.0 refl, eq-eqb a.1 a.1 refl) refl

abbrev pub same_item : Item → Item → Bool
same_item x y = item_eq.ghosts.eq x y

pub item_sound : (x y : Item) → same_item x y ≡ true → x ≡ y
item_sound (item.Initial n) (item.Initial m) e = ap item.Initial (eqb-true n m e)
item_sound (item.Initial n) (item.Result u v w) e = absurd cc
item_sound (item.Result a b c) (item.Initial n) e = absurd cc
item_sound (item.Result a b c) (item.Result u v w) e =
    let one = and_parts (a == u) ((b == v) && (c == w)) e
    in let two = and_parts (b == v) (c == w) one.1
    in ap (λ z. item.Result z b c) (eqb-true a u one.0) ∙ ap (λ z. item.Result u z c) (eqb-true b v two.0) ∙ ap (item.Result u v) (eqb-true c w two.1)

pub item_self : (x : Item) → same_item x x ≡ true
item_self (item.Initial n) = eq-eqb n n refl
item_self (item.Result a b c) = rw (eq-eqb a a refl, eq-eqb b b refl, eq-eqb c c refl) refl
