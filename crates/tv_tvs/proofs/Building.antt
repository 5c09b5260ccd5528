-- Putting entries one after the other.
use Rattle.std.proofs.Common.{◌≡◌, ℕ, zero, suc, ◌+◌, ◌<◌, ◌≤◌, Bool, true, false, not, ◌&&◌, eqb, nat_lt}
use Rattle.std.proofs.Common.{if◌then◌else◌, List, [], ◌∷◌, ◌++◌}
use Rattle.std.proofs.Common.{length, map, drop, get_or, Option, Some, None, Result, Ok, Err, refl, sym, ap}
use Rattle.std.proofs.Common.{subst, ◌∙◌, arith, append_assoc}
use Rattle.std.specs.Prelude.{is_some}
use Rattle.std.specs.List.{list_all}
use Rattle.std.specs.Option.{option_map}
use Rattle.std.proofs.lemmas.Bool.{and_parts, eqb-true, ne_eqb}
use Rattle.tv_kleene.specs.declared.K3.{K3}
use Rattle.tv_model.specs.declared.program.Pred.{Pred}
use Rattle.tv_structure_form.specs.StructureForm.{StructureForm, structure_of_no}
use Rattle.tv_tvs.specs.declared.build.Target.{Target}
use Rattle.tv_tvs.specs.declared.build.Target.TheVariants.{Marks, Values}
use Rattle.tv_tvs.specs.declared.error.TvsError.{TvsError}
use Rattle.tv_tvs.specs.declared.error.TvsError.TheVariants.{Syntax, IndividualUnknown, IndividualTwice}
use Rattle.tv_tvs.specs.declared.error.TvsError.TheVariants.{NameUnknown, ArityWrong, BadSm}
use Rattle.tv_tvs.specs.declared.error.TvsError.TheVariants.{TooManyIndividuals, Memory}
use Rattle.tv_tvs.specs.declared.syntax.ItemText.{ItemText}
use Rattle.tv_tvs.specs.declared.syntax.ContentText.{ContentText}
use Rattle.tv_tvs.specs.declared.syntax.ContentText.TheVariants.{OneValue as OneText}
use Rattle.tv_tvs.specs.Tree.{ItemTree, EntryTree, StructTree}
use Rattle.tv_tree.specs.Steps.{◌>>=◌}
use Rattle.tv_tvs.specs.Meaning.{Subject, subject_arity, item_arity, fits, item_put, items_put, entry_put}
use Rattle.tv_tvs.specs.Meaning.{entries_put, struct_meant, structs_meant, RefusesStructures}
use Rattle.tv_tvs.specs.Meaning.{all_different, blank}
use Rattle.tv_tvs.specs.Targets.{subject_form, Has, HasPlace, KeepsFrame}
use Rattle.tv_tvs.specs.Views.{text_arity, item_tree, item_trees, content_tree}
use Rattle.tv_tvs.proofs.Twice.{drop_next}

-- ---- arities of items

some_same : {X Y : Type 0} (f : X → Y) (o : Option X) → is_some (option_map f o) ≡ is_some o
some_same f None = refl
some_same f (Some x) = refl

pub arity_same : (bytes : List ℕ) (item : ItemText) → item_arity (item_tree bytes item) ≡ text_arity item
arity_same bytes item = rw (some_same _ item.second) refl

pub each_fits : (bytes : List ℕ) (arity : ℕ) (items : List ItemText)
    → list_all (λ item. eqb (item_arity item) arity) (item_trees bytes items) ≡ list_all (λ item. eqb (text_arity item) arity) items
each_fits bytes arity [] = refl
each_fits bytes arity (item ∷ items) = λ i. eqb (arity_same bytes item i) arity && each_fits bytes arity items i

-- a value that fits has a place
pub value_place : (target : Target) (s : StructureForm) (content : ContentText) (k : K3) (b : Bool) (a : ℕ) → b ≡ true
    → ((bytes : List ℕ) → b ≡ fits a (content_tree bytes content)) → a ≡ subject_arity (subject_form target) → content ≡ OneText k
    → Has (subject_form target) s → HasPlace (subject_form target) s []
value_place Marks s content k b a yes_fits test arity is has =
    let fit : eqb a 0 ≡ true = ap (λ c. fits a (content_tree [] c)) (sym is) ∙ sym (test []) ∙ yes_fits
    in let zero_is : a ≡ 0 = eqb-true a 0 fit
    in absurd (omega (arith, zero_is, arity))
value_place (Values p n) s content k b a yes_fits test arity is has =
    let fit : eqb a 0 ≡ true = ap (λ c. fits a (content_tree [] c)) (sym is) ∙ sym (test []) ∙ yes_fits
    in let zero_is : n ≡ 0 = sym arity ∙ eqb-true a 0 fit
    in record { arity = has ∙ ap Some zero_is; individuals = tt }

each_arity : (arity : ℕ) (items : List ItemText) → list_all (λ item. eqb (text_arity item) arity) items ≡ true → (k : ℕ) (d : ItemText) → k < length items
    → text_arity (get_or items k d) ≡ arity
each_arity arity [] all k d lt = absurd (omega (arith, lt))
each_arity arity (item ∷ items) all zero d lt = eqb-true (text_arity item) arity (and_parts _ _ all).0
each_arity arity (item ∷ items) all (suc k) d lt = each_arity arity items (and_parts _ _ all).1 k d (omega (arith, lt))

-- each of items that fit has the arity
pub items_have : (bytes : List ℕ) (content : ContentText) (items : List ItemText) (b : Bool) (a arity : ℕ) → b ≡ true
    → ((bytes : List ℕ) → b ≡ fits a (content_tree bytes content)) → a ≡ arity
    → ((bytes : List ℕ) → fits a (content_tree bytes content) ≡ (not (eqb a 0) && list_all (λ item. eqb (item_arity item) a) (item_trees bytes items)))
    → (k : ℕ) (d : ItemText) → k < length items → item_arity (item_tree bytes (get_or items k d)) ≡ arity
items_have bytes content items b a arity yes_fits test same listed k d lt =
    let both : (not (eqb a 0) && list_all (λ item. eqb (item_arity item) a) (item_trees bytes items)) ≡ true = sym (listed bytes) ∙ sym (test bytes) ∙ yes_fits
    in let all : list_all (λ item. eqb (text_arity item) a) items ≡ true = sym (each_fits bytes a items) ∙ (and_parts _ _ both).1
    in arity_same bytes (get_or items k d) ∙ each_arity a items all k d lt ∙ same

-- the test of items is that of their trees
pub listed_fits : (content : ContentText) (items : List ItemText) (a : ℕ) (r : Bool) → (a ≡ 0 → ⊥)
    → r ≡ list_all (λ item. eqb (text_arity item) a) items
    → ((bytes : List ℕ) → fits a (content_tree bytes content) ≡ (not (eqb a 0) && list_all (λ item. eqb (item_arity item) a) (item_trees bytes items)))
    → (bytes : List ℕ) → r ≡ fits a (content_tree bytes content)
listed_fits content items a r some test listed bytes =
    test ∙ sym (listed bytes ∙ ap (λ b. not b && list_all (λ item. eqb (item_arity item) a) (item_trees bytes items)) (ne_eqb a 0 some) ∙ each_fits bytes a items)

-- ---- refusals are handed on

fails_bind : {A B : Type 0} (e : TvsError) (r : Result A TvsError) (g : A → Result B TvsError) → RefusesStructures e r → RefusesStructures e (r >>= g)
fails_bind (Syntax place) r g h = absurd h
fails_bind IndividualUnknown r g h = ap (λ q. q >>= g) h
fails_bind IndividualTwice r g h = ap (λ q. q >>= g) h
fails_bind NameUnknown r g h = ap (λ q. q >>= g) h
fails_bind ArityWrong r g h = ap (λ q. q >>= g) h
fails_bind BadSm r g h = ap (λ q. q >>= g) h
fails_bind TooManyIndividuals r g h = ap (λ q. q >>= g) h
fails_bind Memory r g h = tt

pub fails_along : {A : Type 0} (e : TvsError) (q r : Result A TvsError) → q ≡ r → RefusesStructures e r → RefusesStructures e q
fails_along e q r same h = subst (RefusesStructures e) (sym same) h

pub keeps_then : (r s t : StructureForm) → KeepsFrame r s → KeepsFrame s t → KeepsFrame r t
keeps_then r s t a b = record { size = b.size ∙ a.size; arities = b.arities ∙ a.arities; fresh = b.fresh ∙ a.fresh; structure = λ is. b.structure (a.structure is) }

-- ---- items and entries

module _ (individuals : List (List ℕ)) (subject : Subject) (f : ItemText → ItemTree) (items : List ItemText) (i : ℕ) (d : ItemText) (lt : i < length items) where
  items_at : (s : StructureForm) → items_put individuals subject s (map f (drop i items))
      ≡ (item_put individuals subject s (f (get_or items i d)) >>= λ t. items_put individuals subject t (map f (drop (i + 1) items)))
  items_at s = ap (λ xs. items_put individuals subject s (map f xs)) (drop_next items i d lt)

  pub items_more : (s t : StructureForm) → item_put individuals subject s (f (get_or items i d)) ≡ Ok t
      → items_put individuals subject s (map f (drop i items)) ≡ items_put individuals subject t (map f (drop (i + 1) items))
  items_more s t put = items_at s ∙ ap (λ r. r >>= λ t. items_put individuals subject t (map f (drop (i + 1) items))) put

  pub items_fail : (s : StructureForm) (e : TvsError) → RefusesStructures e (item_put individuals subject s (f (get_or items i d)))
      → RefusesStructures e (items_put individuals subject s (map f (drop i items)))
  items_fail s e h = fails_along e _ _ (items_at s) (fails_bind e _ (λ t. items_put individuals subject t (map f (drop (i + 1) items))) h)

module _ {X : Type 0} (preds : List Pred) (individuals : List (List ℕ)) (f : X → EntryTree) (entries : List X) (i : ℕ) (x : X) (lt : i < length entries) (at : x ≡ get_or entries i x) where
  entries_at : (s : StructureForm) → entries_put preds individuals s (map f (drop i entries))
      ≡ (entry_put preds individuals s (f x) >>= λ t. entries_put preds individuals t (map f (drop (i + 1) entries)))
  entries_at s =
      ap (λ xs. entries_put preds individuals s (map f xs)) (drop_next entries i x lt)
      ∙ ap (λ y. entry_put preds individuals s (f y) >>= λ t. entries_put preds individuals t (map f (drop (i + 1) entries))) (sym at)

  pub entries_more : (s t : StructureForm) → entry_put preds individuals s (f x) ≡ Ok t
      → entries_put preds individuals s (map f (drop i entries)) ≡ entries_put preds individuals t (map f (drop (i + 1) entries))
  entries_more s t put = entries_at s ∙ ap (λ r. r >>= λ t. entries_put preds individuals t (map f (drop (i + 1) entries))) put

  pub entries_fail : (s : StructureForm) (e : TvsError) → RefusesStructures e (entry_put preds individuals s (f x))
      → RefusesStructures e (entries_put preds individuals s (map f (drop i entries)))
  entries_fail s e h = fails_along e _ _ (entries_at s) (fails_bind e _ (λ t. entries_put preds individuals t (map f (drop (i + 1) entries))) h)

-- ---- structures

abbrev behind_all : List StructureForm → Result (List StructureForm) TvsError → Result (List StructureForm) TvsError
behind_all list r = r >>= λ ss. Ok (list ++ ss)

one_behind : (list : List StructureForm) (s : StructureForm) (r : Result (List StructureForm) TvsError)
    → behind_all list (r >>= λ ss. Ok (s ∷ ss)) ≡ behind_all (list ++ s ∷ []) r
one_behind list s (Ok ss) = ap Ok (sym (append_assoc list (s ∷ []) ss))
one_behind list s (Err e) = refl

module _ {X : Type 0} (preds : List Pred) (f : X → StructTree) (trees : List X) (i : ℕ) (x : X) (lt : i < length trees) (at : x ≡ get_or trees i x) where
  structs_at : structs_meant preds (map f (drop i trees)) ≡ (struct_meant preds (f x) >>= λ s. structs_meant preds (map f (drop (i + 1) trees)) >>= λ ss. Ok (s ∷ ss))
  structs_at =
      ap (λ xs. structs_meant preds (map f xs)) (drop_next trees i x lt)
      ∙ ap (λ y. struct_meant preds (f y) >>= λ s. structs_meant preds (map f (drop (i + 1) trees)) >>= λ ss. Ok (s ∷ ss)) (sym at)

  pub structs_more : (list : List StructureForm) (s : StructureForm) → struct_meant preds (f x) ≡ Ok s
      → behind_all list (structs_meant preds (map f (drop i trees))) ≡ behind_all (list ++ s ∷ []) (structs_meant preds (map f (drop (i + 1) trees)))
  structs_more list s meant =
      ap (behind_all list) (structs_at ∙ ap (λ r. r >>= λ s. structs_meant preds (map f (drop (i + 1) trees)) >>= λ ss. Ok (s ∷ ss)) meant)
      ∙ one_behind list s (structs_meant preds (map f (drop (i + 1) trees)))

  pub structs_fail : (list : List StructureForm) (e : TvsError) → RefusesStructures e (struct_meant preds (f x))
      → RefusesStructures e (behind_all list (structs_meant preds (map f (drop i trees))))
  structs_fail list e h =
      fails_bind e _ (λ ss. Ok (list ++ ss))
      (fails_along e _ _ structs_at (fails_bind e _ (λ s. structs_meant preds (map f (drop (i + 1) trees)) >>= λ ss. Ok (s ∷ ss)) h))

-- ---- structures

different-same : (names others : List (List ℕ)) → all_different names ≡ Ok others → others ≡ names
different-same names others = grind (arith)

not-over : (n : ℕ) → n ≤ 256 → nat_lt 256 n ≡ false
not-over n = grind (arith)

-- at most 256 individuals, all of them different: the entries decide
pub entries-decide : (preds : List Pred) (t : StructTree) (names : List (List ℕ)) (n : ℕ) → length t.individuals ≡ n → n ≤ 256
    → all_different t.individuals ≡ Ok names
    → struct_meant preds t ≡ entries_put preds names (structure_of_no n (map (λ pred. pred.arity) preds)) t.entries
entries-decide preds t names n size few different =
    ap (λ b. if b then Err TooManyIndividuals
    else (all_different t.individuals >>= λ others. entries_put preds others (blank preds others) t.entries))
    (not-over (length t.individuals) (omega (arith, size, few)))
    ∙ ap (λ found. found >>= λ others. entries_put preds others (blank preds others) t.entries) different
    ∙ ap (λ others. entries_put preds names (structure_of_no (length others) (map (λ pred. pred.arity) preds)) t.entries)
    (different-same t.individuals names different)
    ∙ ap (λ m. entries_put preds names (structure_of_no m (map (λ pred. pred.arity) preds)) t.entries) size
