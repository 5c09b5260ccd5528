-- Each part of an abstract step is determined by what it begins with.
use Rattle.std.proofs.Common.{ℕ, ◌≡◌, ◌∙◌, ◌↔◌, List, [], ◌∷◌, length, map, Some}
use Rattle.std.proofs.Common.{slice_get, inl, inr, ⊎_elim, Less, Greater, refl, sym, ap, subst, arith, All}
use Rattle.std.proofs.Common.{Contains}
use Rattle.std.specs.declared.cmp.Ordering.{Ordering}
use Rattle.std.specs.Cmp.{IsTotalOrder}
use Rattle.std.specs.Ordering.{ordering_reverse}
use Rattle.std.specs.List.{AllZip, range_with_len}
use Rattle.std.specs.List.Sorted.{IsStrictlySortedBy}
use Rattle.std.proofs.lemmas.Map.Keys.{sorted_head, sorted_tail}
use Rattle.std.proofs.lemmas.List.FromFn.{length-range_with_len}
use Rattle.std.proofs.lemmas.List.Elements.{All-contains, All-from_recursion, All-head, All-tail}
use Rattle.tv_lemmas.proofs.Bools.{same_tests}
use Rattle.tv_lemmas.proofs.Zips.{same_partners}
use Rattle.tv_kleene.specs.declared.K3.{K3}
use Rattle.tv_kleene.proofs.Lattice.{LiesUnder-antisym}
use Rattle.tv_model.specs.declared.program.Mode.{Mode}
use Rattle.tv_model.specs.Program.{ProgramForm, ActionForm}
use Rattle.tv_model.specs.Valid.{IsValid}
use Rattle.tv_model.proofs.Lists.{Contains-here, Contains-there, Contains-none, Contains-cases}
use Rattle.tv_model.proofs.Lists.{slice_get-contains}
use Rattle.tv_embedding_laws.specs.LogicalStructure.{LogicalStructure}
use Rattle.tv_embedding_laws.specs.Embedding.{IsBelow, IsBelowByValues}
use Rattle.tv_embedding_laws.proofs.EmbeddingLaws.{IsBelow-values}
use Rattle.tv_struct.specs.Order.{structure_cmp, structure_cmp_total}
use Rattle.tv_structure_form.specs.TableForm.{AreIndividuals}
use Rattle.tv_structure_form.specs.StructureForm.{StructureForm, structure_of, arities_of, value_at}
use Rattle.tv_structure_form.specs.StructureForm.{summary_at}
use Rattle.tv_structure_form.proofs.Library.{Contains-range, All-individuals}
use Rattle.tv_structure_form.proofs.StructureLaws.{IsFull, same_full}
use Rattle.tv_update_laws.specs.Picks.{picks_of, passing_picks}
use Rattle.tv_update_laws.specs.Tables.{SaysSame}
use Rattle.tv_update_laws.proofs.OneTables.{given_tables_are_one}
use Rattle.tv_blur.proofs.BlurLaws.{AreSame, same_blurs}
use Rattle.tv_step_laws.specs.Parts.{AreFrom}
use Rattle.tv_step_laws.specs.Shaped.{IsShaped, telling_preds}
use Rattle.tv_step_laws.specs.Transfer.{IsCoerced, Coerces, FocusPlace, focus_places, choices_at, IsTableOf}
use Rattle.tv_step_laws.specs.Transfer.{Focuses, AreFocused, AreAtHand, message_value, GivesStructures}
use Rattle.tv_step_laws.specs.Transfer.{IsBlurOf, Finishes, Steps, AreResults, IsResult, AreMessageValues}
use Rattle.tv_step_laws.specs.Transfer.{IsMessageValue, IsOpening}
use Rattle.tv_step_laws.proofs.From.{from-once, zip-once}
use Rattle.tv_step_laws.proofs.Heaps.{action-once}
use Rattle.tv_step_laws.proofs.Picked.{picked-inside, passing-are}

-- ---- sorted lists

-- the first element of a strictly sorted list stands before all others
record IsFirst {X : Type 0} (cmp : X → X → Ordering) (x : X) (xs : List X) : Type 0 where
  before : (y : X) → Contains xs y → cmp x y ≡ Less
  later : IsStrictlySortedBy cmp xs

sorted-first : {X : Type 0} (cmp : X → X → Ordering) (x : X) (xs : List X) → IsStrictlySortedBy cmp (x ∷ xs)
    → IsFirst cmp x xs
sorted-first cmp x xs sorted = record {
  before = λ y at. All-contains (λ z. cmp x z ≡ Less) xs y
      (All-from_recursion (λ z. cmp x z ≡ Less) xs (sorted_head cmp x xs sorted)) at;
  later = sorted_tail cmp x xs sorted;
}

not-both : {X : Type 0} (cmp : X → X → Ordering) → IsTotalOrder cmp → (x y : X) → cmp x y ≡ Less
    → cmp y x ≡ Less → ⊥
not-both cmp total x y below above =
    let clash : Less ≡ Greater = sym below ∙ total.antisymm x y ∙ ap ordering_reverse above in cc

-- an element of both lists that isn't first in the one isn't first in the other
stays-later : {X : Type 0} (cmp : X → X → Ordering) → IsTotalOrder cmp → (x y : X) (xs ys : List X)
    → IsFirst cmp x xs
    → y ≡ x → (z : X) → Contains xs z → Contains (y ∷ ys) z → Contains ys z
stays-later {X} cmp total x y xs ys first e z at both =
    ⊎_elim
    (λ here. let same : x ≡ z = sym e ∙ here
    in let Below : X → Type 0 = λ u. cmp x u ≡ Less
    in let own : cmp x x ≡ Less = subst Below (sym same) (first.before z at)
    in absurd (not-both cmp total x x own own))
    (λ there. there)
    (Contains-cases y z ys both)

-- strictly sorted lists of the same elements are the same
pub sorted-same : {X : Type 0} (cmp : X → X → Ordering) → IsTotalOrder cmp → (xs ys : List X)
    → IsStrictlySortedBy cmp xs
    → IsStrictlySortedBy cmp ys → ((x : X) → Contains xs x → Contains ys x)
    → ((x : X) → Contains ys x → Contains xs x) → xs ≡ ys
sorted-same cmp total [] [] a b to from = refl
sorted-same cmp total [] (y ∷ ys) a b to from = absurd (Contains-none y (from y (Contains-here y ys)))
sorted-same cmp total (x ∷ xs) [] a b to from = absurd (Contains-none x (to x (Contains-here x xs)))
sorted-same {X} cmp total (x ∷ xs) (y ∷ ys) a b to from =
    let one : IsFirst cmp x xs = sorted-first cmp x xs a
    in let other : IsFirst cmp y ys = sorted-first cmp y ys b
    in let first : x ≡ y
    = ⊎_elim sym
    (λ in_ys. ⊎_elim (λ e. e)
    (λ in_xs. absurd (not-both cmp total x y (one.before y in_xs) (other.before x in_ys)))
    (Contains-cases x y xs (from y (Contains-here y ys))))
    (Contains-cases y x ys (to x (Contains-here x xs)))
    in let rest : xs ≡ ys
    = sorted-same cmp total xs ys one.later other.later
    (λ z at. stays-later cmp total x y xs ys one (sym first) z at (to z (Contains-there x z xs at)))
    (λ z at. stays-later cmp total y x ys xs other first z at (from z (Contains-there y z ys at)))
    in ap (λ (w : X). w ∷ xs) first ∙ ap (λ (ws : List X). y ∷ ws) rest

-- ---- tables

full : (p : ProgramForm) (s : StructureForm) → IsShaped p s → IsFull s
full p s shaped = record { planes = shaped.planes; summaries = shaped.summaries }

same-size : (m n : ℕ) → range_with_len 0 m ≡ range_with_len 0 n → m ≡ n
same-size m n e = sym (length-range_with_len 0 m) ∙ ap length e ∙ length-range_with_len 0 n

-- structures that lie below each other are the same
below-same : (p : ProgramForm) (t u : StructureForm) → IsShaped p t → IsShaped p u → t.fresh ≡ u.fresh
    → IsBelow (structure_of t) (structure_of u) → IsBelow (structure_of u) (structure_of t) → t ≡ u
below-same p t u is_t is_u fresh below above =
    let low : IsBelowByValues (structure_of t) (structure_of u) =
    (IsBelow-values (structure_of t) (structure_of u)).0 below
    in let high : IsBelowByValues (structure_of u) (structure_of t) =
    (IsBelow-values (structure_of u) (structure_of t)).0 above
    in let size : t.size ≡ u.size = same-size t.size u.size low.individuals
    in same_full t u (full p t is_t) (full p u is_u) size (is_t.over ∙ sym is_u.over)
    (λ pred tuple has.
    let inside : All
    (Contains (structure_of t).individuals) tuple = All-individuals t.size tuple has.individuals
    in let Inside : List ℕ → Type 0 = λ us. All (Contains us) tuple
    in LiesUnder-antisym (value_at t pred tuple) (value_at u pred tuple) (low.values pred tuple inside)
    (high.values pred tuple (subst Inside low.individuals inside)))
    (λ w lt. same_tests (summary_at t w) (summary_at u w)
    (low.summaries w (Contains-range t.size w lt))
    (high.summaries w (Contains-range u.size w (omega (arith, size, lt)))))
    fresh

pub coerced-once : (p : ProgramForm) (s t u : StructureForm) → IsCoerced p s t → IsCoerced p s u → t ≡ u
coerced-once p s t u a b =
    below-same p t u a.shaped b.shaped (a.mark ∙ sym b.mark)
    (b.greatest.greatest (structure_of t) a.greatest.below a.greatest.stable)
    (a.greatest.greatest (structure_of u) b.greatest.below b.greatest.stable)

pub coerces-once : (p : ProgramForm) (s : StructureForm) (ts us : List StructureForm) → Coerces p s ts
    → Coerces p s us → ts ≡ us
coerces-once p s ts us (inl (none, is)) (inl (also, same)) = is ∙ sym same
coerces-once p s ts us (inl (none, is)) (inr (u, coerced, same)) =
    absurd (none (structure_of u) coerced.greatest.below coerced.greatest.stable)
coerces-once p s ts us (inr (t, coerced, is)) (inl (none, same)) =
    absurd (none (structure_of t) coerced.greatest.below coerced.greatest.stable)
coerces-once p s ts us (inr (t, coerced, is)) (inr (u, also, same)) =
    is ∙ ap (λ (x : StructureForm). x ∷ []) (coerced-once p s t u coerced also) ∙ sym same

-- ---- focus

table-once : (p : ProgramForm) (t u : StructureForm) (l : LogicalStructure) → IsTableOf p t l
    → IsTableOf p u l → t ≡ u
table-once p t u l (is_t, a) (is_u, b) =
    let size : t.size ≡ u.size = same-size t.size u.size (a.individuals ∙ sym b.individuals)
    in let over : arities_of t ≡ arities_of u = is_t.over ∙ sym is_u.over
    in same_full t u (full p t is_t) (full p u is_u) size over
    (λ pred tuple has. a.values pred tuple has ∙ sym (b.values pred tuple (record {
      arity = ap (λ xs. slice_get xs pred) (sym over) ∙ has.arity;
      individuals = subst (λ n. AreIndividuals n tuple) size has.individuals;
    })))
    (λ w lt. a.summaries w lt ∙ sym (b.summaries w (omega (arith, size, lt))))
    (a.fresh ∙ sym b.fresh)

focuses-once : (p : ProgramForm) (place : FocusPlace) (s : StructureForm) (ts us : List StructureForm)
    → Focuses p place s ts → Focuses p place s us → ts ≡ us
focuses-once p place s ts us (xs, zip, are) (ys, also, too) =
    let same : ys ≡ xs = zip-once (IsTableOf p) (table-once p) ys xs (choices_at s place) also zip
    in from-once (Coerces p) xs (λ x at. coerces-once p x) ts us are
    (subst (λ zs. AreFrom (Coerces p) zs us) same too)

focused-once : (p : ProgramForm) (places : List FocusPlace) (ss ts us : List StructureForm)
    → AreFocused p places ss ts → AreFocused p places ss us → ts ≡ us
focused-once p [] ss ts us a b = a ∙ sym b
focused-once p (place ∷ places) ss ts us (xs, are, later) (ys, too, after) =
    let same : ys ≡ xs = from-once (Focuses p place) ss (λ x at. focuses-once p place x) ys xs too are
    in focused-once p places xs ts us later (subst (λ zs. AreFocused p places zs us) same after)

pub at_hand-once : (p : ProgramForm) (places : List FocusPlace) (s : StructureForm)
    (ts us : List StructureForm)
    → AreAtHand p places s ts → AreAtHand p places s us → ts ≡ us
at_hand-once p places s ts us (cs, coerces, are) (ds, also, too) =
    let same : ds ≡ cs = coerces-once p s ds cs also coerces
    in focused-once p places cs ts us are (subst (λ zs. AreFocused p places zs us) same too)

-- ---- blur

pub blur-once : (p : ProgramForm) (s t u : StructureForm) → IsBlurOf p s t → IsBlurOf p s u → t ≡ u
blur-once p s t u (is_t, a) (is_u, b) =
    let same : AreSame t u = same_blurs (telling_preds p) s t u a b
    in same_full t u (full p t is_t) (full p u is_u) same.size same.over same.values same.summaries same.fresh

pub opening-once : (p : ProgramForm) (s t u : StructureForm) → IsOpening p s t → IsOpening p s u → t ≡ u
opening-once p s t u (c, coerced, blur) (d, also, too) =
    let same : d ≡ c = coerced-once p s d c also coerced
    in blur-once p c t u blur (subst (λ x. IsBlurOf p x u) same too)

finishes-once : (p : ProgramForm) (s : StructureForm) (ts us : List StructureForm) → Finishes p s ts
    → Finishes p s us → ts ≡ us
finishes-once p s ts us (cs, coerces, zip) (ds, also, too) =
    let same : ds ≡ cs = coerces-once p s ds cs also coerces
    in same_partners (IsBlurOf p) (blur-once p) cs ts us zip (subst (λ zs. AllZip (IsBlurOf p) zs us) same too)

-- ---- the step

same-tables : (p : ProgramForm) (t u : StructureForm) → IsShaped p t → IsShaped p u → SaysSame t u → t ≡ u
same-tables p t u is_t is_u same =
    same_full t u (full p t is_t) (full p u is_u) same.size (is_t.over ∙ sym is_u.over)
    (λ pred tuple has. same.values pred tuple has.individuals) same.summaries same.fresh

same-lists : (p : ProgramForm) (ts us : List StructureForm) → All (IsShaped p) ts → All (IsShaped p) us
    → AllZip SaysSame ts us → ts ≡ us
same-lists p [] [] a b zip = refl
same-lists p [] (u ∷ us) a b zip = absurd zip
same-lists p (t ∷ ts) [] a b zip = absurd zip
same-lists p (t ∷ ts) (u ∷ us) a b zip =
    let first : t ≡ u = same-tables p t u (All-head (IsShaped p) t ts a) (All-head (IsShaped p) u us b) zip.0
    in let rest : ts ≡ us = same-lists p ts us (All-tail (IsShaped p) t ts a)
    (All-tail (IsShaped p) u us b) zip.1
    in ap (λ (x : StructureForm). x ∷ ts) first ∙ ap (λ (xs : List StructureForm). u ∷ xs) rest

gives-once : (p : ProgramForm) → IsValid p → (mode : Mode) (action : ActionForm) → Contains p.actions action
    → (s : StructureForm) (picked : List ℕ) → Contains (passing_picks action (structure_of s)) picked
    → (ts us : List StructureForm) → GivesStructures p mode action s picked ts → GivesStructures p mode action s picked us
    → ts ≡ us
gives-once p valid mode action has s picked passes ts us a b =
    same-lists p ts us a.1 b.1
    (given_tables_are_one p valid mode action has (structure_of s) (picks_of action picked)
    (picked-inside action (structure_of s) picked (passing-are action (structure_of s) picked passes)) ts us
    a.0 b.0)

steps-once : (p : ProgramForm) → IsValid p → (mode : Mode) (action : ActionForm) → Contains p.actions action
    → (s : StructureForm) (ts us : List StructureForm) → Steps p mode action s ts → Steps p mode action s us
    → ts ≡ us
steps-once p valid mode action has s ts us (xs, are, ends) (ys, too, also) =
    let same : ys ≡ xs
    = from-once (GivesStructures p mode action s) (passing_picks action (structure_of s))
    (λ picked at. gives-once p valid mode action has s picked at) ys xs too are
    in from-once (Finishes p) xs (λ u at. finishes-once p u) ts us ends
    (subst (λ zs. AreFrom (Finishes p) zs us) same also)

pub results-once : (p : ProgramForm) → IsValid p → (mode : Mode) (edge : ℕ) (s : StructureForm)
    (ts us : List StructureForm) → AreResults p mode edge s ts → AreResults p mode edge s us → ts ≡ us
results-once p valid mode edge s ts us a b =
    sorted-same structure_cmp structure_cmp_total ts us a.sorted b.sorted
    (λ t at. (b.same t).1 (subst (λ zs. Contains zs t) given ((a.same t).0 at)))
    (λ t at. (a.same t).1 (subst (λ zs. Contains zs t) (sym given) ((b.same t).0 at)))
  where
    action : b.action ≡ a.action
    action = action-once p edge b.action a.action b.its_action a.its_action

    at_hand : b.at_hand ≡ a.at_hand
    at_hand = at_hand-once p (focus_places a.action.focus) s b.at_hand a.at_hand
        (subst (λ x. AreAtHand p (focus_places x.focus) s b.at_hand) action b.are_at_hand) a.are_at_hand

    has : Contains p.actions a.action
    has = slice_get-contains p.actions a.its_action.taken.action a.action a.its_action.its_action

    given : a.given ≡ b.given
    given = from-once (Steps p mode a.action) a.at_hand
        (λ t at. steps-once p valid mode a.action has t) a.given b.given
        a.are_given
        (subst (λ x. AreFrom (Steps p mode x) a.at_hand b.given) action
        (subst (λ zs. AreFrom (Steps p mode b.action) zs b.given) at_hand b.are_given))

pub values-once : (p : ProgramForm) (edge : ℕ) (s : StructureForm) (ks ls : List K3)
    → AreMessageValues p edge s ks → AreMessageValues p edge s ls → ks ≡ ls
values-once p edge s ks ls a b =
    a.are ∙ ap (λ ts. map (message_value ts) a.action.messages) (sym at_hand)
    ∙ ap (λ x. map (message_value b.at_hand) x.messages) (sym action) ∙ sym b.are
  where
    action : b.action ≡ a.action
    action = action-once p edge b.action a.action b.its_action a.its_action

    at_hand : b.at_hand ≡ a.at_hand
    at_hand = at_hand-once p (focus_places a.action.focus) s b.at_hand a.at_hand
        (subst (λ x. AreAtHand p (focus_places x.focus) s b.at_hand) action b.are_at_hand) a.are_at_hand

-- ---- one by one

pub results-exact : (p : ProgramForm) → IsValid p → (mode : Mode) (edge : ℕ) (s : StructureForm)
    (ts : List StructureForm) → AreResults p mode edge s ts → (t : StructureForm)
    → Contains ts t ↔ IsResult p mode edge s t
results-exact p valid mode edge s ts are t = (
  λ at. (ts, are, at),
  λ (us, too, at). subst (λ zs. Contains zs t) (results-once p valid mode edge s us ts too are) at,
)

pub values-exact : (p : ProgramForm) (edge : ℕ) (s : StructureForm) (ks : List K3)
    → AreMessageValues p edge s ks
    → (number : ℕ) (k : K3) → (slice_get ks number ≡ Some k) ↔ IsMessageValue p edge s number k
values-exact p edge s ks are number k = (
  λ at. (ks, are, at),
  λ (ls, too, at). ap (λ zs. slice_get zs number) (values-once p edge s ks ls are too) ∙ at,
)
