-- A heap of a structure embeds in the structure over given copies, where they are those of its individuals.
use Rattle.std.proofs.Common.{ℕ, ◌≡◌, ◌≢◌, ◌<◌, ◌≤◌, ◌+◌, zero, suc, Bool, true, false, cond, eqb, List, []}
use Rattle.std.proofs.Common.{◌∷◌, ◌++◌, ◌⊎◌, inl, inr, ⊎_elim, length, get_or, map, refl, sym, ap, subst}
use Rattle.std.proofs.Common.{◌∙◌, All, Contains, IsTrue, eq-eqb, ne_eqb}
use Rattle.std.proofs.lemmas.Bool.{cases_Bool, cases_eq, cond-true, cond-false, false≢true, eqb-true}
use Rattle.std.proofs.lemmas.List.Elements.{All-head, All-tail, All-cons, All-nil, Contains-get_or}
use Rattle.tv_lemmas.proofs.Lists.{in_range}
use Rattle.tv_kleene.specs.declared.K3.{K3}
use Rattle.tv_kleene.specs.declared.K3.TheVariants.{No, Half, Yes}
use Rattle.tv_kleene.specs.Kleene.{LiesUnder}
use Rattle.tv_model.specs.Heap.{Heap}
use Rattle.tv_model.proofs.Lists.{map-compose}
use Rattle.tv_embedding_laws.specs.LogicalStructure.{LogicalStructure, heap_structure}
use Rattle.tv_embedding_laws.specs.Embedding.{Embeds}
use Rattle.tv_structure_form.proofs.Library.{below-range}
use Rattle.tv_focus_laws.specs.Choices.{AimForm, Alone, Before, Behind, aimed, MemberForm, nobody, member_at}
use Rattle.tv_focus_laws.specs.Choices.{with_anchor, focused_value, chosen_over}

-- the aim with the images of its anchors
abbrev pub above : (ℕ → ℕ) → AimForm → AimForm
above f Alone = Alone
above f (Before anchors) = Before (map f anchors)
above f (Behind anchors) = Behind (map f anchors)

-- ---- mapped lists

pub aimed-above : (f : ℕ → ℕ) (aim : AimForm) (u : ℕ) → aimed (above f aim) (f u) ≡ map (map f) (aimed aim u)
aimed-above f Alone u = refl
aimed-above f (Before anchors) u =
    map-compose f (λ a. f u ∷ a ∷ []) anchors ∙ sym (map-compose (λ a. u ∷ a ∷ []) (map f) anchors)
aimed-above f (Behind anchors) u =
    map-compose f (λ a. a ∷ f u ∷ []) anchors ∙ sym (map-compose (λ a. a ∷ u ∷ []) (map f) anchors)

-- ---- the vector of an individual of the heap, and its copy

abbrev pub vector_of : LogicalStructure → (pred : ℕ) → AimForm → ℕ → List K3
vector_of r pred aim u = map (r.value pred) (aimed aim u)

abbrev pub member_of : (ℕ → ℕ) → LogicalStructure → (pred : ℕ) → AimForm → ℕ → MemberForm
member_of f r pred aim u = record { origin = f u; vector = vector_of r pred aim u }

-- the anchors are alone in going to their images
abbrev pub AreAlone : (ℕ → ℕ) → LogicalStructure → AimForm → Type 0
AreAlone f r Alone = Unit {0}
AreAlone f r (Before anchors) = All (λ a. (w : ℕ) → Contains r.individuals w → f a ≡ f w → a ≡ w) anchors
AreAlone f r (Behind anchors) = All (λ a. (w : ℕ) → Contains r.individuals w → f a ≡ f w → a ≡ w) anchors

-- what the copies are, and the place of each
pub record Places (r : LogicalStructure) (copy : ℕ → MemberForm) (ms : List MemberForm) (place : ℕ → ℕ) : Type 0 where
  pub inside : (u : ℕ) → Contains r.individuals u → place u < length ms
  pub is : (u : ℕ) → Contains r.individuals u → member_at ms (place u) ≡ copy u
  pub onto : (i : ℕ) → i < length ms → (u : ℕ) × Contains r.individuals u × (place u ≡ i)

-- ---- values

with_anchor-under : (f : ℕ → ℕ) (x : ℕ → K3) (anchors : List ℕ) (w : ℕ) (k : K3) → LiesUnder (x w) k
    → All (λ a. f a ≡ f w → a ≡ w) anchors → LiesUnder (x w) (with_anchor (map f anchors) (map x anchors) (f w) k)
with_anchor-under f x [] w k under alone = under
with_anchor-under f x (a ∷ anchors) w k under alone =
    let At : K3 → Type 0 = λ y. LiesUnder (x w) y
    in let first : f a ≡ f w → a ≡ w = All-head (λ a. f a ≡ f w → a ≡ w) a anchors alone
    in ⊎_elim
    (λ e. subst At (sym (cond-true (eqb (f a) (f w)) (x a) (with_anchor (map f anchors) (map x anchors) (f w) k) e))
    (inl (ap x (sym (first (eqb-true (f a) (f w) e))))))
    (λ e. subst At (sym (cond-false (eqb (f a) (f w)) (x a) (with_anchor (map f anchors) (map x anchors) (f w) k) e))
    (with_anchor-under f x anchors w k under (All-tail (λ a. f a ≡ f w → a ≡ w) a anchors alone)))
    (cases_Bool (eqb (f a) (f w)))

-- the origins of the copies of a tuple are its images
origins : (f : ℕ → ℕ) (r : LogicalStructure) (pred : ℕ) (aim : AimForm) (ms : List MemberForm) (place : ℕ → ℕ)
    → Places r (member_of f r pred aim) ms place → (tuple : List ℕ) → All (Contains r.individuals) tuple
    → map (λ x. (member_at ms x).origin) (map place tuple) ≡ map f tuple
origins f r pred aim ms place places [] all = refl
origins f r pred aim ms place places (u ∷ tuple) all =
    let first : (member_at ms (place u)).origin ≡ f u
    = ap (λ (m : MemberForm). m.origin) (places.is u (All-head (Contains r.individuals) u tuple all))
    in let rest : map (λ x. (member_at ms x).origin) (map place tuple) ≡ map f tuple
    = origins f r pred aim ms place places tuple (All-tail (Contains r.individuals) u tuple all)
    in cc

-- at a tuple that isn't aimed at
other : (f : ℕ → ℕ) (r s : LogicalStructure) → Embeds f r s → (pred : ℕ) (aim : AimForm) (ms : List MemberForm) (place : ℕ → ℕ)
    → Places r (member_of f r pred aim) ms place → (q : ℕ) (tuple : List ℕ) → All (Contains r.individuals) tuple
    → LiesUnder (r.value q tuple) (s.value q (map (λ x. (member_at ms x).origin) (map place tuple)))
other f r s e pred aim ms place places q tuple all =
    let At : List ℕ → Type 0 = λ us. LiesUnder (r.value q tuple) (s.value q us)
    in subst At (sym (origins f r pred aim ms place places tuple all)) (e.values q tt tuple all)

focused-under : (f : ℕ → ℕ) (r s : LogicalStructure) → Embeds f r s → (pred : ℕ) (aim : AimForm) → AreAlone f r aim
    → (ms : List MemberForm) (place : ℕ → ℕ)
    → Places r (member_of f r pred aim) ms place → (tuple : List ℕ) → All (Contains r.individuals) tuple
    → LiesUnder (r.value pred tuple) (focused_value s pred (above f aim) ms (map place tuple))
focused-under f r s e pred Alone alone ms place places [] all = e.values pred tt [] all
focused-under f r s e pred Alone alone ms place places (u ∷ []) all =
    inl (sym (ap (λ (m : MemberForm). get_or m.vector 0 No) (places.is u (All-head (Contains r.individuals) u [] all))))
focused-under f r s e pred Alone alone ms place places (u ∷ w ∷ more) all =
    other f r s e pred Alone ms place places pred (u ∷ w ∷ more) all
focused-under f r s e pred (Before anchors) alone ms place places [] all = e.values pred tt [] all
focused-under f r s e pred (Before anchors) alone ms place places (u ∷ []) all =
    other f r s e pred (Before anchors) ms place places pred (u ∷ []) all
focused-under f r s e pred (Before anchors) alone ms place places (u ∷ w ∷ []) all =
    let rest : All (Contains r.individuals) (w ∷ []) = All-tail (Contains r.individuals) u (w ∷ []) all
    in let hw : Contains r.individuals w = All-head (Contains r.individuals) w [] rest
    in let first : member_at ms (place u) ≡ member_of f r pred (Before anchors) u
    = places.is u (All-head (Contains r.individuals) u (w ∷ []) all)
    in let second : member_at ms (place w) ≡ member_of f r pred (Before anchors) w = places.is w hw
    in let AtOne : List K3 → Type 0 = λ v. LiesUnder (r.value pred (u ∷ w ∷ []))
    (with_anchor (map f anchors) v (f w) (s.value pred (f u ∷ f w ∷ [])))
    in let AtFirst : MemberForm → Type 0 = λ m. LiesUnder (r.value pred (u ∷ w ∷ []))
    (with_anchor (map f anchors) m.vector (f w) (s.value pred (m.origin ∷ f w ∷ [])))
    in let AtSecond : MemberForm → Type 0 = λ m. LiesUnder (r.value pred (u ∷ w ∷ []))
    (with_anchor (map f anchors) (member_at ms (place u)).vector m.origin (s.value pred ((member_at ms (place u)).origin ∷ m.origin ∷ [])))
    in subst AtSecond (sym second) (subst AtFirst (sym first)
    (subst AtOne (sym (map-compose (λ a. u ∷ a ∷ []) (r.value pred) anchors))
    (with_anchor-under f (λ a. r.value pred (u ∷ a ∷ [])) anchors w (s.value pred (f u ∷ f w ∷ []))
    (e.values pred tt (u ∷ w ∷ []) all) (λ k d lt. alone k d lt w hw))))
focused-under f r s e pred (Before anchors) alone ms place places (u ∷ w ∷ x ∷ more) all =
    other f r s e pred (Before anchors) ms place places pred (u ∷ w ∷ x ∷ more) all
focused-under f r s e pred (Behind anchors) alone ms place places [] all = e.values pred tt [] all
focused-under f r s e pred (Behind anchors) alone ms place places (u ∷ []) all =
    other f r s e pred (Behind anchors) ms place places pred (u ∷ []) all
focused-under f r s e pred (Behind anchors) alone ms place places (u ∷ w ∷ []) all =
    let rest : All (Contains r.individuals) (w ∷ []) = All-tail (Contains r.individuals) u (w ∷ []) all
    in let hu : Contains r.individuals u = All-head (Contains r.individuals) u (w ∷ []) all
    in let first : member_at ms (place u) ≡ member_of f r pred (Behind anchors) u = places.is u hu
    in let second : member_at ms (place w) ≡ member_of f r pred (Behind anchors) w
    = places.is w (All-head (Contains r.individuals) w [] rest)
    in let AtOne : List K3 → Type 0 = λ v. LiesUnder (r.value pred (u ∷ w ∷ []))
    (with_anchor (map f anchors) v (f u) (s.value pred (f u ∷ f w ∷ [])))
    in let AtSecond : MemberForm → Type 0 = λ m. LiesUnder (r.value pred (u ∷ w ∷ []))
    (with_anchor (map f anchors) m.vector (f u) (s.value pred (f u ∷ m.origin ∷ [])))
    in let AtFirst : MemberForm → Type 0 = λ m. LiesUnder (r.value pred (u ∷ w ∷ []))
    (with_anchor (map f anchors) (member_at ms (place w)).vector m.origin (s.value pred (m.origin ∷ (member_at ms (place w)).origin ∷ [])))
    in subst AtFirst (sym first) (subst AtSecond (sym second)
    (subst AtOne (sym (map-compose (λ a. a ∷ w ∷ []) (r.value pred) anchors))
    (with_anchor-under f (λ a. r.value pred (a ∷ w ∷ [])) anchors u (s.value pred (f u ∷ f w ∷ []))
    (e.values pred tt (u ∷ w ∷ []) all) (λ k d lt. alone k d lt u hu))))
focused-under f r s e pred (Behind anchors) alone ms place places (u ∷ w ∷ x ∷ more) all =
    other f r s e pred (Behind anchors) ms place places pred (u ∷ w ∷ x ∷ more) all

-- ---- the embedding

pub chosen-embeds : (f : ℕ → ℕ) (h : Heap) (s : LogicalStructure) → Embeds f (heap_structure h) s
    → (pred : ℕ) (aim : AimForm) → AreAlone f (heap_structure h) aim → (ms : List MemberForm) (place : ℕ → ℕ)
    → Places (heap_structure h) (member_of f (heap_structure h) pred aim) ms place
    → Embeds place (heap_structure h) (chosen_over s pred (above f aim) ms)
chosen-embeds f h s e pred aim alone ms place places = record {
  into = λ u at. in_range (length ms) (place u) (places.inside u at);
  onto = λ i at. places.onto i (below-range (length ms) i at);
  values = λ q any tuple all. at-each q tuple all;
  summaries = λ u at summary. absurd (false≢true summary);
  several = λ u w hu hw ne same. together u w hu hw ne same;
}
  where
    r : LogicalStructure
    r = heap_structure h

    at-each : (q : ℕ) (tuple : List ℕ) → All (Contains r.individuals) tuple
        → LiesUnder (r.value q tuple) ((chosen_over s pred (above f aim) ms).value q (map place tuple))
    at-each q tuple all =
        let At : K3 → Type 0 = λ y. LiesUnder (r.value q tuple) y
        in let there : K3 = s.value q (map (λ x. (member_at ms x).origin) (map place tuple))
        in let here : K3 = focused_value s pred (above f aim) ms (map place tuple)
        in let For : ℕ → Type 0 = λ p. LiesUnder (r.value p tuple) here
        in ⊎_elim
        (λ same. subst At (sym (cond-true (eqb q pred) here there (eq-eqb q pred same)))
        (subst For (sym same) (focused-under f r s e pred aim alone ms place places tuple all)))
        (λ ne. subst At (sym (cond-false (eqb q pred) here there (ne_eqb q pred ne)))
        (other f r s e pred aim ms place places q tuple all))
        (cases_eq q pred)

    together : (u w : ℕ) → Contains r.individuals u → Contains r.individuals w → u ≢ w → place u ≡ place w
        → IsTrue (s.is_summary (member_at ms (place u)).origin)
    together u w hu hw ne same =
        let Summary : MemberForm → Type 0 = λ m. IsTrue (s.is_summary m.origin)
        in let origins_same : f u ≡ f w
        = ap (λ (m : MemberForm). m.origin) (sym (places.is u hu) ∙ ap (member_at ms) same ∙ places.is w hw)
        in subst Summary (sym (places.is u hu)) (e.several u w hu hw ne origins_same)
