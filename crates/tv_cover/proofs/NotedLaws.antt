-- Noted places.
use Rattle.std.proofs.Common.{ℕ, ◌≡◌, ◌<◌, ◌≤◌, ◌+◌, ◌⊎◌, ◌==◌, inl, inr, Bool, true, false, List, [], ◌∷◌}
use Rattle.std.proofs.Common.{◌++◌, length, get_or, refl, sym, ap, subst, ◌∙◌, arith}
use Rattle.std.proofs.Common.{eq-eqb, unwrap_or}
use Rattle.std.specs.Prelude.{All, Contains, Some, slice_get}
use Rattle.std.specs.Prelude.{if◌then◌else◌}
use Rattle.std.specs.BTreeMap.{get}
use Rattle.std.specs.Ordering.{nat_cmp}
use Rattle.std.proofs.lemmas.Bool.{cases_lt}
use Rattle.std.proofs.lemmas.List.{get_or_default}
use Rattle.std.proofs.lemmas.List.{get_or-map, length-map}
use Rattle.std.proofs.lemmas.List.Elements.{Contains-push, Contains-append_left}
use Rattle.std.proofs.lemmas.Option.{slice_get_within, get_or_from_slice_get, slice_get-get_or}
use Rattle.tv_kleene.specs.declared.K3.{K3}
use Rattle.tv_embedding_laws.specs.Embedding.{IsEmbedded}
use Rattle.tv_structure_form.specs.StructureForm.{StructureForm, arities_of, structure_of}
use Rattle.tv_cover.specs.Glance.{GlanceForm, glance_of, AreKnown, AreSummaries, AreWithin, glance_number}
use Rattle.tv_cover.specs.Noted.{Finds, IsNoted, Notes, noted_for}
use Rattle.tv_cover.specs.Indexed.{AreIndexed, AreIndexedTo, glances_of}
use Rattle.tv_cover.specs.declared.noted.Noted.{Noted}
use Rattle.tv_cover.specs.declared.noted.Noting.{Noting}
use Rattle.tv_cover.proofs.GlanceLaws.{glance-same, known-below, summaries-within}

-- ---- one more place

noted-kept : (b : Bool) (notings : List Noting) (noting at : Noting) → Contains notings at
    → Contains (if b then notings ++ noting ∷ [] else notings) at
noted-kept true notings noting at has = Contains-append_left notings (noting ∷ []) at has
noted-kept false notings noting at has = has

pub notes : (old new : Noted) (glance : GlanceForm) (known : List K3) (number : ℕ) (noting : Noting)
    → ((other : List K3) → Contains old.known.items other → Contains new.known.items other)
    → Contains new.known.items known → AreKnown glance known → number ≡ glance_number known glance
    → AreSummaries known glance.unary noting.summaries
    → ((g : ℕ) → unwrap_or (get nat_cmp new.places g) []
    ≡ (if g == number then unwrap_or (get nat_cmp old.places g) [] ++ noting ∷ [] else unwrap_or (get nat_cmp old.places g) []))
    → Notes old new glance noting.place
notes old new glance known number noting rows added are is summaries all = record {
  kept = λ other at h. record {
    known = h.known;
    row = rows h.known h.row;
    are_known = h.are_known;
    noting = h.noting;
    summaries = h.summaries;
    place_is = h.place_is;
    there =
        let g : ℕ = glance_number h.known other
        in let P : List Noting → Type 0 = λ xs. Contains xs h.noting
        in subst P (sym (all g)) (noted-kept (g == number) (noted_for old g) noting h.noting h.there);
  };
  noted = record {
    known = known;
    row = added;
    are_known = are;
    noting = noting;
    summaries = summaries;
    place_is = refl;
    there =
        let P : List Noting → Type 0 = λ xs. Contains xs noting
        in let Q : ℕ → Type 0 = λ n. Contains (noted_for new n) noting
        in let here : noted_for new number ≡ noted_for old number ++ noting ∷ []
        = all number ∙ ap (λ (b : Bool). if b then noted_for old number ++ noting ∷ [] else noted_for old number)
        (eq-eqb number number refl)
        in subst Q is (subst P (sym here) (Contains-push (noted_for old number) noting));
  };
}

-- ---- all places

pub indexed-more : (old new : Noted) (glances : List GlanceForm) (n : ℕ) (glance : GlanceForm)
    → slice_get glances n ≡ Some glance → Notes old new glance n → AreIndexedTo old glances n → AreIndexedTo new glances (n + 1)
indexed-more old new glances n glance is step before place other lt listed = at (cases_lt place n)
  where
    at : (place < n) ⊎ (n ≤ place) → IsNoted new other place
    at (inl below) = step.kept other place (before place other below listed)
    at (inr from) =
        let here : n ≡ place = omega arith
        in let same : glance ≡ other
        = sym (get_or_from_slice_get glances n glance glance is) ∙ ap (λ i. get_or glances i glance) here
        ∙ get_or_from_slice_get glances place other glance listed
        in let P : GlanceForm → Type 0 = λ x. IsNoted new x place
        in let Q : ℕ → Type 0 = λ i. IsNoted new glance i
        in subst P same (subst Q here step.noted)

pub indexed-all : (noted : Noted) (glances : List GlanceForm) (n : ℕ) → length glances ≤ n
    → AreIndexedTo noted glances n → AreIndexed noted glances
indexed-all noted glances n all before place glance listed =
    let within : place < length glances = slice_get_within glances place glance listed
    in before place glance (omega (arith, all, within)) listed

-- ---- finding

pub glance-at : (structures : List StructureForm) (place : ℕ) (t : StructureForm) → slice_get structures place ≡ Some t
    → slice_get (glances_of structures) place ≡ Some (glance_of t)
glance-at structures place t listed =
    let within : place < length structures = slice_get_within structures place t listed
    in slice_get-get_or (glances_of structures) place (glance_of t) (rw (length-map structures glance_of) within)
    ∙ ap Some
    (get_or-map glance_of structures place t (glance_of t) within
    ∙ ap glance_of (get_or_from_slice_get structures place t t listed))

pub found-place : (noted : Noted) (structures : List StructureForm) (s : StructureForm) (found : List ℕ)
    → AreIndexed noted (glances_of structures)
    → ((known : List K3) → Contains noted.known.items known → AreKnown (glance_of s) known
    → Finds noted (glance_of s) known found)
    → (place : ℕ) (t : StructureForm) → slice_get structures place ≡ Some t → arities_of s ≡ arities_of t
    → IsEmbedded (structure_of s) (structure_of t) → Contains found place
found-place noted structures s found indexed each place t listed same embedded =
    let is : IsNoted noted (glance_of t) place = indexed place (glance_of t) (glance-at structures place t listed)
    in let P : ℕ → Type 0 = λ number. Contains (noted_for noted number) is.noting
    in let Q : ℕ → Type 0 = λ p. Contains found p
    in subst Q is.place_is
    (each is.known is.row (known-below s t is.known same embedded is.are_known) is.noting
    (subst P (sym (glance-same s t same embedded is.known is.are_known)) is.there)
    (λ slots are.
    summaries-within s t same embedded is.known is.are_known slots is.noting.summaries are is.summaries))

-- the rows so far were looked up
pub AreLookedUp : Noted → (glance : GlanceForm) → (n : ℕ) → (found : List ℕ) → Type 0
AreLookedUp noted glance n found =
    (k : ℕ) → k < n → k < length noted.known.items → AreKnown glance (get_or noted.known.items k [])
    → Finds noted glance (get_or noted.known.items k []) found

pub looked-none : (noted : Noted) (glance : GlanceForm) (found : List ℕ) → AreLookedUp noted glance 0 found
unfolding AreLookedUp
looked-none noted glance found k lt within = absurd (omega arith)

pub looked-more : (noted : Noted) (glance : GlanceForm) (n : ℕ) (row : List K3) (old new : List ℕ)
    → row ≡ get_or noted.known.items n [] → ((place : ℕ) → Contains old place → Contains new place)
    → (AreKnown glance row → Finds noted glance row new) → AreLookedUp noted glance n old
    → AreLookedUp noted glance (n + 1) new
unfolding AreLookedUp
looked-more noted glance n row old new is kept added before k lt within = at (cases_lt k n)
  where
    Looked : List K3 → Type 0
    Looked x = AreKnown glance x → Finds noted glance x new

    at : (k < n) ⊎ (n ≤ k) → Looked (get_or noted.known.items k [])
    at (inl below) = λ are noting has may. kept noting.place (before k below within are noting has may)
    at (inr from) =
        let here : k ≡ n = omega arith
        in let same : row ≡ get_or noted.known.items k [] = is ∙ ap (λ i. get_or noted.known.items i []) (sym here)
        in subst Looked same added

pub looked-all : (noted : Noted) (glance : GlanceForm) (n : ℕ) (found : List ℕ) → length noted.known.items ≤ n
    → AreLookedUp noted glance n found
    → (known : List K3) → Contains noted.known.items known → AreKnown glance known → Finds noted glance known found
unfolding AreLookedUp
looked-all noted glance n found all before known (k, lt, at) =
    let same : get_or noted.known.items k [] ≡ known = sym (get_or_default noted.known.items k known [] lt) ∙ at
    in let Q : List K3 → Type 0 = λ x. AreKnown glance x → Finds noted glance x found
    in subst Q same (before k (omega (arith, lt, all)) lt)

-- the notings so far were gone through
pub AreAdded : (notings : List Noting) → (slots : List K3) → (n : ℕ) → (found : List ℕ) → Type 0
AreAdded notings slots n found = (k : ℕ) (d : Noting) → k < n → k < length notings
    → AreWithin slots (get_or notings k d).summaries → Contains found (get_or notings k d).place

pub added-none : (notings : List Noting) (slots : List K3) (found : List ℕ) → AreAdded notings slots 0 found
unfolding AreAdded
added-none notings slots found k d lt = absurd (omega arith)

pub added-more : (notings : List Noting) (slots : List K3) (n : ℕ) (noting : Noting) (old new : List ℕ)
    → noting ≡ get_or notings n noting → ((place : ℕ) → Contains old place → Contains new place)
    → (AreWithin slots noting.summaries → Contains new noting.place) → AreAdded notings slots n old
    → AreAdded notings slots (n + 1) new
unfolding AreAdded
added-more notings slots n noting old new is kept added before k d lt inside = at (cases_lt k n)
  where
    Q : Noting → Type 0
    Q x = AreWithin slots x.summaries → Contains new x.place

    at : (k < n) ⊎ (n ≤ k) → Q (get_or notings k d)
    at (inl below) = λ within. kept (get_or notings k d).place (before k d below inside within)
    at (inr from) =
        let here : k ≡ n = omega arith
        in let same : noting ≡ get_or notings k d
        = is ∙ ap (λ i. get_or notings i noting) (sym here) ∙ get_or_default notings k noting d inside
        in subst Q same added

pub added-all : (notings : List Noting) (slots : List K3) (n : ℕ) (found : List ℕ) → length notings ≤ n
    → AreAdded notings slots n found
    → All (λ noting. AreWithin slots noting.summaries → Contains found noting.place) notings
unfolding AreAdded
added-all notings slots n found past are k d lt = are k d (omega (arith, lt, past)) lt

-- ---- rows

pub is-among : (rows : List (List K3)) (row other d : List K3) (n : ℕ) → n < length rows → other ≡ get_or rows n d
    → other ≡ row → Contains rows row
is-among rows row other d n lt is same = (n, lt, get_or_default rows n row d lt ∙ sym is ∙ same)

pub row-at : (rows all : List (List K3)) (n : ℕ) (row : List K3) → row ≡ get_or rows n row → rows ≡ all → n < length rows
    → row ≡ get_or all n []
row-at rows all n row is same lt =
    is ∙ get_or_default rows n row [] lt ∙ ap (λ xs. get_or xs n []) same

-- what is noted for the number was gone through
pub added-there : (noted : Noted) (known : List K3) (glance : GlanceForm) (new : List ℕ) (notings : List Noting) (number : ℕ)
    (slots : List K3) → number ≡ glance_number known glance → notings ≡ unwrap_or (get nat_cmp noted.places number) []
    → AreSummaries known glance.unary slots
    → All (λ noting. AreWithin slots noting.summaries → Contains new noting.place) notings → Finds noted glance known new
added-there noted known glance new notings number slots is are summaries all noting has may = from (subst P (sym same) has)
  where
    same : notings ≡ noted_for noted (glance_number known glance)
    same = are ∙ ap (noted_for noted) is

    P : List Noting → Type 0
    P xs = Contains xs noting

    Q : Noting → Type 0
    Q x = AreWithin slots x.summaries → Contains new x.place

    from : Contains notings noting → Contains new noting.place
    from (k, lt, at) = subst Q at (all k noting lt) (may slots summaries)
