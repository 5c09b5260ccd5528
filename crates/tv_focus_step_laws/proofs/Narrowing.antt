-- What the vectors of a choice say of a structure that lies above it.
use Rattle.std.proofs.Common.{ℕ, ◌≡◌, ◌≢◌, ◌<◌, ◌+◌, false, eqb, List, [], ◌∷◌, ◌++◌, ◌⊎◌}
use Rattle.std.proofs.Common.{inl, inr}
use Rattle.std.proofs.Common.{⊎_elim}
use Rattle.std.proofs.Common.{Some, length, get_or, map, refl, sym, ap, subst, ◌∙◌, arith, All, Contains}
use Rattle.std.proofs.Common.{eq-eqb}
use Rattle.std.proofs.Common.{ne_eqb}
use Rattle.std.specs.Prelude.{slice_get}
use Rattle.std.specs.List.{range_with_len}
use Rattle.std.proofs.lemmas.Bool.{cases_eq, cases_lt, cond-true, cond-false, false≢true}
use Rattle.std.proofs.lemmas.List.{get_or_default, length-map}
use Rattle.std.proofs.lemmas.List.Elements.{All-nil, All-cons, All-contains}
use Rattle.tv_kleene.specs.declared.K3.{K3}
use Rattle.tv_kleene.specs.declared.K3.TheVariants.{No, Half}
use Rattle.tv_kleene.specs.Kleene.{LiesUnder}
use Rattle.tv_model.specs.Program.{RuleForm}
use Rattle.tv_model.proofs.Decided.{equal-decided}
use Rattle.tv_model.proofs.Lists.{Contains-none, Contains-cases, Contains-there}
use Rattle.tv_embedding_laws.specs.LogicalStructure.{LogicalStructure}
use Rattle.tv_embedding_laws.specs.Embedding.{Embeds, IsBelow}
use Rattle.tv_embedding_laws.proofs.EmbeddingLaws.{IsBelow-values}
use Rattle.tv_structure_form.specs.StructureForm.{StructureForm, value_at, structure_of}
use Rattle.tv_structure_form.proofs.Library.{AreIndividuals-range, below-range}
use Rattle.tv_focus_laws.specs.Choices.{ChoiceForm, AimForm, Alone, Before, Behind, MemberForm, VectorSet}
use Rattle.tv_focus_laws.specs.Choices.{members, member_at, copy_of, with_anchor, focused_value}
use Rattle.tv_focus_laws.specs.Choices.{chosen}
use Rattle.tv_focus_laws.specs.Laws.{IsAnchor}
use Rattle.tv_focus_laws.specs.Tables.{ShowsOver}
use Rattle.tv_focus_laws.specs.Written.{WriteForm, vector_writes, written, chosen_table, places_of}
use Rattle.tv_focus_laws.proofs.Distinct.{Distinct, Distinct-from_pairs}
use Rattle.tv_focus_laws.proofs.Writes.{IsWritten}
use Rattle.tv_focus_step_laws.specs.Above.{IsAim, IsSmallChoice, IsBegun, IsOther, IsOfVector, origin_in}
use Rattle.tv_focus_step_laws.specs.Above.{writes_at}
use Rattle.tv_focus_step_laws.specs.Above.{aim_after, anchor_place, copies_so_far, place_in}
use Rattle.tv_focus_step_laws.specs.Above.{LiesAbove, VectorsRefute, OrdinariesRefute}
use Rattle.tv_focus_step_laws.proofs.Embedding.{choice-shows}
use Rattle.tv_focus_step_laws.proofs.Laid.{AreLaid, IsFirst, are-laid, comes-back, copy-of_set, counted}
use Rattle.tv_focus_step_laws.proofs.Laid.{first-copy}
use Rattle.tv_focus_step_laws.proofs.Laid.{members_in, more-copies, stands-behind, stands-first}
use Rattle.tv_focus_step_laws.proofs.Splitting.{fewer, inside-below}

-- ---- the values of a vector, by their anchors

-- the value is that of an anchor, at its place
pub record IsAnchored (f : ℕ → List ℕ) (place : ℕ → ℕ) (anchors : List ℕ) (vector : List K3) (w : WriteForm)
    : Type 0 where
  pub anchor : ℕ
  pub at : Contains anchors anchor
  pub goes : w.tuple ≡ f (place anchor)
  pub value : (k : K3) → with_anchor anchors vector anchor k ≡ w.value

anchored : (f : ℕ → List ℕ) (place : ℕ → ℕ) (anchors : List ℕ) (vector : List K3) (w : WriteForm)
    → Distinct anchors → Contains (vector_writes f (map place anchors) vector) w
    → IsAnchored f place anchors vector w
anchored f place [] vector w apart at = absurd (Contains-none w at)
anchored f place (a ∷ anchors) [] w apart at = absurd (Contains-none w at)
anchored f place (a ∷ anchors) (x ∷ vector) w apart at =
    ⊎_elim
    (λ here. subst (λ v. IsAnchored f place (a ∷ anchors) (x ∷ vector) v) here (record {
      anchor = a;
      at = (0, omega arith, refl);
      goes = refl;
      value = λ k. cond-true (eqb a a) x (with_anchor anchors vector a k) (eq-eqb a a refl);
    }))
    (λ there. let rest : IsAnchored f place anchors vector w = anchored f place anchors vector w apart.1 there
    in record {
      anchor = rest.anchor;
      at = Contains-there a rest.anchor anchors rest.at;
      goes = rest.goes;
      value = λ k. cond-false (eqb a rest.anchor) x (with_anchor anchors vector rest.anchor k)
          (ne_eqb a rest.anchor (λ e. apart.0 (subst (λ u. Contains anchors u) (sym e) rest.at)))
          ∙ rest.value k;
    })
    (Contains-cases (record { tuple = f (place a); value = x }) w (vector_writes f (map place anchors) vector) at)

within : (s : StructureForm) (anchors : List ℕ) → All (IsAnchor (structure_of s)) anchors
    → All (λ a. a < s.size) anchors
within s anchors are k d lt = below-range s.size (get_or anchors k d) (are k d lt).0

anchor-inside : (s : StructureForm) (anchors : List ℕ) → All (IsAnchor (structure_of s)) anchors → (a : ℕ)
    → Contains anchors a → a < s.size
anchor-inside s anchors are a at = All-contains (λ x. x < s.size) anchors a (within s anchors are) at

-- the value is put at a tuple of the atom's places
long : (s : StructureForm) (pred : ℕ) (aim : AimForm) (begun : ChoiceForm) (u : ℕ) (vector : List K3)
    → IsAim s pred aim → (w : WriteForm) → Contains (writes_at (aim_after begun aim) u vector) w
    → length w.tuple ≡ places_of aim
long s pred Alone begun u vector is w at =
    ⊎_elim
    (λ here. subst (λ (v : WriteForm). length v.tuple ≡ 1) here refl)
    (λ none. absurd (Contains-none w none))
    (Contains-cases (record { tuple = u ∷ []; value = get_or vector 0 No }) w [] at)
long s pred (Before anchors) begun u vector is w at =
    ap length (anchored (λ a. u ∷ a ∷ []) (anchor_place begun) anchors vector w
    (Distinct-from_pairs anchors is.apart) at).goes
long s pred (Behind anchors) begun u vector is w at =
    ap length (anchored (λ a. a ∷ u ∷ []) (anchor_place begun) anchors vector w
    (Distinct-from_pairs anchors is.apart) at).goes

-- ---- what is put agrees with the choice

-- at each tuple of copies that goes to the tuple, the choice has the value
abbrev pub IsGiven : (s : StructureForm) → (pred : ℕ) → AimForm → (choice begun : ChoiceForm) → WriteForm → Type 0
IsGiven s pred aim choice begun w =
    (tuple : List ℕ) → All (λ i. i < length (members_in s choice)) tuple
    → map (place_in s choice begun) tuple ≡ w.tuple
    → focused_value (structure_of s) pred aim (members_in s choice) tuple ≡ w.value

-- the copies that go to p have this vector
abbrev pub HasVector : (s : StructureForm) → (choice begun : ChoiceForm) → (p : ℕ) → List K3 → Type 0
HasVector s choice begun p vector =
    (i : ℕ) → i < length (members_in s choice) → place_in s choice begun i ≡ p
    → (member_at (members_in s choice) i).vector ≡ vector

-- those that go to b come of a
abbrev pub ComeOf : (s : StructureForm) → (choice begun : ChoiceForm) → (b a : ℕ) → Type 0
ComeOf s choice begun b a =
    (j : ℕ) → j < length (members_in s choice) → place_in s choice begun j ≡ b → origin_in s choice j ≡ a

given-alone : (s : StructureForm) (pred : ℕ) (choice begun : ChoiceForm) (p : ℕ) (vector : List K3)
    → HasVector s choice begun p vector → (tuple : List ℕ)
    → All (λ i. i < length (members_in s choice)) tuple
    → map (place_in s choice begun) tuple ≡ p ∷ []
    → focused_value (structure_of s) pred Alone (members_in s choice) tuple ≡ get_or vector 0 No
given-alone s pred choice begun p vector has [] all e = absurd (cc)
given-alone s pred choice begun p vector has (i ∷ []) all e =
    let goes : place_in s choice begun i ≡ p = cc
    in ap (λ v. get_or v 0 No) (has i (all 0 0 (omega arith)) goes)
given-alone s pred choice begun p vector has (i ∷ j ∷ more) all e = absurd (cc)

given-before : (s : StructureForm) (pred : ℕ) (anchors : List ℕ) (choice begun : ChoiceForm) (p b a : ℕ)
    (vector : List K3) (x : K3) → HasVector s choice begun p vector → ComeOf s choice begun b a
    → ((k : K3) → with_anchor anchors vector a k ≡ x) → (tuple : List ℕ)
    → All (λ i. i < length (members_in s choice)) tuple
    → map (place_in s choice begun) tuple ≡ p ∷ b ∷ []
    → focused_value (structure_of s) pred (Before anchors) (members_in s choice) tuple ≡ x
given-before s pred anchors choice begun p b a vector x has come value [] all e = absurd (cc)
given-before s pred anchors choice begun p b a vector x has come value (i ∷ []) all e = absurd (cc)
given-before s pred anchors choice begun p b a vector x has come value (i ∷ j ∷ []) all e =
    let first : place_in s choice begun i ≡ p = cc
    in let second : place_in s choice begun j ≡ b = cc
    in let k : K3 = value_at s pred (origin_in s choice i ∷ origin_in s choice j ∷ [])
    in ap (λ v. with_anchor anchors v (origin_in s choice j) k) (has i (all 0 0 (omega arith)) first)
    ∙ ap (λ y. with_anchor anchors vector y k) (come j (all 1 0 (omega arith)) second) ∙ value k
given-before s pred anchors choice begun p b a vector x has come value (i ∷ j ∷ y ∷ more) all e = absurd (cc)

given-behind : (s : StructureForm) (pred : ℕ) (anchors : List ℕ) (choice begun : ChoiceForm) (p b a : ℕ)
    (vector : List K3) (x : K3) → HasVector s choice begun p vector → ComeOf s choice begun b a
    → ((k : K3) → with_anchor anchors vector a k ≡ x) → (tuple : List ℕ)
    → All (λ i. i < length (members_in s choice)) tuple
    → map (place_in s choice begun) tuple ≡ b ∷ p ∷ []
    → focused_value (structure_of s) pred (Behind anchors) (members_in s choice) tuple ≡ x
given-behind s pred anchors choice begun p b a vector x has come value [] all e = absurd (cc)
given-behind s pred anchors choice begun p b a vector x has come value (i ∷ []) all e = absurd (cc)
given-behind s pred anchors choice begun p b a vector x has come value (i ∷ j ∷ []) all e =
    let first : place_in s choice begun i ≡ b = cc
    in let second : place_in s choice begun j ≡ p = cc
    in let k : K3 = value_at s pred (origin_in s choice i ∷ origin_in s choice j ∷ [])
    in ap (λ v. with_anchor anchors v (origin_in s choice i) k) (has j (all 1 0 (omega arith)) second)
    ∙ ap (λ y. with_anchor anchors vector y k) (come i (all 0 0 (omega arith)) first) ∙ value k
given-behind s pred anchors choice begun p b a vector x has come value (i ∷ j ∷ y ∷ more) all e = absurd (cc)

all-given : (s : StructureForm) (pred : ℕ) (aim : AimForm) (choice begun : ChoiceForm) (p : ℕ) (vector : List K3)
    → IsAim s pred aim → IsSmallChoice s pred aim choice → IsBegun begun choice
    → HasVector s choice begun p vector → (w : WriteForm) → Contains (writes_at (aim_after begun aim) p vector) w
    → IsGiven s pred aim choice begun w
all-given s pred Alone choice begun p vector is of begins has w at tuple all e =
    ⊎_elim
    (λ here. given-alone s pred choice begun p vector has tuple all
    (subst (λ (v : WriteForm). map (place_in s choice begun) tuple ≡ v.tuple) (sym here) e)
    ∙ ap (λ (v : WriteForm). v.value) here)
    (λ none. absurd (Contains-none w none))
    (Contains-cases (record { tuple = p ∷ []; value = get_or vector 0 No }) w [] at)
all-given s pred (Before anchors) choice begun p vector is of begins has w at tuple all e =
    let one : IsAnchored (λ a. p ∷ a ∷ []) (anchor_place begun) anchors vector w
    = anchored (λ a. p ∷ a ∷ []) (anchor_place begun) anchors vector w (Distinct-from_pairs anchors is.apart) at
    in given-before s pred anchors choice begun p (anchor_place begun one.anchor) one.anchor vector w.value has
    (comes-back s pred (Before anchors) choice begun of begins one.anchor
    (anchor-inside s anchors is.anchors one.anchor one.at)) one.value tuple all (e ∙ one.goes)
all-given s pred (Behind anchors) choice begun p vector is of begins has w at tuple all e =
    let one : IsAnchored (λ a. a ∷ p ∷ []) (anchor_place begun) anchors vector w
    = anchored (λ a. a ∷ p ∷ []) (anchor_place begun) anchors vector w (Distinct-from_pairs anchors is.apart) at
    in given-behind s pred anchors choice begun p (anchor_place begun one.anchor) one.anchor vector w.value has
    (comes-back s pred (Behind anchors) choice begun of begins one.anchor
    (anchor-inside s anchors is.anchors one.anchor one.at)) one.value tuple all (e ∙ one.goes)

-- a copy of the last set has its vector
set-vector : (s : StructureForm) (pred : ℕ) (aim : AimForm) (choice begun : ChoiceForm) (set : VectorSet)
    → IsSmallChoice s pred aim choice → IsBegun (begun ++ set ∷ []) choice → (t : ℕ) → t < length set
    → HasVector s choice (begun ++ set ∷ []) (copies_so_far begun + t) (get_or set t [])
set-vector s pred aim choice begun set of begins t lt i inside goes =
    let next : AreLaid s choice (length (begun ++ set ∷ [])) (copies_so_far (begun ++ set ∷ []))
    = are-laid s choice (begun ++ set ∷ []) (counted s pred aim choice of) begins
    in let at : i ≡ copies_so_far begun + t
    = ⊎_elim
    (λ here. omega (arith, goes, stands-first s choice (begun ++ set ∷ []) i next here))
    (λ after. absurd (omega (
      arith,
      goes,
      after,
      lt,
      more-copies begun set,
      stands-behind s choice (begun ++ set ∷ []) i next after,
    )))
    (cases_lt i (copies_so_far (begun ++ set ∷ [])))
    in ap (λ j. (member_at (members_in s choice) j).vector) at
    ∙ ap (λ (m : MemberForm). m.vector)
    (copy-of_set s choice begun set (counted s pred aim choice of) begins t lt)

-- ---- one value of what is below

-- whether a value is put at the tuple
pub put-or_not : (writes : List WriteForm) (tuple : List ℕ)
    → ((w : WriteForm) × Contains writes w × (w.tuple ≡ tuple))
    ⊎ ((w : WriteForm) → Contains writes w → w.tuple ≢ tuple)
put-or_not [] tuple = inr (λ w at e. Contains-none w at)
put-or_not (v ∷ writes) tuple =
    ⊎_elim
    (λ e. inl (v, (0, omega arith, refl), e))
    (λ ne. ⊎_elim
    (λ (w, at, e). inl (w, Contains-there v w writes at, e))
    (λ none. inr (λ w at e. ⊎_elim
    (λ (here : v ≡ w). ne (subst (λ (x : WriteForm). x.tuple ≡ tuple) (sym here) e))
    (λ there. none w there e)
    (Contains-cases v w writes at)))
    (put-or_not writes tuple))
    (equal-decided v.tuple tuple)

-- the value that the choice has at copies, seen from below
below-given : (s : StructureForm) (pred : ℕ) (aim : AimForm) (choice : ChoiceForm) → IsAim s pred aim
    → IsSmallChoice s pred aim choice → (r : LogicalStructure)
    → IsBelow r (structure_of (chosen_table s pred aim choice)) → (tuple : List ℕ) (x : K3)
    → All (Contains r.individuals) tuple → length tuple ≡ places_of aim
    → focused_value (structure_of s) pred aim (members_in s choice) tuple ≡ x
    → LiesUnder (r.value pred tuple) x
below-given s pred aim choice is of r below tuple x all count given =
    let t : StructureForm = chosen_table s pred aim choice
    in let shows : ShowsOver s t (chosen (structure_of s) pred aim choice) = choice-shows s pred aim choice is of
    in let ms : List MemberForm = members (structure_of s).individuals choice
    in let inside : All (Contains (structure_of t).individuals) tuple
    = λ k d lt. subst (λ us. Contains us (get_or tuple k d)) below.0 (all k d lt)
    in let there : K3 = value_at s pred (map (λ y. (member_at ms y).origin) tuple)
    in let here : K3 = focused_value (structure_of s) pred aim ms tuple
    in let same : value_at t pred tuple ≡ x
    = shows.shows.values pred tuple (record {
      arity = ap (λ ns. slice_get ns pred) shows.over ∙ is.arity ∙ ap Some (sym count);
      individuals = AreIndividuals-range t.size tuple inside;
    }) ∙ cond-true (eqb pred pred) here there (eq-eqb pred pred refl) ∙ given
    in subst (λ k. LiesUnder (r.value pred tuple) k) same
    (((IsBelow-values r (structure_of t)).0 below).values pred tuple all)

-- each of what lies below stands at a place of the copies
places-small : (s : StructureForm) (pred : ℕ) (aim : AimForm) (choice : ChoiceForm) → IsAim s pred aim
    → IsSmallChoice s pred aim choice → (r : LogicalStructure)
    → IsBelow r (structure_of (chosen_table s pred aim choice)) → (tuple : List ℕ)
    → All (Contains r.individuals) tuple
    → All (λ i. i < length (members_in s choice)) tuple
places-small s pred aim choice is of r below tuple all k d lt =
    below-range (length (members_in s choice)) (get_or tuple k d)
    (subst (λ us. Contains us (get_or tuple k d))
    (below.0 ∙ (choice-shows s pred aim choice is of).shows.individuals) (all k d lt))

-- ---- narrowing

narrowed-value : (s : StructureForm) (pred : ℕ) (aim : AimForm) (choice begun : ChoiceForm) (c : StructureForm)
    (writes : List WriteForm) → IsAim s pred aim → IsSmallChoice s pred aim choice
    → IsWritten c (written c pred writes) pred writes
    → ((w : WriteForm) → Contains writes w
    → IsGiven s pred aim choice begun w × (length w.tuple ≡ places_of aim))
    → (r : LogicalStructure) → IsBelow r (structure_of (chosen_table s pred aim choice))
    → Embeds (place_in s choice begun) r (structure_of c) → (q : ℕ) (tuple : List ℕ)
    → All (Contains r.individuals) tuple
    → LiesUnder (r.value q tuple) (value_at (written c pred writes) q (map (place_in s choice begun) tuple))
narrowed-value s pred aim choice begun c writes is of done given r below e q tuple all =
    ⊎_elim
    (λ same. subst (λ p. LiesUnder (r.value p tuple) (value_at (written c pred writes) p image)) (sym same) at_pred)
    (λ ne. subst (λ k. LiesUnder (r.value q tuple) k) (sym (done.others q image ne)) (e.values q tt tuple all))
    (cases_eq q pred)
  where
    image : List ℕ
    image = map (place_in s choice begun) tuple

    at_pred : LiesUnder (r.value pred tuple)
        (value_at (written c pred writes) pred (map (place_in s choice begun) tuple))
    at_pred =
        ⊎_elim
        (λ (w, at, goes). subst (λ k. LiesUnder (r.value pred tuple) k)
        (sym (done.values image w.value (
          λ v there same. agree v w there at same goes,
          inl (w, at, goes),
        )))
        (below-given s pred aim choice is of r below tuple w.value all
        (sym (length-map tuple (place_in s choice begun)) ∙ ap length (sym goes) ∙ (given w at).1)
        ((given w at).0 tuple small (sym goes))))
        (λ none. subst (λ k. LiesUnder (r.value pred tuple) k)
        (sym (done.values image (value_at c pred image) (
          λ v there same. absurd (none v there same),
          inr refl,
        )))
        (e.values pred tt tuple all))
        (put-or_not writes image)
      where
        small : All (λ i. i < length (members_in s choice)) tuple
        small = places-small s pred aim choice is of r below tuple all

        agree : (v w : WriteForm) → Contains writes v → Contains writes w
            → v.tuple ≡ map (place_in s choice begun) tuple → w.tuple ≡ map (place_in s choice begun) tuple
            → v.value ≡ w.value
        agree v w there at same goes =
            sym ((given v there).0 tuple small (sym same)) ∙ (given w at).0 tuple small (sym goes)

narrowed-embeds : (s : StructureForm) (pred : ℕ) (aim : AimForm) (choice begun : ChoiceForm) (c : StructureForm)
    (writes : List WriteForm) → IsAim s pred aim → IsSmallChoice s pred aim choice
    → IsWritten c (written c pred writes) pred writes
    → ((w : WriteForm) → Contains writes w
    → IsGiven s pred aim choice begun w × (length w.tuple ≡ places_of aim))
    → (r : LogicalStructure) → IsBelow r (structure_of (chosen_table s pred aim choice))
    → Embeds (place_in s choice begun) r (structure_of c)
    → Embeds (place_in s choice begun) r (structure_of (written c pred writes))
narrowed-embeds s pred aim choice begun c writes is of done given r below e = record {
  into = λ u at. subst (λ n. Contains (range_with_len 0 n) (place_in s choice begun u)) (sym done.size) (e.into u at);
  onto = λ w at. e.onto w (subst (λ n. Contains (range_with_len 0 n) w) done.size at);
  values = λ q any tuple all.
      narrowed-value s pred aim choice begun c writes is of done given r below e q tuple all;
  summaries = λ u at summary.
      ap (λ flags. get_or flags (place_in s choice begun u) false) done.summaries ∙ e.summaries u at summary;
  several = λ u w at there ne same.
      ap (λ flags. get_or flags (place_in s choice begun u) false) done.summaries ∙ e.several u w at there ne same;
}

pub all-vectors : (s : StructureForm) (pred : ℕ) (aim : AimForm) (choice begun : ChoiceForm) (set : VectorSet)
    (writes : List WriteForm) → IsAim s pred aim → IsSmallChoice s pred aim choice
    → IsBegun (begun ++ set ∷ []) choice
    → All (IsOfVector (aim_after (begun ++ set ∷ []) aim) (copies_so_far begun) set) writes
    → (w : WriteForm) → Contains writes w
    → IsGiven s pred aim choice (begun ++ set ∷ []) w × (length w.tuple ≡ places_of aim)
all-vectors s pred aim choice begun set writes is of begins those v there =
    given v (All-contains (IsOfVector (aim_after (begun ++ set ∷ []) aim) (copies_so_far begun) set) writes v those there)
  where
    given : (w : WriteForm) → IsOfVector (aim_after (begun ++ set ∷ []) aim) (copies_so_far begun) set w
        → IsGiven s pred aim choice (begun ++ set ∷ []) w × (length w.tuple ≡ places_of aim)
    given w (t, lt, put) = (
      all-given s pred aim choice (begun ++ set ∷ []) (copies_so_far begun + t) (get_or set t []) is of begins
          (set-vector s pred aim choice begun set of begins t lt) w put,
      long s pred aim (begun ++ set ∷ []) (copies_so_far begun + t) (get_or set t []) is w put,
    )

pub vectors-above : (rules : List RuleForm) (s : StructureForm) (pred : ℕ) (aim : AimForm)
    (choice begun : ChoiceForm) (set : VectorSet) (c : StructureForm) (writes : List WriteForm) → IsAim s pred aim
    → IsSmallChoice s pred aim choice → IsBegun (begun ++ set ∷ []) choice
    → IsWritten c (written c pred writes) pred writes
    → All (IsOfVector (aim_after (begun ++ set ∷ []) aim) (copies_so_far begun) set) writes
    → LiesAbove rules s pred aim choice (begun ++ set ∷ []) c
    → LiesAbove rules s pred aim choice (begun ++ set ∷ []) (written c pred writes)
vectors-above rules s pred aim choice begun set c writes is of begins done those above r below stable =
    narrowed-embeds s pred aim choice (begun ++ set ∷ []) c writes is of done
    (all-vectors s pred aim choice begun set writes is of begins those) r below (above r below stable)

-- ---- refuting

-- copies that go to the tuple, at which the choice has the value that is put
pub record HasCopies (s : StructureForm) (pred : ℕ) (aim : AimForm) (choice begun : ChoiceForm) (w : WriteForm)
    : Type 0 where
  pub tuple : List ℕ
  pub inside : All (λ i. i < length (members_in s choice)) tuple
  pub goes : map (place_in s choice begun) tuple ≡ w.tuple
  pub value : focused_value (structure_of s) pred aim (members_in s choice) tuple ≡ w.value

all-one : (P : ℕ → Type 0) (i : ℕ) → P i → All P (i ∷ [])
all-one P i holds = All-cons P i [] holds (All-nil P)

all-two : (P : ℕ → Type 0) (i j : ℕ) → P i → P j → All P (i ∷ j ∷ [])
all-two P i j first second = All-cons P i (j ∷ []) first (all-one P j second)

copies-for : (s : StructureForm) (pred : ℕ) (aim : AimForm) (choice begun : ChoiceForm) → IsAim s pred aim
    → IsSmallChoice s pred aim choice → IsBegun begun choice → (i u p : ℕ) (vector : List K3)
    → i < length (members_in s choice)
    → member_at (members_in s choice) i ≡ record { origin = u; vector = vector }
    → place_in s choice begun i ≡ p
    → (w : WriteForm) → Contains (writes_at (aim_after begun aim) p vector) w → HasCopies s pred aim choice begun w
copies-for s pred Alone choice begun is of begins i u p vector lt copy goes w at =
    ⊎_elim
    (λ here. subst (λ (v : WriteForm). HasCopies s pred Alone choice begun v) here (record {
      tuple = i ∷ [];
      inside = all-one (λ j. j < length (members_in s choice)) i lt;
      goes = ap (λ x. x ∷ []) goes;
      value = ap (λ (m : MemberForm). get_or m.vector 0 No) copy;
    }))
    (λ none. absurd (Contains-none w none))
    (Contains-cases (record { tuple = p ∷ []; value = get_or vector 0 No }) w [] at)
copies-for s pred (Before anchors) choice begun is of begins i u p vector lt copy goes w at =
    let ms : List MemberForm = members_in s choice
    in let one : IsAnchored (λ a. p ∷ a ∷ []) (anchor_place begun) anchors vector w
    = anchored (λ a. p ∷ a ∷ []) (anchor_place begun) anchors vector w (Distinct-from_pairs anchors is.apart) at
    in let first : IsFirst s choice begun one.anchor
    = first-copy s pred (Before anchors) choice begun of begins one.anchor
    (anchor-inside s anchors is.anchors one.anchor one.at)
    in let j : ℕ = copy_of ms one.anchor
    in let k : K3 = value_at s pred (origin_in s choice i ∷ origin_in s choice j ∷ [])
    in record {
      tuple = i ∷ j ∷ [];
      inside = all-two (λ x. x < length ms) i j lt first.inside;
      goes = ap (λ x. x ∷ place_in s choice begun j ∷ []) goes ∙ ap (λ b. p ∷ b ∷ []) first.place ∙ sym one.goes;
      value = ap (λ (m : MemberForm). with_anchor anchors m.vector (origin_in s choice j) k) copy
          ∙ ap (λ b. with_anchor anchors vector b k) first.origin ∙ one.value k;
    }
copies-for s pred (Behind anchors) choice begun is of begins i u p vector lt copy goes w at =
    let ms : List MemberForm = members_in s choice
    in let one : IsAnchored (λ a. a ∷ p ∷ []) (anchor_place begun) anchors vector w
    = anchored (λ a. a ∷ p ∷ []) (anchor_place begun) anchors vector w (Distinct-from_pairs anchors is.apart) at
    in let first : IsFirst s choice begun one.anchor
    = first-copy s pred (Behind anchors) choice begun of begins one.anchor
    (anchor-inside s anchors is.anchors one.anchor one.at)
    in let j : ℕ = copy_of ms one.anchor
    in let k : K3 = value_at s pred (origin_in s choice j ∷ origin_in s choice i ∷ [])
    in record {
      tuple = j ∷ i ∷ [];
      inside = all-two (λ x. x < length ms) j i first.inside lt;
      goes = ap (λ x. place_in s choice begun j ∷ x ∷ []) goes ∙ ap (λ b. b ∷ p ∷ []) first.place ∙ sym one.goes;
      value = ap (λ (m : MemberForm). with_anchor anchors m.vector (origin_in s choice j) k) copy
          ∙ ap (λ b. with_anchor anchors vector b k) first.origin ∙ one.value k;
    }

-- a value that lies under two definite ones shows that they are the same
under-both : (x y z : K3) → LiesUnder x y → LiesUnder x z → y ≢ Half → z ≢ Half → y ≡ z
under-both x y z (inl e) (inl d) ny nz = sym e ∙ d
under-both x y z (inl e) (inr d) ny nz = absurd (nz d)
under-both x y z (inr e) z_over ny nz = absurd (ny e)

-- a copy of the next individual stands where the individual does
stands-next : (s : StructureForm) (choice begun : ChoiceForm) (i : ℕ)
    → AreLaid s choice (length begun) (copies_so_far begun) → i < length (members_in s choice)
    → origin_in s choice i ≡ length begun → place_in s choice begun i ≡ copies_so_far begun
stands-next s choice begun i laid lt is =
    ⊎_elim
    (λ soon. absurd (omega (arith, laid.before i soon, is)))
    (λ later. stands-behind s choice begun i laid later ∙ omega (arith, is))
    (cases_lt i (copies_so_far begun))

pub vectors_refute : VectorsRefute
vectors_refute rules s pred aim choice begun set c vector is of begins at other leads r below stable =
    apart.other (under-both (r.value pred found.tuple) (value_at c pred w.tuple) w.value
    (subst (λ us. LiesUnder (r.value pred found.tuple) (value_at c pred us)) found.goes
    (e.values pred tt found.tuple all))
    (below-value) apart.known apart.definite)
  where
    count : length choice ≡ s.size
    count = counted s pred aim choice of

    t : ℕ
    t = at.0

    i : ℕ
    i = copies_so_far begun + at.0

    copy : member_at (members_in s choice) (copies_so_far begun + at.0)
        ≡ record { origin = length begun; vector = vector }
    copy = copy-of_set s choice begun set count begins at.0 at.1
        ∙ ap (λ v. record { origin = length begun; vector = v }) (get_or_default set at.0 [] vector at.1 ∙ at.2)

    next : AreLaid s choice (length (begun ++ set ∷ [])) (copies_so_far (begun ++ set ∷ []))
    next = are-laid s choice (begun ++ set ∷ []) count begins

    inside : copies_so_far begun + at.0 < length (members_in s choice)
    inside = omega (arith, next.few, more-copies begun set, at.1)

    w : WriteForm
    w = other.1

    put : Contains (writes_at (aim_after begun aim) (copies_so_far begun) vector) other.1
    put = (other.0, other.2, other.3)

    apart : IsOther c pred other.1
    apart = other.4

    found : HasCopies s pred aim choice begun other.1
    found = copies-for s pred aim choice begun is of (fewer begun choice set begins) i (length begun)
        (copies_so_far begun) vector inside copy
        (stands-next s choice begun i (are-laid s choice begun count (fewer begun choice set begins)) inside
        (ap (λ (m : MemberForm). m.origin) copy))
        other.1 put

    all : All (Contains r.individuals) found.tuple
    all k d lt = inside-below s pred aim choice is of r below (get_or found.tuple k d) (found.inside k d lt)

    e : Embeds (place_in s choice begun) r (structure_of c)
    e = leads.above r below stable

    below-value : LiesUnder (r.value pred found.tuple) other.1.value
    below-value = below-given s pred aim choice is of r below found.tuple w.value all
        (sym (length-map found.tuple (place_in s choice begun)) ∙ ap length found.goes
        ∙ long s pred aim begun (copies_so_far begun) vector is w put)
        found.value

pub ordinaries_refute : OrdinariesRefute
ordinaries_refute rules s pred aim choice begun set c is of begins many plain leads r below stable =
    false≢true (sym plain ∙ ap (λ x. (structure_of c).is_summary x) (sym (stands 0 (omega (arith, many))))
    ∙ (leads.above r below stable).several (m + 0) (m + 1)
    (inside-below s pred aim choice is of r below (m + 0) (inside 0 (omega (arith, many))))
    (inside-below s pred aim choice is of r below (m + 1) (inside 1 (omega (arith, many))))
    (λ e. absurd (omega (arith, e)))
    (stands 0 (omega (arith, many)) ∙ sym (stands 1 (omega (arith, many)))))
  where
    m : ℕ
    m = copies_so_far begun

    count : length choice ≡ s.size
    count = counted s pred aim choice of

    next : AreLaid s choice (length (begun ++ set ∷ [])) (copies_so_far (begun ++ set ∷ []))
    next = are-laid s choice (begun ++ set ∷ []) count begins

    inside : (t : ℕ) → t < length set → copies_so_far begun + t < length (members_in s choice)
    inside t lt = omega (arith, lt, next.few, more-copies begun set)

    stands : (t : ℕ) → t < length set → place_in s choice begun (copies_so_far begun + t) ≡ copies_so_far begun
    stands t lt = stands-next s choice begun (copies_so_far begun + t)
        (are-laid s choice begun count (fewer begun choice set begins)) (inside t lt)
        (ap (λ (x : MemberForm). x.origin) (copy-of_set s choice begun set count begins t lt))
