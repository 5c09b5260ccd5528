-- The table of a choice shows its structure.
use Rattle.std.proofs.Common.{ℕ, ◌≡◌, ◌≢◌, ◌<◌, ◌≤◌, ◌+◌, zero, suc, Bool, true, false, cond, eqb, List, []}
use Rattle.std.proofs.Common.{◌∷◌, ◌++◌, ◌⊎◌, inl, inr, ⊎_elim, Option, Some, None, length, get_or, map, take}
use Rattle.std.proofs.Common.{sum, refl, sym, ap, subst, ◌∙◌, arith, All, Contains, eq-eqb, ne_eqb}
use Rattle.std.proofs.Common.{length-append}
use Rattle.std.specs.Prelude.{fold, slice_get, AllPairs}
use Rattle.std.specs.List.{flat_map, range_with_len, AllZip, position_or_len}
use Rattle.std.specs.Option.{option_map}
use Rattle.std.proofs.lemmas.Bool.{cases_eq, cases_lt, cond-true, cond-false, eqb-true}
use Rattle.std.proofs.lemmas.List.{length-map, get_or-map}
use Rattle.std.proofs.lemmas.List.FromFn.{length-range_with_len, get_or-range_with_len}
use Rattle.std.proofs.lemmas.List.Elements.{All-head, All-tail, All-cons, All-nil, All-map, All-contains}
use Rattle.std.proofs.lemmas.List.Elements.{Contains-get_or}
use Rattle.std.proofs.lemmas.Option.{same_Some}
use Rattle.tv_lemmas.proofs.Lists.{in_range}
use Rattle.tv_kleene.specs.declared.K3.{K3}
use Rattle.tv_kleene.specs.declared.K3.TheVariants.{No}
use Rattle.tv_embedding_laws.specs.LogicalStructure.{LogicalStructure}
use Rattle.tv_model.proofs.Lists.{Contains-here, Contains-there, Contains-none, Contains-cases}
use Rattle.tv_model.proofs.Decided.{Contains-decided}
use Rattle.tv_structure_form.specs.TableForm.{AreIndividuals, HasEntry, IsTable}
use Rattle.tv_structure_form.specs.StructureForm.{StructureForm, IsStructure, IsMark, split, drawn}
use Rattle.tv_structure_form.specs.StructureForm.{copies_from}
use Rattle.tv_structure_form.specs.StructureForm.{table_of, value_at, summary_at, structure_of, arities_of}
use Rattle.tv_structure_form.specs.Laws.{origins_of, DrawnReads}
use Rattle.tv_structure_form.proofs.StructureLaws.{drawn_reads}
use Rattle.tv_structure_form.proofs.TableLaws.{IsTable-drawn}
use Rattle.tv_structure_form.proofs.DrawnLaws.{IsMark-split}
use Rattle.tv_structure_form.proofs.OriginLaws.{get_or-copies_from}
use Rattle.tv_structure_form.proofs.Library.{below-range}
use Rattle.tv_focus_laws.specs.Choices.{AimForm, Alone, Before, Behind, MemberForm, members, member_at}
use Rattle.tv_focus_laws.specs.Choices.{nobody, copy_of, with_anchor, focused_value, aimed, vectors, sets_of}
use Rattle.tv_focus_laws.specs.Choices.{choices, chosen}
use Rattle.tv_focus_laws.specs.Laws.{IsAnchor, AreAnchors}
use Rattle.tv_focus_laws.specs.Tables.{Shows, ShowsOver, parts_of, IsSplitBy}
use Rattle.tv_focus_laws.specs.Written.{WriteForm, vector_writes, copy_writes, all_writes, written}
use Rattle.tv_focus_laws.specs.Written.{chosen_table, places_of, AreApart, ChosenTablesShow}
use Rattle.tv_focus_laws.proofs.Membership.{Contains-flat_map}
use Rattle.tv_focus_laws.proofs.Distinct.{Distinct, Distinct-from_pairs}
use Rattle.tv_focus_laws.proofs.Exact.{product-is}
use Rattle.tv_focus_laws.proofs.Counts.{IsJoined, Contains-from_flat_map, picks-length}
use Rattle.tv_focus_laws.proofs.Splits.{IsWhole, choice-whole, mark-place, origins-same}
use Rattle.tv_focus_laws.proofs.Splits.{splits_show, AreMembers, are-members, copies_in, members_in}
use Rattle.tv_focus_laws.proofs.Writes.{told, IsWritten, Fit, is_written, sole-copy}

-- ---- what is put for a vector

-- the value with an anchor
pub record IsVectorWrite (tuple : ℕ → List ℕ) (anchors : List ℕ) (vector : List K3) (w : WriteForm) : Type 0 where
  pub anchor : ℕ
  pub at : Contains anchors anchor
  pub goes : w.tuple ≡ tuple anchor
  pub value : (k : K3) → with_anchor anchors vector anchor k ≡ w.value

vector-write : (tuple : ℕ → List ℕ) (anchors : List ℕ) (vector : List K3) (w : WriteForm) → Distinct anchors
    → Contains (vector_writes tuple anchors vector) w → IsVectorWrite tuple anchors vector w
vector-write tuple [] vector w apart at = absurd (Contains-none w at)
vector-write tuple (a ∷ anchors) [] w apart at = absurd (Contains-none w at)
vector-write tuple (a ∷ anchors) (x ∷ vector) w apart at =
    let Is : WriteForm → Type 0 = λ v. IsVectorWrite tuple (a ∷ anchors) (x ∷ vector) v
    in ⊎_elim
    (λ here. subst Is here (record {
      anchor = a;
      at = Contains-here a anchors;
      goes = refl;
      value = λ k. cond-true (eqb a a) x (with_anchor anchors vector a k) (eq-eqb a a refl);
    }))
    (λ there. let rest : IsVectorWrite tuple anchors vector w = vector-write tuple anchors vector w apart.1 there
    in let Has : ℕ → Type 0 = λ u. Contains anchors u
    in let ne : a ≢ rest.anchor = λ e. apart.0 (subst Has (sym e) rest.at)
    in record {
      anchor = rest.anchor;
      at = Contains-there a rest.anchor anchors rest.at;
      goes = rest.goes;
      value = λ k. cond-false (eqb a rest.anchor) x (with_anchor anchors vector rest.anchor k) (ne_eqb a rest.anchor ne) ∙ rest.value k;
    })
    (Contains-cases (record { tuple = tuple a; value = x }) w (vector_writes tuple anchors vector) at)

-- the value is that of an anchor, or the other one
anchored-or : (tuple : ℕ → List ℕ) (anchors : List ℕ) (vector : List K3) (u : ℕ) (k : K3)
    → (Contains anchors u × (w : WriteForm) × Contains (vector_writes tuple anchors vector) w × (w.tuple ≡ tuple u))
    ⊎ (k ≡ with_anchor anchors vector u k)
anchored-or tuple [] vector u k = inr refl
anchored-or tuple (a ∷ anchors) [] u k = inr refl
anchored-or tuple (a ∷ anchors) (x ∷ vector) u k =
    let one : WriteForm = record { tuple = tuple a; value = x }
    in ⊎_elim
    (λ e. let Has : ℕ → Type 0 = λ y. Contains (a ∷ anchors) y
    in inl (subst Has e (Contains-here a anchors), one, Contains-here one (vector_writes tuple anchors vector), ap tuple e))
    (λ ne. ⊎_elim
    (λ (at, w, has, goes). inl (Contains-there a u anchors at, w, Contains-there one w (vector_writes tuple anchors vector) has, goes))
    (λ same. inr (same ∙ sym (cond-false (eqb a u) x (with_anchor anchors vector u k) (ne_eqb a u ne))))
    (anchored-or tuple anchors vector u k))
    (cases_eq a u)

-- ---- the copies

-- an individual with a copy, alone where it is no summary
pub record Copies (s : StructureForm) (ms : List MemberForm) : Type 0 where
  pub inside : (u : ℕ) → u < s.size → copy_of ms u < length ms
  pub origin : (u : ℕ) → u < s.size → (member_at ms (copy_of ms u)).origin ≡ u
  pub sole : (u l : ℕ) → u < s.size → summary_at s u ≡ false → l < length ms → (member_at ms l).origin ≡ u → copy_of ms u ≡ l

zip-at : {X : Type 0} (xss : List (List X)) (ys : List X) (k : ℕ) (d : List X) (e : X) → AllZip Contains xss ys → k < length xss
    → Contains (get_or xss k d) (get_or ys k e)
zip-at [] ys k d e zip lt = absurd (omega (arith, lt))
zip-at (xs ∷ xss) [] k d e zip lt = absurd zip
zip-at (xs ∷ xss) (y ∷ ys) zero d e zip lt = zip.0
zip-at (xs ∷ xss) (y ∷ ys) (suc k) d e zip lt = zip-at xss ys k d e zip.1 (omega (arith, lt))

pub choice-one : (s : LogicalStructure) (pred : ℕ) (aim : AimForm) (choice : List (List (List K3))) → Contains (choices s pred aim) choice
    → (k : ℕ) → k < length s.individuals → s.is_summary (get_or s.individuals k 0) ≡ false → length (get_or choice k []) ≡ 1
choice-one s pred aim choice at k lt plain =
    let all : ℕ → List (List (List K3)) = λ u. sets_of (s.is_summary u) (map (s.value pred) (aimed aim u))
    in let u : ℕ = get_or s.individuals k 0
    in let One : List (List (List K3)) → Type 0 = λ sets. Contains sets (get_or choice k [])
    in let Of : Bool → Type 0 = λ b. Contains (sets_of b (map (s.value pred) (aimed aim u))) (get_or choice k [])
    in let listed : Contains (all u) (get_or choice k [])
    = subst One (get_or-map all s.individuals k 0 [] lt)
    (zip-at (map all s.individuals) choice k [] [] (product-is (map all s.individuals) choice at)
    (omega (arith, length-map s.individuals all, lt)))
    in picks-length 1 (vectors (map (s.value pred) (aimed aim u))) (get_or choice k []) (subst Of plain listed)

pub copies-are : (s : StructureForm) (pred : ℕ) (aim : AimForm) (choice : List (List (List K3)))
    → Contains (choices (structure_of s) pred aim) choice → Copies s (members (structure_of s).individuals choice)
copies-are s pred aim choice at = record {
  inside = λ u lt. omega (arith, (first u lt).0, laid.size, place u lt);
  origin = λ u lt.
      let l_lt : copy_of ms u < length ms = omega (arith, (first u lt).0, laid.size, place u lt)
      in sym (laid.origin (copy_of ms u) l_lt) ∙ ap (λ k. get_or (copies_in choice) k 0) (place u lt) ∙ (first u lt).1 ∙ omega arith;
  sole = λ u l lt plain l_lt is.
      let known : get_or (range_with_len 0 s.size) u 0 ≡ u = get_or-range_with_len 0 s.size u 0 lt ∙ omega arith
      in let one : length (get_or choice u []) ≡ 1
      = choice-one (structure_of s) pred aim choice at u (omega (arith, lt, length-range_with_len 0 s.size)) (ap (summary_at s) known ∙ plain)
      in place u lt
      ∙ sym (sole-copy 0 (parts_of choice) l u u (omega arith) (omega (arith, l_lt, laid.size)) (laid.origin l l_lt ∙ is)
      (omega (arith, lt, laid.count, length-map choice length))
      (get_or-map length choice u [] 0 (omega (arith, lt, laid.count)) ∙ one));
}
  where
    whole : IsWhole (structure_of s).individuals choice
    whole = choice-whole (structure_of s) pred aim choice at

    laid : AreMembers s choice
    laid = are-members s choice whole

    ms : List MemberForm
    ms = members_in s choice

    place : (u : ℕ) → u < s.size → copy_of ms u ≡ sum (take u (parts_of choice))
    place u lt =
        let At : ℕ → Type 0 = λ n. position_or_len (λ (m : MemberForm). eqb m.origin u) (members (range_with_len 0 n) choice) ≡ sum (take u (parts_of choice))
        in subst At laid.count (mark-place choice 0 u u (omega arith) (omega (arith, laid.count, lt)) whole.some)

    first : (u : ℕ) → u < s.size → (sum (take u (parts_of choice)) < length (copies_in choice)) × (get_or (copies_in choice) (sum (take u (parts_of choice))) 0 ≡ 0 + u)
    first u lt =
        let many : 1 ≤ length (get_or choice u []) = whole.some u [] (omega (arith, lt, laid.count))
        in get_or-copies_from 0 (parts_of choice) u (omega (arith, lt, laid.count, length-map choice length))
        (omega (arith, many, get_or-map length choice u [] 0 (omega (arith, lt, laid.count))))

-- ---- the split table

split-is : (s : StructureForm) (choice : List (List (List K3))) → IsStructure s → IsWhole (structure_of s).individuals choice
    → length (copies_from 0 (parts_of choice)) ≤ 256 → IsStructure (split s (parts_of choice))
split-is s choice is whole small = record {
  table = IsTable-drawn (copies_from 0 (parts_of choice)) (table_of s) is.table small;
  summaries = length-map (copies_from 0 (parts_of choice)) (λ place. get_or s.summaries place false);
  fresh = mark s.fresh refl;
}
  where
    mark : (fresh : Option ℕ) → s.fresh ≡ fresh → IsMark (split s (parts_of choice)) (split s (parts_of choice)).fresh
    mark None e =
        let Is : Option ℕ → Type 0 = λ o. IsMark (drawn (copies_from 0 (parts_of choice)) o s) o
        in let Of : Option ℕ → Type 0 = λ o. Is (option_map (λ u. sum (take u (parts_of choice))) o)
        in subst Of (sym e) tt
    mark (Some u) e =
        let Is : Option ℕ → Type 0 = λ o. IsMark (drawn (copies_from 0 (parts_of choice)) o s) o
        in let Of : Option ℕ → Type 0 = λ o. Is (option_map (λ u. sum (take u (parts_of choice))) o)
        in subst Of (sym e) (IsMark-split s (parts_of choice) u is e
        (length-map choice length ∙ whole.count ∙ length-range_with_len 0 s.size)
        (All-map (λ part. 1 ≤ part) length choice whole.some))

-- ---- what is put, and what is read

abbrev pub vector_at : List MemberForm → ℕ → List K3
vector_at ms i = (member_at ms i).vector

-- the tuple has entries in a table of that many copies
writes-inside : (s : StructureForm) (ms : List MemberForm) → Copies s ms → (aim : AimForm) → AreAnchors (structure_of s) aim → AreApart aim
    → (i : ℕ) → i < length ms → (w : WriteForm) → Contains (copy_writes aim ms i) w
    → (length w.tuple ≡ places_of aim) × AreIndividuals (length ms) w.tuple
writes-inside s ms c Alone are apart i lt w at =
    let Fits : WriteForm → Type 0 = λ v. (length v.tuple ≡ 1) × AreIndividuals (length ms) v.tuple
    in ⊎_elim (λ here. subst Fits here (refl, (lt, tt))) (λ none. absurd (Contains-none w none))
    (Contains-cases (record { tuple = i ∷ []; value = get_or (vector_at ms i) 0 No }) w [] at)
writes-inside s ms c (Before anchors) are apart i lt w at =
    let v : IsVectorWrite (λ a. i ∷ copy_of ms a ∷ []) anchors (vector_at ms i) w
    = vector-write (λ a. i ∷ copy_of ms a ∷ []) anchors (vector_at ms i) w (Distinct-from_pairs anchors apart) at
    in let Fits : List ℕ → Type 0 = λ us. (length us ≡ 2) × AreIndividuals (length ms) us
    in let anchor : IsAnchor (structure_of s) v.anchor = All-contains (IsAnchor (structure_of s)) anchors v.anchor are v.at
    in subst Fits (sym v.goes) (refl, (lt, (c.inside v.anchor (below-range s.size v.anchor anchor.0), tt)))
writes-inside s ms c (Behind anchors) are apart i lt w at =
    let v : IsVectorWrite (λ a. copy_of ms a ∷ i ∷ []) anchors (vector_at ms i) w
    = vector-write (λ a. copy_of ms a ∷ i ∷ []) anchors (vector_at ms i) w (Distinct-from_pairs anchors apart) at
    in let Fits : List ℕ → Type 0 = λ us. (length us ≡ 2) × AreIndividuals (length ms) us
    in let anchor : IsAnchor (structure_of s) v.anchor = All-contains (IsAnchor (structure_of s)) anchors v.anchor are v.at
    in subst Fits (sym v.goes) (refl, (c.inside v.anchor (below-range s.size v.anchor anchor.0), (lt, tt)))

-- what is put at a tuple is the focused value there
put-is : (s : StructureForm) (pred : ℕ) (ms : List MemberForm) → Copies s ms → (aim : AimForm) → AreAnchors (structure_of s) aim → AreApart aim
    → (tuple : List ℕ) → length tuple ≡ places_of aim → (i : ℕ) → (w : WriteForm) → Contains (copy_writes aim ms i) w → w.tuple ≡ tuple
    → w.value ≡ focused_value (structure_of s) pred aim ms tuple
put-is s pred ms c Alone are apart [] long i w at e = absurd (omega (arith, long))
put-is s pred ms c Alone are apart (j ∷ []) long i w at e =
    let Is : WriteForm → Type 0 = λ v. v.tuple ≡ j ∷ [] → v.value ≡ get_or (vector_at ms j) 0 No
    in ⊎_elim
    (λ here. subst Is here (λ same. let one : i ≡ j = cc in ap (λ x. get_or (vector_at ms x) 0 No) one) e)
    (λ none. absurd (Contains-none w none))
    (Contains-cases (record { tuple = i ∷ []; value = get_or (vector_at ms i) 0 No }) w [] at)
put-is s pred ms c Alone are apart (j ∷ l ∷ more) long i w at e = absurd (omega (arith, long))
put-is s pred ms c (Before anchors) are apart [] long i w at e = absurd (omega (arith, long))
put-is s pred ms c (Before anchors) are apart (j ∷ []) long i w at e = absurd (omega (arith, long))
put-is s pred ms c (Before anchors) are apart (j ∷ l ∷ []) long i w at e =
    let v : IsVectorWrite (λ a. i ∷ copy_of ms a ∷ []) anchors (vector_at ms i) w
    = vector-write (λ a. i ∷ copy_of ms a ∷ []) anchors (vector_at ms i) w (Distinct-from_pairs anchors apart) at
    in let anchor : IsAnchor (structure_of s) v.anchor = All-contains (IsAnchor (structure_of s)) anchors v.anchor are v.at
    in let both : i ∷ copy_of ms v.anchor ∷ [] ≡ j ∷ l ∷ [] = sym v.goes ∙ e
    in let one : i ≡ j = cc both
    in let other : copy_of ms v.anchor ≡ l = cc both
    in let origin : v.anchor ≡ (member_at ms l).origin
    = sym (c.origin v.anchor (below-range s.size v.anchor anchor.0)) ∙ ap (λ x. (member_at ms x).origin) other
    in let base : K3 = value_at s pred ((member_at ms j).origin ∷ (member_at ms l).origin ∷ [])
    in sym (v.value base) ∙ ap (λ x. with_anchor anchors (vector_at ms x) v.anchor base) one
    ∙ ap (λ u. with_anchor anchors (vector_at ms j) u base) origin
put-is s pred ms c (Before anchors) are apart (j ∷ l ∷ x ∷ more) long i w at e = absurd (omega (arith, long))
put-is s pred ms c (Behind anchors) are apart [] long i w at e = absurd (omega (arith, long))
put-is s pred ms c (Behind anchors) are apart (l ∷ []) long i w at e = absurd (omega (arith, long))
put-is s pred ms c (Behind anchors) are apart (l ∷ j ∷ []) long i w at e =
    let v : IsVectorWrite (λ a. copy_of ms a ∷ i ∷ []) anchors (vector_at ms i) w
    = vector-write (λ a. copy_of ms a ∷ i ∷ []) anchors (vector_at ms i) w (Distinct-from_pairs anchors apart) at
    in let anchor : IsAnchor (structure_of s) v.anchor = All-contains (IsAnchor (structure_of s)) anchors v.anchor are v.at
    in let both : copy_of ms v.anchor ∷ i ∷ [] ≡ l ∷ j ∷ [] = sym v.goes ∙ e
    in let one : i ≡ j = cc both
    in let other : copy_of ms v.anchor ≡ l = cc both
    in let origin : v.anchor ≡ (member_at ms l).origin
    = sym (c.origin v.anchor (below-range s.size v.anchor anchor.0)) ∙ ap (λ x. (member_at ms x).origin) other
    in let base : K3 = value_at s pred ((member_at ms l).origin ∷ (member_at ms j).origin ∷ [])
    in sym (v.value base) ∙ ap (λ x. with_anchor anchors (vector_at ms x) v.anchor base) one
    ∙ ap (λ u. with_anchor anchors (vector_at ms j) u base) origin
put-is s pred ms c (Behind anchors) are apart (l ∷ j ∷ x ∷ more) long i w at e = absurd (omega (arith, long))

-- something is put at a tuple, or the focused value there is that of the origins
put-or : (s : StructureForm) (pred : ℕ) (ms : List MemberForm) → Copies s ms → (aim : AimForm) → AreAnchors (structure_of s) aim
    → (tuple : List ℕ) → length tuple ≡ places_of aim → AreIndividuals (length ms) tuple
    → ((w : WriteForm) × Contains (all_writes aim ms) w × (w.tuple ≡ tuple))
    ⊎ (value_at s pred (map (λ x. (member_at ms x).origin) tuple) ≡ focused_value (structure_of s) pred aim ms tuple)
put-or s pred ms c Alone are [] long within = absurd (omega (arith, long))
put-or s pred ms c Alone are (j ∷ []) long within =
    let one : WriteForm = record { tuple = j ∷ []; value = get_or (vector_at ms j) 0 No }
    in inl (
      one,
      Contains-flat_map (copy_writes Alone ms) j one (range_with_len 0 (length ms)) (in_range (length ms) j within.0)
          (Contains-here one []),
      refl,
    )
put-or s pred ms c Alone are (j ∷ l ∷ more) long within = absurd (omega (arith, long))
put-or s pred ms c (Before anchors) are [] long within = absurd (omega (arith, long))
put-or s pred ms c (Before anchors) are (j ∷ []) long within = absurd (omega (arith, long))
put-or s pred ms c (Before anchors) are (j ∷ l ∷ []) long within =
    ⊎_elim
    (λ (at, w, has, goes).
    let anchor : IsAnchor (structure_of s) (member_at ms l).origin
    = All-contains (IsAnchor (structure_of s)) anchors (member_at ms l).origin are at
    in let place : copy_of ms (member_at ms l).origin ≡ l
    = c.sole (member_at ms l).origin l (below-range s.size (member_at ms l).origin anchor.0) anchor.1 within.1.0 refl
    in inl (
      w,
      Contains-flat_map (copy_writes (Before anchors) ms) j w (range_with_len 0 (length ms))
          (in_range (length ms) j within.0) has,
      goes ∙ ap (λ x. j ∷ x ∷ []) place,
    ))
    (λ same. inr same)
    (anchored-or (λ a. j ∷ copy_of ms a ∷ []) anchors (vector_at ms j) (member_at ms l).origin
    (value_at s pred ((member_at ms j).origin ∷ (member_at ms l).origin ∷ [])))
put-or s pred ms c (Before anchors) are (j ∷ l ∷ x ∷ more) long within = absurd (omega (arith, long))
put-or s pred ms c (Behind anchors) are [] long within = absurd (omega (arith, long))
put-or s pred ms c (Behind anchors) are (l ∷ []) long within = absurd (omega (arith, long))
put-or s pred ms c (Behind anchors) are (l ∷ j ∷ []) long within =
    ⊎_elim
    (λ (at, w, has, goes).
    let anchor : IsAnchor (structure_of s) (member_at ms l).origin
    = All-contains (IsAnchor (structure_of s)) anchors (member_at ms l).origin are at
    in let place : copy_of ms (member_at ms l).origin ≡ l
    = c.sole (member_at ms l).origin l (below-range s.size (member_at ms l).origin anchor.0) anchor.1 within.0 refl
    in inl (
      w,
      Contains-flat_map (copy_writes (Behind anchors) ms) j w (range_with_len 0 (length ms))
          (in_range (length ms) j within.1.0) has,
      goes ∙ ap (λ x. x ∷ j ∷ []) place,
    ))
    (λ same. inr same)
    (anchored-or (λ a. copy_of ms a ∷ j ∷ []) anchors (vector_at ms j) (member_at ms l).origin
    (value_at s pred ((member_at ms l).origin ∷ (member_at ms j).origin ∷ [])))
put-or s pred ms c (Behind anchors) are (l ∷ j ∷ x ∷ more) long within = absurd (omega (arith, long))

-- ---- the law

pub chosen_tables_show : ChosenTablesShow
chosen_tables_show s pred aim choice is knows are apart at small =
    splits_show s pred aim choice (chosen_table s pred aim choice) is whole (record {
      is = w.is;
      over = w.over ∙ over;
      size = w.size;
      summaries = w.summaries;
      fresh = w.fresh;
      others = λ q tuple ne has. w.others q tuple ne;
      focused = λ tuple has.
          let entry : HasEntry (table_of t) pred tuple = record {
            arity = ap (λ xs. slice_get xs pred) (sym w.over) ∙ has.arity;
            individuals = subst (λ n. AreIndividuals n tuple) w.size has.individuals;
          }
          in w.values tuple (focused_value (structure_of s) pred aim ms tuple) (told-at tuple entry);
    })
  where
    whole : IsWhole (structure_of s).individuals choice
    whole = choice-whole (structure_of s) pred aim choice at

    laid : AreMembers s choice
    laid = are-members s choice whole

    ms : List MemberForm
    ms = members_in s choice

    t : StructureForm
    t = split s (parts_of choice)

    reads : DrawnReads s
    reads = drawn_reads s is

    over : arities_of t ≡ arities_of s
    over = reads.arities (copies_in choice) t.fresh

    c : Copies s ms
    c = copies-are s pred aim choice at

    fit : Fit t pred (all_writes aim ms)
    fit k d lt =
        let v : WriteForm = get_or (all_writes aim ms) k d
        in let j : IsJoined (copy_writes aim ms) (range_with_len 0 (length ms)) v
        = Contains-from_flat_map (copy_writes aim ms) v (range_with_len 0 (length ms)) (Contains-get_or (all_writes aim ms) k d lt)
        in let inside : (length v.tuple ≡ places_of aim) × AreIndividuals (length ms) v.tuple
        = writes-inside s ms c aim are apart j.source (below-range (length ms) j.source j.at) v j.has
        in record {
          arity = ap (λ xs. slice_get xs pred) over ∙ knows ∙ ap Some (sym inside.0);
          individuals = subst (λ n. AreIndividuals n v.tuple) (sym laid.size) inside.1;
        }

    w : IsWritten t (written t pred (all_writes aim ms)) pred (all_writes aim ms)
    w = is_written t pred (all_writes aim ms) (split-is s choice is whole (omega (arith, laid.size, small))) fit

    told-at : (tuple : List ℕ) → HasEntry (table_of t) pred tuple
        → told (all_writes aim ms) tuple (value_at t pred tuple) (focused_value (structure_of s) pred aim ms tuple)
    told-at tuple has =
        let long : length tuple ≡ places_of aim
        = same_Some (length tuple) (places_of aim) (sym has.arity ∙ ap (λ xs. slice_get xs pred) over ∙ knows)
        in let within : AreIndividuals (length ms) tuple = subst (λ n. AreIndividuals n tuple) laid.size has.individuals
        in let base : value_at t pred tuple ≡ value_at s pred (map (λ x. (member_at ms x).origin) tuple)
        = reads.values (copies_in choice) t.fresh pred tuple has.individuals ∙ ap (value_at s pred) (origins-same ms (copies_in choice) tuple laid.same within)
        in (
          λ v has_v e. let j : IsJoined (copy_writes aim ms) (range_with_len 0 (length ms)) v
              = Contains-from_flat_map (copy_writes aim ms) v (range_with_len 0 (length ms)) has_v
              in put-is s pred ms c aim are apart tuple long j.source v j.has e,
          ⊎_elim (λ found. inl found) (λ same_value. inr (base ∙ same_value)) (put-or s pred ms c aim are tuple long within),
        )
