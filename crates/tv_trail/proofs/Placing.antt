-- What was met stands where it was put, while the listing grows.
use Rattle.std.proofs.Common.{ℕ, ◌≡◌, ◌<◌, ◌-◌, ◌⊎◌, List, [], ◌∷◌, ◌++◌, length, get_or, map, None}
use Rattle.std.proofs.Common.{Some}
use Rattle.std.proofs.Common.{suc, refl, ap, ◌∙◌, arith}
use Rattle.std.specs.Prelude.{All, slice_get, sum_by}
use Rattle.std.proofs.lemmas.List.{length-append, map-append}
use Rattle.std.proofs.lemmas.List.Elements.{All-push}
use Rattle.std.proofs.lemmas.Option.{slice_get-get_or, get_or_from_slice_get}
use Rattle.tv_listing.specs.ListingForm.{at_node, appended, HasEqual}
use Rattle.tv_structure_form.specs.StructureForm.{StructureForm}
use Rattle.tv_work.specs.Reach.{Point, IsListed, AreMoreThan}
use Rattle.tv_work.specs.Search.{SearchForm, StandsFor, IsSearch}
use Rattle.tv_work.proofs.Growing.{equal-listed, listed-more, one-more}
use Rattle.tv_work.proofs.Meeting.{at-same, longer, stands-kept, stands-last}
use Rattle.tv_trail_laws.specs.Met.{Found}
use Rattle.tv_trail.specs.declared.search.Met.{Met}
use Rattle.tv_trail.specs.Searched.{found_in, no-structure, IsPlaced}

-- ---- what stands at the places

stands-found : (listing : List (List StructureForm)) (m : Met)
    → m.place < length (at_node listing m.node)
    → StandsFor listing (record { node = m.node; place = m.place }) (found_in listing m).point
stands-found listing m within = record {
  node = refl;
  structure = slice_get-get_or (at_node listing m.node) m.place no-structure within;
}

found-is : (listing : List (List StructureForm)) (m : Met) (x : Point)
    → StandsFor listing (record { node = m.node; place = m.place }) x
    → found_in listing m ≡ record { point = x; origin = m.origin }
found-is listing m x stands =
    ap (λ (y : Point). record { point = y; origin = m.origin })
    (same (get_or (at_node listing m.node) m.place no-structure) x stands.node
    (get_or_from_slice_get (at_node listing m.node) m.place x.structure no-structure stands.structure))
  where
    same : (s : StructureForm) (y : Point) → m.node ≡ y.node → s ≡ y.structure
        → record { node = m.node; structure = s } ≡ y
    same s y n e = rw (n, e) refl

-- what was read there is what was met
pub found-read : (listing : List (List StructureForm)) (m : Met) (s : StructureForm)
    → slice_get (at_node listing m.node) m.place ≡ Some s
    → found_in listing m ≡ record { point = record { node = m.node; structure = s }; origin = m.origin }
found-read listing m s e =
    found-is listing m (record { node = m.node; structure = s }) (record { node = refl; structure = e })

-- ---- the listing grows

module _ (listing : List (List StructureForm)) (node : ℕ) (s : StructureForm)
    (is-node : node < length listing) where
  pub found-kept : (met : List Met) → All (λ m. m.place < length (at_node listing m.node)) met
      → map (found_in (appended listing node s)) met ≡ map (found_in listing) met
  found-kept [] all = refl
  found-kept (m ∷ met) all =
      rw (
        found-is (appended listing node s) m (found_in listing m).point
            (stands-kept listing node s is-node (record { node = m.node; place = m.place }) (found_in listing m).point
            (stands-found listing m (all 0 m (omega arith)))),
        found-kept met (λ k d within. all (suc k) d (omega (arith, within))),
      )
      refl

  -- the new one stands behind
  pub found-more : (met : List Met) (m : Met) → All (λ m. m.place < length (at_node listing m.node)) met
      → m.node ≡ node → m.place ≡ length (at_node (appended listing node s) node) - 1
      → map (found_in (appended listing node s)) (met ++ m ∷ [])
      ≡ map (found_in listing) met
      ++ record { point = record { node = node; structure = s }; origin = m.origin } ∷ []
  found-more met m all here last =
      let new : Met → Found = found_in (appended listing node s)
      in map-append new met (m ∷ [])
      ∙ ap (λ l. l ++ new m ∷ []) (found-kept met all)
      ∙ ap (λ (f : Found). map (found_in listing) met ++ f ∷ [])
      (found-is (appended listing node s) m (record { node = node; structure = s })
      (stands-last listing node s is-node (record { node = m.node; place = m.place }) here last))

-- ---- what every search keeps

abbrev alone : List (List StructureForm) → SearchForm
alone listing = record { listing = listing; waiting = []; count = sum_by length listing }

is-search : (listing : List (List StructureForm)) (met : List Met) → IsPlaced listing met
    → IsSearch (alone listing)
is-search listing met placed = record {
  unmarked = placed.unmarked;
  places = λ k d within. absurd (omega (arith, within));
  once = placed.once;
}

module _ (listing : List (List StructureForm)) (met : List Met) (placed : IsPlaced listing met) (node : ℕ)
    (s : StructureForm) (plain : s.fresh ≡ None) where
  -- an equal structure is the same
  pub placed-equal : HasEqual (at_node listing node) s
      → IsListed listing (record { node = node; structure = s })
  placed-equal has = equal-listed (alone listing) node s (is-search listing met placed) plain has

  module _ (is-node : node < length listing) (absent : ¬ HasEqual (at_node listing node) s) where
    more : IsSearch (record {
      listing = appended listing node s;
      waiting = [];
      count = sum_by length listing;
    })
    more = listed-more (alone listing) node s is-node (is-search listing met placed) plain absent
        (sum_by length listing)

    still : All (λ m. m.place < length (at_node (appended listing node s) m.node)) met
    still k d within =
        let m = get_or met k d
        in omega (arith, placed.places k d within, longer listing node s is-node m.node)

    pub placed-more : IsPlaced (appended listing node s) met
    placed-more = record { unmarked = more.unmarked; once = more.once; places = still }

    pub placed-last : (m : Met) → m.node ≡ node
        → m.place ≡ length (at_node (appended listing node s) node) - 1
        → IsPlaced (appended listing node s) (met ++ m ∷ [])
    placed-last m here place = record {
      unmarked = more.unmarked;
      once = more.once;
      places = All-push (λ v. v.place < length (at_node (appended listing node s) v.node)) met m still last;
    }
      where
        last : m.place < length (at_node (appended listing node s) m.node)
        last = rw (here, place)
            (omega (
              arith,
              ap length (at-same listing node s is-node),
              length-append (at_node listing node) (s ∷ []),
            ))

    -- one more than may be met
    pub placed-over : (max : ℕ) → sum_by length listing ≡ max
        → AreMoreThan max (λ x. IsListed listing x ⊎ (x ≡ record { node = node; structure = s }))
    placed-over max full =
        one-more (alone listing) node s is-node (is-search listing met placed) plain absent max
        (record { count = refl; most = omega (arith, full) }) full
