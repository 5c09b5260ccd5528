-- One more is met: what is then known of the search.
use Rattle.std.proofs.Common.{ℕ, ◌≡◌, ◌<◌, ◌-◌, ◌⊎◌, inl, inr, List, [], ◌∷◌, ◌++◌, length, map}
use Rattle.std.proofs.Common.{◌≤◌, None, Some}
use Rattle.std.proofs.Common.{zero, suc, refl, sym, ap, subst, ◌∙◌, arith}
use Rattle.std.specs.Prelude.{All, Contains, slice_get}
use Rattle.std.proofs.lemmas.List.{length-append, length-map, length-set}
use Rattle.tv_lemmas.proofs.Lists.{pushed_there}
use Rattle.tv_listing.specs.ListingForm.{at_node, appended, HasEqual}
use Rattle.tv_model.proofs.Lists.{Contains-cases, Contains-none}
use Rattle.tv_structure_form.specs.StructureForm.{StructureForm}
use Rattle.tv_work.specs.Reach.{Point, IsListed, AreMoreThan}
use Rattle.tv_work.proofs.Causes.{more-weaker}
use Rattle.tv_work.proofs.Meeting.{listed-cases, listed-kept, listed-new, total-more}
use Rattle.tv_trail_laws.specs.declared.trail.Origin.{Origin}
use Rattle.tv_trail_laws.specs.Met.{Found, IsMet}
use Rattle.tv_trail_laws.proofs.Places.{at-cases, met-more}
use Rattle.tv_trail.specs.declared.search.Met.{Met}
use Rattle.tv_trail.specs.Searched.{TraceForm, found_in, IsPlaced, AreListedMet, Meets}
use Rattle.tv_trail.proofs.Placing.{found-more, placed-equal, placed-over}

-- the search of these fields
abbrev pub trace : List (List StructureForm) → List Met → TraceForm
trace listing met = record { listing = listing; found = map (found_in listing) met }

module _ (listing : List (List StructureForm)) (met : List Met) (placed : IsPlaced listing met) (node : ℕ)
    (s : StructureForm) (plain : s.fresh ≡ None) (listed : AreListedMet (trace listing met)) where
  pub met-before : HasEqual (at_node listing node) s
      → IsMet (trace listing met).found (record { node = node; structure = s })
  met-before has =
      listed.met (record { node = node; structure = s }) (placed-equal listing met placed node s plain has)

  module _ (is-node : node < length listing) (absent : ¬ HasEqual (at_node listing node) s) where
    pub met-over : (max : ℕ) → length met ≡ max
        → AreMoreThan max (λ x. IsMet (trace listing met).found x
        ⊎ (x ≡ record { node = node; structure = s }))
    met-over max full =
        more-weaker max (λ x. IsListed listing x ⊎ (x ≡ record { node = node; structure = s }))
        (λ x. IsMet (trace listing met).found x ⊎ (x ≡ record { node = node; structure = s })) weaker
        (placed-over listing met placed node s plain is-node absent max
        (sym listed.count ∙ length-map met (found_in listing) ∙ full))
      where
        weaker : (x : Point) → IsListed listing x ⊎ (x ≡ record { node = node; structure = s })
            → IsMet (trace listing met).found x ⊎ (x ≡ record { node = node; structure = s })
        weaker x (inl has) = inl (listed.met x has)
        weaker x (inr e) = inr e

    module _ (m : Met) (here : m.node ≡ node)
        (place : m.place ≡ length (at_node (appended listing node s) node) - 1) where
      abbrev one : Found
      one = record { point = record { node = node; structure = s }; origin = m.origin }

      abbrev pub after : TraceForm
      after = trace (appended listing node s) (met ++ m ∷ [])

      found-after : after.found ≡ (trace listing met).found ++ one ∷ []
      found-after = found-more listing node s is-node met m placed.places here place

      pub met-meets : Meets (λ f. f ≡ one) (trace listing met) after
      met-meets = record {
        nodes = length-set listing node (at_node listing node ++ s ∷ []);
        more = one ∷ [];
        is = found-after;
        each = λ k d within. only k d within;
      }
        where
          only : All (λ f. f ≡ one) (one ∷ [])
          only zero d within = refl
          only (suc k) d within = absurd (omega (arith, within))

      pub met-has : IsMet after.found (record { node = node; structure = s })
      met-has = (
        length (trace listing met).found,
        (
          m.origin,
          ap (λ l. slice_get l (length (trace listing met).found)) found-after
              ∙ pushed_there (trace listing met).found one,
        ),
      )

      pub met-listed : AreListedMet after
      met-listed = record {
        met = λ x has. by x (listed-cases listing node s is-node x has);
        listed = λ x (place, (origin, e)).
            stands x origin place
            (at-cases (trace listing met).found (one ∷ []) place (record { point = x; origin = origin })
            (subst (λ l. slice_get l place ≡ Some (record { point = x; origin = origin })) found-after e));
        count = omega (
          arith,
          ap length found-after,
          length-append (trace listing met).found (one ∷ []),
          total-more listing node s is-node,
          listed.count,
        );
      }
        where
          by : (x : Point) → IsListed listing x ⊎ (x ≡ record { node = node; structure = s })
              → IsMet after.found x
          by x (inl has) =
              subst (λ l. IsMet l x) (sym found-after)
              (met-more (trace listing met).found (one ∷ []) x (listed.met x has))
          by x (inr e) = subst (IsMet after.found) (sym e) met-has

          only : (f : Found) → (one ≡ f) ⊎ Contains [] f → IsListed after.listing f.point
          only f (inl e) =
              subst (λ (g : Found). IsListed after.listing g.point) e (listed-new listing node s is-node)
          only f (inr there) = absurd (Contains-none f there)

          stands : (x : Point) (origin : Origin) (place : ℕ)
              → (slice_get (trace listing met).found place ≡ Some (record { point = x; origin = origin }))
              ⊎ ((length (trace listing met).found ≤ place)
              × Contains (one ∷ []) (record { point = x; origin = origin })) → IsListed after.listing x
          stands x origin place (inl was) =
              listed-kept listing node s is-node x (listed.listed x (place, (origin, was)))
          stands x origin place (inr (past, has)) =
              only (record { point = x; origin = origin })
              (Contains-cases one (record { point = x; origin = origin }) [] has)
