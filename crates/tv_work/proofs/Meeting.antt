-- A structure is put behind those of a node.
use Rattle.std.proofs.Common.{ℕ, ◌≡◌, ◌≢◌, ◌<◌, ◌≤◌, ◌+◌, ◌-◌, ◌⊎◌, inl, inr, List, [], ◌∷◌, ◌++◌, length}
use Rattle.std.proofs.Common.{Some, refl, sym, ap, subst, ◌∙◌, arith}
use Rattle.std.specs.Prelude.{Contains, sum_by, slice_get}
use Rattle.std.proofs.lemmas.Bool.{cases_eq}
use Rattle.std.proofs.lemmas.List.{get_or-set_same, get_or-set_other, length-append, get_or_append_left}
use Rattle.std.proofs.lemmas.List.{get_or_at}
use Rattle.std.proofs.lemmas.List.Elements.{Contains-append_left, Contains-push, Contains-push_cases}
use Rattle.std.proofs.lemmas.List.Sums.{sum_by-set}
use Rattle.std.proofs.lemmas.Option.{slice_get_within, get_or_from_slice_get, slice_get-get_or}
use Rattle.tv_listing.specs.ListingForm.{at_node, appended}
use Rattle.tv_structure_form.specs.StructureForm.{StructureForm}
use Rattle.tv_work.specs.Reach.{Point, IsListed}
use Rattle.tv_work.specs.Search.{StandsFor}
use Rattle.tv_work.specs.declared.search.Waiting.{Waiting}

module _ (listing : List (List StructureForm)) (node : ℕ) (s : StructureForm)
    (is-node : node < length listing) where
  pub at-same : at_node (appended listing node s) node ≡ at_node listing node ++ s ∷ []
  at-same = get_or-set_same listing node (at_node listing node ++ s ∷ []) [] is-node

  pub at-other : (n : ℕ) → n ≢ node → at_node (appended listing node s) n ≡ at_node listing n
  at-other n differs = get_or-set_other listing node n (at_node listing node ++ s ∷ []) [] differs

  -- what holds of the node with the structure behind, and of the others as they were, holds of each
  pub at-each : (P : ℕ → List StructureForm → Type 0) → P node (at_node listing node ++ s ∷ [])
      → ((n : ℕ) → P n (at_node listing n)) → (n : ℕ) → P n (at_node (appended listing node s) n)
  at-each P here others n = by (cases_eq n node)
    where
      by : (n ≡ node) ⊎ (n ≢ node) → P n (at_node (appended listing node s) n)
      by (inl same) = subst (λ m. P m (at_node (appended listing node s) m)) (sym same)
          (subst (P node) (sym at-same) here)
      by (inr differs) = subst (P n) (sym (at-other n differs)) (others n)

  pub listed-new : IsListed (appended listing node s) (record { node = node; structure = s })
  listed-new = subst (λ l. Contains l s) (sym at-same) (Contains-push (at_node listing node) s)

  listed-at : (x : Point) → (x.node ≡ node) ⊎ (x.node ≢ node) → IsListed (appended listing node s) x
      → IsListed listing x ⊎ (x ≡ record { node = node; structure = s })
  listed-at x (inr differs) has = inl (subst (λ l. Contains l x.structure) (at-other x.node differs) has)
  listed-at x (inl here) has =
      last (Contains-push_cases (at_node listing node) s x.structure
      (subst (λ l. Contains l x.structure) at-same
      (subst (λ n. Contains (at_node (appended listing node s) n) x.structure) here has)))
    where
      last : Contains (at_node listing node) x.structure ⊎ (s ≡ x.structure)
          → IsListed listing x ⊎ (x ≡ record { node = node; structure = s })
      last (inl h) = inl (subst (λ n. Contains (at_node listing n) x.structure) (sym here) h)
      last (inr e) = inr (rw (here, sym e) refl)

  pub listed-cases : (x : Point) → IsListed (appended listing node s) x
      → IsListed listing x ⊎ (x ≡ record { node = node; structure = s })
  listed-cases x has = listed-at x (cases_eq x.node node) has

  pub listed-kept : (x : Point) → IsListed listing x → IsListed (appended listing node s) x
  listed-kept x has = by (cases_eq x.node node)
    where
      by : (x.node ≡ node) ⊎ (x.node ≢ node) → IsListed (appended listing node s) x
      by (inr differs) = subst (λ l. Contains l x.structure) (sym (at-other x.node differs)) has
      by (inl here) = subst (λ n. Contains (at_node (appended listing node s) n) x.structure) (sym here)
          (subst (λ l. Contains l x.structure) (sym at-same)
          (Contains-append_left (at_node listing node) (s ∷ []) x.structure
          (subst (λ n. Contains (at_node listing n) x.structure) here has)))

  slice-kept : (l : List StructureForm) (i : ℕ) (t : StructureForm) → slice_get l i ≡ Some t
      → slice_get (l ++ s ∷ []) i ≡ Some t
  slice-kept l i t e =
      let within : i < length l = slice_get_within l i t e
      in slice_get-get_or (l ++ s ∷ []) i t (rw (length-append l (s ∷ [])) (omega (arith, within)))
      ∙ ap Some (get_or_append_left l (s ∷ []) t i within ∙ get_or_from_slice_get l i t t e)

  pub stands-kept : (w : Waiting) (x : Point) → StandsFor listing w x → StandsFor (appended listing node s) w
      x
  stands-kept w x stands = record { node = stands.node; structure = by (cases_eq w.node node) }
    where
      by : (w.node ≡ node) ⊎ (w.node ≢ node) → slice_get (at_node (appended listing node s) w.node) w.place
          ≡ Some x.structure
      by (inr differs) = subst (λ l. slice_get l w.place ≡ Some x.structure) (sym (at-other w.node differs))
          stands.structure
      by (inl here) = subst (λ n. slice_get (at_node (appended listing node s) n) w.place ≡ Some x.structure)
          (sym here)
          (subst (λ l. slice_get l w.place ≡ Some x.structure) (sym at-same)
          (slice-kept (at_node listing node) w.place x.structure
          (subst (λ n. slice_get (at_node listing n) w.place ≡ Some x.structure) here stands.structure)))

  pub longer : (n : ℕ) → length (at_node listing n) ≤ length (at_node (appended listing node s) n)
  longer n = at-each (λ m l. length (at_node listing m) ≤ length l)
      (rw (length-append (at_node listing node) (s ∷ [])) (omega arith)) (λ m. omega arith) n

  -- the new structure's place
  pub stands-last : (w : Waiting) → w.node ≡ node
      → w.place ≡ length (at_node (appended listing node s) node) - 1
      → StandsFor (appended listing node s) w (record { node = node; structure = s })
  stands-last w here last =
      let l : List StructureForm = at_node listing node
      in let place : w.place ≡ length l = last ∙ ap (λ m. length m - 1) at-same
      ∙ (rw (length-append l (s ∷ [])) (omega arith))
      in record {
        node = here;
        structure = subst (λ n. slice_get (at_node (appended listing node s) n) w.place ≡ Some s) (sym here)
            (subst (λ m. slice_get m w.place ≡ Some s) (sym at-same)
            (slice_get-get_or (l ++ s ∷ []) w.place s (rw (length-append l (s ∷ []), place) (omega arith))
            ∙ ap Some (get_or_at l s [] s w.place (sym place))));
      }

  pub total-more : sum_by length (appended listing node s) ≡ sum_by length listing + 1
  total-more = omega (
    arith,
    sum_by-set length listing node (at_node listing node ++ s ∷ []) [] is-node,
    length-append (at_node listing node) (s ∷ []),
  )
