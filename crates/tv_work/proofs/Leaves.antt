-- Edges are put behind those of their sources, one after the other.
use Rattle.std.proofs.Common.{ℕ, ◌≡◌, ◌≢◌, ◌<◌, ◌≤◌, ◌+◌, ◌⊎◌, inl, inr, List, [], ◌∷◌, ◌++◌, length, get_or}
use Rattle.std.proofs.Common.{set, Some, refl, sym, ap, subst, ◌∙◌, arith}
use Rattle.std.specs.Prelude.{◌↔◌, AllPairs, Contains, slice_get}
use Rattle.std.proofs.lemmas.Bool.{cases_eq, cases_lt}
use Rattle.std.proofs.lemmas.List.{get_or-set_same, get_or-set_other, length-set}
use Rattle.std.proofs.lemmas.List.Elements.{Contains-append_left, Contains-get_or, Contains-push}
use Rattle.std.proofs.lemmas.List.Elements.{Contains-push_cases}
use Rattle.std.proofs.lemmas.List.Quantifiers.{all_pairs_push}
use Rattle.std.proofs.lemmas.Option.{slice_get_read, slice_get_within, same_Some}
use Rattle.tv_model.specs.declared.program.Edge.{Edge}
use Rattle.tv_work.specs.Leaving.{AreLeaving, LeavesBy}

-- the first edges, so many, are put behind those of their sources
pub record AreLeavingTo (edges : List Edge) (nodes number : ℕ) (lists : List (List ℕ)) : Type 0 where
  pub count : length lists ≡ nodes
  pub each : (node edge : ℕ) → Contains (get_or lists node []) edge
      ↔ ((edge < number) × LeavesBy edges node edge)
  pub ordered : (node : ℕ) → AllPairs ◌<◌ (get_or lists node [])

pub leaving-all : (edges : List Edge) (nodes number : ℕ) (lists : List (List ℕ))
    → AreLeavingTo edges nodes number lists
    → length edges ≤ number → AreLeaving edges nodes lists
leaving-all edges nodes number lists all past = record {
  count = all.count;
  each = λ node edge. (
    λ has. ((all.each node edge).0 has).1,
    λ (taken, at, from). (all.each node edge).1 (
      omega (arith, past, slice_get_within edges edge taken at),
      (taken, at, from),
    ),
  );
  ordered = all.ordered;
}

module _ (edges : List Edge) (lists : List (List ℕ)) (number : ℕ) (taken : Edge)
    (within : number < length edges)
    (is : taken ≡ get_or edges number taken) (has_node : taken.from < length lists) where
  abbrev own : List ℕ
  own = get_or lists taken.from []

  abbrev pub more : List (List ℕ)
  more = set lists taken.from (own ++ number ∷ [])

  here : slice_get edges number ≡ Some taken
  here = slice_get_read edges (length edges) number taken refl within is

  -- an edge of this number leaves that node alone
  its-node : (node edge : ℕ) → LeavesBy edges node edge → edge ≡ number → node ≡ taken.from
  its-node node edge (other, at, from) e =
      sym from ∙ ap (λ (x : Edge). x.from) (same_Some other taken (sym at ∙ ap (slice_get edges) e ∙ here))

  module _ (before : (node edge : ℕ) → Contains (get_or lists node []) edge
      ↔ ((edge < number) × LeavesBy edges node edge)) where
    at-own : (edge : ℕ) → Contains (own ++ number ∷ []) edge
        ↔ ((edge < number + 1) × LeavesBy edges taken.from edge)
    at-own edge = (
      λ has. into (Contains-push_cases own number edge has),
      λ (lt, leaves).
          back (cases_lt edge number) lt leaves,
    )
      where
        into : Contains own edge ⊎ (number ≡ edge) → (edge < number + 1) × LeavesBy edges taken.from edge
        into (inl has) = let old = (before taken.from edge).0 has in (omega (arith, old.0), old.1)
        into (inr e) = (omega (arith, e), subst (LeavesBy edges taken.from) e (taken, here, refl))

        back : (edge < number) ⊎ (number ≤ edge) → edge < number + 1 → LeavesBy edges taken.from edge
            → Contains (own ++ number ∷ []) edge
        back (inl lt) bound leaves = Contains-append_left own (number ∷ []) edge
            ((before taken.from edge).1 (lt, leaves))
        back (inr past) bound leaves =
            let e : number ≡ edge = omega (arith, past, bound)
            in subst (Contains (own ++ number ∷ [])) e (Contains-push own number)

    at-other : (node edge : ℕ) → node ≢ taken.from
        → Contains (get_or lists node []) edge ↔ ((edge < number + 1) × LeavesBy edges node edge)
    at-other node edge differs = (
      λ has. let old = (before node edge).0 has in (omega (arith, old.0), old.1),
      λ (lt, leaves). back (cases_lt edge number) lt leaves,
    )
      where
        back : (edge < number) ⊎ (number ≤ edge) → edge < number + 1 → LeavesBy edges node edge
            → Contains (get_or lists node []) edge
        back (inl lt) bound leaves = (before node edge).1 (lt, leaves)
        back (inr past) bound leaves
            = absurd (differs (its-node node edge leaves (omega (arith, past, bound))))

    at-each : (node edge : ℕ) → Contains (get_or more node []) edge
        ↔ ((edge < number + 1) × LeavesBy edges node edge)
    at-each node edge = by (cases_eq node taken.from)
      where
        by : (node ≡ taken.from) ⊎ (node ≢ taken.from)
            → Contains (get_or more node []) edge ↔ ((edge < number + 1) × LeavesBy edges node edge)
        by (inl same) = subst (λ n. Contains (get_or more n []) edge
            ↔ ((edge < number + 1) × LeavesBy edges n edge)) (sym same)
            (subst (λ l. Contains l edge ↔ ((edge < number + 1) × LeavesBy edges taken.from edge))
            (sym (get_or-set_same lists taken.from (own ++ number ∷ []) [] has_node)) (at-own edge))
        by (inr differs) = subst (λ l. Contains l edge ↔ ((edge < number + 1) × LeavesBy edges node edge))
            (sym (get_or-set_other lists taken.from node (own ++ number ∷ []) [] differs))
            (at-other node edge differs)

  pub leaving-next : (nodes : ℕ) → AreLeavingTo edges nodes number lists
      → AreLeavingTo edges nodes (number + 1) more
  leaving-next nodes all = record {
    count = length-set lists taken.from (own ++ number ∷ []) ∙ all.count;
    each = at-each all.each;
    ordered = λ node. by node (cases_eq node taken.from);
  }
    where
      by : (node : ℕ) → (node ≡ taken.from) ⊎ (node ≢ taken.from) → AllPairs ◌<◌ (get_or more node [])
      by node (inl same) =
          subst (λ n. AllPairs ◌<◌ (get_or more n [])) (sym same)
          (subst (AllPairs ◌<◌) (sym (get_or-set_same lists taken.from (own ++ number ∷ []) [] has_node))
          (all_pairs_push ◌<◌ own number (all.ordered taken.from)
          (λ k d lt. ((all.each taken.from (get_or own k d)).0 (Contains-get_or own k d lt)).0)))
      by node (inr differs) =
          subst (AllPairs ◌<◌) (sym (get_or-set_other lists taken.from node (own ++ number ∷ []) [] differs)) (all.ordered node)
