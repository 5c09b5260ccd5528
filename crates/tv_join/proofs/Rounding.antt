-- One round after the other.
use Rattle.std.proofs.Common.{ℕ, ◌≡◌, ◌≢◌, ◌<◌, ◌≤◌, ◌+◌, ◌-◌, ◌*◌, ◌⊎◌, zero, suc, inl, inr, List, [], ◌∷◌}
use Rattle.std.proofs.Common.{length, get_or, replicate, Option, None, Some, refl, sym, ap, subst, ◌∙◌, arith}
use Rattle.std.specs.Prelude.{All, AllPairs, Contains, slice_get, ◌↔◌}
use Rattle.std.proofs.lemmas.Bool.{cases_lt}
use Rattle.std.proofs.lemmas.List.{get_or_default, length-replicate}
use Rattle.std.proofs.lemmas.List.Sums.{sum_by-cons}
use Rattle.std.proofs.lemmas.Option.{none-some, same_Some, slice_get-get_or}
use Rattle.tv_kleene.specs.declared.K3.{K3}
use Rattle.tv_model.specs.Program.{ProgramForm}
use Rattle.tv_model.specs.Valid.{IsValid}
use Rattle.tv_model.proofs.Lists.{All-from_contains, Contains-none}
use Rattle.tv_model.proofs.Parts.{start-node}
use Rattle.tv_listing.specs.ListingForm.{at_node}
use Rattle.tv_structure_form.specs.StructureForm.{StructureForm}
use Rattle.tv_step_laws.specs.Budgets.{MeetsSplits, MeetsIndividuals}
use Rattle.tv_step_laws.proofs.Exact.{results-once}
use Rattle.tv_join.specs.Pairwise.{IsUnder}
use Rattle.tv_join.specs.Members.{MembersForm}
use Rattle.tv_work.specs.Analyzed.{KeepAllBudgets, Meets}
use Rattle.tv_work.specs.Reach.{Point, IsStartPoint}
use Rattle.tv_work.specs.Task.{TaskForm}
use Rattle.tv_join.specs.Flags.{IsPlain}
use Rattle.tv_join.specs.Joined.{AreAtMost, IsJoinCause}
use Rattle.tv_join.specs.Keys.{key_of, HasKey, IsJoinByKey}
use Rattle.tv_join.specs.Places.{member_place}
use Rattle.tv_join.specs.Rounds.{point, IsFollowed}
use Rattle.tv_join.specs.State.{JoinsForm, no_members, IsAbsorbed, IsAmongFound, IsIn, IsJoinState, IsNode}
use Rattle.tv_join.specs.State.{StandsAt, listing_of, members_at, total_of}
use Rattle.tv_join.specs.Stepped.{AreAllFollowed, AreFollowed, AreIn, AreJoinsOf, AreOpenings, AreStepped}
use Rattle.tv_join.specs.Stepped.{GatheredForm, HaveBeenFollowed, HaveMet, IsAtLastRound, IsAtRound}
use Rattle.tv_join.specs.Stepped.{IsAtSomeRound, IsFollowCause, IsFollowedAlong, IsFollowedAt, IsFollowedFrom}
use Rattle.tv_join.specs.Stepped.{IsMeetingCause, IsPlaced, IsPlacedFound, IsRoundOn, Rises}
use Rattle.tv_join.specs.Task.{round_in}
use Rattle.tv_join.specs.Values.{values_at}
use Rattle.tv_join.specs.Weight.{listing_weight, most_structure}
use Rattle.tv_work.specs.declared.error.WorkError.{WorkError}
use Rattle.tv_work.specs.declared.error.WorkError.TheVariants.{Structures, Splits, Individuals, Memory}
use Rattle.tv_join.specs.declared.joins.Found.{Found}
use Rattle.tv_join.specs.declared.places.Place.{Place}
use Rattle.tv_join.proofs.Following.{along-weaker, followed-weaker, in-stands, settled-plain, stands-in}
use Rattle.tv_join.proofs.JoinLaws.{join-like, under-itself, under-trans}
use Rattle.tv_join.proofs.Meeting.{listed-joins, listed-plain}
use Rattle.tv_join.proofs.Nodes.{listing-at, node-none, none-at}
use Rattle.tv_join.proofs.Putting.{joins-above, joins-absorb, joins-exact}
use Rattle.tv_join.proofs.Weights.{total-bound}

-- ---- joins of the same structures

pub by-key-like : (p : ProgramForm) (X Y : StructureForm → Type 0) → ((s : StructureForm) → X s → Y s)
    → ((s : StructureForm) → Y s → X s) → (t : StructureForm) → IsJoinByKey p X t → IsJoinByKey p Y t
by-key-like p X Y to from t (key, (s, (x, k)), join) =
    (key, (s, (to s x, k)), join-like p (HasKey p X key) (HasKey p Y key) t (λ r (y, e). (to r y, e)) (λ r (y, e). (from r y, e)) join)

followed-like : (t : TaskForm) (P Q : Point → Type 0) → ((x : Point) → P x → Q x) → (x : Point)
    → IsFollowed t.program t.mode P x → IsFollowed t.program t.mode Q x
followed-like t P Q to x (before, has, follows) = (before, to before has, follows)

-- what the next round lists, where a round lists these points
pub next-round : (t : TaskForm) (round : ℕ) (P : Point → Type 0) → ((x : Point) → P x → round_in t round x)
    → ((x : Point) → round_in t round x → P x) → (x : Point)
    → IsJoinByKey t.program (λ s. P (point x.node s) ⊎ IsFollowed t.program t.mode P (point x.node s)) x.structure
    ↔ round_in t (suc round) x
next-round t round P to from x = (
  by-key-like t.program X Y (λ s has. up s has) (λ s has. down s has) x.structure,
  by-key-like t.program Y X (λ s has. down s has) (λ s has. up s has) x.structure,
)
  where
    X : StructureForm → Type 0
    X s = P (point x.node s) ⊎ IsFollowed t.program t.mode P (point x.node s)

    Y : StructureForm → Type 0
    Y s = round_in t round (point x.node s) ⊎ IsFollowed t.program t.mode (round_in t round) (point x.node s)

    up : (s : StructureForm) → X s → Y s
    up s (inl has) = inl (to (point x.node s) has)
    up s (inr has) = inr (followed-like t P (round_in t round) to (point x.node s) has)

    down : (s : StructureForm) → Y s → X s
    down s (inl has) = inl (from (point x.node s) has)
    down s (inr has) = inr (followed-like t (round_in t round) P from (point x.node s) has)

-- ---- what is joined is absorbed

module _ (t : TaskForm) (old new : List MembersForm) (found : List Found)
    (plain : (x : Point) → IsIn old x → IsPlain t.program x.structure) (placed : (x : Point) → IsAmongFound found x → IsPlaced t x)
    (joins : AreJoinsOf t old new found) where
  met-plain : (k : ℕ) (s : StructureForm) → IsIn old (point k s) ⊎ IsAmongFound found (point k s) → IsPlain t.program s
  met-plain k s (inl has) = plain (point k s) has
  met-plain k s (inr has) = (placed (point k s) has).plain

  -- what was listed or found lies under what is listed
  pub met-absorbed : (x : Point) → IsIn old x ⊎ IsAmongFound found x → IsAbsorbed t.program new x
  met-absorbed x has =
      let above = joins-above t.program (λ s. IsIn old (point x.node s) ⊎ IsAmongFound found (point x.node s)) (met-plain x.node)
      (at_node (listing_of new) x.node) (joins x.node) x.structure has
      in (above.0, above.1, above.2, above.3)

  -- and so does what lay under that
  pub absorbed-on : (x : Point) → IsAbsorbed t.program old x → IsAbsorbed t.program new x
  absorbed-on x (s, has, key, under) =
      let above = met-absorbed (point x.node s) (inl has)
      in (above.0, above.1, key ∙ above.2, under-trans x.structure s above.0 under above.3)

  -- where all that is found are results of what was listed, and all others of these are absorbed, the next round is
  -- listed
  pub met-round : ((x : Point) → IsFollowed t.program t.mode (IsIn old) x → IsAmongFound found x ⊎ IsAbsorbed t.program old x)
      → ((x : Point) → IsAmongFound found x → IsFollowed t.program t.mode (IsIn old) x) → (x : Point)
      → IsIn new x
      ↔ IsJoinByKey t.program (λ s. IsIn old (point x.node s) ⊎ IsFollowed t.program t.mode (IsIn old) (point x.node s)) x.structure
  met-round all only x = (
    λ has. by-key-like t.program Z Y (λ s is. forget s is) (λ s is. more s is) x.structure (exact.0 has),
    λ is. exact.1 (by-key-like t.program Y Z (λ s is'. more s is') (λ s is'. forget s is') x.structure is),
  )
    where
      X : StructureForm → Type 0
      X s = IsIn old (point x.node s) ⊎ IsAmongFound found (point x.node s)

      Y : StructureForm → Type 0
      Y s = IsIn old (point x.node s) ⊎ IsFollowed t.program t.mode (IsIn old) (point x.node s)

      Z : StructureForm → Type 0
      Z s = X s ⊎ IsFollowed t.program t.mode (IsIn old) (point x.node s)

      -- a result lies under what was listed or found
      under : (s : StructureForm) → IsAmongFound found (point x.node s) ⊎ IsAbsorbed t.program old (point x.node s)
          → (r : StructureForm) × X r × (key_of t.program s ≡ key_of t.program r) × IsUnder s r
      under s (inl has) = (s, inr has, refl, under-itself s)
      under s (inr (r, has, key, up)) = (r, inl has, key, up)

      exact : IsIn new x ↔ IsJoinByKey t.program Z x.structure
      exact = joins-exact t.program Z (at_node (listing_of new) x.node)
          (joins-absorb t.program X (λ s. IsFollowed t.program t.mode (IsIn old) (point x.node s))
          (at_node (listing_of new) x.node) (λ s is. under s (all (point x.node s) is)) (joins x.node)) x.structure

      forget : (s : StructureForm) → Z s → Y s
      forget s (inl (inl has)) = inl has
      forget s (inl (inr has)) = inr (only (point x.node s) has)
      forget s (inr is) = inr is

      more : (s : StructureForm) → Y s → Z s
      more s (inl has) = inl (inl has)
      more s (inr is) = inr is

-- ---- the first round

pub starts-placed : (t : TaskForm) → IsValid t.program → (found : List Found) → AreOpenings t t.initial found → (x : Point)
    → IsAmongFound found x → IsPlaced t x
starts-placed t valid found are x has =
    let only = are.only x has
    in record {
      node = subst (λ n. n < length t.program.nodes) (sym only.0.node) (start-node t.program valid);
      plain = settled-plain t.program x.structure only.1;
      stable = only.1.stable;
    }

pub placed-found : (t : TaskForm) (found : List Found) → ((x : Point) → IsAmongFound found x → IsPlaced t x)
    → All (IsPlacedFound t) found
placed-found t found placed =
    All-from_contains (IsPlacedFound t) found (λ f has. placed (record { node = f.node; structure = f.structure }) has)

nothing-total : (n : ℕ) → total_of (replicate n no_members) ≡ 0
nothing-total zero = refl
nothing-total (suc n) = omega (arith, sum_by-cons length [] (listing_of (replicate n no_members)), nothing-total n)

pub nothing-in : (n : ℕ) (x : Point) → IsIn (replicate n no_members) x → ⊥
nothing-in n x has =
    Contains-none x.structure (subst (λ xs. Contains xs x.structure)
    (listing-at (replicate n no_members) x.node ∙ ap (λ (m : MembersForm). m.structures) (none-at n x.node)) has)

-- nothing is listed at first
pub nothing-kept : (t : TaskForm) (n : ℕ) (j : JoinsForm) → n ≡ length t.program.nodes
    → j ≡ record { nodes = replicate n no_members; room = Some t.max; changed = [] } → IsJoinState t j
nothing-kept t n j count e = subst (IsJoinState t) (sym e) (record {
  nodes = length-replicate n no_members ∙ count;
  each = λ k. subst (IsNode t.program) (sym (none-at n k)) (node-none t.program);
  room = omega (arith, nothing-total n);
  places = λ w has. absurd (Contains-none w has);
  stable = λ w s stands.
      absurd (nothing-in n (point w.node s) (stands-in (replicate n no_members) w s stands));
})

module _ (t : TaskForm) (valid : IsValid t.program) (n : ℕ) (old new : JoinsForm) (found : List Found)
    (e : old ≡ record { nodes = replicate n no_members; room = Some t.max; changed = [] })
    (are : AreOpenings t t.initial found) (met : HaveMet t old found new) where
  none-in : (x : Point) → IsIn old.nodes x → ⊥
  none-in x has = nothing-in n x (subst (λ (j : JoinsForm). IsIn j.nodes x) e has)

  none-plain : (x : Point) → IsIn old.nodes x → IsPlain t.program x.structure
  none-plain x has = absurd (none-in x has)

  first-exact : (x : Point) → IsIn new.nodes x ↔ round_in t 0 x
  first-exact x =
      let X : StructureForm → Type 0 = λ s. IsIn old.nodes (point x.node s) ⊎ IsAmongFound found (point x.node s)
      in let Y : StructureForm → Type 0 = λ s. IsStartPoint t.program t.initial (point x.node s)
      in let exact = joins-exact t.program X (at_node (listing_of new.nodes) x.node) (met.joins x.node) x.structure
      in (
        λ has. by-key-like t.program X Y (λ s is. up s is) (λ s is. inr (are.all (point x.node s) is)) x.structure (exact.0 has),
        λ is. exact.1 (by-key-like t.program Y X (λ s is'. inr (are.all (point x.node s) is')) (λ s is'. up s is') x.structure is),
      )
    where
      up : (s : StructureForm) → IsIn old.nodes (point x.node s) ⊎ IsAmongFound found (point x.node s)
          → IsStartPoint t.program t.initial (point x.node s)
      up s (inl has) = absurd (none-in (point x.node s) has)
      up s (inr has) = (are.only (point x.node s) has).0

  -- none of what is listed stood there before
  first-fresh : (values : List (List (List K3))) → HaveBeenFollowed t new (IsAbsorbed t.program new.nodes) values
  first-fresh values w = by (slice_get (members_at new.nodes w.node).structures w.at) refl
    where
      changed : (s : StructureForm) → Contains new.changed w ⊎ StandsAt old.nodes w s → Contains new.changed w
      changed s (inl has) = has
      changed s (inr stands) = absurd (none-in (point w.node s) (stands-in old.nodes w s stands))

      by : (o : Option StructureForm) → slice_get (members_at new.nodes w.node).structures w.at ≡ o
          → Contains new.changed w ⊎ IsFollowedFrom t new.nodes (IsAbsorbed t.program new.nodes) values w
      by None none = inr (λ edge leaves taken is s stands. absurd (none-some s (sym none ∙ stands)))
      by (Some s) stands = inl (changed s (met.stay w s stands))

  pub first-round : total_of new.nodes ≤ t.max → (values : List (List (List K3))) → IsAtSomeRound t new values
  first-round within values = record {
    round = 0;
    at = record {
      kept = met.kept;
      listed = λ x. (first-exact x).0;
      all = λ x. (first-exact x).1;
      within = within;
      opened = record {
        any = are.any;
        absorbed = λ x start.
            met-absorbed t old.nodes new.nodes found none-plain (starts-placed t valid found are) met.joins x (inr (are.all x start));
      };
      budgets = λ before lt. absurd (omega (arith, lt));
      rounds = λ before le. rounds before (omega (arith, le));
    };
    followed = first-fresh values;
  }
    where
      rounds : (before : ℕ) → before ≡ 0 → AreAtMost t.max (round_in t before)
      rounds before is = subst (λ r. AreAtMost t.max (round_in t r)) (sym is)
          (record { found = listing_of new.nodes; all = λ x. (first-exact x).1; most = within })

-- more than may be listed are different structures that the round lists
pub too-many : (t : TaskForm) (j : JoinsForm) (round : ℕ) → IsJoinState t j → ((x : Point) → IsIn j.nodes x → round_in t round x)
    → t.max < total_of j.nodes → IsJoinCause t.program t.mode t.initial t.max Structures
too-many t j round kept listed more = (
  round,
  record {
    found = listing_of j.nodes;
    different = λ k d lt. subst (AllPairs (λ s r. s ≢ r)) (get_or_default (listing_of j.nodes) k [] d lt) (different k);
    each = listed;
    more = more;
  },
)
  where
    different : (k : ℕ) → AllPairs (λ s r. s ≢ r) (at_node (listing_of j.nodes) k)
    different k a b d before within same =
        let xs = at_node (listing_of j.nodes) k
        in let are = listed-joins t j kept k
        in let e : a ≡ b
        = are.own a b (get_or xs a d) (get_or xs b d) (slice_get-get_or xs a d (omega (arith, before, within)))
        (slice_get-get_or xs b d within) (ap (key_of t.program) same)
        in omega (arith, e, before)

pub first-cause : (t : TaskForm) (valid : IsValid t.program) (n : ℕ) (old new : JoinsForm) (found : List Found)
    → old ≡ record { nodes = replicate n no_members; room = Some t.max; changed = [] }
    → AreOpenings t t.initial found → HaveMet t old found new → t.max < total_of new.nodes
    → IsJoinCause t.program t.mode t.initial t.max Structures
first-cause t valid n old new found e are met more =
    too-many t new 0 met.kept (λ x. (first-exact t valid n old new found e are met x).0) more

-- ---- what is followed between two rounds

-- what changed is followed now, and all else was before, so that all of it is
module _ (t : TaskForm) (j : JoinsForm) (A : Point → Type 0) (found : List Found) (old new : List (List (List K3)))
    (before : HaveBeenFollowed t j A old)
    (are : AreFollowed t j.nodes j.changed (record { found = found; values = new }) old) where
  pub all-followed : AreAllFollowed t j.nodes (λ x. IsAmongFound found x ⊎ A x) new
  all-followed w edge leaves = by (are.others w edge leaves)
    where
      now : Contains j.changed w → IsFollowedAlong t j.nodes (λ x. IsAmongFound found x ⊎ A x) new w edge
      now has =
          along-weaker t j.nodes (IsAmongFound found) (λ x. IsAmongFound found x ⊎ A x) new new (λ x is. inl is) w edge refl
          (are.done w has edge leaves)

      earlier : values_at new edge w.at ≡ values_at old edge w.at
          → Contains j.changed w ⊎ IsFollowedFrom t j.nodes A old w
          → IsFollowedAlong t j.nodes (λ x. IsAmongFound found x ⊎ A x) new w edge
      earlier same (inl has) = now has
      earlier same (inr followed) =
          along-weaker t j.nodes A (λ x. IsAmongFound found x ⊎ A x) old new (λ x is. inr is) w edge same (followed edge leaves)

      by : Contains j.changed w ⊎ (values_at new edge w.at ≡ values_at old edge w.at)
          → IsFollowedAlong t j.nodes (λ x. IsAmongFound found x ⊎ A x) new w edge
      by (inl has) = now has
      by (inr same) = earlier same (before w)

-- where nothing changed all was followed
pub none-changed : (t : TaskForm) (j : JoinsForm) (A : Point → Type 0) (values : List (List (List K3)))
    → HaveBeenFollowed t j A values → j.changed ≡ [] → AreAllFollowed t j.nodes A values
none-changed t j A values before none w = by (before w)
  where
    by : Contains j.changed w ⊎ IsFollowedFrom t j.nodes A values w → IsFollowedFrom t j.nodes A values w
    by (inl has) = absurd (Contains-none w (subst (λ ws. Contains ws w) none has))
    by (inr followed) = followed

module _ (t : TaskForm) (valid : IsValid t.program) (nodes : List MembersForm) (A : Point → Type 0)
    (values : List (List (List K3))) (followed : AreAllFollowed t nodes A values) where
  -- the results of all that is listed have the property
  pub results-have : (x : Point) → IsFollowed t.program t.mode (IsIn nodes) x → A x
  results-have x (before, has, (edge, taken, leads)) =
      let stands = in-stands nodes before.node before.structure has
      in let one : IsFollowedAt t A values edge taken stands.0 before.structure
      = followed (member_place before.node stands.0) edge (taken, leads.is_edge, leads.leaves) taken leads.is_edge
      before.structure stands.1
      in let same = results-once t.program valid t.mode edge before.structure leads.result.0 one.results leads.result.1
      one.are_results
      in subst (λ n. A (point n x.structure)) (sym leads.enters)
      (one.covered x.structure (subst (λ rs. Contains rs x.structure) same leads.result.2))

  -- and its steps keep the budgets
  pub budgets-kept : KeepAllBudgets t.program (IsIn nodes)
  budgets-kept edge x source =
      let stands = in-stands nodes x.node x.structure source.has
      in (followed (member_place x.node stands.0) edge (source.taken, source.is_edge, source.leaves) source.taken source.is_edge
      x.structure stands.1).budgets

all-budgets : (p : ProgramForm) (P Q : Point → Type 0) → ((x : Point) → Q x → P x) → KeepAllBudgets p P → KeepAllBudgets p Q
all-budgets p P Q to all edge x source =
    all edge x (record { taken = source.taken; is_edge = source.is_edge; leaves = source.leaves; has = to x source.has })

-- ---- one round on

module _ (t : TaskForm) (valid : IsValid t.program) (round : ℕ) (old middle new : JoinsForm) (found : List Found)
    (before values : List (List (List K3))) (at : IsAtRound t round old)
    (have : HaveBeenFollowed t old (IsAbsorbed t.program old.nodes) before)
    (are : AreFollowed t old.nodes old.changed (record { found = found; values = values }) before)
    (nodes : middle.nodes ≡ old.nodes) (met-middle : HaveMet t middle found new) where
  abbrev A : Point → Type 0
  A x = IsAmongFound found x ⊎ IsAbsorbed t.program old.nodes x

  old-plain : (x : Point) → IsIn old.nodes x → IsPlain t.program x.structure
  old-plain = listed-plain t old at.kept

  placed : (x : Point) → IsAmongFound found x → IsPlaced t x
  placed x has = (are.only x has).1

  all-are : AreAllFollowed t old.nodes A values
  all-are = all-followed t old (IsAbsorbed t.program old.nodes) found before values have are

  joins : AreJoinsOf t old.nodes new.nodes found
  joins = subst (λ ns. AreJoinsOf t ns new.nodes found) nodes met-middle.joins

  next-exact : (x : Point) → IsIn new.nodes x ↔ round_in t (suc round) x
  next-exact x =
      let here = met-round t old.nodes new.nodes found old-plain placed joins
      (results-have t valid old.nodes A values all-are) (λ y has. (are.only y has).0) x
      in let on = next-round t round (IsIn old.nodes) at.listed at.all x
      in (λ has. on.0 (here.0 has), λ is. here.1 (on.1 is))

  budgets-here : KeepAllBudgets t.program (round_in t round)
  budgets-here =
      all-budgets t.program (IsIn old.nodes) (round_in t round) at.all (budgets-kept t valid old.nodes A values all-are)

  later-round : total_of new.nodes ≤ t.max → IsAtRound t (suc round) new
  later-round within = record {
    kept = met-middle.kept;
    listed = λ x. (next-exact x).0;
    all = λ x. (next-exact x).1;
    within = within;
    opened = record {
      any = at.opened.any;
      absorbed = λ x start. absorbed-on t old.nodes new.nodes found old-plain placed joins x (at.opened.absorbed x start);
    };
    budgets = λ earlier lt. budgets earlier lt (cases_lt earlier round);
    rounds = λ earlier le. rounds earlier le (cases_lt earlier (suc round));
  }
    where
      budgets : (earlier : ℕ) → earlier < suc round → (earlier < round) ⊎ (round ≤ earlier) → KeepAllBudgets t.program (round_in t earlier)
      budgets earlier lt (inl less) = at.budgets earlier less
      budgets earlier lt (inr past) =
          let same : round ≡ earlier = omega (arith, lt, past)
          in subst (λ r. KeepAllBudgets t.program (round_in t r)) same budgets-here

      rounds : (earlier : ℕ) → earlier ≤ suc round → (earlier < suc round) ⊎ (suc round ≤ earlier) → AreAtMost t.max (round_in t earlier)
      rounds earlier le (inl less) = at.rounds earlier (omega (arith, less))
      rounds earlier le (inr past) =
          let same : suc round ≡ earlier = omega (arith, le, past)
          in subst (λ r. AreAtMost t.max (round_in t r)) same
          (record { found = listing_of new.nodes; all = λ x. (next-exact x).1; most = within })

  -- what was found or absorbed is absorbed
  still-absorbed : (x : Point) → A x → IsAbsorbed t.program new.nodes x
  still-absorbed x (inl has) = met-absorbed t old.nodes new.nodes found old-plain placed joins x (inr has)
  still-absorbed x (inr was) = absorbed-on t old.nodes new.nodes found old-plain placed joins x was

  -- what stood there before was followed
  next-followed : HaveBeenFollowed t new (IsAbsorbed t.program new.nodes) values
  next-followed w = by (slice_get (members_at new.nodes w.node).structures w.at) refl
    where
      stood : (s : StructureForm) → StandsAt new.nodes w s → Contains new.changed w ⊎ StandsAt middle.nodes w s
          → Contains new.changed w ⊎ IsFollowedFrom t new.nodes (IsAbsorbed t.program new.nodes) values w
      stood s stands (inl has) = inl has
      stood s stands (inr was) =
          let before-this : StandsAt old.nodes w s = subst (λ ns. StandsAt ns w s) nodes was
          in inr (λ edge leaves taken is r stands_r.
          let same : s ≡ r = same_Some s r (sym stands ∙ stands_r)
          in followed-weaker t A (IsAbsorbed t.program new.nodes) values values still-absorbed edge taken w.at r refl
          (all-are w edge leaves taken is r (subst (StandsAt old.nodes w) same before-this)))

      by : (o : Option StructureForm) → slice_get (members_at new.nodes w.node).structures w.at ≡ o
          → Contains new.changed w ⊎ IsFollowedFrom t new.nodes (IsAbsorbed t.program new.nodes) values w
      by None none = inr (λ edge leaves taken is s stands. absurd (none-some s (sym none ∙ stands)))
      by (Some s) stands = stood s stands (met-middle.stay w s stands)

  pub round-on : total_of new.nodes ≤ t.max → IsRoundOn t old new values
  round-on within = record {
    at = record { round = suc round; at = later-round within; followed = next-followed };
    rises = subst (λ ns. Rises (listing_of ns) new) nodes met-middle.rises;
  }

  pub round-cause : t.max < total_of new.nodes → IsJoinCause t.program t.mode t.initial t.max Structures
  round-cause more = too-many t new (suc round) met-middle.kept (λ x. (next-exact x).0) more

-- ---- the last round

-- where nothing changed, the next round lists the same
module _ (t : TaskForm) (valid : IsValid t.program) (round : ℕ) (j : JoinsForm) (values : List (List (List K3)))
    (at : IsAtRound t round j) (followed : AreAllFollowed t j.nodes (IsAbsorbed t.program j.nodes) values) where
  last-exact : (x : Point) → IsIn j.nodes x ↔ round_in t (suc round) x
  last-exact x =
      let exact = joins-exact t.program (λ s. IsIn j.nodes (point x.node s)
      ⊎ IsFollowed t.program t.mode (IsIn j.nodes) (point x.node s)) (at_node (listing_of j.nodes) x.node)
      (joins-absorb t.program (λ s. IsIn j.nodes (point x.node s))
      (λ s. IsFollowed t.program t.mode (IsIn j.nodes) (point x.node s)) (at_node (listing_of j.nodes) x.node)
      (λ s is. absorbed s (results-have t valid j.nodes (IsAbsorbed t.program j.nodes) values followed (point x.node s) is))
      (listed-joins t j at.kept x.node)) x.structure
      in let on = next-round t round (IsIn j.nodes) at.listed at.all x
      in (λ has. on.0 (exact.0 has), λ is. exact.1 (on.1 is))
    where
      absorbed : (s : StructureForm) → IsAbsorbed t.program j.nodes (point x.node s)
          → (r : StructureForm) × IsIn j.nodes (point x.node r) × (key_of t.program s ≡ key_of t.program r) × IsUnder s r
      absorbed s is = is

  pub last-round : (told : List (List K3)) → AreStepped t j.nodes (IsAbsorbed t.program j.nodes) told
      → IsAtLastRound t j told
  last-round told stepped = record {
    round = round;
    at = at;
    last = λ x. (λ is. (last-exact x).0 (at.all x is), λ is. at.listed x ((last-exact x).1 is));
    budgets = all-budgets t.program (IsIn j.nodes) (round_in t round) at.all
        (budgets-kept t valid j.nodes (IsAbsorbed t.program j.nodes) values followed);
    stepped = stepped;
  }

-- ---- causes

meets-weaker : (p : ProgramForm) (Budget : (edge : ℕ) → StructureForm → Type 0) (P Q : Point → Type 0)
    → ((x : Point) → P x → Q x) → Meets p Budget P → Meets p Budget Q
meets-weaker p Budget P Q to meets = record {
  edge = meets.edge;
  at = meets.at;
  source = record {
    taken = meets.source.taken;
    is_edge = meets.source.is_edge;
    leaves = meets.source.leaves;
    has = to meets.at meets.source.has;
  };
  budget = meets.budget;
}

pub follow-cause : (t : TaskForm) (round : ℕ) (j : JoinsForm) → IsAtRound t round j → (e : WorkError)
    → IsFollowCause t.program (IsIn j.nodes) e → IsJoinCause t.program t.mode t.initial t.max e
follow-cause t round j at Structures cause = absurd cause
follow-cause t round j at Splits cause =
    (round, meets-weaker t.program (MeetsSplits t.program) (IsIn j.nodes) (round_in t round) at.listed cause)
follow-cause t round j at Individuals cause =
    (round, meets-weaker t.program (MeetsIndividuals t.program) (IsIn j.nodes) (round_in t round) at.listed cause)
follow-cause t round j at Memory cause = tt

-- ---- weights

-- what is listed doesn't weigh more than the bound
pub round-bound : (t : TaskForm) (round : ℕ) (j : JoinsForm) → IsAtRound t round j
    → listing_weight (listing_of j.nodes) ≤ t.max * most_structure t
round-bound t round j at =
    total-bound t (listing_of j.nodes)
    (λ k d lt. subst (All (IsPlain t.program)) (get_or_default (listing_of j.nodes) k [] d lt)
    (All-from_contains (IsPlain t.program) (at_node (listing_of j.nodes) k)
    (λ s has. listed-plain t j at.kept (point k s) has))) at.within

-- ---- as the calls go

-- the places of what changed are handed out
module _ (t : TaskForm) (old new : JoinsForm) (places : List Place) (taken : places ≡ old.changed)
    (left : new ≡ record { nodes = old.nodes; room = old.room; changed = [] }) where
  pub taken-nodes : new.nodes ≡ old.nodes
  taken-nodes = ap (λ (j : JoinsForm). j.nodes) left

  pub taken-kept : IsJoinState t old → IsJoinState t new
  taken-kept kept = subst (IsJoinState t) (sym left) (record {
    nodes = kept.nodes;
    each = kept.each;
    room = kept.room;
    places = λ w has. absurd (Contains-none w has);
    stable = kept.stable;
  })

  pub taken-in : IsJoinState t old → AreIn new.nodes places
  taken-in kept w has =
      subst (λ ns. w.at < length (members_at ns w.node).structures) (sym taken-nodes)
      (kept.places w (subst (λ ws. Contains ws w) taken has))

  pub taken-followed : (g : GatheredForm) (before : List (List (List K3))) → AreFollowed t new.nodes places g before
      → AreFollowed t old.nodes old.changed g before
  taken-followed g before are =
      subst (λ ws. AreFollowed t old.nodes ws g before) taken (subst (λ ns. AreFollowed t ns places g before) taken-nodes are)

  pub taken-cause : (e : WorkError) → IsFollowCause t.program (IsIn new.nodes) e → IsFollowCause t.program (IsIn old.nodes) e
  taken-cause e cause = subst (λ ns. IsFollowCause t.program (IsIn ns) e) taken-nodes cause

pub start-cause : (t : TaskForm) (valid : IsValid t.program) (n : ℕ) (old new : JoinsForm) (found : List Found)
    → old ≡ record { nodes = replicate n no_members; room = Some t.max; changed = [] }
    → AreOpenings t t.initial found
    → (e : WorkError) → IsMeetingCause t old found new e → IsJoinCause t.program t.mode t.initial t.max e
start-cause t valid n old new found e are Structures (met, more) = first-cause t valid n old new found e are met more
start-cause t valid n old new found e are Splits cause = absurd cause
start-cause t valid n old new found e are Individuals cause = absurd cause
start-cause t valid n old new found e are Memory cause = tt

pub on-cause : (t : TaskForm) (valid : IsValid t.program) (old middle new : JoinsForm) (found : List Found)
    (before values : List (List (List K3))) (some : IsAtSomeRound t old before)
    → AreFollowed t old.nodes old.changed (record { found = found; values = values }) before
    → middle.nodes ≡ old.nodes → (e : WorkError) → IsMeetingCause t middle found new e
    → IsJoinCause t.program t.mode t.initial t.max e
on-cause t valid old middle new found before values some are nodes Structures (met, more) =
    round-cause t valid some.round old middle new found before values some.at some.followed are nodes met more
on-cause t valid old middle new found before values some are nodes Splits cause = absurd cause
on-cause t valid old middle new found before values some are nodes Individuals cause = absurd cause
on-cause t valid old middle new found before values some are nodes Memory cause = tt

-- ---- it ends

-- 1 where something changed
abbrev pub waits : List Place → ℕ
waits [] = 0
waits (w ∷ ws) = 1

-- what is left to rise
abbrev pub left_to_rise : TaskForm → JoinsForm → ℕ
left_to_rise t j = (t.max * most_structure t - listing_weight (listing_of j.nodes)) + waits j.changed

some-waits : (ws : List Place) → ws ≢ [] → waits ws ≡ 1
some-waits [] some = absurd (some refl)
some-waits (w ∷ ws) some = refl

few-wait : (ws : List Place) → waits ws ≤ 1
few-wait [] = omega arith
few-wait (w ∷ ws) = omega arith

-- it has risen, and not past the bound, or nothing changed any more
pub on-rises : (t : TaskForm) (old new : JoinsForm) (values : List (List (List K3))) → IsRoundOn t old new values
    → old.changed ≢ [] → left_to_rise t new < left_to_rise t old
on-rises t old new values on some = by on.rises
  where
    bound : listing_weight (listing_of new.nodes) ≤ t.max * most_structure t
    bound = round-bound t on.at.round new on.at.at

    by : Rises (listing_of old.nodes) new → left_to_rise t new < left_to_rise t old
    by (inl (none, same)) =
        omega (arith, bound, some-waits old.changed some, ap waits none, ap listing_weight same)
    by (inr (changed, more)) = omega (arith, bound, more, some-waits old.changed some, few-wait new.changed)
