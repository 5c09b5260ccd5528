-- What was found is joined into what is listed, one structure after the other.
use Rattle.std.proofs.Common.{ℕ, ◌≡◌, ◌≢◌, ◌<◌, ◌≤◌, ◌+◌, ◌⊎◌, zero, suc, inl, inr, List}
use Rattle.std.proofs.Common.{[], ◌∷◌, ◌++◌, length, get_or, set, Option, None, Some, refl, sym, ap, subst}
use Rattle.std.proofs.Common.{◌∙◌, ⊎_elim, arith}
use Rattle.std.specs.Prelude.{Contains, sum_by, slice_get}
use Rattle.std.specs.List.{range_with_len}
use Rattle.std.proofs.lemmas.Bool.{cases_eq}
use Rattle.std.proofs.lemmas.List.{length-set, length_push, set-get_or, length-map}
use Rattle.std.proofs.lemmas.List.Elements.{Contains-append_left, Contains-push, Contains-push_cases}
use Rattle.std.proofs.lemmas.List.Sums.{sum_by-set, sum_by_push}
use Rattle.std.proofs.lemmas.Option.{slice_get_within, get_or_from_slice_get}
use Rattle.tv_lemmas.proofs.Lists.{pushed_at}
use Rattle.tv_model.proofs.Lists.{Contains-none, slice_get-contains}
use Rattle.tv_listing.specs.ListingForm.{at_node}
use Rattle.tv_model.specs.Program.{ProgramForm}
use Rattle.tv_model.specs.Valid.{IsValid}
use Rattle.tv_rules.specs.Closing.{closed_rules}
use Rattle.tv_rules.proofs.Ranges.{rules_are_plain}
use Rattle.tv_stable_laws.specs.Laws.{joined}
use Rattle.tv_stable_laws.specs.Stable.{IsStable}
use Rattle.tv_stable_laws.proofs.Joins.{joins_are_stable}
use Rattle.tv_structure_form.specs.StructureForm.{StructureForm, structure_of}
use Rattle.tv_join.specs.Pairwise.{IsJoined}
use Rattle.tv_step.specs.Setting.{IsStableIn}
use Rattle.tv_join.specs.Members.{MembersForm, IsRaised, Puts}
use Rattle.tv_join.specs.declared.members.Put.{Put}
use Rattle.tv_join.specs.declared.members.Put.TheVariants.{Known, Raised, Added}
use Rattle.tv_join.proofs.Indexing.{set-at}
use Rattle.tv_work.specs.Reach.{Point}
use Rattle.tv_work.specs.Task.{TaskForm}
use Rattle.tv_join.specs.Flags.{key_flags, IsPlain}
use Rattle.tv_join.specs.Listed.{AreJoins}
use Rattle.tv_join.specs.Places.{member_place}
use Rattle.tv_join.specs.Rounds.{point}
use Rattle.tv_join.specs.State.{JoinsForm, IsAmongFound, IsIn, IsJoinState, IsMet, IsNode, HasRoom, NotesPut}
use Rattle.tv_join.specs.State.{StandsAt, listing_of, members_at, room_after, total_of}
use Rattle.tv_join.specs.Stepped.{HaveMet, IsPlaced, IsPlacedFound, Rises, Stay}
use Rattle.tv_join.specs.Weight.{structure_weight, structures_weight, listing_weight}
use Rattle.tv_join.specs.declared.joins.Found.{Found}
use Rattle.tv_join.specs.declared.places.Place.{Place}
use Rattle.tv_join.proofs.JoinLaws.{joined-second}
use Rattle.tv_join.proofs.Nodes.{listing-at, set-listing, set-other, set-same}
use Rattle.tv_join.proofs.Putting.{joins-like, joins-own, joins-plain, joins-put}
use Rattle.tv_join.proofs.Weights.{rises-strictly}

-- ---- what is listed is plain, and nothing is met twice

pub listed-plain : (t : TaskForm) (j : JoinsForm) → IsJoinState t j → (x : Point) → IsIn j.nodes x → IsPlain t.program x.structure
listed-plain t j kept x has =
    (kept.each x.node).plain x.structure (subst (λ xs. Contains xs x.structure) (listing-at j.nodes x.node) has)

-- what is listed is the joins by key of itself
pub listed-joins : (t : TaskForm) (j : JoinsForm) → IsJoinState t j → (k : ℕ)
    → AreJoins t.program (λ s. IsIn j.nodes (point k s)) (at_node (listing_of j.nodes) k)
listed-joins t j kept k =
    let node : IsNode t.program (members_at j.nodes k) = kept.each k
    in subst (λ xs. AreJoins t.program (Contains xs) xs) (sym (listing-at j.nodes k))
    (joins-own t.program (members_at j.nodes k).structures node.plain node.own)

-- a join of stable structures is stable
joined-stable : (p : ProgramForm) → IsValid p → (s t r : StructureForm) → s.fresh ≡ None → s.size ≡ t.size
    → IsJoined s t r → IsStableIn p s → IsStableIn p t → IsStableIn p r
joined-stable p valid s t r unmarked size join left right =
    let same : structure_of r ≡ joined (structure_of s) (structure_of t)
    = λ i. record {
      individuals = (ap (range_with_len 0) join.size) i;
      value = λ pred tuple. (join.values pred tuple) i;
      is_summary = λ u. (join.summaries u) i;
      fresh = (join.unmarked ∙ sym unmarked) i;
    }
    in subst (IsStable (closed_rules p)) (sym same)
    (joins_are_stable (structure_of s) (structure_of t) (closed_rules p) (ap (range_with_len 0) size)
    (rules_are_plain p valid) left right)

-- ---- one structure is put

some-noted : (w : Place) (ws : List Place) → Contains ws w → ws ≢ []
some-noted w ws has none = Contains-none w (subst (λ vs. Contains vs w) none has)

room-met : (max total count more : ℕ) (put : Put) (room : Option ℕ) → HasRoom max total room
    → (put ≡ Known → more ≡ count) → ((place : ℕ) → put ≡ Raised place → more ≡ count) → (put ≡ Added → more ≡ count + 1)
    → (new : ℕ) → new + count ≡ total + more → HasRoom max new (room_after put room)
room-met max total count more Known (Some left) has known raised added new e = omega (arith, has, known refl, e)
room-met max total count more Known None has known raised added new e = omega (arith, has, known refl, e)
room-met max total count more (Raised place) (Some left) has known raised added new e =
    omega (arith, has, raised place refl, e)
room-met max total count more (Raised place) None has known raised added new e = omega (arith, has, raised place refl, e)
room-met max total count more Added (Some zero) has known raised added new e = omega (arith, has, added refl, e)
room-met max total count more Added (Some (suc left)) has known raised added new e = omega (arith, has, added refl, e)
room-met max total count more Added None has known raised added new e = omega (arith, has, added refl, e)

module _ (t : TaskForm) (old new : JoinsForm) (k : ℕ) (s : StructureForm) (kept : IsJoinState t old) (lt : k < length old.nodes)
    (plain : IsPlain t.program s) (met : IsMet (key_flags t.program) old k s new) where
  abbrev before : List StructureForm
  before = (members_at old.nodes k).structures

  abbrev after : List StructureForm
  after = met.node.structures

  node-here : members_at new.nodes k ≡ met.node
  node-here = ap (λ nodes. members_at nodes k) met.set ∙ set-same old.nodes k met.node lt

  node-other : (j : ℕ) → j ≢ k → members_at new.nodes j ≡ members_at old.nodes j
  node-other j apart = ap (λ nodes. members_at nodes j) met.set ∙ set-other old.nodes k met.node lt j apart

  listing-here : at_node (listing_of new.nodes) k ≡ after
  listing-here = listing-at new.nodes k ∙ ap (λ (m : MembersForm). m.structures) node-here

  listing-other : (j : ℕ) → j ≢ k → at_node (listing_of new.nodes) j ≡ at_node (listing_of old.nodes) j
  listing-other j apart =
      listing-at new.nodes j ∙ ap (λ (m : MembersForm). m.structures) (node-other j apart) ∙ sym (listing-at old.nodes j)

  listing-set : listing_of new.nodes ≡ set (listing_of old.nodes) k after
  listing-set = ap listing_of met.set ∙ set-listing old.nodes k met.node lt

  -- ---- the node

  put-here : (X : StructureForm → Type 0) → ((r : StructureForm) → X r → IsPlain t.program r)
      → AreJoins t.program X before → AreJoins t.program (λ r. X r ⊎ (r ≡ s)) after
  put-here X plain_x are =
      joins-put t.program X plain_x before are s plain after met.put (kept.each k).plain met.puts

  node-kept : IsNode t.program met.node
  node-kept =
      let old-node : IsNode t.program (members_at old.nodes k) = kept.each k
      in let X : StructureForm → Type 0 = Contains before
      in let are : AreJoins t.program (λ r. X r ⊎ (r ≡ s)) after
      = put-here X old-node.plain (joins-own t.program before old-node.plain old-node.own)
      in record {
        indexed = met.indexed;
        plain = joins-plain t.program (λ r. X r ⊎ (r ≡ s)) (λ r has. more-plain r has) after are;
        own = are.own;
      }
    where
      more-plain : (r : StructureForm) → Contains before r ⊎ (r ≡ s) → IsPlain t.program r
      more-plain r (inl has) = (kept.each k).plain r has
      more-plain r (inr e) = subst (IsPlain t.program) (sym e) plain

  each-kept : (j : ℕ) → (j ≡ k) ⊎ (j ≢ k) → IsNode t.program (members_at new.nodes j)
  each-kept j (inl same) =
      subst (IsNode t.program) (sym (ap (members_at new.nodes) same ∙ node-here)) node-kept
  each-kept j (inr apart) = subst (IsNode t.program) (sym (node-other j apart)) (kept.each j)

  -- ---- counts and weights

  in-listing : k < length (listing_of old.nodes)
  in-listing = omega (arith, lt, length-map old.nodes (λ (m : MembersForm). m.structures))

  old-here : at_node (listing_of old.nodes) k ≡ before
  old-here = listing-at old.nodes k

  sums : (f : List StructureForm → ℕ) → sum_by f (listing_of new.nodes) + f before ≡ sum_by f (listing_of old.nodes) + f after
  sums f =
      let total : sum_by f (set (listing_of old.nodes) k after) + f (at_node (listing_of old.nodes) k)
      ≡ sum_by f (listing_of old.nodes) + f after
      = sum_by-set f (listing_of old.nodes) k after [] in-listing
      in omega (arith, total, ap (λ l. sum_by f l) listing-set, ap f old-here)

  known-same : (put : Put) → Puts (key_flags t.program) before s after put → put ≡ Known → after ≡ before
  known-same Known known e = known.same
  known-same (Raised place) raise e = absurd cc
  known-same Added add e = absurd cc

  raised-count : (put : Put) → Puts (key_flags t.program) before s after put → (place : ℕ) → put ≡ Raised place
      → length after ≡ length before
  raised-count Known known place e = absurd cc
  raised-count (Raised at) raise place e = ap length raise.set ∙ length-set before at raise.after
  raised-count Added add place e = absurd cc

  added-count : (put : Put) → Puts (key_flags t.program) before s after put → put ≡ Added → length after ≡ length before + 1
  added-count Known known e = absurd cc
  added-count (Raised place) raise e = absurd cc
  added-count Added add e = omega (arith, ap length add.pushed, length_push before s)

  -- ---- places

  noted-kept : (put : Put) → NotesPut k (length before) put old.changed new.changed → (w : Place)
      → Contains old.changed w → Contains new.changed w
  noted-kept Known notes w has = subst (λ ws. Contains ws w) (sym notes) has
  noted-kept (Raised at) notes w has = notes.kept w has
  noted-kept Added notes w has = notes.kept w has

  longer : (put : Put) → Puts (key_flags t.program) before s after put → length before ≤ length after
  longer Known known = omega (arith, ap length known.same)
  longer (Raised at) raise = omega (arith, ap length raise.set, length-set before at raise.after)
  longer Added add = omega (arith, ap length add.pushed, length_push before s)

  -- where there was a structure there still is one
  still-in : (w : Place) → w.at < length (members_at old.nodes w.node).structures
      → w.at < length (members_at new.nodes w.node).structures
  still-in w lt-old = by (cases_eq w.node k)
    where
      by : (w.node ≡ k) ⊎ (w.node ≢ k) → w.at < length (members_at new.nodes w.node).structures
      by (inl same) =
          let first : w.at < length before = subst (λ n. w.at < length (members_at old.nodes n).structures) same lt-old
          in let there : w.at < length after = omega (arith, first, longer met.put met.puts)
          in subst (λ n. w.at < length (members_at new.nodes n).structures) (sym same)
          (subst (λ (m : MembersForm). w.at < length m.structures) (sym node-here) there)
      by (inr apart) = subst (λ (m : MembersForm). w.at < length m.structures) (sym (node-other w.node apart)) lt-old

  in-after : (at : ℕ) → at < length after → (w : Place) → w ≡ member_place k at
      → w.at < length (members_at new.nodes w.node).structures
  in-after at lt-after w e =
      subst (λ (v : Place). v.at < length (members_at new.nodes v.node).structures) (sym e)
      (subst (λ (m : MembersForm). at < length m.structures) (sym node-here) lt-after)

  places-met : (put : Put) → Puts (key_flags t.program) before s after put
      → NotesPut k (length before) put old.changed new.changed → (w : Place) → Contains new.changed w
      → w.at < length (members_at new.nodes w.node).structures
  places-met Known known notes w has = still-in w (kept.places w (subst (λ ws. Contains ws w) notes has))
  places-met (Raised at) raise notes w has = by (notes.only w has)
    where
      by : Contains old.changed w ⊎ (w ≡ member_place k at) → w.at < length (members_at new.nodes w.node).structures
      by (inl was) = still-in w (kept.places w was)
      by (inr e) =
          in-after at (omega (
            arith,
            slice_get_within before at raise.before raise.at,
            ap length raise.set,
            length-set before at raise.after,
          )) w e
  places-met Added add notes w has = by (notes.only w has)
    where
      by : Contains old.changed w ⊎ (w ≡ member_place k (length before))
          → w.at < length (members_at new.nodes w.node).structures
      by (inl was) = still-in w (kept.places w was)
      by (inr e) = in-after (length before) (omega (arith, ap length add.pushed, length_push before s)) w e

  -- what stands at the node stood there before, was raised, or was put behind the others
  stands-by : (put : Put) → Puts (key_flags t.program) before s after put → (at : ℕ) (r : StructureForm)
      → slice_get after at ≡ Some r
      → (slice_get before at ≡ Some r) ⊎ ((put ≡ Raised at) ⊎ ((put ≡ Added) × (at ≡ length before) × (s ≡ r)))
  stands-by Known known at r is = inl (ap (λ xs. slice_get xs at) (sym known.same) ∙ is)
  stands-by (Raised place) raise at r is =
      by (set-at before place raise.after r at (slice_get_within before place raise.before raise.at)
      (ap (λ xs. slice_get xs at) (sym raise.set) ∙ is))
    where
      by : ((at ≡ place) × (raise.after ≡ r)) ⊎ ((at ≢ place) × (slice_get before at ≡ Some r))
          → (slice_get before at ≡ Some r)
          ⊎ ((Raised place ≡ Raised at) ⊎ ((Raised place ≡ Added) × (at ≡ length before) × (s ≡ r)))
      by (inl (same, e)) = inr (inl (ap (λ i. Raised i) (sym same)))
      by (inr (apart, was)) = inl was
  stands-by Added add at r is = by (pushed_at before s r at (ap (λ xs. slice_get xs at) (sym add.pushed) ∙ is))
    where
      by : (slice_get before at ≡ Some r) ⊎ ((at ≡ length before) × (s ≡ r))
          → (slice_get before at ≡ Some r)
          ⊎ ((Added ≡ Raised at) ⊎ ((Added ≡ Added) × (at ≡ length before) × (s ≡ r)))
      by (inl was) = inl was
      by (inr (same, e)) = inr (inr (refl, same, e))

  at-node : (w : Place) (r : StructureForm) → w.node ≡ k → StandsAt new.nodes w r → slice_get after w.at ≡ Some r
  at-node w r same stands =
      subst (λ (m : MembersForm). slice_get m.structures w.at ≡ Some r) node-here
      (subst (λ n. slice_get (members_at new.nodes n).structures w.at ≡ Some r) same stands)

  at-other : (w : Place) (r : StructureForm) → w.node ≢ k → StandsAt new.nodes w r → StandsAt old.nodes w r
  at-other w r apart stands =
      subst (λ (m : MembersForm). slice_get m.structures w.at ≡ Some r) (node-other w.node apart) stands

  at-before : (w : Place) (r : StructureForm) → w.node ≡ k → slice_get before w.at ≡ Some r → StandsAt old.nodes w r
  at-before w r same was = subst (λ n. slice_get (members_at old.nodes n).structures w.at ≡ Some r) (sym same) was

  -- what isn't noted stood there before
  stays-met : (w : Place) (r : StructureForm) → StandsAt new.nodes w r → Contains new.changed w ⊎ StandsAt old.nodes w r
  stays-met w r stands = by (cases_eq w.node k)
    where
      Noted : Put → Type 0
      Noted put = NotesPut k (length before) put old.changed new.changed

      noted : (at : ℕ) → w.node ≡ k → w.at ≡ at → Contains new.changed (member_place k at) → Contains new.changed w
      noted at same same_at has =
          subst (λ n. Contains new.changed (member_place n w.at)) (sym same)
          (subst (λ i. Contains new.changed (member_place k i)) (sym same_at) has)

      here : w.node ≡ k → (slice_get before w.at ≡ Some r)
          ⊎ ((met.put ≡ Raised w.at) ⊎ ((met.put ≡ Added) × (w.at ≡ length before) × (s ≡ r)))
          → Contains new.changed w ⊎ StandsAt old.nodes w r
      here same (inl was) = inr (at-before w r same was)
      here same (inr (inl raised)) = inl (noted w.at same refl (subst Noted raised met.changed).has)
      here same (inr (inr (added, at, e))) = inl (noted (length before) same at (subst Noted added met.changed).has)

      by : (w.node ≡ k) ⊎ (w.node ≢ k) → Contains new.changed w ⊎ StandsAt old.nodes w r
      by (inl same) = here same (stands-by met.put met.puts w.at r (at-node w r same stands))
      by (inr apart) = inr (at-other w r apart stands)

  -- what stands there is stable: it was so before, was found so, or is a join of two that are
  stable-met : IsValid t.program → IsStableIn t.program s → (w : Place) (r : StructureForm) → StandsAt new.nodes w r
      → IsStableIn t.program r
  stable-met valid found w r stands = by (cases_eq w.node k)
    where
      -- the structure that was raised
      after-raised : IsRaised (key_flags t.program) before s after w.at → slice_get after w.at ≡ Some r → IsStableIn t.program r
      after-raised raise is =
          let e : raise.after ≡ r
          = ⊎_elim (λ here. here.1) (λ other. absurd (other.0 refl))
          (set-at before w.at raise.after r w.at (slice_get_within before w.at raise.before raise.at)
          (ap (λ xs. slice_get xs w.at) (sym raise.set) ∙ is))
          in subst (IsStableIn t.program) e
          (joined-stable t.program valid s raise.before raise.after plain.unmarked raise.key.size raise.joined found
          (kept.stable (member_place k w.at) raise.before raise.at))

      here : w.node ≡ k → slice_get after w.at ≡ Some r → (slice_get before w.at ≡ Some r)
          ⊎ ((met.put ≡ Raised w.at) ⊎ ((met.put ≡ Added) × (w.at ≡ length before) × (s ≡ r)))
          → IsStableIn t.program r
      here same is (inl was) = kept.stable w r (at-before w r same was)
      here same is (inr (inl raised)) =
          after-raised (subst (Puts (key_flags t.program) before s after) raised met.puts) is
      here same is (inr (inr (added, at, e))) = subst (IsStableIn t.program) e found

      by : (w.node ≡ k) ⊎ (w.node ≢ k) → IsStableIn t.program r
      by (inl same) = here same (at-node w r same stands) (stands-by met.put met.puts w.at r (at-node w r same stands))
      by (inr apart) = kept.stable w r (at-other w r apart stands)

  pub stay-met : (first : List MembersForm) → Stay first old → Stay first new
  stay-met first before-this w r stands = by (stays-met w r stands)
    where
      earlier : Contains old.changed w ⊎ StandsAt first w r → Contains new.changed w ⊎ StandsAt first w r
      earlier (inl has) = inl (noted-kept met.put met.changed w has)
      earlier (inr was) = inr was

      by : Contains new.changed w ⊎ StandsAt old.nodes w r → Contains new.changed w ⊎ StandsAt first w r
      by (inl has) = inl has
      by (inr was) = earlier (before-this w r was)

  pub kept-met : IsValid t.program → IsStableIn t.program s → IsJoinState t new
  kept-met valid found = record {
    nodes = ap length met.set ∙ length-set old.nodes k met.node ∙ kept.nodes;
    each = λ j. each-kept j (cases_eq j k);
    room = subst (HasRoom t.max (total_of new.nodes)) (sym met.room)
        (room-met t.max (total_of old.nodes) (length before) (length after) met.put old.room kept.room
        (λ e. ap length (known-same met.put met.puts e)) (raised-count met.put met.puts) (added-count met.put met.puts)
        (total_of new.nodes) (sums length));
    places = places-met met.put met.puts met.changed;
    stable = stable-met valid found;
  }

  -- ---- what is listed is the joins with it

  joins-at : (X : Point → Type 0) → ((x : Point) → X x → IsPlain t.program x.structure) → (j : ℕ)
      → AreJoins t.program (λ r. X (point j r)) (at_node (listing_of old.nodes) j) → (j ≡ k) ⊎ (j ≢ k)
      → AreJoins t.program (λ r. X (point j r) ⊎ (point j r ≡ point k s)) (at_node (listing_of new.nodes) j)
  joins-at X plain_x j are (inl same) =
      let X_k : StructureForm → Type 0 = λ r. X (point k r)
      in let at_k : AreJoins t.program X_k before
      = subst (AreJoins t.program X_k) old-here
      (subst (λ n. AreJoins t.program (λ r. X (point n r)) (at_node (listing_of old.nodes) n)) same are)
      in let more : AreJoins t.program (λ r. X_k r ⊎ (point k r ≡ point k s)) after
      = joins-like t.program (λ r. X_k r ⊎ (r ≡ s)) (λ r. X_k r ⊎ (point k r ≡ point k s)) after (λ r has. to r has)
      (λ r has. from r has) (put-here X_k (λ r x. plain_x (point k r) x) at_k)
      in subst (λ n. AreJoins t.program (λ r. X (point n r) ⊎ (point n r ≡ point k s)) (at_node (listing_of new.nodes) n))
      (sym same) (subst (AreJoins t.program (λ r. X_k r ⊎ (point k r ≡ point k s))) (sym listing-here) more)
    where
      to : (r : StructureForm) → X (point k r) ⊎ (r ≡ s) → X (point k r) ⊎ (point k r ≡ point k s)
      to r (inl x) = inl x
      to r (inr e) = inr (ap (point k) e)

      from : (r : StructureForm) → X (point k r) ⊎ (point k r ≡ point k s) → X (point k r) ⊎ (r ≡ s)
      from r (inl x) = inl x
      from r (inr e) = inr (ap (λ (x : Point). x.structure) e)
  joins-at X plain_x j are (inr apart) =
      subst (AreJoins t.program (λ r. X (point j r) ⊎ (point j r ≡ point k s))) (sym (listing-other j apart))
      (joins-like t.program (λ r. X (point j r)) (λ r. X (point j r) ⊎ (point j r ≡ point k s))
      (at_node (listing_of old.nodes) j) (λ r x. inl x) (λ r has. from r has) are)
    where
      from : (r : StructureForm) → X (point j r) ⊎ (point j r ≡ point k s) → X (point j r)
      from r (inl x) = x
      from r (inr e) = absurd (apart (ap (λ (x : Point). x.node) e))

  -- ---- it has risen

  raised-weight : (place : ℕ) → IsRaised (key_flags t.program) before s after place
      → structures_weight before < structures_weight after
  raised-weight place raise =
      let within : place < length before = slice_get_within before place raise.before raise.at
      in let sum : sum_by structure_weight (set before place raise.after) + structure_weight (get_or before place raise.before)
      ≡ structures_weight before + structure_weight raise.after
      = sum_by-set structure_weight before place raise.after raise.before within
      in let read : get_or before place raise.before ≡ raise.before
      = get_or_from_slice_get before place raise.before raise.before raise.at
      in let plain_b : IsPlain t.program raise.before
      = (kept.each k).plain raise.before (slice_get-contains before place raise.before raise.at)
      in let heavier : structure_weight raise.before < structure_weight raise.after
      = rises-strictly raise.before raise.after plain_b.is raise.joined.is (plain_b.unmarked ∙ sym raise.joined.unmarked)
      (joined-second s raise.before raise.after raise.key.size raise.key.over raise.joined) raise.changed
      in omega (arith, sum, ap structure_weight read, heavier, ap structures_weight raise.set)

  added-weight : after ≡ before ++ s ∷ [] → structures_weight before < structures_weight after
  added-weight pushed =
      omega (arith, ap structures_weight pushed, sum_by_push structure_weight before s)

  weight-sum : listing_weight (listing_of new.nodes) + structures_weight before
      ≡ listing_weight (listing_of old.nodes) + structures_weight after
  weight-sum = sums structures_weight

  known-listing : after ≡ before → listing_of new.nodes ≡ listing_of old.nodes
  known-listing same =
      listing-set ∙ ap (set (listing_of old.nodes) k) (same ∙ sym old-here) ∙ set-get_or (listing_of old.nodes) k []

  least : (first : List (List StructureForm)) → Rises first old → listing_weight first ≤ listing_weight (listing_of old.nodes)
  least first (inl (none, list)) = omega (arith, ap listing_weight list)
  least first (inr (some, more)) = omega (arith, more)

  rises-by : (first : List (List StructureForm)) (put : Put) → Puts (key_flags t.program) before s after put
      → NotesPut k (length before) put old.changed new.changed → Rises first old → Rises first new
  rises-by first Known known notes (inl (none, list)) = inl (notes ∙ none, known-listing known.same ∙ list)
  rises-by first Known known notes (inr (some, more)) =
      inr (
        λ none. some (sym notes ∙ none),
        subst (λ l. listing_weight first < listing_weight l) (sym (known-listing known.same)) more,
      )
  rises-by first (Raised place) raise notes before-this =
      inr (
        some-noted (member_place k place) new.changed notes.has,
        omega (arith, weight-sum, raised-weight place raise, least first before-this),
      )
  rises-by first Added add notes before-this =
      inr (
        some-noted (member_place k (length before)) new.changed notes.has,
        omega (arith, weight-sum, added-weight add.pushed, least first before-this),
      )

  pub rises-met : (first : List (List StructureForm)) → Rises first old → Rises first new
  rises-met first before-this = rises-by first met.put met.puts met.changed before-this

-- ---- all that was found

-- the first of what was found are joined in
pub record IsMeeting (t : TaskForm) (first : JoinsForm) (taken : List Found) (j : JoinsForm) : Type 0 where
  pub met : HaveMet t first taken j
  pub placed : (x : Point) → IsAmongFound taken x → IsPlaced t x

nothing-met : (t : TaskForm) (old : JoinsForm) → IsJoinState t old → old.changed ≡ [] → HaveMet t old [] old
nothing-met t old kept none = record {
  kept = kept;
  joins = λ k. joins-like t.program (λ s. IsIn old.nodes (point k s))
      (λ s. IsIn old.nodes (point k s) ⊎ IsAmongFound [] (point k s)) (at_node (listing_of old.nodes) k) (λ s has. inl has)
      (λ s has. from k s has) (listed-joins t old kept k);
  rises = inl (none, refl);
  stay = λ w s stands. inr stands;
}
  where
    from : (k : ℕ) (s : StructureForm) → IsIn old.nodes (point k s) ⊎ IsAmongFound [] (point k s) → IsIn old.nodes (point k s)
    from k s (inl has) = has
    from k s (inr none) = absurd (Contains-none (record { node = k; structure = s }) none)

pub met-none : (t : TaskForm) (old : JoinsForm) → IsJoinState t old → old.changed ≡ [] → IsMeeting t old [] old
met-none t old kept none = record {
  met = nothing-met t old kept none;
  placed = λ x has. absurd (Contains-none (record { node = x.node; structure = x.structure }) has);
}

one-met : (t : TaskForm) (valid : IsValid t.program) (first old new : JoinsForm) (taken : List Found) (f : Found) → IsJoinState t first
    → HaveMet t first taken old
    → ((x : Point) → IsAmongFound taken x → IsPlaced t x) → IsPlacedFound t f
    → IsMet (key_flags t.program) old f.node f.structure new → HaveMet t first (taken ++ f ∷ []) new
one-met t valid first old new taken f kept have placed placed_f met = record {
  kept = kept-met t old new f.node f.structure have.kept lt placed_f.plain met valid placed_f.stable;
  joins = λ k. joins-like t.program
      (λ s. (IsIn first.nodes (point k s) ⊎ IsAmongFound taken (point k s)) ⊎ (point k s ≡ point f.node f.structure))
      (λ s. IsIn first.nodes (point k s) ⊎ IsAmongFound (taken ++ f ∷ []) (point k s))
      (at_node (listing_of new.nodes) k) (λ s has. to k s has) (λ s has. from k s has)
      (joins-at t old new f.node f.structure have.kept lt placed_f.plain met X X-plain k (have.joins k) (cases_eq k f.node));
  rises = rises-met t old new f.node f.structure have.kept lt placed_f.plain met (listing_of first.nodes) have.rises;
  stay = stay-met t old new f.node f.structure have.kept lt placed_f.plain met first.nodes have.stay;
}
  where
    X : Point → Type 0
    X x = IsIn first.nodes x ⊎ IsAmongFound taken x

    X-plain : (x : Point) → X x → IsPlain t.program x.structure
    X-plain x (inl has) = listed-plain t first kept x has
    X-plain x (inr has) = (placed x has).plain

    lt : f.node < length old.nodes
    lt = omega (arith, placed_f.node, have.kept.nodes)

    to : (k : ℕ) (s : StructureForm)
        → (IsIn first.nodes (point k s) ⊎ IsAmongFound taken (point k s)) ⊎ (point k s ≡ point f.node f.structure)
        → IsIn first.nodes (point k s) ⊎ IsAmongFound (taken ++ f ∷ []) (point k s)
    to k s (inl (inl has)) = inl has
    to k s (inl (inr has)) = inr (Contains-append_left taken (f ∷ []) (record { node = k; structure = s }) has)
    to k s (inr e) =
        let same : f ≡ record { node = k; structure = s }
        = λ i. record { node = (sym (ap (λ (x : Point). x.node) e)) i; structure = (sym (ap (λ (x : Point). x.structure) e)) i }
        in inr (subst (Contains (taken ++ f ∷ [])) same (Contains-push taken f))

    from : (k : ℕ) (s : StructureForm) → IsIn first.nodes (point k s) ⊎ IsAmongFound (taken ++ f ∷ []) (point k s)
        → (IsIn first.nodes (point k s) ⊎ IsAmongFound taken (point k s)) ⊎ (point k s ≡ point f.node f.structure)
    from k s (inl has) = inl (inl has)
    from k s (inr has) = by (Contains-push_cases taken f (record { node = k; structure = s }) has)
      where
        by : Contains taken (record { node = k; structure = s }) ⊎ (f ≡ record { node = k; structure = s })
            → (IsIn first.nodes (point k s) ⊎ IsAmongFound taken (point k s)) ⊎ (point k s ≡ point f.node f.structure)
        by (inl old-one) = inl (inr old-one)
        by (inr e) =
            inr (λ i. record {
              node = (sym (ap (λ (x : Found). x.node) e)) i;
              structure = (sym (ap (λ (x : Found). x.structure) e)) i;
            })

pub met-next : (t : TaskForm) (valid : IsValid t.program) (first old new : JoinsForm) (taken : List Found) (f : Found) → IsJoinState t first
    → IsMeeting t first taken old → IsPlacedFound t f → IsMet (key_flags t.program) old f.node f.structure new
    → IsMeeting t first (taken ++ f ∷ []) new
met-next t valid first old new taken f kept so-far placed_f met = record {
  met = one-met t valid first old new taken f kept so-far.met so-far.placed placed_f met;
  placed = λ x has. by x (Contains-push_cases taken f (record { node = x.node; structure = x.structure }) has);
}
  where
    by : (x : Point) → Contains taken (record { node = x.node; structure = x.structure })
        ⊎ (f ≡ record { node = x.node; structure = x.structure }) → IsPlaced t x
    by x (inl has) = so-far.placed x has
    by x (inr e) =
        subst (λ (y : Point). IsPlaced t y)
        (λ i. record { node = (ap (λ (g : Found). g.node) e) i; structure = (ap (λ (g : Found). g.structure) e) i }) placed_f

pub room-some : (t : TaskForm) (j : JoinsForm) (more : ℕ) → IsJoinState t j → j.room ≡ Some more → total_of j.nodes ≤ t.max
room-some t j more kept is = omega (arith, subst (HasRoom t.max (total_of j.nodes)) is kept.room)

pub room-none : (t : TaskForm) (j : JoinsForm) → IsJoinState t j → j.room ≡ None → t.max < total_of j.nodes
room-none t j kept is = subst (HasRoom t.max (total_of j.nodes)) is kept.room
