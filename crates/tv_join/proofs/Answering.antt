-- The last round is closed, and its messages are reported.
use Rattle.std.proofs.Common.{ℕ, ◌≡◌, ◌≢◌, ◌<◌, ◌≤◌, ◌+◌, ◌⊎◌, zero, suc, Some, inl, inr, List, [], ◌∷◌}
use Rattle.std.proofs.Common.{length, get_or, take, refl, sym, ap, subst, ◌∙◌, arith}
use Rattle.std.specs.Prelude.{All, Contains, slice_get}
use Rattle.std.proofs.lemmas.Bool.{cases_lt}
use Rattle.std.proofs.lemmas.List.{get_or_default, get_or-take, length-map, length-take-le, take_all}
use Rattle.std.proofs.lemmas.List.{take_more}
use Rattle.std.proofs.lemmas.List.Elements.{All-contains, Contains-get_or}
use Rattle.std.proofs.lemmas.Option.{slice_get-get_or, same_Some}
use Rattle.tv_lemmas.proofs.Lists.{found_at}
use Rattle.tv_kleene.specs.declared.K3.{K3}
use Rattle.tv_kleene.specs.declared.K3.TheVariants.{No}
use Rattle.tv_kleene.specs.Kleene.{larger_of}
use Rattle.tv_model.specs.declared.program.Edge.{Edge}
use Rattle.tv_model.specs.declared.program.Program.{Program}
use Rattle.tv_model.specs.Program.{program_of}
use Rattle.tv_model.specs.Valid.{IsValid}
use Rattle.tv_model.proofs.Lists.{All-from_contains}
use Rattle.tv_listing.specs.ListingForm.{AreSorted, HasEqual, at_node}
use Rattle.tv_listing.specs.declared.analysis.MessageLine.{MessageLine}
use Rattle.tv_structure_form.specs.StructureForm.{StructureForm, IsStructure, IsOver}
use Rattle.tv_step_laws.specs.Closed.{IsClosed, IsCovered, IsOpened, IsFollowed as IsFollowedBy, CoversRuns}
use Rattle.tv_step_laws.proofs.Runs.{closed_listings_cover_runs}
use Rattle.tv_join.specs.Members.{MembersForm}
use Rattle.tv_work.specs.Analyzed.{IsSaid, KeepAllBudgets}
use Rattle.tv_work.specs.Reach.{Point, IsListed}
use Rattle.tv_work.specs.Search.{IsOnce}
use Rattle.tv_work.specs.Task.{TaskForm}
use Rattle.tv_work.specs.Told.{told_value, AreLines}
use Rattle.tv_work.proofs.Once.{once-different, once-none, once-permuted, once-push}
use Rattle.tv_work.proofs.Reporting.{covered-opened, lines-reported, told-followed}
use Rattle.tv_work.proofs.Saying.{said-weaker}
use Rattle.tv_work.proofs.Sorting.{all-over, same-total, sorted-keeps, sorted-only, sorted-strict}
use Rattle.tv_join.specs.Flags.{IsPlain}
use Rattle.tv_join.specs.Joined.{HaveOwnKeys, IsJoined}
use Rattle.tv_join.specs.Keys.{key_of}
use Rattle.tv_join.specs.Rounds.{point}
use Rattle.tv_join.specs.State.{JoinsForm, IsAbsorbed, listing_of}
use Rattle.tv_join.specs.Stepped.{IsAtLastRound, IsDoneAlong, IsOpenable}
use Rattle.tv_join.specs.Task.{round_in}
use Rattle.tv_join.proofs.JoinLaws.{under-embeds}
use Rattle.tv_join.proofs.Meeting.{listed-joins, listed-plain}

-- structures of which no two have one key, each without a mark, stand once
module _ (t : TaskForm) (xs : List StructureForm) (plain : (s : StructureForm) → Contains xs s → IsPlain t.program s)
    (own : (i j : ℕ) (s r : StructureForm) → slice_get xs i ≡ Some s → slice_get xs j ≡ Some r
    → key_of t.program s ≡ key_of t.program r → i ≡ j) where
  no-equal : (n : ℕ) (d : StructureForm) → n < length xs → ¬ HasEqual (take n xs) (get_or xs n d)
  no-equal n d lt (k, s, within, at, same) =
      let before : k < n = omega (arith, within, length-take-le n xs (omega (arith, lt)))
      in let read : get_or xs k s ≡ s = sym (get_or-take n xs k s before) ∙ at
      in let e : k ≡ n
      = own k n s (get_or xs n d) (slice_get-get_or xs k s (omega (arith, before, lt)) ∙ ap Some read)
      (slice_get-get_or xs n d lt) (ap (key_of t.program) same)
      in omega (arith, before, e)

  once-to : (n : ℕ) → n ≤ length xs → IsOnce (take n xs)
  once-to zero le = once-none
  once-to (suc n) le = by xs le refl (once-to n (omega (arith, le)))
    where
      by : (ys : List StructureForm) → suc n ≤ length ys → ys ≡ xs → IsOnce (take n xs) → IsOnce (take (suc n) xs)
      by [] le e before = absurd (omega (arith, le))
      by (d ∷ ys) le e before =
          let lt : n < length xs = omega (arith, le, ap length e)
          in let next : n + 1 ≡ suc n = omega arith
          in subst (λ m. IsOnce (take m xs)) next
          (subst IsOnce (sym (take_more xs n d lt))
          (once-push (take n xs) (get_or xs n d) before (no-equal n d lt)))

  pub own-once : IsOnce xs
  own-once = subst IsOnce (take_all (length xs) xs (omega arith)) (once-to (length xs) (omega arith))

module _ (t : TaskForm) (valid : IsValid t.program) (j : JoinsForm) (told : List (List K3)) (ended : IsAtLastRound t j told)
    (listing : List (List StructureForm)) (sorted : AreSorted (listing_of j.nodes) listing) (lines : List MessageLine)
    (are : AreLines told lines) where
  abbrev listed : List (List StructureForm)
  listed = listing_of j.nodes

  keeps : (x : Point) → IsListed listed x → IsListed listing x
  keeps = sorted-keeps listed listing sorted

  only : (x : Point) → IsListed listing x → IsListed listed x
  only = sorted-only listed listing sorted

  once : (k : ℕ) → IsOnce (at_node listed k)
  once k = own-once t (at_node listed k) (λ s has. listed-plain t j ended.at.kept (point k s) has)
      (listed-joins t j ended.at.kept k).own

  plain-at : (x : Point) → IsListed listing x → IsPlain t.program x.structure
  plain-at x has = listed-plain t j ended.at.kept x (only x has)

  -- ---- keys

  unique : (k : ℕ) (s r : StructureForm) → Contains (at_node listed k) s → Contains (at_node listed k) r
      → key_of t.program s ≡ key_of t.program r → s ≡ r
  unique k s r has_s has_r key =
      let a = found_at (at_node listed k) s has_s
      in let b = found_at (at_node listed k) r has_r
      in let e : a.0 ≡ b.0 = (listed-joins t j ended.at.kept k).own a.0 b.0 s r a.1 b.1 key
      in same_Some s r (sym a.1 ∙ ap (slice_get (at_node listed k)) e ∙ b.1)

  keys-at : (k : ℕ) → k < length listing → HaveOwnKeys t.program (at_node listing k)
  keys-at k lt a b d before within key =
      let xs = at_node listing k
      in let s = get_or xs a d
      in let r = get_or xs b d
      in let e : s ≡ r
      = unique k s r (only (point k s) (Contains-get_or xs a d (omega (arith, before, within))))
      (only (point k r) (Contains-get_or xs b d within)) key
      in once-different xs
      (once-permuted (at_node listed k) xs (sorted.each k (omega (arith, lt, sorted.nodes))).same (once k)) a b d before within e

  -- ---- lines

  said-told : (edge number : ℕ) (k : K3) → IsSaid t.program (IsListed listing) edge number k
      → larger_of k (told_value told edge number) ≡ told_value told edge number
  said-told edge number k said =
      let source = said.source
      in (ended.stepped.done edge source.taken source.is_edge said.at.structure
      (subst (λ n. IsListed listed (point n said.at.structure)) (sym source.leaves) (only said.at source.has))).values
      number k said.value

  told-said : (edge number : ℕ) → told_value told edge number ≢ No
      → IsSaid t.program (IsListed listing) edge number (told_value told edge number)
  told-said edge number some =
      said-weaker t.program (IsListed listed) (IsListed listing) edge number (told_value told edge number) keeps
      (ended.stepped.said.said edge number some)

  -- ---- what the analysis answers

  pub answer-exact : IsJoined t.program t.mode t.initial t.max listing lines
  answer-exact = record {
    nodes = sorted.nodes ∙ length-map j.nodes (λ (m : MembersForm). m.structures) ∙ ended.at.kept.nodes;
    sorted = sorted-strict listed listing sorted once;
    round = ended.round;
    exact = λ x. (λ has. ended.at.listed x (only x has), λ is. keeps x (ended.at.all x is));
    last = ended.last;
    within = omega (arith, same-total listed listing sorted, ended.at.within);
    rounds = ended.at.rounds;
    keys = λ k d lt. subst (HaveOwnKeys t.program) (get_or_default listing k [] d lt) (keys-at k lt);
    reported = lines-reported t.program told lines are (IsListed listing) said-told told-said;
    ordered = are.ordered;
    budgets = λ before le. budgets before le (cases_lt before ended.round);
  }
    where
      budgets : (before : ℕ) → before ≤ ended.round → (before < ended.round) ⊎ (ended.round ≤ before)
          → KeepAllBudgets t.program (round_in t before)
      budgets before le (inl lt) = ended.at.budgets before lt
      budgets before le (inr ge) =
          let same : ended.round ≡ before = omega (arith, le, ge)
          in subst (λ r. KeepAllBudgets t.program (round_in t r)) same ended.budgets

  -- what lies under a listed structure is covered
  covered : (x : Point) → IsAbsorbed t.program j.nodes x → IsCovered (at_node listing x.node) x.structure
  covered x (s, has, key, under) =
      let there : Contains (at_node listing x.node) s = keeps (point x.node s) has
      in (there.0, s, there.1, there.2, under-embeds x.structure s under)

  opened : (s : StructureForm) → Contains t.initial s → IsOpened t.program (at_node listing 0) s
  opened s has =
      covered-opened t.program (at_node listing 0) s
      (All-contains (IsOpenable t.program) t.initial s ended.at.opened.any has) (λ u opening.
      covered (point 0 u) (ended.at.opened.absorbed (point 0 u)
      (record { node = refl; opens = (has.0, s, has.1, has.2, opening) })))

  followed : (edge : ℕ) (taken : Edge) (s : StructureForm) → IsDoneAlong t (IsAbsorbed t.program j.nodes) told edge taken s
      → IsFollowedBy t.program t.mode edge s (at_node listing taken.to) lines
  followed edge taken s done =
      told-followed t.program told lines are t.mode edge s (at_node listing taken.to) done.results done.are_results
      (λ u has. covered (point taken.to u) (done.covered u has)) done.values

  pub answer-closed : IsClosed t.program t.mode t.initial listing lines
  answer-closed = record {
    opened = All-from_contains (IsOpened t.program (at_node listing 0)) t.initial opened;
    followed = λ edge taken at s has.
        followed edge taken s (ended.stepped.done edge taken at s (only (point taken.from s) has));
  }

  pub answer-runs : CoversRuns t.program t.mode t.initial listing lines
  answer-runs = closed_listings_cover_runs t.program t.mode t.initial listing lines valid answer-closed

  pub answer-over : (program : Program) → t.program ≡ program_of program
      → All (All (λ s. IsStructure s × IsOver program.vocab s)) listing
  answer-over program is =
      all-over program t listing is (λ x has.
      let plain = plain-at x has
      in (plain.is, plain.shaped))
