-- A move from a standing leads to one standing, and can't fail where it can be made.
use Rattle.std.proofs.Common.{ℕ, suc, ◌≡◌, ◌<◌, ◌↔◌, ◌⊎◌, ⊎_elim, List, [], ◌∷◌, map, Option, Some, None}
use Rattle.std.proofs.Common.{AllPairs, Contains, refl, sym, ap, subst, ◌∙◌, arith}
use Rattle.std.specs.Prelude.{slice_get}
use Rattle.std.proofs.lemmas.List.Elements.{All-contains}
use Rattle.std.proofs.lemmas.Option.{same_Some}
use Rattle.tv_kleene.proofs.Lattice.{same-definite, no-yes}
use Rattle.tv_concrete.specs.Laws.{AtMostOneConcrete, SameCore}
use Rattle.tv_kleene.specs.declared.K3.TheVariants.{Yes}
use Rattle.tv_model.specs.Heap.{Heap, Holds, IsTuple}
use Rattle.tv_model.specs.Program.{ProgramForm, PredForm, ActionForm, ChangeForm, UpdateForm, CFree, CTo}
use Rattle.tv_model.specs.Program.{KCore}
use Rattle.tv_model.specs.Step.{AllowsChange, FollowsUpdate, update_for}
use Rattle.tv_model.specs.Truth.{Assignment}
use Rattle.tv_model.specs.Valid.{IsValid}
use Rattle.tv_model.specs.declared.program.Edge.{Edge}
use Rattle.tv_model.proofs.Lists.{Contains-here, Contains-there, Contains-none, Contains-cases}
use Rattle.tv_model.proofs.Programs.{holds-fits}
use Rattle.tv_renaming_laws.specs.Renamed.{IsRenaming, renamed}
use Rattle.tv_renaming_laws.proofs.Fronts.{fronts_are_renamings}
use Rattle.tv_renaming_laws.proofs.Names.{holds-back, holds-renamed}
use Rattle.tv_structure_form.specs.StructureForm.{StructureForm, IsStructure, value_at}
use Rattle.tv_structure_form.specs.TableForm.{AreIndividuals}
use Rattle.tv_structure_form.proofs.StructureLaws.{same_structure, value_at-past}
use Rattle.tv_trace.specs.declared.trace.Move.{Move}
use Rattle.tv_two_valued.specs.TwoValued.{heap_of}
use Rattle.tv_two_valued.proofs.Heaps.{heap-told, individuals-or}
use Rattle.tv_replay_laws.specs.Next.{AreRetained, HasGiven, IsFreelyUpdated, IsNext, middle_of}
use Rattle.tv_replay_laws.specs.Next.{kept_individual, picked_by}
use Rattle.tv_replay_laws.specs.Stuck.{CanMove, IsFirstFailure, Moves, Standing, Taken}
use Rattle.tv_replay_laws.specs.declared.state.Why.{Why}
use Rattle.tv_replay_laws.specs.declared.state.Why.TheVariants as why
use Rattle.tv_replay_laws.proofs.Named.{same-names}

-- ---- ascending lists with the same members are one

head-below : (x : ℕ) (xs : List ℕ) → AllPairs ◌<◌ (x ∷ xs) → (u : ℕ) → Contains xs u → x < u
head-below x xs ascending u at =
    All-contains (λ w. x < w) xs u (λ i d lt. ascending 0 (suc i) d (omega arith) (omega (arith, lt))) at

tail-ascending : (x : ℕ) (xs : List ℕ) → AllPairs ◌<◌ (x ∷ xs) → AllPairs ◌<◌ xs
tail-ascending x xs ascending i j d lt within = ascending (suc i) (suc j) d (omega (arith, lt)) (omega (arith, within))

pub ascending-same : (xs ys : List ℕ) → AllPairs ◌<◌ xs → AllPairs ◌<◌ ys → ((u : ℕ) → Contains xs u ↔ Contains ys u) → xs ≡ ys
ascending-same [] [] one two same = refl
ascending-same [] (y ∷ ys) one two same = absurd (Contains-none y ((same y).1 (Contains-here y ys)))
ascending-same (x ∷ xs) [] one two same = absurd (Contains-none x ((same x).0 (Contains-here x xs)))
ascending-same (x ∷ xs) (y ∷ ys) one two same =
    ap (λ w. w ∷ xs) heads
    ∙ ap (λ ws. y ∷ ws) (ascending-same xs ys (tail-ascending x xs one) (tail-ascending y ys two) (λ u. (forth u, back u)))
  where
    heads : x ≡ y
    heads =
        ⊎_elim (λ e. sym e)
        (λ later. ⊎_elim (λ e. e)
        (λ after. let a : y < x = head-below y ys two x later in let b : x < y = head-below x xs one y after in absurd (omega (arith, a, b)))
        (Contains-cases x y xs ((same y).1 (Contains-here y ys))))
        (Contains-cases y x ys ((same x).0 (Contains-here x xs)))

    forth : (u : ℕ) → Contains xs u → Contains ys u
    forth u at =
        ⊎_elim (λ e. let lt : x < u = head-below x xs one u at in absurd (omega (arith, lt, heads, e))) (λ later. later)
        (Contains-cases y u ys ((same u).0 (Contains-there x u xs at)))

    back : (u : ℕ) → Contains ys u → Contains xs u
    back u at =
        ⊎_elim (λ e. let lt : y < u = head-below y ys two u at in absurd (omega (arith, lt, heads, e))) (λ later. later)
        (Contains-cases x u xs ((same u).1 (Contains-there y u ys at)))

same-kept : (action : ActionForm) (picked : Assignment) (s : StructureForm) (xs ys : List ℕ) → AreRetained action picked s xs
    → AreRetained action picked s ys → xs ≡ ys
same-kept action picked s xs ys one two =
    ascending-same xs ys one.ascending two.ascending (λ u. (λ at. (two.are u).1 ((one.are u).0 at), λ at. (one.are u).1 ((two.are u).0 at)))

-- ---- one new heap

-- a structure that a step may lead to, and its heap under the names of the kept individuals
record IsAfter (p : ProgramForm) (action : ActionForm) (chosen : List ℕ) (values : Option StructureForm) (s : StructureForm) (kept : List ℕ)
    (r : ℕ → ℕ) (x : StructureForm) : Type 0 where
  next : IsNext p action chosen values s x kept
  unmarked : x.fresh ≡ None
  named : renamed (kept_individual kept) (heap_of x) ≡ renamed r (heap_of x)

module _ (one_concrete : AtMostOneConcrete) (p : ProgramForm) (valid : IsValid p) (action : ActionForm) (chosen : List ℕ) (values : Option StructureForm) (s : StructureForm)
    (kept : List ℕ) (r t : ℕ → ℕ) (is : IsRenaming r t) where
  abbrev After : StructureForm → Type 0
  After = IsAfter p action chosen values s kept r

  abbrev named : StructureForm → Heap
  named x = renamed (kept_individual kept) (heap_of x)

  abbrev picked : Assignment
  picked = picked_by action.picks chosen

  -- what holds under the names is Yes in the structure
  yes-named : (x : StructureForm) → After x → (q : ℕ) (us : List ℕ) → value_at x q us ≡ Yes ↔ Holds (named x) q (map r us)
  yes-named x after q us =
      let told = (heap-told x after.next.structure).holds q us
      in let moved = holds-renamed r t is (heap_of x) q us
      in let At : Heap → Type 0 = λ h. Holds h q (map r us)
      in (λ yes. subst At (sym after.named) (moved.0 (told.1 yes)), λ held. told.0 (moved.1 (subst At after.named held)))

  -- and the other way round
  named-yes : (x : StructureForm) → After x → (q : ℕ) (tuple : List ℕ) → Holds (named x) q tuple ↔ value_at x q (map t tuple) ≡ Yes
  named-yes x after q tuple =
      let told = (heap-told x after.next.structure).holds q (map t tuple)
      in let moved = holds-back r t is (heap_of x) q tuple
      in let At : Heap → Type 0 = λ h. Holds h q tuple
      in (λ held. told.0 (moved.0 (subst At after.named held)), λ yes. subst At (sym after.named) (moved.1 (told.1 yes)))

  same-members : (x y : StructureForm) → After x → After y → (u : ℕ) → Contains (named x).individuals u ↔ Contains (named y).individuals u
  same-members x y one two u = (
    λ at. (two.next.steps.keeps u).1 ((one.next.steps.keeps u).0 at),
    λ at. (one.next.steps.keeps u).1 ((two.next.steps.keeps u).0 at),
  )

  -- the tuple that a predicate holds of are individuals
  yes-individuals : (x : StructureForm) → IsStructure x → (q : ℕ) (us : List ℕ) → value_at x q us ≡ Yes → AreIndividuals x.size us
  yes-individuals x structure q us true_there =
      ⊎_elim (λ all. all) (λ out. absurd (no-yes (value_at x q us) (value_at-past x structure q us out) true_there)) (individuals-or x.size us)

  -- a freely updated predicate holds of the same tuples in both
  given-held : (o : Option StructureForm) (x y : StructureForm) → After x → After y → HasGiven action o x → HasGiven action o y → (q : ℕ)
      → IsFreelyUpdated action q → (tuple : List ℕ) → Holds (named x) q tuple → Holds (named y) q tuple
  given-held None x y one two gx gy q is_free tuple held = absurd (gx q is_free)
  given-held (Some v) x y one two gx gy q is_free tuple held =
      let us : List ℕ = map t tuple
      in let yes : value_at x q us ≡ Yes = (named-yes x one q tuple).0 held
      in let all : AreIndividuals x.size us = yes-individuals x one.next.structure q us yes
      in let all_y : AreIndividuals y.size us = subst (λ n. AreIndividuals n us) (one.next.size ∙ sym two.next.size) all
      in (named-yes y two q tuple).1 (gy q is_free us all_y ∙ sym (gx q is_free us all) ∙ yes)

  core-held : (x y : StructureForm) → After x → After y → (q : ℕ) (d : PredForm) → slice_get p.preds q ≡ Some d → d.kind ≡ KCore
      → (tuple : List ℕ) → Holds (named x) q tuple → Holds (named y) q tuple
  core-held x y one two q d found core tuple held =
      let fits : IsTuple (named x) d.arity tuple = holds-fits p (named x) one.next.steps.new_heap q d found tuple held
      in let fits_y : IsTuple (named y) d.arity tuple = (fits.0, λ i u below. (same-members x y one two _).0 (fits.1 i u below))
      in by_update (update_for q action.updates) refl (one.next.steps.core q d found core tuple fits) (two.next.steps.core q d found core tuple fits_y)
    where
      by_change : (w : UpdateForm) → update_for q action.updates ≡ Some w → (c : ChangeForm) → w.change ≡ c
          → AllowsChange (middle_of action.fresh s) picked w.vars c tuple (Holds (named x) q tuple)
          → AllowsChange (middle_of action.fresh s) picked w.vars c tuple (Holds (named y) q tuple) → Holds (named y) q tuple
      by_change w e CFree free a b = given-held values x y one two one.next.given two.next.given q (w, e, free) tuple held
      by_change w e (CTo f) to a b = b.1 (a.0 held)

      by_update : (o : Option UpdateForm) → update_for q action.updates ≡ o → FollowsUpdate q (middle_of action.fresh s) picked o tuple (named x)
          → FollowsUpdate q (middle_of action.fresh s) picked o tuple (named y) → Holds (named y) q tuple
      by_update None e a b = b.1 (a.0 held)
      by_update (Some w) e a b = by_change w e w.change refl a b

  one-heap : (x y : StructureForm) → After x → After y → x ≡ y
  one-heap x y one two =
      same_structure x y one.next.structure two.next.structure (one.next.size ∙ sym two.next.size) (one.next.over ∙ sym two.next.over)
      (λ q us has. same-definite (value_at x q us) (value_at y q us) (one.next.two_valued.values q us) (two.next.two_valued.values q us) (
        λ yes. (yes-named y two q us).1 ((agree q (map r us)).0 ((yes-named x one q us).0 yes)),
        λ yes. (yes-named x one q us).1 ((agree q (map r us)).1 ((yes-named y two q us).0 yes)),
      ))
      (λ u lt. one.next.two_valued.summaries u lt ∙ sym (two.next.two_valued.summaries u (subst (λ n. u < n) (one.next.size ∙ sym two.next.size) lt)))
      (one.unmarked ∙ sym two.unmarked)
    where
      same : SameCore p (named x) (named y)
      same = record {
        individuals = same-members x y one two;
        core = λ q d found core tuple. (core-held x y one two q d found core tuple, core-held y x two one q d found core tuple);
      }

      agree : (q : ℕ) (tuple : List ℕ) → Holds (named x) q tuple ↔ Holds (named y) q tuple
      agree =
          one_concrete p valid (named x) (named y) one.next.steps.new_heap two.next.steps.new_heap one.next.steps.concrete two.next.steps.concrete same

same-next : AtMostOneConcrete → (p : ProgramForm) → IsValid p → (action : ActionForm) (chosen : List ℕ) (values : Option StructureForm) (s x y : StructureForm)
    (kept : List ℕ) → IsNext p action chosen values s x kept → IsNext p action chosen values s y kept → x.fresh ≡ None → y.fresh ≡ None → x ≡ y
same-next one_concrete p valid action chosen values s x y kept one two ux uy =
    let found = fronts_are_renamings kept (λ i j d lt within same. let apart = one.are_kept.ascending i j d lt within in absurd (omega (arith, apart, same)))
    in one-heap one_concrete p valid action chosen values s kept found.0 found.1 found.2 x y
    (record {
      next = one;
      unmarked = ux;
      named = same-names x (kept_individual kept) found.0 ux (λ u lt. sym (found.3 u (subst (λ n. u < n) one.size lt)));
    })
    (record {
      next = two;
      unmarked = uy;
      named = same-names y (kept_individual kept) found.0 uy (λ u lt. sym (found.3 u (subst (λ n. u < n) two.size lt)));
    })

-- ---- one standing

pub same-taken : (p : ProgramForm) (move : Move) (t u : Taken p move) → (t.edge ≡ u.edge) × (t.action ≡ u.action)
same-taken p move t u =
    let edge : t.edge ≡ u.edge = same_Some t.edge u.edge (sym t.its_edge ∙ u.its_edge)
    in (edge, same_Some t.action u.action (sym t.its_action ∙ ap (λ (e : Edge). slice_get p.actions e.action) edge ∙ u.its_action))

pub kept-same : (p : ProgramForm) (move : Move) (at x y : Standing) (one : Moves p move at x) (two : Moves p move at y) → one.kept ≡ two.kept
kept-same p move at x y one two =
    same-kept one.taken.action (picked_by one.taken.action.picks move.picks) at.heap one.kept two.kept one.next.are_kept
    (subst (λ (a : ActionForm). AreRetained a (picked_by a.picks move.picks) at.heap two.kept) (sym (same-taken p move one.taken two.taken).1)
    two.next.are_kept)

pub same-move : AtMostOneConcrete → (p : ProgramForm) → IsValid p → (move : Move) (at x y : Standing) → Moves p move at x → Moves p move at y → x ≡ y
same-move one_concrete p valid move at x y one two =
    let taken = same-taken p move one.taken two.taken
    in let next : IsNext p one.taken.action move.picks move.values at.heap y.heap one.kept
    = subst (IsNext p one.taken.action move.picks move.values at.heap y.heap) (sym (kept-same p move at x y one two))
    (subst (λ a. IsNext p a move.picks move.values at.heap y.heap two.kept) (sym taken.1) two.next)
    in let heap : x.heap ≡ y.heap
    = same-next one_concrete p valid one.taken.action move.picks move.values at.heap x.heap y.heap one.kept one.next next one.unmarked two.unmarked
    in let node : x.node ≡ y.node = one.node ∙ ap (λ (e : Edge). e.to) taken.0 ∙ sym two.node
    in λ i. record { node = node i; heap = heap i }

-- ---- one reason

same-failing : (p : ProgramForm) (move : Move) (at : Standing) (t u : Taken p move) (w : Why) → IsFirstFailure at move u w → IsFirstFailure at move t w
same-failing p move at t u w f = to (same-taken p move t u).0 (same-taken p move t u).1 w f
  where
    to : t.edge ≡ u.edge → t.action ≡ u.action → (w : Why) → IsFirstFailure at move u w → IsFirstFailure at move t w
    to e a why.Edge f = rw e f
    to e a why.Picks f = rw (e, a) f
    to e a why.Precondition f = rw (e, a) f
    to e a why.Individuals f = rw (e, a) f
    to e a why.Values f = rw (e, a) f

pub made-not_failed : (p : ProgramForm) (move : Move) (at x : Standing) → Moves p move at x → (t : Taken p move) (w : Why) → IsFirstFailure at move t w → ⊥
made-not_failed p move at x made t w f = by w made.can (same-failing p move at made.taken t w f)
  where
    by : (w : Why) → CanMove at move made.taken → IsFirstFailure at move made.taken w → ⊥
    by why.Edge can f = f can.leaves
    by why.Picks can f = f.1 can.picks
    by why.Precondition can f = f.2 can.enabled
    by why.Individuals can f = f.3 can.room
    by why.Values can f = f.4 can.values

pub one-failure : (p : ProgramForm) (move : Move) (at : Standing) (t u : Taken p move) (w v : Why) → IsFirstFailure at move t w → IsFirstFailure at move u v → w ≡ v
one-failure p move at t u w v f g = by w v f (same-failing p move at t u v g)
  where
    by : (w v : Why) → IsFirstFailure at move t w → IsFirstFailure at move t v → w ≡ v
    by why.Edge why.Edge f g = refl
    by why.Edge why.Picks f g = absurd (f g.0)
    by why.Edge why.Precondition f g = absurd (f g.0)
    by why.Edge why.Individuals f g = absurd (f g.0)
    by why.Edge why.Values f g = absurd (f g.0)
    by why.Picks why.Edge f g = absurd (g f.0)
    by why.Picks why.Picks f g = refl
    by why.Picks why.Precondition f g = absurd (f.1 g.1)
    by why.Picks why.Individuals f g = absurd (f.1 g.1)
    by why.Picks why.Values f g = absurd (f.1 g.1)
    by why.Precondition why.Edge f g = absurd (g f.0)
    by why.Precondition why.Picks f g = absurd (g.1 f.1)
    by why.Precondition why.Precondition f g = refl
    by why.Precondition why.Individuals f g = absurd (f.2 g.2)
    by why.Precondition why.Values f g = absurd (f.2 g.2)
    by why.Individuals why.Edge f g = absurd (g f.0)
    by why.Individuals why.Picks f g = absurd (g.1 f.1)
    by why.Individuals why.Precondition f g = absurd (g.2 f.2)
    by why.Individuals why.Individuals f g = refl
    by why.Individuals why.Values f g = absurd (f.3 g.3)
    by why.Values why.Edge f g = absurd (g f.0)
    by why.Values why.Picks f g = absurd (g.1 f.1)
    by why.Values why.Precondition f g = absurd (g.2 f.2)
    by why.Values why.Individuals f g = absurd (g.3 f.3)
    by why.Values why.Values f g = refl
