-- The values of messages that are kept are told.
use Rattle.std.proofs.Common.{ℕ, ◌≡◌, ◌<◌, ◌≤◌, ◌+◌, ◌⊎◌, inl, inr, Bool, true, false, if◌then◌else◌, ◌==◌}
use Rattle.std.proofs.Common.{List, [], ◌∷◌, length, get_or, replicate, Some, refl, sym, ap, subst, ◌∙◌}
use Rattle.std.proofs.Common.{arith}
use Rattle.std.specs.Prelude.{slice_get}
use Rattle.std.proofs.lemmas.Bool.{cases_lt}
use Rattle.std.proofs.lemmas.List.{get_or_past, get_or-replicate, length-replicate}
use Rattle.std.proofs.lemmas.Option.{same_Some, slice_get_within, slice_get-get_or}
use Rattle.tv_kleene.specs.declared.K3.{K3}
use Rattle.tv_kleene.specs.declared.K3.TheVariants.{No}
use Rattle.tv_kleene.specs.Kleene.{larger_of}
use Rattle.tv_model.specs.declared.program.Edge.{Edge}
use Rattle.tv_model.specs.Program.{ProgramForm}
use Rattle.tv_model.specs.Valid.{IsValid}
use Rattle.tv_structure_form.specs.StructureForm.{StructureForm}
use Rattle.tv_step_laws.specs.Transfer.{AreMessageValues}
use Rattle.tv_join.specs.Members.{MembersForm}
use Rattle.tv_work.specs.Analyzed.{IsAtSource}
use Rattle.tv_work.specs.Explored.{AreSaid}
use Rattle.tv_work.specs.Reach.{Point}
use Rattle.tv_work.specs.Task.{TaskForm}
use Rattle.tv_work.specs.Told.{told_value, IsNoted}
use Rattle.tv_work.proofs.Larger.{larger-self, larger-trans}
use Rattle.tv_work.proofs.Saying.{noted-rises, noted-tells, said-noted, values-few}
use Rattle.tv_join.specs.Places.{member_place}
use Rattle.tv_join.specs.Rounds.{point}
use Rattle.tv_join.specs.State.{IsIn, StandsAt, listing_of, members_at}
use Rattle.tv_join.specs.Stepped.{AreAllFollowed, AreStepped, AreToldOf, IsFollowedAt, IsToldAlong, Tells}
use Rattle.tv_join.specs.Values.{values_at}
use Rattle.tv_join.proofs.Following.{in-stands, stands-in}

-- nothing is told at first
pub nothing-said : (t : TaskForm) (listing : List (List StructureForm)) (n : ℕ) (told : List (List K3))
    → n ≡ length t.program.edges → told ≡ replicate n [] → AreSaid t listing told
nothing-said t listing n told count e = subst (AreSaid t listing) (sym e) (record {
  edges = length-replicate {A = List K3} n [] ∙ count;
  said = λ edge number some. absurd (some (nothing edge number (cases_lt edge n)));
})
  where
    nothing : (edge number : ℕ) → (edge < n) ⊎ (n ≤ edge) → told_value (replicate n []) edge number ≡ No
    nothing edge number (inl lt) = ap (λ row. get_or row number No) (get_or-replicate n edge [] [] lt)
    nothing edge number (inr past) =
        ap (λ row. get_or row number No) (get_or_past (replicate n []) edge [] (omega (arith, past, length-replicate {A = List K3} n [])))

-- where no values are noted, nothing changes
pub nothing-noted : (edge : ℕ) (told : List (List K3)) → IsNoted edge [] told told
nothing-noted edge told e number = by (e == edge)
  where
    by : (b : Bool) → told_value told e number ≡ (if b then larger_of No (told_value told e number) else told_value told e number)
    by true = refl
    by false = refl

tells-on : (a b c : List (List K3)) → Tells a b → Tells b c → Tells a c
tells-on a b c first second edge number =
    larger-trans (told_value a edge number) (told_value b edge number) (told_value c edge number) (first edge number)
    (second edge number)

-- what was told stays told
told-weaker : (p : ProgramForm) (old new : List (List K3)) → Tells old new → (edge : ℕ) (s : StructureForm)
    → AreToldOf p old edge s → AreToldOf p new edge s
told-weaker p old new tells edge s before number k is =
    larger-trans k (told_value old edge number) (told_value new edge number) (before number k is) (tells edge number)

-- ---- the structures at an edge's source, one after the other

-- the values at the first places are told
pub record AreToldTo (t : TaskForm) (nodes : List MembersForm) (edge n : ℕ) (first now : List (List K3)) : Type 0 where
  pub said : AreSaid t (listing_of nodes) now
  pub tells : Tells first now
  pub told : (taken : Edge) → slice_get t.program.edges edge ≡ Some taken → (at : ℕ) → at < n → (s : StructureForm)
      → StandsAt nodes (member_place taken.from at) s → AreToldOf t.program now edge s

pub to-none : (t : TaskForm) (nodes : List MembersForm) (edge : ℕ) (told : List (List K3))
    → AreSaid t (listing_of nodes) told → AreToldTo t nodes edge 0 told told
to-none t nodes edge told said = record {
  said = said;
  tells = λ e number. larger-self (told_value told e number);
  told = λ taken is at lt. absurd (omega (arith, lt));
}

module _ (t : TaskForm) (valid : IsValid t.program) (nodes : List MembersForm) (A : Point → Type 0)
    (values : List (List (List K3))) (followed : AreAllFollowed t nodes A values) (edge : ℕ) (taken : Edge)
    (is : slice_get t.program.edges edge ≡ Some taken) (at : ℕ) (s : StructureForm)
    (stands : StandsAt nodes (member_place taken.from at) s) where
  -- the values that are kept are those of the structure
  pub kept-values : AreMessageValues t.program edge s (values_at values edge at)
  kept-values = (followed (member_place taken.from at) edge (taken, is, refl) taken is s stands).messages

  pub kept-few : length (values_at values edge at) ≤ 65536
  kept-few = values-few t.program valid edge s (values_at values edge at) kept-values

  pub to-next : (first old new : List (List K3)) → AreToldTo t nodes edge at first old
      → IsNoted edge (values_at values edge at) old new → length new ≡ length old
      → AreToldTo t nodes edge (at + 1) first new
  to-next first old new before noted count = record {
    said = said-noted t (listing_of nodes) (point taken.from s) edge source (values_at values edge at) kept-values old new
        noted count before.said;
    tells = tells-on first old new before.tells rises;
    told = λ other is_other i lt r stands_r. by other is_other i r stands_r lt (cases_lt i at);
  }
    where
      source : IsAtSource t.program edge (IsIn nodes) (point taken.from s)
      source = record {
        taken = taken;
        is_edge = is;
        leaves = refl;
        has = stands-in nodes (member_place taken.from at) s stands;
      }

      rises : Tells old new
      rises = noted-rises edge (values_at values edge at) old new noted

      here : AreToldOf t.program new edge s
      here = noted-tells edge (values_at values edge at) old new noted t.program s kept-values

      by : (other : Edge) → slice_get t.program.edges edge ≡ Some other → (i : ℕ) (r : StructureForm)
          → StandsAt nodes (member_place other.from i) r → i < at + 1 → (i < at) ⊎ (at ≤ i) → AreToldOf t.program new edge r
      by other is_other i r stands_r lt (inl less) =
          told-weaker t.program old new rises edge r (before.told other is_other i less r stands_r)
      by other is_other i r stands_r lt (inr past) =
          let last : i ≡ at = omega (arith, lt, past)
          in let same : other ≡ taken = same_Some other taken (sym is_other ∙ is)
          in let stands_here : slice_get (members_at nodes taken.from).structures at ≡ Some r
          = subst (λ n. slice_get (members_at nodes taken.from).structures n ≡ Some r) last
          (subst (λ (e : Edge). slice_get (members_at nodes e.from).structures i ≡ Some r) same stands_r)
          in subst (AreToldOf t.program new edge) (same_Some s r (sym stands ∙ stands_here)) here

-- where a place is within, a structure stands there
pub there-stands : (nodes : List MembersForm) (node at : ℕ) → at < length (members_at nodes node).structures
    → (s : StructureForm) × StandsAt nodes (member_place node at) s
there-stands nodes node at lt = by (members_at nodes node).structures refl
  where
    by : (xs : List StructureForm) → xs ≡ (members_at nodes node).structures
        → (s : StructureForm) × StandsAt nodes (member_place node at) s
    by [] e = absurd (omega (arith, lt, ap length e))
    by (d ∷ xs) e = (
      get_or (members_at nodes node).structures at d,
      slice_get-get_or (members_at nodes node).structures at d lt,
    )

-- in the end all are told
pub to-all : (t : TaskForm) (nodes : List MembersForm) (edge n : ℕ) (first told : List (List K3))
    → AreToldTo t nodes edge n first told
    → ((taken : Edge) → slice_get t.program.edges edge ≡ Some taken → length (members_at nodes taken.from).structures ≤ n)
    → IsToldAlong t nodes told edge
to-all t nodes edge n first told are all taken is s has =
    let stands = in-stands nodes taken.from s has
    in are.told taken is stands.0
    (omega (arith, all taken is, slice_get_within (members_at nodes taken.from).structures stands.0 s stands.1)) s stands.1

-- ---- edges, one after the other

-- the values of the messages of the first edges are told
pub record AreToldUpTo (t : TaskForm) (nodes : List MembersForm) (n : ℕ) (now : List (List K3)) : Type 0 where
  pub said : AreSaid t (listing_of nodes) now
  pub told : (edge : ℕ) → edge < n → IsToldAlong t nodes now edge

pub up-none : (t : TaskForm) (nodes : List MembersForm) (told : List (List K3)) → AreSaid t (listing_of nodes) told
    → AreToldUpTo t nodes 0 told
up-none t nodes told said = record { said = said; told = λ edge lt. absurd (omega (arith, lt)) }

pub up-next : (t : TaskForm) (nodes : List MembersForm) (n : ℕ) (old new : List (List K3)) → AreToldUpTo t nodes n old
    → AreSaid t (listing_of nodes) new → Tells old new → IsToldAlong t nodes new n → AreToldUpTo t nodes (n + 1) new
up-next t nodes n old new before said tells here = record {
  said = said;
  told = λ edge lt. by edge lt (cases_lt edge n);
}
  where
    by : (edge : ℕ) → edge < n + 1 → (edge < n) ⊎ (n ≤ edge) → IsToldAlong t nodes new edge
    by edge lt (inl less) = λ taken is s has.
        told-weaker t.program old new tells edge s (before.told edge less taken is s has)
    by edge lt (inr past) =
        let last : n ≡ edge = omega (arith, lt, past)
        in subst (IsToldAlong t nodes new) last here

pub up-all : (t : TaskForm) (nodes : List MembersForm) (A : Point → Type 0) (values : List (List (List K3)))
    → AreAllFollowed t nodes A values → (n : ℕ) (told : List (List K3)) → AreToldUpTo t nodes n told
    → length t.program.edges ≤ n → AreStepped t nodes A told
up-all t nodes A values followed n told are all = record {
  done = λ edge taken is s has.
      let stands = in-stands nodes taken.from s has
      in let one : IsFollowedAt t A values edge taken stands.0 s
      = followed (member_place taken.from stands.0) edge (taken, is, refl) taken is s stands.1
      in record {
        results = one.results;
        are_results = one.are_results;
        covered = one.covered;
        values = are.told edge (omega (arith, all, slice_get_within t.program.edges edge taken is)) taken is s has;
        budgets = one.budgets;
      };
  said = are.said;
}
