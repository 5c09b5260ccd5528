-- Steps whose structures weren't read yet, and the steps that they stand for.
use Rattle.std.proofs.Common.{◌≡◌, ℕ, ◌≤◌, List, [], ◌∷◌, length, Option, Some, None, refl, sym, ap, ◌∙◌, inl}
use Rattle.std.proofs.Common.{inr, arith}
use Rattle.std.specs.Prelude.{Bool, codes}
use Rattle.tv_lex.specs.Token.{SpecToken}
use Rattle.tv_phrases.specs.Reading.{taken, ◌>>=◌}
use Rattle.tv_phrases.specs.Tokens.{after, first, number_item}
use Rattle.tv_phrases.specs.Lists.{optional_list}
use Rattle.tv_phrases.specs.Repeated.{Repeated}
use Rattle.tv_phrases.proofs.Values.{bind_some, chosen, same_value, same_rest}
use Rattle.tv_phrases.proofs.Takes.{after_takes, first_takes, optional_takes}
use Rattle.tv_phrases.proofs.Repeats.{IsRead, held}
use Rattle.tv_tvs.specs.Grammar.{IsStruct}
use Rattle.tv_tvs.specs.Reading.{struct_at, struct_end}
use Rattle.tv_tvs.specs.Tree.{StructTree}
use Rattle.tv_tvs.proofs.Sound.{struct_sound}
use Rattle.tv_tvs.proofs.Complete.{struct_complete, struct_shorter, one_struct}
use Rattle.tv_trace.specs.Tree.{StepTree}
use Rattle.tv_trace.specs.Grammar.{ArePicks, AreValues, IsStep}
use Rattle.tv_trace.specs.Reading.{StepMark, closed_numbers_at, picks_at, passed_at, values_at, step_at}
use Rattle.std.specs.List.{AllZip}
use Rattle.tv_phrases.proofs.Marks.{trees_for, marks_for}
use Rattle.tv_lemmas.proofs.Zips.{same_partners}

-- ---- picks

picks_sound : (ts rest : List SpecToken) (picks : List ℕ) → picks_at ts ≡ taken picks rest → ArePicks ts picks rest
unfolding picks_at closed_numbers_at
picks_sound ts rest picks e =
    elim (chosen (after (codes "(") ts) (Some ([], ts)) closed_numbers_at (taken picks rest) e) [
      | inl h ↦ inl (h.0, sym (same_value [] picks ts rest h.1), sym (same_rest [] picks ts rest h.1))
      | inr h ↦
          let a = bind_some (optional_list number_item h.0) _ (picks, rest) h.2
          in let b = bind_some (after (codes ")") a.0.1) _ (picks, rest) a.2
          in held (λ (ns : List ℕ) us. ArePicks ts ns us) a.0.0 picks b.0 rest b.2 (inr (h.0, a.0.1, h.1, a.1, b.1))
    ]

picks_read : (ts rest : List SpecToken) (picks : List ℕ) → ArePicks ts picks rest → (picks_at ts ≡ taken picks rest) × (length rest ≤ length ts)
unfolding picks_at closed_numbers_at
picks_read ts rest picks (inl h) = (rw (h.0, h.1, h.2) refl, rw h.2 (omega arith))
picks_read ts rest picks (inr h) =
    let la = after_takes (codes "(") ts h.0 h.2
    in let lb = optional_takes number_item h.0 h.1 picks h.3
    in let lc = after_takes (codes ")") h.1 rest h.4
    in (rw (h.2, h.3, h.4) refl, omega (arith, la, lb, lc))

-- ---- structures that are passed over

abbrev pub AreMarkedValues : List SpecToken → Option (List SpecToken) → List SpecToken → Type 0
AreMarkedValues ts None rest = (after (codes "free") ts ≡ None) × (rest ≡ ts)
AreMarkedValues ts (Some us) rest = (after (codes "free") ts ≡ Some us) × ((t : StructTree) × IsStruct us t rest)

values_sound : (ts rest : List SpecToken) (values : Option (List SpecToken)) → values_at ts ≡ taken values rest → AreMarkedValues ts values rest
unfolding values_at passed_at struct_end
values_sound ts rest values e =
    elim (chosen (after (codes "free") ts) (Some (None, ts)) passed_at (taken values rest) e) [
      | inl h ↦ held (λ (v : Option (List SpecToken)) us. AreMarkedValues ts v us) None values ts rest h.1 (h.0, refl)
      | inr h ↦
          let a = bind_some (struct_at h.0 >>= λ x. Some x.1) _ (values, rest) h.2
          in let b = bind_some (struct_at h.0) _ a.0 a.1
          in held (λ (v : Option (List SpecToken)) us. AreMarkedValues ts v us) (Some h.0) values b.0.1 rest
          (ap (λ us. taken (Some h.0) us) (some_same b.0.1 a.0 b.2) ∙ a.2) (h.1, (b.0.0, struct_sound h.0 b.0 b.1))
    ]
  where
    some_same : (x y : List SpecToken) → Some x ≡ Some y → x ≡ y
    some_same x y e = cc

values_read : (ts rest : List SpecToken) (values : Option (List SpecToken)) → AreMarkedValues ts values rest
    → (values_at ts ≡ taken values rest) × (length rest ≤ length ts)
unfolding values_at passed_at struct_end
values_read ts rest None h = (rw (h.0, h.1) refl, rw h.1 (omega arith))
values_read ts rest (Some us) h =
    let la = after_takes (codes "free") ts us h.0
    in let lb = struct_shorter us h.1.0 rest h.1.1
    in (rw (h.0, struct_complete us h.1.0 rest h.1.1) refl, omega (arith, la, lb))

-- ---- steps

-- the tokens begin with a step that is marked so
pub record IsMarkedStep (ts : List SpecToken) (m : StepMark) (rest : List SpecToken) : Type 0 where
  pub inside : List SpecToken
  pub numbered : List SpecToken
  pub picked : List SpecToken
  pub begins : after (codes "step") ts ≡ Some inside
  pub edge : first number_item inside ≡ taken m.edge numbered
  pub picks : ArePicks numbered m.picks picked
  pub values : AreMarkedValues picked m.values rest

abbrev mark_with : ℕ → List ℕ → Option (List SpecToken) → StepMark
mark_with edge picks values = record { edge = edge; picks = picks; values = values }

pub step_sound : (ts rest : List SpecToken) (m : StepMark) → step_at ts ≡ taken m rest → IsMarkedStep ts m rest
unfolding step_at
step_sound ts rest m e =
    let a = bind_some (after (codes "step") ts) _ (m, rest) e
    in let b = bind_some (first number_item a.0) _ (m, rest) a.2
    in let c = bind_some (picks_at b.0.1) _ (m, rest) b.2
    in let d = bind_some (values_at c.0.1) _ (m, rest) c.2
    in held (λ (n : StepMark) us. IsMarkedStep ts n us) (mark_with b.0.0 c.0.0 d.0.0) m d.0.1 rest d.2
    (record {
      inside = a.0;
      numbered = b.0.1;
      picked = c.0.1;
      begins = a.1;
      edge = b.1;
      picks = picks_sound b.0.1 c.0.1 c.0.0 c.1;
      values = values_sound c.0.1 d.0.1 d.0.0 d.1;
    })

pub step_read : IsRead step_at IsMarkedStep
unfolding step_at
step_read ts rest m is =
    let picks = picks_read is.numbered is.picked m.picks is.picks
    in let values = values_read is.picked rest m.values is.values
    in let la = after_takes (codes "step") ts is.inside is.begins
    in let lb = first_takes number_item is.inside is.numbered m.edge is.edge
    in let lc = picks.1
    in let ld = values.1
    in (rw (is.begins, is.edge, picks.0, values.0) refl, omega (arith, la, lb, lc, ld))

-- ---- what a mark stands for

abbrev pub MarksValues : Option (List SpecToken) → Option StructTree → Type 0
MarksValues None None = Unit {0}
MarksValues None (Some t) = ⊥
MarksValues (Some ts) None = ⊥
MarksValues (Some ts) (Some t) = (rest : List SpecToken) × IsStruct ts t rest

pub record IsMarked (m : StepMark) (t : StepTree) : Type 0 where
  pub edge : m.edge ≡ t.edge
  pub picks : m.picks ≡ t.picks
  pub values : MarksValues m.values t.values

abbrev pub AreMarked : List StepMark → List StepTree → Type 0
AreMarked = AllZip IsMarked

abbrev step_with : ℕ → List ℕ → Option StructTree → StepTree
step_with edge picks values = record { edge = edge; picks = picks; values = values }

values_of_mark : (ts rest : List SpecToken) (m : Option (List SpecToken)) → AreMarkedValues ts m rest
    → (t : Option StructTree) × AreValues ts t rest × MarksValues m t
values_of_mark ts rest None h = (None, h, tt)
values_of_mark ts rest (Some us) h = (Some h.1.0, (us, h.0, h.1.1), (rest, h.1.1))

mark_of_values : (ts rest : List SpecToken) (t : Option StructTree) → AreValues ts t rest
    → (m : Option (List SpecToken)) × AreMarkedValues ts m rest × MarksValues m t
mark_of_values ts rest None h = (None, h, tt)
mark_of_values ts rest (Some t) h = (Some h.0, (h.1, (t, h.2)), (rest, h.2))

pub tree_of_mark : (ts rest : List SpecToken) (m : StepMark) → IsMarkedStep ts m rest → (t : StepTree) × IsStep ts t rest × IsMarked m t
tree_of_mark ts rest m is =
    let values = values_of_mark is.picked rest m.values is.values
    in (
      step_with m.edge m.picks values.0,
      (is.inside, is.numbered, is.picked, is.begins, is.edge, is.picks, values.1),
      record { edge = refl; picks = refl; values = values.2 },
    )

pub mark_of_tree : (ts rest : List SpecToken) (t : StepTree) → IsStep ts t rest → (m : StepMark) × IsMarkedStep ts m rest × IsMarked m t
mark_of_tree ts rest t is =
    let values = mark_of_values is.2 rest t.values is.6
    in (
      mark_with t.edge t.picks values.0,
      record {
        inside = is.0;
        numbered = is.1;
        picked = is.2;
        begins = is.3;
        edge = is.4;
        picks = is.5;
        values = values.1;
      },
      record { edge = refl; picks = refl; values = values.2 },
    )

-- ---- lists of them

pub trees_of_marks : (begins : List SpecToken → Bool) (ts rest : List SpecToken) (marks : List StepMark)
    → Repeated begins IsMarkedStep ts marks rest
    → (trees : List StepTree) × Repeated begins IsStep ts trees rest × AreMarked marks trees
trees_of_marks begins = trees_for begins IsMarkedStep IsStep IsMarked tree_of_mark

pub marks_of_trees : (begins : List SpecToken → Bool) (ts rest : List SpecToken) (trees : List StepTree)
    → Repeated begins IsStep ts trees rest
    → (marks : List StepMark) × Repeated begins IsMarkedStep ts marks rest × AreMarked marks trees
marks_of_trees begins = marks_for begins IsMarkedStep IsStep IsMarked mark_of_tree

-- ---- one tree for a mark

same_values : (m : Option (List SpecToken)) (t u : Option StructTree) → MarksValues m t → MarksValues m u → t ≡ u
same_values None None None a b = refl
same_values None None (Some u) a b = elim b [ ]
same_values None (Some t) u a b = elim a [ ]
same_values (Some ts) None u a b = elim a [ ]
same_values (Some ts) (Some t) None a b = elim b [ ]
same_values (Some ts) (Some t) (Some u) a b = ap Some (one_struct ts t u a.0 b.0 a.1 b.1).0

same_step : (m : StepMark) (t u : StepTree) → IsMarked m t → IsMarked m u → t ≡ u
same_step m t u a b =
    let edge : t.edge ≡ u.edge = sym a.edge ∙ b.edge
    in let picks : t.picks ≡ u.picks = sym a.picks ∙ b.picks
    in ap (λ n. step_with n t.picks t.values) edge ∙ ap (λ ns. step_with u.edge ns t.values) picks
    ∙ ap (λ v. step_with u.edge u.picks v) (same_values m.values t.values u.values a.values b.values)

pub same_steps : (marks : List StepMark) (ts us : List StepTree) → AreMarked marks ts → AreMarked marks us → ts ≡ us
same_steps = same_partners IsMarked same_step
