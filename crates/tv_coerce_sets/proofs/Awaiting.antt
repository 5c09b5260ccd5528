-- Sets of rules that grow by what values of one predicate became.
use Rattle.std.proofs.Common.{ℕ, ◌≡◌, ◌<◌, ◌∙◌, ◌++◌, ◌∷◌, Bool, true, false, List, [], length, Option, None}
use Rattle.std.proofs.Common.{Some}
use Rattle.std.proofs.Common.{inl, inr, ⊎_elim, refl, sym, ap, subst, slice_get, get_or, Contains}
use Rattle.std.specs.Prelude.{IsTrue}
use Rattle.std.proofs.lemmas.List.{length-replicate}
use Rattle.std.proofs.lemmas.List.Elements.{Contains-get_or}
use Rattle.tv_model.specs.Program.{HAtom, RuleForm}
use Rattle.tv_model.proofs.Lists.{Contains-none, pushed-cases, slice_get-below}
use Rattle.tv_rules.specs.Seen.{Sees}
use Rattle.tv_rules.specs.Standing.{AreNumbersOf, IsHeadOf, StandsIn}
use Rattle.tv_coerce_moves.proofs.MoveLaws.{moves-shows}
use Rattle.tv_structure_form.specs.TableForm.{AreIndividuals}
use Rattle.tv_structure_form.specs.StructureForm.{StructureForm}
use Rattle.tv_coerce.specs.RuleSets.{AreOf, HasAtLeast, IsIn, IsRuleThat}
use Rattle.tv_coerce_sets.specs.declared.turned.Turned.{Turned}
use Rattle.tv_coerce_sets.specs.Turned.{HasSameValues, HasTurned, known}
use Rattle.tv_coerce_sets.specs.Unmet.{HasHeadWith, HasNoNew, MaySee, StaysMet, WaitsAmong, set_of}

-- ---- rules that stay met

-- where the values are the same
pub same-stays : (q : ℕ) (rule : RuleForm) (s t : StructureForm) → s.size ≡ t.size → HasSameValues q s t → StaysMet q rule s t
same-stays q rule s t size same = record {
  seen = λ flag sees tuple inside e. same tuple inside ∙ e;
  met = λ flag heads tuple inside e. sym (same tuple (subst (λ n. AreIndividuals n tuple) (sym size) inside)) ∙ e;
}

-- where the predicate doesn't stand in the rule
unruled-stays : (q : ℕ) (rule : RuleForm) (s t : StructureForm) → ¬ StandsIn q rule → StaysMet q rule s t
unruled-stays q rule s t nowhere = record {
  seen = λ flag sees. absurd (nowhere (⊎_elim (λ moves. inl (moves-shows (HAtom flag q []) rule.body true moves))
      (λ twice. inr twice.0) sees));
  met = λ flag heads. absurd (nowhere (inr (subst (IsHeadOf q) (sym heads.1) refl)));
}

-- where the rule sees nothing of what came or went
unseen-stays : (turned : Turned) (q : ℕ) (rule : RuleForm) (s t : StructureForm) → s.size ≡ t.size
    → HasTurned turned q s t → ¬ MaySee turned q rule → StaysMet q rule s t
unseen-stays turned q rule s t size told blind = record { seen = seen; met = met }
  where
    seen : (flag : Bool) → Sees (HAtom flag q []) rule → HasNoNew (known flag) q s t
    seen true sees tuple inside e =
        ⊎_elim (λ was. was) (λ on. absurd (blind (inl (on, sees)))) ((told tuple inside).to_yes e)
    seen false sees tuple inside e =
        ⊎_elim (λ was. was) (λ on. absurd (blind (inr (inl (on, sees))))) ((told tuple inside).to_no e)

    met : (flag : Bool) → HasHeadWith flag q rule → HasNoNew (known flag) q t s
    met true heads tuple inside e =
        ⊎_elim (λ is. is) (λ on. absurd (blind (inr (inr (inl (on, heads))))))
        ((told tuple (subst (λ n. AreIndividuals n tuple) (sym size) inside)).from_yes e)
    met false heads tuple inside e =
        ⊎_elim (λ is. is) (λ on. absurd (blind (inr (inr (inr (on, heads))))))
        ((told tuple (subst (λ n. AreIndividuals n tuple) (sym size) inside)).from_no e)

-- ---- numbers of rules

pub within-numbers : (q : ℕ) (rules : List RuleForm) (numbers : List ℕ) → AreNumbersOf (StandsIn q) rules numbers
    → (k d : ℕ) → k < length numbers → get_or numbers k d < length rules
within-numbers q rules numbers are k d lt =
    let found : (rule : RuleForm) × (slice_get rules (get_or numbers k d) ≡ Some rule) × StandsIn q rule
    = (are.exact (get_or numbers k d)).0 (Contains-get_or numbers k d lt)
    in slice_get-below rules (get_or numbers k d) found.0 found.1

pub headed-numbers : (flag : Bool) (q : ℕ) (rules : List RuleForm) (numbers : List ℕ)
    → AreNumbersOf (StandsIn q) rules numbers → (n : ℕ) → IsRuleThat (HasHeadWith flag q) rules n
    → AreOf (Contains numbers) (IsRuleThat (HasHeadWith flag q) rules) n
headed-numbers flag q rules numbers are n (rule, there, heads) = (
  (are.exact n).1 (rule, there, inr (subst (IsHeadOf q) (sym heads.1) refl)),
  (rule, there, heads),
)

-- what grew by each of several kinds of rules grew by their sum
pub least-all : (turned : Turned) (q : ℕ) (rules : List RuleForm) (a b c d e : List Bool)
    → HasAtLeast (λ n. IsTrue turned.to_yes × IsRuleThat (Sees (HAtom true q [])) rules n) a b
    → HasAtLeast (λ n. IsTrue turned.to_no × IsRuleThat (Sees (HAtom false q [])) rules n) b c
    → HasAtLeast (λ n. IsTrue turned.from_yes × IsRuleThat (HasHeadWith true q) rules n) c d
    → HasAtLeast (λ n. IsTrue turned.from_no × IsRuleThat (HasHeadWith false q) rules n) d e
    → HasAtLeast (IsRuleThat (MaySee turned q) rules) a e
least-all turned q rules a b c d e first second third fourth = record {
  kept = λ n was. fourth.kept n (third.kept n (second.kept n (first.kept n was)));
  those = those;
  count = fourth.count ∙ third.count ∙ second.count ∙ first.count;
}
  where
    those : (n : ℕ) → IsRuleThat (MaySee turned q) rules n → IsIn e n
    those n (rule, there, inl (on, sees)) =
        fourth.kept n (third.kept n (second.kept n (first.those n (on, (rule, there, sees)))))
    those n (rule, there, inr (inl (on, sees))) = fourth.kept n (third.kept n (second.those n (on, (rule, there, sees))))
    those n (rule, there, inr (inr (inl (on, heads)))) = fourth.kept n (third.those n (on, (rule, there, heads)))
    those n (rule, there, inr (inr (inr (on, heads)))) = fourth.those n (on, (rule, there, heads))

pub least-none : (P : ℕ → Type 0) (old new : List Bool) → new ≡ old → ((n : ℕ) → ¬ P n) → HasAtLeast P old new
least-none P old new e none = record {
  kept = λ n was. subst (λ set. IsIn set n) (sym e) was;
  those = λ n at. absurd (none n at);
  count = ap length e;
}

-- ---- sets of rules

pub none-among : (rules : List RuleForm) (s t : StructureForm) → WaitsAmong [] rules s t None
none-among rules s t = record {
  count = length-replicate (length rules) false;
  stays = λ k q rule there out at. absurd (Contains-none q at);
}

-- nothing is found where rules stay met as far as the predicate goes
more-stay : (preds : List ℕ) (r : ℕ) (rules : List RuleForm) (s t : StructureForm) (found : Option (List Bool))
    → WaitsAmong preds rules s t found
    → ((k : ℕ) (rule : RuleForm) → slice_get rules k ≡ Some rule → StaysMet r rule s t)
    → WaitsAmong (preds ++ r ∷ []) rules s t found
more-stay preds r rules s t found before stays = record {
  count = before.count;
  stays = λ k q rule there out at. ⊎_elim
      (λ earlier. before.stays k q rule there out earlier)
      (λ is. subst (λ z. StaysMet z rule s t) (sym is) (stays k rule there))
      (pushed-cases preds r q at);
}

pub same-among : (preds : List ℕ) (r : ℕ) (rules : List RuleForm) (s t : StructureForm)
    (found : Option (List Bool)) → s.size ≡ t.size
    → WaitsAmong preds rules s t found → HasSameValues r s t → WaitsAmong (preds ++ r ∷ []) rules s t found
same-among preds r rules s t found size before same =
    more-stay preds r rules s t found before (λ k rule there. same-stays r rule s t size same)

-- nor where the predicate stands in no rule
pub unruled-among : (preds : List ℕ) (r : ℕ) (rules : List RuleForm) (s t : StructureForm)
    (found : Option (List Bool))
    → WaitsAmong preds rules s t found
    → ((k : ℕ) (rule : RuleForm) → slice_get rules k ≡ Some rule → ¬ StandsIn r rule)
    → WaitsAmong (preds ++ r ∷ []) rules s t found
unruled-among preds r rules s t found before nowhere =
    more-stay preds r rules s t found before (λ k rule there. unruled-stays r rule s t (nowhere k rule there))

-- else the rules are that may be unmet by what came and went
pub more-among : (preds : List ℕ) (r : ℕ) (rules : List RuleForm) (s t : StructureForm) (turned : Turned)
    (found : Option (List Bool)) (old new : List Bool) → s.size ≡ t.size → HasTurned turned r s t
    → WaitsAmong preds rules s t found → old ≡ set_of rules found
    → HasAtLeast (IsRuleThat (MaySee turned r) rules) old new
    → WaitsAmong (preds ++ r ∷ []) rules s t (Some new)
more-among preds r rules s t turned found old new size told before is more = record {
  count = more.count ∙ ap length is ∙ before.count;
  stays = λ k q rule there out at. ⊎_elim
      (λ earlier. before.stays k q rule there
      (λ was. out (more.kept k (subst (λ set. IsIn set k) (sym is) was))) earlier)
      (λ e. subst (λ z. StaysMet z rule s t) (sym e)
      (unseen-stays turned r rule s t size told (λ sees. out (more.those k (rule, there, sees)))))
      (pushed-cases preds r q at);
}
