-- What two structures have in common, and the rules that stay met where they differ.
use Rattle.std.proofs.Common.{ℕ, ◌≡◌, ◌∙◌, ◌<◌, ◌≤◌, ◌+◌, Bool, true, false, List, [], ◌∷◌, ◌++◌, length}
use Rattle.std.proofs.Common.{map, take, Option, None, Some, inl, inr, ⊎_elim, refl, sym, ap, subst, arith}
use Rattle.std.proofs.Common.{append_assoc, get_or, slice_get, replicate, Contains}
use Rattle.std.specs.List.{range_with_len}
use Rattle.std.proofs.lemmas.Bool.{cases_lt}
use Rattle.std.proofs.lemmas.List.{get_or-replicate, get_or_default}
use Rattle.std.proofs.lemmas.List.Elements.{All-contains}
use Rattle.std.proofs.lemmas.List.FromFn.{get_or-map-range_with_len}
use Rattle.std.proofs.lemmas.Option.{slice_get_within, slice_get-get_or}
use Rattle.tv_lemmas.proofs.Lists.{map_next}
use Rattle.tv_kleene.specs.declared.K3.TheVariants.{No}
use Rattle.tv_model.specs.declared.formula.PredId.{PredId}
use Rattle.tv_model.specs.Program.{ProgramForm, RuleForm}
use Rattle.tv_model.specs.Valid.{IsValid}
use Rattle.tv_model.proofs.Lists.{slice_get-contains}
use Rattle.tv_stable_laws.specs.Laws.{IsPlainRule}
use Rattle.tv_stable_laws.specs.Stable.{IsStable, IsStableUnder}
use Rattle.tv_rules.specs.Closing.{closed_rules}
use Rattle.tv_rules.proofs.Ranges.{rules_are_plain}
use Rattle.tv_structure_form.specs.StructureForm.{StructureForm, structure_of, arities_of, value_at}
use Rattle.tv_structure_form.specs.StructureForm.{summary_at}
use Rattle.tv_struct.specs.StructureRows.{summary_row, flag_value}
use Rattle.tv_structure_form.proofs.Library.{Contains-range, fits_or_No}
use Rattle.tv_coerce.specs.RuleSets.{IsStableBut}
use Rattle.tv_coerce_sets.specs.Turned.{AreAlike, HasSameValues}
use Rattle.tv_coerce_sets.specs.Unmet.{WaitsAmong, set_of}
use Rattle.tv_coerce_sets.proofs.Awaiting.{same-stays}
use Rattle.tv_coerce_sets.proofs.Staying.{stays-met}
use Rattle.tv_step.specs.Changed.{AreAlikeBut, IsFew}
use Rattle.tv_step.specs.Setting.{IsStableIn}

-- ---- summaries

same-flags : (x y : Bool) → flag_value x ≡ flag_value y → x ≡ y
same-flags false false e = refl
same-flags false true e = cc
same-flags true false e = cc
same-flags true true e = refl

pub alike-summaries : (s t : StructureForm) → s.size ≡ t.size → summary_row s ≡ summary_row t → AreAlike s t
alike-summaries s t size rows = record {
  size = size;
  summaries = λ u lt. same-flags (summary_at s u) (summary_at t u)
      (sym (get_or-map-range_with_len (λ w. flag_value (summary_at s w)) 0 s.size u u No lt (omega arith))
      ∙ ap (λ row. get_or row u No) rows
      ∙ get_or-map-range_with_len (λ w. flag_value (summary_at t w)) 0 t.size u u No (omega (arith, lt, size))
      (omega arith));
}

-- ---- values

-- past the last predicate there are no values
past-all : (s : StructureForm) (pred : ℕ) → length (arities_of s) ≤ pred → (tuple : List ℕ)
    → value_at s pred tuple ≡ No
past-all s pred past tuple =
    ⊎_elim (λ fits. absurd (omega (arith, past, slice_get_within (arities_of s) pred (length tuple) fits)))
    (λ no. no) (fits_or_No s pred tuple)

pub same-past : (s t : StructureForm) (pred : ℕ) → arities_of s ≡ arities_of t → length (arities_of s) ≤ pred
    → HasSameValues pred s t
same-past s t pred over past tuple within =
    past-all s pred past tuple
    ∙ sym (past-all t pred (subst (λ arities. length arities ≤ pred) over past) tuple)

-- alike structures differ in their predicates alone
pub alike-anywhere : (s t : StructureForm) → arities_of s ≡ arities_of t → AreAlike s t
    → AreAlikeBut (range_with_len 0 (length (arities_of s))) s t
alike-anywhere s t over alike = record {
  alike = alike;
  others = λ q. ⊎_elim (λ lt. inl (Contains-range (length (arities_of s)) q lt))
      (λ past. inr (same-past s t q over past)) (cases_lt q (length (arities_of s)));
}

-- ---- sets of rules

pub preds-next : (qs : List ℕ) (preds : List PredId) (i : ℕ) (d : PredId) → i < length preds
    → (qs ++ map (λ p. p.0) (take i preds)) ++ (get_or preds i d).0 ∷ [] ≡ qs ++ map (λ p. p.0) (take (i + 1) preds)
preds-next qs preds i d lt =
    append_assoc qs (map (λ p. p.0) (take i preds)) ((get_or preds i d).0 ∷ [])
    ∙ ap (λ rs. qs ++ rs) (sym (map_next (λ p. p.0) preds i (get_or preds i d) lt
    (get_or_default preds i d (get_or preds i d) lt)))

-- what came of a stable structure is stable but for the rules that are found
found-rest : (p : ProgramForm) → IsValid p → (s t : StructureForm) (preds : List ℕ) (rules : List RuleForm)
    (found : Option (List Bool))
    → rules ≡ closed_rules p → IsStable (closed_rules p) (structure_of s) → AreAlikeBut preds s t
    → WaitsAmong preds rules s t found → IsStableBut rules (set_of rules found) t
found-rest p valid s t preds rules found same stable but waits n rule there out =
    stays-met s t rule but.alike
    (All-contains IsPlainRule (closed_rules p) rule (rules_are_plain p valid) in_closed).unmarked
    (λ q. ⊎_elim (λ among. waits.stays n q rule there out among)
    (λ kept. same-stays q rule s t but.alike.size kept)
    (but.others q))
    (All-contains (IsStableUnder (structure_of s)) (closed_rules p) rule stable in_closed)
  where
    in_closed : Contains (closed_rules p) rule
    in_closed = slice_get-contains (closed_rules p) n rule (subst (λ rs. slice_get rs n ≡ Some rule) same there)

-- no rule waits
stable-all : (p : ProgramForm) (rules : List RuleForm) (t : StructureForm) → rules ≡ closed_rules p
    → IsStableBut rules (replicate (length rules) false) t → IsStableIn p t
stable-all p rules t same rest =
    subst (λ rs. IsStable rs (structure_of t)) same
    (λ k d lt. rest k (get_or rules k d) (slice_get-get_or rules k d lt)
    (λ at. let out : get_or (replicate (length rules) false) k false ≡ false
    = get_or-replicate (length rules) k false false lt
    in absurd (cc (at, out))))

pub few-found : (p : ProgramForm) → IsValid p → (s t : StructureForm) (preds : List ℕ) (rules : List RuleForm)
    → rules ≡ closed_rules p → IsStableIn p s → AreAlikeBut preds s t
    → (found : Option (List Bool)) → WaitsAmong preds rules s t found → IsFew p rules t found
few-found p valid s t preds rules same stable but None waits =
    stable-all p rules t same (found-rest p valid s t preds rules None same stable but waits)
few-found p valid s t preds rules same stable but (Some set) waits =
    (waits.count, found-rest p valid s t preds rules (Some set) same stable but waits)
