-- Lemmas on joins, for the crates above: the join of two stable structures is stable.
use Rattle.std.proofs.Common.{ℕ, ◌≡◌, ◌||◌, Bool, true, false, List, map, inl, inr, ⊎_elim, refl, sym, ap}
use Rattle.std.proofs.Common.{subst, ◌∙◌, Contains, IsTrue}
use Rattle.std.proofs.lemmas.Bool.{or_left, or_right, or_from}
use Rattle.tv_kleene.specs.declared.K3.{K3}
use Rattle.tv_kleene.specs.declared.K3.TheVariants.{No, Half, Yes}
use Rattle.tv_kleene.specs.Kleene.{join_of, negation_of}
use Rattle.tv_kleene.proofs.Thresholds.{Yes-below}
use Rattle.tv_kleene.proofs.Lattice.{join-left, join-right}
use Rattle.tv_model.specs.Form.{Form, FAtom, FSame}
use Rattle.tv_model.specs.Program.{HeadForm, HNever, HAtom, HSame, RuleForm}
use Rattle.tv_model.specs.Rules.{signed_form, IsFreeInRule}
use Rattle.tv_model.specs.Truth.{Assignment}
use Rattle.tv_embedding_laws.specs.LogicalStructure.{LogicalStructure}
use Rattle.tv_embedding_laws.specs.Embedding.{IsBelow}
use Rattle.tv_embedding_laws.proofs.EmbeddingLaws.{IsBelow-values}
use Rattle.tv_eval_laws.specs.Value.{value, same_value}
use Rattle.tv_eval_laws.proofs.Entries.{own_value, same-here, same-apart}
use Rattle.tv_eval_laws.proofs.Embedded.{values_are_monotone}
use Rattle.tv_stable_laws.specs.Stable.{IsHeadMet, IsStableUnder}
use Rattle.tv_stable_laws.specs.Laws.{joined, IsPlainRule, JoinsAreStable}
use Rattle.tv_stable_laws.proofs.Heads.{wanted, signed-wanted, signed-half, same-yes, same-no}

join-both : (flag : Bool) (x y : K3) → x ≡ wanted flag → y ≡ wanted flag → join_of x y ≡ wanted flag
join-both true x y p q = ap (λ k. join_of k y) p ∙ ap (λ k. join_of Yes k) q
join-both false x y p q = ap (λ k. join_of k y) p ∙ ap (λ k. join_of No k) q

join-half_left : (x y : K3) → x ≡ Half → join_of x y ≡ Half
join-half_left x y e = ap (λ k. join_of k y) e

join-half_right : (x y : K3) → y ≡ Half → join_of x y ≡ Half
join-half_right No y e = ap (λ k. join_of No k) e
join-half_right Half y e = refl
join-half_right Yes y e = ap (λ k. join_of Yes k) e

below-left : (s t : LogicalStructure) → IsBelow s (joined s t)
below-left s t =
    (IsBelow-values s (joined s t)).1 (record {
      individuals = refl;
      values = λ pred tuple all. join-left (s.value pred tuple) (t.value pred tuple);
      summaries = λ u at e. or_left (s.is_summary u) (t.is_summary u) e;
    })

below-right : (s t : LogicalStructure) → s.individuals ≡ t.individuals → IsBelow t (joined s t)
below-right s t same =
    (IsBelow-values t (joined s t)).1 (record {
      individuals = sym same;
      values = λ pred tuple all. join-right (s.value pred tuple) (t.value pred tuple);
      summaries = λ u at e. or_right (s.is_summary u) (t.is_summary u) e;
    })

-- a signed formula is Half where the formula is
half-signed : (flag : Bool) (s : LogicalStructure) (a : Assignment) (f : Form)
    → value s a f ≡ Half → value s a (signed_form flag f) ≡ Half
half-signed true s a f e = e
half-signed false s a f e = ap negation_of e

-- ---- heads

atom-joined : (s t : LogicalStructure) (a : Assignment) (flag : Bool) (pred : ℕ) (vars : List ℕ)
    → IsHeadMet s a (HAtom flag pred vars) → IsHeadMet t a (HAtom flag pred vars)
    → IsHeadMet (joined s t) a (HAtom flag pred vars)
atom-joined s t a flag pred vars (inl p) (inl q) =
    inl ((signed-wanted flag (joined s t) a (FAtom pred vars)).1
    (join-both flag (s.value pred (map a vars)) (t.value pred (map a vars))
    ((signed-wanted flag s a (FAtom pred vars)).0 p) ((signed-wanted flag t a (FAtom pred vars)).0 q)))
atom-joined s t a flag pred vars (inl p) (inr may) =
    inr (record {
      var = may.var;
      twice = may.twice;
      summary = or_right (s.is_summary (a may.var)) (t.is_summary (a may.var)) may.summary;
      half = half-signed flag (joined s t) a (FAtom pred vars)
          (join-half_right (s.value pred (map a vars)) (t.value pred (map a vars))
          (signed-half flag t a (FAtom pred vars) may.half));
    })
atom-joined s t a flag pred vars (inr may) q =
    inr (record {
      var = may.var;
      twice = may.twice;
      summary = or_left (s.is_summary (a may.var)) (t.is_summary (a may.var)) may.summary;
      half = half-signed flag (joined s t) a (FAtom pred vars)
          (join-half_left (s.value pred (map a vars)) (t.value pred (map a vars))
          (signed-half flag s a (FAtom pred vars) may.half));
    })

-- an equality of one variable on a summary is Half
same-on_summary : (s : LogicalStructure) (a : Assignment) (flag : Bool) (v w x : ℕ) → v ≡ x → w ≡ x
    → IsTrue (s.is_summary (a x))
    → value s a (signed_form flag (FSame v w)) ≡ Half
same-on_summary s a flag v w x e d summary =
    half-signed flag s a (FSame v w)
    (same-here s (a v) (a w) (ap a (e ∙ sym d)) ∙ ap (λ y. own_value (s.is_summary (a y))) e ∙ ap own_value summary)

same-joined_both : (s t : LogicalStructure) (flag : Bool) (u w : ℕ)
    → same_value s u w ≡ wanted flag → same_value t u w ≡ wanted flag → same_value (joined s t) u w ≡ wanted flag
same-joined_both s t true u w p q =
    same-here (joined s t) u w (same-yes s u w p).0
    ∙ ap own_value (or_from (s.is_summary u) (t.is_summary u) (same-yes s u w p).1 (same-yes t u w q).1)
same-joined_both s t false u w p q = same-apart (joined s t) u w (same-no s u w p)

same-joined : (s t : LogicalStructure) (a : Assignment) (flag : Bool) (v w : ℕ)
    → IsHeadMet s a (HSame flag v w) → IsHeadMet t a (HSame flag v w) → IsHeadMet (joined s t) a (HSame flag v w)
same-joined s t a flag v w (inl p) (inl q) =
    inl ((signed-wanted flag (joined s t) a (FSame v w)).1
    (same-joined_both s t flag (a v) (a w)
    ((signed-wanted flag s a (FSame v w)).0 p) ((signed-wanted flag t a (FSame v w)).0 q)))
same-joined s t a flag v w (inl p) (inr may) =
    let summary : IsTrue (s.is_summary (a may.var) || t.is_summary (a may.var))
    = or_right (s.is_summary (a may.var)) (t.is_summary (a may.var)) may.summary
    in inr (record {
      var = may.var;
      twice = may.twice;
      summary = summary;
      half = same-on_summary (joined s t) a flag v w may.var may.twice.0 may.twice.1 summary;
    })
same-joined s t a flag v w (inr may) q =
    let summary : IsTrue (s.is_summary (a may.var) || t.is_summary (a may.var))
    = or_left (s.is_summary (a may.var)) (t.is_summary (a may.var)) may.summary
    in inr (record {
      var = may.var;
      twice = may.twice;
      summary = summary;
      half = same-on_summary (joined s t) a flag v w may.var may.twice.0 may.twice.1 summary;
    })

head-joined : (s t : LogicalStructure) (a : Assignment) (head : HeadForm)
    → IsHeadMet s a head → IsHeadMet t a head → IsHeadMet (joined s t) a head
head-joined s t a HNever p q = ⊎_elim (λ e. absurd (cc e)) (λ may. absurd may.twice) p
head-joined s t a (HAtom flag pred vars) p q = atom-joined s t a flag pred vars p q
head-joined s t a (HSame flag v w) p q = same-joined s t a flag v w p q

-- ---- rules

rule-joined : (s t : LogicalStructure) → s.individuals ≡ t.individuals → (rule : RuleForm) → IsPlainRule rule
    → IsStableUnder s rule → IsStableUnder t rule → IsStableUnder (joined s t) rule
rule-joined s t same rule plain left right a inside body =
    let In : ℕ → List ℕ → Type 0 = λ u us. Contains us u
    in let inside_right : (v : ℕ) → IsFreeInRule v rule → Contains t.individuals (a v)
    = λ v free. subst (In (a v)) same (inside v free)
    in head-joined s t a rule.head
    (left a inside
    (Yes-below (value s a rule.body) (value (joined s t) a rule.body)
    (values_are_monotone rule.body s (joined s t) a (below-left s t) (λ n. absurd (plain.unmarked n))
    (λ v free. inside v (inl free)))
    body))
    (right a inside_right
    (Yes-below (value t a rule.body) (value (joined s t) a rule.body)
    (values_are_monotone rule.body t (joined s t) a (below-right s t same) (λ n. absurd (plain.unmarked n))
    (λ v free. inside_right v (inl free)))
    body))

pub joins_are_stable : JoinsAreStable
joins_are_stable s t rules same plain left right k d below =
    rule-joined s t same _ (plain k d below) (left k d below) (right k d below)
