-- Lemmas on images, for the crates above: the image of a stable structure is stable.
use Rattle.std.proofs.Common.{ℕ, ◌≡◌, ◌≢◌, Bool, true, false, List, [], ◌∷◌, map, inl, inr, ⊎_elim, refl}
use Rattle.std.proofs.Common.{sym, ap, subst, ◌∙◌, arith, All, Contains, IsTrue}
use Rattle.std.proofs.lemmas.Bool.{cases_eq, false≢true, cases_Bool}
use Rattle.std.proofs.lemmas.List.Elements.{All-nil, All-cons, All-head, All-tail}
use Rattle.tv_kleene.specs.declared.K3.TheVariants.{No, Yes}
use Rattle.tv_kleene.specs.Kleene.{LiesUnder, negation_of}
use Rattle.tv_model.specs.Form.{FAtom, FSame}
use Rattle.tv_model.specs.Program.{HeadForm, HNever, HAtom, HSame, RuleForm}
use Rattle.tv_model.specs.Rules.{IsInHead, signed_form, head_formula, IsFreeInRule}
use Rattle.tv_model.specs.Truth.{Assignment, put}
use Rattle.tv_model.proofs.Heads.{free-in_head, head-unmarked}
use Rattle.tv_model.proofs.Lists.{Contains-here, Contains-there}
use Rattle.tv_model.proofs.Assignments.{put-same, put-other}
use Rattle.tv_embedding_laws.specs.LogicalStructure.{LogicalStructure}
use Rattle.tv_embedding_laws.specs.Embedding.{Embeds}
use Rattle.tv_eval_laws.specs.Value.{value, same_value}
use Rattle.tv_eval_laws.proofs.Entries.{own_value, same-here, same-apart}
use Rattle.tv_eval_laws.proofs.Embedded.{embedding_theorem, embeds-for}
use Rattle.tv_eval_laws.proofs.Preimages.{IsPreimage, preimages, preimages-put, definite_values_come_down}
use Rattle.tv_stable_laws.specs.Stable.{IsHeadMet, IsStableUnder}
use Rattle.tv_stable_laws.specs.Laws.{IsImage, IsShort, IsPlainRule, ImagesAreStable}
use Rattle.tv_stable_laws.proofs.Heads.{wanted, wanted-definite, signed-wanted, signed-half, not_no-above}
use Rattle.tv_stable_laws.proofs.Heads.{met-value, same-yes, same-no, same-half}

-- the variables that matter stand under a for preimages of what they stand for under b
abbrev pub Takes : (ℕ → Type 0) → (ℕ → ℕ) → LogicalStructure → Assignment → Assignment → Type 0
Takes matters m s b a = (v : ℕ) → matters v → IsPreimage m s (b v) (a v)

-- the head is met under each assignment below
abbrev pub IsMetBelow : (ℕ → Type 0) → (ℕ → ℕ) → LogicalStructure → Assignment → HeadForm → Type 0
IsMetBelow matters m s b head = (a : Assignment) → Takes matters m s b a → IsHeadMet s a head

-- ---- tuples below one of one or two places

pub map-nil : (m : ℕ → ℕ) (below : List ℕ) → map m below ≡ [] → below ≡ []
map-nil m [] e = refl
map-nil m (u ∷ below) e = absurd (cc)

pub record OneBelow (m : ℕ → ℕ) (below : List ℕ) (x : ℕ) : Type 0 where
  pub first : ℕ
  pub is : below ≡ first ∷ []
  pub goes : m first ≡ x

one-below : (m : ℕ → ℕ) (below : List ℕ) (x : ℕ) → map m below ≡ x ∷ [] → OneBelow m below x
one-below m [] x e = absurd (cc)
one-below m (u ∷ []) x e = record { first = u; is = refl; goes = cc e }
one-below m (u ∷ w ∷ below) x e = absurd (cc)

pub record TwoBelow (m : ℕ → ℕ) (below : List ℕ) (x y : ℕ) : Type 0 where
  pub first : ℕ
  pub second : ℕ
  pub is : below ≡ first ∷ second ∷ []
  pub goes : m first ≡ x
  pub other : m second ≡ y

two-below : (m : ℕ → ℕ) (below : List ℕ) (x y : ℕ) → map m below ≡ x ∷ y ∷ [] → TwoBelow m below x y
two-below m [] x y e = absurd (cc)
two-below m (u ∷ []) x y e = absurd (cc)
two-below m (u ∷ w ∷ []) x y e = record { first = u; second = w; is = refl; goes = cc e; other = cc e }
two-below m (u ∷ w ∷ z ∷ below) x y e = absurd (cc)

-- ---- the parts of the image law, at one assignment above

-- one variable put, or two different ones
put-two-first : (a : Assignment) (v w u x : ℕ) → v ≢ w → put (put a v u) w x v ≡ u
put-two-first a v w u x ne = put-other (put a v u) w x v ne ∙ put-same a v u v refl

put-two-second : (a : Assignment) (v w u x : ℕ) → put (put a v u) w x w ≡ x
put-two-second a v w u x = put-same (put a v u) w x w refl

-- two preimages of what isn't a summary are one
pub one-preimage : (m : ℕ → ℕ) (s t : LogicalStructure) → Embeds m s t → (y : ℕ) → t.is_summary y ≡ false
    → (u x : ℕ) → IsPreimage m s y u → IsPreimage m s y x → u ≡ x
one-preimage m s t e y plain u x pu px =
    ⊎_elim (λ is. is)
    (λ ne. let Summary : ℕ → Type 0 = λ z. IsTrue (t.is_summary z)
    in let both : IsTrue (t.is_summary y) = subst Summary pu.1 (e.several u x pu.0 px.0 ne (pu.1 ∙ sym px.1))
    in absurd (false≢true (sym plain ∙ both)))
    (cases_eq u x)

-- a preimage of what isn't a summary isn't one
pub plain-preimage : (m : ℕ → ℕ) (s t : LogicalStructure) → Embeds m s t → (y : ℕ) → t.is_summary y ≡ false
    → (u : ℕ) → IsPreimage m s y u → ¬ IsTrue (s.is_summary u)
plain-preimage m s t e y plain u pu summary =
    let Summary : ℕ → Type 0 = λ z. IsTrue (t.is_summary z)
    in absurd (false≢true (sym plain ∙ subst Summary pu.1 (e.summaries u pu.0 summary)))

-- the head's value lies under the value above
head-under : (m : ℕ → ℕ) (s t : LogicalStructure) → IsImage m s t → (head : HeadForm) (matters : ℕ → Type 0)
    → ((v : ℕ) → IsInHead v head → matters v) → (a b : Assignment) → Takes matters m s b a
    → LiesUnder (value s a (head_formula head)) (value t b (head_formula head))
head-under m s t im head matters needed a b takes =
    embedding_theorem (head_formula head) m s t a b
    (embeds-for (head_formula head) m s t im.embeds (λ n. absurd (head-unmarked head n)))
    (λ v free. takes v (needed v (free-in_head v head free)))

-- ---- atoms

atom-none : (m : ℕ → ℕ) (s t : LogicalStructure) → IsImage m s t → (flag : Bool) (pred : ℕ) (matters : ℕ → Type 0)
    → (b base : Assignment) → Takes matters m s b base
    → IsMetBelow matters m s b (HAtom flag pred []) → IsHeadMet t b (HAtom flag pred [])
atom-none m s t im flag pred matters b base takes met =
    inl ((signed-wanted flag t b (FAtom pred [])).1
    (im.definite pred [] (All-nil (Contains t.individuals)) (wanted flag) (wanted-definite flag)
    (λ below all e. let At : List ℕ → Type 0 = λ us. s.value pred us ≡ wanted flag
    in subst At (sym (map-nil m below e))
    (⊎_elim (λ yes. (signed-wanted flag s base (FAtom pred [])).0 yes) (λ may. absurd (cc may.twice))
    (met base takes)))))

atom-one : (m : ℕ → ℕ) (s t : LogicalStructure) → IsImage m s t → (flag : Bool) (pred v : ℕ) (matters : ℕ → Type 0)
    → (b base : Assignment) → Takes matters m s b base → Contains t.individuals (b v)
    → IsMetBelow matters m s b (HAtom flag pred (v ∷ [])) → IsHeadMet t b (HAtom flag pred (v ∷ []))
atom-one m s t im flag pred v matters b base takes at met =
    inl ((signed-wanted flag t b (FAtom pred (v ∷ []))).1
    (im.definite pred (b v ∷ []) (All-cons (Contains t.individuals) (b v) [] at (All-nil (Contains t.individuals)))
    (wanted flag) (wanted-definite flag) each))
  where
    each : (below : List ℕ) → All (Contains s.individuals) below → map m below ≡ b v ∷ []
        → s.value pred below ≡ wanted flag
    each below all e =
        let one : OneBelow m below (b v) = one-below m below (b v) e
        in let In : List ℕ → Type 0 = λ us. All (Contains s.individuals) us
        in let has : Contains s.individuals one.first = All-head (Contains s.individuals) one.first []
        (subst In one.is all)
        in let value_there : s.value pred (put base v one.first v ∷ []) ≡ wanted flag
        = ⊎_elim
        (λ yes. (signed-wanted flag s (put base v one.first) (FAtom pred (v ∷ []))).0 yes)
        (λ may. absurd (cc may.twice))
        (met (put base v one.first) (preimages-put matters m s base b takes v one.first (has, one.goes)))
        in ap (s.value pred) one.is ∙ sym (ap (λ u. s.value pred (u ∷ [])) (put-same base v one.first v refl))
        ∙ value_there

-- two different variables may stand for any two preimages
atom-two : (m : ℕ → ℕ) (s t : LogicalStructure) → IsImage m s t → (flag : Bool) (pred v w : ℕ) (matters : ℕ → Type 0)
    → (b base : Assignment) → Takes matters m s b base → Contains t.individuals (b v) → Contains t.individuals (b w)
    → v ≢ w
    → IsMetBelow matters m s b (HAtom flag pred (v ∷ w ∷ [])) → IsHeadMet t b (HAtom flag pred (v ∷ w ∷ []))
atom-two m s t im flag pred v w matters b base takes at_v at_w ne met =
    inl ((signed-wanted flag t b (FAtom pred (v ∷ w ∷ []))).1
    (im.definite pred (b v ∷ b w ∷ [])
    (All-cons (Contains t.individuals) (b v) (b w ∷ []) at_v
    (All-cons (Contains t.individuals) (b w) [] at_w (All-nil (Contains t.individuals))))
    (wanted flag) (wanted-definite flag) each))
  where
    each : (below : List ℕ) → All (Contains s.individuals) below → map m below ≡ b v ∷ b w ∷ []
        → s.value pred below ≡ wanted flag
    each below all e =
        let two : TwoBelow m below (b v) (b w) = two-below m below (b v) (b w) e
        in let In : List ℕ → Type 0 = λ us. All (Contains s.individuals) us
        in let inside : All (Contains s.individuals) (two.first ∷ two.second ∷ []) = subst In two.is all
        in let has_first : Contains s.individuals two.first
        = All-head (Contains s.individuals) two.first (two.second ∷ []) inside
        in let has_second : Contains s.individuals two.second
        = All-head (Contains s.individuals) two.second []
        (All-tail (Contains s.individuals) two.first (two.second ∷ []) inside)
        in let a : Assignment = put (put base v two.first) w two.second
        in let value_there : s.value pred (a v ∷ a w ∷ []) ≡ wanted flag
        = ⊎_elim
        (λ yes. (signed-wanted flag s a (FAtom pred (v ∷ w ∷ []))).0 yes)
        (λ may. absurd (ne (cc may.twice)))
        (met a (preimages-put matters m s (put base v two.first) b
        (preimages-put matters m s base b takes v two.first (has_first, two.goes)) w two.second
        (has_second, two.other)))
        in ap (s.value pred) two.is
        ∙ sym (ap (λ u. s.value pred (u ∷ two.second ∷ [])) (put-two-first base v w two.first two.second ne))
        ∙ sym (ap (λ x. s.value pred (a v ∷ x ∷ [])) (put-two-second base v w two.first two.second))
        ∙ value_there

-- one variable twice, on what isn't a summary: it has one preimage
atom-twice_plain : (m : ℕ → ℕ) (s t : LogicalStructure) → IsImage m s t
    → (flag : Bool) (pred v : ℕ) (matters : ℕ → Type 0)
    → (b base : Assignment) → Takes matters m s b base → Contains t.individuals (b v) → t.is_summary (b v) ≡ false
    → IsMetBelow matters m s b (HAtom flag pred (v ∷ v ∷ [])) → IsHeadMet t b (HAtom flag pred (v ∷ v ∷ []))
atom-twice_plain m s t im flag pred v matters b base takes at plain met =
    inl ((signed-wanted flag t b (FAtom pred (v ∷ v ∷ []))).1
    (im.definite pred (b v ∷ b v ∷ [])
    (All-cons (Contains t.individuals) (b v) (b v ∷ []) at
    (All-cons (Contains t.individuals) (b v) [] at (All-nil (Contains t.individuals))))
    (wanted flag) (wanted-definite flag) each))
  where
    each : (below : List ℕ) → All (Contains s.individuals) below → map m below ≡ b v ∷ b v ∷ []
        → s.value pred below ≡ wanted flag
    each below all e =
        let two : TwoBelow m below (b v) (b v) = two-below m below (b v) (b v) e
        in let In : List ℕ → Type 0 = λ us. All (Contains s.individuals) us
        in let inside : All (Contains s.individuals) (two.first ∷ two.second ∷ []) = subst In two.is all
        in let first : IsPreimage m s (b v) two.first
        = (All-head (Contains s.individuals) two.first (two.second ∷ []) inside, two.goes)
        in let second : IsPreimage m s (b v) two.second
        = (
          All-head (Contains s.individuals) two.second []
              (All-tail (Contains s.individuals) two.first (two.second ∷ []) inside),
          two.other,
        )
        in let a : Assignment = put base v two.first
        in let here : a v ≡ two.first = put-same base v two.first v refl
        in let Summary : ℕ → Type 0 = λ z. IsTrue (s.is_summary z)
        in let value_there : s.value pred (a v ∷ a v ∷ []) ≡ wanted flag
        = ⊎_elim
        (λ yes. (signed-wanted flag s a (FAtom pred (v ∷ v ∷ []))).0 yes)
        (λ may. let same : may.var ≡ v = cc may.twice
        in absurd (plain-preimage m s t im.embeds (b v) plain two.first first
        (subst Summary (ap a same ∙ here) may.summary)))
        (met a (preimages-put matters m s base b takes v two.first first))
        in ap (s.value pred) two.is
        ∙ ap (λ x. s.value pred (two.first ∷ x ∷ []))
        (one-preimage m s t im.embeds (b v) plain two.second two.first second first)
        ∙ sym (ap (λ u. s.value pred (u ∷ u ∷ [])) here)
        ∙ value_there

-- one variable twice, on a summary: the value isn't No
atom-twice_summary : (m : ℕ → ℕ) (s t : LogicalStructure) → IsImage m s t
    → (flag : Bool) (pred v : ℕ) (matters : ℕ → Type 0)
    → ((x : ℕ) → IsInHead x (HAtom flag pred (v ∷ v ∷ [])) → matters x)
    → (b base : Assignment) → Takes matters m s b base → IsTrue (t.is_summary (b v))
    → IsMetBelow matters m s b (HAtom flag pred (v ∷ v ∷ [])) → IsHeadMet t b (HAtom flag pred (v ∷ v ∷ []))
atom-twice_summary m s t im flag pred v matters needed b base takes summary met =
    ⊎_elim
    (λ yes. inl yes)
    (λ half. inr (record { var = v; twice = refl; summary = summary; half = half }))
    (not_no-above (value s base (head_formula (HAtom flag pred (v ∷ v ∷ []))))
    (value t b (head_formula (HAtom flag pred (v ∷ v ∷ []))))
    (head-under m s t im (HAtom flag pred (v ∷ v ∷ [])) matters needed base b takes)
    (met-value s base (HAtom flag pred (v ∷ v ∷ [])) (met base takes)))

-- ---- equalities

-- the value of the equality at any two preimages of two different variables
same-two : (m : ℕ → ℕ) (s : LogicalStructure) (flag : Bool) (v w : ℕ) (matters : ℕ → Type 0)
    → (b base : Assignment) → Takes matters m s b base → v ≢ w → IsMetBelow matters m s b (HSame flag v w)
    → (u x : ℕ) → IsPreimage m s (b v) u → IsPreimage m s (b w) x → same_value s u x ≡ wanted flag
same-two m s flag v w matters b base takes ne met u x pu px =
    let a : Assignment = put (put base v u) w x
    in let there : same_value s (a v) (a w) ≡ wanted flag
    = ⊎_elim
    (λ yes. (signed-wanted flag s a (FSame v w)).0 yes)
    (λ may. absurd (ne (may.twice.0 ∙ sym may.twice.1)))
    (met a (preimages-put matters m s (put base v u) b (preimages-put matters m s base b takes v u pu) w x px))
    in sym (ap (λ y. same_value s y x) (put-two-first base v w u x ne))
    ∙ sym (ap (λ y. same_value s (a v) y) (put-two-second base v w u x))
    ∙ there

same-two_yes : (m : ℕ → ℕ) (s t : LogicalStructure) → IsImage m s t → (v w : ℕ) (b : Assignment)
    → Contains t.individuals (b v) → (u x : ℕ) → IsPreimage m s (b v) u → IsPreimage m s (b w) x
    → ((u x : ℕ) → IsPreimage m s (b v) u → IsPreimage m s (b w) x → same_value s u x ≡ Yes)
    → same_value t (b v) (b w) ≡ Yes
same-two_yes m s t im v w b at u x pu px each =
    let one : b v ≡ b w = sym pu.1 ∙ ap m (same-yes s u x (each u x pu px)).0 ∙ px.1
    in let plain : t.is_summary (b v) ≡ false
    = im.plain (b v) at
    (λ y has goes. (same-yes s y x (each y x (has, goes) px)).1)
    (λ y z hy hz gy gz. (same-yes s y x (each y x (hy, gy) px)).0 ∙ sym (same-yes s z x (each z x (hz, gz) px)).0)
    in same-here t (b v) (b w) one ∙ ap own_value plain

same-two_no : (m : ℕ → ℕ) (s t : LogicalStructure) (v w : ℕ) (b : Assignment) (u : ℕ) → IsPreimage m s (b v) u
    → ((u x : ℕ) → IsPreimage m s (b v) u → IsPreimage m s (b w) x → same_value s u x ≡ No)
    → same_value t (b v) (b w) ≡ No
same-two_no m s t v w b u pu each =
    same-apart t (b v) (b w) (λ e. same-no s u u (each u u pu (pu.0, pu.1 ∙ e)) refl)

same-twice : (m : ℕ → ℕ) (s t : LogicalStructure) → IsImage m s t → (flag : Bool) (v w : ℕ) (matters : ℕ → Type 0)
    → ((x : ℕ) → IsInHead x (HSame flag v w) → matters x)
    → (b base : Assignment) → Takes matters m s b base → v ≡ w
    → IsMetBelow matters m s b (HSame flag v w) → IsHeadMet t b (HSame flag v w)
same-twice m s t im flag v w matters needed b base takes e met =
    ⊎_elim
    (λ yes. inl yes)
    (λ half. inr (record {
      var = v;
      twice = (refl, sym e);
      summary = same-half t (b v) (b w) (signed-half flag t b (FSame v w) half);
      half = half;
    }))
    (not_no-above (value s base (head_formula (HSame flag v w))) (value t b (head_formula (HSame flag v w)))
    (head-under m s t im (HSame flag v w) matters needed base b takes)
    (met-value s base (HSame flag v w) (met base takes)))

-- ---- heads

pub head-image : (m : ℕ → ℕ) (s t : LogicalStructure) → IsImage m s t → (head : HeadForm) → IsShort head
    → (matters : ℕ → Type 0) → ((v : ℕ) → IsInHead v head → matters v)
    → (b base : Assignment) → ((v : ℕ) → matters v → Contains t.individuals (b v)) → Takes matters m s b base
    → IsMetBelow matters m s b head → IsHeadMet t b head
head-image m s t im HNever short matters needed b base inside takes met =
    ⊎_elim (λ e. absurd (cc e)) (λ may. absurd may.twice) (met base takes)
head-image m s t im (HAtom flag pred []) short matters needed b base inside takes met =
    atom-none m s t im flag pred matters b base takes met
head-image m s t im (HAtom flag pred (v ∷ [])) short matters needed b base inside takes met =
    atom-one m s t im flag pred v matters b base takes (inside v (needed v (Contains-here v []))) met
head-image m s t im (HAtom flag pred (v ∷ w ∷ [])) short matters needed b base inside takes met =
    ⊎_elim
    (λ e. twice w e needed met)
    (λ ne. atom-two m s t im flag pred v w matters b base takes at_v
    (inside w (needed w (Contains-there v w (w ∷ []) (Contains-here w [])))) ne met)
    (cases_eq v w)
  where
    at_v : Contains t.individuals (b v)
    at_v = inside v (needed v (Contains-here v (w ∷ [])))

    once : ((x : ℕ) → IsInHead x (HAtom flag pred (v ∷ v ∷ [])) → matters x)
        → IsMetBelow matters m s b (HAtom flag pred (v ∷ v ∷ [])) → IsHeadMet t b (HAtom flag pred (v ∷ v ∷ []))
    once needed met =
        ⊎_elim
        (λ summary. atom-twice_summary m s t im flag pred v matters needed b base takes summary met)
        (λ plain. atom-twice_plain m s t im flag pred v matters b base takes at_v plain met)
        (cases_Bool (t.is_summary (b v)))

    twice : (w : ℕ) → v ≡ w → ((x : ℕ) → IsInHead x (HAtom flag pred (v ∷ w ∷ [])) → matters x)
        → IsMetBelow matters m s b (HAtom flag pred (v ∷ w ∷ [])) → IsHeadMet t b (HAtom flag pred (v ∷ w ∷ []))
    twice w e =
        let Law : ℕ → Type 0 = λ w. ((x : ℕ) → IsInHead x (HAtom flag pred (v ∷ w ∷ [])) → matters x)
        → IsMetBelow matters m s b (HAtom flag pred (v ∷ w ∷ [])) → IsHeadMet t b (HAtom flag pred (v ∷ w ∷ []))
        in subst Law e once
head-image m s t im (HAtom flag pred (v ∷ w ∷ x ∷ more)) short matters needed b base inside takes met =
    absurd (omega (arith, short))
head-image m s t im (HSame flag v w) short matters needed b base inside takes met =
    ⊎_elim
    (λ e. same-twice m s t im flag v w matters needed b base takes e met)
    (λ ne. inl (different flag (same-two m s flag v w matters b base takes ne met)))
    (cases_eq v w)
  where
    below_v : IsPreimage m s (b v) (base v)
    below_v = takes v (needed v (inl refl))

    below_w : IsPreimage m s (b w) (base w)
    below_w = takes w (needed w (inr refl))

    different : (flag : Bool)
        → ((u x : ℕ) → IsPreimage m s (b v) u → IsPreimage m s (b w) x → same_value s u x ≡ wanted flag)
        → value t b (signed_form flag (FSame v w)) ≡ Yes
    different true each =
        same-two_yes m s t im v w b (inside v (needed v (inl refl))) (base v) (base w) below_v below_w each
    different false each = ap negation_of (same-two_no m s t v w b (base v) below_v each)

-- ---- rules

rule-image : (m : ℕ → ℕ) (s t : LogicalStructure) → IsImage m s t → (rule : RuleForm) → IsPlainRule rule
    → IsStableUnder s rule → IsStableUnder t rule
rule-image m s t im rule is stable b inside body =
    head-image m s t im rule.head is.short (λ v. IsFreeInRule v rule) (λ v at. inr at) b (λ v. chosen.0 (b v)) inside
    (λ v free. chosen.1 (b v) (inside v free))
    (λ a takes. stable a (λ v free. (takes v free).0)
    ((definite_values_come_down rule.body m s t a b
    (embeds-for rule.body m s t im.embeds (λ n. absurd (is.unmarked n)))
    (λ v free. takes v (inl free))).yes body))
  where
    chosen : (g : ℕ → ℕ) × ((w : ℕ) → Contains t.individuals w → IsPreimage m s w (g w))
    chosen = preimages (λ pred. Unit {0}) m s t im.embeds

pub images_are_stable : ImagesAreStable
images_are_stable m s t rules im plain stable k d below =
    rule-image m s t im _ (plain k d below) (stable k d below)
