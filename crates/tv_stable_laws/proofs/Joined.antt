-- Lemmas on sharpening, for the crates above: the image of a structure under an embedding lies below the
-- structure in which it embeds, so that the greatest stable structure loses no stable one.
use Rattle.std.proofs.Common.{ℕ, ◌≡◌, ◌≢◌, ◌⊎◌, ◌↔◌, Option, Some, IsSome, Bool, true, false, List, [], ◌∷◌}
use Rattle.std.proofs.Common.{map, inl, inr, refl, sym, ap, subst, ◌∙◌, All, Contains, IsTrue}
use Rattle.std.proofs.lemmas.Bool.{cases_eq, false≢true}
use Rattle.std.proofs.lemmas.List.Elements.{All-nil, All-cons, All-head, All-tail}
use Rattle.tv_kleene.specs.declared.K3.{K3}
use Rattle.tv_kleene.specs.declared.K3.TheVariants.{No, Half, Yes}
use Rattle.tv_kleene.specs.Kleene.{LiesUnder}
use Rattle.tv_kleene.proofs.Thresholds.{Yes-below, No-below}
use Rattle.tv_kleene.proofs.Lattice.{value-decided}
use Rattle.tv_model.specs.Program.{RuleForm}
use Rattle.tv_model.proofs.Decided.{IsDecided, forall-decided, implies-decided}
use Rattle.tv_embedding_laws.specs.LogicalStructure.{LogicalStructure}
use Rattle.tv_embedding_laws.specs.Embedding.{Embeds, KeepsMark, IsBelow}
use Rattle.tv_embedding_laws.proofs.EmbeddingLaws.{IsBelow-values, EmbedsOn-compose}
use Rattle.tv_stable_laws.specs.Stable.{IsGreatestStable}
use Rattle.tv_stable_laws.specs.Laws.{IsImage, IsStableBetween, StableStructuresStay, SharpeningLosesNoStable}
use Rattle.tv_stable_laws.proofs.Decided.{EachBelow, below-decided}
use Rattle.tv_stable_laws.proofs.Images.{one-preimage, plain-preimage, images_are_stable}

-- Yes or No where all values below are this, else Half
abbrev pub common_value : {P Q : Type 0} → P ⊎ (¬ P) → Q ⊎ (¬ Q) → K3
common_value (inl all_yes) rest = Yes
common_value (inr some) (inl all_no) = No
common_value (inr some) (inr other) = Half

abbrev pub all_have : (m : ℕ → ℕ) (s : LogicalStructure) (pred : ℕ) (tuple : List ℕ) (k : K3)
    → IsDecided (EachBelow m s.individuals tuple (λ below. s.value pred below ≡ k))
all_have m s pred tuple k =
    below-decided m s.individuals tuple (λ below. s.value pred below ≡ k)
    (λ below. value-decided (s.value pred below) k)

pub image_value : (ℕ → ℕ) → LogicalStructure → ℕ → List ℕ → K3
image_value m s pred tuple = common_value (all_have m s pred tuple Yes) (all_have m s pred tuple No)

-- an individual that comes from one alone, which isn't a summary
pub record IsPlain (m : ℕ → ℕ) (s : LogicalStructure) (w : ℕ) : Type 0 where
  pub none : (u : ℕ) → Contains s.individuals u → m u ≡ w → s.is_summary u ≡ false
  pub one : (u : ℕ) → Contains s.individuals u → (x : ℕ) → Contains s.individuals x → m u ≡ w → m x ≡ w → u ≡ x

flag-decided : (b : Bool) → IsDecided (b ≡ false)
flag-decided true = inr (λ e. false≢true (sym e))
flag-decided false = inl refl

plain-decided : (m : ℕ → ℕ) (s : LogicalStructure) (w : ℕ) → IsDecided (IsPlain m s w)
plain-decided m s w =
    go (forall-decided (λ u. m u ≡ w → s.is_summary u ≡ false)
    (λ u. implies-decided (m u ≡ w) (s.is_summary u ≡ false) (cases_eq (m u) w) (flag-decided (s.is_summary u)))
    s.individuals)
    (forall-decided (λ u. (x : ℕ) → Contains s.individuals x → m u ≡ w → m x ≡ w → u ≡ x)
    (λ u. forall-decided (λ x. m u ≡ w → m x ≡ w → u ≡ x)
    (λ x. implies-decided (m u ≡ w) (m x ≡ w → u ≡ x) (cases_eq (m u) w)
    (implies-decided (m x ≡ w) (u ≡ x) (cases_eq (m x) w) (cases_eq u x)))
    s.individuals)
    s.individuals)
  where
    go : IsDecided ((u : ℕ) → Contains s.individuals u → m u ≡ w → s.is_summary u ≡ false)
        → IsDecided ((u : ℕ) → Contains s.individuals u → (x : ℕ) → Contains s.individuals x → m u ≡ w → m x ≡ w
        → u ≡ x)
        → IsDecided (IsPlain m s w)
    go (inl none) (inl one) = inl (record { none = none; one = one })
    go (inr n) one = inr (λ p. n p.none)
    go (inl none) (inr n) = inr (λ p. n p.one)

abbrev pub unless : {P : Type 0} → P ⊎ (¬ P) → Bool
unless (inl p) = false
unless (inr n) = true

pub image_summary : (ℕ → ℕ) → LogicalStructure → ℕ → Bool
image_summary m s w = unless (plain-decided m s w)

summary-from_some : (m : ℕ → ℕ) (s : LogicalStructure) (w : ℕ) → (¬ IsPlain m s w) → image_summary m s w ≡ true
unfolding image_summary
summary-from_some m s w n = go (plain-decided m s w)
  where
    go : (d : IsDecided (IsPlain m s w)) → unless d ≡ true
    go (inl p) = absurd (n p)
    go (inr other) = refl

plain-from_false : (m : ℕ → ℕ) (s : LogicalStructure) (w : ℕ) → IsPlain m s w → image_summary m s w ≡ false
unfolding image_summary
plain-from_false m s w p = go (plain-decided m s w)
  where
    go : (d : IsDecided (IsPlain m s w)) → unless d ≡ false
    go (inl other) = refl
    go (inr n) = absurd (n p)

some-from_summary : (m : ℕ → ℕ) (s : LogicalStructure) (w : ℕ) → image_summary m s w ≡ true → ¬ IsPlain m s w
some-from_summary m s w e p = false≢true (sym (plain-from_false m s w p) ∙ e)

-- a tuple of images of the structure has one below it
pub record SomeBelow (m : ℕ → ℕ) (us tuple : List ℕ) : Type 0 where
  pub below : List ℕ
  pub all : All (Contains us) below
  pub goes : map m below ≡ tuple

some-below : (m : ℕ → ℕ) (s t : LogicalStructure) → Embeds m s t → (tuple : List ℕ) → All (Contains t.individuals) tuple
    → SomeBelow m s.individuals tuple
some-below m s t e [] all = record { below = []; all = All-nil (Contains s.individuals); goes = refl }
some-below m s t e (w ∷ tuple) all =
    let rest : SomeBelow m s.individuals tuple = some-below m s t e tuple
    (All-tail (Contains t.individuals) w tuple all)
    in let first : (u : ℕ) × Contains s.individuals u
    × (m u ≡ w) = e.onto w (All-head (Contains t.individuals) w tuple all)
    in record {
      below = first.0 ∷ rest.below;
      all = All-cons (Contains s.individuals) first.0 rest.below first.1 rest.all;
      goes = ap (λ x. x ∷ map m rest.below) first.2 ∙ ap (λ xs. w ∷ xs) rest.goes;
    }

-- ---- what the image's values say

image-yes : (m : ℕ → ℕ) (s : LogicalStructure) (pred : ℕ) (tuple : List ℕ)
    → EachBelow m s.individuals tuple (λ below. s.value pred below ≡ Yes) → image_value m s pred tuple ≡ Yes
unfolding image_value
image-yes m s pred tuple each = go (all_have m s pred tuple Yes) (all_have m s pred tuple No)
  where
    go : (p : IsDecided (EachBelow m s.individuals tuple (λ below. s.value pred below ≡ Yes)))
        → (q : IsDecided (EachBelow m s.individuals tuple (λ below. s.value pred below ≡ No)))
        → common_value p q ≡ Yes
    go (inl p) q = refl
    go (inr n) q = absurd (n each)

image-no : (m : ℕ → ℕ) (s : LogicalStructure) (pred : ℕ) (tuple : List ℕ) → SomeBelow m s.individuals tuple
    → EachBelow m s.individuals tuple (λ below. s.value pred below ≡ No) → image_value m s pred tuple ≡ No
unfolding image_value
image-no m s pred tuple some each = go (all_have m s pred tuple Yes) (all_have m s pred tuple No)
  where
    go : (p : IsDecided (EachBelow m s.individuals tuple (λ below. s.value pred below ≡ Yes)))
        → (q : IsDecided (EachBelow m s.individuals tuple (λ below. s.value pred below ≡ No)))
        → common_value p q ≡ No
    go (inl p) q =
        let a : s.value pred some.below ≡ Yes = p some.below some.all some.goes
        in let b : s.value pred some.below ≡ No = each some.below some.all some.goes
        in absurd (cc)
    go (inr n) (inl q) = refl
    go (inr n) (inr d) = absurd (d each)

-- each value below lies under the image's
image-above : (m : ℕ → ℕ) (s : LogicalStructure) (pred : ℕ) (below : List ℕ) → All (Contains s.individuals) below
    → LiesUnder (s.value pred below) (image_value m s pred (map m below))
unfolding image_value
image-above m s pred below all = go (all_have m s pred (map m below) Yes) (all_have m s pred (map m below) No)
  where
    go : (p : IsDecided (EachBelow m s.individuals (map m below) (λ below. s.value pred below ≡ Yes)))
        → (q : IsDecided (EachBelow m s.individuals (map m below) (λ below. s.value pred below ≡ No)))
        → LiesUnder (s.value pred below) (common_value p q)
    go (inl p) q = inl (p below all refl)
    go (inr n) (inl q) = inl (q below all refl)
    go (inr n) (inr d) = inr refl

image-definite : (m : ℕ → ℕ) (s : LogicalStructure) (pred : ℕ) (tuple : List ℕ) → SomeBelow m s.individuals tuple
    → (k : K3) → k ≢ Half → EachBelow m s.individuals tuple (λ below. s.value pred below ≡ k)
    → image_value m s pred tuple ≡ k
image-definite m s pred tuple some No definite each = image-no m s pred tuple some each
image-definite m s pred tuple some Half definite each = absurd (definite refl)
image-definite m s pred tuple some Yes definite each = image-yes m s pred tuple each

-- the image's value lies under each that all values below lie under
image-least : (m : ℕ → ℕ) (s t : LogicalStructure) → Embeds m s t → (pred : ℕ) (tuple : List ℕ)
    → All (Contains t.individuals) tuple → (k : K3) → t.value pred tuple ≡ k
    → LiesUnder (image_value m s pred tuple) (t.value pred tuple)
image-least m s t e pred tuple all k is = go k is
  where
    under : (below : List ℕ) → All (Contains s.individuals) below → map m below ≡ tuple
        → LiesUnder (s.value pred below) (t.value pred tuple)
    under below inside goes =
        let At : List ℕ → Type 0 = λ us. LiesUnder (s.value pred below) (t.value pred us)
        in subst At goes (e.values pred tt below inside)

    go : (k : K3) → t.value pred tuple ≡ k → LiesUnder (image_value m s pred tuple) (t.value pred tuple)
    go Half is = inr is
    go Yes is =
        inl (image-yes m s pred tuple
        (λ below inside goes. Yes-below (s.value pred below) (t.value pred tuple) (under below inside goes) is)
        ∙ sym is)
    go No is =
        inl (image-no m s pred tuple (some-below m s t e tuple all)
        (λ below inside goes. No-below (s.value pred below) (t.value pred tuple) (under below inside goes) is) ∙ sym is)

-- ---- the image

abbrev pub image : (ℕ → ℕ) → LogicalStructure → LogicalStructure → LogicalStructure
image m s t = record {
  individuals = t.individuals;
  value = image_value m s;
  is_summary = image_summary m s;
  fresh = t.fresh;
}

image-embeds : (m : ℕ → ℕ) (s t : LogicalStructure) → Embeds m s t → Embeds m s (image m s t)
image-embeds m s t e = record {
  into = e.into;
  onto = e.onto;
  values = λ pred any below all. image-above m s pred below all;
  summaries = λ u at summary.
      summary-from_some m s (m u) (λ p. false≢true (sym (p.none u at refl) ∙ summary));
  several = λ u w hu hw ne same.
      summary-from_some m s (m u) (λ p. ne (p.one u hu w hw refl (sym same)));
}

image-is : (m : ℕ → ℕ) (s t : LogicalStructure) → Embeds m s t → IsImage m s (image m s t)
image-is m s t e = record {
  embeds = image-embeds m s t e;
  definite = λ pred tuple all k definite each.
      image-definite m s pred tuple (some-below m s t e tuple all) k definite each;
  plain = λ w at none one.
      plain-from_false m s w (record { none = none; one = λ u hu x hx gu gx. one u x hu hx gu gx });
}

-- a summary of the image is one above
image-summary_above : (m : ℕ → ℕ) (s t : LogicalStructure) → Embeds m s t → (w : ℕ) → image_summary m s w ≡ true
    → t.is_summary w ≡ true
image-summary_above m s t e w summary = go (t.is_summary w) refl
  where
    bool : (b : Bool) → (¬ IsTrue b) → b ≡ false
    bool true n = absurd (n refl)
    bool false n = refl

    go : (b : Bool) → t.is_summary w ≡ b → t.is_summary w ≡ true
    go true is = is
    go false is =
        absurd (some-from_summary m s w summary (record {
          none = λ u at goes. bool (s.is_summary u) (plain-preimage m s t e w is u (at, goes));
          one = λ u hu x hx gu gx. one-preimage m s t e w is u x (hu, gu) (hx, gx);
        }))

image-below : (m : ℕ → ℕ) (s t : LogicalStructure) → Embeds m s t → IsBelow (image m s t) t
image-below m s t e =
    (IsBelow-values (image m s t) t).1 (record {
      individuals = refl;
      values = λ pred tuple all. image-least m s t e pred tuple all (t.value pred tuple) refl;
      summaries = λ w at summary. image-summary_above m s t e w summary;
    })

pub stable_structures_stay : StableStructuresStay
stable_structures_stay m s t rules e plain stable = (
  image m s t,
  record {
    embeds = image-embeds m s t e;
    below = image-below m s t e;
    mark = refl;
    stable = images_are_stable m s (image m s t) rules (image-is m s t e) plain stable;
  },
)

-- ---- sharpening

kept : (m : ℕ → ℕ) (s t : LogicalStructure) (rules : List RuleForm) → (u : LogicalStructure)
    → IsStableBetween m s t rules u
    → (r : LogicalStructure) → IsGreatestStable rules t r → Embeds m s r
kept m s t rules u is r best =
    EmbedsOn-compose (λ pred. Unit {0}) m (λ x. x) s u r is.embeds (best.greatest u is.below is.stable).1

marks-kept : (m : ℕ → ℕ) (s t r : LogicalStructure) → KeepsMark m s t → r.fresh ≡ t.fresh → KeepsMark m s r
marks-kept m s t r k e =
    let Marked : ℕ → Option ℕ → Type 0 = λ u fresh. (s.fresh ≡ Some u) ↔ (fresh ≡ Some (m u))
    in let Both : Option ℕ → Type 0 = λ fresh. IsSome s.fresh ↔ IsSome fresh
    in record { marked = λ u at. subst (Marked u) (sym e) (k.marked u at); both = subst Both (sym e) k.both }

pub sharpening_loses_no_stable : SharpeningLosesNoStable
sharpening_loses_no_stable m s t rules e plain stable =
    let u : (u : LogicalStructure) × IsStableBetween m s t rules u = stable_structures_stay m s t rules e plain stable
    in record {
      kept = λ r best. kept m s t rules u.0 u.1 r best;
      kept_with_marks = λ r best marks same. (kept m s t rules u.0 u.1 r best, marks-kept m s t r marks same);
      some = λ none. none u.0 u.1.below u.1.stable;
    }
