-- Laws of the operations on truth values, for the crates above: the order of truth is a lattice with
-- negation, and in the order of information a join is the least value above.
use Rattle.std.proofs.Common.{◌≡◌, ◌≢◌, ◌⊎◌, Bool, not, IsTrue, ◌↔◌, inl, inr, refl, sym, ap, ◌∙◌}
use Rattle.tv_kleene.specs.declared.K3.{K3}
use Rattle.tv_kleene.specs.declared.K3.TheVariants.{No, Half, Yes}
use Rattle.tv_kleene.specs.Kleene.{LiesUnder, smaller_of, larger_of, join_of, are_same}

-- ---- the order of truth

pub larger-assoc : (x y z : K3) → larger_of (larger_of x y) z ≡ larger_of x (larger_of y z)
larger-assoc No y z = refl
larger-assoc Half No z = refl
larger-assoc Half Half No = refl
larger-assoc Half Half Half = refl
larger-assoc Half Half Yes = refl
larger-assoc Half Yes z = refl
larger-assoc Yes y z = refl

pub smaller-assoc : (x y z : K3) → smaller_of (smaller_of x y) z ≡ smaller_of x (smaller_of y z)
smaller-assoc No y z = refl
smaller-assoc Half No z = refl
smaller-assoc Half Half No = refl
smaller-assoc Half Half Half = refl
smaller-assoc Half Half Yes = refl
smaller-assoc Half Yes z = refl
smaller-assoc Yes y z = refl

pub larger-no : (x : K3) → larger_of x No ≡ x
larger-no No = refl
larger-no Half = refl
larger-no Yes = refl

pub smaller-yes : (x : K3) → smaller_of x Yes ≡ x
smaller-yes No = refl
smaller-yes Half = refl
smaller-yes Yes = refl

pub larger-yes : (x : K3) → larger_of x Yes ≡ Yes
larger-yes No = refl
larger-yes Half = refl
larger-yes Yes = refl

pub smaller-no : (x : K3) → smaller_of x No ≡ No
smaller-no No = refl
smaller-no Half = refl
smaller-no Yes = refl

pub larger-either : (x y : K3) → (larger_of x y ≡ x) ⊎ (larger_of x y ≡ y)
larger-either No y = inr refl
larger-either Half No = inl refl
larger-either Half Half = inl refl
larger-either Half Yes = inr refl
larger-either Yes y = inl refl

pub both-yes : (x y : K3) → smaller_of x y ≡ Yes → (x ≡ Yes) × (y ≡ Yes)
both-yes No y e = cc
both-yes Half No e = cc
both-yes Half Half e = cc
both-yes Half Yes e = cc
both-yes Yes y e = (refl, e)

pub yes-both : (x y : K3) → x ≡ Yes → y ≡ Yes → smaller_of x y ≡ Yes
yes-both x y e f = ap (λ z. smaller_of z y) e ∙ f

pub no-yes : (x : K3) → x ≡ No → x ≡ Yes → ⊥
no-yes x n y = cc

-- values other than Half are equal where they are Yes at once
pub same-definite : (x y : K3) → x ≢ Half → y ≢ Half → x ≡ Yes ↔ y ≡ Yes → x ≡ y
same-definite No No p q e = refl
same-definite No Half p q e = absurd (q refl)
same-definite No Yes p q e = e.1 refl
same-definite Half y p q e = absurd (p refl)
same-definite Yes No p q e = sym (e.0 refl)
same-definite Yes Half p q e = absurd (q refl)
same-definite Yes Yes p q e = refl

-- a value is one of the three
pub value-decided : (x y : K3) → (x ≡ y) ⊎ (¬ (x ≡ y))
value-decided No No = inl refl
value-decided No Half = inr (λ e. cc)
value-decided No Yes = inr (λ e. cc)
value-decided Half No = inr (λ e. cc)
value-decided Half Half = inl refl
value-decided Half Yes = inr (λ e. cc)
value-decided Yes No = inr (λ e. cc)
value-decided Yes Half = inr (λ e. cc)
value-decided Yes Yes = inl refl

-- ---- the order of information

pub LiesUnder-trans : (x y z : K3) → LiesUnder x y → LiesUnder y z → LiesUnder x z
LiesUnder-trans x y z (inl a) (inl b) = inl (a ∙ b)
LiesUnder-trans x y z (inl a) (inr b) = inr b
LiesUnder-trans x y z (inr a) (inl b) = inr (sym b ∙ a)
LiesUnder-trans x y z (inr a) (inr b) = inr b

pub LiesUnder-antisym : (x y : K3) → LiesUnder x y → LiesUnder y x → x ≡ y
LiesUnder-antisym x y (inl e) h = e
LiesUnder-antisym x y (inr e) (inl d) = sym d
LiesUnder-antisym x y (inr e) (inr d) = d ∙ sym e

pub join-left : (x y : K3) → LiesUnder x (join_of x y)
join-left No No = inl refl
join-left No Half = inr refl
join-left No Yes = inr refl
join-left Half y = inr refl
join-left Yes No = inr refl
join-left Yes Half = inr refl
join-left Yes Yes = inl refl

pub join-right : (x y : K3) → LiesUnder y (join_of x y)
join-right No No = inl refl
join-right No Half = inr refl
join-right No Yes = inr refl
join-right Half y = inr refl
join-right Yes No = inr refl
join-right Yes Half = inr refl
join-right Yes Yes = inl refl

pub join-same : (x : K3) → join_of x x ≡ x
join-same No = refl
join-same Half = refl
join-same Yes = refl

-- what both values lie under, their join lies under
pub join_least : (x y z : K3) → LiesUnder x z → LiesUnder y z → LiesUnder (join_of x y) z
join_least x y z (inr half) other = inr half
join_least x y z (inl e) (inr half) = inr half
join_least x y z (inl e) (inl d) = inl (rw (e, d) (join-same z))

-- ---- sameness

pub are_same-iff : (x y : K3) → IsTrue (are_same x y) ↔ (x ≡ y)
are_same-iff No No = (λ t. refl, λ e. refl)
are_same-iff No Half = (λ t. cc, λ e. cc)
are_same-iff No Yes = (λ t. cc, λ e. cc)
are_same-iff Half No = (λ t. cc, λ e. cc)
are_same-iff Half Half = (λ t. refl, λ e. refl)
are_same-iff Half Yes = (λ t. cc, λ e. cc)
are_same-iff Yes No = (λ t. cc, λ e. cc)
are_same-iff Yes Half = (λ t. cc, λ e. cc)
are_same-iff Yes Yes = (λ t. refl, λ e. refl)

-- what a test for sameness tells, and its negation
pub same-told : (b : Bool) (x y : K3) → b ≡ are_same x y → IsTrue b ↔ (x ≡ y)
same-told b x y e = rw e (are_same-iff x y)

pub different-told : (b : Bool) (x y : K3) → b ≡ not (are_same x y) → IsTrue b ↔ (x ≢ y)
different-told b No No e = rw e (λ t. cc, λ ne. absurd (ne refl))
different-told b No Half e = rw e (λ t. λ same. cc, λ ne. refl)
different-told b No Yes e = rw e (λ t. λ same. cc, λ ne. refl)
different-told b Half No e = rw e (λ t. λ same. cc, λ ne. refl)
different-told b Half Half e = rw e (λ t. cc, λ ne. absurd (ne refl))
different-told b Half Yes e = rw e (λ t. λ same. cc, λ ne. refl)
different-told b Yes No e = rw e (λ t. λ same. cc, λ ne. refl)
different-told b Yes Half e = rw e (λ t. λ same. cc, λ ne. refl)
different-told b Yes Yes e = rw e (λ t. cc, λ ne. absurd (ne refl))
