use Rattle.std.proofs.Common.{◌≡◌, ◌<◌, ◌-◌, ◌⊎◌, ◌∙◌, length, refl, sym, ap, subst, Ok, arith}
use Rattle.tv_listing.specs.ListingForm.{at_node, appended, AddsAt}
use Rattle.tv_work.specs.Reach.{AreMoreThan}
use Rattle.tv_trail_laws.specs.Met.{Found, IsMet}
use Rattle.tv_trail.specs.declared.search.Met.{Met}
use Rattle.tv_trail.specs.Searched.{TraceForm, IsPlaced, AreListedMet, Meets}
use Rattle.tv_trail.proofs.Adding.{trace, met-before, met-over, met-meets, met-has, met-listed}
use Rattle.tv_trail.proofs.Placing.{placed-more, placed-last}
use Rattle.tv_trail.proofs.search.Search.meet.Goals as goal

pub returns-then-not-branch-clause-has : goal.returns-then-not-branch-clause-has
returns-then-not-branch-clause-has c =
    let listing = c.self.inside.listing
    in let met = c.self.inside.met.items
    in let known = subst (λ b. AddsAt listing c.add.new.self c.args.node c.args.s (Ok b))
    c.if-not-branch.true c.in_ok-add.ensures
    in subst (λ l. IsMet (trace l met).found (record { node = c.args.node; structure = c.args.s })) (sym known.1)
    (met-before listing met c.self.invariant c.args.node c.args.s c.requires.unmarked
    (subst AreListedMet (sym c.self.view_is) c.requires.listed) known.0)

pub invariant_of-self-then-len-max : goal.invariant_of-self-then-len-max
invariant_of-self-then-len-max c =
    let listing = c.self.inside.listing
    in let met = c.self.inside.met.items
    in let added = subst (λ b. AddsAt listing c.add.new.self c.args.node c.args.s (Ok b))
    c.if-not-branch.false c.in_ok-add.ensures
    in subst (λ l. IsPlaced l met) (sym added.1)
    (placed-more listing met c.self.invariant c.args.node c.args.s c.requires.unmarked
    (subst (λ (o : TraceForm). c.args.node < length o.listing) (sym c.self.view_is) c.requires.node) added.0)

pub returns-then-len-max-clause-cause : goal.returns-then-len-max-clause-cause
returns-then-len-max-clause-cause c =
    let listing = c.self.inside.listing
    in let met = c.self.inside.met.items
    in let added = subst (λ b. AddsAt listing c.add.new.self c.args.node c.args.s (Ok b))
    c.if-not-branch.false c.in_ok-add.ensures
    in subst (λ (o : TraceForm). AreMoreThan c.args.max (λ x. IsMet o.found x
    ⊎ (x ≡ record { node = c.args.node; structure = c.args.s }))) c.self.view_is
    (met-over listing met c.self.invariant c.args.node c.args.s c.requires.unmarked
    (subst AreListedMet (sym c.self.view_is) c.requires.listed)
    (subst (λ (o : TraceForm). c.args.node < length o.listing) (sym c.self.view_is) c.requires.node) added.0
    c.args.max (omega (arith, c.len.ensures, c.if-len-max.true)))

pub invariant_of-self-in_err-push : goal.invariant_of-self-in_err-push
invariant_of-self-in_err-push c =
    let listing = c.self.inside.listing
    in let met = c.self.inside.met.items
    in let added = subst (λ b. AddsAt listing c.add.new.self c.args.node c.args.s (Ok b))
    c.if-not-branch.false c.in_ok-add.ensures
    in subst (λ l. IsPlaced l c.push.new.self.items) (sym added.1)
    (subst (IsPlaced (appended listing c.args.node c.args.s)) (sym c.in_err-push.ensures.items)
    (placed-more listing met c.self.invariant c.args.node c.args.s c.requires.unmarked
    (subst (λ (o : TraceForm). c.args.node < length o.listing) (sym c.self.view_is) c.requires.node) added.0))

pub invariant_of-self-2 : goal.invariant_of-self-2
invariant_of-self-2 c =
    let listing = c.self.inside.listing
    in let met = c.self.inside.met.items
    in let added = subst (λ b. AddsAt listing c.add.new.self c.args.node c.args.s (Ok b))
    c.if-not-branch.false c.in_ok-add.ensures
    in let m : Met = record { node = c.args.node; place = c.count-place.result - 1; origin = c.args.origin }
    in let place : m.place ≡ length (at_node (appended listing c.args.node c.args.s) c.args.node) - 1
    = ap (λ n. n - 1) c.count-place.ensures ∙ ap (λ l. length (at_node l c.args.node) - 1) added.1
    in subst (λ l. IsPlaced l c.push.new.self.items) (sym added.1)
    (subst (IsPlaced (appended listing c.args.node c.args.s)) (sym c.in_ok-push.ensures.items)
    (placed-last listing met c.self.invariant c.args.node c.args.s c.requires.unmarked
    (subst (λ (o : TraceForm). c.args.node < length o.listing) (sym c.self.view_is) c.requires.node) added.0 m
    refl place))

pub returns-clause-meets : goal.returns-clause-meets
returns-clause-meets c =
    let listing = c.self.inside.listing
    in let met = c.self.inside.met.items
    in let added = subst (λ b. AddsAt listing c.add.new.self c.args.node c.args.s (Ok b))
    c.if-not-branch.false c.in_ok-add.ensures
    in let m : Met = record { node = c.args.node; place = c.count-place.result - 1; origin = c.args.origin }
    in let place : m.place ≡ length (at_node (appended listing c.args.node c.args.s) c.args.node) - 1
    = ap (λ n. n - 1) c.count-place.ensures ∙ ap (λ l. length (at_node l c.args.node) - 1) added.1
    in let Is : Found → Type 0 = λ f. f ≡ record {
      point = record { node = c.args.node; structure = c.args.s };
      origin = c.args.origin;
    }
    in subst (λ (o : TraceForm). Meets Is o (trace c.add.new.self c.push.new.self.items)) c.self.view_is
    (subst (λ l. Meets Is (trace listing met) (trace l c.push.new.self.items)) (sym added.1)
    (subst (λ v. Meets Is (trace listing met) (trace (appended listing c.args.node c.args.s) v))
    (sym c.in_ok-push.ensures.items)
    (met-meets listing met c.self.invariant c.args.node c.args.s c.requires.unmarked
    (subst AreListedMet (sym c.self.view_is) c.requires.listed)
    (subst (λ (o : TraceForm). c.args.node < length o.listing) (sym c.self.view_is) c.requires.node) added.0 m
    refl place)))

pub returns-clause-has : goal.returns-clause-has
returns-clause-has c =
    let listing = c.self.inside.listing
    in let met = c.self.inside.met.items
    in let added = subst (λ b. AddsAt listing c.add.new.self c.args.node c.args.s (Ok b))
    c.if-not-branch.false c.in_ok-add.ensures
    in let m : Met = record { node = c.args.node; place = c.count-place.result - 1; origin = c.args.origin }
    in let place : m.place ≡ length (at_node (appended listing c.args.node c.args.s) c.args.node) - 1
    = ap (λ n. n - 1) c.count-place.ensures ∙ ap (λ l. length (at_node l c.args.node) - 1) added.1
    in subst (λ l. IsMet (trace l c.push.new.self.items).found
    (record { node = c.args.node; structure = c.args.s })) (sym added.1)
    (subst (λ v. IsMet (trace (appended listing c.args.node c.args.s) v).found
    (record { node = c.args.node; structure = c.args.s })) (sym c.in_ok-push.ensures.items)
    (met-has listing met c.self.invariant c.args.node c.args.s c.requires.unmarked
    (subst AreListedMet (sym c.self.view_is) c.requires.listed)
    (subst (λ (o : TraceForm). c.args.node < length o.listing) (sym c.self.view_is) c.requires.node) added.0 m
    refl place))

pub returns-clause-listed : goal.returns-clause-listed
returns-clause-listed c =
    let listing = c.self.inside.listing
    in let met = c.self.inside.met.items
    in let added = subst (λ b. AddsAt listing c.add.new.self c.args.node c.args.s (Ok b))
    c.if-not-branch.false c.in_ok-add.ensures
    in let m : Met = record { node = c.args.node; place = c.count-place.result - 1; origin = c.args.origin }
    in let place : m.place ≡ length (at_node (appended listing c.args.node c.args.s) c.args.node) - 1
    = ap (λ n. n - 1) c.count-place.ensures ∙ ap (λ l. length (at_node l c.args.node) - 1) added.1
    in subst (λ l. AreListedMet (trace l c.push.new.self.items)) (sym added.1)
    (subst (λ v. AreListedMet (trace (appended listing c.args.node c.args.s) v))
    (sym c.in_ok-push.ensures.items)
    (met-listed listing met c.self.invariant c.args.node c.args.s c.requires.unmarked
    (subst AreListedMet (sym c.self.view_is) c.requires.listed)
    (subst (λ (o : TraceForm). c.args.node < length o.listing) (sym c.self.view_is) c.requires.node) added.0 m
    refl place))
