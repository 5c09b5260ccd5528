use Rattle.std.proofs.Common.{◌≡◌, ◌<◌, ◌+◌, ◌-◌, length, refl, sym, ap, subst, ◌∙◌, Ok, ◌⊎◌}
use Rattle.tv_listing.specs.ListingForm.{at_node, appended, AddsAt}
use Rattle.tv_work.specs.Reach.{Point, IsListed}
use Rattle.tv_work.specs.Search.{SearchForm, Grows, IsSearch, IsWithin}
use Rattle.tv_work.specs.Stopped.{GrowsPast}
use Rattle.tv_work.specs.declared.search.Waiting.{Waiting}
use Rattle.tv_work.proofs.Growing.{met-grows, listed-more, waiting-more, grows-past, equal-listed}
use Rattle.tv_work.proofs.Meeting.{listed-new, listed-cases}
use Rattle.tv_work.proofs.search.Search.meet.Goals as goal

-- src/search.rt:65:13
pub returns-then-not-branch-clause-has : goal.returns-then-not-branch-clause-has
returns-then-not-branch-clause-has c =
    let old : SearchForm = record {
      listing = c.self.inside.listing;
      waiting = c.self.inside.waiting.items;
      count = c.self.inside.count;
    }
    in let known = subst (λ b. AddsAt old.listing c.add.new.self c.args.node c.args.s (Ok b))
    c.if-not-branch.true c.in_ok-add.ensures
    in subst (λ l. IsListed l (record { node = c.args.node; structure = c.args.s })) (sym known.1)
    (equal-listed old c.args.node c.args.s c.self.invariant c.requires.unmarked known.0)

-- src/search.rt:68:13
pub invariant_of-self-then-self-max : goal.invariant_of-self-then-self-max
invariant_of-self-then-self-max c =
    let old : SearchForm = record {
      listing = c.self.inside.listing;
      waiting = c.self.inside.waiting.items;
      count = c.self.inside.count;
    }
    in let added = subst (λ b. AddsAt old.listing c.add.new.self c.args.node c.args.s (Ok b))
    c.if-not-branch.false c.in_ok-add.ensures
    in subst (λ l. IsSearch (record { listing = l; waiting = old.waiting; count = old.count })) (sym added.1)
    (listed-more old c.args.node c.args.s (subst (λ (o : SearchForm). c.args.node < length o.listing)
    (sym c.self.view_is) c.requires.node) c.self.invariant c.requires.unmarked added.0 old.count)

-- src/search.rt:68:13
pub returns-then-self-max-clause-cause : goal.returns-then-self-max-clause-cause
returns-then-self-max-clause-cause c =
    let old : SearchForm = record {
      listing = c.self.inside.listing;
      waiting = c.self.inside.waiting.items;
      count = c.self.inside.count;
    }
    in let added = subst (λ b. AddsAt old.listing c.add.new.self c.args.node c.args.s (Ok b))
    c.if-not-branch.false c.in_ok-add.ensures
    in let P : Point → Type 0 = λ x. x ≡ record { node = c.args.node; structure = c.args.s }
    in subst (λ (o : SearchForm). GrowsPast c.args.max P o.listing c.add.new.self) c.self.view_is
    (subst (GrowsPast c.args.max P old.listing) (sym added.1)
    (grows-past old c.args.node c.args.s (subst (λ (o : SearchForm). c.args.node < length o.listing)
    (sym c.self.view_is) c.requires.node) c.self.invariant c.requires.unmarked added.0 c.args.max
    (subst (IsWithin c.args.max) (sym c.self.view_is) c.requires.within) c.if-self-max.true))

-- src/search.rt:72:9
pub invariant_of-self-in_err-push_back : goal.invariant_of-self-in_err-push_back
invariant_of-self-in_err-push_back c =
    let old : SearchForm = record {
      listing = c.self.inside.listing;
      waiting = c.self.inside.waiting.items;
      count = c.self.inside.count;
    }
    in let added = subst (λ b. AddsAt old.listing c.add.new.self c.args.node c.args.s (Ok b))
    c.if-not-branch.false c.in_ok-add.ensures
    in subst (λ l. IsSearch (record { listing = l; waiting = c.push_back.new.self.items; count = old.count + 1 }))
    (sym added.1)
    (subst (λ v. IsSearch
    (record { listing = appended old.listing c.args.node c.args.s; waiting = v; count = old.count + 1 }))
    (sym c.in_err-push_back.ensures.items)
    (listed-more old c.args.node c.args.s (subst (λ (o : SearchForm). c.args.node < length o.listing)
    (sym c.self.view_is) c.requires.node) c.self.invariant c.requires.unmarked added.0 (old.count + 1)))

-- src/search.rt:54:5
pub invariant_of-self-2 : goal.invariant_of-self-2
invariant_of-self-2 c =
    let old : SearchForm = record {
      listing = c.self.inside.listing;
      waiting = c.self.inside.waiting.items;
      count = c.self.inside.count;
    }
    in let added = subst (λ b. AddsAt old.listing c.add.new.self c.args.node c.args.s (Ok b))
    c.if-not-branch.false c.in_ok-add.ensures
    in let w : Waiting = record { node = c.args.node; place = c.count-place.result - 1 }
    in let place : w.place ≡ length (at_node (appended old.listing c.args.node c.args.s) c.args.node) - 1
    = ap (λ n. n - 1) c.count-place.ensures ∙ ap (λ l. length (at_node l c.args.node) - 1) added.1
    in subst (λ l. IsSearch (record { listing = l; waiting = c.push_back.new.self.items; count = old.count + 1 }))
    (sym added.1)
    (subst (λ v. IsSearch
    (record { listing = appended old.listing c.args.node c.args.s; waiting = v; count = old.count + 1 }))
    (sym c.in_ok-push_back.ensures.items)
    (waiting-more old c.args.node c.args.s (subst (λ (o : SearchForm). c.args.node < length o.listing)
    (sym c.self.view_is) c.requires.node) c.self.invariant c.requires.unmarked added.0 (old.count + 1) w
    refl place))

-- src/search.rt:54:5
pub returns-clause-grows : goal.returns-clause-grows
returns-clause-grows c =
    let old : SearchForm = record {
      listing = c.self.inside.listing;
      waiting = c.self.inside.waiting.items;
      count = c.self.inside.count;
    }
    in let added = subst (λ b. AddsAt old.listing c.add.new.self c.args.node c.args.s (Ok b))
    c.if-not-branch.false c.in_ok-add.ensures
    in let w : Waiting = record { node = c.args.node; place = c.count-place.result - 1 }
    in let place : w.place ≡ length (at_node (appended old.listing c.args.node c.args.s) c.args.node) - 1
    = ap (λ n. n - 1) c.count-place.ensures ∙ ap (λ l. length (at_node l c.args.node) - 1) added.1
    in subst (λ (o : SearchForm).
    Grows o (record { listing = c.add.new.self; waiting = c.push_back.new.self.items; count = old.count + 1 }))
    c.self.view_is
    (subst (λ l. Grows old (record { listing = l; waiting = c.push_back.new.self.items; count = old.count + 1 }))
    (sym added.1)
    (subst (λ v. Grows old
    (record { listing = appended old.listing c.args.node c.args.s; waiting = v; count = old.count + 1 }))
    (sym c.in_ok-push_back.ensures.items)
    (met-grows old c.args.node c.args.s w (subst (λ (o : SearchForm). c.args.node < length o.listing)
    (sym c.self.view_is) c.requires.node) refl place)))

-- src/search.rt:54:5
pub returns-clause-has : goal.returns-clause-has
returns-clause-has c =
    let old : SearchForm = record {
      listing = c.self.inside.listing;
      waiting = c.self.inside.waiting.items;
      count = c.self.inside.count;
    }
    in let added = subst (λ b. AddsAt old.listing c.add.new.self c.args.node c.args.s (Ok b))
    c.if-not-branch.false c.in_ok-add.ensures
    in subst (λ l. IsListed l (record { node = c.args.node; structure = c.args.s })) (sym added.1)
    (listed-new old.listing c.args.node c.args.s (subst (λ (o : SearchForm). c.args.node < length o.listing)
    (sym c.self.view_is) c.requires.node))

-- src/search.rt:54:5
pub returns-clause-only : goal.returns-clause-only
returns-clause-only c x =
    let old : SearchForm = record {
      listing = c.self.inside.listing;
      waiting = c.self.inside.waiting.items;
      count = c.self.inside.count;
    }
    in let added = subst (λ b. AddsAt old.listing c.add.new.self c.args.node c.args.s (Ok b))
    c.if-not-branch.false c.in_ok-add.ensures
    in λ h. subst (λ (o : SearchForm). IsListed o.listing x
    ⊎ (x ≡ record { node = c.args.node; structure = c.args.s })) c.self.view_is
    (listed-cases old.listing c.args.node c.args.s (subst (λ (o : SearchForm). c.args.node < length o.listing)
    (sym c.self.view_is) c.requires.node) x (subst (λ l. IsListed l x) added.1 h))
