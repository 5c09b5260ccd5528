-- How a search grows.
use Rattle.std.proofs.Common.{ℕ, ◌≡◌, ◌≢◌, ◌<◌, ◌+◌, ◌-◌, ◌⊎◌, inl, inr, List, [], ◌∷◌, ◌++◌, length, get_or}
use Rattle.std.proofs.Common.{None, refl, sym, ap, subst, ◌∙◌, arith}
use Rattle.std.specs.Prelude.{All, AllPairs, Contains}
use Rattle.std.proofs.lemmas.List.{length-append, length-set, get_or_default}
use Rattle.std.proofs.lemmas.List.Elements.{Contains-append_left, Contains-push, Contains-push_cases}
use Rattle.std.proofs.lemmas.List.Elements.{All-push}
use Rattle.tv_structure_form.proofs.Library.{unmarked-same}
use Rattle.tv_listing.specs.ListingForm.{at_node, appended, HasEqual}
use Rattle.tv_structure_form.specs.StructureForm.{StructureForm}
use Rattle.tv_work.specs.Reach.{Point, IsListed, AreMoreThan}
use Rattle.tv_work.specs.Search.{SearchForm, Waits, IsOnce, IsSearch, IsWithin, Grows, ListsOnly}
use Rattle.tv_work.specs.Stopped.{GrowsPast}
use Rattle.tv_work.specs.declared.search.Waiting.{Waiting}
use Rattle.tv_work.proofs.Once.{once-push, once-different}
use Rattle.tv_work.proofs.Meeting.{at-same, at-each, listed-kept, listed-cases, stands-kept, stands-last}
use Rattle.tv_work.proofs.Meeting.{longer, total-more}

pub grows-none : (s : SearchForm) → Grows s s
grows-none s = record {
  nodes = refl;
  placed = λ w x h. h;
  kept = λ x h. h;
  stays = λ w h. h;
  fresh = λ x h. inl h;
  rises = omega arith;
  balance = refl;
}

pub waits-on : (a b : SearchForm) (x : Point) → Grows a b → Waits a x → Waits b x
waits-on a b x grows (w, has, stands) = (w, grows.stays w has, grows.placed w x stands)

pub grows-on : (a b c : SearchForm) → Grows a b → Grows b c → Grows a c
grows-on a b c first second = record {
  nodes = second.nodes ∙ first.nodes;
  placed = λ w x h. second.placed w x (first.placed w x h);
  kept = λ x h. second.kept x (first.kept x h);
  stays = λ w h. second.stays w (first.stays w h);
  fresh = λ x h. fresh x (second.fresh x h);
  rises = omega (arith, first.rises, second.rises);
  balance = omega (arith, first.balance, second.balance);
}
  where
    before : (x : Point) → IsListed a.listing x ⊎ Waits b x → IsListed a.listing x ⊎ Waits c x
    before x (inl h) = inl h
    before x (inr h) = inr (waits-on b c x second h)

    fresh : (x : Point) → IsListed b.listing x ⊎ Waits c x → IsListed a.listing x ⊎ Waits c x
    fresh x (inl h) = before x (first.fresh x h)
    fresh x (inr h) = inr h

module _ (old : SearchForm) (node : ℕ) (s : StructureForm) (w : Waiting) (is-node : node < length old.listing)
    (here : w.node ≡ node) (place : w.place ≡ length (at_node (appended old.listing node s) node) - 1) where
  abbrev pub met : SearchForm
  met = record {
    listing = appended old.listing node s;
    waiting = old.waiting ++ w ∷ [];
    count
        = old.count + 1;
  }

  pub met-grows : Grows old met
  met-grows = record {
    nodes = length-set old.listing node (at_node old.listing node ++ s ∷ []);
    placed = stands-kept old.listing node s is-node;
    kept = listed-kept old.listing node s is-node;
    stays = λ v h. Contains-append_left old.waiting (w ∷ []) v h;
    fresh = λ x h. fresh x (listed-cases old.listing node s is-node x h);
    rises = omega arith;
    balance = rw (length-append old.waiting (w ∷ [])) (omega arith);
  }
    where
      fresh : (x : Point) → IsListed old.listing x ⊎ (x ≡ record { node = node; structure = s })
          → IsListed old.listing x ⊎ Waits met x
      fresh x (inl h) = inl h
      fresh x (inr e) = inr
          (subst (Waits met) (sym e) (
            w,
            Contains-push old.waiting w,
            stands-last old.listing node s is-node w
                here place,
          ))

-- the structure is put behind those of its node
module _ (old : SearchForm) (node : ℕ) (s : StructureForm) (is-node : node < length old.listing)
    (search' : IsSearch old)
    (plain : s.fresh ≡ None) (absent : ¬ HasEqual (at_node old.listing node) s) where
  listed-unmarked : (x : Point) → IsListed (appended old.listing node s) x → x.structure.fresh ≡ None
  listed-unmarked x h = by (listed-cases old.listing node s is-node x h)
    where
      by : IsListed old.listing x ⊎ (x ≡ record { node = node; structure = s }) → x.structure.fresh ≡ None
      by (inl has) = search'.unmarked x has
      by (inr e) = ap (λ (y : Point). y.structure.fresh) e ∙ plain

  still-once : (n : ℕ) → IsOnce (at_node (appended old.listing node s) n)
  still-once = at-each old.listing node s is-node (λ n. IsOnce)
      (once-push (at_node old.listing node) s (search'.once node) absent) search'.once

  still-placed : All (λ w. w.place < length (at_node (appended old.listing node s) w.node)) old.waiting
  still-placed k d within =
      let w = get_or old.waiting k d
      in omega (arith, search'.places k d within, longer old.listing node s is-node w.node)

  pub listed-more : (count : ℕ)
      → IsSearch (record { listing = appended old.listing node s; waiting = old.waiting; count = count })
  listed-more count = record { unmarked = listed-unmarked; places = still-placed; once = still-once }

  pub waiting-more : (count : ℕ) (w : Waiting) → w.node ≡ node
      → w.place ≡ length (at_node (appended old.listing node s) node) - 1
      → IsSearch (record {
        listing = appended old.listing node s;
        waiting = old.waiting ++ w ∷ [];
        count
            = count;
      })
  waiting-more count w here place = record {
    unmarked = listed-unmarked;
    places = All-push (λ v. v.place < length (at_node (appended old.listing node s) v.node)) old.waiting w
        still-placed last;
    once = still-once;
  }
    where
      last : w.place < length (at_node (appended old.listing node s) w.node)
      last = rw (here, place)
          (omega (
            arith,
            ap length (at-same old.listing node s is-node),
            length-append
                (at_node old.listing node) (s ∷ []),
          ))

  all-different : All (AllPairs (λ t u. t ≢ u)) (appended old.listing node s)
  all-different k d within = subst (AllPairs (λ t u. t ≢ u))
      (get_or_default (appended old.listing node s) k [] d within)
      (once-different (at_node (appended old.listing node s) k) (still-once k))

  -- one more than may be listed
  pub one-more : (max : ℕ) → IsWithin max old → old.count ≡ max
      → AreMoreThan max (λ x. IsListed old.listing x ⊎ (x ≡ record { node = node; structure = s }))
  one-more max within full = record {
    found = appended old.listing node s;
    different = all-different;
    each = listed-cases old.listing node s is-node;
    more = omega (arith, total-more old.listing node s is-node, within.count, full);
  }

  -- and the listing has it
  pub grows-past : (max : ℕ) → IsWithin max old → old.count ≡ max
      → GrowsPast max (λ x. x ≡ record { node = node; structure = s }) old.listing (appended old.listing node s)
  grows-past max within full = record {
    kept = listed-kept old.listing node s is-node;
    one_more = record {
      count = length-set old.listing node (at_node old.listing node ++ s ∷ []);
      different = all-different;
      each = listed-cases old.listing node s is-node;
      total = omega (arith, total-more old.listing node s is-node, within.count, full);
    };
  }

-- an equal structure is the same where neither is marked
pub equal-listed : (old : SearchForm) (node : ℕ) (s : StructureForm) → IsSearch old → s.fresh ≡ None
    → HasEqual (at_node old.listing node) s → IsListed old.listing (record { node = node; structure = s })
equal-listed old node s search' plain (k, t, within, at, same) =
    let listed : Contains (at_node old.listing node) t = (k, within, at)
    in let e : t ≡ s = sym (unmarked-same t (search'.unmarked (record { node = node; structure = t }) listed))
    ∙ same ∙ unmarked-same s plain
    in subst (Contains (at_node old.listing node)) e listed

-- of all these structures those so far were met at the node
pub record MetUpTo (max node : ℕ) (all found : List StructureForm) (old new : SearchForm) : Type 0 where
  pub grows : Grows old new
  pub has : (s : StructureForm) → Contains found s
      → IsListed new.listing (record { node = node; structure = s })
  pub only : ListsOnly (λ x. (x.node ≡ node) × Contains all x.structure) old new
  pub within : IsWithin max new

-- what is met next was listed before, or is among those to be met
pub met-cause : (max node : ℕ) (all found : List StructureForm) (s : StructureForm) (first old : SearchForm)
    → MetUpTo max node all found first old → Contains all s → (x : Point)
    → IsListed old.listing x ⊎ (x ≡ record { node = node; structure = s })
    → IsListed first.listing x ⊎ ((x.node ≡ node) × Contains all x.structure)
met-cause max node all found s first old so_far has x (inl h) = so_far.only x h
met-cause max node all found s first old so_far has x (inr e) =
    inr (ap (λ (y : Point). y.node) e, subst (λ (y : Point). Contains all y.structure) (sym e) has)

-- one more is met
pub met-next : (max node : ℕ) (all found : List StructureForm) (s : StructureForm)
    (first old new : SearchForm)
    → MetUpTo max node all found first old → Contains all s → Grows old new
    → IsListed new.listing (record { node = node; structure = s })
    → ListsOnly (λ x. x ≡ record { node = node; structure = s }) old new → IsWithin max new
    → MetUpTo max node all (found ++ s ∷ []) first new
met-next max node all found s first old new so_far among grows has only within = record {
  grows = grows-on first old new so_far.grows grows;
  has = λ t h. there t (Contains-push_cases found s t h);
  only = λ x h. met-cause max node all found s first old so_far among x (only x h);
  within = within;
}
  where
    there : (t : StructureForm) → Contains found t ⊎ (s ≡ t)
        → IsListed new.listing (record { node = node; structure = t })
    there t (inl h) = grows.kept (record { node = node; structure = t }) (so_far.has t h)
    there t (inr e) = subst (λ u. IsListed new.listing (record { node = node; structure = u })) e has

-- the only one there
pub one-there : (all : List StructureForm) (s t : StructureForm) → all ≡ s ∷ [] → Contains all t → s ≡ t
one-there all s t one has = at (Contains-push_cases [] s t (subst (λ found. Contains found t) one has))
  where
    at : Contains [] t ⊎ (s ≡ t) → s ≡ t
    at (inl (k, lt, is)) = absurd (omega (arith, lt))
    at (inr e) = e

-- what is met, where it is the only one to be met
pub among-one : (node : ℕ) (all : List StructureForm) (s : StructureForm) (old : SearchForm) → all ≡ s ∷ []
    → (x : Point) → IsListed old.listing x ⊎ (x ≡ record { node = node; structure = s })
    → IsListed old.listing x ⊎ ((x.node ≡ node) × Contains all x.structure)
among-one node all s old one x (inl h) = inl h
among-one node all s old one x (inr e) = inr (
  ap (λ (y : Point). y.node) e,
  subst (λ (y : Point). Contains all y.structure) (sym e)
      (subst (λ found. Contains found s) (sym one) (Contains-push [] s)),
)
