-- How deltas of connectives and quantifiers stop: where a part's isn't formed, or theirs isn't.
use Rattle.std.proofs.Common.{ℕ, ◌≡◌, ◌∙◌, Option, Some, None, refl, ap}
use Rattle.tv_delta_laws.specs.Deltas.{Delta, negated, both, either, some, every}
use Rattle.tv_delta_form.specs.declared.stop.Stop.{Stop}
use Rattle.tv_delta_form.specs.Views.{StopsUnformed}

-- the same isn't formed
same : {X : Type 0} (e : Stop) (o p : Option X) → o ≡ p → StopsUnformed e p → StopsUnformed e o
same e o p equal fails = record { none = λ it. equal ∙ fails.none it }

none-second : (o : Option Delta) → both o None ≡ None
none-second None = refl
none-second (Some d) = refl

none-other : (o : Option Delta) → either o None ≡ None
none-other None = refl
none-other (Some d) = refl

pub not_stops : (e : Stop) (o : Option Delta) → StopsUnformed e o → StopsUnformed e (negated o)
not_stops e o fails = record { none = λ it. ap negated (fails.none it) }

pub not_stops_itself : (e : Stop) (o : Option Delta) (d : Delta) → o ≡ Some d → StopsUnformed e (negated (Some d)) → StopsUnformed e (negated o)
not_stops_itself e o d is fails = same e (negated o) (negated (Some d)) (ap negated is) fails

pub and_stops : (e : Stop) (o p : Option Delta) → StopsUnformed e o → StopsUnformed e (both o p)
and_stops e o p fails = record { none = λ it. ap (λ x. both x p) (fails.none it) }

pub and_stops_second : (e : Stop) (o p : Option Delta) → StopsUnformed e p → StopsUnformed e (both o p)
and_stops_second e o p fails = record { none = λ it. ap (both o) (fails.none it) ∙ none-second o }

pub and_stops_itself : (e : Stop) (o p : Option Delta) (d b : Delta) → o ≡ Some d → p ≡ Some b
    → StopsUnformed e (both (Some d) (Some b)) → StopsUnformed e (both o p)
and_stops_itself e o p d b is its fails =
    same e (both o p) (both (Some d) (Some b)) (ap (λ x. both x p) is ∙ ap (both (Some d)) its) fails

pub or_stops : (e : Stop) (o p : Option Delta) → StopsUnformed e o → StopsUnformed e (either o p)
or_stops e o p fails = record { none = λ it. ap (λ x. either x p) (fails.none it) }

pub or_stops_second : (e : Stop) (o p : Option Delta) → StopsUnformed e p → StopsUnformed e (either o p)
or_stops_second e o p fails = record { none = λ it. ap (either o) (fails.none it) ∙ none-other o }

pub or_stops_itself : (e : Stop) (o p : Option Delta) (d b : Delta) → o ≡ Some d → p ≡ Some b
    → StopsUnformed e (either (Some d) (Some b)) → StopsUnformed e (either o p)
or_stops_itself e o p d b is its fails =
    same e (either o p) (either (Some d) (Some b)) (ap (λ x. either x p) is ∙ ap (either (Some d)) its) fails

pub some_stops : (e : Stop) (v : ℕ) (o : Option Delta) → StopsUnformed e o → StopsUnformed e (some v o)
some_stops e v o fails = record { none = λ it. ap (some v) (fails.none it) }

pub some_stops_itself : (e : Stop) (v : ℕ) (o : Option Delta) (d : Delta) → o ≡ Some d → StopsUnformed e (some v (Some d))
    → StopsUnformed e (some v o)
some_stops_itself e v o d is fails = same e (some v o) (some v (Some d)) (ap (some v) is) fails

pub every_stops : (e : Stop) (v : ℕ) (o : Option Delta) → StopsUnformed e o → StopsUnformed e (every v o)
every_stops e v o fails = record { none = λ it. ap (every v) (fails.none it) }

pub every_stops_itself : (e : Stop) (v : ℕ) (o : Option Delta) (d : Delta) → o ≡ Some d → StopsUnformed e (every v (Some d))
    → StopsUnformed e (every v o)
every_stops_itself e v o d is fails = same e (every v o) (every v (Some d)) (ap (every v) is) fails

abbrev pub alike_of : Option Delta → Option Delta → Option Delta
alike_of o p = both (either (negated o) p) (either (negated p) o)

pub alike_stops : (e : Stop) (o p : Option Delta) → StopsUnformed e o
    → StopsUnformed e (both (either (negated o) p) (either (negated p) o))
alike_stops e o p fails = and_stops e (either (negated o) p) (either (negated p) o) (or_stops e (negated o) p (not_stops e o fails))

pub alike_stops_second : (e : Stop) (o p : Option Delta) → StopsUnformed e p
    → StopsUnformed e (both (either (negated o) p) (either (negated p) o))
alike_stops_second e o p fails =
    and_stops e (either (negated o) p) (either (negated p) o) (or_stops_second e (negated o) p fails)

pub alike_stops_itself : (e : Stop) (o p : Option Delta) (d b : Delta) → o ≡ Some d → p ≡ Some b
    → StopsUnformed e (both (either (negated (Some d)) (Some b)) (either (negated (Some b)) (Some d)))
    → StopsUnformed e (both (either (negated o) p) (either (negated p) o))
alike_stops_itself e o p d b is its fails =
    same e (alike_of o p) (alike_of (Some d) (Some b)) (ap (λ x. alike_of x p) is ∙ ap (alike_of (Some d)) its) fails

abbrev pub choice_of : Option Delta → Option Delta → Option Delta → Option Delta
choice_of c o p = either (both c o) (both (negated c) p)

pub choice_stops : (e : Stop) (c o p : Option Delta) → StopsUnformed e c → StopsUnformed e (either (both c o) (both (negated c) p))
choice_stops e c o p fails = or_stops e (both c o) (both (negated c) p) (and_stops e c o fails)

pub choice_stops_second : (e : Stop) (c o p : Option Delta) → StopsUnformed e o → StopsUnformed e (either (both c o) (both (negated c) p))
choice_stops_second e c o p fails = or_stops e (both c o) (both (negated c) p) (and_stops_second e c o fails)

pub choice_stops_third : (e : Stop) (c o p : Option Delta) → StopsUnformed e p → StopsUnformed e (either (both c o) (both (negated c) p))
choice_stops_third e c o p fails =
    or_stops_second e (both c o) (both (negated c) p) (and_stops_second e (negated c) p fails)

pub choice_stops_itself : (e : Stop) (c o p : Option Delta) (a d b : Delta) → c ≡ Some a → o ≡ Some d → p ≡ Some b
    → StopsUnformed e (either (both (Some a) (Some d)) (both (negated (Some a)) (Some b)))
    → StopsUnformed e (either (both c o) (both (negated c) p))
choice_stops_itself e c o p a d b is its theirs fails =
    same e (choice_of c o p) (choice_of (Some a) (Some d) (Some b))
    (ap (λ x. choice_of x o p) is ∙ ap (λ x. choice_of (Some a) x p) its ∙ ap (choice_of (Some a) (Some d)) theirs) fails

pub ruleset stops = (not_stops, not_stops_itself, and_stops, and_stops_second, and_stops_itself, or_stops, or_stops_second, or_stops_itself, some_stops, some_stops_itself, every_stops, every_stops_itself, alike_stops, alike_stops_second, alike_stops_itself, choice_stops, choice_stops_second, choice_stops_third, choice_stops_itself)
