-- What names hold in memory, where names and contents lie side by side.
use Rattle.std.proofs.Common.{◌≡◌, ◌≤◌, ◌<◌, ◌+◌, ◌-◌, ℕ, suc, Bool, true, false, cond, List, [], ◌∷◌, map}
use Rattle.std.proofs.Common.{length, get_or, Option, Some, None, refl, sym, ◌∙◌, ap, arith, if◌then◌else◌}
use Rattle.std.proofs.Common.{MatchOption}
use Rattle.std.specs.List.{zip, position_from}
use Rattle.std.specs.Str.{bytes_eq}
use Rattle.std.proofs.lemmas.Grind.{common_steps}
use Rattle.tv_outside.specs.Told.{content_of}

get_or-behind : (c : List ℕ) (cs : List (List ℕ)) (i j : ℕ) → i + 1 ≤ j → get_or (c ∷ cs) (j - i) [] ≡ get_or cs (j - (i + 1)) []
get_or-behind c cs i j later =
    let step : j - i ≡ suc (j - (i + 1)) = omega (arith, later)
    in rw step refl

-- what was found from the next index on was found from this one on
found-behind : (found : Option ℕ) (held : Option (List ℕ)) (c : List ℕ) (cs : List (List ℕ)) (i : ℕ)
    → MatchOption found (held ≡ None) (λ j. (i + 1 ≤ j) × (held ≡ Some (get_or cs (j - (i + 1)) [])))
    → MatchOption found (held ≡ None) (λ j. (i ≤ j) × (held ≡ Some (get_or (c ∷ cs) (j - i) [])))
found-behind None held c cs i h = h
found-behind (Some j) held c cs i h = (omega (arith, h.0), h.1 ∙ ap Some (sym (get_or-behind c cs i j h.0)))

content_of-zip : {X : Type 0} (text : X → List ℕ) (xs : List X) (cs : List (List ℕ)) (name : List ℕ) (i : ℕ)
    → length xs ≡ length cs
    → MatchOption (position_from (λ x. bytes_eq (text x) name) i xs)
    (content_of (zip (map text xs) cs) name ≡ None)
    (λ j. (i ≤ j) × (content_of (zip (map text xs) cs) name ≡ Some (get_or cs (j - i) [])))
content_of-zip text [] cs name i pairs = refl
content_of-zip text (x ∷ xs) [] name i pairs = absurd (omega (arith, pairs))
content_of-zip text (x ∷ xs) (c ∷ cs) name i pairs =
    elim (bytes_eq (text x) name)
    as (λ b. MatchOption (cond b (Some i) (position_from (λ x. bytes_eq (text x) name) (i + 1) xs))
    ((if b then Some c else content_of (zip (map text xs) cs) name) ≡ None)
    (λ j. (i ≤ j) × ((if b then Some c else content_of (zip (map text xs) cs) name) ≡ Some (get_or (c ∷ cs) (j - i) [])))) [
      | true ↦ (omega arith, let e : i - i ≡ 0 = omega arith in rw e refl)
      | false ↦ found-behind (position_from (λ x. bytes_eq (text x) name) (i + 1) xs) (content_of (zip (map text xs) cs) name) c cs i
          (content_of-zip text xs cs name (i + 1) (omega (arith, pairs)))
    ]

-- what was found is one of the indices
found-below : (found : Option ℕ) (i n : ℕ) → MatchOption found (Unit {0}) (λ j. j < i + 1 + n)
    → MatchOption found (Unit {0}) (λ j. j < i + suc n)
found-below None i n h = tt
found-below (Some j) i n h = omega (arith, h)

position-below : {X : Type 0} (p : X → Bool) (xs : List X) (i : ℕ)
    → MatchOption (position_from p i xs) (Unit {0}) (λ j. j < i + length xs)
position-below p [] i = tt
position-below p (x ∷ xs) i =
    elim (p x) as (λ b. MatchOption (cond b (Some i) (position_from p (i + 1) xs)) (Unit {0}) (λ j. j < i + suc (length xs)))
    [ true ↦ omega arith | false ↦ found-below (position_from p (i + 1) xs) i (length xs) (position-below p xs (i + 1)) ]

length-pairs : {X C : Type 0} (bytes : C → List ℕ) (xs : List X) (cs : List C) → length xs ≡ length cs
    → length xs ≡ length (map bytes cs)
length-pairs bytes xs cs pairs = grind (arith, common_steps, pairs)

-- a name that was found holds the bytes beside it, and one that wasn't holds nothing
pub content_of_found : {X C : Type 0} (text : X → List ℕ) (bytes : C → List ℕ) (xs : List X) (cs : List C) (name : List ℕ)
    (found : Option ℕ) (i : ℕ) → length xs ≡ length cs → found ≡ position_from (λ x. bytes_eq (text x) name) 0 xs → found ≡ Some i
    → (i < length (map bytes cs)) × (content_of (zip (map text xs) (map bytes cs)) name ≡ Some (get_or (map bytes cs) i []))
content_of_found text bytes xs cs name found i pairs is here =
    let pairs' = length-pairs bytes xs cs pairs in
    let place = sym is ∙ here in
    let held = content_of-zip text xs (map bytes cs) name 0 pairs' in
    let below = position-below (λ x. bytes_eq (text x) name) xs 0 in
    let inside = rw place at below in
    let same : i - 0 ≡ i = omega arith in
    let bytes = (rw place at held).1 in
    (omega (arith, inside, pairs'), rw same at bytes)

pub content_of_none : {X C : Type 0} (text : X → List ℕ) (bytes : C → List ℕ) (xs : List X) (cs : List C) (name : List ℕ)
    (found : Option ℕ) → length xs ≡ length cs → found ≡ position_from (λ x. bytes_eq (text x) name) 0 xs → found ≡ None
    → content_of (zip (map text xs) (map bytes cs)) name ≡ None
content_of_none text bytes xs cs name found pairs is none =
    let place = sym is ∙ none in
    let held = content_of-zip text xs (map bytes cs) name 0 (length-pairs bytes xs cs pairs) in rw place at held
