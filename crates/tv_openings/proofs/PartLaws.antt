-- Numbers of copies, individual by individual from the last to the first.
use Rattle.std.proofs.Common.{ℕ, ◌≡◌, ◌<◌, ◌≤◌, ◌+◌, ◌-◌, Bool, true, false, List, [], ◌∷◌, ◌++◌, map, length}
use Rattle.std.proofs.Common.{get_or, All, Contains}
use Rattle.std.proofs.Common.{refl, sym, ap, subst, ◌∙◌, arith, below_more}
use Rattle.std.specs.Prelude.{sum, if◌then◌else◌}
use Rattle.std.specs.List.{range_with_len}
use Rattle.std.proofs.lemmas.List.{get_or_default}
use Rattle.std.proofs.lemmas.List.Sums.{sum_by-cons}
use Rattle.std.proofs.lemmas.List.Elements.{All-nil, All-cons, All-append, Contains-append_left}
use Rattle.std.proofs.lemmas.List.Elements.{Contains-append_right}
use Rattle.tv_lemmas.proofs.Lists.{in_range}
use Rattle.tv_model.proofs.Lists.{Contains-here, Contains-map, Contains-map_back, All-from_contains}
use Rattle.tv_structure_form.specs.StructureForm.{StructureForm, summary_at}
use Rattle.tv_structure_form.proofs.Library.{below-range}
use Rattle.tv_openings.specs.Parts.{HavePlace, AreAllParts}

sum_more : (part : ℕ) (parts : List ℕ) → sum (part ∷ parts) ≡ part + sum parts
sum_more part parts = sum_by-cons (λ n. n) part parts

-- ---- the last individual

pub none_fits : (s : StructureForm) (cells : ℕ) → cells < s.size → AreAllParts s cells s.size []
none_fits s cells large = record { each = All-nil (HavePlace s cells s.size); all = none }
  where
    none : (parts : List ℕ) → HavePlace s cells s.size parts → Contains [] parts
    none [] have = absurd (omega (arith, large, have.1))
    none (part ∷ parts) have = absurd (omega (arith, have.0.0))

pub one_fits : (s : StructureForm) (cells : ℕ) → s.size ≤ cells → AreAllParts s cells s.size ([] ∷ [])
one_fits s cells small = record {
  each = All-cons (HavePlace s cells s.size) [] [] (refl, here) (All-nil (HavePlace s cells s.size));
  all = one;
}
  where
    nothing : sum [] ≡ 0
    nothing = refl

    here : sum [] + s.size ≤ cells
    here = omega (arith, small, nothing)

    one : (parts : List ℕ) → HavePlace s cells s.size parts → Contains ([] ∷ []) parts
    one [] have = Contains-here [] []
    one (part ∷ parts) have = absurd (omega (arith, have.0.0))

-- ---- one individual more

-- the lists before the place count are made longer
pub record AreLongerTo (s : StructureForm) (cells u : ℕ) (lists : List (List ℕ)) (count : ℕ) (longer : List (List ℕ))
    : Type 0 where
  pub each : All (HavePlace s cells u) longer
  pub found : (k : ℕ) → k < count → (part : ℕ) → HavePlace s cells u (part ∷ get_or lists k [])
      → Contains longer (part ∷ get_or lists k [])

pub none_longer : (s : StructureForm) (cells u : ℕ) (lists : List (List ℕ)) → AreLongerTo s cells u lists 0 []
none_longer s cells u lists = record {
  each = All-nil (HavePlace s cells u);
  found = λ k lt part have. absurd (omega (arith, lt));
}

abbrev pub most_of : StructureForm → (cells u : ℕ) → (parts : List ℕ) → ℕ
most_of s cells u parts = if summary_at s u then cells - (sum parts + u) else 1

abbrev pub put_each : StructureForm → (cells u : ℕ) → (parts : List ℕ) → List (List ℕ)
put_each s cells u parts = map (λ n. (n + 1) ∷ parts) (range_with_len 0 (most_of s cells u parts))

pub most_few : (s : StructureForm) (cells u : ℕ) (parts : List ℕ) → cells ≤ 256 → most_of s cells u parts ≤ 256
most_few s cells u parts le = at (summary_at s u)
  where
    at : (summary : Bool) → (if summary then cells - (sum parts + u) else 1) ≤ 256
    at true = omega (arith, le)
    at false = omega arith

put-fits : (s : StructureForm) (cells u : ℕ) (parts : List ℕ) → u < s.size → HavePlace s cells (u + 1) parts
    → (summary : Bool) → summary_at s u ≡ summary → (n : ℕ) → n < (if summary then cells - (sum parts + u) else 1)
    → HavePlace s cells u ((n + 1) ∷ parts)
put-fits s cells u parts lt have true is n few = (
  (lt, omega arith, (λ e. absurd (let no : true ≡ false = sym is ∙ e in cc)), have.0),
  omega (arith, few, have.1, sum_more (n + 1) parts),
)
put-fits s cells u parts lt have false is n few =
    ((lt, omega arith, (λ e. omega (arith, few)), have.0), omega (arith, few, have.1, sum_more (n + 1) parts))

put-few : (s : StructureForm) (cells u part : ℕ) (parts : List ℕ) → HavePlace s cells u (part ∷ parts)
    → (summary : Bool) → summary_at s u ≡ summary → part - 1 < (if summary then cells - (sum parts + u) else 1)
put-few s cells u part parts have true is = omega (arith, have.0.1, have.1, sum_more part parts)
put-few s cells u part parts have false is = omega (arith, have.0.1, have.0.2 is)

put-all_fit : (s : StructureForm) (cells u : ℕ) (parts : List ℕ) → u < s.size → HavePlace s cells (u + 1) parts
    → All (HavePlace s cells u) (put_each s cells u parts)
put-all_fit s cells u parts lt have =
    All-from_contains (HavePlace s cells u) (put_each s cells u parts) (λ x at.
    let from = Contains-map_back (λ (n : ℕ). (n + 1) ∷ parts) (range_with_len 0 (most_of s cells u parts)) x at
    in subst (HavePlace s cells u) from.2
    (put-fits s cells u parts lt have (summary_at s u) refl from.0
    (below-range (most_of s cells u parts) from.0 from.1)))

put-there : (s : StructureForm) (cells u : ℕ) (parts : List ℕ) (part : ℕ) → HavePlace s cells u (part ∷ parts)
    → Contains (put_each s cells u parts) (part ∷ parts)
put-there s cells u parts part has =
    let most : ℕ = most_of s cells u parts
    in let few : part - 1 < most_of s cells u parts = put-few s cells u part parts has (summary_at s u) refl
    in let same : (part - 1 + 1) ∷ parts ≡ part ∷ parts = ap (λ n. n ∷ parts) (omega (arith, has.0.1))
    in subst (Contains (put_each s cells u parts)) same
    (Contains-map (λ (n : ℕ). (n + 1) ∷ parts) (part - 1) (range_with_len 0 (most_of s cells u parts))
    (in_range (most_of s cells u parts) (part - 1) few))

pub longer_step : (s : StructureForm) (cells u : ℕ) (lists : List (List ℕ)) (k : ℕ) (parts : List ℕ)
    (longer more : List (List ℕ))
    → get_or lists k [] ≡ parts → u < s.size → HavePlace s cells (u + 1) parts → AreLongerTo s cells u lists k longer
    → more ≡ longer ++ put_each s cells u parts → AreLongerTo s cells u lists (k + 1) more
longer_step s cells u lists k parts longer more there lt have before is =
    subst (AreLongerTo s cells u lists (k + 1)) (sym is) (record {
      each = All-append (HavePlace s cells u) longer (put_each s cells u parts) before.each
          (put-all_fit s cells u parts lt have);
      found = below_more (λ (j : ℕ). (part : ℕ) → HavePlace s cells u (part ∷ get_or lists j [])
          → Contains (longer ++ put_each s cells u parts) (part ∷ get_or lists j [])) k
          (λ j below part has.
          Contains-append_left longer (put_each s cells u parts) (part ∷ get_or lists j [])
          (before.found j below part has))
          (λ part has. Contains-append_right longer (put_each s cells u parts) (part ∷ get_or lists k [])
          (subst (λ (x : List ℕ). Contains (put_each s cells u parts) (part ∷ x)) (sym there)
          (put-there s cells u parts part (subst (λ (x : List ℕ). HavePlace s cells u (part ∷ x)) there has))));
    })

pub longer_all : (s : StructureForm) (cells u : ℕ) (lists : List (List ℕ)) (count : ℕ)
    (longer : List (List ℕ)) → u < s.size
    → length lists ≤ count → AreAllParts s cells (u + 1) lists → AreLongerTo s cells u lists count longer
    → AreAllParts s cells u longer
longer_all s cells u lists count longer lt whole before to = record { each = to.each; all = all }
  where
    all : (parts : List ℕ) → HavePlace s cells u parts → Contains longer parts
    all [] have = absurd (omega (arith, lt, have.0))
    all (part ∷ parts) have =
        let at = before.all parts (have.0.3, omega (arith, have.1, have.0.1, sum_more part parts))
        in let is : get_or lists at.0 [] ≡ parts = get_or_default lists at.0 [] parts at.1 ∙ at.2
        in subst (λ (rest : List ℕ). Contains longer (part ∷ rest)) is
        (to.found at.0 (omega (arith, at.1, whole)) part
        (subst (λ (rest : List ℕ). HavePlace s cells u (part ∷ rest)) (sym is) have))

pub pushed_each : (s : StructureForm) (cells u : ℕ) (parts read put : List ℕ) (most : ℕ) (longer more : List (List ℕ))
    → read ≡ parts → put ≡ parts → most ≡ most_of s cells u read
    → more ≡ longer ++ map (λ (n : ℕ). (n + 1) ∷ put) (range_with_len 0 most)
    → more ≡ longer ++ put_each s cells u parts
pushed_each s cells u parts read put most longer more same also is pushed =
    pushed
    ∙ ap (λ (x : List ℕ). longer ++ map (λ (n : ℕ). (n + 1) ∷ x) (range_with_len 0 most)) also
    ∙ ap (λ (m : ℕ). longer ++ map (λ (n : ℕ). (n + 1) ∷ parts) (range_with_len 0 m))
    (is ∙ ap (most_of s cells u) same)
