-- How the entries of a relation read, and how walks grow by one stop after the other.
use Rattle.std.proofs.Common.{ℕ, ◌≡◌, ◌≢◌, ◌<◌, ◌≤◌, ◌+◌, ◌-◌, ⊎_elim, suc, List, [], ◌∷◌, length, map}
use Rattle.std.proofs.Common.{get_or, set, refl, sym, ap, ◌∙◌, arith}
use Rattle.std.specs.List.{range_with_len}
use Rattle.std.proofs.lemmas.Bool.{cases_eq, cases_lt}
use Rattle.std.proofs.lemmas.List.{length-set, length-map, get_or-map, get_or-set_same, get_or-set_other}
use Rattle.tv_kleene.specs.declared.K3.{K3}
use Rattle.tv_kleene.specs.declared.K3.TheVariants.{No, Half, Yes}
use Rattle.tv_kleene.specs.Kleene.{smaller_of, larger_of}
use Rattle.tv_eval_laws.specs.Value.{best_walk}
use Rattle.tv_row.specs.Bits.{paired}
use Rattle.tv_row.specs.Places.{entry_in}
use Rattle.tv_row.proofs.WordOps.{length-paired, get_or-paired}
use Rattle.tv_quantifiers.specs.Rows.{IsSquare, through}

-- one row put into a square
module _ (rows : List (List K3)) (n u : ℕ) (row : List K3) (square : IsSquare n rows) (lu : u < n)
    (len : length row ≡ n) where
  pub put_square : IsSquare n (set rows u row)
  put_square = record {
    rows_are = omega (arith, square.rows_are, length-set rows u row);
    columns = λ v lv.
        ⊎_elim
        (λ e. ap (λ i. length (get_or (set rows u row) i [])) e ∙ ap length
        (get_or-set_same rows u row [] (omega (arith, square.rows_are))) ∙ len)
        (λ ne. ap length (get_or-set_other rows u v row [] ne) ∙ square.columns v lv)
        (cases_eq v u);
  }

  pub put_here : (w : ℕ) → entry_in (set rows u row) u w ≡ get_or row w No
  put_here w = ap (λ r. get_or r w No) (get_or-set_same rows u row [] (omega (arith, square.rows_are)))

  pub put_there : (v w : ℕ) → v ≢ u → entry_in (set rows u row) v w ≡ entry_in rows v w
  put_there v w ne = ap (λ r. get_or r w No) (get_or-set_other rows u v row [] ne)

pub extended_long : (rows : List (List K3)) (n u stop : ℕ) (k : K3) → IsSquare n rows → u < n → stop < n
    → length (paired larger_of (get_or rows u []) (map (smaller_of k) (get_or rows stop []))) ≡ n
extended_long rows n u stop k square lu ls =
    length-paired larger_of (get_or rows u []) (map (smaller_of k) (get_or rows stop []))
    (square.columns u lu ∙ sym (length-map (get_or rows stop []) (smaller_of k) ∙ square.columns stop ls))
    ∙ square.columns u lu

-- a row or'ed with the capped row of the stop
pub extended_row : (rows : List (List K3)) (n u stop w : ℕ) (k : K3) → IsSquare n rows → u < n → stop < n → w < n
    → k ≡ entry_in rows u stop
    → get_or (paired larger_of (get_or rows u []) (map (smaller_of k) (get_or rows stop []))) w No
    ≡ through (entry_in rows) stop u w
extended_row rows n u stop w k square lu ls lw e =
    let row : List K3 = get_or rows u []
    in let other : List K3 = get_or rows stop []
    in let a : length row ≡ n = square.columns u lu
    in let b : length other ≡ n = square.columns stop ls
    in get_or-paired larger_of row (map (smaller_of k) other) w (omega arith)
    (omega (arith, length-map other (smaller_of k)))
    ∙ ap (larger_of (get_or row w No)) (get_or-map (smaller_of k) other w No No (omega arith) ∙ ap
    (λ x. smaller_of x (get_or other w No)) e)

-- ---- the order of truth

pub larger-No : (x : K3) → larger_of x No ≡ x
larger-No No = refl
larger-No Half = refl
larger-No Yes = refl

-- no edge to the stop: nothing is gained by it
pub through-none : (edge : ℕ → ℕ → K3) (stop u w : ℕ) → edge u stop ≡ No → edge u w ≡ through edge stop u w
through-none edge stop u w e = sym (ap (λ x. larger_of (edge u w) (smaller_of x (edge stop w))) e ∙ larger-No
    (edge u w))

smaller-No : (x : K3) → smaller_of x No ≡ No
smaller-No No = refl
smaller-No Half = refl
smaller-No Yes = refl

-- a stop without edges adds no walk
pub through-bare : (edge : ℕ → ℕ → K3) (stop u w : ℕ) → edge stop w ≡ No → edge u w ≡ through edge stop u w
through-bare edge stop u w none =
    sym (ap (λ k. larger_of (edge u w) (smaller_of (edge u stop) k)) none
    ∙ ap (larger_of (edge u w)) (smaller-No (edge u stop)) ∙ larger-No (edge u w))

pub larger-absorbs : (x y : K3) → larger_of y (smaller_of x y) ≡ y
larger-absorbs No No = refl
larger-absorbs No Half = refl
larger-absorbs No Yes = refl
larger-absorbs Half No = refl
larger-absorbs Half Half = refl
larger-absorbs Half Yes = refl
larger-absorbs Yes No = refl
larger-absorbs Yes Half = refl
larger-absorbs Yes Yes = refl

-- ---- one more stop

-- a walk from the stop gains nothing by the stop
pub through-stop : (edge : ℕ → ℕ → K3) (stop w : ℕ) → through edge stop stop w ≡ edge stop w
through-stop edge stop w = larger-absorbs (edge stop stop) (edge stop w)

-- a relation, some of whose rows already pass through the stop, gives in the next row what the relation
-- before gives
pub through-next : (old now : ℕ → ℕ → K3) (n stop u w : ℕ) → stop < n → w < n
    → ((v x : ℕ) → v < u → x < n → now v x ≡ through old stop v x)
    → ((v x : ℕ) → u ≤ v → now v x ≡ old v x)
    → through now stop u w ≡ through old stop u w
through-next old now n stop u w ls lw done left =
    let from_stop : now stop w ≡ old stop w =
    ⊎_elim
    (λ before. done stop w before lw ∙ through-stop old stop w)
    (λ after. left stop w (omega arith))
    (cases_lt stop u)
    in rw (left u w (omega arith), left u stop (omega arith), from_stop) refl

-- a relation that agrees with the best walks past later stops agrees, with one stop more, with the best
-- walks past that stop too
pub range-front : (k n : ℕ) → k < n → range_with_len k (n - k) ≡ k ∷ range_with_len (k + 1) (n - (k + 1))
range-front k n lt = let e : n - k ≡ suc (n - (k + 1)) = omega arith in rw e refl

pub best-further : (edge old new : ℕ → ℕ → K3) (n k j : ℕ) → j ≡ k + 1 → k < n
    → ((u w : ℕ) → u < n → w < n → old u w ≡ best_walk edge (range_with_len j (n - j)) u w)
    → ((u w : ℕ) → u < n → w < n → new u w ≡ through old k u w)
    → (u w : ℕ) → u < n → w < n → new u w ≡ best_walk edge (range_with_len k (n - k)) u w
best-further edge old new n k j e lt before grown u w lu lw =
    let at : ℕ → ℕ → K3 = best_walk edge (range_with_len j (n - j))
    in let step : through old k u w ≡ through at k u w = rw
    (before u w lu lw, before u k lu lt, before k w lt lw) refl
    in let front : range_with_len k (n - k) ≡ k ∷ range_with_len j (n - j) = rw e (range-front k n lt)
    in grown u w lu lw ∙ step ∙ ap (λ stops. best_walk edge stops u w) (sym front)

-- best walks depend only on the edges between the individuals
pub best-agrees : (edge other : ℕ → ℕ → K3) (n : ℕ) (stops : List ℕ)
    → ((u w : ℕ) → u < n → w < n → edge u w ≡ other u w)
    → ((i : ℕ) → i < length stops → get_or stops i 0 < n)
    → (u w : ℕ) → u < n → w < n → best_walk edge stops u w ≡ best_walk other stops u w
best-agrees edge other n [] agree below u w lu lw = agree u w lu lw
best-agrees edge other n (stop ∷ stops) agree below u w lu lw =
    let ls : stop < n = below 0 (omega arith)
    in let later : (i : ℕ) → i < length stops → get_or stops i 0 < n = λ i li. below (suc i) (omega arith)
    in rw (
      best-agrees edge other n stops agree later u w lu lw,
      best-agrees edge other n stops agree later u stop lu ls,
      best-agrees edge other n stops agree later stop w ls lw,
    )
    refl

-- ---- the loops that let walks pass through a stop

-- the next row
pub allowed-next : (old now new : ℕ → ℕ → K3) (n u stop : ℕ) → stop < n
    → ((v x : ℕ) → v < u → x < n → now v x ≡ through old stop v x)
    → ((v x : ℕ) → u ≤ v → now v x ≡ old v x)
    → ((x : ℕ) → x < n → new u x ≡ through now stop u x)
    → ((v x : ℕ) → v ≢ u → new v x ≡ now v x)
    → ((v x : ℕ) → v < u + 1 → x < n → new v x ≡ through old stop v x)
    × ((v x : ℕ) → u + 1 ≤ v → new v x ≡ old v x)
allowed-next old now new n u stop ls done left row others = (
  λ v x lv lx. ⊎_elim
      (λ e. rw e (row x lx ∙ through-next old now n stop u x ls lx done left))
      (λ ne. others v x ne ∙ done v x (omega arith) lx)
      (cases_eq v u),
  λ v x lv. others v x (λ e. omega arith) ∙ left v x (omega arith),
)
