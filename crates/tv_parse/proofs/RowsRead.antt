-- What the grammar says is a list of items is read as that list.
use Rattle.std.proofs.Common.{◌≡◌, ℕ, zero, suc, ◌<◌, ◌≤◌, List, [], ◌∷◌, Bool, length, refl, ap, arith}
use Rattle.std.specs.Prelude.{codes}
use Rattle.tv_lex.specs.Token.{SpecToken}
use Rattle.tv_phrases.specs.Reading.{Reading, taken}
use Rattle.tv_tree.specs.Forms.{Nest, Single, Foreach, Nests, no_nest, with_nest}
use Rattle.tv_tree.specs.Copies.{nests}
use Rattle.tv_parse.specs.Grammar.{IsNest, AreNests}
use Rattle.tv_parse.specs.Reading.{lone, foreach_nest, nest, rows}
use Rattle.tv_phrases.specs.Repeated.{with_first, turn}
use Rattle.tv_phrases.proofs.Takes.{after_takes}
use Rattle.tv_parse.proofs.SetsRead.{head_read}
use Rattle.tv_phrases.proofs.Repeats.{IsRead}

-- the list of what stands in a row
abbrev pub listed : {X : Type 0} → Nests X → List (Nest X)
listed no_nest = []
listed (with_nest d ds) = d ∷ listed ds

pub nests_listed : {X : Type 0} (ds : Nests X) → nests (listed ds) ≡ ds
nests_listed no_nest = refl
nests_listed (with_nest d ds) = ap (with_nest d) (nests_listed ds)

module _ {X : Type 0} (begins : List SpecToken → Bool) (single : List SpecToken → Reading X) (IsSingle : List SpecToken → X → List SpecToken → Type 0) (one : IsRead single IsSingle) where
  mutual
    unfolding nest lone foreach_nest rows turn with_first

    pub nest_read : (d : Nest X) (ts rest : List SpecToken) → IsNest begins IsSingle ts d rest → (n : ℕ) → length ts ≤ n → (nest single (rows begins single n) ts ≡ taken d rest) × (length rest < length ts)
    nest_read (Single x) ts rest h n le =
        let a = one ts rest x h.1 in
        (rw (h.0, a.0) refl, a.1)
    nest_read (Foreach var members body) ts rest h n le =
        let l : length h.0 < length ts = after_takes (codes "foreach") ts h.0 h.3 in
        let a = head_read h.0 h.1 var members h.4 in
        let k : length h.1 < length h.0 = a.1 in
        let b = rows_read body h.1 h.2 h.5 n (omega arith) in
        let j : length h.2 ≤ length h.1 = b.1 in
        let i : length rest < length h.2 = after_takes (codes "}") h.2 rest h.6 in
        (rw (h.3, a.0, b.0, h.6, nests_listed body) refl, omega arith)

    pub rows_read : (ds : Nests X) (ts rest : List SpecToken) → AreNests begins IsSingle ts ds rest → (n : ℕ) → length ts < n → (rows begins single n ts ≡ taken (listed ds) rest) × (length rest ≤ length ts)
    rows_read ds ts rest h zero lt = absurd (omega arith)
    rows_read no_nest ts rest h (suc n) lt = (rw (h.0, h.1) refl, rw h.1 (omega arith))
    rows_read (with_nest d ds) ts rest h (suc n) lt =
        let a = nest_read d ts h.0 h.2 n (omega arith) in
        let l : length h.0 < length ts = a.1 in
        let b = rows_read ds h.0 rest h.3 n (omega arith) in
        let k : length rest ≤ length h.0 = b.1 in
        (rw (h.1, a.0, b.0) refl, omega arith)
