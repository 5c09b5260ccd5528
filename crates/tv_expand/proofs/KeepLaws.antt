-- What is spelled stays spelled: replaced words, members of sets, and whatever steps keep.
use Rattle.std.proofs.Common.{◌≡◌, ℕ, Bool, true, false, not, cond, List, [], ◌∷◌, ◌++◌, map, refl, subst}
use Rattle.std.proofs.Common.{Some, Result, Ok, Err}
use Rattle.std.specs.Prelude.{All, filter}
use Rattle.std.specs.Str.{bytes_eq}
use Rattle.std.specs.Map.{lookup}
use Rattle.std.proofs.lemmas.List.Elements.{All-nil, All-head, All-tail, All-push, All-filter}
use Rattle.tv_model.specs.Spelling.{IsIdentifier}
use Rattle.tv_tree.specs.Forms.{SetForm, SNamed, SMembers, SParen, SPlus, SMinus, Nest, Single, Foreach}
use Rattle.tv_tree.specs.Forms.{Nests, no_nest, with_nest}
use Rattle.tv_tree.specs.Spelled.{AreIdentifiers, IsSpelledSet, IsSpelledNest, AreSpelledNests}
use Rattle.tv_expand.specs.declared.error.ExpandError.{ExpandError}
use Rattle.tv_expand.specs.Outcome.{◌>>=◌, each}
use Rattle.tv_flat.specs.Replaced.{Binding, bound, replaced}
use Rattle.tv_flat.proofs.SpellLaws.{case_of, IsGoodBinding, bound_good, replaced_all}
use Rattle.tv_tree.specs.Names.{is_among}
use Rattle.tv_expand.specs.Sets.{Sets, sight, with_members, without_members, known, members_of}
use Rattle.tv_expand.specs.Expansion.{unrolled, unrolled_nest}

-- a step that went on
pub bind_ok : {A B : Type 0} (out : Result A ExpandError) (f : A → Result B ExpandError) (y : B) → (out >>= f) ≡ Ok y → (x : A) × (out ≡ Ok x) × (f x ≡ Ok y)
bind_ok (Ok x) f y h = (x, refl, h)
bind_ok (Err e) f y h = cc

with_members_good : (xs ys : List (List ℕ)) → AreIdentifiers xs → AreIdentifiers ys → AreIdentifiers (with_members xs ys)
with_members_good xs [] p q = p
with_members_good xs (y ∷ ys) p q =
    with_members_good (sight xs y) ys
    (case_of AreIdentifiers (is_among xs y) xs (xs ++ y ∷ []) p (All-push IsIdentifier xs y p (All-head IsIdentifier y ys q)))
    (All-tail IsIdentifier y ys q)

without_members_good : (xs ys : List (List ℕ)) → AreIdentifiers xs → AreIdentifiers (without_members xs ys)
without_members_good xs ys p = with_members_good [] (filter (λ x. not (is_among ys x)) xs) (All-nil IsIdentifier) (All-filter (λ x. not (is_among ys x)) IsIdentifier xs p)

abbrev pub AreGoodSets : Sets → Type 0
AreGoodSets sets = All (λ (e : List ℕ × List (List ℕ)). AreIdentifiers e.1) sets

-- what is looked up is one of the entries
pub lookup_good : {X : Type 0} (P : X → Type 0) (entries : List (List ℕ × X)) (name : List ℕ) (x : X) → All (λ (e : List ℕ × X). P e.1) entries → known (lookup (bytes_eq name) entries) ≡ Ok x → P x
lookup_good P [] name x good h = cc
lookup_good {X} P (e ∷ entries) name x good h =
    by (bytes_eq name e.0) (All-head (λ (q : List ℕ × X). P q.1) e entries good) (lookup_good P entries name x (All-tail (λ (q : List ℕ × X). P q.1) e entries good)) h
  where
    by : (t : Bool) → P e.1 → (known (lookup (bytes_eq name) entries) ≡ Ok x → P x) → known (cond t (Some e.1) (lookup (bytes_eq name) entries)) ≡ Ok x → P x
    by true ok rest k = let same : e.1 ≡ x = cc in subst P same ok
    by false ok rest k = rest k

pub members_good : (sets : Sets) (b : Binding) (s : SetForm) (xs : List (List ℕ)) → AreGoodSets sets → IsGoodBinding b → IsSpelledSet s → members_of sets b s ≡ Ok xs → AreIdentifiers xs
members_good sets b (SNamed name) xs good ok spelled h = lookup_good AreIdentifiers sets name xs good h
members_good sets b (SMembers words) xs good ok spelled h =
    let same : with_members [] (map (replaced b) words) ≡ xs = cc in
    subst AreIdentifiers same (with_members_good [] (map (replaced b) words) (All-nil IsIdentifier) (replaced_all b words ok spelled))
members_good sets b (SParen s) xs good ok spelled h = members_good sets b s xs good ok spelled h
members_good sets b (SPlus s t) xs good ok spelled h =
    let left = bind_ok (members_of sets b s) (λ ys. members_of sets b t >>= λ zs. Ok (with_members ys zs)) xs h in
    let right = bind_ok (members_of sets b t) (λ zs. Ok (with_members left.0 zs)) xs left.2 in
    let same : with_members left.0 right.0 ≡ xs = cc (right.2) in
    subst AreIdentifiers same (with_members_good left.0 right.0 (members_good sets b s left.0 good ok spelled.0 left.1) (members_good sets b t right.0 good ok spelled.1 right.1))
members_good sets b (SMinus s t) xs good ok spelled h =
    let left = bind_ok (members_of sets b s) (λ ys. members_of sets b t >>= λ zs. Ok (without_members ys zs)) xs h in
    let right = bind_ok (members_of sets b t) (λ zs. Ok (without_members left.0 zs)) xs left.2 in
    let same : without_members left.0 right.0 ≡ xs = cc (right.2) in
    subst AreIdentifiers same (without_members_good left.0 right.0 (members_good sets b s left.0 good ok spelled.0 left.1))

-- what each step keeps, all steps keep
pub each_keeps : {X S : Type 0} (step : X → S → Result S ExpandError) (P : S → Type 0) (Q : X → Type 0) → ((x : X) (s t : S) → Q x → P s → step x s ≡ Ok t → P t) → (xs : List X) (s t : S) → All Q xs → P s → each step xs s ≡ Ok t → P t
each_keeps step P Q keeps [] s t all p h = let same : s ≡ t = cc in subst P same p
each_keeps step P Q keeps (x ∷ xs) s t all p h =
    let first = bind_ok (step x s) (each step xs) t h in
    each_keeps step P Q keeps xs first.0 t (All-tail Q x xs all) (keeps x s first.0 (All-head Q x xs all) p first.1) first.2

module _ {X S : Type 0} (sets : S → Sets) (single : Binding → X → S → Result S ExpandError) (P : S → Type 0) (Q : X → Type 0) (good : (s : S) → P s → AreGoodSets (sets s)) (keeps : (b : Binding) (x : X) (s t : S) → IsGoodBinding b → Q x → P s → single b x s ≡ Ok t → P t) where
  mutual
    nest_keeps : (b : Binding) (d : Nest X) (s t : S) → IsGoodBinding b → IsSpelledNest Q d → P s → unrolled_nest sets single b d s ≡ Ok t → P t
    nest_keeps b (Single x) s t ok q p h = keeps b x s t ok q p h
    nest_keeps b (Foreach var members body) s t ok q p h =
        let found = bind_ok (members_of (sets s) b members) (λ xs. each (λ x. unrolled sets single (bound b var x) body) xs s) t h in
        each_keeps (λ x. unrolled sets single (bound b var x) body) P IsIdentifier
        (λ x s1 t1 is p1 h1. nests_keep (bound b var x) body s1 t1 (bound_good b var x ok is) q.2 p1 h1)
        found.0 s t (members_good (sets s) b members found.0 (good s p) ok q.1 found.1) p found.2

    pub nests_keep : (b : Binding) (ds : Nests X) (s t : S) → IsGoodBinding b → AreSpelledNests Q ds → P s → unrolled sets single b ds s ≡ Ok t → P t
    nests_keep b no_nest s t ok q p h = let same : s ≡ t = cc in subst P same p
    nests_keep b (with_nest d ds) s t ok q p h =
        let first = bind_ok (unrolled_nest sets single b d s) (unrolled sets single b ds) t h in
        nests_keep b ds first.0 t ok q.1 (nest_keeps b d s first.0 ok q.0 p first.1) first.2
