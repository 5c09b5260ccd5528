-- Lists of words, step by step.
use Rattle.std.proofs.Common.{◌≡◌, ℕ, ◌+◌, ◌<◌, ◌≤◌, Bool, false, not, get_or, List, [], ◌∷◌, ◌++◌, length}
use Rattle.std.proofs.Common.{map, drop, refl, sym, ap, inl, inr, Bor, ◌||◌}
use Rattle.std.specs.Prelude.{filter, if◌then◌else◌, Ok}
use Rattle.std.specs.List.{list_any}
use Rattle.std.specs.Str.{bytes_eq}
use Rattle.std.proofs.lemmas.Bool.{cases_Bool}
use Rattle.std.proofs.lemmas.List.{drop_more, drop_all, map_push}
use Rattle.tv_flat.specs.declared.binding.Scope.{Scope}
use Rattle.tv_flat.specs.Replaced.{replaced}
use Rattle.tv_flat.specs.Views.{binding_of}
use Rattle.tv_tree.specs.Names.{is_among}
use Rattle.tv_expand.specs.Sets.{sight, with_members, once}
use Rattle.tv_expand.specs.Views.{names_of}

-- whether a word is among words that are borrowed
pub among_names : (ks : List (Bor (List ℕ))) (word : List ℕ) → list_any (λ k. bytes_eq word k.now) ks ≡ is_among (names_of ks) word
among_names [] word = refl
among_names (k ∷ ks) word = ap (λ (b : Bool). bytes_eq word k.now || b) (among_names ks word)

pub seen_new : (ks : List (Bor (List ℕ))) (word : List ℕ) → not (list_any (λ k. bytes_eq word k.now) ks) ≡ not (is_among (names_of ks) word)
seen_new ks word = ap not (among_names ks word)

pub seen_names : (ks : List (Bor (List ℕ))) (k : Bor (List ℕ)) → names_of (if list_any (λ l. bytes_eq k.now l.now) ks then ks else ks ++ k ∷ []) ≡ sight (names_of ks) k.now
seen_names ks k =
    rw (among_names ks k.now)
    (elim (cases_Bool (is_among (names_of ks) k.now)) [
      | inl h ↦ rw h refl
      | inr h ↦ rw h (map_push (λ name. name.now) ks k)
    ])

pub once_new : (word : List ℕ) (seen : List (List ℕ)) → is_among seen word ≡ false → once word seen ≡ Ok (sight seen word)
once_new word seen new = rw new refl

pub members_more : (seen : List (List ℕ)) (words : List (Bor (List ℕ))) (i : ℕ) (d : Bor (List ℕ)) → i < length words → with_members (sight seen ((get_or words i d).now)) (names_of (drop (i + 1) words)) ≡ with_members seen (names_of (drop i words))
members_more seen words i d below = rw (drop_more words i d below) refl

pub members_done : (seen : List (List ℕ)) (words : List (Bor (List ℕ))) (i : ℕ) → length words ≤ i → with_members seen (names_of (drop i words)) ≡ seen
members_done seen words i past = rw (drop_all i words past) refl

pub replaced_members_more : (bs : Scope) (seen words : List (List ℕ)) (i : ℕ) (x : List ℕ) → i < length words → x ≡ get_or words i x → with_members (sight seen (replaced (binding_of bs) x)) (map (replaced (binding_of bs)) (drop (i + 1) words)) ≡ with_members seen (map (replaced (binding_of bs)) (drop i words))
replaced_members_more bs seen words i x below is = rw (drop_more words i x below) (rw (sym is) refl)

pub replaced_members_done : (bs : Scope) (seen words : List (List ℕ)) (i : ℕ) → length words ≤ i → with_members seen (map (replaced (binding_of bs)) (drop i words)) ≡ seen
replaced_members_done bs seen words i past = rw (drop_all i words past) refl

-- the words that aren't taken
abbrev pub others : List (List ℕ) → List (List ℕ) → List (List ℕ)
others taken xs = filter (λ x. not (is_among taken x)) xs

others_first : (kept taken xs : List (List ℕ)) (x : List ℕ) → with_members (if is_among taken x then kept else sight kept x) (others taken xs) ≡ with_members kept (others taken (x ∷ xs))
others_first kept taken xs x =
    elim (cases_Bool (is_among taken x)) [
      | inl h ↦ rw h refl
      | inr h ↦ rw h refl
    ]

pub without_more : (kept taken : List (List ℕ)) (words : List (Bor (List ℕ))) (i : ℕ) (d : Bor (List ℕ)) → i < length words → with_members (if is_among taken ((get_or words i d).now) then kept else sight kept ((get_or words i d).now)) (others taken (names_of (drop (i + 1) words))) ≡ with_members kept (others taken (names_of (drop i words)))
without_more kept taken words i d below = rw (drop_more words i d below) (others_first kept taken (names_of (drop (i + 1) words)) ((get_or words i d).now))

pub without_done : (kept taken : List (List ℕ)) (words : List (Bor (List ℕ))) (i : ℕ) → length words ≤ i → with_members kept (others taken (names_of (drop i words))) ≡ kept
without_done kept taken words i past = rw (drop_all i words past) refl
