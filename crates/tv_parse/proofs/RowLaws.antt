-- Lists of items are read as the grammar says.
use Rattle.std.proofs.Common.{◌≡◌, ℕ, zero, suc, List, [], Bool, refl, inl, inr}
use Rattle.std.specs.Prelude.{codes}
use Rattle.tv_lex.specs.Token.{SpecToken}
use Rattle.tv_phrases.specs.Reading.{Reading, taken, ◌>>=◌}
use Rattle.tv_phrases.specs.Tokens.{after, first, identifier_item}
use Rattle.tv_tree.specs.Forms.{SetForm, Nest, Single, Foreach}
use Rattle.tv_tree.specs.Copies.{nests}
use Rattle.tv_parse.specs.Grammar.{IsHead, IsNest, AreNests}
use Rattle.tv_parse.specs.Reading.{set_reading, head_reading, lone, foreach_nest, nest, rows}
use Rattle.tv_phrases.specs.Repeated.{with_first, turn}
use Rattle.tv_phrases.proofs.Values.{bind_some, chosen, tested}
use Rattle.tv_parse.proofs.SetLaws.{set_sound}
use Rattle.tv_phrases.proofs.Repeats.{held, first_sound}

pub head_sound : (ts rest : List SpecToken) (x : List ℕ × SetForm) → head_reading ts ≡ taken x rest → IsHead ts x.0 x.1 rest
unfolding head_reading
head_sound ts rest x e =
    let a = bind_some (after (codes "(") ts) _ (x, rest) e in
    let b = bind_some (first identifier_item a.0) _ (x, rest) a.2 in
    let c = bind_some (after (codes "in") b.0.1) _ (x, rest) b.2 in
    let d = bind_some (set_reading c.0) _ (x, rest) c.2 in
    let f = bind_some (after (codes ")") d.0.1) _ (x, rest) d.2 in
    let g = bind_some (after (codes "{") f.0) _ (x, rest) f.2 in
    let P : (List ℕ × SetForm) → List SpecToken → Type 0 = λ y us. IsHead ts y.0 y.1 us in
    held P (b.0.0, d.0.0) x g.0 rest g.2 (a.0, b.0.1, c.0, d.0.1, f.0, a.1, b.1, c.1, set_sound c.0 d.0.1 d.0.0 d.1, f.1, g.1)

module _ {X : Type 0} (begins : List SpecToken → Bool) (single : List SpecToken → Reading X) (IsSingle : List SpecToken → X → List SpecToken → Type 0) (one : (ts us : List SpecToken) (x : X) → single ts ≡ taken x us → IsSingle ts x us) where
  nest_sound : (read : List SpecToken → Reading (List (Nest X))) → ((us vs : List SpecToken) (ds : List (Nest X)) → read us ≡ taken ds vs → AreNests begins IsSingle us (nests ds) vs) → (ts rest : List SpecToken) (d : Nest X) → nest single read ts ≡ taken d rest → IsNest begins IsSingle ts d rest
  unfolding nest lone foreach_nest
  nest_sound read inner ts rest d e =
      let P : Nest X → List SpecToken → Type 0 = λ y us. IsNest begins IsSingle ts y us in
      elim (chosen (after (codes "foreach") ts) (lone (single ts)) (foreach_nest read) (taken d rest) e) [
        | inl h ↦
            let a = bind_some (single ts) (λ x. taken (Single x.0) x.1) (d, rest) h.1 in
            held P (Single a.0.0) d a.0.1 rest a.2 (h.0, one ts a.0.1 a.0.0 a.1)
        | inr h ↦
            let a = bind_some (head_reading h.0) (λ head. read head.1 >>= λ body. after (codes "}") body.1 >>= λ end. taken (Foreach head.0.0 head.0.1 (nests body.0)) end) (d, rest) h.2 in
            let b = bind_some (read a.0.1) (λ body. after (codes "}") body.1 >>= λ end. taken (Foreach a.0.0.0 a.0.0.1 (nests body.0)) end) (d, rest) a.2 in
            let c = bind_some (after (codes "}") b.0.1) (λ end. taken (Foreach a.0.0.0 a.0.0.1 (nests b.0.0)) end) (d, rest) b.2 in
            held P (Foreach a.0.0.0 a.0.0.1 (nests b.0.0)) d c.0 rest c.2 (h.0, a.0.1, b.0.1, h.1, head_sound h.0 a.0.1 a.0.0 a.1, inner a.0.1 b.0.1 b.0.0 b.1, c.1)
      ]

  pub rows_sound : (n : ℕ) (ts rest : List SpecToken) (ds : List (Nest X)) → rows begins single n ts ≡ taken ds rest → AreNests begins IsSingle ts (nests ds) rest
  unfolding rows turn
  rows_sound zero ts rest ds e = absurd cc
  rows_sound (suc n) ts rest ds e =
      let P : List (Nest X) → List SpecToken → Type 0 = λ ys us. AreNests begins IsSingle ts (nests ys) us in
      elim (tested (begins ts) (nest single (rows begins single n) ts >>= λ x. with_first x.0 (rows begins single n x.1)) (taken [] ts) (taken ds rest) e) [
        | inl h ↦
            let a = bind_some (nest single (rows begins single n) ts) (λ x. with_first x.0 (rows begins single n x.1)) (ds, rest) h.1 in
            first_sound P a.0.0 (rows begins single n a.0.1) ds rest a.2 (λ ys us i. (a.0.1, h.0, nest_sound (rows begins single n) (λ vs ws fs j. rows_sound n vs ws fs j) ts a.0.1 a.0.0 a.1, rows_sound n a.0.1 us ys i))
        | inr h ↦ held P [] ds ts rest h.1 (h.0, refl)
      ]
