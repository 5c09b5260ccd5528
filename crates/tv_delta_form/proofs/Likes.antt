-- A formula with arguments put in has as many nodes, and mentions no other predicates.
use Rattle.std.proofs.Common.{ℕ, ◌≡◌, ◌∙◌, ◌⊎◌, ◌+◌, ◌≤◌, true, Some, inl}
use Rattle.std.proofs.Common.{inr, ⊎_elim, refl, ap, arith}
use Rattle.std.specs.Prelude.{IfSome, nat_le, option_map, option_and_then}
use Rattle.std.proofs.lemmas.Bool.{leb-true}
use Rattle.tv_lemmas.proofs.Bools.{and_left}
use Rattle.tv_model.specs.Form.{Form, FZero, FOne, FAtom, FIsNew, FSame, FNot, FAnd, FOr, FIff, FCond}
use Rattle.tv_model.specs.Form.{FExists, FForall, FClosure, Mentions, height}
use Rattle.tv_delta_laws.specs.Simple.{nodes, is_small}
use Rattle.tv_delta_laws.specs.Putting.{Arguments, Reserved, put_in, bound_number, under_bound, with_own}
use Rattle.tv_delta_laws.specs.Putting.{argument_for, option_both}
use Rattle.tv_delta_laws.proofs.Options.{if-mapped, if-bound, if-both, if-some}
use Rattle.tv_lemmas.proofs.Options.{IfSome-any}

pub record IsLike (f g : Form) : Type 0 where
  pub nodes_same : nodes g ≡ nodes f
  pub mentions_same : (q : ℕ) → Mentions q g → Mentions q f

like-two : (f g x y : Form) → IsLike f x → IsLike g y
    → (nodes x + nodes y ≡ nodes f + nodes g) × ((q : ℕ) → Mentions q x ⊎ Mentions q y → Mentions q f ⊎ Mentions q g)
like-two f g x y one two = (
  ap (λ n. n + nodes y) one.nodes_same ∙ ap (λ n. nodes f + n) two.nodes_same,
  λ q t. ⊎_elim (λ l. inl (one.mentions_same q l)) (λ r. inr (two.mentions_same q r)) t,
)

pub put_like : (r : Reserved) (f : Form) (m : Arguments) → IfSome (put_in r f m) (IsLike f)
put_like r FZero m = record { nodes_same = refl; mentions_same = λ q t. t }
put_like r FOne m = record { nodes_same = refl; mentions_same = λ q t. t }
put_like r (FAtom p vars) m = record { nodes_same = refl; mentions_same = λ q t. t }
put_like r (FIsNew v) m = record { nodes_same = refl; mentions_same = λ q t. t }
put_like r (FSame v w) m = record { nodes_same = refl; mentions_same = λ q t. t }
put_like r (FNot f) m =
    if-mapped (IsLike f) (IsLike (FNot f)) (λ g. FNot g) (put_in r f m) (put_like r f m)
    (λ g is. record { nodes_same = ap (λ n. n + 1) is.nodes_same; mentions_same = is.mentions_same })
put_like r (FAnd f g) m =
    if-both (IsLike f) (IsLike g) (IsLike (FAnd f g)) (λ x y. FAnd x y) (put_in r f m) (put_in r g m) (put_like r f m)
    (put_like r g m)
    (λ x y one two. record {
      nodes_same = ap (λ n. n + 1) (like-two f g x y one two).0;
      mentions_same = (like-two f g x y one two).1;
    })
put_like r (FOr f g) m =
    if-both (IsLike f) (IsLike g) (IsLike (FOr f g)) (λ x y. FOr x y) (put_in r f m) (put_in r g m) (put_like r f m)
    (put_like r g m)
    (λ x y one two. record {
      nodes_same = ap (λ n. n + 1) (like-two f g x y one two).0;
      mentions_same = (like-two f g x y one two).1;
    })
put_like r (FIff f g) m =
    if-both (IsLike f) (IsLike g) (IsLike (FIff f g)) (λ x y. FIff x y) (put_in r f m) (put_in r g m) (put_like r f m)
    (put_like r g m)
    (λ x y one two. record {
      nodes_same = ap (λ n. n + 1) (like-two f g x y one two).0;
      mentions_same = (like-two f g x y one two).1;
    })
put_like r (FCond c f g) m =
    if-bound (IsLike c) (IsLike (FCond c f g))
    (λ x. option_both (λ y z. FCond x y z) (put_in r f m) (put_in r g m)) (put_in r c m) (put_like r c m)
    (λ x guard. if-both (IsLike f) (IsLike g) (IsLike (FCond c f g)) (λ y z. FCond x y z) (put_in r f m) (put_in r g m)
    (put_like r f m) (put_like r g m)
    (λ y z one two. record {
      nodes_same = omega (arith, guard.nodes_same, one.nodes_same, two.nodes_same);
      mentions_same = λ q t. ⊎_elim (λ l. inl (guard.mentions_same q l))
          (λ s. inr ((like-two f g y z one two).1 q s)) t;
    }))
put_like r (FExists v f) m =
    if-bound (λ w. Unit {0}) (IsLike (FExists v f))
    (λ w. option_map (λ g. FExists w g) (put_in r f (under_bound m v w f))) (bound_number r m v f)
    (IfSome-any (bound_number r m v f))
    (λ w t. if-mapped (IsLike f) (IsLike (FExists v f)) (λ g. FExists w g) (put_in r f (under_bound m v w f))
    (put_like r f (under_bound m v w f))
    (λ g is. record { nodes_same = ap (λ n. n + 1) is.nodes_same; mentions_same = is.mentions_same }))
put_like r (FForall v f) m =
    if-bound (λ w. Unit {0}) (IsLike (FForall v f))
    (λ w. option_map (λ g. FForall w g) (put_in r f (under_bound m v w f))) (bound_number r m v f)
    (IfSome-any (bound_number r m v f))
    (λ w t. if-mapped (IsLike f) (IsLike (FForall v f)) (λ g. FForall w g) (put_in r f (under_bound m v w f))
    (put_like r f (under_bound m v w f))
    (λ g is. record { nodes_same = ap (λ n. n + 1) is.nodes_same; mentions_same = is.mentions_same }))
put_like r (FClosure from to left right f) m =
    if-bound (λ l. Unit {0}) (IsLike (FClosure from to left right f))
    (λ l. option_and_then (λ k. option_map (λ g. FClosure (argument_for m from) (argument_for m to) l k g)
    (put_in r f (under_bound (under_bound m left l (FExists right f)) right k f)))
    (bound_number (with_own r l) (under_bound m left l (FExists right f)) right f))
    (bound_number r m left (FExists right f))
    (IfSome-any (bound_number r m left (FExists right f)))
    (λ l t. if-bound (λ k. Unit {0}) (IsLike (FClosure from to left right f))
    (λ k. option_map (λ g. FClosure (argument_for m from) (argument_for m to) l k g)
    (put_in r f (under_bound (under_bound m left l (FExists right f)) right k f)))
    (bound_number (with_own r l) (under_bound m left l (FExists right f)) right f)
    (IfSome-any (bound_number (with_own r l) (under_bound m left l (FExists right f)) right f))
    (λ k u. if-mapped (IsLike f) (IsLike (FClosure from to left right f))
    (λ g. FClosure (argument_for m from) (argument_for m to) l k g)
    (put_in r f (under_bound (under_bound m left l (FExists right f)) right k f))
    (put_like r f (under_bound (under_bound m left l (FExists right f)) right k f))
    (λ g is. record { nodes_same = ap (λ n. n + 1) is.nodes_same; mentions_same = is.mentions_same })))

-- what is put in has few nodes where the formula has
pub put_nodes : (r : Reserved) (f : Form) (m : Arguments) (g : Form) → is_small f ≡ true → put_in r f m ≡ Some g
    → nodes g ≤ 65536
put_nodes r f m g small put =
    let like : IsLike f g = if-some (IsLike f) (put_in r f m) g (put_like r f m) put
    in let first : nat_le (nodes f) 65536 ≡ true = and_left (nat_le (nodes f) 65536) (nat_le (height f) 1000) small
    in let few : nodes f ≤ 65536 = leb-true (nodes f) 65536 first
    in omega (arith, like.nodes_same, few)
