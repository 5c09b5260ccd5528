-- Sizes tell which formulas are small.
use Rattle.std.proofs.Common.{ℕ, ◌≡◌, ◌∙◌, ◌+◌, min, max, sym, ap, arith}
use Rattle.std.specs.Prelude.{nat_le}
use Rattle.std.proofs.lemmas.Bool.Decides.{nat_tests}
use Rattle.tv_model.specs.Form.{Form, FNot, FAnd, FOr, FIff, FCond, FExists, FForall, FClosure, height}
use Rattle.tv_delta_laws.specs.Simple.{nodes, is_small}
use Rattle.tv_delta_form.specs.declared.shape.Shape.{Shape}
use Rattle.tv_delta_form.specs.declared.size.Size.{Size}
use Rattle.tv_delta_form.specs.Shapes.{shape_form}
use Rattle.tv_delta_form.specs.Sizes.{size_of, is_small_size, node_over}

capped : (a c : ℕ) → min (a + 1) c ≡ min (min a c + 1) c
capped a c = omega arith

capped-two : (a b c : ℕ) → min (a + b + 1) c ≡ min (min a c + min b c + 1) c
capped-two a b c = omega arith

capped-three : (a b d c : ℕ) → min (a + b + d + 1) c ≡ min (min a c + min b c + min d c + 1) c
capped-three a b d c = omega arith

higher-two : (a b c : ℕ) → min (max a b + 1) c ≡ min (max (min a c) (min b c) + 1) c
higher-two a b c = omega arith

higher-three : (a b d c : ℕ) → min (max a (max b d) + 1) c ≡ min (max (min a c) (max (min b c) (min d c)) + 1) c
higher-three a b d c = omega arith

within : (n c : ℕ) → nat_le (min n (c + 1)) c ≡ nat_le n c
within n c = grind (arith, nat_tests)

pub small_form : (f : Form) → is_small_size (size_of f) ≡ is_small f
small_form f = cc (within (nodes f) 65536, within (height f) 1000)

pub small_sized : (s : Size) (f : Form) → s ≡ size_of f → is_small_size s ≡ is_small f
small_sized s f is = ap is_small_size is ∙ small_form f

-- the size over one part, whatever stands over it
one_sized : (over_it : Form → Form)
    → ((f : Form) → size_of (over_it f) ≡ node_over (size_of f).nodes (size_of f).height)
    → (t s : Size) (x y : Shape) → t ≡ node_over s.nodes s.height → s ≡ size_of (shape_form x) → y ≡ x
    → t ≡ size_of (over_it (shape_form y))
one_sized over_it law t s x y over is same =
    over ∙ ap (λ (z : Size). node_over z.nodes z.height) is ∙ sym (law (shape_form x))
    ∙ ap (λ z. size_of (over_it (shape_form z))) (sym same)

-- the size over two parts, whichever way they are joined
two_sized : (joined : Form → Form → Form)
    → ((f g : Form) → size_of (joined f g) ≡ node_over ((size_of f).nodes + (size_of g).nodes) (max (size_of f).height (size_of g).height))
    → (t s u : Size) (x y z w : Shape) → t ≡ node_over (s.nodes + u.nodes) (max s.height u.height)
    → s ≡ size_of (shape_form x) → u ≡ size_of (shape_form y) → z ≡ x → w ≡ y
    → t ≡ size_of (joined (shape_form z) (shape_form w))
two_sized joined law t s u x y z w over is its same alike =
    over ∙ ap (λ (a : Size). node_over (a.nodes + u.nodes) (max a.height u.height)) is
    ∙ ap (λ (a : Size). node_over ((size_of (shape_form x)).nodes + a.nodes) (max (size_of (shape_form x)).height a.height)) its
    ∙ sym (law (shape_form x) (shape_form y))
    ∙ ap (λ a. size_of (joined (shape_form a) (shape_form y))) (sym same)
    ∙ ap (λ a. size_of (joined (shape_form z) (shape_form a))) (sym alike)

pub not-size : (f : Form) → size_of (FNot f) ≡ node_over (size_of f).nodes (size_of f).height
not-size f = cc (capped (nodes f) 65537, capped (height f) 1001)

pub not_sized : (t s : Size) (x y : Shape) → t ≡ node_over s.nodes s.height → s ≡ size_of (shape_form x)
    → y ≡ x → t ≡ size_of (FNot (shape_form y))
not_sized = one_sized (λ f. FNot f) not-size

pub and-size : (f g : Form)
    → size_of (FAnd f g) ≡ node_over ((size_of f).nodes + (size_of g).nodes) (max (size_of f).height (size_of g).height)
and-size f g = cc (capped-two (nodes f) (nodes g) 65537, higher-two (height f) (height g) 1001)

pub and_sized : (t s u : Size) (x y z w : Shape) → t ≡ node_over (s.nodes + u.nodes) (max s.height u.height)
    → s ≡ size_of (shape_form x) → u ≡ size_of (shape_form y) → z ≡ x → w ≡ y
    → t ≡ size_of (FAnd (shape_form z) (shape_form w))
and_sized = two_sized (λ f g. FAnd f g) and-size

pub or-size : (f g : Form)
    → size_of (FOr f g) ≡ node_over ((size_of f).nodes + (size_of g).nodes) (max (size_of f).height (size_of g).height)
or-size f g = cc (capped-two (nodes f) (nodes g) 65537, higher-two (height f) (height g) 1001)

pub or_sized : (t s u : Size) (x y z w : Shape) → t ≡ node_over (s.nodes + u.nodes) (max s.height u.height)
    → s ≡ size_of (shape_form x) → u ≡ size_of (shape_form y) → z ≡ x → w ≡ y
    → t ≡ size_of (FOr (shape_form z) (shape_form w))
or_sized = two_sized (λ f g. FOr f g) or-size

pub iff-size : (f g : Form)
    → size_of (FIff f g) ≡ node_over ((size_of f).nodes + (size_of g).nodes) (max (size_of f).height (size_of g).height)
iff-size f g = cc (capped-two (nodes f) (nodes g) 65537, higher-two (height f) (height g) 1001)

pub iff_sized : (t s u : Size) (x y z w : Shape) → t ≡ node_over (s.nodes + u.nodes) (max s.height u.height)
    → s ≡ size_of (shape_form x) → u ≡ size_of (shape_form y) → z ≡ x → w ≡ y
    → t ≡ size_of (FIff (shape_form z) (shape_form w))
iff_sized = two_sized (λ f g. FIff f g) iff-size

pub exists-size : (v : ℕ) (f : Form) → size_of (FExists v f) ≡ node_over (size_of f).nodes (size_of f).height
exists-size v f = cc (capped (nodes f) 65537, capped (height f) 1001)

pub exists_sized : (t s : Size) (v : ℕ) (x y : Shape) → t ≡ node_over s.nodes s.height → s ≡ size_of (shape_form x)
    → y ≡ x → t ≡ size_of (FExists v (shape_form y))
exists_sized t s v = one_sized (λ f. FExists v f) (exists-size v) t s

pub forall-size : (v : ℕ) (f : Form) → size_of (FForall v f) ≡ node_over (size_of f).nodes (size_of f).height
forall-size v f = cc (capped (nodes f) 65537, capped (height f) 1001)

pub forall_sized : (t s : Size) (v : ℕ) (x y : Shape) → t ≡ node_over s.nodes s.height → s ≡ size_of (shape_form x)
    → y ≡ x → t ≡ size_of (FForall v (shape_form y))
forall_sized t s v = one_sized (λ f. FForall v f) (forall-size v) t s

pub closure-size : (from to left right : ℕ) (f : Form) → size_of (FClosure from to left right f) ≡ node_over (size_of f).nodes (size_of f).height
closure-size from to left right f = cc (capped (nodes f) 65537, capped (height f) 1001)

pub closure_sized : (t s : Size) (from to left right : ℕ) (x y : Shape) → t ≡ node_over s.nodes s.height → s ≡ size_of (shape_form x)
    → y ≡ x → t ≡ size_of (FClosure from to left right (shape_form y))
closure_sized t s from to left right =
    one_sized (λ f. FClosure from to left right f) (closure-size from to left right) t s

pub cond-size : (c f g : Form)
    → size_of (FCond c f g) ≡ node_over ((size_of c).nodes + (size_of f).nodes + (size_of g).nodes)
    (max (size_of c).height (max (size_of f).height (size_of g).height))
cond-size c f g =
    cc (capped-three (nodes c) (nodes f) (nodes g) 65537, higher-three (height c) (height f) (height g) 1001)

abbrev over-three : Size → Size → Size → Size
over-three r s u = node_over (r.nodes + s.nodes + u.nodes) (max r.height (max s.height u.height))

pub cond_sized : (t r s u : Size) (a x y b z w : Shape)
    → t ≡ node_over (r.nodes + s.nodes + u.nodes) (max r.height (max s.height u.height))
    → r ≡ size_of (shape_form a) → s ≡ size_of (shape_form x) → u ≡ size_of (shape_form y) → b ≡ a → z ≡ x → w ≡ y
    → t ≡ size_of (FCond (shape_form b) (shape_form z) (shape_form w))
cond_sized t r s u a x y b z w over here is its guard same alike =
    over ∙ ap (λ k. over-three k s u) here ∙ ap (λ k. over-three (size_of (shape_form a)) k u) is
    ∙ ap (λ k. over-three (size_of (shape_form a)) (size_of (shape_form x)) k) its
    ∙ sym (cond-size (shape_form a) (shape_form x) (shape_form y))
    ∙ ap (λ k. size_of (FCond (shape_form k) (shape_form x) (shape_form y))) (sym guard)
    ∙ ap (λ k. size_of (FCond (shape_form b) (shape_form k) (shape_form y))) (sym same)
    ∙ ap (λ k. size_of (FCond (shape_form b) (shape_form z) (shape_form k))) (sym alike)

-- a quantifier over a formula under so many more
counted : (c : ℕ) (f x : Form) → min (nodes f) 65537 ≡ min (nodes x + c) 65537
    → min (height f) 1001 ≡ min (height x + c) 1001
    → node_over (min (min (nodes x) 65537 + c) 65537) (min (min (height x) 1001 + c) 1001)
    ≡ node_over (min (nodes f) 65537) (min (height f) 1001)
counted c f x many high =
    let first : min (min (nodes x) 65537 + c) 65537 ≡ min (nodes f) 65537 = omega (arith, many)
    in let second : min (min (height x) 1001 + c) 1001 ≡ min (height f) 1001 = omega (arith, high)
    in ap (λ a. node_over a (min (min (height x) 1001 + c) 1001)) first ∙ ap (node_over (min (nodes f) 65537)) second

pub exists_counted : (v c : ℕ) (f x : Form) → min (nodes f) 65537 ≡ min (nodes x + c) 65537
    → min (height f) 1001 ≡ min (height x + c) 1001
    → node_over (min ((size_of x).nodes + c) 65537) (min ((size_of x).height + c) 1001) ≡ size_of (FExists v f)
exists_counted v c f x many high = counted c f x many high ∙ sym (exists-size v f)

pub forall_counted : (v c : ℕ) (f x : Form) → min (nodes f) 65537 ≡ min (nodes x + c) 65537
    → min (height f) 1001 ≡ min (height x + c) 1001
    → node_over (min ((size_of x).nodes + c) 65537) (min ((size_of x).height + c) 1001) ≡ size_of (FForall v f)
forall_counted v c f x many high = counted c f x many high ∙ sym (forall-size v f)
