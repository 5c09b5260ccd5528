use Rattle.std.proofs.Common.{ℕ, [], ◌≡◌, ◌≢◌, ◌∙◌, ◌<◌, true, false, length, get_or, Less}
use Rattle.std.proofs.Common.{sym, ap, subst, arith}
use Rattle.std.proofs.lemmas.List.{get_or_read}
use Rattle.tv_blur.specs.Names.{name_cmp}
use Rattle.tv_blur.specs.Classes.{class_at}
use Rattle.tv_blur.specs.Naming.{class_name, canonical_name_in}
use Rattle.tv_blur.proofs.Gathered.{first_within, search_above, search_below}
use Rattle.tv_blur.proofs.classes.place_for.Goals as goal

pub is_below-requires-clause-one : goal.is_below-requires-clause-one
is_below-requires-clause-one c =
    let middle : ℕ = c.next_look-middle.result
    in let lt : middle < length c.args.classes.now = omega (arith, c.loop-low.invariant.1, c.next_look-middle.ensures.below)
    in let members : c.index-classes-middle.result ≡ class_at c.args.classes.now middle
    = get_or_read c.args.classes.now middle c.index-classes-middle.result lt c.index-classes-middle.is []
    in omega (
      arith,
      c.first.ensures,
      (first_within c.args.names.now c.args.u c.args.classes.now middle c.index-classes-middle.result c.requires.gathered lt
          members).1,
      c.requires.individual,
    )

pub loop-low-preserved-then-is_below : goal.loop-low-preserved-then-is_below
loop-low-preserved-then-is_below c =
    let middle : ℕ = c.next_look-middle.result
    in let lt : middle < length c.args.classes.now = omega (arith, c.loop-low.invariant.1, c.next_look-middle.ensures.below)
    in let first : c.first.result ≡ get_or (class_at c.args.classes.now middle) 0 0
    = c.first.ensures
    ∙ ap (λ xs. get_or xs 0 0)
    (get_or_read c.args.classes.now middle c.index-classes-middle.result lt c.index-classes-middle.is [])
    in let less : name_cmp (class_name c.args.names.now c.args.classes.now middle) (canonical_name_in c.args.names.now c.args.u) ≡ Less
    = subst (λ v. name_cmp (canonical_name_in c.args.names.now v) (canonical_name_in c.args.names.now c.args.u) ≡ Less) first
    (c.is_below.ensures.0 c.if-is_below.true)
    in (
      omega (arith, c.next_look-middle.ensures.below),
      c.loop-low.invariant.1,
      search_below c.args.names.now c.args.u c.args.classes.now c.args.u middle c.requires.gathered lt less,
      c.loop-low.invariant.3,
    )

pub loop-low-preserved : goal.loop-low-preserved
loop-low-preserved c =
    let middle : ℕ = c.next_look-middle.result
    in let lt : middle < length c.args.classes.now = omega (arith, c.loop-low.invariant.1, c.next_look-middle.ensures.below)
    in let first : c.first.result ≡ get_or (class_at c.args.classes.now middle) 0 0
    = c.first.ensures
    ∙ ap (λ xs. get_or xs 0 0)
    (get_or_read c.args.classes.now middle c.index-classes-middle.result lt c.index-classes-middle.is [])
    in let not_less : name_cmp (class_name c.args.names.now c.args.classes.now middle) (canonical_name_in c.args.names.now c.args.u) ≢ Less
    = λ less.
    let is : c.is_below.result ≡ true
    = c.is_below.ensures.1
    (subst (λ v. name_cmp (canonical_name_in c.args.names.now v) (canonical_name_in c.args.names.now c.args.u) ≡ Less) (sym first) less)
    in let f : true ≡ false = sym is ∙ c.if-is_below.false
    in cc
    in (
      c.next_look-middle.ensures.from,
      omega (arith, c.loop-low.invariant.1, c.next_look-middle.ensures.below),
      c.loop-low.invariant.2,
      search_above c.args.names.now c.args.u c.args.classes.now c.args.u middle c.requires.gathered not_less,
    )
