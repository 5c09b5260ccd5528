use Rattle.std.proofs.Common.{◌≡◌, ◌<◌, ◌-◌, Bool, true, false, length, refl}
use Rattle.std.specs.Bool.{OnFalse}
use Rattle.std.proofs.Math.Dec.{leb}
use Rattle.std.proofs.lemmas.Bool.{leb-false}
use Rattle.tv_embed.proofs.SearchLaws.{few_left}
use Rattle.tv_embed.proofs.search.may_reach_all.Goals as goal

on_false : {P : Type 0} (b : Bool) → (b ≡ false → P) → OnFalse b P
on_false true f = tt
on_false false f = f refl

pub returns : goal.returns
returns c =
    on_false (leb c.missing.result (c.size.result - length c.args.images.now))
    (λ e.
    let more : c.size.result - length c.args.images.now < c.missing.result
    = leb-false c.missing.result (c.size.result - length c.args.images.now) e
    in few_left c.args.small.now c.args.large.now c.args.images.now c.requires
    (rw (← c.missing.ensures, ← c.size.ensures.size) more))
