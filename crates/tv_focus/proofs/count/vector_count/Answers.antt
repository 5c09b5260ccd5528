use Rattle.std.proofs.Common.{◌≡◌, ◌≤◌, ◌^◌, refl, arith}
use Rattle.std.proofs.Math.Nat.{pow-le-pow_right}
use Rattle.tv_focus.proofs.count.vector_count.Goals as goal

pub returns-then-summary-clause-most : goal.returns-then-summary-clause-most
returns-then-summary-clause-most c =
    let few : 2 ^ c.args.half ≤ 2 ^ 3
    = pow-le-pow_right {n = 2} (omega arith) {i = c.args.half} {j = 3} (c.requires c.if-summary.true)
    in let known : 2 ^ 3 ≡ 8 = refl
    in omega (arith, c.power.ensures)
