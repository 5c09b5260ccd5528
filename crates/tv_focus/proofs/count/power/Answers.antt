use Rattle.std.proofs.Common.{ℕ, ◌≡◌, ◌<◌, ◌≤◌, ◌^◌, refl, arith}
use Rattle.std.proofs.lemmas.Nat.{one_shl}
use Rattle.std.proofs.Math.Nat.{pow-le-pow_right}
use Rattle.tv_focus.proofs.count.power.Goals as goal

small : (n : ℕ) → n < 13 → 2 ^ n ≤ 2 ^ 12
small n lt = pow-le-pow_right {n = 2} (omega arith) {i = n} {j = 12} (omega arith)

large : (n : ℕ) → 13 ≤ n → 2 ^ 13 ≤ 2 ^ n
large n le = pow-le-pow_right {n = 2} (omega arith) {i = 13} {j = n} le

pub returns-then-half-lt13 : goal.returns-then-half-lt13
returns-then-half-lt13 c =
    let h : 2 ^ c.args.half ≤ 2 ^ 12 = small c.args.half c.if-half-lt13.true
    in let known : 2 ^ 12 ≡ 4096 = refl
    in omega (arith, one_shl c.args.half 32 (omega arith))

pub returns-else-half-lt13 : goal.returns-else-half-lt13
returns-else-half-lt13 c =
    let h : 2 ^ 13 ≤ 2 ^ c.args.half = large c.args.half c.if-half-lt13.false
    in let known : 2 ^ 13 ≡ 8192 = refl
    in omega arith
