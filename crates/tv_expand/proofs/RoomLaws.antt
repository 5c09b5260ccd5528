-- Counting within the limits.
use Rattle.std.proofs.Common.{◌≡◌, ℕ, ◌-◌, ◌<◌, ◌≤◌, ◌^◌, min, Bool, true, false, cond, ◌&&◌, refl, arith}
use Rattle.std.proofs.Common.{Result, Ok, Err}
use Rattle.std.specs.Prelude.{nat_lt, nat_le}
use Rattle.std.proofs.lemmas.Bool.{lt-ltb, le-leb}
use Rattle.tv_expand.specs.Expansion.{Room, counted}
use Rattle.tv_expand.specs.declared.error.ExpandError.{ExpandError}
use Rattle.tv_expand.specs.declared.error.ExpandError.TheVariants.{TooManyItems}

pub room_enough : (n m : ℕ) (room : Room) → m ≡ min n 18446744073709551615 → room.nodes < 2 ^ 32 → m ≤ room.nodes → 0 < room.items → counted n room ≡ Ok (record { items = room.items - 1; nodes = room.nodes - m })
room_enough n m room same small fits some =
    let e : n ≡ m = omega arith in
    let a : nat_lt 0 room.items ≡ true = lt-ltb 0 room.items some in
    let b : nat_le m room.nodes ≡ true = le-leb m room.nodes fits in
    rw (e, a, b) refl

not_le : (m n : ℕ) → n < m → nat_le m n ≡ false
not_le m n less = grind (arith)

pub room_empty : (n : ℕ) (room : Room) → room.items ≡ 0 → counted n room ≡ Err TooManyItems
room_empty n room none = rw none refl

pub room_short : (n m : ℕ) (room : Room) → m ≡ min n 18446744073709551615 → room.nodes < m → counted n room ≡ Err TooManyItems
room_short n m room same less =
    let b : nat_le n room.nodes ≡ false = not_le n room.nodes (omega arith) in
    rw b (by (nat_lt 0 room.items))
  where
    by : (t : Bool) → cond {A = Result Room ExpandError} (t && false) (Ok (record { items = room.items - 1; nodes = room.nodes - n })) (Err TooManyItems) ≡ Err TooManyItems
    by true = refl
    by false = refl
