-- There are never more calls than edges, and each edge is an item: so the number of a call is small.
use Rattle.std.proofs.Common.{◌≡◌, ℕ, ◌+◌, ◌-◌, ◌<◌, ◌≤◌, ◌&&◌, refl, ltb-true, Bool, true, false, not, cond}
use Rattle.std.proofs.Common.{List, [], ◌∷◌, ◌++◌, length, subst, ap, Result, Ok, Err, Bor, arith}
use Rattle.std.specs.Prelude.{◌==◌, nat_lt, nat_le}
use Rattle.std.specs.List.{list_any, zip, position_or_len}
use Rattle.std.specs.Global.{Vec}
use Rattle.std.proofs.lemmas.List.{length_push, length-map}
use Rattle.tv_tree.specs.Forms.{ActionForm, EdgeForm}
use Rattle.tv_flat.specs.FlatForm.{FlatEdgeForm}
use Rattle.tv_flat.specs.Replaced.{all_bound}
use Rattle.tv_expand.specs.declared.error.ExpandError.{ExpandError}
use Rattle.tv_expand.specs.declared.error.ExpandError.TheVariants.{ArgumentCount, TooManyItems}
use Rattle.tv_expand.specs.Outcome.{◌>>=◌, each}
use Rattle.tv_expand.specs.Sets.{Sets, known}
use Rattle.tv_expand.specs.Expansion.{Room, counted, Gathered, gathered, Actions, find_action, same_call}
use Rattle.tv_expand.specs.Expansion.{Wired, made, with_call, called, with_edge, wired_to, wired}
use Rattle.tv_expand.specs.Expansion.{nothing_wired}
use Rattle.tv_expand.specs.declared.room.Room.{Room as RoomLeft}
use Rattle.tv_expand.specs.declared.wiring.Wired.{Wired as WiredSoFar}
use Rattle.tv_expand.specs.Views.{call_of, calls_of}
use Rattle.tv_expand.specs.States.{room_of, wired_of}
use Rattle.tv_expand.proofs.KeepLaws.{bind_ok}
use Rattle.tv_expand.proofs.LimitLaws.{called_takes, room_less}

-- a call makes one more at most, and gives no room back
called_less : (sets : Sets) (a : ActionForm) (arguments : List (List ℕ)) (w t : Wired) → called sets a arguments w ≡ Ok t → length t.calls + t.room.items ≤ length w.calls + w.room.items + 1
called_less sets a arguments w t h =
    let less = room_less (called sets a arguments) w t (called_takes sets a arguments w t h) h in
    by (list_any (same_call (a.name ∷ arguments)) w.calls) less h
  where
    by : (seen : Bool) → t.room.items ≤ w.room.items → cond {A = Result Wired ExpandError} seen (Ok w) (made sets a arguments (with_call (a.name ∷ arguments) w)) ≡ Ok t → length t.calls + t.room.items ≤ length w.calls + w.room.items + 1
    by true less k =
        let same : w ≡ t = cc in
        subst (λ (v : Wired). length v.calls + v.room.items ≤ length w.calls + w.room.items + 1) same (omega arith)
    by false less k =
        let step = gathered sets (all_bound [] (zip a.params arguments)) in
        let after : Gathered → Wired = λ s. record { calls = w.calls ++ (a.name ∷ arguments) ∷ []; actions = w.actions ++ s.parts ∷ []; edges = w.edges; room = s.room } in
        let got = bind_ok (each step a.parts (record { parts = []; room = w.room })) (λ s. Ok (after s)) t k in
        let same : w.calls ++ (a.name ∷ arguments) ∷ [] ≡ t.calls = cc (got.2) in
        let long = length_push w.calls (a.name ∷ arguments) in
        let longer = ap (λ (cs : List (List (List ℕ))). length cs) same in
        omega arith

one_counted : (room left : Room) → counted 0 room ≡ Ok left → left.items + 1 ≤ room.items
one_counted room left h = by (nat_lt 0 room.items) (nat_le 0 room.nodes) (ltb-true 0 room.items) h
  where
    by : (p q : Bool) → (p ≡ true → 0 < room.items) → cond {A = Result Room ExpandError} (p && q) (Ok (record { items = room.items - 1; nodes = room.nodes - 0 })) (Err TooManyItems) ≡ Ok left → left.items + 1 ≤ room.items
    by true true some k =
        let more : 0 < room.items = some refl in
        let items : room.items - 1 ≡ left.items = cc in
        omega arith
    by true false some k = cc
    by false q some k = cc

edge_less : (number : ℕ) (e : EdgeForm) (w t : Wired) → with_edge number e w ≡ Ok t → length t.calls + t.room.items + 1 ≤ length w.calls + w.room.items
edge_less number e w t h =
    let edge : FlatEdgeForm = record { from = e.from; action = number; to = e.to } in
    let after : Room → Wired = λ room. record { calls = w.calls; actions = w.actions; edges = w.edges ++ edge ∷ []; room = room } in
    let got = bind_ok (counted 0 w.room) (λ room. Ok (after room)) t h in
    let same : after got.0 ≡ t = cc (got.2) in
    let left = one_counted w.room got.0 got.1 in
    subst (λ (v : Wired). length v.calls + v.room.items + 1 ≤ length w.calls + w.room.items) same (omega arith)

-- the calls that were made and the items that may still come are never more than before
pub wired_less : (sets : Sets) (actions : Actions) (e : EdgeForm) (w t : Wired) → wired sets actions e w ≡ Ok t → length t.calls + t.room.items ≤ length w.calls + w.room.items
wired_less sets actions e w t h =
    let found = bind_ok (known (find_action actions e.action)) (λ a. wired_to sets a e w) t h in
    by found.0 (length e.arguments == length found.0.params) found.2
  where
    by : (a : ActionForm) → (fits : Bool) → cond {A = Result Wired ExpandError} fits (called sets a e.arguments w >>= with_edge (position_or_len (same_call (a.name ∷ e.arguments)) w.calls) e) (Err ArgumentCount) ≡ Ok t → length t.calls + t.room.items ≤ length w.calls + w.room.items
    by a true k =
        let got = bind_ok (called sets a e.arguments w) (with_edge (position_or_len (same_call (a.name ∷ e.arguments)) w.calls) e) t k in
        let first = called_less sets a e.arguments w got.0 got.1 in
        let last = edge_less (position_or_len (same_call (a.name ∷ e.arguments)) w.calls) e got.0 t got.2 in
        omega arith
    by a false k = cc

-- the number of a call is at most the number of calls so far
pub place_within : {X : Type 0} (test : X → Bool) (xs : List X) → position_or_len test xs ≤ length xs
place_within test [] = omega arith
place_within {X} test (x ∷ xs) = by (test x) (place_within test xs)
  where
    by : (t : Bool) → position_or_len test xs ≤ length xs → cond (not t) (1 + position_or_len test xs) 0 ≤ length (x ∷ xs)
    by true rest = omega arith
    by false rest = omega arith

pub begun_few : (w : WiredSoFar) (room : RoomLeft) → wired_of w ≡ nothing_wired (room_of room) → room.items ≤ 4294967295 → length w.calls.keys + w.room.items ≤ 4294967295
begun_few w room same small =
    let none = ap (λ (v : Wired). length v.calls) same in
    let left = ap (λ (v : Wired). v.room.items) same in
    let long = length-map w.calls.keys call_of in
    omega arith

pub wired_few : (sets : Sets) (actions : Actions) (e : EdgeForm) (w t : WiredSoFar) → wired sets actions e (wired_of w) ≡ Ok (wired_of t) → length w.calls.keys + w.room.items ≤ 4294967295 → length t.calls.keys + t.room.items ≤ 4294967295
wired_few sets actions e w t h few =
    let less = wired_less sets actions e (wired_of w) (wired_of t) h in
    let before = length-map w.calls.keys call_of in
    let after = length-map t.calls.keys call_of in
    omega arith

pub call_within : (test : List (List ℕ) → Bool) (ks : List (Vec (Bor (List ℕ)))) → position_or_len test (calls_of ks) ≤ length ks
call_within test ks = let within = place_within test (calls_of ks) in let long = length-map ks call_of in omega arith
