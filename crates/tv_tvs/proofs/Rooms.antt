-- Texts put into room.
use Rattle.std.proofs.Common.{ℕ, ◌≡◌, ◌+◌, ◌-◌, ◌≤◌, ◌<◌, List, ◌++◌, length, take, sym, ap, ◌∙◌, arith}
use Rattle.std.proofs.Common.{get_or, map}
use Rattle.std.proofs.Common.{length-take-le, append_assoc}
use Rattle.std.specs.List.{range_with_len}
use Rattle.std.proofs.lemmas.List.{take-take, take-append-le, length-append}
use Rattle.std.proofs.Math.Seq.{take-append-add, take-append_seam}
use Rattle.std.proofs.lemmas.List.FromFn.{get_or-map-range_with_len}
use Rattle.tv_tvs.specs.Rows.{IsPlaced}

-- behind the bytes that stay, so many of those that were stored
pub kept_and : (old stored : List ℕ) (at size : ℕ) → at ≤ length old
    → take (at + size) (take at old ++ stored) ≡ take at old ++ take size stored
kept_and old stored at size within =
    ap (λ n. take (n + size) (take at old ++ stored)) (sym (length-take-le at old within))
    ∙ take-append-add (take at old) stored size

-- the same of bytes that were stored in a part of a vector
pub kept_then : (bytes stored more tail : List ℕ) (end count len : ℕ) → end ≤ length bytes → count ≤ length stored
    → end + count ≤ len
    → take (end + count) (take len ((take end bytes ++ (stored ++ more)) ++ tail)) ≡ take end bytes ++ take count stored
kept_then bytes stored more tail end count len within few fits =
    let put = take end bytes ++ (stored ++ more)
    in let long : end + count ≤ length put = omega (
      arith,
      length-append (take end bytes) (stored ++ more),
      length-append stored more,
      length-take-le end bytes within,
      few,
    )
    in take-take (end + count) len (put ++ tail) fits ∙ take-append-le (end + count) put tail long
    ∙ kept_and bytes (stored ++ more) end count within ∙ ap (λ t. take end bytes ++ t) (take-append-le count stored more few)

-- of eight bytes that were stored the first ones count
pub placed : (old new bytes : List ℕ) (at size : ℕ) → size ≤ 8 → at ≤ length old
    → take (at + 8) new ≡ take at old ++ bytes → take (at + size) new ≡ take at old ++ take size bytes
placed old new bytes at size le within stored =
    sym (take-take (at + size) (at + 8) new (omega (arith, le))) ∙ ap (take (at + size)) stored
    ∙ kept_and old bytes at size within

-- two texts, one behind the other
pub placed_behind : (old mid new a b : List ℕ) (at middle end : ℕ) → IsPlaced old mid at a middle
    → IsPlaced mid new middle b end → IsPlaced old new at (a ++ b) end
placed_behind old mid new a b at middle end first second = record {
  bytes = second.bytes ∙ ap (λ t. t ++ b) first.bytes ∙ append_assoc (take at old) a b;
  moved = omega (arith, first.moved, second.moved, length-append a b);
  length = second.length ∙ first.length;
}

-- a text without its end
pub placed_less : (old new a b : List ℕ) (at end : ℕ) → at ≤ length old → IsPlaced old new at (a ++ b) end
    → IsPlaced old new at a (end - length b)
placed_less old new a b at end within whole =
    let less : end - length b ≡ at + length a = omega (arith, whole.moved, length-append a b)
    in record {
      bytes = ap (λ n. take n new) less
          ∙ sym (take-take (at + length a) end new (omega (arith, whole.moved, length-append a b)))
          ∙ ap (take (at + length a)) whole.bytes ∙ kept_and old (a ++ b) at (length a) within
          ∙ ap (λ t. take at old ++ t) (take-append_seam a b);
      moved = less;
      length = whole.length;
    }

-- the texts of individuals
pub text_at : (f : ℕ → List ℕ) (texts : List (List ℕ)) (u : ℕ) (d : List ℕ) → texts ≡ map f (range_with_len 0 256) → u < 256
    → get_or texts u d ≡ f u
text_at f texts u d all few =
    ap (λ ts. get_or ts u d) all ∙ get_or-map-range_with_len f 0 256 u u d (omega (arith, few)) (omega arith)
