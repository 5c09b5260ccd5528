-- The texts of a demo are short.
use Rattle.std.proofs.Common.{◌≤◌, ◌+◌, ◌*◌, ◌++◌, ℕ, zero, suc, List, length, arith}
use Rattle.std.specs.Prelude.{codes, decimal}
use Rattle.std.proofs.lemmas.Fmt.{length-decimal-le_succ}
use Rattle.std.proofs.lemmas.List.{length-append}
use Rattle.tv_demo.specs.Texts.{numbered, variables_text, copy_text, test_text, next_text, end_text}
use Rattle.tv_demo.specs.Texts.{walk_text, walks_text, set_text, predicates_text, actions_text, program_text}
use Rattle.tv_demo.specs.Texts.{lists_text}

numbered_short : (text : List ℕ) (n : ℕ) → n ≤ 16 → length (numbered text n) ≤ length text + 17
unfolding numbered
numbered_short text n le = omega (arith, le, length-append text (decimal n), length-decimal-le_succ n (omega (arith, le)))

-- a text before another
both_short : (s t : List ℕ) (m n : ℕ) → length s ≤ m → length t ≤ n → length (s ++ t) ≤ m + n
both_short s t m n a b = omega (arith, a, b, length-append s t)

copy_short : (i j : ℕ) → i ≤ 16 → j ≤ 16 → length (copy_text i j) ≤ 100
unfolding copy_text
copy_short i j a b =
    let upto0 = both_short (numbered (codes "A") i) (numbered (codes " Copy_Var(y") j) (18) (28) (numbered_short (codes "A") i a) (numbered_short (codes " Copy_Var(y") j b) in
    let upto1 = both_short (numbered (codes "A") i ++ numbered (codes " Copy_Var(y") j) (numbered (codes ", x) B") i) (46) (23) upto0 (numbered_short (codes ", x) B") i a) in
    let upto2 = both_short (numbered (codes "A") i ++ numbered (codes " Copy_Var(y") j ++ numbered (codes ", x) B") i) (codes "\n") (69) (1) upto1 (omega arith) in
    omega (arith, upto2)

test_short : (i j : ℕ) → i ≤ 16 → j ≤ 16 → length (test_text i j) ≤ 100
unfolding test_text
test_short i j a b =
    let upto0 = both_short (numbered (codes "B") i) (numbered (codes " Is_Not_Null_Var(y") j) (18) (35) (numbered_short (codes "B") i a) (numbered_short (codes " Is_Not_Null_Var(y") j b) in
    let upto1 = both_short (numbered (codes "B") i ++ numbered (codes " Is_Not_Null_Var(y") j) (numbered (codes ") C") i) (53) (20) upto0 (numbered_short (codes ") C") i a) in
    let upto2 = both_short (numbered (codes "B") i ++ numbered (codes " Is_Not_Null_Var(y") j ++ numbered (codes ") C") i) (codes "\n") (73) (1) upto1 (omega arith) in
    omega (arith, upto2)

next_short : (i j : ℕ) → i ≤ 16 → j ≤ 16 → length (next_text i j) ≤ 120
unfolding next_text
next_short i j a b =
    let upto0 = both_short (numbered (codes "C") i) (numbered (codes " Get_Next_L(y") j) (18) (30) (numbered_short (codes "C") i a) (numbered_short (codes " Get_Next_L(y") j b) in
    let upto1 = both_short (numbered (codes "C") i ++ numbered (codes " Get_Next_L(y") j) (numbered (codes ", y") j) (48) (20) upto0 (numbered_short (codes ", y") j b) in
    let upto2 = both_short (numbered (codes "C") i ++ numbered (codes " Get_Next_L(y") j ++ numbered (codes ", y") j) (numbered (codes ") B") i) (68) (20) upto1 (numbered_short (codes ") B") i a) in
    let upto3 = both_short (numbered (codes "C") i ++ numbered (codes " Get_Next_L(y") j ++ numbered (codes ", y") j ++ numbered (codes ") B") i) (codes "\n") (88) (1) upto2 (omega arith) in
    omega (arith, upto3)

end_short : (i j : ℕ) → i ≤ 16 → j ≤ 16 → length (end_text i j) ≤ 100
unfolding end_text
end_short i j a b =
    let upto0 = both_short (numbered (codes "B") i) (numbered (codes " Is_Null_Var(y") j) (18) (31) (numbered_short (codes "B") i a) (numbered_short (codes " Is_Null_Var(y") j b) in
    let upto1 = both_short (numbered (codes "B") i ++ numbered (codes " Is_Null_Var(y") j) (numbered (codes ") A") j) (49) (20) upto0 (numbered_short (codes ") A") j b) in
    let upto2 = both_short (numbered (codes "B") i ++ numbered (codes " Is_Null_Var(y") j ++ numbered (codes ") A") j) (codes "\n") (69) (1) upto1 (omega arith) in
    omega (arith, upto2)

walk_short : (i j : ℕ) → i ≤ 16 → j ≤ 16 → length (walk_text i j) ≤ 420
walk_short i j a b =
    let upto0 = both_short (copy_text i j) (test_text i j) (100) (100) (copy_short i j a b) (test_short i j a b) in
    let upto1 = both_short (copy_text i j ++ test_text i j) (next_text i j) (200) (120) upto0 (next_short i j a b) in
    let upto2 = both_short (copy_text i j ++ test_text i j ++ next_text i j) (end_text i j) (320) (100) upto1 (end_short i j a b) in
    upto2

variables_short : (k : ℕ) → k ≤ 16 → length (variables_text k) ≤ k * 20
variables_short zero le = omega arith
variables_short (suc k) le =
    let before : length (variables_text k) ≤ k * 20 = variables_short k (omega (arith, le)) in
    let last : length (numbered (codes ", y") (suc k)) ≤ 20 = numbered_short (codes ", y") (suc k) le in
    let all = both_short (variables_text k) (numbered (codes ", y") (suc k)) (k * 20) 20 before last in
    omega (arith, all)

walks_short : (k : ℕ) → k ≤ 16 → length (walks_text k) ≤ k * 420
walks_short zero le = omega arith
walks_short (suc k) le =
    let before : length (walks_text k) ≤ k * 420 = walks_short k (omega (arith, le)) in
    let last : length (walk_text k (suc k)) ≤ 420 = walk_short k (suc k) (omega (arith, le)) le in
    let all = both_short (walks_text k) (walk_text k (suc k)) (k * 420) 420 before last in
    omega (arith, all)

predicates_short : length predicates_text ≤ 401
unfolding predicates_text
predicates_short = omega arith

actions_short : length actions_text ≤ 600
unfolding actions_text
actions_short = omega arith

pub lists_short : length lists_text ≤ 4194304
unfolding lists_text
lists_short = omega arith

pub program_short : (k : ℕ) → k ≤ 16 → length (program_text k) ≤ 4194304
program_short k le =
    let head : length (codes "%s PVar {x") ≤ 10 = omega arith in
    let close : length (codes "}\n") ≤ 2 = omega arith in
    let parts : length (codes "%%\n") ≤ 3 = omega arith in
    let begun = both_short (codes "%s PVar {x") (variables_text k) 10 (k * 20) head (variables_short k le) in
    let set = both_short (codes "%s PVar {x" ++ variables_text k) (codes "}\n") (10 + k * 20) 2 begun close in
    let upto0 = both_short (set_text k) (predicates_text) (10 + k * 20 + 2) (401) set predicates_short in
    let upto1 = both_short (set_text k ++ predicates_text) (codes "%%\n") (10 + k * 20 + 2 + 401) (3) upto0 parts in
    let upto2 = both_short (set_text k ++ predicates_text ++ codes "%%\n") (actions_text) (10 + k * 20 + 2 + 401 + 3) (600) upto1 actions_short in
    let upto3 = both_short (set_text k ++ predicates_text ++ codes "%%\n" ++ actions_text) (codes "%%\n") (10 + k * 20 + 2 + 401 + 3 + 600) (3) upto2 parts in
    let upto4 = both_short (set_text k ++ predicates_text ++ codes "%%\n" ++ actions_text ++ codes "%%\n") (walks_text k) (10 + k * 20 + 2 + 401 + 3 + 600 + 3) (k * 420) upto3 (walks_short k le) in
    omega (arith, upto4, le)
