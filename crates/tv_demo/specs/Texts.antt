-- The texts of the demonstration programs. Program `k` lets each of `k` variables walk, one after the other,
-- along a list whose head is at `x`.
use Rattle.std.specs.Prelude.{ℕ, zero, suc, List, [], ◌++◌, codes, decimal}

-- lists: a predicate for each variable, the field `n`, what is reached along it, and the rules of lists
-- without a cycle
unfoldable pub predicates_text : List ℕ
predicates_text =
    codes "foreach (z in PVar) {\n"
    ++ codes "  %p z(v_1) unique box\n"
    ++ codes "}\n"
    ++ codes "%p n(v_1, v_2) function\n"
    ++ codes "%i t[n](v_1, v_2) = n*(v_1, v_2) transitive reflexive\n"
    ++ codes "foreach (z in PVar) {\n"
    ++ codes "  %i r[n,z](v) = E(v_1) z(v_1) & t[n](v_1, v)\n"
    ++ codes "}\n"
    ++ codes "// Lists have no cycle.\n"
    ++ codes "%r t[n](v_1, v_2) ==> !n(v_2, v_1)\n"
    ++ codes "// What is reached from a cell, and isn't the cell, is reached from its successor.\n"
    ++ codes "%r n(v_1, v_2) & t[n](v_1, v_3) & v_1 != v_3 ==> t[n](v_2, v_3)\n"

-- what a program does that walks along a list
unfoldable pub actions_text : List ℕ
actions_text =
    codes "%action uninterpreted() {\n"
    ++ codes "  %t \"uninterpreted\"\n"
    ++ codes "}\n"
    ++ codes "%action Is_Not_Null_Var(lhs) {\n"
    ++ codes "  %t lhs + \" != NULL\"\n"
    ++ codes "  %f { lhs(v) }\n"
    ++ codes "  %p E(v) lhs(v)\n"
    ++ codes "}\n"
    ++ codes "%action Is_Null_Var(lhs) {\n"
    ++ codes "  %t lhs + \" == NULL\"\n"
    ++ codes "  %f { lhs(v) }\n"
    ++ codes "  %p !(E(v) lhs(v))\n"
    ++ codes "}\n"
    ++ codes "%action Copy_Var(lhs, rhs) {\n"
    ++ codes "  %t lhs + \" = \" + rhs\n"
    ++ codes "  %f { rhs(v) }\n"
    ++ codes "  {\n"
    ++ codes "    lhs(v) = rhs(v)\n"
    ++ codes "    r[n,lhs](v) = r[n,rhs](v)\n"
    ++ codes "  }\n"
    ++ codes "}\n"
    ++ codes "%action Get_Next_L(lhs, rhs) {\n"
    ++ codes "  %t lhs + \" = \" + rhs + \"->n\"\n"
    ++ codes "  %f { E(v_1) rhs(v_1) & n(v_1, v) }\n"
    ++ codes "  %message !(E(v) rhs(v)) -> \"null dereference of \" + rhs\n"
    ++ codes "  {\n"
    ++ codes "    lhs(v) = E(v_1) rhs(v_1) & n(v_1, v)\n"
    ++ codes "    r[n,lhs](v) = r[n,rhs](v) & !rhs(v)\n"
    ++ codes "  }\n"
    ++ codes "}\n"

-- one structure, which stands for all lists of two or more cells without a cycle
unfoldable pub lists_text : List ℕ
lists_text =
    codes "%n = {h, u}\n"
    ++ codes "%p = {\n"
    ++ codes "  x = {h}\n"
    ++ codes "  n = {h->u:1/2, u->u:1/2}\n"
    ++ codes "  t[n] = {h->h, h->u, u->u:1/2}\n"
    ++ codes "  r[n,x] = {h, u}\n"
    ++ codes "  sm = {u:1/2}\n"
    ++ codes "}\n"

-- the text, and the number behind it
unfoldable pub numbered : List ℕ → ℕ → List ℕ
numbered text n = text ++ decimal n

-- the variables `y1` to `yK`
abbrev pub variables_text : ℕ → List ℕ
variables_text zero = []
variables_text (suc k) = variables_text k ++ numbered (codes ", y") (suc k)

-- the edges of the walk of `yJ` along the list: to its head; on where there is a cell; to the next cell; and
-- out where there is none
unfoldable pub copy_text : (i j : ℕ) → List ℕ
copy_text i j =
    numbered (codes "A") i ++ numbered (codes " Copy_Var(y") j ++ numbered (codes ", x) B") i ++ codes "\n"

unfoldable pub test_text : (i j : ℕ) → List ℕ
test_text i j =
    numbered (codes "B") i ++ numbered (codes " Is_Not_Null_Var(y") j
    ++ numbered (codes ") C") i ++ codes "\n"

unfoldable pub next_text : (i j : ℕ) → List ℕ
next_text i j =
    numbered (codes "C") i ++ numbered (codes " Get_Next_L(y") j ++ numbered (codes ", y") j
    ++ numbered (codes ") B") i ++ codes "\n"

unfoldable pub end_text : (i j : ℕ) → List ℕ
end_text i j =
    numbered (codes "B") i ++ numbered (codes " Is_Null_Var(y") j ++ numbered (codes ") A") j ++ codes "\n"

-- the walk of `yJ` from node `AI` to node `AJ`
abbrev pub walk_text : (i j : ℕ) → List ℕ
walk_text i j = copy_text i j ++ test_text i j ++ next_text i j ++ end_text i j

-- the walks of `y1` to `yK`, one behind the other
abbrev pub walks_text : ℕ → List ℕ
walks_text zero = []
walks_text (suc k) = walks_text k ++ walk_text k (suc k)

-- the line of the variables
abbrev pub set_text : ℕ → List ℕ
set_text k = codes "%s PVar {x" ++ variables_text k ++ codes "}\n"

abbrev pub program_text : ℕ → List ℕ
program_text k =
    set_text k ++ predicates_text ++ codes "%%\n" ++ actions_text ++ codes "%%\n" ++ walks_text k
