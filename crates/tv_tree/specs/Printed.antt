-- The text of a program: its tokens in order, line by line.
use Rattle.std.specs.Prelude.{ℕ, ◌-◌, List, [], ◌∷◌, ◌++◌, Option, Some, None, take, length, codes, map}
use Rattle.std.specs.List.{flat_map}
use Rattle.tv_tree.specs.Forms.{NameForm, SetForm, SNamed, SMembers, SParen, SPlus, SMinus, Form, FZero, FOne}
use Rattle.tv_tree.specs.Forms.{FHalf, FSame, FDiffer, FAtom, FStar, FPlus, FParen, FNot, FAnd, FOr, FImp}
use Rattle.tv_tree.specs.Forms.{FIff, FCond, FExists, FForall, FTc, PredForm, Nest, Single, Foreach, Nests}
use Rattle.tv_tree.specs.Forms.{no_nest, with_nest, DeclForm, DSet, DPred, DRule, PieceForm, Quoted, Spelled}
use Rattle.tv_tree.specs.Forms.{UpdateForm, PartForm, PCaption, PFocus, PPre, PMessage, PNew, PRetain, PBlock}
use Rattle.tv_tree.specs.Forms.{ActionForm, EdgeForm, ProgramForm}
use Rattle.tv_tree.specs.declared.trees.SetSign.{SetSign}
use Rattle.tv_tree.specs.declared.trees.SetSign.TheVariants as sign
use Rattle.tv_tree.specs.declared.trees.PropWord.{PropWord}
use Rattle.tv_tree.specs.declared.trees.PropWord.TheVariants.{Unique, Function, Invfunction, Abs, Nonabs}
use Rattle.tv_tree.specs.declared.trees.PropWord.TheVariants.{Transitive, Reflexive, Symmetric, Boxed}
use Rattle.tv_tree.specs.declared.trees.PropWord.TheVariants.{Pointer}

-- items behind the first one, each with a mark before it
abbrev pub more_tokens : {T : Type 0} → List ℕ → (T → List (List ℕ)) → List T → List (List ℕ)
more_tokens mark tokens [] = []
more_tokens mark tokens (x ∷ xs) = mark ∷ (tokens x ++ more_tokens mark tokens xs)

-- items with a mark between them
abbrev pub joined_tokens : {T : Type 0} → List ℕ → (T → List (List ℕ)) → List T → List (List ℕ)
joined_tokens mark tokens [] = []
joined_tokens mark tokens (x ∷ xs) = tokens x ++ more_tokens mark tokens xs

abbrev pub one_token : List ℕ → List (List ℕ)
one_token w = w ∷ []

-- words with commas between them
abbrev pub words_tokens : List (List ℕ) → List (List ℕ)
words_tokens xs = joined_tokens (codes ",") one_token xs

abbrev pub params_tokens : List (List ℕ) → List (List ℕ)
params_tokens xs = codes "(" ∷ (words_tokens xs ++ codes ")" ∷ [])

abbrev pub brackets_tokens : List (List ℕ) → List (List ℕ)
brackets_tokens [] = []
brackets_tokens (x ∷ xs) = codes "[" ∷ (words_tokens (x ∷ xs) ++ codes "]" ∷ [])

abbrev pub name_tokens : NameForm → List (List ℕ)
name_tokens n = n.first ∷ brackets_tokens n.brackets

abbrev pub sign_token : SetSign → List ℕ
sign_token sign.Plus = codes "+"
sign_token sign.Minus = codes "-"

abbrev pub set_tokens : SetForm → List (List ℕ)
set_tokens (SNamed s) = s ∷ []
set_tokens (SMembers xs) = codes "{" ∷ (words_tokens xs ++ codes "}" ∷ [])
set_tokens (SParen s) = codes "(" ∷ (set_tokens s ++ codes ")" ∷ [])
set_tokens (SPlus s t) = set_tokens s ++ codes "+" ∷ set_tokens t
set_tokens (SMinus s t) = set_tokens s ++ codes "-" ∷ set_tokens t

-- the further sets of an expression, each behind its sign
abbrev pub steps_tokens : List (SetSign × SetForm) → List (List ℕ)
steps_tokens [] = []
steps_tokens ((s, t) ∷ more) = sign_token s ∷ (set_tokens t ++ steps_tokens more)

abbrev pub pair_tokens : List ℕ → List ℕ → List (List ℕ)
pair_tokens v w = codes "(" ∷ v ∷ codes "," ∷ w ∷ codes ")" ∷ []

abbrev pub formula_tokens : Form → List (List ℕ)
formula_tokens FZero = codes "0" ∷ []
formula_tokens FOne = codes "1" ∷ []
formula_tokens FHalf = codes "1/2" ∷ []
formula_tokens (FSame v w) = v ∷ codes "==" ∷ w ∷ []
formula_tokens (FDiffer v w) = v ∷ codes "!=" ∷ w ∷ []
formula_tokens (FAtom n xs) = name_tokens n ++ params_tokens xs
formula_tokens (FStar n v w) = name_tokens n ++ codes "*" ∷ pair_tokens v w
formula_tokens (FPlus n v w) = name_tokens n ++ codes "+" ∷ pair_tokens v w
formula_tokens (FParen f) = codes "(" ∷ (formula_tokens f ++ codes ")" ∷ [])
formula_tokens (FNot f) = codes "!" ∷ formula_tokens f
formula_tokens (FAnd f g) = formula_tokens f ++ codes "&" ∷ formula_tokens g
formula_tokens (FOr f g) = formula_tokens f ++ codes "|" ∷ formula_tokens g
formula_tokens (FImp f g) = formula_tokens f ++ codes "->" ∷ formula_tokens g
formula_tokens (FIff f g) = formula_tokens f ++ codes "<->" ∷ formula_tokens g
formula_tokens (FCond f g h) =
    formula_tokens f ++ codes "?" ∷ (formula_tokens g ++ codes ":" ∷ formula_tokens h)
formula_tokens (FExists xs f) = codes "E" ∷ (params_tokens xs ++ formula_tokens f)
formula_tokens (FForall xs f) = codes "A" ∷ (params_tokens xs ++ formula_tokens f)
formula_tokens (FTc from to left right f) =
    codes "TC" ∷ (pair_tokens from to ++ (pair_tokens left right ++ formula_tokens f))

abbrev pub prop_token : PropWord → List ℕ
prop_token Unique = codes "unique"
prop_token Function = codes "function"
prop_token Invfunction = codes "invfunction"
prop_token Abs = codes "abs"
prop_token Nonabs = codes "nonabs"
prop_token Transitive = codes "transitive"
prop_token Reflexive = codes "reflexive"
prop_token Symmetric = codes "symmetric"
prop_token Boxed = codes "box"
prop_token Pointer = codes "pointer"

-- what stands between a predicate's parameters and its properties
abbrev pub body_tokens : Option Form → List (List ℕ)
body_tokens None = []
body_tokens (Some f) = codes "=" ∷ formula_tokens f

abbrev pub pred_directive : Option Form → List ℕ
pred_directive None = codes "%p"
pred_directive (Some f) = codes "%i"

abbrev pub pred_tokens : PredForm → List (List ℕ)
pred_tokens d =
    pred_directive d.body
    ∷ (name_tokens d.name ++ (params_tokens d.params ++ (body_tokens d.body ++ map prop_token d.props)))

abbrev pub set_decl_tokens : List ℕ → SetForm → List (List ℕ)
set_decl_tokens name members = codes "%s" ∷ name ∷ set_tokens members

abbrev pub rule_tokens : Form → Form → List (List ℕ)
rule_tokens f g = codes "%r" ∷ (formula_tokens f ++ codes "==>" ∷ formula_tokens g)

-- the tokens from `foreach` to its brace
abbrev pub foreach_tokens : List ℕ → SetForm → List (List ℕ)
foreach_tokens var members =
    codes "foreach" ∷ codes "(" ∷ var ∷ codes "in" ∷ (set_tokens members ++ codes ")" ∷ codes "{" ∷ [])

-- a line of one token
abbrev pub lone : List ℕ → List (List (List ℕ))
lone w = (w ∷ []) ∷ []

-- each in one line, and those of a foreach between the lines of its braces
abbrev mutual
  pub nest_lines : {X : Type 0} → (X → List (List ℕ)) → Nest X → List (List (List ℕ))
  nest_lines tokens (Single x) = tokens x ∷ []
  nest_lines tokens (Foreach var members body) =
      foreach_tokens var members ∷ (nests_lines tokens body ++ lone (codes "}"))

  pub nests_lines : {X : Type 0} → (X → List (List ℕ)) → Nests X → List (List (List ℕ))
  nests_lines tokens no_nest = []
  nests_lines tokens (with_nest d ds) = nest_lines tokens d ++ nests_lines tokens ds

abbrev pub decl_tokens : DeclForm → List (List ℕ)
decl_tokens (DSet name members) = set_decl_tokens name members
decl_tokens (DPred d) = pred_tokens d
decl_tokens (DRule f g) = rule_tokens f g

abbrev pub piece_tokens : PieceForm → List (List ℕ)
piece_tokens (Quoted s) = (codes "\"" ++ s ++ codes "\"") ∷ []
piece_tokens (Spelled s) = s ∷ []

abbrev pub pieces_tokens : List PieceForm → List (List ℕ)
pieces_tokens ps = joined_tokens (codes "+") piece_tokens ps

abbrev pub update_tokens : UpdateForm → List (List ℕ)
update_tokens u = name_tokens u.name ++ (params_tokens u.params ++ codes "=" ∷ formula_tokens u.body)

abbrev pub part_lines : PartForm → List (List (List ℕ))
part_lines (PCaption ps) = (codes "%t" ∷ pieces_tokens ps) ∷ []
part_lines (PFocus fs) =
    (codes "%f" ∷ codes "{" ∷ (joined_tokens (codes ",") formula_tokens fs ++ codes "}" ∷ [])) ∷ []
part_lines (PPre f) = (codes "%p" ∷ formula_tokens f) ∷ []
part_lines (PMessage f ps) = (codes "%message" ∷ (formula_tokens f ++ codes "->" ∷ pieces_tokens ps)) ∷ []
part_lines PNew = lone (codes "%new")
part_lines (PRetain f) = (codes "%retain" ∷ formula_tokens f) ∷ []
part_lines (PBlock us) = lone (codes "{") ++ nests_lines update_tokens us ++ lone (codes "}")

abbrev pub action_tokens : List ℕ → List (List ℕ) → List (List ℕ)
action_tokens name params = codes "%action" ∷ name ∷ (params_tokens params ++ codes "{" ∷ [])

abbrev pub action_lines : ActionForm → List (List (List ℕ))
action_lines a = action_tokens a.name a.params ∷ (flat_map part_lines a.parts ++ lone (codes "}"))

abbrev pub edge_tokens : EdgeForm → List (List ℕ)
edge_tokens e = e.from ∷ e.action ∷ (params_tokens e.arguments ++ e.to ∷ [])

abbrev pub edge_lines : EdgeForm → List (List (List ℕ))
edge_lines e = edge_tokens e ∷ []

-- the words behind a third `%%`, in one line if there are any
abbrev pub tail_words : List (List ℕ) → List (List (List ℕ))
tail_words [] = []
tail_words (x ∷ xs) = words_tokens (x ∷ xs) ∷ []

abbrev pub tail_lines : Option (List (List ℕ)) → List (List (List ℕ))
tail_lines None = []
tail_lines (Some xs) = lone (codes "%%") ++ tail_words xs

abbrev pub program_lines : ProgramForm → List (List (List ℕ))
program_lines t =
    nests_lines decl_tokens t.decls ++ lone (codes "%%") ++ flat_map action_lines t.actions ++ lone
    (codes "%%") ++ flat_map edge_lines t.edges ++ tail_lines t.tail

-- tokens with a space behind each
unfoldable pub spaced : List (List ℕ) → List ℕ
spaced [] = []
spaced (w ∷ ws) = w ++ codes " " ++ spaced ws

-- a text with a line feed in place of its last byte
unfoldable pub ended : List ℕ → List ℕ
ended text = take (length text - 1) text ++ codes "\n"

-- a line: a space behind each token, but a line feed behind the last
unfoldable pub line_text : List (List ℕ) → List ℕ
line_text ws = ended (spaced ws)

-- lines one after the other
unfoldable pub text_of_lines : List (List (List ℕ)) → List ℕ
text_of_lines [] = []
text_of_lines (ws ∷ lines) = line_text ws ++ text_of_lines lines

-- the text of a program
abbrev pub program_text : ProgramForm → List ℕ
program_text t = text_of_lines (program_lines t)
