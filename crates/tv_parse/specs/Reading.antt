-- How programs are read, as functions on lists of tokens, with bounds on the turns and the depth. That they
-- read the grammar is proved.
use Rattle.std.specs.Prelude.{ℕ, zero, suc, ◌+◌, List, [], ◌∷◌, ◌++◌, Bool, length, Option, Some, None}
use Rattle.std.specs.Prelude.{if◌then◌else◌, codes}
use Rattle.tv_lex.specs.Token.{SpecToken}
use Rattle.tv_phrases.specs.Reading.{Reading, taken, ◌>>=◌, choose}
use Rattle.tv_phrases.specs.Tokens.{after, first, identifier_item, word_item, text_item}
use Rattle.tv_phrases.specs.Lists.{params, name, optional_list, optional_list_in}
use Rattle.tv_phrases.specs.declared.kinds.Brackets.TheVariants as brackets
use Rattle.tv_phrases.specs.declared.kinds.Item.TheVariants as item
use Rattle.tv_formula.specs.Grammar.{name_form}
use Rattle.tv_formula.specs.Reading.{formula_reading}
use Rattle.tv_tree.specs.Forms.{NameForm, SetForm, SNamed, SMembers, SParen, SPlus, SMinus, Form, Nest}
use Rattle.tv_tree.specs.Forms.{Single, Foreach, DeclForm, DSet, DPred, DRule, PieceForm, Quoted, Spelled}
use Rattle.tv_tree.specs.Forms.{UpdateForm, PartForm, PCaption, PFocus, PPre, PMessage, PNew, PRetain, PBlock}
use Rattle.tv_tree.specs.Forms.{ActionForm, EdgeForm, ProgramForm}
use Rattle.tv_tree.specs.Copies.{nests}
use Rattle.tv_tree.specs.declared.trees.PropWord.{PropWord}
use Rattle.tv_tree.specs.declared.trees.SetSign.{SetSign}
use Rattle.tv_tree.specs.declared.trees.SetSign.TheVariants as sign
use Rattle.tv_parse.specs.declared.kinds.DeclKind.{DeclKind}
use Rattle.tv_parse.specs.declared.kinds.DeclKind.TheVariants as decl
use Rattle.tv_parse.specs.declared.kinds.PartKind.{PartKind}
use Rattle.tv_parse.specs.declared.kinds.PartKind.TheVariants as part
use Rattle.tv_parse.specs.Kinds.{decl_kind, part_kind, prop_item, begins_decl, begins_update, begins_formula}
use Rattle.tv_parse.specs.Kinds.{may_follow}
use Rattle.tv_phrases.specs.Repeated.{begins_with}
use Rattle.tv_parse.specs.Grammar.{begins_prop, begins_edge}
use Rattle.tv_phrases.specs.Repeated.{with_first, turn, all_of, separated}

-- a whole set, or what may stand behind this one
pub data SetPart : Type 0 where
  AllSets : SetPart
  Further : SetForm → SetPart

abbrev pub SetReader : Type 0
SetReader = SetPart → List SpecToken → Reading SetForm

unfoldable pub set_name : List SpecToken → Reading SetForm
set_name ts = first identifier_item ts >>= λ w. taken (SNamed w.0) w.1

unfoldable pub set_members : List SpecToken → Reading SetForm
set_members ts = optional_list_in brackets.Curly item.Identifier ts >>= λ xs. taken (SMembers xs.0) xs.1

unfoldable pub set_paren : SetReader → List SpecToken → Reading SetForm
set_paren read ts = read AllSets ts >>= λ s. after (codes ")") s.1 >>= λ rest. taken (SParen s.0) rest

unfoldable pub set_plain : List SpecToken → Reading SetForm
set_plain ts = if begins_with (codes "{") ts then set_members ts else set_name ts

unfoldable pub set_term : SetReader → List SpecToken → Reading SetForm
set_term read ts = choose (after (codes "(") ts) (set_plain ts) (set_paren read)

abbrev pub signed : SetSign → SetForm → SetForm → SetForm
signed sign.Plus s t = SPlus s t
signed sign.Minus s t = SMinus s t

-- the sign in front, if there is one
unfoldable pub set_sign : List SpecToken → Option (SetSign × List SpecToken)
set_sign ts =
    choose (after (codes "+") ts) (choose (after (codes "-") ts) None (taken sign.Minus)) (taken sign.Plus)

unfoldable pub set_behind : SetReader → SetForm → List SpecToken → Reading SetForm
set_behind read s ts =
    choose (set_sign ts) (taken s ts) (λ x. set_term read x.1 >>= λ t. read (Further (signed x.0 s t.0)) t.1)

unfoldable pub set_start : SetReader → List SpecToken → Reading SetForm
set_start read ts = set_term read ts >>= λ t. read (Further t.0) t.1

abbrev pub set_step : SetReader → SetReader
set_step read AllSets ts = set_start read ts
set_step read (Further s) ts = set_behind read s ts

unfoldable pub sets : ℕ → SetReader
sets zero p ts = None
sets (suc n) p ts = set_step (sets n) p ts

unfoldable pub set_reading : List SpecToken → Reading SetForm
set_reading ts = sets (length ts + 1) AllSets ts

-- from behind `foreach` to its brace
unfoldable pub head_reading : List SpecToken → Reading (List ℕ × SetForm)
head_reading ts = do
  us ← after (codes "(") ts
  var ← first identifier_item us
  vs ← after (codes "in") var.1
  s ← set_reading vs
  ws ← after (codes ")") s.1
  rest ← after (codes "{") ws
  taken (var.0, s.0) rest

-- what stands by itself
unfoldable pub lone : {X : Type 0} → Reading X → Reading (Nest X)
lone read = read >>= λ x. taken (Single x.0) x.1

unfoldable pub foreach_nest : {X : Type 0} → (List SpecToken → Reading (List (Nest X))) → List SpecToken
    → Reading (Nest X)
foreach_nest read ts = do
  head ← head_reading ts
  body ← read head.1
  rest ← after (codes "}") body.1
  taken (Foreach head.0.0 head.0.1 (nests body.0)) rest

unfoldable pub nest : {X : Type 0} → (List SpecToken → Reading X) → (List SpecToken → Reading (List (Nest X)))
    → List SpecToken → Reading (Nest X)
nest single read ts = choose (after (codes "foreach") ts) (lone (single ts)) (foreach_nest read)

-- those that stand in a row, by themselves or in a foreach
unfoldable pub rows : {X : Type 0} → (List SpecToken → Bool) → (List SpecToken → Reading X) → ℕ
    → List SpecToken → Reading (List (Nest X))
rows begins single zero ts = None
rows begins single (suc n) ts = turn begins (nest single (rows begins single n)) (rows begins single n) ts

-- a name with its parameters
unfoldable pub signature : List SpecToken → Reading (NameForm × List (List ℕ))
signature ts = name ts >>= λ n. params n.1 >>= λ xs. taken (name_form n.0, xs.0) xs.1

abbrev pub props_reading : List SpecToken → Reading (List PropWord)
props_reading ts = all_of begins_prop (first prop_item) ts

-- the tokens behind a mark that may stand there
abbrev pub skip : List ℕ → List SpecToken → List SpecToken
skip mark ts = choose (after mark ts) ts (λ us. us)

unfoldable pub set_decl : List SpecToken → Reading DeclForm
set_decl ts =
    first identifier_item ts >>= λ w. set_reading (skip (codes "=") w.1) >>= λ s. taken (DSet w.0 s.0) s.1

unfoldable pub core_decl : List SpecToken → Reading DeclForm
core_decl ts =
    signature ts >>= λ n. props_reading n.1 >>= λ ps. taken
    (DPred (record { name = n.0.0; params = n.0.1; body = None; props = ps.0 })) ps.1

unfoldable pub defined_decl : List SpecToken → Reading DeclForm
defined_decl ts = do
  n ← signature ts
  us ← after (codes "=") n.1
  f ← formula_reading us
  ps ← props_reading f.1
  taken (DPred (record { name = n.0.0; params = n.0.1; body = Some f.0; props = ps.0 })) ps.1

unfoldable pub rule_decl : List SpecToken → Reading DeclForm
rule_decl ts =
    formula_reading ts >>= λ f. after (codes "==>") f.1 >>= λ us. formula_reading us >>= λ g. taken
    (DRule f.0 g.0) g.1

abbrev pub decl_behind : DeclKind → List SpecToken → Reading DeclForm
decl_behind decl.Set ts = set_decl ts
decl_behind decl.Core ts = core_decl ts
decl_behind decl.Defined ts = defined_decl ts
decl_behind decl.Rule ts = rule_decl ts

unfoldable pub decl_reading : List SpecToken → Reading DeclForm
decl_reading ts = first decl_kind ts >>= λ k. decl_behind k.0 k.1

abbrev pub decl_rows : ℕ → List SpecToken → Reading (List (Nest DeclForm))
decl_rows n ts = rows begins_decl decl_reading n ts

unfoldable pub update_reading : List SpecToken → Reading UpdateForm
update_reading ts = do
  n ← signature ts
  us ← after (codes "=") n.1
  f ← formula_reading us
  taken (record { name = n.0.0; params = n.0.1; body = f.0 }) f.1

abbrev pub update_rows : ℕ → List SpecToken → Reading (List (Nest UpdateForm))
update_rows n ts = rows begins_update update_reading n ts

unfoldable pub piece_reading : List SpecToken → Reading PieceForm
piece_reading ts =
    choose (first text_item ts) (first identifier_item ts >>= λ w. taken (Spelled w.0) w.1)
    (λ s. taken (Quoted s.0) s.1)

abbrev pub pieces_reading : List SpecToken → Reading (List PieceForm)
pieces_reading ts = separated (codes "+") piece_reading ts

unfoldable pub formulas_reading : List SpecToken → Reading (List Form)
formulas_reading ts = if begins_formula ts then separated (codes ",") formula_reading ts else taken [] ts

unfoldable pub caption_part : List SpecToken → Reading PartForm
caption_part ts = pieces_reading ts >>= λ ps. taken (PCaption ps.0) ps.1

unfoldable pub focus_part : List SpecToken → Reading PartForm
focus_part ts =
    after (codes "{") ts >>= λ us. formulas_reading us >>= λ fs. after (codes "}") fs.1 >>= λ rest. taken
    (PFocus fs.0) rest

-- a formula, made into a part
unfoldable pub formula_part : (Form → PartForm) → List SpecToken → Reading PartForm
formula_part make ts = formula_reading ts >>= λ f. taken (make f.0) f.1

unfoldable pub message_part : List SpecToken → Reading PartForm
message_part ts = do
  f ← formula_reading ts
  us ← after (codes "->") f.1
  text ← first text_item us
  ps ← pieces_reading us
  taken (PMessage f.0 ps.0) ps.1

unfoldable pub block_part : List SpecToken → Reading PartForm
block_part ts =
    update_rows (length ts + 1) ts >>= λ us. after (codes "}") us.1 >>= λ rest. taken
    (PBlock (nests us.0)) rest

abbrev pub part_behind : PartKind → List SpecToken → Reading PartForm
part_behind part.Caption ts = caption_part ts
part_behind part.Focus ts = focus_part ts
part_behind part.Pre ts = formula_part PPre ts
part_behind part.Message ts = message_part ts
part_behind part.New ts = taken PNew ts
part_behind part.Retain ts = formula_part PRetain ts
part_behind part.Block ts = block_part ts

-- one turn of the parts behind others
unfoldable pub part_turn : List PartForm → (List PartForm → List SpecToken → Reading (List PartForm))
    → List SpecToken → Reading (List PartForm)
part_turn before read ts =
    choose (first part_kind ts) (taken [] ts)
    (λ k. if may_follow before k.0
    then (part_behind k.0 k.1 >>= λ p. with_first p.0 (read (before ++ p.0 ∷ []) p.1)) else None)

unfoldable pub parts : ℕ → List PartForm → List SpecToken → Reading (List PartForm)
parts zero before ts = None
parts (suc n) before ts = part_turn before (parts n) ts

unfoldable pub action_reading : List SpecToken → Reading ActionForm
action_reading ts = do
  us ← after (codes "%action") ts
  w ← first identifier_item us
  xs ← params w.1
  vs ← after (codes "{") xs.1
  ps ← parts (length vs + 1) [] vs
  rest ← after (codes "}") ps.1
  taken (record { name = w.0; params = xs.0; parts = ps.0 }) rest

unfoldable pub edge_reading : List SpecToken → Reading EdgeForm
edge_reading ts = do
  from ← first word_item ts
  w ← first identifier_item from.1
  xs ← params w.1
  to ← first word_item xs.1
  taken (record { from = from.0; action = w.0; arguments = xs.0; to = to.0 }) to.1

abbrev pub actions_reading : List SpecToken → Reading (List ActionForm)
actions_reading ts = all_of (begins_with (codes "%action")) action_reading ts

abbrev pub edges_reading : List SpecToken → Reading (List EdgeForm)
edges_reading ts = all_of begins_edge edge_reading ts

-- a value, where nothing stands behind it
abbrev pub at_end : {X : Type 0} → X → List SpecToken → Option X
at_end x [] = Some x
at_end x (t ∷ ts) = None

unfoldable pub tail_reading : List SpecToken → Option (Option (List (List ℕ)))
tail_reading ts =
    choose (after (codes "%%") ts) (at_end None ts)
    (λ us. optional_list word_item us >>= λ ws. at_end (Some ws.0) ws.1)

-- the program of all the tokens
unfoldable pub program_reading : List SpecToken → Option ProgramForm
program_reading ts = do
  ds ← decl_rows (length ts + 1) ts
  us ← after (codes "%%") ds.1
  actions ← actions_reading us
  vs ← after (codes "%%") actions.1
  edges ← edges_reading vs
  tail ← tail_reading edges.1
  Some (record { decls = nests ds.0; actions = actions.0; edges = edges.0; tail = tail })
