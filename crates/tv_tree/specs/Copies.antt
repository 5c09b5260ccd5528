-- The plain data that each tree of the code stands for.
use Rattle.std.specs.Prelude.{ℕ, List, [], ◌∷◌, Option, Some, None, map}
use Rattle.tv_tree.specs.Forms.{NameForm, SetForm, SNamed, SMembers, SParen, SPlus, SMinus, Form, FZero, FOne}
use Rattle.tv_tree.specs.Forms.{FHalf, FSame, FDiffer, FAtom, FStar, FPlus, FParen, FNot, FAnd, FOr, FImp}
use Rattle.tv_tree.specs.Forms.{FIff, FCond, FExists, FForall, FTc, PredForm, Nest, Single, Foreach, Nests}
use Rattle.tv_tree.specs.Forms.{no_nest, with_nest, DeclForm, DSet, DPred, DRule, PieceForm, Quoted, Spelled}
use Rattle.tv_tree.specs.Forms.{UpdateForm, PartForm, PCaption, PFocus, PPre, PMessage, PNew, PRetain, PBlock}
use Rattle.tv_tree.specs.Forms.{ActionForm, EdgeForm, ProgramForm}
use Rattle.tv_tree.specs.declared.trees.Name.{Name}
use Rattle.tv_tree.specs.declared.trees.SetSign.{SetSign}
use Rattle.tv_tree.specs.declared.trees.SetSign.TheVariants as sign
use Rattle.tv_tree.specs.declared.trees.SetTerm.{SetTerm}
use Rattle.tv_tree.specs.declared.trees.SetTerm.TheOpen as set
use Rattle.tv_tree.specs.declared.trees.SetTerm.TheFolds.{fold-SetTerm, fold-SetStep, fold-SetTree}
use Rattle.tv_tree.specs.declared.trees.SetStep.{SetStep}
use Rattle.tv_tree.specs.declared.trees.SetTree.{SetTree}
use Rattle.tv_tree.specs.declared.trees.FormulaTree.{FormulaTree}
use Rattle.tv_tree.specs.declared.trees.FormulaTree.TheVariants.{Zero, One, Half, Same, Differ, Atom, Star}
use Rattle.tv_tree.specs.declared.trees.FormulaTree.TheVariants.{Plus, Paren', Not', And', Or', Imp', Iff'}
use Rattle.tv_tree.specs.declared.trees.FormulaTree.TheVariants.{Cond', Exists', Forall', Tc'}
use Rattle.tv_tree.specs.declared.trees.PredDecl.{PredDecl}
use Rattle.tv_tree.specs.declared.trees.RuleDecl.{RuleDecl}
use Rattle.tv_tree.specs.declared.trees.Decl.{Decl}
use Rattle.tv_tree.specs.declared.trees.Decl.TheOpen as decl
use Rattle.tv_tree.specs.declared.trees.Decl.TheFolds.{fold-Decl, fold-Decls}
use Rattle.tv_tree.specs.declared.trees.Decls.{Decls}
use Rattle.tv_tree.specs.declared.trees.Piece.{Piece}
use Rattle.tv_tree.specs.declared.trees.Piece.TheVariants as piece
use Rattle.tv_tree.specs.declared.trees.UpdateTree.{UpdateTree}
use Rattle.tv_tree.specs.declared.trees.UpdateTree.TheOpen as update
use Rattle.tv_tree.specs.declared.trees.UpdateTree.TheFolds.{fold-UpdateTree, fold-UpdateTrees}
use Rattle.tv_tree.specs.declared.trees.UpdateTrees.{UpdateTrees}
use Rattle.tv_tree.specs.declared.trees.Part.{Part}
use Rattle.tv_tree.specs.declared.trees.Part.TheVariants as part
use Rattle.tv_tree.specs.declared.trees.ActionTree.{ActionTree}
use Rattle.tv_tree.specs.declared.trees.EdgeTree.{EdgeTree}
use Rattle.tv_tree.specs.declared.trees.Tree.{Tree}

abbrev pub name_of : Name → NameForm
name_of n = record { first = n.first; brackets = n.brackets }

-- a set, put together with others from left to right
abbrev pub joined_set : SetForm → List (SetSign × SetForm) → SetForm
joined_set s [] = s
joined_set s ((sign.Plus, t) ∷ more) = joined_set (SPlus s t) more
joined_set s ((sign.Minus, t) ∷ more) = joined_set (SMinus s t) more

abbrev pub term_step : set.SetTerm-F SetForm (SetSign × SetForm) SetForm → SetForm
term_step (set.Named s) = SNamed s
term_step (set.Members xs) = SMembers xs
term_step (set.Paren s) = SParen s.value

abbrev pub further_step : set.SetStep-F SetForm (SetSign × SetForm) SetForm → SetSign × SetForm
further_step s = (s.sign, s.term)

abbrev pub set_step : set.SetTree-F SetForm (SetSign × SetForm) SetForm → SetForm
set_step s = joined_set s.first s.more.items

abbrev pub term_of : SetTerm → SetForm
term_of = fold-SetTerm SetForm (SetSign × SetForm) SetForm term_step further_step set_step

abbrev pub step_of : SetStep → SetSign × SetForm
step_of = fold-SetStep SetForm (SetSign × SetForm) SetForm term_step further_step set_step

abbrev pub set_of : SetTree → SetForm
set_of = fold-SetTree SetForm (SetSign × SetForm) SetForm term_step further_step set_step

abbrev pub form_of : FormulaTree → Form
form_of Zero = FZero
form_of One = FOne
form_of Half = FHalf
form_of (Same v w) = FSame v w
form_of (Differ v w) = FDiffer v w
form_of (Atom n xs) = FAtom (name_of n) xs
form_of (Star n v w) = FStar (name_of n) v w
form_of (Plus n v w) = FPlus (name_of n) v w
form_of (Paren' p f) = FParen (form_of f)
form_of (Not' p f) = FNot (form_of f)
form_of (And' p f q g) = FAnd (form_of f) (form_of g)
form_of (Or' p f q g) = FOr (form_of f) (form_of g)
form_of (Imp' p f q g) = FImp (form_of f) (form_of g)
form_of (Iff' p f q g) = FIff (form_of f) (form_of g)
form_of (Cond' p f q g r h) = FCond (form_of f) (form_of g) (form_of h)
form_of (Exists' xs p f) = FExists xs (form_of f)
form_of (Forall' xs p f) = FForall xs (form_of f)
form_of (Tc' from to left right p f) = FTc from to left right (form_of f)

abbrev pub pred_of_body : Option FormulaTree → Option Form
pred_of_body None = None
pred_of_body (Some f) = Some (form_of f)

abbrev pub pred_of : PredDecl → PredForm
pred_of d = record { name = name_of d.name; params = d.params; body = pred_of_body d.body; props = d.props }

abbrev pub nests : {X : Type 0} → List (Nest X) → Nests X
nests [] = no_nest
nests (d ∷ ds) = with_nest d (nests ds)

-- one declaration, with the plain data of those in a foreach in their place
abbrev pub decl_step : decl.Decl-F (Nest DeclForm) (Nests DeclForm) → Nest DeclForm
decl_step (decl.SetDecl name members) = Single (DSet name (set_of members))
decl_step (decl.Pred d) = Single (DPred (pred_of d))
decl_step (decl.Rule r) = Single (DRule (form_of r.body) (form_of r.head))
decl_step (decl.Foreach var members body) = Foreach var (set_of members) body

abbrev pub decls_step : decl.Decls-F (Nest DeclForm) (Nests DeclForm) → Nests DeclForm
decls_step ds = nests ds.items.items

abbrev pub decl_of : Decl → Nest DeclForm
decl_of = fold-Decl (Nest DeclForm) (Nests DeclForm) decl_step decls_step

abbrev pub decls_of : Decls → Nests DeclForm
decls_of = fold-Decls (Nest DeclForm) (Nests DeclForm) decl_step decls_step

abbrev pub piece_of : Piece → PieceForm
piece_of (piece.Text s) = Quoted s
piece_of (piece.Named s) = Spelled s

abbrev pub single_of : Name → List (List ℕ) → FormulaTree → UpdateForm
single_of name params body = record { name = name_of name; params = params; body = form_of body }

abbrev pub update_step : update.UpdateTree-F (Nest UpdateForm) (Nests UpdateForm) → Nest UpdateForm
update_step (update.Single name params body) = Single (single_of name params body)
update_step (update.Foreach var members body) = Foreach var (set_of members) body

abbrev pub updates_step : update.UpdateTrees-F (Nest UpdateForm) (Nests UpdateForm) → Nests UpdateForm
updates_step us = nests us.items.items

abbrev pub update_of : UpdateTree → Nest UpdateForm
update_of = fold-UpdateTree (Nest UpdateForm) (Nests UpdateForm) update_step updates_step

abbrev pub updates_of : UpdateTrees → Nests UpdateForm
updates_of = fold-UpdateTrees (Nest UpdateForm) (Nests UpdateForm) update_step updates_step

abbrev pub part_of : Part → PartForm
part_of (part.Caption ps) = PCaption (map piece_of ps)
part_of (part.Focus fs) = PFocus (map form_of fs)
part_of (part.Pre f) = PPre (form_of f)
part_of (part.Message f ps) = PMessage (form_of f) (map piece_of ps)
part_of part.New = PNew
part_of (part.Retain f) = PRetain (form_of f)
part_of (part.Block us) = PBlock (updates_of us)

abbrev pub action_of : ActionTree → ActionForm
action_of a = record { name = a.name; params = a.params; parts = map part_of a.parts }

abbrev pub edge_of : EdgeTree → EdgeForm
edge_of e = record { from = e.from.now; action = e.action.now; arguments = e.arguments; to = e.to.now }

abbrev pub program_of : Tree → ProgramForm
program_of t =
    record {
      decls = decls_of t.decls;
      actions = map action_of t.actions;
      edges = map edge_of t.edges;
      tail = t.tail;
    }
