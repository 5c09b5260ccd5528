-- What the plain data of each declaration and update is.
use Rattle.std.proofs.Common.{◌≡◌, List, map, sym, ◌∙◌, ap}
use Rattle.tv_tree.specs.Forms.{SetForm, SNamed, SMembers, SParen, Nest, Single, Foreach, Nests, DeclForm}
use Rattle.tv_tree.specs.Forms.{DSet, DPred, DRule, UpdateForm}
use Rattle.tv_tree.specs.Copies.{name_of, joined_set, term_of, step_of, set_of, term_step, further_step}
use Rattle.tv_tree.specs.Copies.{set_step, form_of, pred_of, nests, decl_of, decls_of, decl_step, decls_step}
use Rattle.tv_tree.specs.Copies.{single_of, update_of, updates_of, update_step, updates_step}
use Rattle.tv_tree.specs.declared.trees.Name.{Name}
use Rattle.std.specs.Prelude.{ℕ}
use Rattle.std.specs.declared.boxed.Box.{Box}
use Rattle.std.specs.declared.alloc.Global.{Global}
use Rattle.tv_tree.specs.declared.trees.SetSign.{SetSign}
use Rattle.tv_tree.specs.declared.trees.SetTerm.{SetTerm}
use Rattle.tv_tree.specs.declared.trees.SetTerm.TheVariants as one
use Rattle.tv_tree.specs.declared.trees.SetTerm.TheOpen as set
use Rattle.tv_tree.specs.declared.trees.SetTerm.TheFolds.{fold-roll-SetTerm, fold_out-SetStep}
use Rattle.tv_tree.specs.declared.trees.SetTerm.TheFolds.{fold_out-SetTree}
use Rattle.tv_tree.specs.declared.trees.SetStep.{SetStep}
use Rattle.tv_tree.specs.declared.trees.SetTree.{SetTree, out-SetTree}
use Rattle.tv_tree.specs.declared.trees.FormulaTree.{FormulaTree}
use Rattle.tv_tree.specs.declared.trees.PredDecl.{PredDecl}
use Rattle.tv_tree.specs.declared.trees.RuleDecl.{RuleDecl}
use Rattle.tv_tree.specs.declared.trees.Decl.{Decl}
use Rattle.tv_tree.specs.declared.trees.Decl.TheVariants as at
use Rattle.tv_tree.specs.declared.trees.Decl.TheOpen as decl
use Rattle.tv_tree.specs.declared.trees.Decl.TheFolds.{fold-roll-Decl, fold_out-Decls}
use Rattle.tv_tree.specs.declared.trees.Decls.{Decls}
use Rattle.tv_tree.specs.declared.trees.UpdateTree.{UpdateTree}
use Rattle.tv_tree.specs.declared.trees.UpdateTree.TheVariants as to
use Rattle.tv_tree.specs.declared.trees.UpdateTree.TheOpen as update
use Rattle.tv_tree.specs.declared.trees.UpdateTree.TheFolds.{fold-roll-UpdateTree, fold_out-UpdateTrees}
use Rattle.tv_tree.specs.declared.trees.UpdateTrees.{UpdateTrees}

pub decl_of_set : (name : List ℕ) (members : SetTree) → decl_of (at.SetDecl name members) ≡ Single (DSet name (set_of members))
decl_of_set name members = ap decl_of (sym (at.rolls-SetDecl name members)) ∙ fold-roll-Decl (Nest DeclForm) (Nests DeclForm) decl_step decls_step (decl.SetDecl name members)

pub decl_of_pred : (d : PredDecl) → decl_of (at.Pred d) ≡ Single (DPred (pred_of d))
decl_of_pred d = ap decl_of (sym (at.rolls-Pred d)) ∙ fold-roll-Decl (Nest DeclForm) (Nests DeclForm) decl_step decls_step (decl.Pred d)

pub decl_of_rule : (r : RuleDecl) → decl_of (at.Rule r) ≡ Single (DRule (form_of r.body) (form_of r.head))
decl_of_rule r = ap decl_of (sym (at.rolls-Rule r)) ∙ fold-roll-Decl (Nest DeclForm) (Nests DeclForm) decl_step decls_step (decl.Rule r)

pub decl_of_foreach : (var : List ℕ) (members : SetTree) (body : Decls) → decl_of (at.Foreach var members body) ≡ Foreach var (set_of members) (decls_of body)
decl_of_foreach var members body = ap decl_of (sym (at.rolls-Foreach var members body)) ∙ fold-roll-Decl (Nest DeclForm) (Nests DeclForm) decl_step decls_step (decl.Foreach var members body)

pub decls_of_items : (ds : Decls) → decls_of ds ≡ nests (map decl_of ds.items.items)
decls_of_items = fold_out-Decls (Nest DeclForm) (Nests DeclForm) decl_step decls_step

pub update_of_single : (name : Name) (params : List (List ℕ)) (body : FormulaTree) → update_of (to.Single name params body) ≡ Single (single_of name params body)
update_of_single name params body = ap update_of (sym (to.rolls-Single name params body)) ∙ fold-roll-UpdateTree (Nest UpdateForm) (Nests UpdateForm) update_step updates_step (update.Single name params body)

pub update_of_foreach : (var : List ℕ) (members : SetTree) (body : UpdateTrees) → update_of (to.Foreach var members body) ≡ Foreach var (set_of members) (updates_of body)
update_of_foreach var members body = ap update_of (sym (to.rolls-Foreach var members body)) ∙ fold-roll-UpdateTree (Nest UpdateForm) (Nests UpdateForm) update_step updates_step (update.Foreach var members body)

pub updates_of_items : (us : UpdateTrees) → updates_of us ≡ nests (map update_of us.items.items)
updates_of_items = fold_out-UpdateTrees (Nest UpdateForm) (Nests UpdateForm) update_step updates_step

pub term_of_named : (s : List ℕ) → term_of (one.Named s) ≡ SNamed s
term_of_named s = ap term_of (sym (one.rolls-Named s)) ∙ fold-roll-SetTerm SetForm (SetSign × SetForm) SetForm term_step further_step set_step (set.Named s)

pub term_of_members : (xs : List (List ℕ)) → term_of (one.Members xs) ≡ SMembers xs
term_of_members xs = ap term_of (sym (one.rolls-Members xs)) ∙ fold-roll-SetTerm SetForm (SetSign × SetForm) SetForm term_step further_step set_step (set.Members xs)

pub term_of_paren : (p : Box (Unit {0}) Global) (s : SetTree) → term_of (one.Paren' p s) ≡ SParen (set_of s)
term_of_paren p s =
    let b : Box SetTree Global = record { ptr = p.ptr; alloc = p.alloc; value = s } in
    ap term_of (sym (one.rolls-Paren b)) ∙ fold-roll-SetTerm SetForm (SetSign × SetForm) SetForm term_step further_step set_step (set.Paren b)

pub step_of_parts : (s : SetStep) → step_of s ≡ (s.sign, term_of s.term)
step_of_parts = fold_out-SetStep SetForm (SetSign × SetForm) SetForm term_step further_step set_step

pub set_of_steps : (s : SetTree) → set_of s ≡ joined_set (term_of (out-SetTree s).first) (map step_of (out-SetTree s).more.items)
set_of_steps = fold_out-SetTree SetForm (SetSign × SetForm) SetForm term_step further_step set_step
