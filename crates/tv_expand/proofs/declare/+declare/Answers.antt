use Rattle.std.proofs.Common.{◌≡◌, ℕ, List, ap, sym, ◌∙◌, arith}
use Rattle.tv_tree.proofs.Unfolds.{decl_of_foreach, decls_of_items}
use Rattle.tv_tree.specs.Copies.{decl_of, decls_of}
use Rattle.tv_expand.specs.Idle.{is_apart}
use Rattle.tv_expand.specs.Origins.{all_noted, marked, marked_nest, declared_from, sets_noted}
use Rattle.tv_expand.proofs.IdleLaws.{nest_idle}
use Rattle.tv_expand.proofs.ApartLaws.{same_for_all, three_same}
use Rattle.tv_expand.proofs.OriginLaws.{apart_marked, idle_marked, noted_count, noted_grows}
use Rattle.tv_flat.specs.Views.{binding_of}
use Rattle.tv_expand.specs.States.{noted_of}
use Rattle.tv_expand.proofs.declare.+declare.Goals as goal

pub declare_all-loop-decl-init : goal.declare_all-loop-decl-init
declare_all-loop-decl-init t c =
    rw c.deref-decl-items.ensures.value
    (ap (λ ds. all_noted (binding_of c.args.binding.now) (marked c.args.marks.now ds) (noted_of c.args.state.now))
    (sym (decls_of_items c.args.decls.now)))

pub declare-returns-in_ok-words-in-Foreach : goal.declare-returns-in_ok-words-in-Foreach
declare-returns-in_ok-words-in-Foreach t c =
    rw (c.in-Foreach.is, decl_of_foreach, c.in_ok-words-in-Foreach.ensures, ← c.as_slice.ensures.keys) c.declare_each.ensures

pub declare-returns-then-is_idle_decl : goal.declare-returns-then-is_idle_decl
declare-returns-then-is_idle_decl t c =
    let d = decl_of c.args.decl.now in
    let s = noted_of c.args.state.now in
    nest_idle sets_noted declared_from (binding_of c.args.binding.now) (marked_nest c.args.marks.now d) s
    (idle_marked (sets_noted s) c.args.marks.now d ∙ (sym c.is_idle_decl.ensures ∙ c.if-is_idle_decl.true))

pub declare_each-returns-then-eq : goal.declare_each-returns-then-eq
declare_each-returns-then-eq t c =
    let word : c.args.var.now ≡ c.deref.result.now = cc (c.var.view_is, c.deref.ensures.value) in
    let new = c.count_declared.ensures in
    let before = c.count_declared-before.ensures in
    let same = three_same c.count_declared.result.sets c.count_declared-before.result.sets c.count_declared.result.preds c.count_declared-before.result.preds c.count_declared.result.rules c.count_declared-before.result.rules c.if-eq.ensures in
    let body = decls_of c.args.body.now in
    sym c.loop-word.invariant
    ∙ same_for_all sets_noted declared_from noted_count noted_grows
    (binding_of c.args.binding.now) c.args.var.now
    (marked c.args.marks.now body) c.args.words.now c.loop-word.word-index _
    (noted_of c.loop-word.state) (noted_of c.declare_for.new.state) c.loop-word-test.true
    (apart_marked c.args.var.now c.args.marks.now body
    ∙ (ap (λ (w : List ℕ). is_apart w body) word ∙ sym c.are_apart_decls-alike.ensures
    ∙ c.if-alike.true)) c.in_ok-declare_for.ensures (omega arith)
