use Rattle.std.proofs.Common.{◌≡◌, ◌++◌, ◌∷◌, [], Some, ◌∙◌, sym, ap, subst, arith}
use Rattle.std.specs.Prelude.{option_map}
use Rattle.tv_model.specs.Form.{form_of}
use Rattle.tv_delta_laws.specs.Putting.{put_in}
use Rattle.tv_model.specs.Quantifiers.{bound, bound_by, bound_var, renamed}
use Rattle.tv_delta_form.specs.Views.{arguments_from, reserved_of, reserved_at, scope_form, bind}
use Rattle.tv_delta_form.proofs.HeadSteps.{bind_same, next_bound}
use Rattle.tv_delta_form.proofs.putting.number_head.Goals as goal

pub loop-binding-preserved : goal.loop-binding-preserved
loop-binding-preserved c =
    let is : bind (reserved_of c.args.k.now) (arguments_from c.loop-binding.arguments.items) (bound_var c.in-Some.binding)
    (form_of c.in-Some.g.now) ≡ Some (c.in_ok-bound-2.bound.var.0, arguments_from c.in_ok-bound-2.bound.arguments.items)
    = bind_same (reserved_at c.reserve-in-Some.result) (reserved_of c.args.k.now) (arguments_from c.deref.result.now)
    (arguments_from c.loop-binding.arguments.items) c.var-in-Some.result.0 (bound_var c.in-Some.binding)
    (scope_form c.over-in-Some.result) (form_of c.in-Some.g.now) _ c.in_ok-bound-2.ensures c.reserve-in-Some.ensures
    (ap arguments_from c.deref.ensures.value) c.var-in-Some.ensures c.over-in-Some.ensures
    in let pushed : c.push-in-Some.new.self.items
    ≡ c.loop-binding.bindings.items ++ (renamed c.in-Some.binding c.in_ok-bound-2.bound.var ∷ [])
    = c.in_ok-push-2.ensures.items ∙ ap (λ b. c.loop-binding.bindings.items ++ (b ∷ [])) c.renamed-in-Some.ensures
    in let next = next_bound (put_in (reserved_of c.args.k.now) (bound c.args.first (form_of c.args.f.now)) (arguments_from c.args.m.now))
    (reserved_of c.args.k.now) (arguments_from c.loop-binding.arguments.items)
    (arguments_from c.in_ok-bound-2.bound.arguments.items) c.loop-binding.bindings.items c.in-Some.binding
    c.in_ok-bound-2.bound.var (form_of c.loop-binding.body.now) (form_of c.in-Some.g.now) c.loop-binding.invariant.0
    c.in-Some.ensures.parts is
    in (
      subst (λ bs. put_in (reserved_of c.args.k.now) (bound c.args.first (form_of c.args.f.now)) (arguments_from c.args.m.now)
          ≡ option_map (bound_by bs) (put_in (reserved_of c.args.k.now) (form_of c.in-Some.g.now)
          (arguments_from c.in_ok-bound-2.bound.arguments.items))) (sym pushed) next,
      omega (arith, c.loop-binding.invariant.1, c.in-Some.ensures.height),
    )
