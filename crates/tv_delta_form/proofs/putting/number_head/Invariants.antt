use Rattle.std.proofs.Common.{◌≡◌, ◌≤◌}
use Rattle.std.specs.Prelude.{option_map}
use Rattle.tv_model.specs.Form.{form_of, height}
use Rattle.tv_delta_laws.specs.Putting.{put_in}
use Rattle.tv_delta_laws.specs.Simple.{nodes}
use Rattle.tv_model.specs.Quantifiers.{bound, bound_by}
use Rattle.tv_delta_form.specs.Views.{arguments_from, reserved_of}
use Rattle.tv_delta_form.proofs.putting.number_head.Given as goal

-- the quantifiers so far, with their numbers, stand over what is put in under them
abbrev pub invariant-loop-binding : goal.invariant-loop-binding
invariant-loop-binding l =
    (put_in (reserved_of l.fn.k) (bound l.fn.first (form_of l.fn.f)) (arguments_from l.fn.m)
    ≡ option_map (bound_by l.bindings.items) (put_in (reserved_of l.fn.k) (form_of l.body) (arguments_from l.arguments.items)))
    × (height (form_of l.body) ≤ height (form_of l.fn.f))

abbrev pub decreases-loop-binding : goal.decreases-loop-binding
decreases-loop-binding l = nodes (form_of l.body)
