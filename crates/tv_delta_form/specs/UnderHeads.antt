-- What is left of a formula under the quantifiers at its head, once these have their numbers.
use Rattle.std.specs.Prelude.{◌≡◌, ◌≤◌, option_map, Result, Ok, Err}
use Rattle.tv_model.specs.Form.{Form, form_of, height}
use Rattle.tv_delta_laws.specs.Putting.{Arguments, Reserved, put_in}
use Rattle.tv_model.specs.declared.quantifiers.Binding.{Binding}
use Rattle.tv_delta_form.specs.declared.putting.Inside.{Inside}
use Rattle.tv_delta_form.specs.declared.stop.Stop.{Stop}
use Rattle.tv_model.specs.Quantifiers.{bound, bound_by}
use Rattle.tv_delta_form.specs.Views.{StopsUnformed, arguments_from}

-- the quantifiers with their numbers stand over what is put in under them
abbrev pub IsInside : Reserved → Arguments → Form → Inside → Type 0
IsInside r m f x =
    put_in r f m ≡ option_map (bound_by x.bindings.items)
    (put_in r (form_of x.body.now) (arguments_from x.arguments.items))

abbrev pub GivesInside : Reserved → Arguments → Binding → Form → Result Inside Stop → Type 0
GivesInside r m binding f (Ok x) = IsInside r m (bound binding f) x × (height (form_of x.body.now) ≤ height f)
GivesInside r m binding f (Err e) = StopsUnformed e (put_in r (bound binding f) m)
