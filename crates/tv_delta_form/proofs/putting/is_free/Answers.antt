use Rattle.tv_model.specs.Form.{form_of}
use Rattle.tv_model.proofs.FreeTests.{is_free-answer}
use Rattle.tv_delta_form.proofs.putting.is_free.Goals as goal

pub returns : goal.returns
returns c = is_free-answer c.args.v (form_of c.args.f.now) c.free.result c.free.ensures
