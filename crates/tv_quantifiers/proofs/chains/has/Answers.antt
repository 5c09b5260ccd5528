use Rattle.tv_model.specs.Form.{form_of}
use Rattle.tv_model.proofs.FreeTests.{is_free-answer}
use Rattle.tv_quantifiers.proofs.chains.has.Goals as goal

pub returns : goal.returns
returns c = is_free-answer c.args.v.0 (form_of c.args.f.now) c.free.result c.free.ensures
