use Rattle.std.proofs.lemmas.Result.{IfErr-weaker}
use Rattle.tv_texts.proofs.Sources.{held_refused}
use Rattle.tv_texts.proofs.source.load_source_text.Goals as goal

pub returns-clause-cause : goal.returns-clause-cause
returns-clause-cause g c = IfErr-weaker c.source_in.result _ _
    (λ fault refused. held_refused _ c.args.name.now c.in_ok-bytes.bytes.items _ _ _ fault c.in_ok-bytes.ensures.content
    refused) c.source_in.ensures.cause
