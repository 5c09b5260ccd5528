use Rattle.std.proofs.Common.{◌∙◌, ap}
use Rattle.std.specs.Hash as fed
use Rattle.tv_struct.specs.Signature.{signature_of}
use Rattle.tv_listing.proofs.hashed.HashedHash.hash.Goals as goal

pub returns : goal.returns
returns g c =
    c.hash.ensures
    ∙ ap (λ n. g.H.Hasher.write c.args.state.now (fed.le_bytes 8 n)) (c.signature.ensures ∙ ap signature_of c.structure.ensures)
