use Rattle.tv_embed.proofs.MapLaws.{identity_embeds}
use Rattle.tv_embed.proofs.laws.structures_embed_in_themselves.Goals as goal

pub returns : goal.returns
returns c = identity_embeds
