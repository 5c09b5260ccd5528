use Rattle.std.specs.Prelude.{◌&&◌, ◌==◌}
use Rattle.tv_report.proofs.OnceLaws.{seen_key, pair_sound, pair_self}
use Rattle.tv_report.proofs.names.see_pair.Goals as goal

pub returns : goal.returns
returns c =
    seen_key (λ a b. (a.0 == b.0) && (a.1 == b.1)) pair_sound pair_self c.args.pairs.now.keys c.insert_full.new.self.keys c.args.pair c.in_ok-new.new c.in_ok-new.ensures.added
    c.in_ok-new.ensures.keys
