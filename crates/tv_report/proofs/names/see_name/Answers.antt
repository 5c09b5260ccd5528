use Rattle.std.proofs.Common.{refl}
use Rattle.tv_report.proofs.OnceLaws.{seen_name}
use Rattle.tv_report.proofs.names.see_name.Goals as goal

pub returns : goal.returns
returns c =
    seen_name _ (λ a b. refl) c.args.names.now.keys c.insert_full.new.self.keys c.args.name c.in_ok-new.new c.in_ok-new.ensures.added
    c.in_ok-new.ensures.keys
