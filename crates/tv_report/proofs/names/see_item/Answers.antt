use Rattle.tv_report.proofs.OnceLaws.{seen_key, item_sound, item_self, same_item}
use Rattle.tv_report.proofs.names.see_item.Goals as goal

pub returns : goal.returns
returns c =
    seen_key same_item item_sound item_self c.args.items.now.keys c.insert_full.new.self.keys c.args.item c.in_ok-new.new c.in_ok-new.ensures.added
    c.in_ok-new.ensures.keys
