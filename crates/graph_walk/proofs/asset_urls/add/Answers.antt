use Rattle.graph_walk.proofs.Texts.{added_text}
use Rattle.graph_walk.proofs.asset_urls.add.Goals as goal

pub returns : goal.returns
returns c = added_text c.args.specifier c.args.urls.now.keys c.insert.new.self.keys c.in_ok-insert.ensures.keys
