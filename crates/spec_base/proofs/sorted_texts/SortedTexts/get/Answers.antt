use Rattle.std.proofs.Common.{◌∙◌, ap}
use Rattle.std.specs.Prelude.{bytes_eq}
use Rattle.std.specs.Map.{lookup}
use Rattle.spec_base.proofs.SortedLemmas.{lookup_shown}
use Rattle.spec_base.proofs.sorted_texts.SortedTexts.get.Goals as goal

pub returns : goal.returns
returns g c =
    c.get.ensures.value ∙ lookup_shown c.args.key.now c.self.inside.map.entries ∙ ap (lookup (bytes_eq c.args.key.now)) c.self.view_is
