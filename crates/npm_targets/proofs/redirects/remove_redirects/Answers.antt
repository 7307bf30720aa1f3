use Rattle.std.proofs.Common.{◌∙◌, ap}
use Rattle.std.specs.Prelude.{not}
use Rattle.std.specs.FinMap as finite
use Rattle.spec_base.specs.Shown.{text_cmp}
use Rattle.spec_base.specs.Specifier.{by_text}
use Rattle.npm_targets.specs.Edges.{is_npm}
use Rattle.npm_targets.proofs.RedirectLemmas.{filtered_map}
use Rattle.npm_targets.proofs.redirects.remove_redirects.Goals as goal

pub returns : goal.returns
returns c =
    c.from.ensures
    ∙ ap (λ es. finite.from_entries {R = text_cmp} (by_text es)) c.retain_others.ensures.left
    ∙ filtered_map (λ s. not (is_npm s)) c.into_map-map.result.entries c.args.redirects.now c.retain_others.ensures.ordered (c.into_map-map.ensures ∙ c.replace.ensures.value)
