use Rattle.std.proofs.Common.{◌∙◌, ap, cond, None}
use Rattle.std.specs.FinMap as finite
use Rattle.std.specs.List.{list_any}
use Rattle.spec_base.specs.Shown.{text_cmp}
use Rattle.spec_base.specs.Specifier.{by_text, same_specifier}
use Rattle.graph_core.specs.Pruned.{has_text_of}
use Rattle.graph_core.proofs.KeepLemmas.{get_left, seen_text}
use Rattle.graph_core.proofs.kept.keep_redirects.Goals as goal

pub returns : goal.returns
returns c = λ t.
    let es = c.into_map-map.result.entries in
    ap (λ m. finite.get m t) c.from.ensures
    ∙ ap (λ xs. finite.get (finite.from_entries {R = text_cmp} (by_text xs)) t) c.keep_redirected.ensures
    ∙ get_left (λ s. list_any (same_specifier s) c.args.kept.now) (has_text_of c.args.kept.now) (λ s. seen_text s c.args.kept.now) es t
    ∙ ap (λ m. cond (has_text_of c.args.kept.now t) (finite.get m t) None) (c.into_map-map.ensures ∙ c.replace.ensures.value)
