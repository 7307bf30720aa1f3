use Rattle.std.proofs.Common.{◌≡◌, ◌∙◌, ◌&&◌, not, Bool, ap, sym, subst, ℕ, List, cond, None}
use Rattle.std.specs.FinMap as finite
use Rattle.std.specs.List.{list_any}
use Rattle.std.specs.Prelude.{option_map}
use Rattle.url.specs.Parts.{Parts}
use Rattle.spec_base.specs.Shown.{text_cmp}
use Rattle.spec_base.specs.Specifier.{by_text, same_specifier, specifier_text}
use Rattle.specifier_index.specs.SpecifierTable.{IsCovered}
use Rattle.graph_core.specs.Pruned.{freed_slot, has_text_of}
use Rattle.module_slots.specs.declared.slot.ModuleSlot.{ModuleSlot}
use Rattle.graph_core.proofs.KeepLemmas.{covered_kept, get_kept, seen_text}
use Rattle.graph_core.proofs.kept.keep_slots.Goals as goal

-- whether a slot stays, by its specifier and by the text of that
module _ (kept : List Parts) (known : finite.FinMap text_cmp Parts) where
  abbrev stays : Parts → Bool
  stays s = list_any (same_specifier s) kept && not (finite.contains_key known (specifier_text s))

  abbrev stays_at : List ℕ → Bool
  stays_at t = has_text_of kept t && not (finite.contains_key known t)

  by_its_text : (s : Parts) → stays s ≡ stays_at (specifier_text s)
  by_its_text s = ap (λ b. b && not (finite.contains_key known (specifier_text s))) (seen_text s kept)

pub from_parts-requires : goal.from_parts-requires
from_parts-requires c =
    let kept = c.args.kept.now in
    let known = c.args.redirects.now in
    let es = c.into_map-map.result.entries in
    covered_kept c.into_parts-order.result.0 (finite.from_entries {R = text_cmp} (by_text es)) c.from.result (stays_at kept known) freed_slot
    (λ t. ap (λ m. finite.get m t) c.from.ensures
    ∙ get_kept (stays kept known) (stays_at kept known) (by_its_text kept known) freed_slot es _ _ c.keep_unredirected.ensures c.free_slots.ensures t)
    (subst (IsCovered c.into_parts-order.result.0) (sym c.into_map-map.ensures) c.into_parts-order.ensures.order)

pub returns : goal.returns
returns c = λ t.
    let kept = c.args.kept.now in
    let known = c.args.redirects.now in
    let es = c.into_map-map.result.entries in
    ap (λ m. finite.get m t) (c.from_parts.ensures ∙ c.from.ensures)
    ∙ get_kept (stays kept known) (stays_at kept known) (by_its_text kept known) freed_slot es _ _ c.keep_unredirected.ensures c.free_slots.ensures t
    ∙ ap (λ m. cond (stays_at kept known t) (option_map freed_slot (finite.get m t)) None)
    (c.into_map-map.ensures ∙ c.into_parts-order.ensures.values ∙ c.replace.ensures.value)
