use Rattle.std.proofs.Common.{◌≡◌, ◌∙◌, ℕ, List, [], ap, sym, subst}
use Rattle.std.specs.Vec.Iter.{into_iter_items}
use Rattle.std.specs.Prelude.{option_map}
use Rattle.std.specs.FinMap as finite
use Rattle.url.specs.Parts.{Parts}
use Rattle.spec_base.specs.Shown.{text_cmp}
use Rattle.spec_base.specs.Specifier.{by_text}
use Rattle.specifier_index.specs.SpecifierTable.{IsCovered}
use Rattle.graph_core.specs.FastChecks.{last_found, with_found}
use Rattle.module_slots.specs.declared.fast_check.FastCheckTypeModuleSlot.{FastCheckTypeModuleSlot}
use Rattle.module_slots.specs.declared.slot.ModuleSlot.{ModuleSlot}
use Rattle.graph_core.proofs.FastCheckLemmas.{covered_stored, none_left, slots_of, stored_all, stored_one}
use Rattle.graph_core.proofs.fast_checks.store_all_found.Goals as goal

pub loop-specifier-preserved : goal.loop-specifier-preserved
loop-specifier-preserved c = λ t.
    c.loop-specifier.invariant t
    ∙ ap (λ left. option_map (with_found (last_found left t)) (slots_of c.loop-specifier.map.entries t)) c.in-Some.ensures.steps.0
    ∙ stored_one c.loop-specifier.map.entries c.store_found.new.slots.entries (c.in-Some.specifier, c.in-Some.found) _ t c.store_found.ensures

-- where nothing is left, all was stored
all_stored : (es fs : List (Parts × ModuleSlot)) (all left : List (Parts × FastCheckTypeModuleSlot)) → left ≡ []
    → ((t : List ℕ) → option_map (with_found (last_found all t)) (slots_of es t) ≡ option_map (with_found (last_found left t)) (slots_of fs t))
    → (t : List ℕ) → slots_of fs t ≡ option_map (with_found (last_found all t)) (slots_of es t)
all_stored es fs all left none so t =
    sym (stored_all (slots_of fs t) t)
    ∙ sym (ap (λ (xs : List (Parts × FastCheckTypeModuleSlot)). option_map (with_found (last_found xs t)) (slots_of fs t)) none)
    ∙ sym (so t)

pub from_parts-requires : goal.from_parts-requires
from_parts-requires c =
    let left = c.loop-specifier.specifier-iterator in
    let es = c.into_map-map.result.entries in
    let none : into_iter_items left ≡ [] = none_left (into_iter_items left) (sym left.rest.ok.0 ∙ c.in-None.ensures.steps.0) in
    covered_stored c.into_parts-order.result.0 (finite.from_entries {R = text_cmp} (by_text es)) c.from.result (last_found c.args.modules.items)
    (λ t. ap (λ m. finite.get m t) c.from.ensures ∙ all_stored es c.loop-specifier.map.entries c.args.modules.items (into_iter_items left) none c.loop-specifier.invariant t)
    (subst (IsCovered c.into_parts-order.result.0) (sym c.into_map-map.ensures) c.into_parts-order.ensures.order)

pub returns : goal.returns
returns c =
    let left = c.loop-specifier.specifier-iterator in
    let none : into_iter_items left ≡ [] = none_left (into_iter_items left) (sym left.rest.ok.0 ∙ c.in-None.ensures.steps.0) in
    λ t.
    ap (λ m. finite.get m t) (c.from_parts.ensures ∙ c.from.ensures)
    ∙ all_stored c.into_map-map.result.entries c.loop-specifier.map.entries c.args.modules.items (into_iter_items left) none c.loop-specifier.invariant t
    ∙ ap (λ m. option_map (with_found (last_found c.args.modules.items t)) (finite.get m t))
    (c.into_map-map.ensures ∙ c.into_parts-order.ensures.values ∙ c.replace.ensures.value)
