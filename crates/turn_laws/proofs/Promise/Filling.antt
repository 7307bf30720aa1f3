-- What a content that comes later makes of a slot.
use Rattle.std.proofs.Common.{◌≡◌, ℕ, List, Bool, true, false, None, Result, Ok, Err, refl, sym, ap, ◌∙◌, subst, inl, inr, ⊎_elim, ◌⊎◌}
use Rattle.std.proofs.lemmas.Bool.{true≢false}
use Rattle.std.specs.FinMap as finite
use Rattle.std.specs.FinMap.{same_map, nat_cmp-IsAntisymmetric, slice_cmp-IsAntisymmetric}
use Rattle.std.specs.Cmp.Lexicographic.{nat_list_cmp_total}
use Rattle.url.specs.Parts.{Parts}
use Rattle.spec_base.specs.Shown.{text_cmp}
use Rattle.spec_base.specs.Specifier.{specifier_text}
use Rattle.media_types.specs.declared.decoding.DecodeFault.{DecodeFault}
use Rattle.media_types.specs.declared.decoding.ModuleTextSource.{ModuleTextSource}
use Rattle.wasm_dts.specs.declared.refusal.WasmRefusal.{WasmRefusal}
use Rattle.graph_dependencies.specs.declared.graph_kind.GraphKind.{GraphKind}
use Rattle.graph_errors.specs.declared.errors.ModuleError.{ModuleError}
use Rattle.graph_core.specs.declared.graph.ModuleGraph.{ModuleGraph}
use Rattle.module_slots.specs.declared.load.LoadContext.{LoadContext}
use Rattle.module_slots.specs.declared.slot.JsModule.{JsModule}
use Rattle.module_slots.specs.declared.slot.JsonModule.{JsonModule}
use Rattle.module_slots.specs.declared.slot.Module.{Module}
use Rattle.module_slots.specs.declared.slot.Module.TheVariants.{Js, Json, Wasm, Npm, Node, External}
use Rattle.module_slots.specs.declared.slot.ModuleSlot.{ModuleSlot}
use Rattle.module_slots.specs.declared.slot.ModuleSlot.TheVariants.{Module as Stands, Err as Failed, Pending}
use Rattle.module_slots.specs.declared.slot.WasmModule.{WasmModule}
use Rattle.graph_core.specs.Edges.{loads_of}
use Rattle.slot_making.specs.Filled.{content_text, filled_slot, filled_text, filled_wasm, or_refusal, text_refusal, wasm_refusal}
use Rattle.graph_core.specs.Graph.{with_slot, without_slot}
use Rattle.slot_making.specs.Made.{declaration_of}
use Rattle.module_slots.specs.Slots.{is_asset_slot, is_pending}
use Rattle.graph_core.proofs.At.{cases_text, cut_other, put_other, put_same}
use Rattle.turn_laws.proofs.Entering.Made.{registry_kind}
use Rattle.graph_turns.proofs.Leading.Ways.{put_at}

-- a module with a source has another one, or an error takes its place, which is none of a registry; any other slot stays
pub data IsFilled : ModuleSlot → ModuleSlot → Type 0 where
  script : (m : JsModule) (text : ModuleTextSource) → IsFilled (Stands (Js m)) (Stands (Js (record m { source = text })))
  json : (m : JsonModule) (text : ModuleTextSource) → IsFilled (Stands (Json m)) (Stands (Json (record m { source = text })))
  wasm : (m : WasmModule) (bytes declaration : List ℕ) → IsFilled (Stands (Wasm m)) (Stands (Wasm (record m { source = bytes; source_dts = declaration })))
  fails : {v : ModuleSlot} {e : ModuleError} → is_pending v ≡ false → is_asset_slot v ≡ false → registry_kind e.0 ≡ None → IsFilled v (Failed e)
  stays : {v : ModuleSlot} → IsFilled v v

-- modules by their later texts
abbrev script_with : JsModule → Result ModuleTextSource DecodeFault → ModuleSlot
script_with m r = or_refusal (text_refusal m.specifier m.mtime r) (Stands (Js (record m { source = filled_text m.source r })))

abbrev json_with : JsonModule → Result ModuleTextSource DecodeFault → ModuleSlot
json_with m r = or_refusal (text_refusal m.specifier m.mtime r) (Stands (Json (record m { source = filled_text m.source r })))

abbrev wasm_with : WasmModule → List ℕ → Result (List ℕ) WasmRefusal → ModuleSlot
wasm_with m content r = or_refusal (wasm_refusal m r) (Stands (Wasm (filled_wasm m content r)))

script_filled : (m : JsModule) (r : Result ModuleTextSource DecodeFault) → IsFilled (Stands (Js m)) (script_with m r)
script_filled m (Ok text) = script m text
script_filled m (Err fault) = fails refl refl refl

json_filled : (m : JsonModule) (r : Result ModuleTextSource DecodeFault) → IsFilled (Stands (Json m)) (json_with m r)
json_filled m (Ok text) = json m text
json_filled m (Err fault) = fails refl refl refl

wasm_filled : (m : WasmModule) (content : List ℕ) (r : Result (List ℕ) WasmRefusal) → IsFilled (Stands (Wasm m)) (wasm_with m content r)
wasm_filled m content (Ok declaration) = wasm m content declaration
wasm_filled m content (Err refusal) = fails refl refl refl

pub how_filled : (content : List ℕ) (v : ModuleSlot) → IsFilled v (filled_slot content v)
how_filled content (Stands (Js m)) = script_filled m (content_text m.specifier content)
how_filled content (Stands (Json m)) = json_filled m (content_text m.specifier content)
how_filled content (Stands (Wasm m)) = wasm_filled m content (declaration_of content)
how_filled content (Stands (Npm m)) = stays
how_filled content (Stands (Node m)) = stays
how_filled content (Stands (External m)) = stays
how_filled content (Failed e) = stays
how_filled content (Pending asset) = stays

-- ---- what stays

pub filled_final : (v u : ModuleSlot) → IsFilled v u → is_pending v ≡ false → is_pending u ≡ false
filled_final v u (script m text) final = refl
filled_final v u (json m text) final = refl
filled_final v u (wasm m bytes declaration) final = refl
filled_final v u (fails p a r) final = refl
filled_final v u stays final = final

pub filled_inside : (v u : ModuleSlot) → IsFilled v u → is_asset_slot v ≡ false → is_asset_slot u ≡ false
filled_inside v u (script m text) inside = refl
filled_inside v u (json m text) inside = refl
filled_inside v u (wasm m bytes declaration) inside = refl
filled_inside v u (fails p a r) inside = refl
filled_inside v u stays inside = inside

-- a load that is under way stays so, and none begins
pub filled_open : (v u : ModuleSlot) (asset : Bool) → IsFilled v u → u ≡ Pending asset → v ≡ Pending asset
filled_open v u asset (script m text) e = absurd (let wrong : Stands (Js (record m { source = text })) ≡ Pending asset = e in cc)
filled_open v u asset (json m text) e = absurd (let wrong : Stands (Json (record m { source = text })) ≡ Pending asset = e in cc)
filled_open v u asset (wasm m bytes declaration) e = absurd (let wrong : Stands (Wasm (record m { source = bytes; source_dts = declaration })) ≡ Pending asset = e in cc)
filled_open v u asset (fails {e = err} p a r) e = absurd (let wrong : Failed err ≡ Pending asset = e in cc)
filled_open v u asset stays e = e

-- a module that is at hand alone stays
pub asset_unfilled : (v u : ModuleSlot) → IsFilled v u → is_asset_slot v ≡ true → u ≡ v
asset_unfilled v u (script m text) t = absurd (true≢false (sym t))
asset_unfilled v u (json m text) t = absurd (true≢false (sym t))
asset_unfilled v u (wasm m bytes declaration) t = absurd (true≢false (sym t))
asset_unfilled v u (fails p a r) t = absurd (true≢false (sym t ∙ a))
asset_unfilled v u stays t = refl

-- the module that stood there, with the same edges
pub record Before (v : ModuleSlot) (n : Module) : Type 0 where
  pub module_was : Module
  pub was : v ≡ Stands module_was
  pub edges : (kind : GraphKind) (skip : Bool) (c : LoadContext) → loads_of kind skip n c ≡ loads_of kind skip module_was c

pub filled_before : (v u : ModuleSlot) (n : Module) → IsFilled v u → u ≡ Stands n → Before v n
unfolding loads_of
filled_before v u n (script m text) e =
    let one : Js (record m { source = text }) ≡ n = cc in
    record { module_was = Js m; was = refl; edges = λ kind skip c. ap (λ (x : Module). loads_of kind skip x c) (sym one) }
filled_before v u n (json m text) e =
    let one : Json (record m { source = text }) ≡ n = cc in
    record { module_was = Json m; was = refl; edges = λ kind skip c. ap (λ (x : Module). loads_of kind skip x c) (sym one) }
filled_before v u n (wasm m bytes declaration) e =
    let one : Wasm (record m { source = bytes; source_dts = declaration }) ≡ n = cc in
    record { module_was = Wasm m; was = refl; edges = λ kind skip c. ap (λ (x : Module). loads_of kind skip x c) (sym one) }
filled_before v u n (fails {e = err} p a r) e = absurd (let wrong : Failed err ≡ Stands n = e in cc)
filled_before v u n stays e = record { module_was = n; was = e; edges = λ kind skip c. refl }

-- ---- filled again

-- the later one of two contents counts, or the error that the earlier one is
abbrev pub IsRefilled : List ℕ → List ℕ → ModuleSlot → Type 0
IsRefilled first second v = (filled_slot second (filled_slot first v) ≡ filled_slot second v) ⊎ (filled_slot second (filled_slot first v) ≡ filled_slot first v)

script_again : (m : JsModule) (second : List ℕ) (r p : Result ModuleTextSource DecodeFault) → content_text m.specifier second ≡ p → (filled_slot second (script_with m r) ≡ script_with m (content_text m.specifier second)) ⊎ (filled_slot second (script_with m r) ≡ script_with m r)
script_again m second (Err fault) p e = inr refl
script_again m second (Ok text) (Ok later) e = inl (ap (script_with (record m { source = text })) e ∙ sym (ap (script_with m) e))
script_again m second (Ok text) (Err fault) e = inl (ap (script_with (record m { source = text })) e ∙ sym (ap (script_with m) e))

json_again : (m : JsonModule) (second : List ℕ) (r p : Result ModuleTextSource DecodeFault) → content_text m.specifier second ≡ p → (filled_slot second (json_with m r) ≡ json_with m (content_text m.specifier second)) ⊎ (filled_slot second (json_with m r) ≡ json_with m r)
json_again m second (Err fault) p e = inr refl
json_again m second (Ok text) (Ok later) e = inl (ap (json_with (record m { source = text })) e ∙ sym (ap (json_with m) e))
json_again m second (Ok text) (Err fault) e = inl (ap (json_with (record m { source = text })) e ∙ sym (ap (json_with m) e))

wasm_again : (m : WasmModule) (first second : List ℕ) (r p : Result (List ℕ) WasmRefusal) → declaration_of second ≡ p → (filled_slot second (wasm_with m first r) ≡ wasm_with m second (declaration_of second)) ⊎ (filled_slot second (wasm_with m first r) ≡ wasm_with m first r)
wasm_again m first second (Err refusal) p e = inr refl
wasm_again m first second (Ok declaration) (Ok later) e = inl (ap (wasm_with (record m { source = first; source_dts = declaration }) second) e ∙ sym (ap (wasm_with m second) e))
wasm_again m first second (Ok declaration) (Err refusal) e = inl (ap (wasm_with (record m { source = first; source_dts = declaration }) second) e ∙ sym (ap (wasm_with m second) e))

pub refilled : (first second : List ℕ) (v : ModuleSlot) → IsRefilled first second v
refilled first second (Stands (Js m)) = script_again m second (content_text m.specifier first) (content_text m.specifier second) refl
refilled first second (Stands (Json m)) = json_again m second (content_text m.specifier first) (content_text m.specifier second) refl
refilled first second (Stands (Wasm m)) = wasm_again m first second (declaration_of first) (declaration_of second) refl
refilled first second (Stands (Npm m)) = inr refl
refilled first second (Stands (Node m)) = inr refl
refilled first second (Stands (External m)) = inr refl
refilled first second (Failed e) = inr refl
refilled first second (Pending asset) = inr refl

-- ---- a slot that is taken out and put back

-- is as one that is put in its place
pub put_back : (g : ModuleGraph) (s : Parts) (v : ModuleSlot) → with_slot (without_slot g s) s v ≡ put_at g (specifier_text s) v
put_back g s v = ap (λ (m : finite.FinMap text_cmp ModuleSlot). record g { slots = m }) (same_map nat_list_cmp_total (slice_cmp-IsAntisymmetric nat_cmp-IsAntisymmetric) (finite.insert (finite.remove g.slots k) k v) (finite.insert g.slots k v) same)
  where
    k : List ℕ
    k = specifier_text s

    same : (q : List ℕ) → finite.get (finite.insert (finite.remove g.slots k) k v) q ≡ finite.get (finite.insert g.slots k v) q
    same q = ⊎_elim
        (λ here. subst (λ z. finite.get (finite.insert (finite.remove g.slots k) k v) z ≡ finite.get (finite.insert g.slots k v) z) (sym here) (put_same (finite.remove g.slots k) k v ∙ sym (put_same g.slots k v)))
        (λ ne. put_other (finite.remove g.slots k) k v q ne ∙ cut_other g.slots k q ne ∙ sym (put_other g.slots k v q ne))
        (cases_text q k)
