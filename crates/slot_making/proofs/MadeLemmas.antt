-- What is made whatever an analyzer tells.
use Rattle.std.proofs.Common.{◌≡◌, ℕ, List, Option, None, Some, IfSome, IfOk, true, bytes_eq, codes, sym, ap, ◌∙◌, if◌then◌else◌}
use Rattle.std.proofs.lemmas.Result.{IfOk-weaker}
use Rattle.std.specs.Prelude.{Result, Ok, Err}
use Rattle.media_types.specs.declared.media.MediaType.{MediaType}
use Rattle.spec_base.specs.declared.position.Range.{Range}
use Rattle.spec_base.specs.declared.refusal.Fault.{Fault}
use Rattle.module_info.specs.declared.types.ModuleInfo.{ModuleInfo}
use Rattle.module_info.specs.Infos.{Infos}
use Rattle.slot_making.specs.Made.{Making, asserted_slot, by_attribute, is_plain_type, plain_slot, unsupported_slot, wasm_by}
use Rattle.module_slots.specs.declared.load.LoadContext.{LoadContext}
use Rattle.module_slots.specs.declared.slot.ModuleSlot.{ModuleSlot}
use Rattle.module_slots.specs.declared.slot.ModuleSlot.TheVariants.{Err as Failed}
use Rattle.slot_making.specs.declared.source.Source.{Source}
use Rattle.graph_errors.specs.Errors.{wasm_error}
use Rattle.wasm_dts.specs.declared.refusal.WasmRefusal.{WasmRefusal}

-- what holds of no info holds of each that is told
pub whatever_is_told : (infos : Option Infos) (P : Type 0) → P → IfSome infos (λ listed. P)
whatever_is_told None P h = tt
whatever_is_told (Some listed) P h = h

-- under the attribute `json` that of its media
pub json_told : {E : Type 0} (r : Result ModuleSlot E) (infos : Option Infos) (making : Infos → Making) (source : Source) (media : MediaType) (c : LoadContext) (kind : List ℕ) (range : Range) → c.attribute ≡ Some (kind, range) → bytes_eq kind (codes "json") ≡ true → IfOk r (λ slot. slot ≡ asserted_slot source media range) → IfSome infos (λ listed. IfOk r (λ slot. slot ≡ by_attribute (making listed) source media c c.attribute))
json_told r None making source media c kind range is json made = tt
json_told r (Some listed) making source media c kind range is json made =
    IfOk-weaker r (λ slot. slot ≡ asserted_slot source media range) (λ slot. slot ≡ by_attribute (making listed) source media c c.attribute)
    (λ slot e. e ∙ sym (ap (by_attribute (making listed) source media c) is ∙ ap (λ b. if b then asserted_slot source media range else (if is_plain_type (making listed).config kind then plain_slot (making listed) source media c else unsupported_slot source.name kind range)) json))
    made

-- bytes that break a rule make its error
pub wasm_refused : {E : Type 0} (r : Result ModuleSlot E) (infos : Option Infos) (making : Infos → Making) (source : Source) (found : Result (List ℕ) WasmRefusal) (e : WasmRefusal) → found ≡ Err e → IfOk r (λ slot. slot ≡ Failed (wasm_error source.name source.mtime e)) → IfSome infos (λ listed. IfOk r (λ slot. slot ≡ wasm_by (making listed) source found))
wasm_refused r None making source found e is made = tt
wasm_refused r (Some listed) making source found e is made =
    IfOk-weaker r (λ slot. slot ≡ Failed (wasm_error source.name source.mtime e)) (λ slot. slot ≡ wasm_by (making listed) source found)
    (λ slot q. q ∙ sym (ap (wasm_by (making listed) source) is))
    made

-- a script is made by the info that is told of its text, under whatever name that was read
pub script_made : {E : Type 0} (r : Result ModuleSlot E) (infos : Option Infos) (info : ModuleInfo) (expected : Infos → List ℕ → Result ModuleInfo Fault) (make : Result ModuleInfo Fault → ModuleSlot) (read own : List ℕ) → read ≡ own → IfSome infos (λ i. expected i read ≡ Ok info) → IfOk r (λ slot. slot ≡ make (Ok info)) → IfSome infos (λ i. IfOk r (λ slot. slot ≡ make (expected i own)))
script_made r None info expected make read own same answered made = tt
script_made r (Some i) info expected make read own same answered made =
    IfOk-weaker r (λ slot. slot ≡ make (Ok info)) (λ slot. slot ≡ make (expected i own)) (λ slot e. e ∙ sym (ap make (sym (ap (expected i) same) ∙ answered))) made
