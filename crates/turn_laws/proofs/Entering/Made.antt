-- What answers give is final, and at hand alone only at the own specifier of an asset; it suits the load, whoever answers.
use Rattle.std.proofs.Common.{◌≡◌, ℕ, Bool, true, false, List, Option, None, Some, Result, Ok, Err, if◌then◌else◌, refl, sym, ◌∙◌, subst}
use Rattle.std.specs.Prelude.{⊤, ◌&&◌, bytes_eq, codes}
use Rattle.std.proofs.lemmas.Bool.{true≢false}
use Rattle.media_types.specs.declared.media.MediaType.{MediaType}
use Rattle.media_types.specs.declared.media.MediaType.TheVariants.{Dmts, Wasm as WasmMedia}
use Rattle.spec_base.specs.declared.position.Range.{Range}
use Rattle.media_types.specs.declared.decoding.DecodeFault.{DecodeFault}
use Rattle.media_types.specs.declared.decoding.ModuleTextSource.{ModuleTextSource}
use Rattle.spec_base.specs.declared.refusal.Fault.{Fault}
use Rattle.module_info.specs.declared.types.ModuleInfo.{ModuleInfo}
use Rattle.url.specs.Parts.{Parts}
use Rattle.spec_base.specs.Options.{by_option}
use Rattle.semver_npm.specs.declared.package.PackageNv.{PackageNv}
use Rattle.source_io.specs.declared.types.Answer.{Answer}
use Rattle.source_io.specs.declared.types.Answer.TheVariants.{Load as Loaded, Ensure}
use Rattle.source_io.specs.declared.types.CacheResponse.{CacheResponse}
use Rattle.source_io.specs.declared.types.CacheResponse.TheVariants.{Cached, Redirect as CacheRedirect}
use Rattle.source_io.specs.declared.types.LoadResponse.{LoadResponse}
use Rattle.source_io.specs.declared.types.LoadResponse.TheVariants.{External as FromOutside, Redirect, Module as FromModule}
use Rattle.source_io.specs.declared.types.World.{World}
use Rattle.graph_errors.specs.Errors.{jsr_error}
use Rattle.graph_errors.specs.declared.errors.ModuleError.{ModuleError}
use Rattle.graph_errors.specs.declared.errors.ModuleErrorKind.{ModuleErrorKind}
use Rattle.graph_errors.specs.declared.errors.ModuleErrorKind.TheVariants.{Load as LoadFails}
use Rattle.graph_errors.specs.declared.errors.ModuleLoadError.{ModuleLoadError}
use Rattle.graph_errors.specs.declared.errors.ModuleLoadError.TheVariants.{Jsr}
use Rattle.graph_errors.specs.declared.jsr_error.JsrLoadError.{JsrLoadError}
use Rattle.graph_errors.specs.declared.jsr_error.JsrLoadError.TheVariants.{RedirectInPackage}
use Rattle.import_records.specs.Importing.{Importing}
use Rattle.graph_dependencies.specs.declared.graph_kind.GraphKind.{GraphKind}
use Rattle.module_slots.specs.declared.load.Load.{Load}
use Rattle.module_slots.specs.declared.load.LoadContext.{LoadContext}
use Rattle.module_slots.specs.declared.slot.JsModule.{JsModule}
use Rattle.module_slots.specs.declared.slot.JsonModule.{JsonModule}
use Rattle.graph_turns.specs.declared.question_of.Asked.{Asked}
use Rattle.graph_turns.specs.declared.outcome.Outcome.{Outcome}
use Rattle.graph_turns.specs.declared.outcome.Outcome.TheVariants.{At, To}
use Rattle.graph_turns.specs.Machine.Known.{Known}
use Rattle.module_slots.specs.declared.slot.Module.TheVariants.{Js, Json, Wasm}
use Rattle.module_slots.specs.declared.slot.ModuleSlot.{ModuleSlot}
use Rattle.module_slots.specs.declared.slot.ModuleSlot.TheVariants.{Module as Stands, Err as Failed}
use Rattle.module_slots.specs.declared.slot.WasmModule.{WasmModule}
use Rattle.slot_making.specs.declared.source.Source.{Source}
use Rattle.import_records.specs.Records.{is_wasm}
use Rattle.wasm_dts.specs.declared.refusal.WasmRefusal.{WasmRefusal}
use Rattle.slot_making.specs.Made.{Making, asserted_slot, by_attribute, by_info, by_phase, declaration_by, importing_at, is_json, is_plain_type, is_supported_media, json_by, made_slot, media_under, plain_slot, refused_slot, script_by, suits_source_phase, takes_json, text_in, told_info, types_header, unphased_slot, unsupported_slot, wasm_by, wasm_by_info}
use Rattle.module_slots.specs.Slots.{is_asset_slot, is_pending}
use Rattle.graph_turns.specs.Machine.Outcomes.{Suits, failed_outcome, failure_outcome, outcome_of}
use Rattle.graph_turns.specs.Machine.Outcomes.Suits.{settles, comes, goes_on}
use Rattle.graph_turns.specs.Promise.Contents.{content_of}
use Rattle.graph_turns.specs.Promise.Taken.{Taken, Found, Outside, AtHand, Onward, Absent, Refused, asks_again, counted_by, first_to, info_for, or_info, redirect_sum, redirect_under, second_to, taken_answer, taken_cached, taken_form, taken_response}
use Rattle.graph_turns.specs.Machine.Entering.{IsFinal}

-- the error of a registry that an error is
abbrev pub registry_load : ModuleLoadError → Option JsrLoadError
registry_load (Jsr e) = Some e
registry_load e = None

abbrev pub registry_kind : ModuleErrorKind → Option JsrLoadError
registry_kind (LoadFails s range e) = registry_load e
registry_kind kind = None

-- what holds of errors that are none of a registry, of scripts, of JSON and of WebAssembly holds of what a source makes
module _ (P : ModuleSlot → Type 0) (fails : (e : ModuleError) → registry_kind e.0 ≡ None → P (Failed e)) (scripts : (m : JsModule) → P (Stands (Js m))) (jsons : (m : JsonModule) → P (Stands (Json m))) (wasms : (m : WasmModule) → P (Stands (Wasm m))) where
  -- of two slots of which it holds
  either : (b : Bool) (x y : ModuleSlot) → P x → P y → P (if b then x else y)
  either true x y p q = p
  either false x y p q = q

  info_makes : (a : Importing) (kind : GraphKind) (skip : Bool) (header : Option (List ℕ)) (mtime : Option ℕ) (text : ModuleTextSource) (r : Result ModuleInfo Fault) → P (by_info a kind skip header mtime text r)
  info_makes a kind skip header mtime text (Ok info) = scripts _
  info_makes a kind skip header mtime text (Err fault) = fails _ refl

  script_makes : (making : Making) (source : Source) (media : MediaType) (r : Result ModuleTextSource DecodeFault) → P (script_by making source media r)
  script_makes making source media (Ok text) =
      info_makes (importing_at making source.name media) making.kind making.skip_dynamic_deps (types_header source.headers) source.mtime text (told_info making.infos making.paths source.info source.name text.text media)
  script_makes making source media (Err fault) = fails _ refl

  json_makes : (source : Source) (r : Result ModuleTextSource DecodeFault) → P (json_by source r)
  json_makes source (Ok text) = jsons _
  json_makes source (Err fault) = fails _ refl

  wasm_info_makes : (a : Importing) (kind : GraphKind) (skip : Bool) (mtime : Option ℕ) (bytes declaration : List ℕ) (r : Result ModuleInfo Fault) → P (wasm_by_info a kind skip mtime bytes declaration r)
  wasm_info_makes a kind skip mtime bytes declaration (Ok info) = wasms _
  wasm_info_makes a kind skip mtime bytes declaration (Err fault) = fails _ refl

  wasm_makes : (making : Making) (source : Source) (r : Result (List ℕ) WasmRefusal) → P (wasm_by making source r)
  wasm_makes making source (Ok declaration) =
      wasm_info_makes (importing_at making source.name WasmMedia) making.kind making.skip_dynamic_deps source.mtime source.content declaration (told_info making.infos making.paths source.info source.name declaration Dmts)
  wasm_makes making source (Err refusal) = fails _ refl

  plain_makes : (making : Making) (source : Source) (media : MediaType) (c : LoadContext) → P (plain_slot making source media c)
  plain_makes making source media c =
      either (is_json media && takes_json c) _ _ (json_makes source (text_in source))
      (either (is_supported_media source.name media) _ _ (script_makes making source media (text_in source))
      (either (is_wasm media) _ _ (wasm_makes making source (declaration_by source.info source.content)) (fails _ refl)))

  attribute_makes : (making : Making) (source : Source) (media : MediaType) (c : LoadContext) (a : Option (List ℕ × Range)) → P (by_attribute making source media c a)
  attribute_makes making source media c None = plain_makes making source media c
  attribute_makes making source media c (Some a) =
      either (bytes_eq a.0 (codes "json")) _ _ (either (is_json media) _ _ (json_makes source (text_in source)) (fails _ refl))
      (either (is_plain_type making.config a.0) _ _ (plain_makes making source media c) (fails _ refl))

  phase_makes : (making : Making) (source : Source) (media : MediaType) (c : LoadContext) (phase : Option Range) → P (by_phase making source media c phase)
  phase_makes making source media c None = attribute_makes making source media c c.attribute
  phase_makes making source media c (Some range) =
      either (suits_source_phase media c.attribute) _ _ (attribute_makes making source media c c.attribute) (fails _ refl)

  pub makes : (making : Making) (source : Source) (c : LoadContext) → P (made_slot making source c)
  unfolding made_slot
  makes making source c = phase_makes making source (media_under source c) c c.source_phase

-- a source makes nothing that is pending, and no module that is at hand alone
pub made_final : (making : Making) (source : Source) (c : LoadContext) → is_pending (made_slot making source c) ≡ false
made_final making source c = makes (λ v. is_pending v ≡ false) (λ e other. refl) (λ m. refl) (λ m. refl) (λ m. refl) making source c

pub made_inside : (making : Making) (source : Source) (c : LoadContext) → is_asset_slot (made_slot making source c) ≡ false
made_inside making source c = makes (λ v. is_asset_slot v ≡ false) (λ e other. refl) (λ m. refl) (λ m. refl) (λ m. refl) making source c

-- an error is final
failed_final : (load : Load) (name : Parts) (e : ModuleError) (held : Option PackageNv) → IsFinal load (At name (Failed e) held None)
failed_final load name e held = (refl, λ a. absurd (true≢false (sym a)))

module _ (making : Making) (load : Load) (asked : Asked) where
  redirect_final : (held : Option PackageNv) (n : Parts) → IsFinal load (by_option held (To n) (λ nv. failed_outcome load.specifier load.context (Some nv) (Jsr (RedirectInPackage n))))
  redirect_final None n = tt
  redirect_final (Some nv) n = failed_final load load.specifier (jsr_error load.specifier load.context.range (RedirectInPackage n)) (Some nv)

  pub outcome_final : (x : Taken) → IsFinal load (outcome_of making load.specifier load.context asked x)
  outcome_final (Found source) = (made_final making source load.context, λ a. absurd (true≢false (sym a ∙ made_inside making source load.context)))
  outcome_final (Outside name) = (refl, λ a. absurd (true≢false (sym a)))
  outcome_final AtHand = (refl, λ a. (refl, a))
  outcome_final (Onward name) = redirect_final asked.held name
  outcome_final Absent = (refl, λ a. absurd (true≢false (sym a)))
  outcome_final (Refused e) = (refl, λ a. absurd (true≢false (sym a)))

pub failure_final : (load : Load) (name : Parts) (e : JsrLoadError) → IsFinal load (failure_outcome load.context name e)
failure_final load name e = failed_final load name (jsr_error name load.context.range e) load.context.«package»

-- ---- what suits a load

-- no source that an answer gives has an info
abbrev pub IsPlain : Taken → Type 0
IsPlain (Found source) = source.info ≡ None
IsPlain (Outside name) = ⊤
IsPlain AtHand = ⊤
IsPlain (Onward name) = ⊤
IsPlain Absent = ⊤
IsPlain (Refused e) = ⊤

plain_redirect : (sum : Option (List ℕ)) (n : Parts) → IsPlain (redirect_under sum n)
plain_redirect None n = tt
plain_redirect (Some sum) n = tt

pub plain_response : (sum : Option (List ℕ)) (response : LoadResponse) → IsPlain (taken_response sum response)
plain_response sum (FromModule content mtime name headers) = refl
plain_response sum (FromOutside name) = tt
plain_response sum (Redirect name) = plain_redirect sum name

plain_cached : (sum : Option (List ℕ)) (response : CacheResponse) → IsPlain (taken_cached sum response)
plain_cached sum Cached = tt
plain_cached sum (CacheRedirect name) = plain_redirect sum name

pub plain_form : (sum : Option (List ℕ)) (a : Answer) → IsPlain (taken_form sum a)
plain_form sum (Loaded (Ok (Some response))) = plain_response sum response
plain_form sum (Loaded (Ok None)) = tt
plain_form sum (Loaded (Err e)) = tt
plain_form sum (Ensure (Ok (Some response))) = plain_cached sum response
plain_form sum (Ensure (Ok None)) = tt
plain_form sum (Ensure (Err e)) = tt

module _ (making : Making) (load : Load) (asked : Asked) where
  -- an error at the own specifier, where the load counts
  pub suits_failed : (held : Option PackageNv) (e : ModuleError) → asked.held ≡ held → Suits load asked (At load.specifier (Failed e) held None)
  suits_failed held e is = subst (λ h. Suits load asked (At load.specifier (Failed e) h None)) is settles

  suits_redirect : (held : Option PackageNv) (n : Parts) → asked.held ≡ held → Suits load asked (by_option held (To n) (λ nv. failed_outcome load.specifier load.context (Some nv) (Jsr (RedirectInPackage n))))
  suits_redirect None n is = goes_on is
  suits_redirect (Some nv) n is = suits_failed (Some nv) (jsr_error load.specifier load.context.range (RedirectInPackage n)) is

  suits_plain : (x : Taken) → IsPlain x → Suits load asked (outcome_of making load.specifier load.context asked x)
  suits_plain (Found source) plain = subst (λ i. Suits load asked (At source.name (made_slot making source load.context) asked.held (content_of load.specifier load.context asked i))) (sym plain) settles
  suits_plain (Outside name) plain = settles
  suits_plain AtHand plain = settles
  suits_plain (Onward name) plain = suits_redirect asked.held name refl
  suits_plain Absent plain = settles
  suits_plain (Refused e) plain = settles

  -- where a module is made by its info, its own content comes later
  pub suits_or : (info : Option ModuleInfo) (x : Taken) → ((i : ModuleInfo) → info ≡ Some i → load.context.asset ≡ false) → IsPlain x → Suits load asked (outcome_of making load.specifier load.context asked (or_info load.specifier info x))
  suits_or None x read plain = suits_plain x plain
  suits_or (Some info) (Found source) read plain = suits_plain (Found source) plain
  suits_or (Some info) (Outside name) read plain = settles
  suits_or (Some info) AtHand read plain = settles
  suits_or (Some info) (Onward name) read plain = suits_redirect asked.held name refl
  suits_or (Some info) Absent read plain = comes (read info refl)
  suits_or (Some info) (Refused e) read plain = settles

  -- an info counts for no asset
  info_read : (i : ModuleInfo) → info_for load.context asked ≡ Some i → load.context.asset ≡ false
  info_read i = by asked.info load.context.asset
    where
      by : (info : Option ModuleInfo) (asset : Bool) → by_option info None (λ x. if asset then None else Some x) ≡ Some i → asset ≡ false
      by None asset e = absurd (let wrong : None ≡ Some i = e in cc)
      by (Some x) true e = absurd (let wrong : None ≡ Some i = e in cc)
      by (Some x) false e = refl

  -- what the answer that counts gives
  pub outcome_suits : (w : World) (known : Known) → Suits load asked (outcome_of making load.specifier load.context asked (taken_answer w known asked load.specifier load.context))
  outcome_suits w known = suits_or (info_for load.context asked) _ info_read
      (plain_form (redirect_sum asked) (counted_by (first_to w known asked load.specifier load.context) (second_to w known asked load.specifier load.context) (asks_again asked (first_to w known asked load.specifier load.context))))
