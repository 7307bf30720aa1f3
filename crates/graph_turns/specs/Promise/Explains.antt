-- Which slots and redirects the world's answers give.
use Rattle.std.specs.Prelude.{◌≡◌, ◌⊎◌, true, false, ℕ, List, [], Contains, Ok, Err, Option, Some, None}
use Rattle.std.specs.FinMap as finite
use Rattle.url.specs.Parts.{Parts}
use Rattle.spec_base.specs.Specifier.{specifier_text}
use Rattle.spec_base.specs.declared.load_error.LoadError.{LoadError}
use Rattle.semver_npm.specs.declared.package.PackageNv.{PackageNv}
use Rattle.graph_core.specs.declared.graph.ModuleGraph.{ModuleGraph}
use Rattle.module_slots.specs.declared.load.LoadContext.{LoadContext}
use Rattle.module_slots.specs.declared.slot.ModuleSlot.{ModuleSlot}
use Rattle.module_slots.specs.declared.slot.ModuleSlot.TheVariants.{Err as Failed}
use Rattle.graph_errors.specs.Errors.{error_of, missing_error, redirects_error}
use Rattle.graph_errors.specs.declared.errors.ModuleError.{ModuleError}
use Rattle.graph_errors.specs.declared.errors.ModuleErrorKind.{ModuleErrorKind}
use Rattle.graph_errors.specs.declared.errors.ModuleErrorKind.TheVariants.{Load as LoadFails}
use Rattle.graph_errors.specs.declared.jsr_error.JsrLoadError.{JsrLoadError}
use Rattle.graph_errors.specs.declared.jsr_error.JsrLoadError.TheVariants.{PackageFormat, PackageReqNotFound, RedirectInPackage, UnsupportedManifestChecksum}
use Rattle.graph_errors.specs.declared.errors.ModuleLoadError.TheVariants.{Npm}
use Rattle.graph_errors.specs.declared.jsr_error.JsrPackageFormatError.{JsrPackageFormatError}
use Rattle.semver_npm.specs.References.{export_name}
use Rattle.semver_npm.specs.declared.npm_error.NpmLoadError.TheVariants.{PackageReqReferenceParse}
use Rattle.semver_npm.specs.declared.npm_error.PackageReqReferenceParseError.{PackageReqReferenceParseError}
use Rattle.semver_npm.specs.declared.reference.NpmPackageReqReference.{NpmPackageReqReference}
use Rattle.semver_npm.specs.declared.reference.PackageReqReference.{PackageReqReference}
use Rattle.pkg_versions.specs.Choice.{choice_of}
use Rattle.version_dates.specs.Dates.{limit_of}
use Rattle.version_dates.specs.declared.not_found.JsrPackageReqNotFoundError.{JsrPackageReqNotFoundError}
use Rattle.pkg_versions.specs.declared.package_info.JsrPackageInfo.{JsrPackageInfo}
use Rattle.registry_files.specs.declared.kept_version.KeptVersion.{KeptVersion}
use Rattle.graph_turns.specs.declared.exports.Export.{Export}
use Rattle.graph_turns.specs.Promise.Cached.{told_cached}
use Rattle.graph_turns.specs.Promise.Packages.{Fits, IsExport, IsLastFile, IsLookedFor, IsPackageFile, export_of, is_jsr, is_npm, jsr_named, npm_named, unjoinable}
use Rattle.graph_turns.specs.Promise.Versions.{told_version}
use Rattle.slot_making.specs.Filled.{filled_slot}
use Rattle.graph_core.specs.Graph.{redirect_at}
use Rattle.slot_making.specs.Made.{made_slot}
use Rattle.module_slots.specs.Slots.{failed_slot, is_asset_slot}
use Rattle.slot_making.specs.declared.source.Source.{Source}
use Rattle.source_sums.specs.Sums.{KnownSums}
use Rattle.graph_turns.specs.Machine.Sums.{slot_sum, sum_in}
use Rattle.graph_turns.specs.Promise.Contents.{content_error, content_of, content_told, told_content}
use Rattle.graph_turns.specs.Promise.Input.{EnteredGraph, Given, fresh_entry}
use Rattle.graph_turns.specs.declared.question_of.Asked.{Asked}
use Rattle.graph_turns.specs.declared.later_content.LaterContent.{LaterContent}
use Rattle.graph_turns.specs.declared.manner.Manner.TheVariants.{Unread, Unsupported}
use Rattle.graph_core.specs.Npm.{told_npm_slot}
use Rattle.graph_turns.specs.Promise.Told.{Told, making_of}
use Rattle.graph_turns.specs.Promise.Reached.{Reached, IsRedirected, IsSame}
use Rattle.graph_turns.specs.Promise.Refusals.{refusal_of}
use Rattle.graph_turns.specs.Promise.Slots.{external_slot, jsr_slot, node_slot}
use Rattle.graph_turns.specs.Promise.Forbidden.{forbidden}
use Rattle.graph_turns.specs.Promise.Taken.{Found, Outside, AtHand, Onward, Absent, Refused, CountsFor, HasName, is_asked, is_built_in, told_manner}

-- the error in the place of a module that a load refuses
abbrev pub refusal_error : Parts → LoadContext → Asked → LoadError → ModuleError
refusal_error s c asked e = error_of (LoadFails s c.range (refusal_of c asked e))

module _ (told : Told) (given : EnteredGraph) where
  -- a list of specifiers leads from the first to the last, each the name of a reached pair of the one before, or where
  -- that was redirected at entry
  pub data NamesLead : Parts → Parts → Type 0 where
    here : {s t : Parts} → IsSame s t → NamesLead s t
    onward : {s t n d : Parts} {e : LoadContext} → IsSame s t → Reached told given t e → IsRedirected told given t e n → NamesLead n d → NamesLead s d
    redirected_at : {s t n d : Parts} {e : LoadContext} → IsSame s t → Reached told given t e → redirect_at given.graph t ≡ Some n → NamesLead n d → NamesLead s d

  -- a redirect from a pair to a name ends at the pair: its hops are used up, or the name leads back
  abbrev pub EndsThere : Parts → LoadContext → Parts → Type 0
  EndsThere s c n = (c.hops ≡ told.world.max_redirects) ⊎ NamesLead n s

  -- a content that comes later: a reached pair's module is made by its info, since no cache has it
  pub record ComesLater (l : LaterContent) : Type 0 where
    pub asked : Asked
    pub source : Source
    pub reached : Reached told given l.specifier l.context
    pub takes : CountsFor told l.specifier l.context asked (Found source)
    pub comes : content_of l.specifier l.context asked source.info ≡ Some l

  -- a slot that a reached pair's module was made at by its info, and whose content is among those to come
  pub record Awaits (contents : List LaterContent) (k : List ℕ) (slot : ModuleSlot) : Type 0 where
    pub later : LaterContent
    pub among : Contains contents later
    pub is_later : ComesLater later
    pub named : specifier_text later.specifier ≡ k
    pub slot_is : slot ≡ made_slot (making_of told given.graph.kind) is_later.source later.context

  -- the pair (s, c) explains the slot at a text
  pub data Explains (s : Parts) (c : LoadContext) : List ℕ → ModuleSlot → Type 0 where
    -- a module, or the error that its bytes or its analysis are
    made : {asked : Asked} {source : Source} → CountsFor told s c asked (Found source) → source.info ≡ None → Explains s c (specifier_text source.name) (made_slot (making_of told given.graph.kind) source c)
    -- the same with a content that came later
    filled : {asked : Asked} {source : Source} {l : LaterContent} {content : List ℕ} → CountsFor told s c asked (Found source) → ComesLater l → IsSame l.specifier source.name → content_told l (told_content told l) ≡ Some content → Explains s c (specifier_text source.name) (filled_slot content (made_slot (making_of told given.graph.kind) source c))
    -- the error of a content that came later
    unfilled : {l : LaterContent} → ComesLater l → l.specifier ≡ s → l.context ≡ c → content_told l (told_content told l) ≡ None → Explains s c (specifier_text s) (Failed (content_error l (told_content told l)))
    -- a module that stands outside of the graph
    outside : {asked : Asked} {n : Parts} → CountsFor told s c asked (Outside n) → Explains s c (specifier_text n) (external_slot n false)
    -- a module that is at hand and isn't read
    at_hand : {asked : Asked} → CountsFor told s c asked AtHand → Explains s c (specifier_text s) (external_slot s c.asset)
    -- nothing is there
    missing : {asked : Asked} → CountsFor told s c asked Absent → Explains s c (specifier_text s) (Failed (missing_error s c.range))
    -- the loader's failure, or a source that isn't the one whose sum is known
    refused : {asked : Asked} {e : LoadError} → CountsFor told s c asked (Refused e) → Explains s c (specifier_text s) (Failed (refusal_error s c asked e))
    -- a redirect in a package, which isn't followed
    redirected : {asked : Asked} {n : Parts} {nv : PackageNv} → CountsFor told s c asked (Onward n) → asked.held ≡ Some nv → Explains s c (specifier_text s) (jsr_slot s c (RedirectInPackage n))
    -- the file of the version that its URL names can't be read: the error stands where the version lies
    unread_version : {n : Parts} {e : JsrLoadError} → is_asked told.known.flags s c ≡ true → told_manner told s c ≡ Unread n e → Explains s c (specifier_text n) (jsr_slot n c e)
    -- its version has its sum in no form that is known
    unsupported_sum : forbidden told.known.flags s c ≡ None → told_manner told s c ≡ Unsupported → Explains s c (specifier_text s) (jsr_slot s c UnsupportedManifestChecksum)
    -- redirects that end without a module
    ended : {asked : Asked} {n : Parts} → CountsFor told s c asked (Onward n) → asked.held ≡ None → EndsThere s c n → Explains s c (specifier_text s) (Failed (redirects_error s c.range))
    -- a `jsr:` specifier that names no package which can be looked for, and an `npm:` specifier that names none
    no_package : {e : JsrPackageFormatError} → is_jsr s ≡ true → forbidden told.known.flags s c ≡ None → jsr_named s ≡ Err e → Explains s c (specifier_text s) (jsr_slot s c (PackageFormat e))
    no_npm_package : {e : PackageReqReferenceParseError} → is_npm s ≡ true → forbidden told.known.flags s c ≡ None → npm_named s ≡ Err e → Explains s c (specifier_text s) (Failed (error_of (LoadFails s c.range (Npm (PackageReqReferenceParse e)))))
    -- an `npm:` specifier that waited for the end: its module, or the error of its requirement
    npm_resolved : {r : NpmPackageReqReference} → is_npm s ≡ true → told.known.flags.resolves_npm ≡ true → forbidden told.known.flags s c ≡ None → npm_named s ≡ Ok r → Explains s c (specifier_text s) (told_npm_slot told.npm s c r)
    -- a `jsr:` specifier that stands outside of the graph, as all of them do
    passed_through : {r : PackageReqReference} → is_jsr s ≡ true → forbidden told.known.flags s c ≡ None → jsr_named s ≡ Ok r → told.known.flags.passthrough_jsr ≡ true → Explains s c (specifier_text s) (external_slot s false)
    -- the file of its package can't be read
    package_unread : {r : PackageReqReference} {e : JsrLoadError} → IsLookedFor told s r → forbidden told.known.flags s c ≡ None → IsPackageFile told r.req.name (Err e) → Explains s c (specifier_text s) (jsr_slot s c e)
    -- no version of its package meets it, whatever versions the graph has
    not_met : {r : PackageReqReference} {info : JsrPackageInfo} {e : JsrPackageReqNotFoundError} → IsLookedFor told s r → forbidden told.known.flags s c ≡ None → IsLastFile told r.req.name (Ok info) → choice_of r.req info [] (told_cached told r.req.name info) (limit_of told.newest r.req.name) ≡ Err e → Explains s c (specifier_text s) (jsr_slot s c (PackageReqNotFound e))
    -- the file of a version that fits can't be read, or has no such export
    version_unread : {r : PackageReqReference} {nv : PackageNv} {e : JsrLoadError} → IsLookedFor told s r → forbidden told.known.flags s c ≡ None → Fits told given r.req nv → told_version told nv ≡ Err e → Explains s c (specifier_text s) (jsr_slot s c e)
    no_export : {r : PackageReqReference} {nv : PackageNv} {v : KeptVersion} {e : JsrLoadError} → IsLookedFor told s r → forbidden told.known.flags s c ≡ None → Fits told given r.req nv → told_version told nv ≡ Ok v → export_of v (export_name r.sub_path) ≡ Err e → Explains s c (specifier_text s) (jsr_slot s c e)
    -- an export that can't be joined with the URL of its version
    unjoined : {r : PackageReqReference} {nv : PackageNv} {v : KeptVersion} {e : Export} → IsLookedFor told s r → forbidden told.known.flags s c ≡ None → Fits told given r.req nv → told_version told nv ≡ Ok v → export_of v (export_name r.sub_path) ≡ Ok e → e.to ≡ None → Explains s c (specifier_text s) (jsr_slot s c (unjoinable nv e))
    -- an export that leads back to its `jsr:` specifier
    led_back : {nv : PackageNv} {n : Parts} → forbidden told.known.flags s c ≡ None → IsExport told given s nv n → NamesLead n s → Explains s c (specifier_text s) (Failed (redirects_error s c.range))
    -- a module of Node.js, which isn't asked for
    built_in : is_built_in s ≡ true → Explains s c (specifier_text s) (node_slot s)
    -- an asset that isn't taken
    forbidden_asset : {kind : ModuleErrorKind} → forbidden told.known.flags s c ≡ Some kind → Explains s c (specifier_text s) (failed_slot kind)

  -- some reached pair explains the slot at a text
  abbrev pub IsExplained : List ℕ → ModuleSlot → Type 0
  IsExplained k slot = (s : Parts) × (c : LoadContext) × Reached told given s c × Explains s c k slot

  -- some reached pair explains a module at a text whose source has this sum, from the network and no declaration
  abbrev pub IsSourceSum : List ℕ → List ℕ → Type 0
  IsSourceSum k sum = (slot : ModuleSlot) × IsExplained k slot × (slot_sum slot ≡ Some sum)

  -- each of some sums is so
  abbrev pub AreSourceSums : Option KnownSums → Type 0
  AreSourceSums sums = (k sum : List ℕ) → sum_in sums k ≡ Some sum → IsSourceSum k sum

  -- each sum that is known now, and wasn't as the build began, is so
  abbrev pub LearnsSources : Option KnownSums → Type 0
  LearnsSources now = (k sum : List ℕ) → sum_in told.known.sums k ≡ None → sum_in now k ≡ Some sum → IsSourceSum k sum

  -- some reached pair of this text is redirected so
  abbrev pub IsExplainedRedirect : List ℕ → Parts → Type 0
  IsExplainedRedirect k n = (s : Parts) × (c : LoadContext) × Reached told given s c × (specifier_text s ≡ k) × IsRedirected told given s c n

  -- an explained slot, or an explained redirect, stands at a text
  abbrev pub HasExplained : ModuleGraph → List ℕ → Type 0
  HasExplained g k = (slot : ModuleSlot) × (finite.get g.slots k ≡ Some slot) × IsExplained k slot

  abbrev pub HasExplainedRedirect : ModuleGraph → List ℕ → Type 0
  HasExplainedRedirect g k = (n : Parts) × (finite.get g.redirects k ≡ Some n) × IsExplainedRedirect k n

  -- what stood at a text at entry is gone for an explained one: a slot took its place, or a module that was at hand alone was asked
  -- for again and is redirected
  abbrev pub IsReplaced : ModuleGraph → List ℕ → ModuleSlot → Type 0
  IsReplaced g k old = HasExplained g k ⊎ ((is_asset_slot old ≡ true) × HasExplainedRedirect g k)

  -- a graph that a call leaves: each slot and redirect stood so at entry, or is what the world's answers give a load
  -- leading to it; and what stood at entry stands still, but where an explained one took its place
  pub record IsGrown (g : ModuleGraph) : Type 0 where
    pub slots : (k : List ℕ) (slot : ModuleSlot) → finite.get g.slots k ≡ Some slot → (finite.get given.graph.slots k ≡ Some slot) ⊎ IsExplained k slot
    pub redirects : (k : List ℕ) (n : Parts) → finite.get g.redirects k ≡ Some n → (finite.get given.graph.redirects k ≡ Some n) ⊎ IsExplainedRedirect k n
    pub slots_stay : (k : List ℕ) (slot : ModuleSlot) → finite.get given.graph.slots k ≡ Some slot → (finite.get g.slots k ≡ Some slot) ⊎ IsReplaced g k slot
    pub redirects_stay : (k : List ℕ) (n : Parts) → finite.get given.graph.redirects k ≡ Some n → (finite.get g.redirects k ≡ Some n) ⊎ HasExplainedRedirect g k

-- a graph that a build of what is given makes of the empty one: each slot and each redirect is what the world's answers
-- give an import leading to it
pub record AllExplained (told : Told) (given : Given) (g : ModuleGraph) : Type 0 where
  pub slots : (k : List ℕ) (slot : ModuleSlot) → finite.get g.slots k ≡ Some slot → IsExplained told (fresh_entry told given) k slot
  pub redirects : (k : List ℕ) (n : Parts) → finite.get g.redirects k ≡ Some n → IsExplainedRedirect told (fresh_entry told given) k n
