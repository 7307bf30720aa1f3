-- Where a slot says that no version meets a requirement, none does, whatever versions stand.
use Rattle.std.proofs.Common.{◌≡◌, ℕ, List, [], Bool, true, false, if◌then◌else◌, Option, None, Some, Result, Ok, Err, refl, sym, ap, ◌∙◌, subst, inl, inr, ⊎_elim, ◌⊎◌}
use Rattle.std.specs.Prelude.{option_map}
use Rattle.std.specs.FinMap as finite
use Rattle.std.specs.Map.{lookup}
use Rattle.std.specs.Option.{option_or}
use Rattle.url.specs.Parts.{Parts}
use Rattle.media_types.specs.Media.{media_of_specifier}
use Rattle.spec_base.specs.Options.{by_option}
use Rattle.spec_base.specs.declared.load_error.LoadError.{LoadError}
use Rattle.spec_base.specs.declared.load_error.LoadError.TheVariants.{ChecksumIntegrity, Other}
use Rattle.spec_base.specs.declared.position.Range.{Range}
use Rattle.spec_base.specs.declared.refusal.Fault.{Fault}
use Rattle.module_info.specs.declared.types.ModuleInfo.{ModuleInfo}
use Rattle.semver_npm.specs.References.{export_name}
use Rattle.semver_npm.specs.declared.package.PackageNv.{PackageNv}
use Rattle.semver_npm.specs.declared.package.PackageReq.{PackageReq}
use Rattle.semver_npm.specs.declared.reference.NpmPackageReqReference.{NpmPackageReqReference}
use Rattle.pkg_versions.specs.Choice.{choice_of}
use Rattle.version_dates.specs.Dates.{limit_of}
use Rattle.pkg_records.specs.Kept.{versions_of}
use Rattle.pkg_versions.specs.RegistryFiles.{package_file}
use Rattle.version_dates.specs.declared.not_found.JsrPackageReqNotFoundError.{JsrPackageReqNotFoundError}
use Rattle.pkg_versions.specs.declared.package_info.JsrPackageInfo.{JsrPackageInfo}
use Rattle.source_io.specs.declared.types.LoadResponse.{LoadResponse}
use Rattle.source_io.specs.declared.types.LoadResponse.TheVariants.{External, Redirect, Module}
use Rattle.registry_files.specs.Answers.{FileAnswer, package_answer, read_package, read_version, version_answer, version_failure}
use Rattle.registry_files.specs.VersionFiles.{version_file_in}
use Rattle.registry_files.specs.declared.kept_version.KeptVersion.{KeptVersion}
use Rattle.registry_files.specs.declared.version_file.VersionFile.{VersionFile}
use Rattle.registry_urls.specs.Meaning.{RegistryMeaning}
use Rattle.graph_errors.specs.Errors.{error_of}
use Rattle.graph_errors.specs.declared.errors.ModuleErrorKind.{ModuleErrorKind}
use Rattle.graph_errors.specs.declared.errors.ModuleErrorKind.TheVariants.{Load as LoadFails, UnsupportedImportAttributeType, UnsupportedModuleTypeForSourcePhaseImport}
use Rattle.graph_errors.specs.declared.errors.ModuleLoadError.TheVariants.{HttpsChecksumIntegrity, Jsr, Loader}
use Rattle.graph_errors.specs.declared.jsr_error.JsrLoadError.{JsrLoadError}
use Rattle.graph_errors.specs.declared.jsr_error.JsrLoadError.TheVariants.{ContentChecksumIntegrity, PackageManifestLoad, PackageReqNotFound, PackageVersionManifestLoad, UnknownExport}
use Rattle.slot_making.specs.Filled.{filled_slot}
use Rattle.slot_making.specs.Made.{Making, made_slot, suits_source_phase}
use Rattle.module_slots.specs.Slots.{failed_slot}
use Rattle.graph_core.specs.declared.graph.ModuleGraph.{ModuleGraph}
use Rattle.module_slots.specs.declared.load.LoadContext.{LoadContext}
use Rattle.module_slots.specs.declared.slot.ModuleSlot.{ModuleSlot}
use Rattle.module_slots.specs.declared.slot.ModuleSlot.TheVariants.{Module as Stands, Err as Failed, Pending}
use Rattle.slot_making.specs.declared.source.Source.{Source}
use Rattle.graph_turns.specs.declared.question_of.Asked.{Asked}
use Rattle.graph_turns.specs.declared.exports.Export.{Export}
use Rattle.graph_turns.specs.declared.flags.Flags.{Flags}
use Rattle.graph_turns.specs.declared.later_content.LaterContent.{LaterContent}
use Rattle.graph_turns.specs.declared.manner.Manner.{Manner}
use Rattle.graph_turns.specs.declared.manner.Manner.TheVariants.{Asks, Reads, Unread, Unsupported}
use Rattle.graph_turns.specs.declared.registry.RegistryFile.TheVariants.{Package, PackageAgain, Version}
use Rattle.graph_turns.specs.Machine.Manners.{asked_along, asked_by_url, asked_outside}
use Rattle.graph_turns.specs.Promise.Cached.{told_cached}
use Rattle.graph_turns.specs.Promise.Choices.{HasChoices, IsNotMet, SaysNotMet}
use Rattle.graph_turns.specs.Promise.Contents.{content_error, content_fault, told_content}
use Rattle.graph_turns.specs.Promise.Explains.{Explains, IsExplained, refusal_error}
use Rattle.graph_turns.specs.Promise.Explains.Explains.{made, filled, unfilled, outside, at_hand, missing, refused, redirected, unread_version, unsupported_sum, ended, no_package, no_npm_package, npm_resolved, passed_through, package_unread, not_met, version_unread, no_export, unjoined, led_back, built_in, forbidden_asset}
use Rattle.graph_turns.specs.Promise.Forbidden.{Attribute, allows_type, attribute_refusal, forbidden, source_phase_refusal}
use Rattle.graph_turns.specs.Promise.Input.{EnteredGraph}
use Rattle.graph_core.specs.Npm.{NpmResult, npm_result, npm_slot}
use Rattle.graph_turns.specs.Promise.Packages.{IsLastFile, IsPackageFile, export_by, export_of}
use Rattle.graph_turns.specs.Promise.Packages.IsPackageFile.{served, asked_again}
use Rattle.graph_turns.specs.Promise.Slots.{jsr_slot}
use Rattle.graph_turns.specs.Promise.Taken.{info_for, told_manner}
use Rattle.graph_turns.specs.Promise.Told.{Told, making_of}
use Rattle.graph_turns.specs.Promise.Versions.{kept_at, told_file, told_files, told_package, told_package_again, told_version}
use Rattle.turn_laws.proofs.Entering.Made.{makes, registry_kind}
use Rattle.graph_turns.proofs.Entering.Manners.{Mannered, how_mannered}
use Rattle.graph_turns.proofs.Entering.Manners.Mannered.{along, along_unstated, outside as outside_packages, reads, unread, by_url, by_url_unstated}
use Rattle.turn_laws.proofs.Promise.Choosing.{none_of, one_or}
use Rattle.turn_laws.proofs.Promise.Filling.{IsFilled, how_filled}
use Rattle.turn_laws.proofs.Promise.Filling.IsFilled.{script, json, wasm, fails, stays}
use Rattle.turn_laws.proofs.Promise.GraphKept.{GraphKept, IsOpenSlot, IsStoodOrAccounted}
use Rattle.turn_laws.proofs.Promise.PackagesKept.{PackagesKept, has_picked}

-- ---- which slots say so

abbrev unmet_in : JsrLoadError → Option JsrPackageReqNotFoundError
unmet_in (PackageReqNotFound e) = Some e
unmet_in e = None

abbrev unmet_by : Option JsrLoadError → Option JsrPackageReqNotFoundError
unmet_by o = by_option o None unmet_in

-- the requirement that a slot says isn't met
abbrev pub unmet_of : ModuleSlot → Option JsrPackageReqNotFoundError
unmet_of (Stands m) = None
unmet_of (Failed e) = unmet_by (registry_kind e.0)
unmet_of (Pending asset) = None

-- what a source makes doesn't
-- no `npm:` specifier says that no version meets a requirement
pub npm_met : (s : Parts) (c : LoadContext) (r : NpmPackageReqReference) (said : NpmResult) → unmet_of (npm_slot s c r said) ≡ None
npm_met s c r (Ok v) = refl
npm_met s c r (Err x) = refl

made_met : (making : Making) (source : Source) (c : LoadContext) → unmet_of (made_slot making source c) ≡ None
made_met making source c = makes (λ v. unmet_of v ≡ None) (λ e other. ap unmet_by other) (λ m. refl) (λ m. refl) (λ m. refl) making source c

filled_met : (v u : ModuleSlot) → IsFilled v u → unmet_of v ≡ None → unmet_of u ≡ None
filled_met v u (script m text) none = refl
filled_met v u (json m text) none = refl
filled_met v u (wasm m bytes declaration) none = refl
filled_met v u (fails p a other) none = ap unmet_by other
filled_met v u stays none = none

-- nor do failures of contents and of loads
fault_met : (response : LoadResponse) → unmet_in (content_fault response) ≡ None
fault_met (Module content mtime name headers) = refl
fault_met (External name) = refl
fault_met (Redirect name) = refl

content_met : (l : LaterContent) (a : FileAnswer) → unmet_of (Failed (content_error l a)) ≡ None
content_met l (Ok (Some response)) = fault_met response
content_met l (Ok None) = refl
content_met l (Err e) = refl

refusal_met : (s : Parts) (c : LoadContext) (asked : Asked) (e : LoadError) → unmet_of (Failed (refusal_error s c asked e)) ≡ None
refusal_met s c asked (Other fault) = refl
refusal_met s c asked (ChecksumIntegrity e) = by asked.held (info_for c asked)
  where
    by : (held : Option PackageNv) (info : Option ModuleInfo) → unmet_of (Failed (error_of (LoadFails s c.range (by_option held (HttpsChecksumIntegrity e) (λ nv. by_option info (Jsr (ContentChecksumIntegrity e)) (λ i. Loader (ChecksumIntegrity e))))))) ≡ None
    by None info = refl
    by (Some nv) None = refl
    by (Some nv) (Some i) = refl

-- nor errors of files of the registry, and of exports
error_met : {T : Type 0} (x e : JsrLoadError) → unmet_in x ≡ None → ◌≡◌ {A = Result T JsrLoadError} (Err x) (Err e) → unmet_in e ≡ None
error_met x e none is = let same : x ≡ e = cc in subst (λ z. unmet_in z ≡ None) same none

read_package_met : (name : List ℕ) (r : Result JsrPackageInfo Fault) (e : JsrLoadError) → read_package name r ≡ Err e → unmet_in e ≡ None
read_package_met name (Ok info) e is = absurd (let wrong : Ok info ≡ Err e = is in cc)
read_package_met name (Err fault) e is = error_met (PackageManifestLoad name (Other fault)) e refl is

package_met : (name : List ℕ) (a : FileAnswer) (e : JsrLoadError) → package_answer name a ≡ Err e → unmet_in e ≡ None
unfolding package_answer
package_met name (Ok (Some (Module content mtime s headers))) e is = read_package_met name (package_file content) e is
package_met name (Ok (Some (External s))) e is = error_met _ e refl is
package_met name (Ok (Some (Redirect s))) e is = error_met _ e refl is
package_met name (Ok None) e is = error_met _ e refl is
package_met name (Err x) e is = error_met (PackageManifestLoad name x) e refl is

read_version_met : (nv : PackageNv) (r : Result VersionFile Fault) (e : JsrLoadError) → read_version nv r ≡ Err e → unmet_in e ≡ None
read_version_met nv (Ok file) e is = absurd (let wrong : Ok file ≡ Err e = is in cc)
read_version_met nv (Err fault) e is = error_met (PackageVersionManifestLoad nv fault) e refl is

failure_met : (nv : PackageNv) (x : LoadError) → unmet_in (version_failure nv x) ≡ None
failure_met nv (ChecksumIntegrity x) = refl
failure_met nv (Other fault) = refl

version_met : (nv : PackageNv) (a : FileAnswer) (e : JsrLoadError) → version_answer nv a ≡ Err e → unmet_in e ≡ None
unfolding version_answer
version_met nv (Ok (Some (Module content mtime s headers))) e is = read_version_met nv (version_file_in content) e is
version_met nv (Ok (Some (External s))) e is = error_met _ e refl is
version_met nv (Ok (Some (Redirect s))) e is = error_met _ e refl is
version_met nv (Ok None) e is = error_met _ e refl is
version_met nv (Err x) e is = error_met (version_failure nv x) e (failure_met nv x) is

-- what isn't kept of a version's file is an error of the answer
unkept : (url : Parts) (nv : PackageNv) (r : Result VersionFile JsrLoadError) (e : JsrLoadError) → kept_at url nv r ≡ Err e → r ≡ Err e
unkept url nv (Ok file) e is = absurd (let wrong : Ok (record { nv = nv; url = url; file = file }) ≡ Err e = is in cc)
unkept url nv (Err x) e is = let same : x ≡ e = cc in subst (λ (z : JsrLoadError). ◌≡◌ {A = Result VersionFile JsrLoadError} (Err x) (Err z)) same refl

export_met : (v : KeptVersion) (name : List ℕ) (o : Option (List ℕ)) (e : JsrLoadError) → export_by v name o ≡ Err e → unmet_in e ≡ None
export_met v name None e is = error_met _ e refl is
export_met v name (Some value) e is = absurd (let wrong : ◌≡◌ {A = Result Export JsrLoadError} (export_by v name (Some value)) (Err e) = is in cc)

-- nor assets that are refused
kind_same : (x kind : ModuleErrorKind) → Some x ≡ Some kind → x ≡ kind
kind_same x kind is = cc

phase_met : (s : Parts) (attribute : Option Attribute) (phase : Option Range) (kind : ModuleErrorKind) → source_phase_refusal s attribute phase ≡ Some kind → registry_kind kind ≡ None
phase_met s attribute None kind is = absurd (let wrong : None ≡ Some kind = is in cc)
phase_met s attribute (Some range) kind is = by (suits_source_phase (media_of_specifier s) attribute) is
  where
    by : (b : Bool) → (if b then None else Some (UnsupportedModuleTypeForSourcePhaseImport s range (media_of_specifier s) (option_map (λ a. a.0) attribute))) ≡ Some kind → registry_kind kind ≡ None
    by true is = absurd (let wrong : None ≡ Some kind = is in cc)
    by false is = subst (λ k. registry_kind k ≡ None) (kind_same _ kind is) refl

attribute_met : (f : Flags) (s : Parts) (attribute : Option Attribute) (kind : ModuleErrorKind) → attribute_refusal f s attribute ≡ Some kind → registry_kind kind ≡ None
attribute_met f s None kind is = absurd (let wrong : None ≡ Some kind = is in cc)
attribute_met f s (Some a) kind is = by (allows_type f a.0) is
  where
    by : (b : Bool) → (if b then None else Some (UnsupportedImportAttributeType s a.1 a.0)) ≡ Some kind → registry_kind kind ≡ None
    by true is = absurd (let wrong : None ≡ Some kind = is in cc)
    by false is = subst (λ k. registry_kind k ≡ None) (kind_same _ kind is) refl

forbidden_met : (f : Flags) (s : Parts) (c : LoadContext) (kind : ModuleErrorKind) → forbidden f s c ≡ Some kind → registry_kind kind ≡ None
forbidden_met f s c kind is = by c.asset is
  where
    by : (b : Bool) → (if b then option_or (source_phase_refusal s c.attribute c.source_phase) (attribute_refusal f s c.attribute) else None) ≡ Some kind → registry_kind kind ≡ None
    by true is = ⊎_elim (phase_met s c.attribute c.source_phase kind) (attribute_met f s c.attribute kind) (one_or (source_phase_refusal s c.attribute c.source_phase) (attribute_refusal f s c.attribute) kind is)
    by false is = absurd (let wrong : None ≡ Some kind = is in cc)

-- ---- which explanations do

unmet_none : (o : Option JsrPackageReqNotFoundError) (e : JsrPackageReqNotFoundError) → o ≡ None → o ≡ Some e → ⊥
unmet_none o e none some = let wrong : None ≡ Some e = sym none ∙ some in cc

module _ (w : Told) where
  -- no version of its package meets a requirement, whatever versions stand
  record IsUnmet (req : PackageReq) (e : JsrPackageReqNotFoundError) : Type 0 where
    info : JsrPackageInfo
    file : IsLastFile w req.name (Ok info)
    none : choice_of req info [] (told_cached w req.name info) (limit_of w.newest req.name) ≡ Err e

  file_met : (name : List ℕ) (e : JsrLoadError) → IsPackageFile w name (Err e) → unmet_in e ≡ None
  file_met name e (served is) = package_met name (told_file w (Package name)) e is
  file_met name e (asked_again again is) = package_met name (told_file w (PackageAgain name)) e is

  version_file_met : (nv : PackageNv) (e : JsrLoadError) → told_version w nv ≡ Err e → unmet_in e ≡ None
  version_file_met nv e is = version_met nv (told_file w (Version nv)) e (unkept (w.registry.package_url nv) nv (version_answer nv (told_file w (Version nv))) e is)

  some_error : (nv : PackageNv) (x e : JsrLoadError) (n m : Parts) → told_files w nv ≡ Some (Err x) → Unread m x ≡ Unread n e → unmet_in e ≡ None
  some_error nv x e n m at is =
      let same : x ≡ e = cc in
      let file : told_version w nv ≡ Err x = cc in
      subst (λ z. unmet_in z ≡ None) same (version_file_met nv x file)

  unread_met : (s : Parts) (held : Option PackageNv) (m : Manner) (n : Parts) (e : JsrLoadError) → Mannered w.known.sums w.registry (told_files w) s held m → m ≡ Unread n e → unmet_in e ≡ None
  unread_met s held m n e (along {v} {sum} h a) is = absurd (let wrong : Asks (asked_along v s sum) ≡ Unread n e = is in cc)
  unread_met s held m n e (along_unstated h a) is = absurd (let wrong : Unsupported ≡ Unread n e = is in cc)
  unread_met s held m n e (outside_packages h a) is = absurd (let wrong : Asks (asked_outside w.known.sums s) ≡ Unread n e = is in cc)
  unread_met s held m n e (reads {nv} h a f) is = absurd (let wrong : Reads nv ≡ Unread n e = is in cc)
  unread_met s held m n e (unread {nv} {e = x} h a f) is = some_error nv x e n (w.registry.package_url nv) f is
  unread_met s held m n e (by_url {nv} {v} {sum} h a f x) is = absurd (let wrong : Asks (asked_by_url v sum) ≡ Unread n e = is in cc)
  unread_met s held m n e (by_url_unstated h a f x) is = absurd (let wrong : Unsupported ≡ Unread n e = is in cc)

  module _ (given : EnteredGraph) where
    explains_unmet : (s : Parts) (c : LoadContext) (k : List ℕ) (v : ModuleSlot) (e : JsrPackageReqNotFoundError) → Explains w given s c k v → unmet_of v ≡ Some e → IsUnmet e.req e
    explains_unmet s c k v e (made {source = source} takes none) says = absurd (unmet_none _ e (made_met (making_of w given.graph.kind) source c) says)
    explains_unmet s c k v e (filled {source = source} {content = content} takes later same is) says =
        let it = made_slot (making_of w given.graph.kind) source c in
        absurd (unmet_none _ e (filled_met it (filled_slot content it) (how_filled content it) (made_met (making_of w given.graph.kind) source c)) says)
    explains_unmet s c k v e (unfilled {l} later same in_context none) says = absurd (unmet_none _ e (content_met l (told_content w l)) says)
    explains_unmet s c k v e (outside takes) says = absurd (unmet_none None e refl says)
    explains_unmet s c k v e (at_hand takes) says = absurd (unmet_none None e refl says)
    explains_unmet s c k v e (missing takes) says = absurd (unmet_none None e refl says)
    explains_unmet s c k v e (refused {asked} {e = error} takes) says = absurd (unmet_none _ e (refusal_met s c asked error) says)
    explains_unmet s c k v e (redirected takes held) says = absurd (unmet_none None e refl says)
    explains_unmet s c k v e (unread_version {n} {e = x} asked manner) says = absurd (unmet_none (unmet_in x) e (unread_met s c.«package» (told_manner w s c) n x (how_mannered w.known.sums w.registry (told_files w) s c) manner) says)
    explains_unmet s c k v e (unsupported_sum free manner) says = absurd (unmet_none None e refl says)
    explains_unmet s c k v e (ended takes none ends) says = absurd (unmet_none None e refl says)
    explains_unmet s c k v e (no_package jsr free named) says = absurd (unmet_none None e refl says)
    explains_unmet s c k v e (no_npm_package npm free named) says = absurd (unmet_none None e refl says)
    explains_unmet s c k v e (npm_resolved {r} npm flag free named) says = absurd (unmet_none _ e (npm_met s c r (npm_result w.npm r.inner.req c.is_dynamic)) says)
    explains_unmet s c k v e (passed_through jsr free named passes) says = absurd (unmet_none None e refl says)
    explains_unmet s c k v e (package_unread {r} {e = x} looked free file) says = absurd (unmet_none (unmet_in x) e (file_met r.req.name x file) says)
    explains_unmet s c k v e (not_met {r} {info} {e = x} looked free file none) says =
        let same : x ≡ e = cc in
        subst (λ z. IsUnmet z.req z) same (subst (λ q. IsUnmet q x) (sym (none_of r.req info (told_cached w r.req.name info) (limit_of w.newest r.req.name) [] x none)) (record { info = info; file = file; none = none }))
    explains_unmet s c k v e (version_unread {r} {nv} {e = x} looked free fits file) says = absurd (unmet_none (unmet_in x) e (version_file_met nv x file) says)
    explains_unmet s c k v e (no_export {r} {nv} {v = version} {e = x} looked free fits file none) says =
        absurd (unmet_none (unmet_in x) e (export_met version (export_name r.sub_path) _ x none) says)
    explains_unmet s c k v e (unjoined looked free fits file is none) says = absurd (unmet_none None e refl says)
    explains_unmet s c k v e (led_back free exports leads) says = absurd (unmet_none None e refl says)
    explains_unmet s c k v e (built_in n) says = absurd (unmet_none None e refl says)
    explains_unmet s c k v e (forbidden_asset {kind} f) says = absurd (unmet_none _ e (ap unmet_by (forbidden_met w.known.flags s c kind f)) says)

    -- so it is in a graph whose slots stood at entry or are explained
    pub not_met_in : (ls : List LaterContent) (g : ModuleGraph) → GraphKept w given ls g → (k : List ℕ) (e : JsrPackageReqNotFoundError) → SaysNotMet g k e → SaysNotMet given.graph k e ⊎ IsNotMet w g e
    not_met_in ls g kept k e (s, c, text, at) = ⊎_elim
        (λ pending. absurd (let wrong : jsr_slot s c (PackageReqNotFound e) ≡ Pending pending.0 = pending.1 in cc))
        (λ stood_or. ⊎_elim
        (λ stood. inl (s, c, text, stood))
        (λ accounted. ⊎_elim
        (λ x. inr (unmet_here (explains_unmet x.0 x.1 k (jsr_slot s c (PackageReqNotFound e)) e x.3 refl)))
        (λ awaits. absurd (unmet_none (unmet_of (made_slot (making_of w given.graph.kind) awaits.is_later.source awaits.later.context)) e (made_met (making_of w given.graph.kind) awaits.is_later.source awaits.later.context) (ap unmet_of (sym awaits.slot_is))))
        accounted)
        stood_or)
        (kept.slots k (jsr_slot s c (PackageReqNotFound e)) at)
      where
        unmet_here : IsUnmet e.req e → IsNotMet w g e
        unmet_here is = record {
          info = is.info;
          file = is.file;
          picked = record { front = []; back = versions_of g.packages e.req.name; parts = refl; picks = is.none };
        }

    -- the choices of a graph
    pub has_choices : (ls : List LaterContent) (g : ModuleGraph) → GraphKept w given ls g → PackagesKept w given g.packages → HasChoices w given g
    has_choices ls g kept packages = record { mapped = has_picked w given g packages; not_met = not_met_in ls g kept }
