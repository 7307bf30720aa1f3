-- Sources of modules that are taken by their infos, and under what loads that are reached are asked about.
use Rattle.std.proofs.Common.{◌≡◌, [], Bool, true, false, ◌&&◌, not, if◌then◌else◌, Option, None, Some, is_some, Result, Ok, refl, sym, ap, ◌∙◌, subst, inl, inr, ◌⊎◌}
use Rattle.std.proofs.lemmas.Bool.{true≢false}
use Rattle.url.specs.Parts.{Parts}
use Rattle.spec_base.specs.Options.{by_option}
use Rattle.module_info.specs.declared.types.ModuleInfo.{ModuleInfo}
use Rattle.semver_npm.specs.declared.package.PackageNv.{PackageNv}
use Rattle.source_sums.specs.Sums.{KnownSums}
use Rattle.source_io.specs.declared.types.Answer.{Answer}
use Rattle.source_io.specs.declared.types.World.{World}
use Rattle.registry_urls.specs.Meaning.{RegistryMeaning}
use Rattle.registry_files.specs.Kept.{FilesAt}
use Rattle.registry_files.specs.declared.kept_version.KeptVersion.{KeptVersion}
use Rattle.graph_errors.specs.declared.errors.ModuleErrorKind.{ModuleErrorKind}
use Rattle.graph_errors.specs.declared.errors.ModuleErrorKind.TheVariants.{Load as LoadFails}
use Rattle.graph_errors.specs.declared.errors.ModuleLoadError.TheVariants.{Jsr}
use Rattle.graph_errors.specs.declared.jsr_error.JsrLoadError.{JsrLoadError}
use Rattle.graph_errors.specs.declared.jsr_error.JsrLoadError.TheVariants.{UnsupportedManifestChecksum}
use Rattle.module_slots.specs.declared.load.LoadContext.{LoadContext}
use Rattle.slot_making.specs.declared.source.Source.{Source}
use Rattle.graph_turns.specs.declared.question_of.Asked.{Asked}
use Rattle.graph_turns.specs.declared.flags.Flags.{Flags}
use Rattle.graph_turns.specs.declared.manner.Manner.{Manner}
use Rattle.graph_turns.specs.declared.manner.Manner.TheVariants.{Asks, Reads, Unread, Unsupported}
use Rattle.graph_turns.specs.declared.registry.RegistryFile.TheVariants.{Version}
use Rattle.graph_turns.specs.Machine.Held.{AreNamed, IsReadAt}
use Rattle.graph_turns.specs.Machine.Known.{Known}
use Rattle.graph_turns.specs.Machine.Manners.{asked_along, asked_by_url, asked_outside, manner_of, unsupported}
use Rattle.graph_turns.specs.Promise.Forbidden.{forbidden}
use Rattle.graph_turns.specs.Promise.Taken.{Taken, Found, Outside, AtHand, Onward, Absent, Refused, asks_again, counted_by, first_to, info_for, is_asked, is_unasked, or_info, redirect_sum, second_to, taken_answer, taken_form, told_manner}
use Rattle.graph_turns.specs.Promise.Told.{Told}
use Rattle.graph_turns.specs.Promise.Versions.{told_file, told_files, told_version}
use Rattle.graph_turns.proofs.Entering.Files.{named_kept}
use Rattle.turn_laws.proofs.Entering.Made.{IsPlain, plain_form}
use Rattle.graph_turns.proofs.Entering.Manners.{AreTold, Mannered, asked_read, how_mannered, manner_stays, unsupported_is}
use Rattle.graph_turns.proofs.Entering.Manners.Mannered.{along, along_unstated, outside, reads, unread, by_url, by_url_unstated}

-- ---- sources

-- a source of a specifier by its info, which stands in the place of its content
pub record ByInfo (s : Parts) (stands : Option ModuleInfo) (source : Source) : Type 0 where
  pub info : ModuleInfo
  pub given : stands ≡ Some info
  pub name : source.name ≡ s
  pub has : source.info ≡ Some info

by_info_of : (s : Parts) (info : ModuleInfo) (source : Source) → Found (record { name = s; content = []; headers = None; mtime = None; info = Some info }) ≡ Found source → ByInfo s (Some info) source
by_info_of s info source e =
    let one : record { name = s; content = []; headers = None; mtime = None; info = Some info } ≡ source = cc in
    record { info = info; given = refl; name = ap (λ (x : Source). x.name) (sym one); has = ap (λ (x : Source). x.info) (sym one) }

info_or : (s : Parts) (stands : Option ModuleInfo) (t : Taken) (source : Source) → IsPlain t → or_info s stands t ≡ Found source → (source.info ≡ None) ⊎ ByInfo s stands source
info_or s None t source plain e = inl (subst IsPlain e plain)
info_or s (Some info) Absent source plain e = inr (by_info_of s info source e)
info_or s (Some info) (Found x) source plain e = inl (subst IsPlain e plain)
info_or s (Some info) (Outside name) source plain e = inl (subst IsPlain e plain)
info_or s (Some info) AtHand source plain e = inl (subst IsPlain e plain)
info_or s (Some info) (Onward name) source plain e = inl (subst IsPlain e plain)
info_or s (Some info) (Refused err) source plain e = inl (subst IsPlain e plain)

-- of the two answers about a pair the one that counts
abbrev counted : World → Known → Asked → Parts → LoadContext → Answer
counted w known asked s c = counted_by (first_to w known asked s c) (second_to w known asked s c) (asks_again asked (first_to w known asked s c))

-- a source has no info, or it is the one that stands in the place of a module that no cache has
pub source_info : (w : World) (known : Known) (asked : Asked) (s : Parts) (c : LoadContext) (source : Source) → taken_answer w known asked s c ≡ Found source → (source.info ≡ None) ⊎ ByInfo s (info_for c asked) source
source_info w known asked s c source e =
    info_or s (info_for c asked) (taken_form (redirect_sum asked) (counted w known asked s c)) source (plain_form (redirect_sum asked) (counted w known asked s c)) e

-- an info that stands in the place of a source is the one under which it is asked about
pub info_asked : (c : LoadContext) (asked : Asked) (info : ModuleInfo) → info_for c asked ≡ Some info → asked.info ≡ Some info
info_asked c asked info e = by asked.info c.asset e
  where
    by : (o : Option ModuleInfo) (b : Bool) → by_option o None (λ i. if b then None else Some i) ≡ Some info → o ≡ Some info
    by None b e = absurd (let wrong : None ≡ Some info = e in cc)
    by (Some i) true e = absurd (let wrong : None ≡ Some info = e in cc)
    by (Some i) false e = e

-- ---- under what loads are asked about

-- the file of the version that a load counts in was read, and outside of packages no info stands
pub record IsRead (files : FilesAt) (asked : Asked) : Type 0 where
  pub held : IsReadAt files asked.held
  pub plain : asked.held ≡ None → asked.info ≡ None

asks_same : (x y : Asked) → Asks x ≡ Asks y → x ≡ y
asks_same x y e = cc

module _ (sums : Option KnownSums) (registry : RegistryMeaning) (files : FilesAt) (s : Parts) where
  plain_by : (held : Option PackageNv) (m : Manner) → Mannered sums registry files s held m → (asked : Asked) → m ≡ Asks asked → asked.held ≡ None → asked.info ≡ None
  plain_by held m (along {v} {sum} h e) asked is none =
      absurd (let wrong : Some v.nv ≡ None = ap (λ (x : Asked). x.held) (asks_same (asked_along v s sum) asked is) ∙ none in cc)
  plain_by held m (along_unstated h e) asked is none = absurd (let wrong : Unsupported ≡ Asks asked = is in cc)
  plain_by held m (outside h n) asked is none = ap (λ (x : Asked). x.info) (sym (asks_same (asked_outside sums s) asked is))
  plain_by held m (reads {nv} h n f) asked is none = absurd (let wrong : Reads nv ≡ Asks asked = is in cc)
  plain_by held m (unread {nv} {e} h n f) asked is none = absurd (let wrong : Unread (registry.package_url nv) e ≡ Asks asked = is in cc)
  plain_by held m (by_url {nv} {v} {sum} h n f e) asked is none = ap (λ (x : Asked). x.info) (sym (asks_same (asked_by_url v sum) asked is))
  plain_by held m (by_url_unstated h n f e) asked is none = absurd (let wrong : Unsupported ≡ Asks asked = is in cc)

  pub asked_is_read : AreNamed files → (c : LoadContext) (asked : Asked) → manner_of sums registry files s c ≡ Asks asked → IsRead files asked
  asked_is_read named c asked is = record {
    held = asked_read sums registry files s named c asked is;
    plain = plain_by c.«package» (manner_of sums registry files s c) (how_mannered sums registry files s c) asked is;
  }

-- ---- files that a world answered

-- what is known of files is what the world answers about them
abbrev pub AreRight : Told → FilesAt → Type 0
AreRight told files = (nv : PackageNv) (kept : Result KeptVersion JsrLoadError) → files nv ≡ Some kept → kept ≡ told_version told nv

module _ (told : Told) (files : FilesAt) (right : AreRight told files) where
  pub agree : AreTold told files
  agree = λ nv kept e. ap Some (sym (right nv kept e))

  -- each file that was read is that of its version
  pub named_right : AreNamed files
  named_right = λ nv v e. named_kept told.registry nv (told_file told (Version nv)) v (sym (right nv (Ok v) e))

  -- a load that fails as it enters, for its version has its sum in no form that is known, is one that fails so
  pub unsupported_told : (s : Parts) (c : LoadContext) (kind : ModuleErrorKind) → IsReadAt files c.«package» → unsupported files s c ≡ Some kind → (told_manner told s c ≡ Unsupported) × (kind ≡ LoadFails s c.range (Jsr UnsupportedManifestChecksum))
  unsupported_told s c kind read e =
      let is = unsupported_is told.known.sums told.registry files s c kind e in
      (manner_stays told.known.sums told.registry files (told_files told) agree s c read (λ nv x. let wrong : Unsupported ≡ Reads nv = sym is.1 ∙ x in cc) ∙ is.1, is.0)

-- ---- what is asked for

-- what is asked for isn't refused
pub asked_free : (f : Flags) (s : Parts) (c : LoadContext) → is_asked f s c ≡ true → forbidden f s c ≡ None
asked_free f s c e = by (is_unasked f s) (forbidden f s c) e
  where
    by : (b : Bool) (o : Option ModuleErrorKind) → not b && not (is_some o) ≡ true → o ≡ None
    by true o e = absurd (true≢false (sym e))
    by false None e = refl
    by false (Some kind) e = absurd (true≢false (sym e))
