-- How the turn of a load goes: the cases, and what stays of it as more files are known.
use Rattle.std.proofs.Common.{◌≡◌, ◌⊎◌, ℕ, List, Bool, true, false, Option, None, Some, Result, Ok, Err, is_some, if◌then◌else◌, refl, sym, ap, ◌∙◌, subst, inl, inr}
use Rattle.std.specs.FinMap as finite
use Rattle.std.proofs.lemmas.Bool.{true≢false}
use Rattle.url.specs.Parts.{Parts}
use Rattle.spec_base.specs.Options.{by_option}
use Rattle.semver_npm.specs.declared.package.PackageNv.{PackageNv}
use Rattle.source_sums.specs.Sums.{KnownSums}
use Rattle.registry_urls.specs.InPackage.{is_in}
use Rattle.registry_urls.specs.Meaning.{RegistryMeaning}
use Rattle.registry_files.specs.Kept.{FilesAt, held_in, holding, read_of}
use Rattle.registry_files.specs.declared.kept_version.KeptVersion.{KeptVersion}
use Rattle.graph_errors.specs.declared.errors.ModuleErrorKind.{ModuleErrorKind}
use Rattle.graph_errors.specs.declared.errors.ModuleErrorKind.TheVariants.{Load as LoadFails}
use Rattle.graph_errors.specs.declared.errors.ModuleLoadError.TheVariants.{Jsr}
use Rattle.graph_errors.specs.declared.jsr_error.JsrLoadError.{JsrLoadError}
use Rattle.graph_errors.specs.declared.jsr_error.JsrLoadError.TheVariants.{UnsupportedManifestChecksum}
use Rattle.module_slots.specs.declared.load.Load.{Load}
use Rattle.module_slots.specs.declared.load.LoadContext.{LoadContext}
use Rattle.graph_turns.specs.declared.question_of.Asked.{Asked}
use Rattle.graph_turns.specs.declared.manner.Manner.{Manner}
use Rattle.graph_turns.specs.declared.manner.Manner.TheVariants.{Asks, Reads, Unread, Unsupported}
use Rattle.graph_turns.specs.declared.state.State.{State}
use Rattle.graph_turns.specs.Machine.Held.{AreNamed, IsReadAt}
use Rattle.graph_turns.specs.Machine.Manners.{along_manner, asked_along, asked_by_url, asked_outside, by_url_manner, known_manner, manner_of, own_manner, sum_in_version, unsupported, unsupported_in}
use Rattle.graph_turns.specs.Machine.Turns.{manner_in}
use Rattle.graph_turns.specs.Promise.Taken.{NamesVersion, told_manner}
use Rattle.graph_turns.specs.Promise.Told.{Told}
use Rattle.graph_turns.specs.Promise.Versions.{told_files}
use Rattle.graph_turns.proofs.Entering.Files.{FilesStay}

some_same : {V : Type 0} (x y : V) → Some x ≡ Some y → x ≡ y
some_same x y e = cc

asks_same : (x y : Asked) → Asks x ≡ Asks y → x ≡ y
asks_same x y e = cc

-- ---- the version that came along

-- it was read
pub held_is : (files : FilesAt) (s : Parts) (nv : PackageNv) (v : KeptVersion) → held_in files s (Some nv) ≡ Some v → files nv ≡ Some (Ok v)
held_is files s nv v = by (files nv)
  where
    by_in : (w : KeptVersion) (b : Bool) → (if b then Some w else None) ≡ Some v → ◌≡◌ {A = Option (Result KeptVersion JsrLoadError)} (Some (Ok w)) (Some (Ok v))
    by_in w true e = subst (λ (x : KeptVersion). ◌≡◌ {A = Option (Result KeptVersion JsrLoadError)} (Some (Ok w)) (Some (Ok x))) (some_same w v e) refl
    by_in w false e = absurd (let wrong : None ≡ Some v = e in cc)

    by : (o : Option (Result KeptVersion JsrLoadError)) → holding s (read_of o) ≡ Some v → o ≡ Some (Ok v)
    by None e = absurd (let wrong : None ≡ Some v = e in cc)
    by (Some (Ok w)) e = by_in w (is_in w.url s) e
    by (Some (Err error)) e = absurd (let wrong : None ≡ Some v = e in cc)

-- where the file of a load's version was read, the version that came along stays as more is known
pub held_stays : (old new : FilesAt) (s : Parts) (held : Option PackageNv) → FilesStay old new → IsReadAt old held → held_in new s held ≡ held_in old s held
held_stays old new s None more read = refl
held_stays old new s (Some nv) more read = ap (λ o. holding s (read_of o)) (more nv (Ok read.0) read.1 ∙ sym read.1)

pub read_stays : (old new : FilesAt) (held : Option PackageNv) → FilesStay old new → IsReadAt old held → IsReadAt new held
read_stays old new None more read = tt
read_stays old new (Some nv) more read = (read.0, more nv (Ok read.0) read.1)

-- ---- the cases

module _ (sums : Option KnownSums) (registry : RegistryMeaning) (files : FilesAt) (s : Parts) where
  -- how the turn of a load goes: its version came along, or its URL names none, or one of which nothing is known, whose file can't be
  -- read, or was read; a version may have the sum in no form that is known
  pub data Mannered (held : Option PackageNv) : Manner → Type 0 where
    along : {v : KeptVersion} {sum : List ℕ} → held_in files s held ≡ Some v → sum_in_version v s ≡ Some sum → Mannered held (Asks (asked_along v s sum))
    along_unstated : {v : KeptVersion} → held_in files s held ≡ Some v → sum_in_version v s ≡ None → Mannered held Unsupported
    outside : held_in files s held ≡ None → registry.nv_of s ≡ None → Mannered held (Asks (asked_outside sums s))
    reads : {nv : PackageNv} → held_in files s held ≡ None → registry.nv_of s ≡ Some nv → files nv ≡ None → Mannered held (Reads nv)
    unread : {nv : PackageNv} {e : JsrLoadError} → held_in files s held ≡ None → registry.nv_of s ≡ Some nv → files nv ≡ Some (Err e) → Mannered held (Unread (registry.package_url nv) e)
    by_url : {nv : PackageNv} {v : KeptVersion} {sum : List ℕ} → held_in files s held ≡ None → registry.nv_of s ≡ Some nv → files nv ≡ Some (Ok v) → sum_in_version v s ≡ Some sum → Mannered held (Asks (asked_by_url v sum))
    by_url_unstated : {nv : PackageNv} {v : KeptVersion} → held_in files s held ≡ None → registry.nv_of s ≡ Some nv → files nv ≡ Some (Ok v) → sum_in_version v s ≡ None → Mannered held Unsupported

  how_mannered_in : (held : Option PackageNv) → Mannered held (by_option (held_in files s held) (own_manner sums registry files s) (along_manner s))
  how_mannered_in held = by_held (held_in files s held) refl
    where
      by_along : (v : KeptVersion) → held_in files s held ≡ Some v → (o : Option (List ℕ)) → sum_in_version v s ≡ o → Mannered held (by_option o Unsupported (λ sum. Asks (asked_along v s sum)))
      by_along v h None e = along_unstated h e
      by_along v h (Some sum) e = along h e

      by_sum : (nv : PackageNv) (v : KeptVersion) → held_in files s held ≡ None → registry.nv_of s ≡ Some nv → files nv ≡ Some (Ok v) → (o : Option (List ℕ)) → sum_in_version v s ≡ o → Mannered held (by_option o Unsupported (λ sum. Asks (asked_by_url v sum)))
      by_sum nv v h n f None e = by_url_unstated h n f e
      by_sum nv v h n f (Some sum) e = by_url h n f e

      by_file : (nv : PackageNv) → held_in files s held ≡ None → registry.nv_of s ≡ Some nv → (o : Option (Result KeptVersion JsrLoadError)) → files nv ≡ o → Mannered held (known_manner registry s nv o)
      by_file nv h n None f = reads h n f
      by_file nv h n (Some (Ok v)) f = by_sum nv v h n f (sum_in_version v s) refl
      by_file nv h n (Some (Err e)) f = unread h n f

      by_name : held_in files s held ≡ None → (o : Option PackageNv) → registry.nv_of s ≡ o → Mannered held (by_option o (Asks (asked_outside sums s)) (λ nv. known_manner registry s nv (files nv)))
      by_name h None n = outside h n
      by_name h (Some nv) n = by_file nv h n (files nv) refl

      by_held : (o : Option KeptVersion) → held_in files s held ≡ o → Mannered held (by_option o (own_manner sums registry files s) (along_manner s))
      by_held None h = by_name h (registry.nv_of s) refl
      by_held (Some v) h = by_along v h (sum_in_version v s) refl

  pub how_mannered : (c : LoadContext) → Mannered c.«package» (manner_of sums registry files s c)
  how_mannered c = how_mannered_in c.«package»

  -- ---- under what a load is asked about

  -- the file of the version that it counts in was read
  by_asked : AreNamed files → (held : Option PackageNv) (m : Manner) → Mannered held m → (asked : Asked) → m ≡ Asks asked → IsReadAt files asked.held
  by_asked named None m (along {v} h e) asked is = absurd (let wrong : None ≡ Some v = h in cc)
  by_asked named (Some nv) m (along {v} {sum} h e) asked is =
      let f = held_is files s nv v h in
      subst (λ (a : Asked). IsReadAt files a.held) (asks_same (asked_along v s sum) asked is) (v, ap files (named nv v f) ∙ f)
  by_asked named held m (along_unstated h e) asked is = absurd (let wrong : Unsupported ≡ Asks asked = is in cc)
  by_asked named held m (outside h n) asked is = subst (λ (a : Asked). IsReadAt files a.held) (asks_same (asked_outside sums s) asked is) tt
  by_asked named held m (reads {nv} h n f) asked is = absurd (let wrong : Reads nv ≡ Asks asked = is in cc)
  by_asked named held m (unread {nv} {e} h n f) asked is = absurd (let wrong : Unread (registry.package_url nv) e ≡ Asks asked = is in cc)
  by_asked named held m (by_url {nv} {v} {sum} h n f e) asked is =
      subst (λ (a : Asked). IsReadAt files a.held) (asks_same (asked_by_url v sum) asked is) (v, ap files (named nv v f) ∙ f)
  by_asked named held m (by_url_unstated h n f e) asked is = absurd (let wrong : Unsupported ≡ Asks asked = is in cc)

  pub asked_read : AreNamed files → (c : LoadContext) (asked : Asked) → manner_of sums registry files s c ≡ Asks asked → IsReadAt files asked.held
  asked_read named c asked is = by_asked named c.«package» (manner_of sums registry files s c) (how_mannered c) asked is

  -- ---- a file that is still to be read

  -- no version came along, the URL names one, and nothing is known of its file
  pub record IsToRead (c : LoadContext) (nv : PackageNv) : Type 0 where
    pub alone : held_in files s c.«package» ≡ None
    pub names : registry.nv_of s ≡ Some nv
    pub unknown : files nv ≡ None

  by_read : (c : LoadContext) (m : Manner) → Mannered c.«package» m → (nv : PackageNv) → m ≡ Reads nv → IsToRead c nv
  by_read c m (along {v} {sum} h e) nv is = absurd (let wrong : Asks (asked_along v s sum) ≡ Reads nv = is in cc)
  by_read c m (along_unstated h e) nv is = absurd (let wrong : Unsupported ≡ Reads nv = is in cc)
  by_read c m (outside h n) nv is = absurd (let wrong : Asks (asked_outside sums s) ≡ Reads nv = is in cc)
  by_read c m (reads {nv = k} h n f) nv is =
      let same : k ≡ nv = cc in
      record { alone = h; names = n ∙ ap (λ x. Some x) same; unknown = ap files (sym same) ∙ f }
  by_read c m (unread {nv = k} {e} h n f) nv is = absurd (let wrong : Unread (registry.package_url k) e ≡ Reads nv = is in cc)
  by_read c m (by_url {v} {sum} h n f e) nv is = absurd (let wrong : Asks (asked_by_url v sum) ≡ Reads nv = is in cc)
  by_read c m (by_url_unstated h n f e) nv is = absurd (let wrong : Unsupported ≡ Reads nv = is in cc)

  pub reads_is : (c : LoadContext) (nv : PackageNv) → manner_of sums registry files s c ≡ Reads nv → IsToRead c nv
  reads_is c nv is = by_read c (manner_of sums registry files s c) (how_mannered c) nv is

  -- once something is known of it, the turn goes by that
  pub manner_known : (c : LoadContext) (nv : PackageNv) (o : Option (Result KeptVersion JsrLoadError)) → held_in files s c.«package» ≡ None → registry.nv_of s ≡ Some nv → files nv ≡ o → manner_of sums registry files s c ≡ known_manner registry s nv o
  manner_known c nv o h n f =
      ap (λ x. by_option x (own_manner sums registry files s) (along_manner s)) h
      ∙ ap (λ x. by_option x (Asks (asked_outside sums s)) (λ k. known_manner registry s k (files k))) n
      ∙ ap (known_manner registry s nv) f

-- ---- more files are known

module _ (sums : Option KnownSums) (registry : RegistryMeaning) (old new : FilesAt) (more : FilesStay old new) (s : Parts) where
  known_stays : (nv : PackageNv) (o : Option (Result KeptVersion JsrLoadError)) → old nv ≡ o → ((n : PackageNv) → known_manner registry s nv (old nv) ≡ Reads n → ⊥) → known_manner registry s nv (new nv) ≡ known_manner registry s nv (old nv)
  known_stays nv None e never = absurd (never nv (ap (known_manner registry s nv) e))
  known_stays nv (Some x) e never = ap (known_manner registry s nv) (more nv x e ∙ sym e)

  by_name : (o : Option PackageNv) → ((n : PackageNv) → by_option o (Asks (asked_outside sums s)) (λ nv. known_manner registry s nv (old nv)) ≡ Reads n → ⊥) → by_option o (Asks (asked_outside sums s)) (λ nv. known_manner registry s nv (new nv)) ≡ by_option o (Asks (asked_outside sums s)) (λ nv. known_manner registry s nv (old nv))
  by_name None never = refl
  by_name (Some nv) never = known_stays nv (old nv) refl never

  by_held : (o : Option KeptVersion) → ((n : PackageNv) → by_option o (own_manner sums registry old s) (along_manner s) ≡ Reads n → ⊥) → by_option o (own_manner sums registry new s) (along_manner s) ≡ by_option o (own_manner sums registry old s) (along_manner s)
  by_held None never = by_name (registry.nv_of s) never
  by_held (Some v) never = refl

  -- the turn of a load whose version's file was read goes as before, where no file was to be read
  pub manner_stays : (c : LoadContext) → IsReadAt old c.«package» → ((nv : PackageNv) → manner_of sums registry old s c ≡ Reads nv → ⊥) → manner_of sums registry new s c ≡ manner_of sums registry old s c
  manner_stays c read never =
      ap (λ o. by_option o (own_manner sums registry new s) (along_manner s)) (held_stays old new s c.«package» more read)
      ∙ by_held (held_in old s c.«package») never

  -- so where it is asked about
  pub asked_stays : (c : LoadContext) (asked : Asked) → IsReadAt old c.«package» → manner_of sums registry old s c ≡ Asks asked → manner_of sums registry new s c ≡ Asks asked
  asked_stays c asked read is = manner_stays c read (λ nv e. let wrong : Asks asked ≡ Reads nv = sym is ∙ e in cc) ∙ is

-- a file is to be read, or none is
pub read_cases : (m : Manner) → ((nv : PackageNv) × (m ≡ Reads nv)) ⊎ ((nv : PackageNv) → m ≡ Reads nv → ⊥)
read_cases (Asks asked) = inr (λ nv e. let wrong : Asks asked ≡ Reads nv = e in cc)
read_cases (Reads nv) = inl (nv, refl)
read_cases (Unread name error) = inr (λ nv e. let wrong : Unread name error ≡ Reads nv = e in cc)
read_cases Unsupported = inr (λ nv e. let wrong : Unsupported ≡ Reads nv = e in cc)

-- ---- what is told

-- files as they are known agree with what is told
abbrev pub AreTold : Told → FilesAt → Type 0
AreTold told files = FilesStay files (told_files told)

-- a turn reads a file, or goes as it would once each was asked about
pub manner_told : (told : Told) (s : State) (load : Load) → AreTold told (finite.get s.files) → IsReadAt (finite.get s.files) load.context.«package» → ((nv : PackageNv) × (manner_in told.known.sums told.registry s load ≡ Reads nv)) ⊎ (told_manner told load.specifier load.context ≡ manner_in told.known.sums told.registry s load)
manner_told told s load agree read = by (read_cases (manner_in told.known.sums told.registry s load))
  where
    by : ((nv : PackageNv) × (manner_in told.known.sums told.registry s load ≡ Reads nv)) ⊎ ((nv : PackageNv) → manner_in told.known.sums told.registry s load ≡ Reads nv → ⊥) → ((nv : PackageNv) × (manner_in told.known.sums told.registry s load ≡ Reads nv)) ⊎ (told_manner told load.specifier load.context ≡ manner_in told.known.sums told.registry s load)
    by (inl r) = inl r
    by (inr never) = inr (manner_stays told.known.sums told.registry (finite.get s.files) (told_files told) agree load.specifier load.context read never)

-- so one that isn't to be read first is the told one
pub told_as : (told : Told) (s : State) (load : Load) (m : Manner) → AreTold told (finite.get s.files) → IsReadAt (finite.get s.files) load.context.«package» → manner_in told.known.sums told.registry s load ≡ m → ((nv : PackageNv) → m ≡ Reads nv → ⊥) → told_manner told load.specifier load.context ≡ m
told_as told s load m agree read is never =
    manner_stays told.known.sums told.registry (finite.get s.files) (told_files told) agree load.specifier load.context read (λ nv e. never nv (sym is ∙ e)) ∙ is

-- the file that is to be read first is that of the version that its URL names
pub names_told : (told : Told) (s : State) (load : Load) (nv : PackageNv) → AreTold told (finite.get s.files) → IsReadAt (finite.get s.files) load.context.«package» → manner_in told.known.sums told.registry s load ≡ Reads nv → NamesVersion told load.specifier load.context nv
names_told told s load nv agree read is =
    let r = reads_is told.known.sums told.registry (finite.get s.files) load.specifier load.context nv is in
    record { alone = held_stays (finite.get s.files) (told_files told) load.specifier load.context.«package» agree read ∙ r.alone; names = r.names }

-- ---- as a load enters

-- the version that came along has the sum in no form that is known: the error, and the turn that the load would have
pub unsupported_is : (sums : Option KnownSums) (registry : RegistryMeaning) (files : FilesAt) (s : Parts) (c : LoadContext) (kind : ModuleErrorKind) → unsupported files s c ≡ Some kind → (kind ≡ LoadFails s c.range (Jsr UnsupportedManifestChecksum)) × (manner_of sums registry files s c ≡ Unsupported)
unsupported_is sums registry files s c kind = by (held_in files s c.«package»)
  where
    by_sum : (v : KeptVersion) (o : Option (List ℕ)) → (if is_some o then None else Some (LoadFails s c.range (Jsr UnsupportedManifestChecksum))) ≡ Some kind → (kind ≡ LoadFails s c.range (Jsr UnsupportedManifestChecksum)) × (by_option o Unsupported (λ sum. Asks (asked_along v s sum)) ≡ Unsupported)
    by_sum v None e = (sym (some_same _ kind e), refl)
    by_sum v (Some sum) e = absurd (let wrong : None ≡ Some kind = e in cc)

    by : (o : Option KeptVersion) → unsupported_in s c o ≡ Some kind → (kind ≡ LoadFails s c.range (Jsr UnsupportedManifestChecksum)) × (by_option o (own_manner sums registry files s) (along_manner s) ≡ Unsupported)
    by None e = absurd (let wrong : None ≡ Some kind = e in cc)
    by (Some v) e = by_sum v (sum_in_version v s) e
