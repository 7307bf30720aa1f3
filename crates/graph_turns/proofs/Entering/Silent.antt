-- What goes on without an answer, as a function of a state: what comes next, or the first load fails without a question, or the first file
-- that a pass wants stands in the given store.
use Rattle.std.proofs.Common.{◌≡◌, ℕ, List, [], ◌∷◌, Option, None, Some, option_map, refl, sym, ap, ◌∙◌, subst, false}
use Rattle.registry_urls.specs.Meaning.{RegistryMeaning}
use Rattle.semver_npm.specs.declared.package.PackageNv.{PackageNv}
use Rattle.version_dates.specs.declared.newest_date.NewestDependencyDateOptions.{NewestDependencyDateOptions}
use Rattle.registry_files.specs.Answers.{FileAnswer}
use Rattle.graph_errors.specs.declared.jsr_error.JsrLoadError.{JsrLoadError}
use Rattle.graph_errors.specs.declared.jsr_error.JsrLoadError.TheVariants.{UnsupportedManifestChecksum}
use Rattle.url.specs.Parts.{Parts}
use Rattle.module_slots.specs.declared.load.Load.{Load}
use Rattle.graph_turns.specs.declared.manner.Manner.{Manner}
use Rattle.graph_turns.specs.declared.manner.Manner.TheVariants.{Asks, Reads, Unread, Unsupported}
use Rattle.graph_turns.specs.declared.next.Next.{Next}
use Rattle.graph_turns.specs.declared.next.Next.TheVariants.{Notes, Load as ALoad, Wanted, Restart, Item, Versions, Exports, Deferred, Waiting, Dynamic, Content, End}
use Rattle.graph_turns.specs.declared.outcome.Outcome.{Outcome}
use Rattle.graph_turns.specs.declared.registry.RegistryFile.{RegistryFile}
use Rattle.graph_turns.specs.declared.registry.RegistryFile.TheVariants.{Version}
use Rattle.graph_turns.specs.declared.state.State.{State}
use Rattle.graph_turns.specs.Machine.Entering.{stored}
use Rattle.graph_turns.specs.Machine.Files.{file_kept}
use Rattle.graph_turns.specs.Machine.Known.{Known}
use Rattle.graph_turns.specs.Machine.Next.{next_of, stands}
use Rattle.graph_turns.specs.Machine.Outcomes.{failure_outcome}
use Rattle.graph_turns.specs.Machine.RegistryFiles.{wanted_kept}
use Rattle.graph_turns.specs.Machine.Runs.{known_for}
use Rattle.graph_turns.specs.Machine.Turns.{failing, gone_on, manner_in}
use Rattle.graph_turns.specs.Promise.Versions.{answer_in, kept_of}
use Rattle.graph_turns.proofs.Entering.Next.{NextIs, how_next}
use Rattle.graph_turns.proofs.Entering.Next.NextIs.{loads as has_loads, wanted}

-- a load fails without a question
abbrev pub fails_silently : ℕ → State → Load → List Load → Option Outcome → Option State
fails_silently most s load loads outcome = option_map (stored most (record s { loads = loads }) load) outcome

-- its version's file stands in the given store, and it fails then
abbrev pub reads_silently : Known → RegistryMeaning → ℕ → State → Load → List Load → PackageNv → Option FileAnswer → Option State
reads_silently known registry most s load loads nv None = None
reads_silently known registry most s load loads nv (Some answer) =
    fails_silently most (file_kept s nv (kept_of registry nv answer)) load loads (failing load (manner_in known.sums registry (file_kept s nv (kept_of registry nv answer)) load))

abbrev pub load_silently : Known → RegistryMeaning → ℕ → State → Load → List Load → Manner → Option State
load_silently known registry most s load loads (Asks asked) = None
load_silently known registry most s load loads (Reads nv) = reads_silently known registry most s load loads nv (answer_in known.store (Version nv))
load_silently known registry most s load loads (Unread name e) = Some (stored most (record s { loads = loads }) load (failure_outcome load.context name e))
load_silently known registry most s load loads Unsupported = Some (stored most (record s { loads = loads }) load (failure_outcome load.context load.specifier UnsupportedManifestChecksum))

abbrev pub first_silently : Known → RegistryMeaning → ℕ → State → List Load → Option State
first_silently known registry most s [] = None
first_silently known registry most s (load ∷ loads) = load_silently known registry most s load loads (manner_in known.sums registry s load)

abbrev pub wanted_silently : Known → RegistryMeaning → State → List RegistryFile → Option State
wanted_silently known registry s [] = None
wanted_silently known registry s (file ∷ files) = option_map (wanted_kept registry s) (answer_in known.store file)

abbrev pub silently_by : Known → RegistryMeaning → NewestDependencyDateOptions → ℕ → State → Next → Option State
silently_by known registry newest most s Notes = Some (gone_on registry newest s Notes)
silently_by known registry newest most s ALoad = first_silently known registry most s s.loads
silently_by known registry newest most s Wanted = wanted_silently known registry s s.wanted
silently_by known registry newest most s Restart = Some (gone_on registry newest s Restart)
silently_by known registry newest most s Item = Some (gone_on registry newest s Item)
silently_by known registry newest most s Versions = Some (gone_on registry newest s Versions)
silently_by known registry newest most s Exports = Some (gone_on registry newest s Exports)
silently_by known registry newest most s Deferred = Some (gone_on registry newest s Deferred)
silently_by known registry newest most s Waiting = Some (gone_on registry newest s Waiting)
silently_by known registry newest most s Dynamic = Some (gone_on registry newest s Dynamic)
silently_by known registry newest most s Content = None
silently_by known registry newest most s End = None

-- the state behind it, where nothing is asked about
abbrev pub silently : Known → RegistryMeaning → NewestDependencyDateOptions → ℕ → State → Option State
silently known registry newest most s = silently_by (known_for known s.run) registry newest most s (next_of s)

-- ---- its cases

module _ (known : Known) (registry : RegistryMeaning) (newest : NewestDependencyDateOptions) (most : ℕ) (s : State) where
  pub data Goes : State → Type 0 where
    on : {n : Next} → NextIs s n → stands n ≡ false → Goes (gone_on registry newest s n)
    fails : (load : Load) (loads : List Load) (name : Parts) (e : JsrLoadError) → s.notes ≡ [] → s.loads ≡ load ∷ loads → Goes (stored most (record s { loads = loads }) load (failure_outcome load.context name e))
    reads : (load : Load) (loads : List Load) (nv : PackageNv) (answer : FileAnswer) (name : Parts) (e : JsrLoadError) → s.notes ≡ [] → s.loads ≡ load ∷ loads → answer_in known.store (Version nv) ≡ Some answer → Goes (stored most (record (file_kept s nv (kept_of registry nv answer)) { loads = loads }) load (failure_outcome load.context name e))
    looks : {file : RegistryFile} {files : List RegistryFile} {answer : FileAnswer} → s.notes ≡ [] → s.loads ≡ [] → s.wanted ≡ file ∷ files → answer_in known.store file ≡ Some answer → Goes (wanted_kept registry s answer)

  goes_as : (v u : State) → Goes v → Some v ≡ Some u → Goes u
  goes_as v u g e = let same : v ≡ u = cc in subst Goes same g

  module _ (load : Load) (others : List Load) (none : s.notes ≡ []) (here : s.loads ≡ load ∷ others) (u : State) where
    by_failing : (nv : PackageNv) (answer : FileAnswer) → answer_in known.store (Version nv) ≡ Some answer → (m : Manner) → fails_silently most (file_kept s nv (kept_of registry nv answer)) load others (failing load m) ≡ Some u → Goes u
    by_failing nv answer stored_there (Asks asked) e = absurd cc
    by_failing nv answer stored_there (Reads again) e = absurd cc
    by_failing nv answer stored_there (Unread name error) e = goes_as _ u (reads load others nv answer name error none here stored_there) e
    by_failing nv answer stored_there Unsupported e = goes_as _ u (reads load others nv answer load.specifier UnsupportedManifestChecksum none here stored_there) e

    by_stored : (nv : PackageNv) (o : Option FileAnswer) → answer_in known.store (Version nv) ≡ o → reads_silently known registry most s load others nv o ≡ Some u → Goes u
    by_stored nv None there e = absurd cc
    by_stored nv (Some answer) there e = by_failing nv answer there (manner_in known.sums registry (file_kept s nv (kept_of registry nv answer)) load) e

    by_manner : (m : Manner) → load_silently known registry most s load others m ≡ Some u → Goes u
    by_manner (Asks asked) e = absurd cc
    by_manner (Reads nv) e = by_stored nv (answer_in known.store (Version nv)) refl e
    by_manner (Unread name error) e = goes_as _ u (fails load others name error none here) e
    by_manner Unsupported e = goes_as _ u (fails load others load.specifier UnsupportedManifestChecksum none here) e

  by_looked : (file : RegistryFile) (files : List RegistryFile) → s.notes ≡ [] → s.loads ≡ [] → s.wanted ≡ file ∷ files → (u : State) (o : Option FileAnswer) → answer_in known.store file ≡ o → option_map (wanted_kept registry s) o ≡ Some u → Goes u
  by_looked file files none none_open here u None there e = absurd cc
  by_looked file files none none_open here u (Some answer) there e = goes_as _ u (looks none none_open here there) e

  by_next : (u : State) (n : Next) → NextIs s n → silently_by known registry newest most s n ≡ Some u → Goes u
  by_next u Notes next e = goes_as _ u (on next refl) e
  by_next u ALoad (has_loads {load = load} {others = others} none here) e = by_manner load others none here u (manner_in known.sums registry s load) (sym (ap (first_silently known registry most s) here) ∙ e)
  by_next u Wanted (wanted {file = file} {others = others} none none_open here) e = by_looked file others none none_open here u (answer_in known.store file) refl (sym (ap (wanted_silently known registry s) here) ∙ e)
  by_next u Restart next e = goes_as _ u (on next refl) e
  by_next u Item next e = goes_as _ u (on next refl) e
  by_next u Versions next e = goes_as _ u (on next refl) e
  by_next u Exports next e = goes_as _ u (on next refl) e
  by_next u Deferred next e = goes_as _ u (on next refl) e
  by_next u Waiting next e = goes_as _ u (on next refl) e
  by_next u Dynamic next e = goes_as _ u (on next refl) e
  by_next u Content next e = absurd cc
  by_next u End next e = absurd cc

pub how_goes : (known : Known) (registry : RegistryMeaning) (newest : NewestDependencyDateOptions) (most : ℕ) (s u : State) → silently known registry newest most s ≡ Some u → Goes (known_for known s.run) registry newest most s u
how_goes known registry newest most s u e = by_next (known_for known s.run) registry newest most s u (next_of s) (how_next s) e
