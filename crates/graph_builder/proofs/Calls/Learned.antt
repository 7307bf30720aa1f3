-- What the locker is told of version files, and what the store keeps.
use Rattle.std.proofs.Common.{◌≡◌, ℕ, List, [], ◌∷◌, Option, None, Some, refl, sym, ap, ◌∙◌, subst, true, ⊎_elim}
use Rattle.std.specs.Prelude.{Result, Ok, Err}
use Rattle.std.proofs.lemmas.Bool.{true≢false}
use Rattle.std.specs.Option.{option_and_then, option_or}
use Rattle.std.specs.Cmp.Lexicographic.{nat_list_cmp_total}
use Rattle.std.specs.FinMap as finite
use Rattle.std.specs.FinMap.{IsAntisymmetric, nat_cmp-IsAntisymmetric, slice_cmp-IsAntisymmetric}
use Rattle.spec_base.specs.Shown.{text_cmp}
use Rattle.semver_npm.specs.Orders.{nv_cmp}
use Rattle.semver_npm.specs.declared.package.PackageNv.{PackageNv}
use Rattle.source_sums.specs.VersionKeys.{nv_exact, nv_total}
use Rattle.metadata_store.specs.Answers.{with_package_answer, with_version_answer}
use Rattle.registry_files.specs.Answers.{FileAnswer}
use Rattle.source_sums.specs.Manifests.{KnownManifests}
use Rattle.source_sums.specs.Sums.{KnownSums}
use Rattle.registry_files.specs.declared.kept_version.KeptVersion.{KeptVersion}
use Rattle.graph_errors.specs.declared.jsr_error.JsrLoadError.{JsrLoadError}
use Rattle.graph_core.specs.declared.graph.ModuleGraph.{ModuleGraph}
use Rattle.graph_turns.specs.declared.unresolved_input.LeftOver.{LeftOver}
use Rattle.graph_turns.specs.declared.registry.RegistryFile.{RegistryFile}
use Rattle.graph_turns.specs.declared.registry.RegistryFile.TheVariants.{Package, PackageAgain, Version, Probe}
use Rattle.graph_turns.specs.declared.run.Run.{Run}
use Rattle.graph_turns.specs.declared.run.Run.TheVariants.{First}
use Rattle.registry_files.specs.Kept.{FilesAt}
use Rattle.graph_turns.specs.Machine.Runs.{earlier_manifests, manifests_for, told_for}
use Rattle.graph_turns.specs.Machine.Starting.{told_start}
use Rattle.graph_turns.specs.Machine.Sums.{IsTaughtManifests, LearnsAtMost, file_sum, sum_in}
use Rattle.graph_turns.specs.Promise.Explains.{AreSourceSums, LearnsSources}
use Rattle.graph_turns.specs.Promise.Input.{EnteredGraph}
use Rattle.graph_turns.specs.Promise.Runs.{InSomeRun, IsRunOf, entry_in}
use Rattle.graph_turns.specs.Promise.Runs.IsRunOf.{only as once_run, first as first_of, due as due_of, second as last_of}
use Rattle.graph_turns.specs.Promise.Told.{Told}
use Rattle.graph_turns.specs.Promise.Versions.{manifest_at, store_with, told_version}
use Rattle.metadata_store.specs.declared.store.JsrMetadataStore.{JsrMetadataStore}
use Rattle.open_loads.specs.Order.OpenLoads.{known_now}
use Rattle.open_loads.specs.Order.Numbered.{filled_store}
use Rattle.graph_builder.specs.Calls.Builds.{GoesBy}
use Rattle.graph_builder.specs.Calls.Steps.{BuildState, is_begun}
use Rattle.open_loads.specs.Taught.{AreSumsIn, LearnsSourcesIn, IsVersionSum, KeepsStore, LearnsManifests, LearnsVersions, LearnsVersionsIn}
use Rattle.graph_turns.proofs.Entering.Joined.{first_told, manifest_known, no_manifests}

-- the files that were read are the world's
abbrev pub AreFilesOf : Told → FilesAt → Type 0
AreFilesOf w files = (nv : PackageNv) (kept : Result KeptVersion JsrLoadError) → files nv ≡ Some kept → kept ≡ told_version w nv

-- what wasn't known of a manifest and is known now is the sum of the file that was read
learned_file : (old : KnownManifests) (files : FilesAt) (new : KnownManifests) (nv : PackageNv) (sum : List ℕ) → IsTaughtManifests old files new → finite.get old nv ≡ None → finite.get new nv ≡ Some sum → file_sum (files nv) ≡ Some sum
learned_file old files new nv sum taught none at = sym (taught nv ∙ ap (λ o. option_or o (file_sum (files nv))) none) ∙ at

-- what was known is known
known_still : (old : KnownManifests) (files : FilesAt) (new : KnownManifests) (nv : PackageNv) (was : List ℕ) → IsTaughtManifests old files new → finite.get old nv ≡ Some was → finite.get new nv ≡ Some was
known_still old files new nv was taught at = taught nv ∙ ap (λ o. option_or o (file_sum (files nv))) at

some_same : (x y : List ℕ) → Some x ≡ Some y → x ≡ y
some_same x y e = cc

file_of : (o : Option (Result KeptVersion JsrLoadError)) (sum : List ℕ) → file_sum o ≡ Some sum → (v : KeptVersion) × (o ≡ Some (Ok v)) × (v.file.checksum ≡ sum)
file_of None sum e = cc
file_of (Some (Ok v)) sum e = (v, refl, some_same v.file.checksum sum e)
file_of (Some (Err x)) sum e = cc

read_sum : (w : Told) (entry : EnteredGraph) (files : FilesAt) (nv : PackageNv) (sum : List ℕ) → AreFilesOf w files → file_sum (files nv) ≡ Some sum → IsVersionSum nv sum w entry
read_sum w entry files nv sum agree at =
    let found = file_of (files nv) sum at in
    (found.0, sym (agree nv (Ok found.0) found.1), found.2)

-- in one run each sum that is learned is that of the version's file
pub learns_in : (w : Told) (entry : EnteredGraph) (files : FilesAt) → AreFilesOf w files → (old new : Option KnownManifests) → LearnsManifests old files new → LearnsVersionsIn w entry old new
learns_in w entry files agree None None learns nv sum none at = cc
learns_in w entry files agree None (Some m) learns nv sum none at = absurd learns
learns_in w entry files agree (Some m) None learns nv sum none at = absurd learns
learns_in w entry files agree (Some old) (Some new) learns nv sum none at = read_sum w entry files nv sum agree (learned_file old files new nv sum learns none at)

-- ---- in the runs of a build

module _ (told : Told) (g : ModuleGraph) (given : LeftOver) (nv : PackageNv) (sum : List ℕ) where
  -- what a run knew beside the locker was found by the run before it
  found_before : (run : Run) → IsRunOf told g given run → option_and_then (λ (found : KnownManifests). finite.get found nv) (earlier_manifests run) ≡ Some sum → InSomeRun told g given (IsVersionSum nv sum)
  found_before run (once_run f) e = cc
  found_before run (first_of t) e = cc
  found_before run (due_of t lacks) e = cc
  found_before run (last_of t lacks found) e = record { run = First (told_start told given); is_run = first_of t; holds = found.manifests nv sum e }

  -- the sum was found by this run, or by that one
  learned_by : (run : Run) → IsRunOf told g given run → (files : FilesAt) → AreFilesOf (told_for told run) files → (own known new : KnownManifests) → manifests_for (Some own) run ≡ Some known → IsTaughtManifests known files new → finite.get own nv ≡ None → finite.get new nv ≡ Some sum → InSomeRun told g given (IsVersionSum nv sum)
  learned_by run is files agree own known new knows taught none at = by (finite.get known nv) refl
    where
      known_as : finite.get known nv ≡ option_or (finite.get own nv) (option_and_then (λ (found : KnownManifests). finite.get found nv) (earlier_manifests run))
      known_as = ap (λ o. manifest_at o nv) (sym knows) ∙ manifest_known own run nv

      by : (o : Option (List ℕ)) → finite.get known nv ≡ o → InSomeRun told g given (IsVersionSum nv sum)
      by None e = record { run = run; is_run = is; holds = read_sum (told_for told run) (entry_in told g given run) files nv sum agree (learned_file known files new nv sum taught e at) }
      by (Some was) e =
          let same : was ≡ sum = some_same was sum (sym (known_still known files new nv was taught e) ∙ at) in
          found_before run is (sym (ap (λ o. option_or o (option_and_then (λ (found : KnownManifests). finite.get found nv) (earlier_manifests run))) none) ∙ sym known_as ∙ e ∙ ap Some same)

-- so each is that of the version's file in one of them
pub learns_runs : (told : Told) (g : ModuleGraph) (given : LeftOver) (run : Run) → IsRunOf told g given run → (files : FilesAt) → AreFilesOf (told_for told run) files → (old new : Option KnownManifests) → LearnsManifests (manifests_for old run) files new → LearnsVersions told g given old new
learns_runs told g given run is files agree None new learns nv sum none at = none_new new (subst (λ o. LearnsManifests o files new) (no_manifests run) learns) at
  where
    none_new : (o : Option KnownManifests) → LearnsManifests None files o → manifest_at o nv ≡ Some sum → InSomeRun told g given (IsVersionSum nv sum)
    none_new None l e = cc
    none_new (Some m) l e = absurd l
learns_runs told g given run is files agree (Some own) None learns nv sum none at = cc
learns_runs told g given run is files agree (Some own) (Some new) learns nv sum none at = by (manifests_for (Some own) run) refl learns
  where
    by : (o : Option KnownManifests) → manifests_for (Some own) run ≡ o → LearnsManifests o files (Some new) → InSomeRun told g given (IsVersionSum nv sum)
    by None e l = absurd l
    by (Some known) e l = learned_by told g given nv sum run is files agree own known new e l none at

-- in a build whose answers so far were the world's
pub learned_going : {O : Type 0} (told : Told) (g : ModuleGraph) (given : LeftOver) (b : BuildState O) → is_begun b.phase ≡ true → GoesBy told g given b → (new : Option KnownManifests) → LearnsManifests (known_now b.turns).manifests (finite.get b.turns.state.files) new → LearnsVersions told g given b.turns.known.manifests new
learned_going told g given b begun goes new learns = ⊎_elim
    (λ waiting. absurd (true≢false (sym begun ∙ ap is_begun waiting.left_is)))
    (λ turning. learns_runs told g given b.turns.state.run turning.is_run (finite.get b.turns.state.files) turning.kept.files b.turns.known.manifests new learns)
    goes.phase

-- what is known of manifests under other names
pub versions_in_as : (w : Told) (entry : EnteredGraph) (old new own_old own_new : Option KnownManifests) → own_old ≡ old → new ≡ own_new → LearnsVersionsIn w entry own_old own_new → LearnsVersionsIn w entry old new
versions_in_as w entry old new own_old own_new before after learns = subst (λ (o : Option KnownManifests). LearnsVersionsIn w entry o new) before (subst (LearnsVersionsIn w entry own_old) (sym after) learns)

pub versions_as : (w : Told) (x y : ModuleGraph) (left : LeftOver) (old new own_old own_new : Option KnownManifests) → x ≡ y → own_old ≡ old → new ≡ own_new → LearnsVersions w x left own_old own_new → LearnsVersions w y left old new
versions_as w x y left old new own_old own_new same before after learns =
    subst (λ (g : ModuleGraph). LearnsVersions w g left old new) same
    (subst (λ (o : Option KnownManifests). LearnsVersions w x left o new) before (subst (LearnsVersions w x left own_old) (sym after) learns))

-- ---- sums of sources

-- where a locker learns at most what was found, each sum that it learns is that of a source
pub learned_in : (w : Told) (g : ModuleGraph) (given : LeftOver) (old found new : Option KnownSums) → LearnsAtMost old found new → AreSumsIn w g given found → LearnsSourcesIn w g given old new
learned_in w g given old found new at_most are k sum none now = are k sum (at_most k sum none now)

nothing_new : (old new : Option KnownSums) (k sum : List ℕ) → new ≡ old → sum_in old k ≡ None → sum_in new k ≡ Some sum → ⊥
nothing_new old new k sum same none now = let wrong : None ≡ Some sum = sym none ∙ ap (λ (s : Option KnownSums). sum_in s k) (sym same) ∙ now in cc

-- it may have learned nothing
pub nothing_in : (w : Told) (g : ModuleGraph) (given : LeftOver) (old new : Option KnownSums) → new ≡ old → LearnsSourcesIn w g given old new
nothing_in w g given old new same k sum none now = absurd (nothing_new old new k sum same none now)

-- by other names
pub learned_as : (w : Told) (given : LeftOver) (x y : ModuleGraph) (old known now new : Option KnownSums) → x ≡ y → known ≡ old → new ≡ now → LearnsSourcesIn w x given known now → LearnsSourcesIn w y given old new
learned_as w given x y old known now new at same is learns =
    subst (λ (z : ModuleGraph). LearnsSourcesIn w z given old new) at
    (subst (λ (o : Option KnownSums). LearnsSourcesIn w x given o new) same
    (subst (λ (o : Option KnownSums). LearnsSourcesIn w x given known o) (sym is) learns))

-- in one run
pub learned_once : (w : Told) (entry : EnteredGraph) (old found new : Option KnownSums) → old ≡ w.known.sums → LearnsAtMost old found new → AreSourceSums w entry found → LearnsSources w entry new
learned_once w entry old found new known at_most are k sum none now = are k sum (at_most k sum (ap (λ (s : Option KnownSums). sum_in s k) known ∙ none) now)

pub nothing_once : (w : Told) (entry : EnteredGraph) (old new : Option KnownSums) → old ≡ w.known.sums → new ≡ old → LearnsSources w entry new
nothing_once w entry old new known same k sum none now = absurd (nothing_new old new k sum same (ap (λ (s : Option KnownSums). sum_in s k) known ∙ none) now)
