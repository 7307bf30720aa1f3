-- What a locker knows once it was told sums of sources, and then those of files of versions, and what the given store has at the end.
use Rattle.std.proofs.Common.{◌≡◌, ℕ, List, [], Option, None, Some, sym, ap, ◌∙◌, subst}
use Rattle.std.specs.Option.{option_or}
use Rattle.std.specs.Prelude.{OnOk, Result, Ok, Err}
use Rattle.std.specs.FinMap as finite
use Rattle.semver_npm.specs.declared.package.PackageNv.{PackageNv}
use Rattle.source_sums.specs.Manifests.{KnownManifests}
use Rattle.npm_resolver.specs.declared.types.NpmTable.{NpmTable}
use Rattle.metadata_store.specs.declared.store.JsrMetadataStore.{JsrMetadataStore}
use Rattle.registry_files.specs.Kept.{FilesAt}
use Rattle.graph_turns.specs.declared.run.Run.{Run}
use Rattle.graph_turns.specs.declared.run.Run.TheVariants.{Only, First, Due, Second}
use Rattle.graph_turns.specs.declared.state.State.{State}
use Rattle.graph_turns.specs.Machine.Known.{Known}
use Rattle.graph_turns.specs.Machine.Npm.{IsEnded}
use Rattle.graph_turns.specs.Machine.Runs.{earlier_manifests, manifests_for}
use Rattle.graph_turns.specs.Machine.Sums.{IsTaught, IsTaughtManifests, KeepsSums, LearnsAtMost, file_sum}
use Rattle.graph_turns.proofs.Entering.Joined.{joined_manifest}
use Rattle.open_loads.specs.Taught.{LearnsManifests, StillKnows}
use Rattle.open_loads.specs.Order.OpenLoads.{OpenLoads, known_now}
use Rattle.open_loads.specs.Order.Numbered.{filled_store}

still_same : (known : Option KnownManifests) → StillKnows known known
still_same None = tt
still_same (Some known) = λ nv sum e. e

-- what is known of manifests stays
pub still_as : (old new : Option KnownManifests) → new ≡ old → StillKnows old new
still_as old new same = subst (StillKnows old) (sym same) (still_same old)

module _ (old mid new : OpenLoads) (first : mid ≡ record old { known = mid.known }) (second : new ≡ record mid { known = new.known }) where
  pub told_both : new ≡ record old { known = new.known }
  told_both = second ∙ ap (λ (x : OpenLoads). record x { known = new.known }) first

  -- of sources what it knew after the first
  pub sums_kept : new.known.sums ≡ mid.known.sums → KeepsSums old.known.sums mid.known.sums → KeepsSums old.known.sums new.known.sums
  sums_kept same kept = subst (KeepsSums old.known.sums) (sym same) kept

  pub sums_taught : new.known.sums ≡ mid.known.sums → IsTaught old.known.sums old.state.sums mid.known.sums → IsTaught old.known.sums old.state.sums new.known.sums
  sums_taught same taught = subst (IsTaught old.known.sums old.state.sums) (sym same) taught

  -- of manifests what it knew before the second
  pub sums_learned : new.known.sums ≡ mid.known.sums → LearnsAtMost old.known.sums old.state.sums mid.known.sums → LearnsAtMost old.known.sums old.state.sums new.known.sums
  sums_learned others learned = subst (LearnsAtMost old.known.sums old.state.sums) (sym others) learned

  pub files_kept : mid.known.manifests ≡ old.known.manifests → StillKnows mid.known.manifests new.known.manifests → StillKnows old.known.manifests new.known.manifests
  files_kept same kept = subst (λ (k : Option KnownManifests). StillKnows k new.known.manifests) same kept

  pub files_taught : mid.known.manifests ≡ old.known.manifests → LearnsManifests (known_now mid).manifests (finite.get mid.state.files) new.known.manifests → LearnsManifests (known_now old).manifests (finite.get old.state.files) new.known.manifests
  files_taught same taught =
      subst (λ (k : Option KnownManifests). LearnsManifests (manifests_for k old.state.run) (finite.get old.state.files) new.known.manifests) same
      (subst (λ (x : OpenLoads). LearnsManifests (manifests_for mid.known.manifests x.state.run) (finite.get x.state.files) new.known.manifests) first taught)

-- ---- sums of files of versions

-- where there is no locker, nothing is told
learns_none : (run : Run) (files : FilesAt) → LearnsManifests (manifests_for None run) files None
learns_none Only files = tt
learns_none (First start) files = tt
learns_none (Due start) files = tt
learns_none (Second e) files = tt

pub learns_nothing : (b old : OpenLoads) → b ≡ old → b.known.manifests ≡ None → LearnsManifests (known_now old).manifests (finite.get old.state.files) b.known.manifests
learns_nothing b old same none =
    subst (λ (x : OpenLoads). LearnsManifests (manifests_for x.known.manifests x.state.run) (finite.get x.state.files) b.known.manifests) same
    (subst (λ (k : Option KnownManifests). LearnsManifests (manifests_for k b.state.run) (finite.get b.state.files) k) (sym none) (learns_none b.state.run (finite.get b.state.files)))

-- where no run was before, a locker is told those that were read
pub learns_first : (run : Run) (own new : KnownManifests) (files : FilesAt) → earlier_manifests run ≡ None → IsTaughtManifests own files new → LearnsManifests (manifests_for (Some own) run) files (Some new)
learns_first Only own new files none taught = taught
learns_first (First start) own new files none taught = taught
learns_first (Due start) own new files none taught = taught
learns_first (Second e) own new files none taught = absurd (let wrong : Some e.manifests ≡ None = none in cc)

-- else first those that the run before read
pub learns_both : (run : Run) (own mid new found : KnownManifests) (files : FilesAt) → earlier_manifests run ≡ Some found → ((nv : PackageNv) → finite.get mid nv ≡ option_or (finite.get own nv) (finite.get found nv)) → IsTaughtManifests mid files new → LearnsManifests (manifests_for (Some own) run) files (Some new)
learns_both Only own mid new found files was earlier taught = absurd (let wrong : None ≡ Some found = was in cc)
learns_both (First start) own mid new found files was earlier taught = absurd (let wrong : None ≡ Some found = was in cc)
learns_both (Due start) own mid new found files was earlier taught = absurd (let wrong : None ≡ Some found = was in cc)
learns_both (Second e) own mid new found files was earlier taught = λ nv.
    let same : found ≡ e.manifests = some_same found e.manifests (sym was) in
    taught nv ∙ ap (λ (o : Option (List ℕ)). option_or o (file_sum (files nv)))
    (earlier nv ∙ ap (λ (m : KnownManifests). option_or (finite.get own nv) (finite.get m nv)) same ∙ sym (joined_manifest own e.manifests nv))
  where
    some_same : (x y : KnownManifests) → Some x ≡ Some y → x ≡ y
    some_same x y e = cc

-- ---- the end of a build

-- what holds anyway
pub said : {T E P : Type 0} (r : Result T E) → P → OnOk r P
said (Ok x) p = p
said (Err e) p = tt

-- once the sums were told, the given store was filled
pub closed : (old mid new : OpenLoads) (store : Option JsrMetadataStore) → mid ≡ record old { known = mid.known } → new ≡ record mid { known = record mid.known { store = store }; added = [] } → new ≡ record old { known = new.known; added = [] }
closed old mid new store first filled =
    filled
    ∙ ap (λ (x : OpenLoads). record x { known = record mid.known { store = store }; added = [] }) first
    ∙ ap (λ (k : Known). record old { known = k; added = [] }) (sym (ap (λ (x : OpenLoads). x.known) filled))

pub closed_store : (old mid new : OpenLoads) → mid ≡ record old { known = mid.known } → mid.known.store ≡ old.known.store → new ≡ record mid { known = record mid.known { store = filled_store mid.known.store mid.added }; added = [] } → new.known.store ≡ filled_store old.known.store old.added
closed_store old mid new first same filled =
    ap (λ (x : OpenLoads). x.known.store) filled
    ∙ ap (λ (s : Option JsrMetadataStore). filled_store s mid.added) same
    ∙ ap (λ (x : OpenLoads). filled_store old.known.store x.added) first

-- once all were told, `npm:` specifiers got their slots
module _ (old mid new : OpenLoads) (same : new ≡ record mid { state = new.state }) where
  pub known_then : new.known ≡ mid.known
  known_then = ap (λ (x : OpenLoads). x.known) same

  pub settled_end : mid ≡ record old { known = mid.known; added = [] } → new.state ≡ record mid.state { graph = new.state.graph; npm = new.state.npm } → new ≡ record old { known = new.known; added = []; state = record old.state { graph = new.state.graph; npm = new.state.npm } }
  settled_end told settles =
      same
      ∙ ap (λ (x : State). record mid { state = x }) settles
      ∙ ap (λ (x : OpenLoads). record x { state = record x.state { graph = new.state.graph; npm = new.state.npm } }) told
      ∙ ap (λ (k : Known). record old { known = k; added = []; state = record old.state { graph = new.state.graph; npm = new.state.npm } }) (sym known_then)

  pub settled_ended : {table : Option NpmTable} → mid ≡ record old { known = mid.known; added = [] } → IsEnded table mid.state new.state.graph → IsEnded table old.state new.state.graph
  settled_ended {table} told ended = subst (λ (x : OpenLoads). IsEnded table x.state new.state.graph) told ended
