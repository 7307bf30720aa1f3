-- What steps keep of a build and of a loader, one after the other.
use Rattle.std.proofs.Common.{◌≡◌, ℕ, Bool, Option, None, Some, refl, sym, ap, ◌∙◌, subst, arith}
use Rattle.source_io.specs.declared.types.World.{World}
use Rattle.source_sums.specs.Manifests.{KnownManifests}
use Rattle.source_sums.specs.Sums.{KnownSums}
use Rattle.module_info.specs.Infos.{Infos}
use Rattle.slot_making.specs.Made.{Paths}
use Rattle.graph_builder.specs.Calls.Loaders.{KeepsLoader}
use Rattle.graph_builder.specs.Calls.Makers.{means_by, means_in}
use Rattle.graph_builder.specs.Calls.Steps.{BuildState, KeepsBuild, KeepsGiven}
use Rattle.graph_turns.specs.Machine.Sums.{KeepsSums}
use Rattle.open_loads.specs.Taught.{StillKnows}
use Rattle.build_options.specs.Telling.{flags_of, telling_of}
use Rattle.build_options.specs.declared.options.BuildOptions.{BuildOptions}
use Rattle.source_io.specs.Resolvers.{ResolverMeaning}
use Rattle.registry_urls.specs.Meaning.{RegistryMeaning}

module _ {O : Type 0} where
  pub build_kept : (b : BuildState O) → KeepsBuild b b
  build_kept b = record { options = refl; kind = refl; known = refl }

  pub build_keeps : (a b c : BuildState O) → KeepsBuild a b → KeepsBuild b c → KeepsBuild a c
  build_keeps a b c x y = record { options = y.options ∙ x.options; kind = y.kind ∙ x.kind; known = y.known ∙ x.known }

  pub given_of : (a b : BuildState O) → KeepsBuild a b → KeepsGiven a b
  given_of a b x = record { options = x.options; kind = x.kind }

  pub given_keeps : (a b c : BuildState O) → KeepsBuild a b → KeepsGiven b c → KeepsGiven a c
  given_keeps a b c x y = record { options = y.options ∙ x.options; kind = y.kind ∙ x.kind }

-- what is known as it was is kept
pub sums_kept : (old new : Option KnownSums) → new ≡ old → KeepsSums old new
sums_kept old new e = subst (KeepsSums old) (sym e) (refl, λ k sum at. at)

-- the same of manifests
still_itself : (old : Option KnownManifests) → StillKnows old old
still_itself None = tt
still_itself (Some m) = λ nv sum at. at

pub manifests_kept : (old new : Option KnownManifests) → new ≡ old → StillKnows old new
manifests_kept old new e = subst (StillKnows old) (sym e) (still_itself old)

-- what is known under other names
pub still_as : (old new own_old own_new : Option KnownManifests) → own_old ≡ old → new ≡ own_new → StillKnows own_old own_new → StillKnows old new
still_as old new own_old own_new before after kept = subst (λ (o : Option KnownManifests). StillKnows o new) before (subst (StillKnows own_old) (sym after) kept)

-- a step keeps what turns go by
pub same_means : {S L T U A R N C Q : Type 0} (infos : A → Option Infos) (paths : T → Paths) (registry : U → RegistryMeaning) (is_told : R → Bool) (meaning : R → ResolverMeaning) (old new : BuildState (BuildOptions S L T U A R N C Q)) → KeepsBuild old new → means_in infos paths registry is_told meaning new ≡ means_in infos paths registry is_told meaning old
same_means {S} {L} {T} {U} {A} {R} {N} {C} {Q} infos paths registry is_told meaning old new k =
    ap (λ (o : BuildOptions S L T U A R N C Q). means_by (telling_of infos paths registry is_told meaning o) (flags_of o) new.kind) k.options ∙ ap (means_by (telling_of infos paths registry is_told meaning old.options) (flags_of old.options)) k.kind

module _ {L : Type 0} (world : L → Option World) (may_fail : L → ℕ → Bool) (caches : L → Bool) (faults : L → ℕ) where
  pub loader_kept : (l : L) → KeepsLoader world may_fail caches faults l l
  loader_kept l = record { same_world = refl; same_may_fail = refl; same_caches = refl; later = omega arith }

  pub loader_keeps : (a b c : L) → KeepsLoader world may_fail caches faults a b → KeepsLoader world may_fail caches faults b c → KeepsLoader world may_fail caches faults a c
  loader_keeps a b c x y = record { same_world = y.same_world ∙ x.same_world; same_may_fail = y.same_may_fail ∙ x.same_may_fail; same_caches = y.same_caches ∙ x.same_caches; later = omega (arith, x.later, y.later) }
