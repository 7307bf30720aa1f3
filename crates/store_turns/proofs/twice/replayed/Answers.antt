use Rattle.std.proofs.Common.{Bool, ◌≡◌, ◌∙◌, ◌≤◌, ℕ, List, [], Option, Some, refl, sym, ap, subst}
use Rattle.source_io.specs.declared.types.World.{World}
use Rattle.source_sums.specs.Sums.{KnownSums}
use Rattle.metadata_store.specs.declared.store.JsrMetadataStore.{JsrMetadataStore}
use Rattle.graph_core.specs.declared.graph.ModuleGraph.{ModuleGraph}
use Rattle.graph_turns.specs.Machine.Known.{Known}
use Rattle.graph_turns.specs.Machine.Turns.{IsTurnedFrom, begun}
use Rattle.graph_turns.specs.Promise.Input.{Given}
use Rattle.graph_turns.specs.Promise.Told.{Told}
use Rattle.build_options.specs.Telling.{Telling, Tells, npm_in, telling_of}
use Rattle.graph_store.specs.declared.entry.StoreEntry.{StoreEntry}
use Rattle.graph_store.specs.Stores.{entries_in}
use Rattle.graph_store.specs.Worlds.{AreFrom, store_world}
use Rattle.cache_filling.specs.Noted.{Noted}
use Rattle.cache_filling.proofs.NotedLemmas.{noted_so}
use Rattle.store_turns.specs.Answering.{AreKept}
use Rattle.store_turns.specs.Builds.{answered_by}
use Rattle.store_turns.specs.Inputs.{given_in}
use Rattle.store_turns.proofs.Told.{fits_itself}
use Rattle.store_turns.proofs.twice.replayed.Goals as goal

-- the same objects and the answers of another world
again_tells : (world : Option World) (first again : Telling) (known again_known : Known) (told : Told) (v : World) → again ≡ first → again_known ≡ known → Tells world first known told → Tells (Some v) again again_known (answered_by told v)
again_tells world first again known again_known told v same same_known tells = record {
  answers = refl;
  known_is = same_known ∙ tells.known_is;
  infos = ap (λ (t : Telling). t.infos) same ∙ tells.infos;
  paths = ap (λ (t : Telling). t.paths) same ∙ tells.paths;
  resolving = ap (λ (t : Telling). t.resolving) same ∙ tells.resolving;
  registry = ap (λ (t : Telling). t.registry) same ∙ tells.registry;
  newest = ap (λ (t : Telling). t.newest) same ∙ tells.newest;
}

-- the same turns, by the names of what is given again and of what is written
again_turned : (told : Told) (given again : Given) (es written : List StoreEntry) (n : ℕ) (g : ModuleGraph) (sums : Option KnownSums) (own : Option JsrMetadataStore) (put : ℕ) → again ≡ given → written ≡ es
    → IsTurnedFrom (answered_by told (store_world es n)) given.kind (begun (answered_by told (store_world es n)) given) g sums own put
    → IsTurnedFrom (answered_by told (store_world written n)) again.kind (begun (answered_by told (store_world written n)) again) g sums own put
again_turned told given again es written n g sums own put same same_es turned =
    subst (λ (x : List StoreEntry). IsTurnedFrom (answered_by told (store_world x n)) again.kind (begun (answered_by told (store_world x n)) again) g sums own put) (sym same_es)
    (subst (λ (x : Given). IsTurnedFrom (answered_by told (store_world es n)) x.kind (begun (answered_by told (store_world es n)) x) g sums own put) (sym same) turned)

world_named : (world as_world : Option World) (telling : Telling) (known : Known) (told : Told) → as_world ≡ world → Tells world telling known told → Tells as_world telling known told
world_named world as_world telling known told same tells = subst (λ (o : Option World). Tells o telling known told) (sym same) tells

noted_by : {L : Type 0} (caches : L → Bool) (world : L → Option World) {own loader : L} → own ≡ loader → {P : ModuleGraph → Type 0} {u : ModuleGraph} → Noted (caches own) (world own) P u → Noted (caches loader) (world loader) P u
noted_by {L} caches world same {P} {u} noted = subst (λ (l : L). Noted (caches l) (world l) P u) same noted

-- no entries are told by every world
none_kept : (world : Option World) (es : List StoreEntry) → es ≡ [] → AreKept world es
none_kept world es none = λ w is storable. subst (AreFrom w) (sym none) tt

pub returns-in-Ok-clause-turned : goal.returns-in-Ok-clause-turned
returns-in-Ok-clause-turned g c = λ told tells npm.
    noted_by g.L.LoaderCore.caches g.L.LoaderCore.world c.new-recorder.ensures.inner (c.in-Ok.ensures.turned told (world_named _ _ _ _ told (ap g.L.LoaderCore.world c.new-recorder.ensures.inner) tells) npm)

pub returns-in-Ok-clause-same : goal.returns-in-Ok-clause-same
returns-in-Ok-clause-same g c = λ told tells npm storable alike writable.
    let input = c.args.input in
    let again = c.args.again in
    let here = world_named _ _ _ _ told (ap g.L.LoaderCore.world c.new-recorder.ensures.inner) tells in
    let entries = entries_in c.record.new.recorder.store in
    let redirects = c.in-Ok.first.max_redirects in
    let first = c.in-Ok.ensures.kept told (store_world entries redirects) here npm storable (none_kept _ _ c.new-recorder.ensures.empty) (fits_itself entries redirects) (c.in-Ok.ensures.redirects told here) in
    let written = ap entries_in c.finish-loader.ensures.store in
    let within : c.in-Ok.first.questions ≤ input.options.max_loads = c.in-Ok.ensures.put.0 in
    noted_so (noted_by g.L.LoaderCore.caches g.L.LoaderCore.world c.new-recorder.ensures.inner first) (λ bare at.
    c.by_bytes-second.ensures (answered_by told (store_world (entries_in c.finish-loader.result.1) c.in-Ok.first.max_redirects)) bare at.0 c.in-Ok.first.options.jsr_metadata_store c.in-Ok.first.questions
    (again_tells _ _ _ _ _ told _ (ap (telling_of g.S.Analyze.ModuleAnalyzer.infos g.S.Tree.FileTree.paths g.S.Urls.JsrUrlProvider.meaning g.S.Resolve.Resolver.is_told g.S.Resolve.Resolver.meaning) alike.options) alike.known tells)
    (ap (npm_in g.S.Npm.NpmResolver.table) alike.options ∙ npm)
    (again_turned told (given_in input) (given_in again) _ _ c.in-Ok.first.max_redirects bare at.0 c.in-Ok.first.options.jsr_metadata_store c.in-Ok.first.questions alike.given written at.1)
    (subst (λ (m : ℕ). c.in-Ok.first.questions ≤ m) (ap (λ o. o.max_loads) (sym alike.options)) within)
    writable)
