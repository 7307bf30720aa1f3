-- What is known of what turns asked about, and that the turns of open loads are those that are told.
use Rattle.std.proofs.Common.{◌≡◌, ℕ, List, [], ◌∷◌, true, false, Option, None, Some, refl, sym, ◌∙◌, subst, map, inl, inr, ⊎_elim, ◌⊎◌}
use Rattle.std.specs.List.{All, Contains}
use Rattle.std.proofs.lemmas.List.Elements.{All-cons, All-contains, All-nil}
use Rattle.std.specs.FinMap as finite
use Rattle.spec_base.specs.Specifier.{specifier_text}
use Rattle.semver_npm.specs.declared.package.PackageNv.{PackageNv}
use Rattle.source_io.specs.declared.types.World.{World}
use Rattle.registry_urls.specs.Meaning.{RegistryMeaning}
use Rattle.module_slots.specs.declared.load.Load.{Load}
use Rattle.graph_turns.specs.declared.question_of.Asked.{Asked}
use Rattle.graph_turns.specs.declared.manner.Manner.TheVariants.{Asks, Reads}
use Rattle.graph_turns.specs.declared.next.Next.{Next}
use Rattle.graph_turns.specs.declared.next.Next.TheVariants.{End}
use Rattle.graph_turns.specs.declared.passes.Chosen.{Chosen}
use Rattle.graph_turns.specs.declared.passes.Pass.{Pass}
use Rattle.graph_turns.specs.declared.registry.RegistryFile.{RegistryFile}
use Rattle.graph_turns.specs.declared.registry.RegistryFile.TheVariants.{Package, PackageAgain, Version, Probe}
use Rattle.graph_turns.specs.declared.state.State.{State}
use Rattle.graph_turns.specs.declared.waiting.WaitingPackage.{WaitingPackage}
use Rattle.turn_laws.specs.Budget.Asked.{HasPackage, NamesKnown}
use Rattle.graph_turns.specs.Machine.Held.{IsHeld, IsReadAt}
use Rattle.graph_turns.specs.Machine.Known.{Known}
use Rattle.graph_turns.specs.Machine.Next.{next_of}
use Rattle.graph_turns.specs.Machine.Turns.{IsAtEnd, manner_in}
use Rattle.graph_turns.specs.Promise.Input.{EnteredGraph}
use Rattle.graph_turns.specs.Promise.Taken.{IsAsked, NamesVersion}
use Rattle.graph_turns.specs.Promise.Told.{Told}
use Rattle.open_loads.specs.Budget.Runs.{Answered, BeganAgain, Filled, LookedUp, Passed, Read, since}
use Rattle.graph_builder.specs.Calls.Builds.{IsPassed, NamesWaiting}
use Rattle.open_loads.specs.declared.turn_stage.Stage.{Stage}
use Rattle.open_loads.specs.Order.Asking.{IsNext}
use Rattle.open_loads.specs.Order.Asking.IsNext.{rests, asks, asks_again_by, reads, looks, fills}
use Rattle.turn_laws.proofs.Budget.Contents.{HasContent}
use Rattle.turn_laws.proofs.Budget.Known.{IsKnown}
use Rattle.turn_laws.proofs.Budget.Named.{Names, NamesChosen, PassNames}
use Rattle.turn_laws.proofs.Budget.Pairs.{pair_load}
use Rattle.turn_laws.proofs.Budget.Versions.{IsFailing, WasRead, first_free, idle_free, known_version}
use Rattle.turn_laws.proofs.Budget.Wanted.{HasFile, IsKept, IsNameOf, IsOfFile}
use Rattle.graph_turns.proofs.Entering.Held.{IsReadFor}
use Rattle.graph_turns.proofs.Entering.Loads.{HasLoad}
use Rattle.graph_turns.proofs.Entering.Manners.{names_told as names_by, told_as}
use Rattle.graph_turns.proofs.Entering.Next.{NextIs, how_next}
use Rattle.graph_turns.proofs.Entering.Next.NextIs.{notes as comes_notes, loads as comes_load, wanted as comes_file, restart as comes_restart, item as comes_item, versions as comes_versions, exports as comes_exports, deferred as comes_deferred, waiting as comes_waiting, dynamic as comes_dynamic, content as comes_content, ends as comes_end}
use Rattle.turn_laws.proofs.Promise.Infos.{AreRight, agree}
use Rattle.graph_builder.proofs.Budget.Orderly.{Orderly, answered_in, filled_in, idle_next, looked_in, open_next, read_in}
use Rattle.graph_builder.proofs.Budget.Put.{IsSeen}
use Rattle.graph_builder.proofs.Calls.Waiting.{contains_first, contains_later}

-- ---- where the next turn stands, the first open load doesn't fail

pub end_next : (s : State) (n : Next) → NextIs s n → n ≡ End → IsAtEnd s
end_next s n (comes_notes e) is = absurd cc
end_next s n (comes_load e l) is = absurd cc
end_next s n (comes_file e l w) is = absurd cc
end_next s n (comes_restart e l w d) is = absurd cc
end_next s n (comes_item c goes judging items) is = absurd cc
end_next s n (comes_versions c goes judging items) is = absurd cc
end_next s n (comes_exports c goes entering) is = absurd cc
end_next s n (comes_deferred outside e) is = absurd cc
end_next s n (comes_waiting outside d e) is = absurd cc
end_next s n (comes_dynamic outside d w e) is = absurd cc
end_next s n (comes_content i e) is = absurd cc
end_next s n (comes_end end) is = end

pub next_free : (told : Option World) (known : Known) (registry : RegistryMeaning) (s : State) (stage : Stage) → IsNext told known registry s stage → (nv : PackageNv) → IsFailing registry s nv → ⊥
next_free told known registry s stage (rests is) = idle_free registry s (end_next s (next_of s) (how_next s) is).idle.none_open
next_free told known registry s stage (asks {load = load} {loads = loads} is e how) = first_free registry known.sums s load loads e (λ n x fails. let both = sym how ∙ fails in cc)
next_free told known registry s stage (asks_again_by {load = load} {loads = loads} is e how right again) = first_free registry known.sums s load loads e (λ n x fails. let both = sym how ∙ fails in cc)
next_free told known registry s stage (reads {load = load} {loads = loads} is e how fresh at) = first_free registry known.sums s load loads e (λ n x fails. let both = sym how ∙ fails in cc)
next_free told known registry s stage (looks is e fresh at) = idle_free registry s (open_next s (next_of s) (how_next s) is)
next_free told known registry s stage (fills is e) = idle_free registry s (idle_next s (next_of s) (how_next s) is).none_open

-- ---- what turns asked about is known

-- among those that stand in a pass
item_among : (name : List ℕ) (items : List WaitingPackage) → Names name items → (item : WaitingPackage) × Contains items item × (item.req.name ≡ name)
item_among name [] h = absurd h
item_among name (item ∷ items) h = ⊎_elim
    (λ same. (item, contains_first item items, sym same))
    (λ r. let found = item_among name items r in (found.0, contains_later item found.0 items found.1, found.2))
    h

chosen_among : (name : List ℕ) (all : List Chosen) → NamesChosen name all → (item : WaitingPackage) × Contains (map (λ one. one.item) all) item × (item.req.name ≡ name)
chosen_among name [] h = absurd h
chosen_among name (one ∷ all) h = ⊎_elim
    (λ same. (one.item, contains_first one.item (map (λ x. x.item) all), sym same))
    (λ r. let found = chosen_among name all r in (found.0, contains_later one.item found.0 (map (λ x. x.item) all) found.1, found.2))
    h

names_waiting : (s : State) (name : List ℕ) (o : Option Pass) → s.pass ≡ o → PassNames name o → NamesWaiting s name
names_waiting s name None goes h = absurd h
names_waiting s name (Some p) goes (inl i) = let found = item_among name p.items i in record { pass = p; goes_on = goes; item = found.0; among = inl found.1; named = found.2 }
names_waiting s name (Some p) goes (inr c) = let found = chosen_among name p.chosen c in record { pass = p; goes_on = goes; item = found.0; among = inr found.1; named = found.2 }

named_now : (s : State) (name : List ℕ) → IsNameOf s name → NamesKnown s.graph name ⊎ NamesWaiting s name
named_now s name (inl h) = inl h
named_now s name (inr h) = inr (names_waiting s name s.pass refl h)

module _ (registry : RegistryMeaning) (s : State) where
  -- of the file of a version
  abbrev IsReadNow : PackageNv → Type 0
  IsReadNow nv = (finite.contains_key s.files nv ≡ true) × (HasPackage s.graph nv ⊎ IsKnown s.graph (specifier_text (registry.package_url nv)))

  looked_passed : (file : RegistryFile) → IsKept s file → IsOfFile s file → IsPassed registry s (LookedUp file)
  looked_passed (Package name) kept of = named_now s name of
  looked_passed (PackageAgain name) kept of = named_now s name of.0
  looked_passed (Version nv) kept of = kept
  looked_passed (Probe nv) kept of = named_now s nv.name of

  passed_by : (past : List Passed) → ((k : List ℕ) → HasLoad k (answered_in past) → IsKnown s.graph k) → ((nv : PackageNv) → WasRead nv (read_in past) → IsReadNow nv) → ((f : RegistryFile) → HasFile f (looked_in past) → IsPassed registry s (LookedUp f)) → ((k : List ℕ) → HasContent k (filled_in past) → IsKnown s.graph k) → All (IsPassed registry s) (since past)
  passed_by [] a r l f = All-nil (IsPassed registry s)
  passed_by (Answered load asked ∷ past) a r l f = All-cons (IsPassed registry s) (Answered load asked) (since past) (a (specifier_text load.specifier) (inl refl)) (passed_by past (λ k h. a k (inr h)) r l f)
  passed_by (Read nv ∷ past) a r l f = All-cons (IsPassed registry s) (Read nv) (since past) (r nv (inl refl)) (passed_by past a (λ q h. r q (inr h)) l f)
  passed_by (LookedUp file ∷ past) a r l f = All-cons (IsPassed registry s) (LookedUp file) (since past) (l file (inl refl)) (passed_by past a r (λ x h. l x (inr h)) f)
  passed_by (Filled c ∷ past) a r l f = All-cons (IsPassed registry s) (Filled c) (since past) (f (specifier_text c.specifier) (inl refl)) (passed_by past a r l (λ k h. f k (inr h)))
  passed_by (BeganAgain g put ∷ past) a r l f = All-nil (IsPassed registry s)

-- where no open load is to fail
pub passed_free : {early : Type 0} {known : Known} (registry : RegistryMeaning) (o : EnteredGraph) (past : List Passed) (s : State) → Orderly early known registry o past s → ((nv : PackageNv) → IsFailing registry s nv → ⊥) → All (IsPassed registry s) (since past)
passed_free registry o past s now free = passed_by registry s past now.counts.counted.known
    (λ nv h. (now.counts.versions.kept nv h, known_version registry (read_in past) s free now.counts.versions nv h))
    (λ f h. looked_passed registry s f (now.counts.files.kept f h) (now.counts.files.about f h))
    (λ k h. now.counts.counted.known k (pair_load k false (answered_in past) (now.counts.contents.came k h)))

pub passed_known : {early : Type 0} {known : Known} (told : Option World) (by : Known) (registry : RegistryMeaning) (o : EnteredGraph) (past : List Passed) (s : State) (stage : Stage) → Orderly early known registry o past s → IsNext told by registry s stage → All (IsPassed registry s) (since past)
passed_known told by registry o past s stage now next = passed_free registry o past s now (next_free told by registry s stage next)

-- ---- what turns asked about is known for itself, where no pass goes on

module _ (registry : RegistryMeaning) (s : State) (none : s.pass ≡ None) where
  name_seen : (name : List ℕ) → IsNameOf s name → NamesKnown s.graph name
  name_seen name (inl h) = h
  name_seen name (inr h) = absurd (subst (PassNames name) none h)

  looked_seen : (file : RegistryFile) → IsOfFile s file → IsSeen registry s.graph (LookedUp file)
  looked_seen (Package name) of = name_seen name of
  looked_seen (PackageAgain name) of = name_seen name of.0
  looked_seen (Version nv) of = of
  looked_seen (Probe nv) of = name_seen nv.name of

  seen_by : (past : List Passed) → ((k : List ℕ) → HasLoad k (answered_in past) → IsKnown s.graph k) → ((nv : PackageNv) → WasRead nv (read_in past) → HasPackage s.graph nv ⊎ IsKnown s.graph (specifier_text (registry.package_url nv))) → ((f : RegistryFile) → HasFile f (looked_in past) → IsOfFile s f) → ((k : List ℕ) → HasContent k (filled_in past) → IsKnown s.graph k) → All (IsSeen registry s.graph) (since past)
  seen_by [] a r l f = All-nil (IsSeen registry s.graph)
  seen_by (Answered load asked ∷ past) a r l f = All-cons (IsSeen registry s.graph) (Answered load asked) (since past) (a (specifier_text load.specifier) (inl refl)) (seen_by past (λ k h. a k (inr h)) r l f)
  seen_by (Read nv ∷ past) a r l f = All-cons (IsSeen registry s.graph) (Read nv) (since past) (r nv (inl refl)) (seen_by past a (λ q h. r q (inr h)) l f)
  seen_by (LookedUp file ∷ past) a r l f = All-cons (IsSeen registry s.graph) (LookedUp file) (since past) (looked_seen file (l file (inl refl))) (seen_by past a r (λ x h. l x (inr h)) f)
  seen_by (Filled c ∷ past) a r l f = All-cons (IsSeen registry s.graph) (Filled c) (since past) (f (specifier_text c.specifier) (inl refl)) (seen_by past a r l (λ k h. f k (inr h)))
  seen_by (BeganAgain g put ∷ past) a r l f = All-nil (IsSeen registry s.graph)

  pub seen_free : {early : Type 0} {known : Known} (o : EnteredGraph) (past : List Passed) → Orderly early known registry o past s → ((nv : PackageNv) → IsFailing registry s nv → ⊥) → All (IsSeen registry s.graph) (since past)
  seen_free o past now free = seen_by past now.counts.counted.known
      (known_version registry (read_in past) s free now.counts.versions)
      now.counts.files.about
      (λ k h. now.counts.counted.known k (pair_load k false (answered_in past) (now.counts.contents.came k h)))

-- ---- the turns of open loads are those that are told

module _ (w : Told) (s : State) (load : Load) (held : IsHeld s) (right : AreRight w (finite.get s.files)) (among : Contains s.loads load) where
  read_here : IsReadAt (finite.get s.files) load.context.«package»
  read_here = All-contains (IsReadFor s) s.loads load held.loads among

  -- an open load that is asked about
  pub asked_told : (asked : Asked) → manner_in w.known.sums w.registry s load ≡ Asks asked → IsAsked w load.specifier load.context asked
  asked_told asked how = told_as w s load (Asks asked) (agree w (finite.get s.files) right) read_here how (λ nv e. cc)

  -- or whose version's file is read first
  pub names_told : (nv : PackageNv) → manner_in w.known.sums w.registry s load ≡ Reads nv → NamesVersion w load.specifier load.context nv
  names_told nv how = names_by w s load nv (agree w (finite.get s.files) right) read_here how
