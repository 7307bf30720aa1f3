-- The files of the registry that a pass asks about: their questions, what the given store has of them, and what is kept of an answer.
use Rattle.std.proofs.Common.{◌≡◌, List, [], ◌∷◌, ◌++◌, Bool, true, false, if◌then◌else◌, Option, None, Some, Result, is_some, slice_get, refl, sym, ap, ◌∙◌, subst}
use Rattle.std.specs.Borrow.{Bor}
use Rattle.std.specs.Prelude.{option_copied, OnOk}
use Rattle.spec_base.specs.Options.{by_option}
use Rattle.semver_npm.specs.declared.package.PackageNv.{PackageNv}
use Rattle.source_io.specs.declared.types.Answer.{Answer}
use Rattle.source_io.specs.declared.types.CacheSetting.{CacheSetting}
use Rattle.source_io.specs.declared.types.Question.{Question}
use Rattle.source_sums.specs.Manifests.{KnownManifests}
use Rattle.metadata_store.specs.declared.store.JsrMetadataStore.{JsrMetadataStore}
use Rattle.registry_urls.specs.Meaning.{RegistryMeaning}
use Rattle.registry_files.specs.Answers.{FileAnswer}
use Rattle.graph_turns.specs.declared.registry.RegistryFile.{RegistryFile}
use Rattle.graph_turns.specs.declared.registry.RegistryFile.TheVariants.{Package, PackageAgain, Version, Probe}
use Rattle.graph_turns.specs.declared.run.Run.{Run}
use Rattle.graph_turns.specs.declared.state.State.{State}
use Rattle.graph_turns.specs.Machine.Files.{file_kept}
use Rattle.graph_turns.specs.Machine.Known.{Known}
use Rattle.graph_turns.specs.Machine.RegistryFiles.{wanted_kept}
use Rattle.graph_turns.specs.Machine.Runs.{is_second, manifests_for, setting_for}
use Rattle.graph_turns.specs.Promise.Versions.{answer_in, file_question, is_stored, kept_of, loaded}
use Rattle.open_loads.specs.Order.Asking.{file_url, wanted_question}
use Rattle.open_loads.specs.Order.OpenLoads.{OpenLoads, known_now}
use Rattle.open_loads.specs.Order.Numbered.{first_added, one_wanted, put, stored_begun, stored_read, with_added}
use Rattle.open_loads.proofs.Order.Opening.{file_placed, file_stored, flagged}
use Rattle.open_loads.proofs.Order.Stores.{answered_second}

pub copied_is : {T : Type 0} (o : Option (Bor T)) → is_some (option_copied o) ≡ is_some o
copied_is None = refl
copied_is (Some x) = refl

some_same : {X : Type 0} (x y : X) → Some x ≡ Some y → x ≡ y
some_same x y e = cc

-- the first of some files, and the others
none_there : (files : List RegistryFile) → slice_get files 0 ≡ None → files ≡ []
none_there [] e = refl
none_there (x ∷ xs) e = absurd (let wrong : Some x ≡ None = e in cc)

first_there : (files : List RegistryFile) (file : RegistryFile) → slice_get files 0 ≡ Some file → (others : List RegistryFile) × (files ≡ file ∷ others)
first_there [] file e = absurd (let wrong : None ≡ Some file = e in cc)
first_there (x ∷ xs) file e = (xs, ap (λ (f : RegistryFile). f ∷ xs) (some_same x file e))

-- ---- the question about a file

question_is : (setting : CacheSetting) (registry : RegistryMeaning) (known : Known) (file : RegistryFile) → file_question setting registry known.manifests file ≡ wanted_question setting known file (file_url registry file)
question_is setting registry known (Package name) = refl
question_is setting registry known (PackageAgain name) = refl
question_is setting registry known (Version nv) = refl
question_is setting registry known (Probe nv) = refl

-- none is due, where the given store has the answer
abbrev pub question_due : RegistryMeaning → OpenLoads → RegistryFile → Option Question
question_due registry b file = if is_stored (known_now b).store file then None else Some (wanted_question (setting_for b.state.run) (known_now b) file (file_url registry file))

abbrev due_by : Question → Bool → Option Question
due_by question z = if z then None else Some question

pub question_none : (registry : RegistryMeaning) (b : OpenLoads) (file : RegistryFile) → is_stored (known_now b).store file ≡ true → None ≡ question_due registry b file
question_none registry b file here = ap (due_by (wanted_question (setting_for b.state.run) (known_now b) file (file_url registry file))) (sym here)

pub question_some : (registry : RegistryMeaning) (b old : OpenLoads) (file : RegistryFile) (setting : CacheSetting) (manifests : Option KnownManifests) (run : Run) (question : Question) → is_stored (known_now old).store file ≡ false → b ≡ old → setting ≡ setting_for b.state.run → manifests ≡ old.known.manifests → run ≡ old.state.run → question ≡ file_question setting registry (manifests_for manifests run) file → Some question ≡ question_due registry old file
question_some registry b old file setting manifests run question none same under known goes is =
    ap Some asked ∙ ap (due_by (wanted_question (setting_for old.state.run) (known_now old) file (file_url registry file))) (sym none)
  where
    asked : question ≡ wanted_question (setting_for old.state.run) (known_now old) file (file_url registry file)
    asked =
        is
        ∙ ap (λ (s : CacheSetting). file_question s registry (manifests_for manifests run) file) (under ∙ ap (λ (x : OpenLoads). setting_for x.state.run) same)
        ∙ ap (λ (k : Option KnownManifests). file_question (setting_for old.state.run) registry (manifests_for k run) file) known
        ∙ ap (λ (x : Run). file_question (setting_for old.state.run) registry (manifests_for old.known.manifests x) file) goes
        ∙ question_is (setting_for old.state.run) registry (known_now old) file

-- ---- the place of a file whose answer the given store has

pub place_stored : {T E : Type 0} (r : Result T E) (registry : RegistryMeaning) (b new : OpenLoads) (file : RegistryFile) → None ≡ question_due registry b file → OnOk r (new ≡ record b { wanted = b.wanted ++ None ∷ [] }) → OnOk r (new ≡ one_wanted registry b file)
place_stored r registry b new file none placed =
    subst (λ (x : OpenLoads). OnOk r (new ≡ x)) (file_stored registry b file (wanted_question (setting_for b.state.run) (known_now b) file (file_url registry file)) none) placed

-- or of one that is asked about
pub place_asked : {T E : Type 0} (r : Result T E) (registry : RegistryMeaning) (b new : OpenLoads) (file : RegistryFile) (question : Question) → Some question ≡ question_due registry b file → OnOk r (new ≡ record (put b question) { wanted = b.wanted ++ Some (b.queued, question.specifier) ∷ [] }) → OnOk r (new ≡ one_wanted registry b file)
place_asked r registry b new file question due placed =
    subst (λ (x : OpenLoads). OnOk r (new ≡ x)) (file_placed registry b file question due) placed

-- ---- the turn of a file whose answer the given store has

abbrev pub begun_by : RegistryMeaning → OpenLoads → Option FileAnswer → Bool × OpenLoads
begun_by registry b o = by_option o (true, b) (λ answer. (false, record b { state = wanted_kept registry b.state answer }))

-- it stands where none is there
pub begun_second : (registry : RegistryMeaning) (b : OpenLoads) (files : List RegistryFile) → is_second b.state.run ≡ true → stored_begun registry b files ≡ (true, b)
begun_second registry b [] second = refl
begun_second registry b (file ∷ files) second = ap (begun_by registry b) (answered_second b.known.store b.state.run file second)

pub begun_nothing : (registry : RegistryMeaning) (b : OpenLoads) → slice_get b.state.wanted 0 ≡ None → stored_begun registry b b.state.wanted ≡ (true, b)
begun_nothing registry b none = ap (stored_begun registry b) (none_there b.state.wanted none)

pub begun_unstored : (registry : RegistryMeaning) (b : OpenLoads) (file : RegistryFile) → slice_get b.state.wanted 0 ≡ Some file → answer_in (known_now b).store file ≡ None → stored_begun registry b b.state.wanted ≡ (true, b)
begun_unstored registry b file first none = ap (stored_begun registry b) (first_there b.state.wanted file first).1 ∙ ap (begun_by registry b) none

-- else the answer is kept
pub begun_stored : (registry : RegistryMeaning) (b old : OpenLoads) (file : RegistryFile) (answer : FileAnswer) (state : State) → b ≡ old → slice_get old.state.wanted 0 ≡ Some file → answer_in (known_now old).store file ≡ Some answer → state ≡ wanted_kept registry b.state answer → stored_begun registry old old.state.wanted ≡ (false, record b { state = state })
begun_stored registry b old file answer state same first here kept =
    ap (stored_begun registry old) (first_there old.state.wanted file first).1
    ∙ ap (begun_by registry old) here
    ∙ ap (flagged false) (sym (ap (λ (s : State). record b { state = s }) kept ∙ ap (λ (x : OpenLoads). record x { state = wanted_kept registry x.state answer }) same))

-- ---- what is kept of an answer

-- no file was asked about
pub kept_none : (registry : RegistryMeaning) (b old : OpenLoads) (a : Answer) (answer : FileAnswer) (state : State) → b ≡ old → answer ≡ loaded a → state ≡ wanted_kept registry b.state answer → None ≡ slice_get b.state.wanted 0 → record b { state = state } ≡ first_added (record old { state = wanted_kept registry old.state (loaded a) }) (loaded a) old.state.wanted
kept_none registry b old a answer state same is kept none =
    ap (λ (s : State). record b { state = s }) (kept ∙ ap (wanted_kept registry b.state) is)
    ∙ ap (λ (x : OpenLoads). record x { state = wanted_kept registry x.state (loaded a) }) same
    ∙ sym (ap (first_added (record old { state = wanted_kept registry old.state (loaded a) }) (loaded a)) (ap (λ (x : OpenLoads). x.state.wanted) (sym same) ∙ none_there b.state.wanted (sym none)))

-- the first one was
pub kept_some : {T E : Type 0} (r : Result T E) (registry : RegistryMeaning) (b old new : OpenLoads) (a : Answer) (answer : FileAnswer) (state : State) (file : RegistryFile) → b ≡ old → answer ≡ loaded a → state ≡ wanted_kept registry b.state answer → Some file ≡ slice_get b.state.wanted 0 → OnOk r (new ≡ with_added (record b { state = state }) file answer) → OnOk r (new ≡ first_added (record old { state = wanted_kept registry old.state (loaded a) }) (loaded a) old.state.wanted)
kept_some r registry b old new a answer state file same is kept first added = subst (λ (x : OpenLoads). OnOk r (new ≡ x)) whole added
  where
    whole : with_added (record b { state = state }) file answer ≡ first_added (record old { state = wanted_kept registry old.state (loaded a) }) (loaded a) old.state.wanted
    whole =
        ap (λ (s : State). with_added (record b { state = s }) file answer) (kept ∙ ap (wanted_kept registry b.state) is)
        ∙ ap (λ (x : OpenLoads). with_added (record x { state = wanted_kept registry x.state (loaded a) }) file answer) same
        ∙ ap (with_added (record old { state = wanted_kept registry old.state (loaded a) }) file) is
        ∙ sym (ap (first_added (record old { state = wanted_kept registry old.state (loaded a) }) (loaded a)) (ap (λ (x : OpenLoads). x.state.wanted) (sym same) ∙ (first_there b.state.wanted file (sym first)).1))

-- the file of a version was
pub kept_file : {T E : Type 0} (r : Result T E) (registry : RegistryMeaning) (b old new : OpenLoads) (nv : PackageNv) (a : Answer) (answer : FileAnswer) (state : State) → b ≡ old → answer ≡ loaded a → state ≡ file_kept b.state nv (kept_of registry nv answer) → OnOk r (new ≡ with_added (record b { state = state }) (Version nv) answer) → OnOk r (new ≡ with_added (record old { state = file_kept old.state nv (kept_of registry nv (loaded a)) }) (Version nv) (loaded a))
kept_file r registry b old new nv a answer state same is now added = subst (λ (x : OpenLoads). OnOk r (new ≡ x)) whole added
  where
    whole : with_added (record b { state = state }) (Version nv) answer ≡ with_added (record old { state = file_kept old.state nv (kept_of registry nv (loaded a)) }) (Version nv) (loaded a)
    whole =
        ap (λ (s : State). with_added (record b { state = s }) (Version nv) answer) (now ∙ ap (λ (x : FileAnswer). file_kept b.state nv (kept_of registry nv x)) is)
        ∙ ap (λ (x : OpenLoads). with_added (record x { state = file_kept x.state nv (kept_of registry nv (loaded a)) }) (Version nv) answer) same
        ∙ ap (with_added (record old { state = file_kept old.state nv (kept_of registry nv (loaded a)) }) (Version nv)) is

-- ---- the file of a version that the given store may have

pub found_none : (store : Option JsrMetadataStore) (nv : PackageNv) → None ≡ answer_in store (Version nv) → false ≡ is_stored store (Version nv)
found_none store nv none = ap is_some none

pub found_some : (store : Option JsrMetadataStore) (nv : PackageNv) (answer : FileAnswer) → Some answer ≡ answer_in store (Version nv) → true ≡ is_stored store (Version nv)
found_some store nv answer here = ap is_some here

pub unread : (registry : RegistryMeaning) (b : OpenLoads) (nv : PackageNv) → None ≡ answer_in (known_now b).store (Version nv) → b ≡ by_option (answer_in (known_now b).store (Version nv)) b (stored_read registry b nv)
unread registry b nv none = ap (λ (o : Option FileAnswer). by_option o b (stored_read registry b nv)) none

pub read_there : (registry : RegistryMeaning) (b old : OpenLoads) (nv : PackageNv) (answer : FileAnswer) (state : State) → b ≡ old → Some answer ≡ answer_in (known_now old).store (Version nv) → state ≡ file_kept b.state nv (kept_of registry nv answer) → record b { state = state } ≡ by_option (answer_in (known_now old).store (Version nv)) old (stored_read registry old nv)
read_there registry b old nv answer state same here now =
    ap (λ (s : State). record b { state = s }) now
    ∙ ap (λ (x : OpenLoads). record x { state = file_kept x.state nv (kept_of registry nv answer) }) same
    ∙ ap (λ (o : Option FileAnswer). by_option o old (stored_read registry old nv)) here
