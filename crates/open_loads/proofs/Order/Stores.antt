-- The given store through turns: what it has it keeps, and none of that is stored once more.
use Rattle.std.proofs.Common.{◌≡◌, ℕ, zero, suc, Bool, true, false, if◌then◌else◌, Option, None, Some, is_some, refl, sym, ap, ◌∙◌}
use Rattle.std.specs.Prelude.{option_map}
use Rattle.std.proofs.lemmas.Bool.{true≢false}
use Rattle.std.specs.FinMap as finite
use Rattle.spec_base.specs.Options.{by_option}
use Rattle.metadata_store.specs.declared.store.JsrMetadataStore.{JsrMetadataStore}
use Rattle.registry_files.specs.Answers.{FileAnswer}
use Rattle.graph_dependencies.specs.declared.graph_kind.GraphKind.{GraphKind}
use Rattle.graph_turns.specs.declared.registry.RegistryFile.{RegistryFile}
use Rattle.graph_turns.specs.declared.registry.RegistryFile.TheVariants.{Package, PackageAgain, Version, Probe}
use Rattle.graph_turns.specs.declared.run.Run.{Run}
use Rattle.graph_turns.specs.declared.run.Run.TheVariants.{Only, First, Due, Second}
use Rattle.graph_turns.specs.declared.state.State.{State}
use Rattle.graph_turns.specs.Machine.Next.{next_of}
use Rattle.graph_turns.specs.Machine.Runs.{is_second, store_for, told_for}
use Rattle.graph_turns.specs.Machine.Turns.{reads_by, store_after, store_by, store_reading, turns}
use Rattle.graph_turns.specs.Promise.Told.{Told}
use Rattle.graph_turns.specs.Promise.Versions.{answer_in, is_stored, store_with, told_file}
use Rattle.graph_turns.proofs.Entering.Files.{answer_stays, package_stays}

-- ---- one answer more

-- an answer that a store has counts
store_same : (own : JsrMetadataStore) (file : RegistryFile) (answer : FileAnswer) → is_stored (Some own) file ≡ true → store_with own file answer ≡ own
store_same own (Package name) answer t = ap (λ (b : Bool). record own { packages = if b then own.packages else finite.insert own.packages name answer }) t
store_same own (PackageAgain name) answer t = refl
store_same own (Probe nv) answer t = refl
store_same own (Version nv) answer t = ap (λ (b : Bool). record own { versions = if b then own.versions else finite.insert own.versions nv answer }) t

there : (o : Option FileAnswer) → is_some o ≡ true → (a : FileAnswer) × (o ≡ Some a)
there None t = absurd (true≢false (sym t))
there (Some a) t = (a, refl)

-- and what it has it keeps
stored_with : (own : JsrMetadataStore) (file other : RegistryFile) (answer : FileAnswer) → is_stored (Some own) other ≡ true → is_stored (Some (store_with own file answer)) other ≡ true
stored_with own (Package name) (Package k) answer t = let a = there (finite.get own.packages k) t in ap is_some (package_stays own.packages name answer k a.0 a.1)
stored_with own (Package name) (PackageAgain k) answer t = t
stored_with own (Package name) (Version k) answer t = t
stored_with own (Package name) (Probe k) answer t = t
stored_with own (PackageAgain name) other answer t = t
stored_with own (Probe nv) other answer t = t
stored_with own (Version nv) (Package k) answer t = t
stored_with own (Version nv) (PackageAgain k) answer t = t
stored_with own (Version nv) (Probe k) answer t = t
stored_with own (Version nv) (Version k) answer t = let a = there (finite.get own.versions k) t in ap is_some (answer_stays own.versions nv answer k a.0 a.1)

-- where one is given
stored_option : (store : Option JsrMetadataStore) (file other : RegistryFile) (answer : FileAnswer) → is_stored store other ≡ true → is_stored (option_map (λ own. store_with own file answer) store) other ≡ true
stored_option None file other answer t = t
stored_option (Some own) file other answer t = stored_with own file other answer t

same_option : (store : Option JsrMetadataStore) (file : RegistryFile) (answer : FileAnswer) → is_stored store file ≡ true → option_map (λ own. store_with own file answer) store ≡ store
same_option None file answer t = refl
same_option (Some own) file answer t = ap Some (store_same own file answer t)

-- a given store counts in a first run
first_store : (store : Option JsrMetadataStore) (run : Run) → is_second run ≡ false → store_for store run ≡ store
first_store store Only f = refl
first_store store (First start) f = refl
first_store store (Due start) f = refl
first_store store (Second e) f = absurd (true≢false f)

pub answered_first : (store : Option JsrMetadataStore) (run : Run) (file : RegistryFile) → is_second run ≡ false → answer_in (store_for store run) file ≡ answer_in store file
answered_first store run file f = ap (λ (x : Option JsrMetadataStore). answer_in x file) (first_store store run f)

-- none does in a second one
pub answered_second : (store : Option JsrMetadataStore) (run : Run) (file : RegistryFile) → is_second run ≡ true → answer_in (store_for store run) file ≡ None
answered_second store Only file t = absurd (true≢false (sym t))
answered_second store (First start) file t = absurd (true≢false (sym t))
answered_second store (Due start) file t = absurd (true≢false (sym t))
answered_second store (Second e) file t = refl

-- ---- a turn

module _ (w : Told) (s : State) (store : Option JsrMetadataStore) where
  -- by what it reads
  after_as : (o : Option RegistryFile) → reads_by (told_for w s.run) s (next_of s) ≡ o → store_after w s store ≡ (if is_second s.run then store else by_option o store (store_reading (told_for w s.run) store))
  after_as o e = ap (λ (x : Option RegistryFile). if is_second s.run then store else by_option x store (store_reading (told_for w s.run) store)) e

  either : (b : Bool) → (if b then store else store) ≡ store
  either true = refl
  either false = refl

  pub after_none : reads_by (told_for w s.run) s (next_of s) ≡ None → store_after w s store ≡ store
  after_none e = after_as None e ∙ either (is_second s.run)

  pub after_reads : (file : RegistryFile) (answer : FileAnswer) → reads_by (told_for w s.run) s (next_of s) ≡ Some file → told_file (told_for w s.run) file ≡ answer → store_after w s store ≡ (if is_second s.run then store else option_map (λ own. store_with own file answer) store)
  after_reads file answer e told = after_as (Some file) e ∙ ap (λ (x : FileAnswer). if is_second s.run then store else option_map (λ own. store_with own file x) store) told

  -- a file whose answer the given store has
  pub after_stored : (file : RegistryFile) (answer : FileAnswer) → reads_by (told_for w s.run) s (next_of s) ≡ Some file → answer_in (told_for w s.run).known.store file ≡ Some answer → ((f : RegistryFile) → is_stored w.known.store f ≡ true → is_stored store f ≡ true) → store_after w s store ≡ store
  after_stored file answer e here keeps = after_as (Some file) e ∙ by (is_second s.run) refl
    where
      by : (b : Bool) → is_second s.run ≡ b → (if b then store else option_map (λ own. store_with own file (told_file (told_for w s.run) file)) store) ≡ store
      by true t = refl
      by false f = same_option store file (told_file (told_for w s.run) file) (keeps file (ap is_some (sym (ap (λ (x : Option JsrMetadataStore). answer_in x file) (first_store w.known.store s.run f)) ∙ here)))

  -- what stood in it stands
  after_keeps : (f : RegistryFile) → is_stored store f ≡ true → is_stored (store_after w s store) f ≡ true
  after_keeps f t = by (is_second s.run) (reads_by (told_for w s.run) s (next_of s))
    where
      by : (b : Bool) (o : Option RegistryFile) → is_stored (if b then store else by_option o store (store_reading (told_for w s.run) store)) f ≡ true
      by true o = t
      by false None = t
      by false (Some file) = stored_option store file f (told_file (told_for w s.run) file) t

-- so after some turns
pub store_keeps : (w : Told) (kind : GraphKind) (n : ℕ) (start : State) (f : RegistryFile) → is_stored w.known.store f ≡ true → is_stored (store_by w kind n start) f ≡ true
unfolding store_by
store_keeps w kind zero start f t = t
store_keeps w kind (suc n) start f t = after_keeps w (turns w kind n start) (store_by w kind n start) f (store_keeps w kind n start f t)
