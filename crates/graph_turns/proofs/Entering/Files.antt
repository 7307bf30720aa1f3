-- Answers about the files of versions: those that stand, and one more.
use Rattle.std.proofs.Common.{◌≡◌, ◌⊎◌, ℕ, List, [], ◌∷◌, Bool, true, false, cond, Option, None, Some, Result, Ok, Err, is_some, if◌then◌else◌, refl, sym, ap, ◌∙◌, subst, inl, inr}
use Rattle.std.specs.Ordering.{eq_by_cmp}
use Rattle.std.specs.Cmp.{IsTotalOrder, eq_by_cmp_equiv, Equal-is}
use Rattle.std.specs.Cmp.Lexicographic.{nat_list_cmp_total}
use Rattle.std.specs.FinMap as finite
use Rattle.std.specs.FinMap.{IsAntisymmetric, get-insert, nat_cmp-IsAntisymmetric, slice_cmp-IsAntisymmetric}
use Rattle.std.specs.declared.cmp.Ordering.{Ordering}
use Rattle.std.proofs.lemmas.Bool.{true≢false}
use Rattle.spec_base.specs.Shown.{text_cmp}
use Rattle.semver_npm.specs.Orders.{nv_cmp}
use Rattle.semver_npm.specs.declared.package.PackageNv.{PackageNv}
use Rattle.source_sums.specs.VersionKeys.{nv_exact, nv_total}
use Rattle.metadata_store.specs.Store.{with_answer}
use Rattle.url.specs.Parts.{Parts}
use Rattle.graph_errors.specs.declared.jsr_error.JsrLoadError.{JsrLoadError}
use Rattle.registry_urls.specs.Meaning.{RegistryMeaning}
use Rattle.registry_files.specs.Answers.{FileAnswer, package_answer, version_answer}
use Rattle.registry_files.specs.Kept.{FilesAt}
use Rattle.registry_files.specs.declared.kept_version.KeptVersion.{KeptVersion}
use Rattle.registry_files.specs.declared.version_file.VersionFile.{VersionFile}
use Rattle.graph_turns.specs.declared.registry.RegistryFile.{RegistryFile}
use Rattle.graph_turns.specs.declared.registry.RegistryFile.TheVariants.{Package, PackageAgain, Version, Probe}
use Rattle.graph_turns.specs.declared.state.State.{State}
use Rattle.graph_turns.specs.Machine.Files.{file_kept, noted}
use Rattle.graph_turns.specs.Machine.Held.{AreNamed}
use Rattle.graph_turns.specs.Machine.RegistryFiles.{answer_kept, first_kept, wanted_kept}
use Rattle.graph_turns.specs.Promise.Cached.{has_file}
use Rattle.graph_turns.specs.Promise.Versions.{kept_at, kept_of}

pub same_version : (q k : PackageNv) → eq_by_cmp nv_cmp q k ≡ true → q ≡ k
same_version q k t = nv_exact q k ((Equal-is (nv_cmp q k)).0 t)

some_same : {V : Type 0} (x y : V) → Some x ≡ Some y → x ≡ y
some_same x y e = cc

-- ---- one more answer

module _ {K V : Type 0} {R : K → K → Ordering} (total : IsTotalOrder R) (exact : IsAntisymmetric R) (known : finite.FinMap R V) (key : K) (answer : V) where
  same_key : (k : K) → eq_by_cmp R k k ≡ true
  same_key k = (eq_by_cmp_equiv total).refl k

  exactly : (q k : K) → eq_by_cmp R q k ≡ true → q ≡ k
  exactly q k t = exact q k ((Equal-is (R q k)).0 t)

  put_at : (k : K) → finite.get (finite.insert known key answer) k ≡ cond (eq_by_cmp R k key) (Some answer) (finite.get known k)
  put_at k = get-insert total known key answer k

  -- what stands stays
  pub kept_stays : (k : K) (x : V) → finite.get known k ≡ Some x → finite.get (with_answer known key answer) k ≡ Some x
  kept_stays k x e = by (finite.contains_key known key) refl
    where
      by_key : (b : Bool) → eq_by_cmp R k key ≡ b → finite.contains_key known key ≡ false → cond b (Some answer) (finite.get known k) ≡ Some x
      by_key true t none = absurd (true≢false (sym (ap is_some (subst (λ z. finite.get known z ≡ Some x) (exactly k key t) e)) ∙ none))
      by_key false f none = e

      by : (b : Bool) → finite.contains_key known key ≡ b → finite.get (if b then known else finite.insert known key answer) k ≡ Some x
      by true t = e
      by false f = put_at k ∙ by_key (eq_by_cmp R k key) refl f

  -- what stands then stood before, or is the answer
  pub kept_cases : (k : K) (x : V) → finite.get (with_answer known key answer) k ≡ Some x → (finite.get known k ≡ Some x) ⊎ ((k ≡ key) × (x ≡ answer))
  kept_cases k x = by (finite.contains_key known key)
    where
      by_key : (b : Bool) → eq_by_cmp R k key ≡ b → cond b (Some answer) (finite.get known k) ≡ Some x → (finite.get known k ≡ Some x) ⊎ ((k ≡ key) × (x ≡ answer))
      by_key true t e = inr (exactly k key t, sym (some_same answer x e))
      by_key false f e = inl e

      by : (b : Bool) → finite.get (if b then known else finite.insert known key answer) k ≡ Some x → (finite.get known k ≡ Some x) ⊎ ((k ≡ key) × (x ≡ answer))
      by true e = inl e
      by false e = by_key (eq_by_cmp R k key) refl (sym (put_at k) ∙ e)

  -- where none stood, it stands
  pub kept_there : finite.get known key ≡ None → finite.get (with_answer known key answer) key ≡ Some answer
  kept_there none = by (finite.contains_key known key) refl
    where
      by : (b : Bool) → finite.contains_key known key ≡ b → finite.get (if b then known else finite.insert known key answer) key ≡ Some answer
      by true t = absurd (true≢false (sym t ∙ ap is_some none))
      by false f = put_at key ∙ ap (λ b. cond b (Some answer) (finite.get known key)) (same_key key)

-- about the file of a version
module _ {V : Type 0} (files : finite.FinMap nv_cmp V) (nv : PackageNv) (v : V) where
  pub answer_stays : (k : PackageNv) (x : V) → finite.get files k ≡ Some x → finite.get (with_answer files nv v) k ≡ Some x
  answer_stays k x e = kept_stays nv_total nv_exact files nv v k x e

  pub answer_cases : (k : PackageNv) (x : V) → finite.get (with_answer files nv v) k ≡ Some x → (finite.get files k ≡ Some x) ⊎ ((k ≡ nv) × (x ≡ v))
  answer_cases k x e = kept_cases nv_total nv_exact files nv v k x e

  pub answer_there : finite.get files nv ≡ None → finite.get (with_answer files nv v) nv ≡ Some v
  answer_there none = kept_there nv_total nv_exact files nv v none

-- about the file of a package
name_exact : IsAntisymmetric text_cmp
name_exact = slice_cmp-IsAntisymmetric nat_cmp-IsAntisymmetric

module _ {V : Type 0} (packages : finite.FinMap text_cmp V) (name : List ℕ) (v : V) where
  pub package_stays : (k : List ℕ) (x : V) → finite.get packages k ≡ Some x → finite.get (with_answer packages name v) k ≡ Some x
  package_stays k x e = kept_stays nat_list_cmp_total name_exact packages name v k x e

  pub package_cases : (k : List ℕ) (x : V) → finite.get (with_answer packages name v) k ≡ Some x → (finite.get packages k ≡ Some x) ⊎ ((k ≡ name) × (x ≡ v))
  package_cases k x e = kept_cases nat_list_cmp_total name_exact packages name v k x e

  pub package_there : finite.get packages name ≡ None → finite.get (with_answer packages name v) name ≡ Some v
  package_there none = kept_there nat_list_cmp_total name_exact packages name v none

-- ---- as files

-- all that is known of files stays known
abbrev pub FilesStay : FilesAt → FilesAt → Type 0
FilesStay old new = (nv : PackageNv) (x : Result KeptVersion JsrLoadError) → old nv ≡ Some x → new nv ≡ Some x

pub files_kept : (s : State) (nv : PackageNv) (kept : Result KeptVersion JsrLoadError) → FilesStay (finite.get s.files) (finite.get (file_kept s nv kept).files)
files_kept s nv kept k x e = answer_stays s.files nv kept k x e

ok_same : (x y : KeptVersion) → ◌≡◌ {A = Result KeptVersion JsrLoadError} (Ok x) (Ok y) → x ≡ y
ok_same x y e = cc

-- what is kept of an answer is named by its version
pub named_kept : (registry : RegistryMeaning) (nv : PackageNv) (answer : FileAnswer) (v : KeptVersion) → kept_of registry nv answer ≡ Ok v → v.nv ≡ nv
named_kept registry nv answer v = by (version_answer nv answer)
  where
    by : (r : Result VersionFile JsrLoadError) → kept_at (registry.package_url nv) nv r ≡ Ok v → v.nv ≡ nv
    by (Ok file) e = ap (λ (x : KeptVersion). x.nv) (sym (ok_same _ v e))
    by (Err error) e = absurd (let wrong : Err error ≡ Ok v = e in cc)

pub named_file : (s : State) (nv : PackageNv) (kept : Result KeptVersion JsrLoadError) → AreNamed (finite.get s.files) → ((v : KeptVersion) → kept ≡ Ok v → v.nv ≡ nv) → AreNamed (finite.get (file_kept s nv kept).files)
named_file s nv kept named new k v e = by (answer_cases s.files nv kept k (Ok v) e)
  where
    by : (finite.get s.files k ≡ Some (Ok v)) ⊎ ((k ≡ nv) × (Ok v ≡ kept)) → v.nv ≡ k
    by (inl old) = named k v old
    by (inr now) = new v (sym now.1) ∙ sym now.0

-- ---- the files that a pass wants

-- how what was answered about the first one is kept
pub data WantedKept (registry : RegistryMeaning) (s : State) (answer : FileAnswer) : State → Type 0 where
  no_file : s.wanted ≡ [] → WantedKept registry s answer s
  of_package : {name : List ℕ} {files : List RegistryFile} → s.wanted ≡ Package name ∷ files → WantedKept registry s answer (record s { wanted = files; packages = with_answer s.packages name (package_answer name answer) })
  of_package_again : {name : List ℕ} {files : List RegistryFile} → s.wanted ≡ PackageAgain name ∷ files → WantedKept registry s answer (record s { wanted = files; reloaded = with_answer s.reloaded name (package_answer name answer) })
  of_version : {nv : PackageNv} {files : List RegistryFile} → s.wanted ≡ Version nv ∷ files → WantedKept registry s answer (file_kept (record s { wanted = files }) nv (kept_of registry nv answer))
  of_probe : {nv : PackageNv} {files : List RegistryFile} → s.wanted ≡ Probe nv ∷ files → WantedKept registry s answer (record s { wanted = files; probed = with_answer s.probed nv (has_file answer) })

pub wanted_first : (registry : RegistryMeaning) (s : State) (answer : FileAnswer) (file : RegistryFile) (files : List RegistryFile) → s.wanted ≡ file ∷ files → wanted_kept registry s answer ≡ answer_kept registry (record s { wanted = files }) file answer
wanted_first registry s answer file files e = ap (first_kept registry s answer) e

pub how_wanted : (registry : RegistryMeaning) (s : State) (answer : FileAnswer) → WantedKept registry s answer (wanted_kept registry s answer)
how_wanted registry s answer = by s.wanted refl
  where
    by_file : (file : RegistryFile) (files : List RegistryFile) → s.wanted ≡ file ∷ files → WantedKept registry s answer (answer_kept registry (record s { wanted = files }) file answer)
    by_file (Package name) files e = of_package e
    by_file (PackageAgain name) files e = of_package_again e
    by_file (Version nv) files e = of_version e
    by_file (Probe nv) files e = of_probe e

    by : (l : List RegistryFile) → s.wanted ≡ l → WantedKept registry s answer (first_kept registry s answer l)
    by [] e = no_file e
    by (file ∷ files) e = by_file file files e

files_wanted_by : (registry : RegistryMeaning) (s : State) (answer : FileAnswer) (u : State) → WantedKept registry s answer u → FilesStay (finite.get s.files) (finite.get u.files)
files_wanted_by registry s answer u (no_file e) k x h = h
files_wanted_by registry s answer u (of_package e) k x h = h
files_wanted_by registry s answer u (of_package_again e) k x h = h
files_wanted_by registry s answer u (of_probe e) k x h = h
files_wanted_by registry s answer u (of_version {nv} {files} e) k x h = files_kept (record s { wanted = files }) nv (kept_of registry nv answer) k x h

pub files_wanted : (registry : RegistryMeaning) (s : State) (answer : FileAnswer) → FilesStay (finite.get s.files) (finite.get (wanted_kept registry s answer).files)
files_wanted registry s answer = files_wanted_by registry s answer (wanted_kept registry s answer) (how_wanted registry s answer)

named_wanted_by : (registry : RegistryMeaning) (s : State) (answer : FileAnswer) (u : State) → WantedKept registry s answer u → AreNamed (finite.get s.files) → AreNamed (finite.get u.files)
named_wanted_by registry s answer u (no_file e) named = named
named_wanted_by registry s answer u (of_package e) named = named
named_wanted_by registry s answer u (of_package_again e) named = named
named_wanted_by registry s answer u (of_probe e) named = named
named_wanted_by registry s answer u (of_version {nv} {files} e) named = named_file (record s { wanted = files }) nv (kept_of registry nv answer) named (named_kept registry nv answer)

pub named_wanted : (registry : RegistryMeaning) (s : State) (answer : FileAnswer) → AreNamed (finite.get s.files) → AreNamed (finite.get (wanted_kept registry s answer).files)
named_wanted registry s answer named = named_wanted_by registry s answer (wanted_kept registry s answer) (how_wanted registry s answer) named
