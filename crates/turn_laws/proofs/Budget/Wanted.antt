-- That each file of the registry which passes want is asked about once, and what is known of what it is about.
use Rattle.std.proofs.Common.{◌≡◌, ℕ, List, [], ◌∷◌, ◌++◌, Bool, true, false, ◌||◌, if◌then◌else◌, Option, None, Some, Result, Ok, Err, refl, sym, ap, ◌∙◌, subst, inl, inr, ⊎_elim, ◌⊎◌, bytes_eq}
use Rattle.std.proofs.lemmas.Bool.{true≢false}
use Rattle.std.proofs.lemmas.List.Elements.{All-head, All-tail}
use Rattle.std.proofs.lemmas.Slice.Eq.{bytes_eq-Decides}
use Rattle.std.specs.Cmp.Lexicographic.{nat_list_cmp_total}
use Rattle.std.specs.FinMap as finite
use Rattle.std.specs.FinMap.{IsAntisymmetric, nat_cmp-IsAntisymmetric, slice_cmp-IsAntisymmetric}
use Rattle.std.specs.List.{All, list_any}
use Rattle.seen_pending.specs.Once.{unseen}
use Rattle.pkg_records.specs.Kept.{same_nv}
use Rattle.spec_base.specs.Shown.{text_cmp}
use Rattle.spec_base.specs.Specifier.{specifier_text}
use Rattle.semver_npm.specs.declared.package.PackageNv.{PackageNv}
use Rattle.source_sums.specs.VersionKeys.{nv_exact, nv_total}
use Rattle.registry_files.specs.Answers.{FileAnswer, package_answer}
use Rattle.registry_files.specs.Kept.{Versions}
use Rattle.registry_files.specs.declared.kept_version.KeptVersion.{KeptVersion}
use Rattle.registry_urls.specs.Meaning.{RegistryMeaning}
use Rattle.graph_errors.specs.declared.jsr_error.JsrLoadError.{JsrLoadError}
use Rattle.graph_core.specs.declared.graph.ModuleGraph.{ModuleGraph}
use Rattle.graph_turns.specs.declared.passes.Chosen.{Chosen}
use Rattle.graph_turns.specs.declared.passes.Pass.{Pass}
use Rattle.graph_turns.specs.declared.registry.RegistryFile.{RegistryFile}
use Rattle.graph_turns.specs.declared.registry.RegistryFile.TheVariants.{Package, PackageAgain, Version, Probe}
use Rattle.graph_turns.specs.declared.run.Run.TheVariants.{Only}
use Rattle.graph_turns.specs.declared.state.State.{State}
use Rattle.graph_turns.specs.declared.waiting.WaitingPackage.{WaitingPackage}
use Rattle.turn_laws.specs.Budget.Asked.{IsChosen, NamesKnown}
use Rattle.graph_turns.specs.Machine.Files.{file_kept, noted}
use Rattle.graph_turns.specs.Machine.RegistryFiles.{Packages, answer_kept, first_kept, is_package_of, is_version_of, packages_wanted, versions_wanted, wanted_kept, wanted_with}
use Rattle.graph_turns.specs.Machine.Probing.{Probed, probes}
use Rattle.graph_turns.specs.Promise.Cached.{has_file}
use Rattle.graph_turns.specs.Promise.Versions.{kept_of}
use Rattle.graph_turns.proofs.Entering.Wants.{any_last, neither}
use Rattle.turn_laws.proofs.Budget.Answers.{answer_here, answer_other, answer_still}
use Rattle.turn_laws.proofs.Budget.Known.{IsKnown}
use Rattle.turn_laws.proofs.Budget.Named.{AllNamed, IsNamed, Names, PassNames}
use Rattle.turn_laws.proofs.Budget.Packages.{same_itself}
use Rattle.turn_laws.proofs.Budget.Versions.{WasRead}

-- texts tie only with equal ones
text_exact : IsAntisymmetric text_cmp
text_exact = slice_cmp-IsAntisymmetric nat_cmp-IsAntisymmetric

-- ---- lists of files

abbrev pub HasFile : RegistryFile → List RegistryFile → Type 0
HasFile f [] = ⊥
HasFile f (x ∷ xs) = (f ≡ x) ⊎ HasFile f xs

-- no file twice
abbrev pub OnceFile : List RegistryFile → Type 0
OnceFile [] = Unit {0}
OnceFile (x ∷ xs) = (HasFile x xs → ⊥) × OnceFile xs

pub file_last : (f : RegistryFile) (xs : List RegistryFile) (x : RegistryFile) → HasFile f (xs ++ x ∷ []) → HasFile f xs ⊎ (f ≡ x)
file_last f [] x h = ⊎_elim inr (λ n. absurd n) h
file_last f (y ∷ xs) x h = ⊎_elim (λ e. inl (inl e)) (λ r. ⊎_elim (λ a. inl (inr a)) inr (file_last f xs x r)) h

pub once_file : (xs : List RegistryFile) (x : RegistryFile) → OnceFile xs → (HasFile x xs → ⊥) → OnceFile (xs ++ x ∷ [])
once_file [] x once new = (λ h. h, tt)
once_file (y ∷ xs) x once new =
    (λ h. ⊎_elim once.0 (λ same. new (inl (sym same))) (file_last y xs x h), once_file xs x once.1 (λ h. new (inr h)))

-- ---- the files of packages

-- a file of a package that isn't known, of one of some specifiers
abbrev pub IsNewPackage : Packages → List WaitingPackage → RegistryFile → Type 0
IsNewPackage known items (Package name) = (finite.contains_key known name ≡ false) × Names name items
IsNewPackage known items (PackageAgain name) = ⊥
IsNewPackage known items (Version nv) = ⊥
IsNewPackage known items (Probe nv) = ⊥

package_any : (name : List ℕ) (xs : List RegistryFile) → HasFile (Package name) xs → list_any (is_package_of name) xs ≡ true
package_any name [] h = absurd h
package_any name (x ∷ xs) (inl e) =
    ap (λ f. is_package_of name f || list_any (is_package_of name) xs) (sym e)
    ∙ ap (λ b. b || list_any (is_package_of name) xs) ((bytes_eq-Decides name name).1 refl)
package_any name (x ∷ xs) (inr h) = by (package_any name xs h) (is_package_of name x)
  where
    by : list_any (is_package_of name) xs ≡ true → (b : Bool) → b || list_any (is_package_of name) xs ≡ true
    by rest true = refl
    by rest false = rest

-- some files, each once
abbrev pub AreOnce : (RegistryFile → Type 0) → List RegistryFile → Type 0
AreOnce P files = OnceFile files × ((f : RegistryFile) → HasFile f files → P f)

module _ (known : Packages) (all : List WaitingPackage) where
  one_package : (name : List ℕ) (wanted : List RegistryFile) → Names name all → AreOnce (IsNewPackage known all) wanted → AreOnce (IsNewPackage known all) (wanted_with (finite.contains_key known name) (is_package_of name) wanted (Package name))
  one_package name wanted among are = by (finite.contains_key known name) refl (list_any (is_package_of name) wanted) refl
    where
      by : (x : Bool) → finite.contains_key known name ≡ x → (y : Bool) → list_any (is_package_of name) wanted ≡ y → AreOnce (IsNewPackage known all) (if x || y then wanted else wanted ++ Package name ∷ [])
      by true k y e = are
      by false k true e = are
      by false k false e = (
        once_file wanted (Package name) are.0 (λ h. true≢false (sym (package_any name wanted h) ∙ e)),
        λ f h. ⊎_elim (are.1 f) (λ same. subst (IsNewPackage known all) (sym same) (k, among)) (file_last f wanted (Package name) h),
      )

  pub packages_are : (items : List WaitingPackage) (wanted : List RegistryFile) → ((name : List ℕ) → Names name items → Names name all) → AreOnce (IsNewPackage known all) wanted → AreOnce (IsNewPackage known all) (packages_wanted known wanted items)
  unfolding packages_wanted
  packages_are [] wanted within are = are
  packages_are (item ∷ items) wanted within are =
      packages_are items (wanted_with (finite.contains_key known item.req.name) (is_package_of item.req.name) wanted (Package item.req.name)) (λ name h. within name (inr h))
      (one_package item.req.name wanted (within item.req.name (inl refl)) are)

-- ---- the files of versions

abbrev pub WasChosen : PackageNv → List Chosen → Type 0
WasChosen nv [] = ⊥
WasChosen nv (one ∷ others) = (nv ≡ one.nv) ⊎ WasChosen nv others

-- a file of a version that isn't known, and was chosen
abbrev pub IsNewVersion : Versions → List Chosen → RegistryFile → Type 0
IsNewVersion known all (Package name) = ⊥
IsNewVersion known all (PackageAgain name) = ⊥
IsNewVersion known all (Probe nv) = ⊥
IsNewVersion known all (Version nv) = (finite.contains_key known nv ≡ false) × WasChosen nv all

version_any : (nv : PackageNv) (xs : List RegistryFile) → HasFile (Version nv) xs → list_any (is_version_of nv) xs ≡ true
version_any nv [] h = absurd h
version_any nv (x ∷ xs) (inl e) =
    ap (λ f. is_version_of nv f || list_any (is_version_of nv) xs) (sym e)
    ∙ ap (λ b. b || list_any (is_version_of nv) xs) (same_itself nv)
version_any nv (x ∷ xs) (inr h) = by (version_any nv xs h) (is_version_of nv x)
  where
    by : list_any (is_version_of nv) xs ≡ true → (b : Bool) → b || list_any (is_version_of nv) xs ≡ true
    by rest true = refl
    by rest false = rest

module _ (known : Versions) (all : List Chosen) where
  one_version : (nv : PackageNv) (wanted : List RegistryFile) → WasChosen nv all → AreOnce (IsNewVersion known all) wanted → AreOnce (IsNewVersion known all) (wanted_with (finite.contains_key known nv) (is_version_of nv) wanted (Version nv))
  one_version nv wanted among are = by (finite.contains_key known nv) refl (list_any (is_version_of nv) wanted) refl
    where
      by : (x : Bool) → finite.contains_key known nv ≡ x → (y : Bool) → list_any (is_version_of nv) wanted ≡ y → AreOnce (IsNewVersion known all) (if x || y then wanted else wanted ++ Version nv ∷ [])
      by true k y e = are
      by false k true e = are
      by false k false e = (
        once_file wanted (Version nv) are.0 (λ h. true≢false (sym (version_any nv wanted h) ∙ e)),
        λ f h. ⊎_elim (are.1 f) (λ same. subst (IsNewVersion known all) (sym same) (k, among)) (file_last f wanted (Version nv) h),
      )

  pub versions_are : (chosen : List Chosen) (wanted : List RegistryFile) → ((nv : PackageNv) → WasChosen nv chosen → WasChosen nv all) → AreOnce (IsNewVersion known all) wanted → AreOnce (IsNewVersion known all) (versions_wanted known wanted chosen)
  unfolding versions_wanted
  versions_are [] wanted within are = are
  versions_are (one ∷ others) wanted within are =
      versions_are others (wanted_with (finite.contains_key known one.nv) (is_version_of one.nv) wanted (Version one.nv)) (λ nv h. within nv (inr h))
      (one_version one.nv wanted (within one.nv (inl refl)) are)

-- ---- the files of versions in a cache

-- what holds of each version holds of what its file is of
pub probe_of : (P : PackageNv → Type 0) (nvs : List PackageNv) (f : RegistryFile) → All P nvs → HasFile f (probes nvs) → (nv : PackageNv) × (f ≡ Probe nv) × P nv
probe_of P [] f all h = absurd h
probe_of P (nv ∷ nvs) f all (inl same) = (nv, same, All-head P nv nvs all)
probe_of P (nv ∷ nvs) f all (inr h) = probe_of P nvs f (All-tail P nv nvs all) h

-- where none of some and one more passes, neither do those nor it
last_apart : (p : PackageNv → Bool) (xs : List PackageNv) (x : PackageNv) → list_any p (xs ++ x ∷ []) ≡ false → (list_any p xs ≡ false) × (p x ≡ false)
last_apart p xs x e = neither (list_any p xs) (p x) (sym (any_last p xs x) ∙ e)

-- one of those that weren't seen is none of those that were
unseen_new : (nv : PackageNv) (seen nvs : List PackageNv) → HasFile (Probe nv) (probes (unseen same_nv seen nvs)) → list_any (same_nv nv) seen ≡ false
unfolding unseen
unseen_new nv seen [] h = absurd h
unseen_new nv seen (x ∷ xs) h = by (unseen_new nv seen xs) (unseen_new nv (seen ++ x ∷ []) xs) (list_any (same_nv x) seen) refl h
  where
    by : (HasFile (Probe nv) (probes (unseen same_nv seen xs)) → list_any (same_nv nv) seen ≡ false) → (HasFile (Probe nv) (probes (unseen same_nv (seen ++ x ∷ []) xs)) → list_any (same_nv nv) (seen ++ x ∷ []) ≡ false) → (b : Bool) → list_any (same_nv x) seen ≡ b → HasFile (Probe nv) (probes (if b then unseen same_nv seen xs else x ∷ unseen same_nv (seen ++ x ∷ []) xs)) → list_any (same_nv nv) seen ≡ false
    by old new true e h = old h
    by old new false e (inl same) = let it : nv ≡ x = cc in ap (λ (z : PackageNv). list_any (same_nv z) seen) it ∙ e
    by old new false e (inr h) = (last_apart (same_nv nv) seen x (new h)).0

-- each of them is one file
pub once_probes : (seen nvs : List PackageNv) → OnceFile (probes (unseen same_nv seen nvs))
unfolding unseen
once_probes seen [] = tt
once_probes seen (x ∷ xs) = by (once_probes seen xs) (once_probes (seen ++ x ∷ []) xs) (list_any (same_nv x) seen)
  where
    by : OnceFile (probes (unseen same_nv seen xs)) → OnceFile (probes (unseen same_nv (seen ++ x ∷ []) xs)) → (b : Bool) → OnceFile (probes (if b then unseen same_nv seen xs else x ∷ unseen same_nv (seen ++ x ∷ []) xs))
    by old new true = old
    by old new false = (λ h. true≢false (sym (same_itself x) ∙ (last_apart (same_nv x) seen x (unseen_new x (seen ++ x ∷ []) xs h)).1), new)

-- ---- what is kept, and what files are about

-- what was answered about a file is kept
abbrev pub IsKept : State → RegistryFile → Type 0
IsKept s (Package name) = finite.contains_key s.packages name ≡ true
IsKept s (PackageAgain name) = finite.contains_key s.reloaded name ≡ true
IsKept s (Version nv) = finite.contains_key s.files nv ≡ true
IsKept s (Probe nv) = finite.contains_key s.probed nv ≡ true

-- a package is named by a `jsr:` specifier that is known, or by one of the pass that goes on
abbrev pub IsNameOf : State → List ℕ → Type 0
IsNameOf s name = NamesKnown s.graph name ⊎ PassNames name s.pass

-- a file is of such a package, where it is asked about once more in a run that can't begin once more and isn't the second; or of a version
-- that was chosen, or, in a cache, one of such a package
abbrev pub IsOfFile : State → RegistryFile → Type 0
IsOfFile s (Package name) = IsNameOf s name
IsOfFile s (PackageAgain name) = IsNameOf s name × (s.run ≡ Only)
IsOfFile s (Version nv) = IsChosen s.graph nv
IsOfFile s (Probe nv) = IsNameOf s nv.name

-- specifiers for which versions were chosen are named
abbrev pub AreChosen : ModuleGraph → List Chosen → Type 0
AreChosen g [] = Unit {0}
AreChosen g (one ∷ others) = IsNamed one.item × IsChosen g one.nv × AreChosen g others

-- all specifiers of a pass are named; once exports are to enter all are judged
abbrev pub IsPassing : ModuleGraph → Option Pass → Type 0
IsPassing g None = Unit {0}
IsPassing g (Some p) = AllNamed p.items × AreChosen g p.chosen × (p.is_entering ≡ true → p.items ≡ [])

pub chosen_as : (g u : ModuleGraph) (all : List Chosen) → ((nv : PackageNv) → IsChosen g nv → IsChosen u nv) → AreChosen g all → AreChosen u all
chosen_as g u [] keeps are = tt
chosen_as g u (one ∷ others) keeps are = (are.0, keeps one.nv are.1, chosen_as g u others keeps are.2)

pub chosen_last : (g : ModuleGraph) (all : List Chosen) (one : Chosen) → AreChosen g all → IsNamed one.item → IsChosen g one.nv → AreChosen g (all ++ one ∷ [])
chosen_last g [] one are named is = (named, is, tt)
chosen_last g (x ∷ all) one are named is = (are.0, are.1, chosen_last g all one are.2 named is)

pub was_chosen : (g : ModuleGraph) (all : List Chosen) (nv : PackageNv) → AreChosen g all → WasChosen nv all → IsChosen g nv
was_chosen g [] nv are h = absurd h
was_chosen g (one ∷ others) nv are h = ⊎_elim (λ same. subst (IsChosen g) (sym same) are.1) (was_chosen g others nv are.2) h

pub passing_as : (g u : ModuleGraph) (p : Option Pass) → ((nv : PackageNv) → IsChosen g nv → IsChosen u nv) → IsPassing g p → IsPassing u p
passing_as g u None keeps is = tt
passing_as g u (Some p) keeps is = (is.0, chosen_as g u p.chosen keeps is.1, is.2)

-- a package that is named stays so
pub names_as : (g u : ModuleGraph) (name : List ℕ) → ((k : List ℕ) → IsKnown g k → IsKnown u k) → NamesKnown g name → NamesKnown u name
names_as g u name keeps h = (h.0, h.1, h.2, h.3, keeps (specifier_text h.0) h.4)

-- one is named where something stands at its specifier
pub names_here : (g : ModuleGraph) (item : WaitingPackage) → IsNamed item → IsKnown g (specifier_text item.specifier) → NamesKnown g item.req.name
names_here g item named known = (item.specifier, record { req = item.req; sub_path = item.sub_path }, named, refl, known)

-- what a step keeps: answers, that a run can't begin once more, what names packages, and what was chosen
pub record Keeps (s u : State) : Type 0 where
  pub answers : (f : RegistryFile) → IsKept s f → IsKept u f
  pub run : s.run ≡ Only → u.run ≡ Only
  pub names : (name : List ℕ) → IsNameOf s name → IsNameOf u name
  pub chosen : (nv : PackageNv) → IsChosen s.graph nv → IsChosen u.graph nv

pub of_file : (s u : State) → Keeps s u → (f : RegistryFile) → IsOfFile s f → IsOfFile u f
of_file s u k (Package name) h = k.names name h
of_file s u k (PackageAgain name) h = (k.names name h.0, k.run h.1)
of_file s u k (Version nv) h = k.chosen nv h
of_file s u k (Probe nv) h = k.names nv.name h

-- answers that stay
pub kept_as : (s u : State) → u.files ≡ s.files → u.packages ≡ s.packages → u.reloaded ≡ s.reloaded → u.probed ≡ s.probed → (f : RegistryFile) → IsKept s f → IsKept u f
kept_as s u files packages reloaded probed (Package name) h = ap (λ (m : Packages). finite.contains_key m name) packages ∙ h
kept_as s u files packages reloaded probed (PackageAgain name) h = ap (λ (m : Packages). finite.contains_key m name) reloaded ∙ h
kept_as s u files packages reloaded probed (Version nv) h = ap (λ (m : Versions). finite.contains_key m nv) files ∙ h
kept_as s u files packages reloaded probed (Probe nv) h = ap (λ (m : Probed). finite.contains_key m nv) probed ∙ h

pub name_as : (s u : State) (name : List ℕ) → ((k : List ℕ) → IsKnown s.graph k → IsKnown u.graph k) → u.pass ≡ s.pass → IsNameOf s name → IsNameOf u name
name_as s u name keeps pass (inl h) = inl (names_as s.graph u.graph name keeps h)
name_as s u name keeps pass (inr h) = inr (subst (PassNames name) (sym pass) h)

-- ---- what is counted

-- of each file that passes asked about the answer is kept, none was asked about twice, nor for a load besides, and it is known what it is
-- about; the files that are wanted are others, each once, and no load is open then; what waits and what stands in a pass is named
pub record CountedFiles (read : List PackageNv) (looked : List RegistryFile) (s : State) : Type 0 where
  pub kept : (f : RegistryFile) → HasFile f looked → IsKept s f
  pub once : OnceFile looked
  pub apart : (nv : PackageNv) → WasRead nv read → HasFile (Version nv) looked → ⊥
  pub about : (f : RegistryFile) → HasFile f looked → IsOfFile s f
  pub wanted_once : OnceFile s.wanted
  pub wanted_new : (f : RegistryFile) → HasFile f s.wanted → IsKept s f → ⊥
  pub wanted_about : (f : RegistryFile) → HasFile f s.wanted → IsOfFile s f
  pub wanted_idle : (f : RegistryFile) → HasFile f s.wanted → s.loads ≡ []
  pub named : AllNamed s.waiting
  pub passing : IsPassing s.graph s.pass

-- before the first turn
pub files_none : (s : State) → s.wanted ≡ [] → AllNamed s.waiting → IsPassing s.graph s.pass → CountedFiles [] [] s
files_none s none named passing = record {
  kept = λ f h. absurd h;
  once = tt;
  apart = λ nv h. absurd h;
  about = λ f h. absurd h;
  wanted_once = subst OnceFile (sym none) tt;
  wanted_new = λ f h. absurd (subst (HasFile f) none h);
  wanted_about = λ f h. absurd (subst (HasFile f) none h);
  wanted_idle = λ f h. absurd (subst (HasFile f) none h);
  named = named;
  passing = passing;
}

-- none is wanted where a load is open
pub none_wanted : (read : List PackageNv) (looked : List RegistryFile) (s : State) → CountedFiles read looked s → (s.loads ≡ [] → ⊥) → s.wanted ≡ []
none_wanted read looked s now busy = by s.wanted refl
  where
    by : (l : List RegistryFile) → s.wanted ≡ l → s.wanted ≡ []
    by [] e = e
    by (f ∷ fs) e = absurd (busy (now.wanted_idle f (subst (HasFile f) (sym e) (inl refl))))

-- a step after which none is wanted
pub files_over : (read : List PackageNv) (looked : List RegistryFile) (s u : State) → Keeps s u → u.wanted ≡ [] → AllNamed u.waiting → IsPassing u.graph u.pass → CountedFiles read looked s → CountedFiles read looked u
files_over read looked s u k none named passing now = record {
  kept = λ f h. k.answers f (now.kept f h);
  once = now.once;
  apart = now.apart;
  about = λ f h. of_file s u k f (now.about f h);
  wanted_once = subst OnceFile (sym none) tt;
  wanted_new = λ f h. absurd (subst (HasFile f) none h);
  wanted_about = λ f h. absurd (subst (HasFile f) none h);
  wanted_idle = λ f h. absurd (subst (HasFile f) none h);
  named = named;
  passing = passing;
}

-- a step after which others are wanted, where no load is open
pub files_new : (read : List PackageNv) (looked : List RegistryFile) (s u : State) → Keeps s u → u.loads ≡ [] → AreOnce (λ f. (IsKept u f → ⊥) × IsOfFile u f) u.wanted → AllNamed u.waiting → IsPassing u.graph u.pass → CountedFiles read looked s → CountedFiles read looked u
files_new read looked s u k idle are named passing now = record {
  kept = λ f h. k.answers f (now.kept f h);
  once = now.once;
  apart = now.apart;
  about = λ f h. of_file s u k f (now.about f h);
  wanted_once = are.0;
  wanted_new = λ f h. (are.1 f h).0;
  wanted_about = λ f h. (are.1 f h).1;
  wanted_idle = λ f h. idle;
  named = named;
  passing = passing;
}

-- ---- the file of a version that is read for a load

pub noted_same : (g : ModuleGraph) (kept : Result KeptVersion JsrLoadError) (P : ModuleGraph → Type 0) → P g → ((v : KeptVersion) → P (noted g (Ok v))) → P (noted g kept)
noted_same g (Ok v) P same known = known v
noted_same g (Err e) P same known = same

module _ (s : State) (nv : PackageNv) (kept : Result KeptVersion JsrLoadError) where
  keeps_file : Keeps s (file_kept s nv kept)
  keeps_file = record {
    answers = answers;
    run = λ e. e;
    names = λ name h. noted_same s.graph kept (λ g. NamesKnown g name ⊎ PassNames name s.pass) h (λ v. h);
    chosen = λ q h. noted_same s.graph kept (λ g. IsChosen g q) h (λ v. h);
  }
    where
      answers : (f : RegistryFile) → IsKept s f → IsKept (file_kept s nv kept) f
      answers (Package name) h = h
      answers (PackageAgain name) h = h
      answers (Probe q) h = h
      answers (Version q) h = answer_still nv_total s.files nv kept q h

  passing_file : (p : Option Pass) → IsPassing s.graph p → IsPassing (noted s.graph kept) p
  passing_file p is = noted_same s.graph kept (λ g. IsPassing g p) is (λ v. passing_as s.graph (noted s.graph (Ok v)) p (λ q h. h) is)

  -- one that isn't asked about, as its answer stands in the given store
  pub files_kept : (read : List PackageNv) (looked : List RegistryFile) → (s.loads ≡ [] → ⊥) → CountedFiles read looked s → CountedFiles read looked (file_kept s nv kept)
  files_kept read looked busy now = files_over read looked s (file_kept s nv kept) keeps_file (none_wanted read looked s now busy) now.named (passing_file s.pass now.passing) now

  pub files_read : (read : List PackageNv) (looked : List RegistryFile) → (s.loads ≡ [] → ⊥) → (finite.contains_key s.files nv ≡ true → ⊥) → CountedFiles read looked s → CountedFiles (nv ∷ read) looked (file_kept s nv kept)
  files_read read looked busy unknown now =
      let same = files_kept read looked busy now in
      record {
        kept = same.kept;
        once = same.once;
        apart = λ q h among. ⊎_elim (λ here. unknown (now.kept (Version nv) (subst (λ (x : PackageNv). HasFile (Version x) looked) here among))) (λ old. now.apart q old among) h;
        about = same.about;
        wanted_once = same.wanted_once;
        wanted_new = same.wanted_new;
        wanted_about = same.wanted_about;
        wanted_idle = same.wanted_idle;
        named = same.named;
        passing = same.passing;
      }

-- ---- the first file that is wanted

-- without it
abbrev pub popped : State → List RegistryFile → State
popped s files = record s { wanted = files }

module _ (registry : RegistryMeaning) (s : State) (files : List RegistryFile) where
  -- its answer is kept
  pub kept_here : (file : RegistryFile) (answer : FileAnswer) → IsKept (answer_kept registry (popped s files) file answer) file
  kept_here (Package name) answer = answer_here nat_list_cmp_total s.packages name (package_answer name answer)
  kept_here (PackageAgain name) answer = answer_here nat_list_cmp_total s.reloaded name (package_answer name answer)
  kept_here (Version nv) answer = answer_here nv_total s.files nv (kept_of registry nv answer)
  kept_here (Probe nv) answer = answer_here nv_total s.probed nv (has_file answer)

  -- as are those that were
  kept_still : (file : RegistryFile) (answer : FileAnswer) (f : RegistryFile) → IsKept s f → IsKept (answer_kept registry (popped s files) file answer) f
  kept_still (Package name) answer (Package n) h = answer_still nat_list_cmp_total s.packages name (package_answer name answer) n h
  kept_still (Package name) answer (PackageAgain n) h = h
  kept_still (Package name) answer (Version v) h = h
  kept_still (Package name) answer (Probe v) h = h
  kept_still (PackageAgain name) answer (Package n) h = h
  kept_still (PackageAgain name) answer (PackageAgain n) h = answer_still nat_list_cmp_total s.reloaded name (package_answer name answer) n h
  kept_still (PackageAgain name) answer (Version v) h = h
  kept_still (PackageAgain name) answer (Probe v) h = h
  kept_still (Version nv) answer (Package n) h = h
  kept_still (Version nv) answer (PackageAgain n) h = h
  kept_still (Version nv) answer (Version v) h = answer_still nv_total s.files nv (kept_of registry nv answer) v h
  kept_still (Version nv) answer (Probe v) h = h
  kept_still (Probe nv) answer (Package n) h = h
  kept_still (Probe nv) answer (PackageAgain n) h = h
  kept_still (Probe nv) answer (Version v) h = h
  kept_still (Probe nv) answer (Probe v) h = answer_still nv_total s.probed nv (has_file answer) v h

  -- and no others
  kept_other : (file : RegistryFile) (answer : FileAnswer) (f : RegistryFile) → (f ≡ file → ⊥) → IsKept (answer_kept registry (popped s files) file answer) f → IsKept s f
  kept_other (Package name) answer (Package n) apart h = answer_other nat_list_cmp_total s.packages name (package_answer name answer) text_exact n (λ same. apart (ap Package same)) h
  kept_other (Package name) answer (PackageAgain n) apart h = h
  kept_other (Package name) answer (Version v) apart h = h
  kept_other (Package name) answer (Probe v) apart h = h
  kept_other (PackageAgain name) answer (Package n) apart h = h
  kept_other (PackageAgain name) answer (PackageAgain n) apart h = answer_other nat_list_cmp_total s.reloaded name (package_answer name answer) text_exact n (λ same. apart (ap PackageAgain same)) h
  kept_other (PackageAgain name) answer (Version v) apart h = h
  kept_other (PackageAgain name) answer (Probe v) apart h = h
  kept_other (Version nv) answer (Package n) apart h = h
  kept_other (Version nv) answer (PackageAgain n) apart h = h
  kept_other (Version nv) answer (Version v) apart h = answer_other nv_total s.files nv (kept_of registry nv answer) nv_exact v (λ same. apart (ap Version same)) h
  kept_other (Version nv) answer (Probe v) apart h = h
  kept_other (Probe nv) answer (Package n) apart h = h
  kept_other (Probe nv) answer (PackageAgain n) apart h = h
  kept_other (Probe nv) answer (Version v) apart h = h
  kept_other (Probe nv) answer (Probe v) apart h = answer_other nv_total s.probed nv (has_file answer) nv_exact v (λ same. apart (ap Probe same)) h

  -- what else is so of the state behind it
  pub by_file : (file : RegistryFile) (answer : FileAnswer) (P : State → Type 0) → ((name : List ℕ) → P (answer_kept registry (popped s files) (Package name) answer)) → ((name : List ℕ) → P (answer_kept registry (popped s files) (PackageAgain name) answer)) → ((nv : PackageNv) → P (answer_kept registry (popped s files) (Version nv) answer)) → ((nv : PackageNv) → P (answer_kept registry (popped s files) (Probe nv) answer)) → P (answer_kept registry (popped s files) file answer)
  by_file (Package name) answer P one again version probe = one name
  by_file (PackageAgain name) answer P one again version probe = again name
  by_file (Version nv) answer P one again version probe = version nv
  by_file (Probe nv) answer P one again version probe = probe nv

  keeps_looked : (file : RegistryFile) (answer : FileAnswer) → Keeps s (answer_kept registry (popped s files) file answer)
  keeps_looked (Package name) answer = record { answers = kept_still (Package name) answer; run = λ e. e; names = λ n h. h; chosen = λ q h. h }
  keeps_looked (PackageAgain name) answer = record { answers = kept_still (PackageAgain name) answer; run = λ e. e; names = λ n h. h; chosen = λ q h. h }
  keeps_looked (Probe nv) answer = record { answers = kept_still (Probe nv) answer; run = λ e. e; names = λ n h. h; chosen = λ q h. h }
  keeps_looked (Version nv) answer =
      let k = keeps_file s nv (kept_of registry nv answer) in
      record { answers = kept_still (Version nv) answer; run = λ e. e; names = k.names; chosen = k.chosen }

  named_looked : (file : RegistryFile) (answer : FileAnswer) → AllNamed s.waiting → AllNamed (answer_kept registry (popped s files) file answer).waiting
  named_looked file answer h = by_file file answer (λ u. AllNamed u.waiting) (λ n. h) (λ n. h) (λ nv. h) (λ nv. h)

  passing_looked : (file : RegistryFile) (answer : FileAnswer) → IsPassing s.graph s.pass → IsPassing (answer_kept registry (popped s files) file answer).graph (answer_kept registry (popped s files) file answer).pass
  passing_looked file answer h = by_file file answer (λ u. IsPassing u.graph u.pass) (λ n. h) (λ n. h) (λ nv. passing_file s nv (kept_of registry nv answer) s.pass h) (λ nv. h)

  wanted_looked : (file : RegistryFile) (answer : FileAnswer) → (answer_kept registry (popped s files) file answer).wanted ≡ files
  wanted_looked file answer = by_file file answer (λ u. u.wanted ≡ files) (λ n. refl) (λ n. refl) (λ nv. refl) (λ nv. refl)

  loads_looked : (file : RegistryFile) (answer : FileAnswer) → (answer_kept registry (popped s files) file answer).loads ≡ s.loads
  loads_looked file answer = by_file file answer (λ u. u.loads ≡ s.loads) (λ n. refl) (λ n. refl) (λ nv. refl) (λ nv. refl)

  -- the others are wanted still
  still_wanted : (read : List PackageNv) (looked : List RegistryFile) (file : RegistryFile) (answer : FileAnswer) → s.wanted ≡ file ∷ files → CountedFiles read looked s → AreOnce (λ f. (IsKept (answer_kept registry (popped s files) file answer) f → ⊥) × IsOfFile (answer_kept registry (popped s files) file answer) f) files
  still_wanted read looked file answer first now = (
    split.1,
    λ f h. (
      λ k. now.wanted_new f (among f h) (kept_other file answer f (λ same. split.0 (subst (λ x. HasFile x files) same h)) k),
      of_file s (answer_kept registry (popped s files) file answer) (keeps_looked file answer) f (now.wanted_about f (among f h)),
    ),
  )
    where
      split : OnceFile (file ∷ files)
      split = subst OnceFile first now.wanted_once

      among : (f : RegistryFile) → HasFile f files → HasFile f s.wanted
      among f h = subst (HasFile f) (sym first) (inr h)

  -- it isn't asked about, as its answer stands in the given store
  pub files_stored : (read : List PackageNv) (looked : List RegistryFile) (file : RegistryFile) (answer : FileAnswer) → s.wanted ≡ file ∷ files → CountedFiles read looked s → CountedFiles read looked (answer_kept registry (popped s files) file answer)
  files_stored read looked file answer first now =
      let u = answer_kept registry (popped s files) file answer in
      files_new read looked s u (keeps_looked file answer) (loads_looked file answer ∙ now.wanted_idle file (subst (HasFile file) (sym first) (inl refl)))
      (subst (AreOnce (λ f. (IsKept u f → ⊥) × IsOfFile u f)) (sym (wanted_looked file answer)) (still_wanted read looked file answer first now))
      (named_looked file answer now.named) (passing_looked file answer now.passing) now

  -- it was asked about
  pub files_looked : (read : List PackageNv) (looked : List RegistryFile) (file : RegistryFile) (answer : FileAnswer) → s.wanted ≡ file ∷ files → ((nv : PackageNv) → WasRead nv read → finite.contains_key s.files nv ≡ true) → CountedFiles read looked s → CountedFiles read (file ∷ looked) (answer_kept registry (popped s files) file answer)
  files_looked read looked file answer first known now =
      let u = answer_kept registry (popped s files) file answer in
      let same = files_stored read looked file answer first now in
      record {
        kept = λ f h. ⊎_elim (λ here. subst (IsKept u) (sym here) (kept_here file answer)) (same.kept f) h;
        once = (λ h. now.wanted_new file here (now.kept file h), now.once);
        apart = λ nv h among. ⊎_elim (λ is. now.wanted_new file here (subst (IsKept s) is (known nv h))) (now.apart nv h) among;
        about = λ f h. ⊎_elim (λ is. subst (IsOfFile u) (sym is) (of_file s u (keeps_looked file answer) file (now.wanted_about file here))) (same.about f) h;
        wanted_once = same.wanted_once;
        wanted_new = same.wanted_new;
        wanted_about = same.wanted_about;
        wanted_idle = same.wanted_idle;
        named = same.named;
        passing = same.passing;
      }
    where
      here : HasFile file s.wanted
      here = subst (HasFile file) (sym first) (inl refl)

-- what is so behind the first file that is wanted, where there is one
module _ (registry : RegistryMeaning) (s : State) (answer : FileAnswer) where
  wanted_by : (P : State → Type 0) → P s → ((file : RegistryFile) (files : List RegistryFile) → P (answer_kept registry (popped s files) file answer)) → P (wanted_kept registry s answer)
  wanted_by P same first = by s.wanted
    where
      by : (l : List RegistryFile) → P (first_kept registry s answer l)
      by [] = same
      by (file ∷ files) = first file files

  pub loads_wanted : (wanted_kept registry s answer).loads ≡ s.loads
  loads_wanted = wanted_by (λ u. u.loads ≡ s.loads) refl (λ file files. loads_looked registry s files file answer)

  pub deferred_wanted : (wanted_kept registry s answer).deferred ≡ s.deferred
  deferred_wanted = wanted_by (λ u. u.deferred ≡ s.deferred) refl (λ file files. by_file registry s files file answer (λ u. u.deferred ≡ s.deferred) (λ n. refl) (λ n. refl) (λ nv. refl) (λ nv. refl))

  pub run_wanted : (wanted_kept registry s answer).run ≡ s.run
  run_wanted = wanted_by (λ u. u.run ≡ s.run) refl (λ file files. by_file registry s files file answer (λ u. u.run ≡ s.run) (λ n. refl) (λ n. refl) (λ nv. refl) (λ nv. refl))

  pub known_wanted : (k : List ℕ) → IsKnown s.graph k → IsKnown (wanted_kept registry s answer).graph k
  known_wanted k h = wanted_by (λ u. IsKnown u.graph k) h (λ file files. by_file registry s files file answer (λ u. IsKnown u.graph k) (λ n. h) (λ n. h) (λ nv. noted_same s.graph (kept_of registry nv answer) (λ g. IsKnown g k) h (λ v. h)) (λ nv. h))
