-- What stays true of the pass over the registry that goes on, of the files that it wants, and of those that were answered.
use Rattle.std.proofs.Common.{◌≡◌, ℕ, List, [], ◌∷◌, ◌++◌, get_or, Bool, true, false, ◌||◌, if◌then◌else◌, Option, None, Some, is_some, Result, Ok, Err, refl, sym, ap, ◌∙◌, subst, inl, inr, ⊎_elim, ◌⊎◌, arith}
use Rattle.std.specs.Prelude.{IfSome, bytes_eq}
use Rattle.std.specs.FinMap as finite
use Rattle.std.specs.List.{All, Contains, list_any}
use Rattle.std.specs.Option.{option_or}
use Rattle.std.proofs.lemmas.Bool.{true≢false}
use Rattle.std.proofs.lemmas.List.Elements.{All-append, All-cons, All-contains_itself, All-head, All-nil, All-push, All-tail, All-weaker, Contains-append_cases, Contains-append_left, Contains-append_right, Contains-push}
use Rattle.std.proofs.lemmas.Slice.Eq.{bytes_eq-Decides}
use Rattle.semver_npm.specs.declared.package.PackageNv.{PackageNv}
use Rattle.pkg_versions.specs.declared.package_info.JsrPackageInfo.{JsrPackageInfo}
use Rattle.metadata_store.specs.Store.{with_answer}
use Rattle.registry_files.specs.Kept.{Versions}
use Rattle.registry_files.specs.declared.kept_version.KeptVersion.{KeptVersion}
use Rattle.graph_errors.specs.declared.jsr_error.JsrLoadError.{JsrLoadError}
use Rattle.source_io.specs.declared.types.CacheSetting.TheVariants.{Reload}
use Rattle.graph_turns.specs.declared.passes.Chosen.{Chosen}
use Rattle.graph_turns.specs.declared.passes.Pass.{Pass}
use Rattle.graph_turns.specs.declared.registry.RegistryFile.{RegistryFile}
use Rattle.graph_turns.specs.declared.registry.RegistryFile.TheVariants.{Package, PackageAgain, Version, Probe}
use Rattle.graph_turns.specs.declared.run.Run.{Run}
use Rattle.graph_turns.specs.declared.run.Run.TheVariants.{First, Due}
use Rattle.graph_turns.specs.declared.starting.ResolvedStart.{ResolvedStart}
use Rattle.graph_turns.specs.declared.waiting.WaitingPackage.{WaitingPackage}
use Rattle.graph_turns.specs.Machine.RegistryFiles.{Packages, is_package_of, is_version_of, packages_wanted, versions_wanted, wanted_with}
use Rattle.graph_turns.specs.Machine.Runs.{asks_packages_again, is_due, setting_for}
use Rattle.graph_turns.specs.Promise.Choices.{Lacks}
use Rattle.graph_turns.specs.Promise.Input.{EnteredGraph}
use Rattle.turn_laws.specs.Promise.Keeps.{IsReachedChoice, IsReachedFile, IsReachedItem, IsReachedPass}
use Rattle.turn_laws.specs.Promise.Keeps.IsReachedFile.{for_package, for_package_again, for_probe, for_version}
use Rattle.graph_turns.specs.Promise.Packages.{IsLastFile, IsPackageFile}
use Rattle.graph_turns.specs.Promise.Packages.IsLastFile.{served_last, asked_last}
use Rattle.graph_turns.specs.Promise.Packages.IsPackageFile.{served, asked_again}
use Rattle.graph_turns.specs.Promise.Told.{Told}
use Rattle.graph_turns.specs.Machine.Probing.{Probed}
use Rattle.graph_turns.specs.Promise.Cached.{has_file, is_cached}
use Rattle.graph_turns.specs.Promise.Versions.{told_file, told_package, told_package_again}
use Rattle.turn_laws.proofs.Promise.Cached.{ProbesKept, probe_told}
use Rattle.graph_turns.proofs.Entering.Files.{answer_cases, answer_stays, answer_there, package_cases, package_stays, package_there, same_version}
use Rattle.graph_turns.proofs.Entering.Wants.{version_ties}
use Rattle.turn_laws.proofs.Promise.Choosing.{one_or}
use Rattle.turn_laws.proofs.Promise.Hops.{IsOutset}

-- ---- what is wanted

-- one of some is the first or among the rest
first_or : {X : Type 0} (x : X) (xs : List X) (y : X) → Contains (x ∷ xs) y → (x ≡ y) ⊎ Contains xs y
first_or x xs y among = ⊎_elim
    (λ one. let first : one.0 ≡ 0 = omega (arith, one.1) in inl (subst (λ k. get_or (x ∷ []) k y ≡ y) first one.2))
    inr
    (Contains-append_cases (x ∷ []) xs y among)

module _ (is_same : RegistryFile → Bool) (file : RegistryFile) (tells : (f : RegistryFile) → is_same f ≡ true → f ≡ file) where
  any_is : (wanted : List RegistryFile) → list_any is_same wanted ≡ true → Contains wanted file
  any_is [] t = absurd (true≢false (sym t))
  any_is (f ∷ fs) t = by (is_same f) refl (any_is fs) t
    where
      by : (b : Bool) → is_same f ≡ b → (list_any is_same fs ≡ true → Contains fs file) → (b || list_any is_same fs) ≡ true → Contains (f ∷ fs) file
      by true is rest t = subst (Contains (f ∷ fs)) (tells f is) (All-head (Contains (f ∷ fs)) f fs (All-contains_itself (f ∷ fs)))
      by false is rest t = Contains-append_right (f ∷ []) fs file (rest t)

  -- a file is known, or wanted then
  with_sought : (known : Bool) (wanted : List RegistryFile) → (known ≡ true) ⊎ Contains (wanted_with known is_same wanted file) file
  with_sought true wanted = inl refl
  with_sought false wanted = inr (by (list_any is_same wanted) refl)
    where
      by : (b : Bool) → list_any is_same wanted ≡ b → Contains (if b then wanted else wanted ++ file ∷ []) file
      by true t = any_is wanted t
      by false f = Contains-push wanted file

with_more : (known : Bool) (is_same : RegistryFile → Bool) (wanted : List RegistryFile) (file x : RegistryFile) → Contains wanted x → Contains (wanted_with known is_same wanted file) x
with_more known is_same wanted file x among = by (known || list_any is_same wanted)
  where
    by : (b : Bool) → Contains (if b then wanted else wanted ++ file ∷ []) x
    by true = among
    by false = Contains-append_left wanted (file ∷ []) x among

with_all : (P : RegistryFile → Type 0) (known : Bool) (is_same : RegistryFile → Bool) (wanted : List RegistryFile) (file : RegistryFile) → All P wanted → P file → All P (wanted_with known is_same wanted file)
with_all P known is_same wanted file all p = by (known || list_any is_same wanted)
  where
    by : (b : Bool) → All P (if b then wanted else wanted ++ file ∷ [])
    by true = all
    by false = All-push P wanted file all p

package_is : (name : List ℕ) (f : RegistryFile) → is_package_of name f ≡ true → f ≡ Package name
package_is name (Package n) t = ap Package (sym ((bytes_eq-Decides name n).0 t))
package_is name (PackageAgain n) t = absurd (true≢false (sym t))
package_is name (Version nv) t = absurd (true≢false (sym t))
package_is name (Probe nv) t = absurd (true≢false (sym t))

version_is : (nv : PackageNv) (f : RegistryFile) → is_version_of nv f ≡ true → f ≡ Version nv
version_is nv (Package n) t = absurd (true≢false (sym t))
version_is nv (PackageAgain n) t = absurd (true≢false (sym t))
version_is nv (Probe v) t = absurd (true≢false (sym t))
version_is nv (Version v) t = ap Version (sym (same_version nv v (sym (version_ties nv v) ∙ t)))

-- the file of a package, or of a version, is known or wanted
abbrev pub IsSoughtPackage : Packages → List RegistryFile → List ℕ → Type 0
IsSoughtPackage packages wanted name = (finite.contains_key packages name ≡ true) ⊎ Contains wanted (Package name)

abbrev pub IsSoughtVersion : Versions → List RegistryFile → PackageNv → Type 0
IsSoughtVersion files wanted nv = (finite.contains_key files nv ≡ true) ⊎ Contains wanted (Version nv)

packages_more : (known : Packages) (wanted : List RegistryFile) (items : List WaitingPackage) (x : RegistryFile) → Contains wanted x → Contains (packages_wanted known wanted items) x
unfolding packages_wanted
packages_more known wanted [] x among = among
packages_more known wanted (i ∷ is) x among =
    packages_more known (wanted_with (finite.contains_key known i.req.name) (is_package_of i.req.name) wanted (Package i.req.name)) is x
    (with_more (finite.contains_key known i.req.name) (is_package_of i.req.name) wanted (Package i.req.name) x among)

packages_sought : (known : Packages) (wanted : List RegistryFile) (items : List WaitingPackage) → All (λ (item : WaitingPackage). IsSoughtPackage known (packages_wanted known wanted items) item.req.name) items
unfolding packages_wanted
packages_sought known wanted [] = All-nil (λ (item : WaitingPackage). IsSoughtPackage known wanted item.req.name)
packages_sought known wanted (i ∷ is) =
    let next = wanted_with (finite.contains_key known i.req.name) (is_package_of i.req.name) wanted (Package i.req.name) in
    All-cons (λ (item : WaitingPackage). IsSoughtPackage known (packages_wanted known next is) item.req.name) i is
    (⊎_elim inl (λ among. inr (packages_more known next is (Package i.req.name) among)) (with_sought (is_package_of i.req.name) (Package i.req.name) (package_is i.req.name) (finite.contains_key known i.req.name) wanted))
    (packages_sought known next is)

versions_more : (known : Versions) (wanted : List RegistryFile) (chosen : List Chosen) (x : RegistryFile) → Contains wanted x → Contains (versions_wanted known wanted chosen) x
unfolding versions_wanted
versions_more known wanted [] x among = among
versions_more known wanted (c ∷ cs) x among =
    versions_more known (wanted_with (finite.contains_key known c.nv) (is_version_of c.nv) wanted (Version c.nv)) cs x
    (with_more (finite.contains_key known c.nv) (is_version_of c.nv) wanted (Version c.nv) x among)

versions_sought : (known : Versions) (wanted : List RegistryFile) (chosen : List Chosen) → All (λ (one : Chosen). IsSoughtVersion known (versions_wanted known wanted chosen) one.nv) chosen
unfolding versions_wanted
versions_sought known wanted [] = All-nil (λ (one : Chosen). IsSoughtVersion known wanted one.nv)
versions_sought known wanted (c ∷ cs) =
    let next = wanted_with (finite.contains_key known c.nv) (is_version_of c.nv) wanted (Version c.nv) in
    All-cons (λ (one : Chosen). IsSoughtVersion known (versions_wanted known next cs) one.nv) c cs
    (⊎_elim inl (λ among. inr (versions_more known next cs (Version c.nv) among)) (with_sought (is_version_of c.nv) (Version c.nv) (version_is c.nv) (finite.contains_key known c.nv) wanted))
    (versions_sought known next cs)

-- what holds of what was wanted, and of each one that comes
packages_all : (P : RegistryFile → Type 0) (known : Packages) (wanted : List RegistryFile) (items : List WaitingPackage) → All P wanted → All (λ (item : WaitingPackage). P (Package item.req.name)) items → All P (packages_wanted known wanted items)
unfolding packages_wanted
packages_all P known wanted [] all each = all
packages_all P known wanted (i ∷ is) all each =
    packages_all P known (wanted_with (finite.contains_key known i.req.name) (is_package_of i.req.name) wanted (Package i.req.name)) is
    (with_all P (finite.contains_key known i.req.name) (is_package_of i.req.name) wanted (Package i.req.name) all (All-head (λ (item : WaitingPackage). P (Package item.req.name)) i is each))
    (All-tail (λ (item : WaitingPackage). P (Package item.req.name)) i is each)

versions_all : (P : RegistryFile → Type 0) (known : Versions) (wanted : List RegistryFile) (chosen : List Chosen) → All P wanted → All (λ (one : Chosen). P (Version one.nv)) chosen → All P (versions_wanted known wanted chosen)
unfolding versions_wanted
versions_all P known wanted [] all each = all
versions_all P known wanted (c ∷ cs) all each =
    versions_all P known (wanted_with (finite.contains_key known c.nv) (is_version_of c.nv) wanted (Version c.nv)) cs
    (with_all P (finite.contains_key known c.nv) (is_version_of c.nv) wanted (Version c.nv) all (All-head (λ (one : Chosen). P (Version one.nv)) c cs each))
    (All-tail (λ (one : Chosen). P (Version one.nv)) c cs each)

-- ---- what is known once more was answered

module _ (packages : Packages) (name : List ℕ) (read : Result JsrPackageInfo JsrLoadError) where
  package_still : (n : List ℕ) → finite.contains_key packages n ≡ true → finite.contains_key (with_answer packages name read) n ≡ true
  package_still n known = by (finite.get packages n) refl known
    where
      by : (o : Option (Result JsrPackageInfo JsrLoadError)) → finite.get packages n ≡ o → is_some o ≡ true → finite.contains_key (with_answer packages name read) n ≡ true
      by None e t = absurd (true≢false (sym t))
      by (Some x) e t = ap is_some (package_stays packages name read n x e)

  package_known : finite.contains_key (with_answer packages name read) name ≡ true
  package_known = by (finite.get packages name) refl
    where
      by : (o : Option (Result JsrPackageInfo JsrLoadError)) → finite.get packages name ≡ o → finite.contains_key (with_answer packages name read) name ≡ true
      by None e = ap is_some (package_there packages name read e)
      by (Some x) e = ap is_some (package_stays packages name read name x e)

module _ (files : Versions) (nv : PackageNv) (read : Result KeptVersion JsrLoadError) where
  version_still : (n : PackageNv) → finite.contains_key files n ≡ true → finite.contains_key (with_answer files nv read) n ≡ true
  version_still n known = by (finite.get files n) refl known
    where
      by : (o : Option (Result KeptVersion JsrLoadError)) → finite.get files n ≡ o → is_some o ≡ true → finite.contains_key (with_answer files nv read) n ≡ true
      by None e t = absurd (true≢false (sym t))
      by (Some x) e t = ap is_some (answer_stays files nv read n x e)

  version_known : finite.contains_key (with_answer files nv read) nv ≡ true
  version_known = by (finite.get files nv) refl
    where
      by : (o : Option (Result KeptVersion JsrLoadError)) → finite.get files nv ≡ o → finite.contains_key (with_answer files nv read) nv ≡ true
      by None e = ap is_some (answer_there files nv read e)
      by (Some x) e = ap is_some (answer_stays files nv read nv x e)

-- ---- the pass

-- while specifiers are judged the file of each package is known or wanted, and then that of each version that was chosen
pub record IsSought (packages : Packages) (files : Versions) (wanted : List RegistryFile) (p : Pass) : Type 0 where
  pub items : p.is_entering ≡ false → All (λ (item : WaitingPackage). IsSoughtPackage packages wanted item.req.name) p.items
  pub chosen : p.is_entering ≡ true → All (λ (one : Chosen). IsSoughtVersion files wanted one.nv) p.chosen

-- where what is known or wanted stays so
sought_as : (packages known : Packages) (files read : Versions) (wanted now : List RegistryFile) (p : Pass) → ((name : List ℕ) → IsSoughtPackage packages wanted name → IsSoughtPackage known now name) → ((nv : PackageNv) → IsSoughtVersion files wanted nv → IsSoughtVersion read now nv) → IsSought packages files wanted p → IsSought known read now p
sought_as packages known files read wanted now p by_name by_version is = record {
  items = λ f. All-weaker (λ (item : WaitingPackage). IsSoughtPackage packages wanted item.req.name) (λ (item : WaitingPackage). IsSoughtPackage known now item.req.name) (λ item. by_name item.req.name) p.items (is.items f);
  chosen = λ t. All-weaker (λ (one : Chosen). IsSoughtVersion files wanted one.nv) (λ (one : Chosen). IsSoughtVersion read now one.nv) (λ one. by_version one.nv) p.chosen (is.chosen t);
}

-- a run goes on as it began, or is to begin once more
pub data IsStage (begun : Run) : Run → Type 0 where
  same : IsStage begun begun
  due : {start : ResolvedStart} → begun ≡ First start → IsStage begun (Due start)

-- how a run begins: its loads come from nowhere
pub record RunBegins (given : EnteredGraph) : Type 0 where
  pub outset : All IsOutset given.loads
  pub run : Run

if_some : {X : Type 0} (P Q : X → Type 0) (o : Option X) → ((x : X) → P x → Q x) → IfSome o P → IfSome o Q
if_some P Q None more is = tt
if_some P Q (Some x) more is = more x is

module _ (w : Told) (given : EnteredGraph) where
  pub record PassKept (packages : Packages) (files : Versions) (wanted : List RegistryFile) (pass : Option Pass) : Type 0 where
    pub of_pass : IfSome pass (IsReachedPass w given)
    pub of_wanted : All (IsReachedFile w given) wanted
    pub sought : IfSome pass (IsSought packages files wanted)

  pub pass_gone : (packages : Packages) (files : Versions) (wanted : List RegistryFile) (pass : Option Pass) → PassKept packages files wanted pass → PassKept packages files wanted None
  pass_gone packages files wanted pass kept = record { of_pass = tt; of_wanted = kept.of_wanted; sought = tt }

  -- it begins over some specifiers
  pub pass_begins : (packages : Packages) (files : Versions) (wanted : List RegistryFile) (pass : Option Pass) (items : List WaitingPackage) (top : Bool) → PassKept packages files wanted pass → All (IsReachedItem w given) items → PassKept packages files (wanted ++ packages_wanted packages [] items) (Some (record { items = items; chosen = []; is_entering = false; is_top_level = top }))
  pass_begins packages files wanted pass items top kept reached = record {
    of_pass = record { items = reached; chosen = All-nil (IsReachedChoice w given) };
    of_wanted = All-append (IsReachedFile w given) wanted (packages_wanted packages [] items) kept.of_wanted
        (packages_all (IsReachedFile w given) packages [] items (All-nil (IsReachedFile w given))
        (All-weaker (IsReachedItem w given) (λ (item : WaitingPackage). IsReachedFile w given (Package item.req.name)) (λ item is. for_package is.reached is.looked_for) items reached));
    sought = record {
      items = λ f. All-weaker (λ (item : WaitingPackage). IsSoughtPackage packages (packages_wanted packages [] items) item.req.name) (λ (item : WaitingPackage). IsSoughtPackage packages (wanted ++ packages_wanted packages [] items) item.req.name)
          (λ item is. ⊎_elim inl (λ among. inr (Contains-append_right wanted (packages_wanted packages [] items) (Package item.req.name) among)) is) items (packages_sought packages [] items);
      chosen = λ t. absurd (true≢false (sym t));
    };
  }

  -- the files of the versions that were chosen are wanted
  pub pass_asks : (packages : Packages) (files : Versions) (wanted : List RegistryFile) (p : Pass) → PassKept packages files wanted (Some p) → PassKept packages files (wanted ++ versions_wanted files [] p.chosen) (Some (record p { is_entering = true }))
  pass_asks packages files wanted p kept = record {
    of_pass = record { items = kept.of_pass.items; chosen = kept.of_pass.chosen };
    of_wanted = All-append (IsReachedFile w given) wanted (versions_wanted files [] p.chosen) kept.of_wanted
        (versions_all (IsReachedFile w given) files [] p.chosen (All-nil (IsReachedFile w given))
        (All-weaker (IsReachedChoice w given) (λ (one : Chosen). IsReachedFile w given (Version one.nv)) (λ one is. for_version is.item.reached is.item.looked_for is.fits) p.chosen kept.of_pass.chosen));
    sought = record {
      items = λ f. absurd (true≢false f);
      chosen = λ t. All-weaker (λ (one : Chosen). IsSoughtVersion files (versions_wanted files [] p.chosen) one.nv) (λ (one : Chosen). IsSoughtVersion files (wanted ++ versions_wanted files [] p.chosen) one.nv)
          (λ one is. ⊎_elim inl (λ among. inr (Contains-append_right wanted (versions_wanted files [] p.chosen) (Version one.nv) among)) is) p.chosen (versions_sought files [] p.chosen);
    };
  }

  -- more files are wanted
  pub pass_wants : (packages : Packages) (files : Versions) (wanted : List RegistryFile) (pass : Option Pass) (more : List RegistryFile) → PassKept packages files wanted pass → All (IsReachedFile w given) more → PassKept packages files (wanted ++ more) pass
  pass_wants packages files wanted pass more kept reached = record {
    of_pass = kept.of_pass;
    of_wanted = All-append (IsReachedFile w given) wanted more kept.of_wanted reached;
    sought = if_some (IsSought packages files wanted) (IsSought packages files (wanted ++ more)) pass
        (λ p. sought_as packages packages files files wanted (wanted ++ more) p
        (λ name is. ⊎_elim inl (λ among. inr (Contains-append_left wanted more (Package name) among)) is)
        (λ nv is. ⊎_elim inl (λ among. inr (Contains-append_left wanted more (Version nv) among)) is))
        kept.sought;
  }

  -- the first specifier goes, and a version may be chosen for it
  pub pass_judged : (packages : Packages) (files : Versions) (wanted : List RegistryFile) (p : Pass) (first : WaitingPackage) (others : List WaitingPackage) (chosen : List Chosen) → p.items ≡ first ∷ others → p.is_entering ≡ false → PassKept packages files wanted (Some p) → All (IsReachedChoice w given) chosen → PassKept packages files wanted (Some (record p { items = others; chosen = chosen }))
  pass_judged packages files wanted p first others chosen e judging kept reached = record {
    of_pass = record { items = All-tail (IsReachedItem w given) first others (subst (All (IsReachedItem w given)) e kept.of_pass.items); chosen = reached };
    of_wanted = kept.of_wanted;
    sought = record {
      items = λ f. All-tail (λ (item : WaitingPackage). IsSoughtPackage packages wanted item.req.name) first others (subst (All (λ (item : WaitingPackage). IsSoughtPackage packages wanted item.req.name)) e (kept.sought.items f));
      chosen = λ t. absurd (true≢false (sym t ∙ judging));
    };
  }

  -- the file of a version was answered
  pub pass_read : (packages : Packages) (files : Versions) (wanted : List RegistryFile) (pass : Option Pass) (nv : PackageNv) (read : Result KeptVersion JsrLoadError) → PassKept packages files wanted pass → PassKept packages (with_answer files nv read) wanted pass
  pass_read packages files wanted pass nv read kept = record {
    of_pass = kept.of_pass;
    of_wanted = kept.of_wanted;
    sought = if_some (IsSought packages files wanted) (IsSought packages (with_answer files nv read) wanted) pass
        (λ p. sought_as packages packages files (with_answer files nv read) wanted wanted p (λ name is. is) (λ n is. ⊎_elim (λ known. inl (version_still files nv read n known)) inr is))
        kept.sought;
  }

  -- the first file that is wanted was answered
  pub pass_package : (packages : Packages) (files : Versions) (name : List ℕ) (wanted : List RegistryFile) (pass : Option Pass) (read : Result JsrPackageInfo JsrLoadError) → PassKept packages files (Package name ∷ wanted) pass → PassKept (with_answer packages name read) files wanted pass
  pass_package packages files name wanted pass read kept = record {
    of_pass = kept.of_pass;
    of_wanted = All-tail (IsReachedFile w given) (Package name) wanted kept.of_wanted;
    sought = if_some (IsSought packages files (Package name ∷ wanted)) (IsSought (with_answer packages name read) files wanted) pass
        (λ p. sought_as packages (with_answer packages name read) files files (Package name ∷ wanted) wanted p
        (λ n is. ⊎_elim
        (λ known. inl (package_still packages name read n known))
        (λ among. ⊎_elim
        (λ same. let it : name ≡ n = cc in inl (subst (λ z. finite.contains_key (with_answer packages name read) z ≡ true) it (package_known packages name read)))
        inr
        (first_or (Package name) wanted (Package n) among))
        is)
        (λ nv is. ⊎_elim inl (λ among. ⊎_elim (λ same. absurd (let wrong : Package name ≡ Version nv = same in cc)) inr (first_or (Package name) wanted (Version nv) among)) is))
        kept.sought;
  }

  pub pass_again : (packages : Packages) (files : Versions) (name : List ℕ) (wanted : List RegistryFile) (pass : Option Pass) → PassKept packages files (PackageAgain name ∷ wanted) pass → PassKept packages files wanted pass
  pass_again packages files name wanted pass kept = record {
    of_pass = kept.of_pass;
    of_wanted = All-tail (IsReachedFile w given) (PackageAgain name) wanted kept.of_wanted;
    sought = if_some (IsSought packages files (PackageAgain name ∷ wanted)) (IsSought packages files wanted) pass
        (λ p. sought_as packages packages files files (PackageAgain name ∷ wanted) wanted p
        (λ n is. ⊎_elim inl (λ among. ⊎_elim (λ same. absurd (let wrong : PackageAgain name ≡ Package n = same in cc)) inr (first_or (PackageAgain name) wanted (Package n) among)) is)
        (λ nv is. ⊎_elim inl (λ among. ⊎_elim (λ same. absurd (let wrong : PackageAgain name ≡ Version nv = same in cc)) inr (first_or (PackageAgain name) wanted (Version nv) among)) is))
        kept.sought;
  }

  pub pass_probed : (packages : Packages) (files : Versions) (nv : PackageNv) (wanted : List RegistryFile) (pass : Option Pass) → PassKept packages files (Probe nv ∷ wanted) pass → PassKept packages files wanted pass
  pass_probed packages files nv wanted pass kept = record {
    of_pass = kept.of_pass;
    of_wanted = All-tail (IsReachedFile w given) (Probe nv) wanted kept.of_wanted;
    sought = if_some (IsSought packages files (Probe nv ∷ wanted)) (IsSought packages files wanted) pass
        (λ p. sought_as packages packages files files (Probe nv ∷ wanted) wanted p
        (λ n is. ⊎_elim inl (λ among. ⊎_elim (λ same. absurd (let wrong : Probe nv ≡ Package n = same in cc)) inr (first_or (Probe nv) wanted (Package n) among)) is)
        (λ other is. ⊎_elim inl (λ among. ⊎_elim (λ same. absurd (let wrong : Probe nv ≡ Version other = same in cc)) inr (first_or (Probe nv) wanted (Version other) among)) is))
        kept.sought;
  }

  pub pass_version : (packages : Packages) (files : Versions) (nv : PackageNv) (wanted : List RegistryFile) (pass : Option Pass) (read : Result KeptVersion JsrLoadError) → PassKept packages files (Version nv ∷ wanted) pass → PassKept packages (with_answer files nv read) wanted pass
  pass_version packages files nv wanted pass read kept = record {
    of_pass = kept.of_pass;
    of_wanted = All-tail (IsReachedFile w given) (Version nv) wanted kept.of_wanted;
    sought = if_some (IsSought packages files (Version nv ∷ wanted)) (IsSought packages (with_answer files nv read) wanted) pass
        (λ p. sought_as packages packages files (with_answer files nv read) (Version nv ∷ wanted) wanted p
        (λ n is. ⊎_elim inl (λ among. ⊎_elim (λ same. absurd (let wrong : Version nv ≡ Package n = same in cc)) inr (first_or (Version nv) wanted (Package n) among)) is)
        (λ n is. ⊎_elim
        (λ known. inl (version_still files nv read n known))
        (λ among. ⊎_elim
        (λ same. let it : nv ≡ n = cc in inl (subst (λ z. finite.contains_key (with_answer files nv read) z ≡ true) it (version_known files nv read)))
        inr
        (first_or (Version nv) wanted (Version n) among))
        is))
        kept.sought;
  }

  -- the file of a package that stands in a pass whose files all were answered
  pub package_there_now : (packages : Packages) (files : Versions) (wanted : List RegistryFile) (p : Pass) (first : WaitingPackage) (others : List WaitingPackage) → p.items ≡ first ∷ others → p.is_entering ≡ false → wanted ≡ [] → PassKept packages files wanted (Some p) → finite.contains_key packages first.req.name ≡ true
  package_there_now packages files wanted p first others e judging none kept = ⊎_elim
      (λ known. known)
      (λ among. absurd (none_among (subst (λ (l : List RegistryFile). Contains l (Package first.req.name)) none among)))
      (All-head (λ (item : WaitingPackage). IsSoughtPackage packages wanted item.req.name) first others (subst (All (λ (item : WaitingPackage). IsSoughtPackage packages wanted item.req.name)) e (kept.sought.items judging)))
    where
      none_among : Contains [] (Package first.req.name) → ⊥
      none_among among = let below = among.1 in omega (arith, below)

  -- the file of a version that was chosen
  abbrev pub IsKnownChoice : Versions → Chosen → Type 0
  IsKnownChoice files one = finite.contains_key files one.nv ≡ true

  pub versions_there_now : (packages : Packages) (files : Versions) (wanted : List RegistryFile) (p : Pass) → p.is_entering ≡ true → wanted ≡ [] → PassKept packages files wanted (Some p) → All (IsKnownChoice files) p.chosen
  versions_there_now packages files wanted p entering none kept = All-weaker (λ (one : Chosen). IsSoughtVersion files wanted one.nv) (IsKnownChoice files)
      (λ one is. ⊎_elim (λ known. known) (λ among. absurd (none_among one (subst (λ (l : List RegistryFile). Contains l (Version one.nv)) none among))) is)
      p.chosen (kept.sought.chosen entering)
    where
      none_among : (one : Chosen) → Contains [] (Version one.nv) → ⊥
      none_among one among = let below = among.1 in omega (arith, below)

  -- ---- files of packages that were answered

  pub record AnswersKept (packages reloaded : Packages) (probed : Probed) : Type 0 where
    pub first : (name : List ℕ) (read : Result JsrPackageInfo JsrLoadError) → finite.get packages name ≡ Some read → read ≡ told_package w name
    pub again : (name : List ℕ) (read : Result JsrPackageInfo JsrLoadError) → finite.get reloaded name ≡ Some read → (w.asks_again ≡ true) × (read ≡ told_package_again w name)
    pub probes : ProbesKept w probed

  pub answers_first : (packages reloaded : Packages) {probed : Probed} (name : List ℕ) → AnswersKept packages reloaded probed → AnswersKept (with_answer packages name (told_package w name)) reloaded probed
  answers_first packages reloaded name kept = record {
    first = λ n read e. ⊎_elim (kept.first n read) (λ new. new.1 ∙ ap (told_package w) (sym new.0)) (package_cases packages name (told_package w name) n read e);
    again = kept.again;
    probes = kept.probes;
  }

  pub answers_again : (packages reloaded : Packages) {probed : Probed} (name : List ℕ) → w.asks_again ≡ true → AnswersKept packages reloaded probed → AnswersKept packages (with_answer reloaded name (told_package_again w name)) probed
  answers_again packages reloaded name asks kept = record {
    first = kept.first;
    again = λ n read e. ⊎_elim (kept.again n read) (λ new. (asks, new.1 ∙ ap (told_package_again w) (sym new.0))) (package_cases reloaded name (told_package_again w name) n read e);
    probes = kept.probes;
  }

  pub answers_probed : (packages reloaded : Packages) {probed : Probed} (nv : PackageNv) → AnswersKept packages reloaded probed → AnswersKept packages reloaded (with_answer probed nv (has_file (told_file w (Probe nv))))
  answers_probed packages reloaded {probed} nv kept = record {
    first = kept.first;
    again = kept.again;
    probes = λ n found e. ⊎_elim (kept.probes n found) (λ new. new.1 ∙ probe_told w nv ∙ ap (is_cached w) (sym new.0)) (answer_cases probed nv (has_file (told_file w (Probe nv))) n found e);
  }

  -- a file that is asked about once more is so where builds ask for it
  pub again_asked : (name : List ℕ) (file : RegistryFile) → file ≡ PackageAgain name → IsReachedFile w given file → w.asks_again ≡ true
  again_asked name file is (for_package {r = r} reached looked) = absurd (let wrong : Package r.req.name ≡ PackageAgain name = is in cc)
  again_asked name file is (for_package_again reached looked asks) = asks
  again_asked name file is (for_probe {nv = nv} reached looked prefers fits) = absurd (let wrong : Probe nv ≡ PackageAgain name = is in cc)
  again_asked name file is (for_version {nv = nv} reached looked fits) = absurd (let wrong : Version nv ≡ PackageAgain name = is in cc)

  module _ (packages reloaded : Packages) {probed : Probed} (kept : AnswersKept packages reloaded probed) (name : List ℕ) (read : Result JsrPackageInfo JsrLoadError) (is : option_or (finite.get reloaded name) (finite.get packages name) ≡ Some read) where
    -- what was answered last counts as the file of the package
    pub file_told : IsPackageFile w name read
    file_told = ⊎_elim
        (λ e. let at = kept.again name read e in asked_again at.0 (sym at.1))
        (λ e. served (sym (kept.first name read e)))
        (one_or (finite.get reloaded name) (finite.get packages name) read is)

    -- in a run that doesn't ask for it once more
    pub file_served : w.asks_again ≡ false → told_package w name ≡ read
    file_served never = ⊎_elim
        (λ e. absurd (true≢false (sym (kept.again name read e).0 ∙ never)))
        (λ e. sym (kept.first name read e))
        (one_or (finite.get reloaded name) (finite.get packages name) read is)

    pub file_last : w.asks_again ≡ false → w.metadata ≡ Reload → IsLastFile w name read
    file_last never reload = served_last reload (file_served never)

    -- once it was asked about once more
    pub file_again : finite.contains_key reloaded name ≡ true → IsLastFile w name read
    file_again known = by (finite.get reloaded name) refl known is
      where
        by : (o : Option (Result JsrPackageInfo JsrLoadError)) → finite.get reloaded name ≡ o → is_some o ≡ true → option_or o (finite.get packages name) ≡ Some read → IsLastFile w name read
        by None e t found = absurd (true≢false (sym t))
        by (Some x) e t found = let same : x ≡ read = cc in let at = kept.again name x e in asked_last at.0 (sym at.1 ∙ same)

  -- ---- the run

  -- what is told suits the run that goes on, which is the one that began, or is to begin once more where it lacks a choice
  pub record RunKept (begun run : Run) : Type 0 where
    pub asks : w.asks_again ≡ asks_packages_again run
    pub serves : w.metadata ≡ setting_for run
    pub stage : IsStage begun run
    pub lacks : is_due run ≡ true → Lacks w given
