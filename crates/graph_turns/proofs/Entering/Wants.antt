-- Files of the registry that a pass wants, as they are added one by one.
use Rattle.std.proofs.Common.{◌≡◌, ◌⊎◌, Bor, ℕ, zero, suc, ◌+◌, ◌<◌, List, [], ◌∷◌, ◌++◌, length, drop, slice_get, Bool, true, false, not, ◌||◌, ◌&&◌, cond, Option, None, Some, Result, is_some, if◌then◌else◌, refl, sym, ap, ◌∙◌, subst, append_assoc, arith}
use Rattle.std.proofs.lemmas.List.{append-nil}
use Rattle.std.proofs.lemmas.Bool.{true≢false}
use Rattle.std.specs.Prelude.{bytes_eq, option_copied}
use Rattle.std.specs.List.{list_any}
use Rattle.std.specs.Ordering.{eq_by_cmp, is_eq, ordering_then}
use Rattle.std.specs.declared.cmp.Ordering.{Ordering}
use Rattle.std.specs.declared.cmp.Ordering.TheVariants.{Less, Equal, Greater}
use Rattle.std.specs.Cmp.Lexicographic.{nat_list_cmp_total, texts_ties}
use Rattle.std.specs.FinMap as finite
use Rattle.std.specs.FinMap.{FinMap, get-empty, get-insert}
use Rattle.spec_base.specs.Shown.{text_cmp}
use Rattle.semver_npm.specs.Orders.{nv_cmp}
use Rattle.semver_npm.specs.Versions.{ver_cmp}
use Rattle.semver_npm.specs.declared.package.PackageNv.{PackageNv}
use Rattle.source_sums.specs.VersionKeys.{nv_total}
use Rattle.pkg_records.specs.Kept.{same_nv}
use Rattle.metadata_store.specs.Store.{with_answer}
use Rattle.registry_files.specs.Kept.{Versions}
use Rattle.graph_turns.specs.declared.passes.Chosen.{Chosen}
use Rattle.graph_turns.specs.declared.registry.RegistryFile.{RegistryFile}
use Rattle.graph_turns.specs.declared.registry.RegistryFile.TheVariants.{Package, PackageAgain, Version}
use Rattle.graph_turns.specs.declared.waiting.WaitingPackage.{WaitingPackage}
use Rattle.graph_turns.specs.Machine.RegistryFiles.{Packages, is_package_of, is_version_of, packages_wanted, versions_wanted, wanted_with}

-- ---- lists

-- what is left from a place on, where an element stands there
pub drop_at : {A : Type 0} (xs : List A) (i : ℕ) (x : A) → slice_get xs i ≡ Some x → drop i xs ≡ x ∷ drop (i + 1) xs
drop_at [] i x e = cc
drop_at (y ∷ xs) zero x e = let same : y ≡ x = cc in ap (λ z. z ∷ xs) same
drop_at (y ∷ xs) (suc i) x e = let next : suc i + 1 ≡ suc (i + 1) = omega arith in drop_at xs i x e ∙ ap (λ n. x ∷ drop n (y ∷ xs)) (sym next)

-- where none stands, nothing is left
pub drop_past : {A : Type 0} (xs : List A) (i : ℕ) → slice_get xs i ≡ None → drop i xs ≡ []
drop_past [] zero e = refl
drop_past [] (suc i) e = refl
drop_past (y ∷ xs) zero e = cc
drop_past (y ∷ xs) (suc i) e = drop_past xs i e

-- an element stands at each place
pub stands_at : {A : Type 0} (xs : List A) (i : ℕ) → i < length xs → slice_get xs i ≡ None → ⊥
stands_at [] i below e = omega arith
stands_at (y ∷ xs) zero below e = let wrong : Some y ≡ None = e in cc
stands_at (y ∷ xs) (suc i) below e = stands_at xs i (omega arith) e

pub any_last : {A : Type 0} (p : A → Bool) (xs : List A) (x : A) → list_any p (xs ++ x ∷ []) ≡ (list_any p xs || p x)
any_last p [] x = by (p x)
  where
    by : (b : Bool) → (b || false) ≡ (false || b)
    by true = refl
    by false = refl
any_last p (y ∷ xs) x = by (p y) (any_last p xs x)
  where
    by : (b : Bool) → list_any p (xs ++ x ∷ []) ≡ (list_any p xs || p x) → (b || list_any p (xs ++ x ∷ [])) ≡ ((b || list_any p xs) || p x)
    by true e = refl
    by false e = e

-- what is asked about stands among what is wanted once one more is
more_asked : (b c : Bool) → (if b then true else c) ≡ (c || b)
more_asked true true = refl
more_asked true false = refl
more_asked false true = refl
more_asked false false = refl

some_cond : {V : Type 0} (b : Bool) (v : V) (o : Option V) → is_some (cond b (Some v) o) ≡ (is_some o || b)
some_cond true v None = refl
some_cond true v (Some x) = refl
some_cond false v None = refl
some_cond false v (Some x) = refl

passed_by : {A : Type 0} (known there : Bool) (now next : A) → (known || there) ≡ true → (if known || there then now else next) ≡ now
passed_by known there now next e = ap (λ b. if b then now else next) e

added_by : {A : Type 0} (known there : Bool) (now next : A) → known ≡ false → there ≡ false → (if known || there then now else next) ≡ next
added_by known there now next k t = ap (λ b. if b || there then now else next) k ∙ ap (λ b. if b then now else next) t

pub neither : (a b : Bool) → (a || b) ≡ false → (a ≡ false) × (b ≡ false)
neither true b e = absurd (true≢false e)
neither false b e = (refl, e)

-- something is found where something is copied
pub some_copied : {V : Type 0} (o : Option (Bor V)) → is_some o ≡ is_some (option_copied o)
some_copied None = refl
some_copied (Some x) = refl

-- ---- files of packages

-- the names that are asked about are those that are wanted
abbrev pub AsksNames : {V : Type 0} → FinMap text_cmp V → List RegistryFile → Type 0
AsksNames asked front = (name : List ℕ) → finite.contains_key asked name ≡ list_any (is_package_of name) front

-- some files are wanted of the items before a place, and with those behind it all are
abbrev pub PackagesFrom : {V : Type 0} → Packages → FinMap text_cmp V → List WaitingPackage → ℕ → List RegistryFile → List RegistryFile → Type 0
PackagesFrom {V} known asked items place before now =
    (front : List RegistryFile) × (now ≡ before ++ front) × (packages_wanted known [] items ≡ packages_wanted known front (drop place items)) × AsksNames asked front

pub no_packages_yet : (V : Type 0) (known : Packages) (items : List WaitingPackage) (before : List RegistryFile) → PackagesFrom {V = V} known finite.empty items 0 before before
no_packages_yet V known items before = ([], sym (append-nil before), refl, λ name. ap is_some (get-empty {X = V} text_cmp name))

module _ {V : Type 0} (known : Packages) (asked : FinMap text_cmp V) (items : List WaitingPackage) (place : ℕ) (item : WaitingPackage) (before now : List RegistryFile) (at : slice_get items place ≡ Some item) (so_far : PackagesFrom known asked items place before now) where
  one_package : (next : List RegistryFile) → wanted_with (finite.contains_key known item.req.name) (is_package_of item.req.name) so_far.0 (Package item.req.name) ≡ next → packages_wanted known [] items ≡ packages_wanted known next (drop (place + 1) items)
  unfolding packages_wanted
  one_package next is =
      so_far.2 ∙ ap (packages_wanted known so_far.0) (drop_at items place item at)
      ∙ ap (λ front. packages_wanted known front (drop (place + 1) items)) is

  pub package_passed : (finite.contains_key known item.req.name || finite.contains_key asked item.req.name) ≡ true → PackagesFrom known asked items (place + 1) before now
  package_passed e = (
    so_far.0,
    so_far.1,
    one_package so_far.0
        (passed_by (finite.contains_key known item.req.name) (list_any (is_package_of item.req.name) so_far.0) so_far.0 (so_far.0 ++ Package item.req.name ∷ [])
        (ap (λ b. finite.contains_key known item.req.name || b) (sym (so_far.3 item.req.name)) ∙ e)),
    so_far.3,
  )

  package_more : (v : V) → finite.contains_key known item.req.name ≡ false → finite.contains_key asked item.req.name ≡ false → PackagesFrom known (with_answer asked item.req.name v) items (place + 1) before (now ++ Package item.req.name ∷ [])
  package_more v k a = (
    so_far.0 ++ Package item.req.name ∷ [],
    ap (λ (l : List RegistryFile). l ++ Package item.req.name ∷ []) so_far.1 ∙ append_assoc before so_far.0 (Package item.req.name ∷ []),
    one_package (so_far.0 ++ Package item.req.name ∷ [])
        (added_by (finite.contains_key known item.req.name) (list_any (is_package_of item.req.name) so_far.0) so_far.0 (so_far.0 ++ Package item.req.name ∷ []) k (sym (so_far.3 item.req.name) ∙ a)),
    λ name.
        ap (λ b. is_some (finite.get (if b then asked else finite.insert asked item.req.name v) name)) a
        ∙ ap is_some (get-insert nat_list_cmp_total asked item.req.name v name)
        ∙ some_cond (eq_by_cmp text_cmp name item.req.name) v (finite.get asked name)
        ∙ ap (λ b. finite.contains_key asked name || b) (sym (texts_ties name item.req.name))
        ∙ ap (λ b. b || bytes_eq name item.req.name) (so_far.3 name)
        ∙ sym (any_last (is_package_of name) so_far.0 (Package item.req.name)),
  )

  pub package_added : (v : V) (copy again : List ℕ) (next : FinMap text_cmp V) (more : List RegistryFile) → (finite.contains_key known item.req.name || finite.contains_key asked item.req.name) ≡ false → copy ≡ item.req.name → again ≡ item.req.name → next ≡ with_answer asked copy v → more ≡ now ++ Package again ∷ [] → PackagesFrom known next items (place + 1) before more
  package_added v copy again next more e copied copied_again next_is more_is =
      let none = neither (finite.contains_key known item.req.name) (finite.contains_key asked item.req.name) e in
      subst (λ (l : List RegistryFile). PackagesFrom known next items (place + 1) before l) (sym (more_is ∙ ap (λ (x : List ℕ). now ++ Package x ∷ []) copied_again))
      (subst (λ (m : FinMap text_cmp V). PackagesFrom known m items (place + 1) before (now ++ Package item.req.name ∷ [])) (sym (next_is ∙ ap (λ (x : List ℕ). with_answer asked x v) copied)) (package_more v none.0 none.1))

pub packages_all : {V : Type 0} (known : Packages) (asked : FinMap text_cmp V) (items : List WaitingPackage) (place : ℕ) (before now : List RegistryFile) → drop place items ≡ [] → PackagesFrom known asked items place before now → now ≡ before ++ packages_wanted known [] items
unfolding packages_wanted
packages_all known asked items place before now e so_far =
    so_far.1 ∙ ap (λ (l : List RegistryFile). before ++ l) (sym (so_far.2 ∙ ap (packages_wanted known so_far.0) e))

-- ---- files of versions

both_tie : (r s : Ordering) → (is_eq r && is_eq s) ≡ is_eq (ordering_then r s)
both_tie Less s = refl
both_tie Equal s = refl
both_tie Greater s = refl

-- versions are told apart as their order does
pub version_ties : (a b : PackageNv) → same_nv a b ≡ eq_by_cmp nv_cmp a b
version_ties a b =
    ap (λ t. t && eq_by_cmp ver_cmp a.version b.version) (texts_ties a.name b.name)
    ∙ both_tie (text_cmp a.name b.name) (ver_cmp a.version b.version)

-- the versions that are asked about are those that are wanted
abbrev pub AsksVersions : {V : Type 0} → FinMap nv_cmp V → List RegistryFile → Type 0
AsksVersions asked front = (nv : PackageNv) → finite.contains_key asked nv ≡ list_any (is_version_of nv) front

abbrev pub VersionsFrom : {V : Type 0} → Versions → FinMap nv_cmp V → List Chosen → ℕ → List RegistryFile → List RegistryFile → Type 0
VersionsFrom {V} known asked chosen place before now =
    (front : List RegistryFile) × (now ≡ before ++ front) × (versions_wanted known [] chosen ≡ versions_wanted known front (drop place chosen)) × AsksVersions asked front

pub no_versions_yet : (V : Type 0) (known : Versions) (chosen : List Chosen) (before : List RegistryFile) → VersionsFrom {V = V} known finite.empty chosen 0 before before
no_versions_yet V known chosen before = ([], sym (append-nil before), refl, λ nv. ap is_some (get-empty {X = V} nv_cmp nv))

module _ {V : Type 0} (known : Versions) (asked : FinMap nv_cmp V) (chosen : List Chosen) (place : ℕ) (one : Chosen) (before now : List RegistryFile) (at : slice_get chosen place ≡ Some one) (so_far : VersionsFrom known asked chosen place before now) where
  one_version : (next : List RegistryFile) → wanted_with (finite.contains_key known one.nv) (is_version_of one.nv) so_far.0 (Version one.nv) ≡ next → versions_wanted known [] chosen ≡ versions_wanted known next (drop (place + 1) chosen)
  unfolding versions_wanted
  one_version next is =
      so_far.2 ∙ ap (versions_wanted known so_far.0) (drop_at chosen place one at)
      ∙ ap (λ front. versions_wanted known front (drop (place + 1) chosen)) is

  pub version_passed : (finite.contains_key known one.nv || finite.contains_key asked one.nv) ≡ true → VersionsFrom known asked chosen (place + 1) before now
  version_passed e = (
    so_far.0,
    so_far.1,
    one_version so_far.0
        (passed_by (finite.contains_key known one.nv) (list_any (is_version_of one.nv) so_far.0) so_far.0 (so_far.0 ++ Version one.nv ∷ [])
        (ap (λ b. finite.contains_key known one.nv || b) (sym (so_far.3 one.nv)) ∙ e)),
    so_far.3,
  )

  version_more : (v : V) → finite.contains_key known one.nv ≡ false → finite.contains_key asked one.nv ≡ false → VersionsFrom known (with_answer asked one.nv v) chosen (place + 1) before (now ++ Version one.nv ∷ [])
  version_more v k a = (
    so_far.0 ++ Version one.nv ∷ [],
    ap (λ (l : List RegistryFile). l ++ Version one.nv ∷ []) so_far.1 ∙ append_assoc before so_far.0 (Version one.nv ∷ []),
    one_version (so_far.0 ++ Version one.nv ∷ [])
        (added_by (finite.contains_key known one.nv) (list_any (is_version_of one.nv) so_far.0) so_far.0 (so_far.0 ++ Version one.nv ∷ []) k (sym (so_far.3 one.nv) ∙ a)),
    λ nv.
        ap (λ b. is_some (finite.get (if b then asked else finite.insert asked one.nv v) nv)) a
        ∙ ap is_some (get-insert nv_total asked one.nv v nv)
        ∙ some_cond (eq_by_cmp nv_cmp nv one.nv) v (finite.get asked nv)
        ∙ ap (λ b. finite.contains_key asked nv || b) (sym (version_ties nv one.nv))
        ∙ ap (λ b. b || same_nv nv one.nv) (so_far.3 nv)
        ∙ sym (any_last (is_version_of nv) so_far.0 (Version one.nv)),
  )

  pub version_added : (v : V) (copy again : PackageNv) (next : FinMap nv_cmp V) (more : List RegistryFile) → (finite.contains_key known one.nv || finite.contains_key asked one.nv) ≡ false → copy ≡ one.nv → again ≡ one.nv → next ≡ with_answer asked copy v → more ≡ now ++ Version again ∷ [] → VersionsFrom known next chosen (place + 1) before more
  version_added v copy again next more e copied copied_again next_is more_is =
      let none = neither (finite.contains_key known one.nv) (finite.contains_key asked one.nv) e in
      subst (λ (l : List RegistryFile). VersionsFrom known next chosen (place + 1) before l) (sym (more_is ∙ ap (λ (x : PackageNv). now ++ Version x ∷ []) copied_again))
      (subst (λ (m : FinMap nv_cmp V). VersionsFrom known m chosen (place + 1) before (now ++ Version one.nv ∷ [])) (sym (next_is ∙ ap (λ (x : PackageNv). with_answer asked x v) copied)) (version_more v none.0 none.1))

pub versions_all : {V : Type 0} (known : Versions) (asked : FinMap nv_cmp V) (chosen : List Chosen) (place : ℕ) (before now : List RegistryFile) → drop place chosen ≡ [] → VersionsFrom known asked chosen place before now → now ≡ before ++ versions_wanted known [] chosen
unfolding versions_wanted
versions_all known asked chosen place before now e so_far =
    so_far.1 ∙ ap (λ (l : List RegistryFile). before ++ l) (sym (so_far.2 ∙ ap (versions_wanted known so_far.0) e))
