-- What is written of the registry's files reads back.
use Rattle.std.proofs.Common.{◌≡◌, ℕ, ℤ, Bool, true, false, ◌&&◌, List, [], ◌∷◌, map, Option, Some, None, Result, Ok, Err, Ordering, Less, Equal, Greater, refl, sym, ap, subst, ◌∙◌}
use Rattle.std.specs.Bool.{⊤}
use Rattle.std.specs.BTreeMap.{insert_entry}
use Rattle.std.specs.Cmp.{tied_itself}
use Rattle.std.specs.Cmp.Lexicographic.{slice_cmp}
use Rattle.std.specs.FinMap.{nat_cmp-IsAntisymmetric, slice_cmp-IsAntisymmetric}
use Rattle.std.specs.List.{All, AllByRecursion}
use Rattle.std.specs.List.Sorted.{IsStrictlySortedBy}
use Rattle.std.specs.Map.{keys_of}
use Rattle.std.specs.Ordering.{match_ordering, nat_cmp}
use Rattle.std.specs.Prelude.{IfOk, IfSome}
use Rattle.serde_json.specs.View.{view}
use Rattle.serde_json.specs.declared.value.Value.{Value}
use Rattle.std.specs.Result.{result_ok}
use Rattle.std.proofs.lemmas.List.Elements.{All-head, All-tail}
use Rattle.semver.specs.Grammar.{IsValid}
use Rattle.semver.specs.Identifiers.{parts_text}
use Rattle.semver.proofs.Grammar.{version_parts-complete}
use Rattle.serde_json.specs.Data.{Data, null, boolean, number, string, array, object, Members, no_members, member, put}
use Rattle.json_forms.specs.Dictionary.{pairs_of, members_json}
use Rattle.json_forms.specs.Form.{text}
use Rattle.json_forms.specs.Rows.{members_from, object_of}
use Rattle.json_forms.specs.Whole.{is_whole}
use Rattle.semver_npm.specs.Versions.{Ver, ver_cmp, version_of}
use Rattle.semver_npm.specs.OrderLaws.{ver-anti, ver_total}
use Rattle.pkg_versions.specs.ReadBack.{AreReadBack, HasVersions, IsReadBack, IsTime, is_graph, is_plain}
use Rattle.pkg_versions.specs.RegistryFiles.{VersionFile, info_version, info_version_rows, manifest_entry, manifest_entry_json, or_null, package_info, package_json, unless_null, version_info, version_json, version_row, versions, versions_from, whole_json}
use Rattle.pkg_versions.specs.declared.package_info.JsrPackageInfo.{JsrPackageInfo}
use Rattle.pkg_versions.specs.declared.package_info.JsrPackageInfoVersion.{JsrPackageInfoVersion}
use Rattle.pkg_versions.specs.declared.version_info.JsrPackageVersionManifestEntry.{JsrPackageVersionManifestEntry}
use Rattle.pkg_versions.proofs.Insertions.{insert_swap, put_all, put_sorted}

-- ---- one version

-- the text of a version of SemVer 2.0 is read as it
pub version_back : (v : Ver) → IsValid v → version_of (parts_text v) ≡ Some v
version_back v valid = ap result_ok (version_parts-complete v valid)

entry_at : (t : Option ℤ) (b : Bool) → IsTime t → info_version (object_of (info_version_rows (record { created_at = t; yanked = b }))) ≡ Some (record { created_at = t; yanked = b })
entry_at None true h = refl
entry_at None false h = refl
entry_at (Some t) true h = rw h
entry_at (Some t) false h = rw h

pub entry_back : (e : JsrPackageInfoVersion) → IsTime e.created_at → info_version (object_of (info_version_rows e)) ≡ Some e
entry_back e h = entry_at e.created_at e.yanked h

-- ---- the versions of a package

abbrev Entry : Type 0
Entry = Ver × JsrPackageInfoVersion

-- no member is named by a version
abbrev Apart : Ver → Members → Type 0
Apart v no_members = ⊤
Apart v (member k d ms) = (version_of k ≡ Some v → ⊥) × Apart v ms

apart_by : (v : Ver) (k l : List ℕ) (d c : Data) (ms : Members) (o : Ordering) → (version_of k ≡ Some v → ⊥) → Apart v (member l c ms) → Apart v (put k d ms)
    → Apart v (match_ordering o (member k d (member l c ms)) (member l d ms) (member l c (put k d ms)))
apart_by v k l d c ms Less h apart later = (h, apart)
apart_by v k l d c ms Equal h apart later = apart
apart_by v k l d c ms Greater h apart later = (apart.0, later)

apart_put : (v : Ver) (k : List ℕ) (d : Data) (ms : Members) → (version_of k ≡ Some v → ⊥) → Apart v ms → Apart v (put k d ms)
apart_put v k d no_members h apart = (h, tt)
apart_put v k d (member l c ms) h apart = apart_by v k l d c ms (slice_cmp nat_cmp k l) h apart (apart_put v k d ms h apart.1)

same_key : (k l : List ℕ) → slice_cmp nat_cmp k l ≡ Equal → k ≡ l
same_key = slice_cmp-IsAntisymmetric nat_cmp-IsAntisymmetric

-- a member that is read before the one that was put
past : (found : List Entry) (l : List ℕ) (c : Data) (more ms : Members) (v : Ver) (entry : JsrPackageInfoVersion) (w : Option Ver) (x : Option JsrPackageInfoVersion)
    → version_of l ≡ w → info_version c ≡ x → (version_of l ≡ Some v → ⊥)
    → ((f : List Entry) → versions_from f more ≡ versions_from (insert_entry ver_cmp f v entry) ms)
    → versions_from found (member l c more) ≡ versions_from (insert_entry ver_cmp found v entry) (member l c ms)
unfolding versions_from
past found l c more ms v entry None x p q apart later = rw p
past found l c more ms v entry (Some w) None p q apart later = rw (p, q)
past found l c more ms v entry (Some w) (Some x) p q apart later =
    rw (p, q) (later (insert_entry ver_cmp found w x) ∙ ap (λ f. versions_from f ms) (insert_swap ver_cmp ver_total found w v x entry (λ h. apart (p ∙ ap Some (ver-anti w v h)))))

put_by : (found : List Entry) (k l : List ℕ) (d c : Data) (ms : Members) (v : Ver) (entry : JsrPackageInfoVersion) (o : Ordering) → slice_cmp nat_cmp k l ≡ o
    → version_of k ≡ Some v → info_version d ≡ Some entry → (version_of l ≡ Some v → ⊥)
    → ((f : List Entry) → versions_from f (put k d ms) ≡ versions_from (insert_entry ver_cmp f v entry) ms)
    → versions_from found (match_ordering o (member k d (member l c ms)) (member l d ms) (member l c (put k d ms))) ≡ versions_from (insert_entry ver_cmp found v entry) (member l c ms)
unfolding versions_from
put_by found k l d c ms v entry Less o p q apart later = rw (p, q)
put_by found k l d c ms v entry Equal o p q apart later = absurd (apart (ap version_of (sym (same_key k l o)) ∙ p))
put_by found k l d c ms v entry Greater o p q apart later = past found l c (put k d ms) ms v entry (version_of l) (info_version c) refl refl apart later

-- a version that is put among the members is one more version
versions_put : (found : List Entry) (k : List ℕ) (d : Data) (ms : Members) (v : Ver) (entry : JsrPackageInfoVersion)
    → version_of k ≡ Some v → info_version d ≡ Some entry → Apart v ms → versions_from found (put k d ms) ≡ versions_from (insert_entry ver_cmp found v entry) ms
unfolding versions_from
versions_put found k d no_members v entry p q apart = rw (p, q)
versions_put found k d (member l c ms) v entry p q apart =
    put_by found k l d c ms v entry (slice_cmp nat_cmp k l) refl p q apart.0 (λ f. versions_put f k d ms v entry p q apart.1)

not_above : (v w : Ver) → ver_cmp v w ≡ Less → version_of (parts_text v) ≡ Some v → version_of (parts_text v) ≡ Some w → ⊥
not_above v w less is other =
    let e : v ≡ w = cc in
    let tie : ver_cmp v w ≡ Equal = subst (λ x. ver_cmp v x ≡ Equal) e (tied_itself ver_total v) in
    cc

-- what holds of the versions that are left, after one is put
apart_all : (e : Entry) (ms : Members) (es : List Entry) → version_of (parts_text e.0) ≡ Some e.0 → AllByRecursion (λ v. ver_cmp e.0 v ≡ Less) (keys_of es)
    → AllByRecursion (λ (f : Entry). Apart f.0 ms) es → AllByRecursion (λ (f : Entry). Apart f.0 (put (parts_text e.0) (object_of (info_version_rows e.1)) ms)) es
apart_all e ms [] is below apart = tt
apart_all e ms (f ∷ es) is below apart =
    (apart_put f.0 (parts_text e.0) (object_of (info_version_rows e.1)) ms (not_above e.0 f.0 below.0 is) apart.0, apart_all e ms es is below.1 apart.1)

rows_read : (found : List Entry) (ms : Members) (es : List Entry) → All IsValid (keys_of es) → AllByRecursion IsReadBack es → IsStrictlySortedBy ver_cmp (keys_of es)
    → AllByRecursion (λ (f : Entry). Apart f.0 ms) es → versions_from found (members_from ms (map version_row es)) ≡ versions_from (put_all ver_cmp ver_total found es) ms
unfolding IsStrictlySortedBy
rows_read found ms [] valid reads sorted apart = refl
rows_read found ms (e ∷ es) valid reads sorted apart =
    let is = version_back e.0 (All-head IsValid e.0 (keys_of es) valid) in
    rows_read found (put (parts_text e.0) (object_of (info_version_rows e.1)) ms) es (All-tail IsValid e.0 (keys_of es) valid) reads.1 sorted.1 (apart_all e ms es is sorted.0 apart.1)
    ∙ versions_put (put_all ver_cmp ver_total found es) (parts_text e.0) (object_of (info_version_rows e.1)) ms e.0 e.1 is reads.0 apart.0

none_apart : (es : List Entry) → AllByRecursion (λ (f : Entry). Apart f.0 no_members) es
none_apart [] = tt
none_apart (e ∷ es) = (tt, none_apart es)

-- the versions of a package file
pub versions_back : (es : List Entry) → All IsValid (keys_of es) → AllByRecursion IsReadBack es → IsStrictlySortedBy ver_cmp (keys_of es) → versions (object_of (map version_row es)) ≡ Some es
unfolding versions_from
versions_back es valid reads sorted = rows_read [] no_members es valid reads sorted (none_apart es) ∙ ap Some (put_sorted ver_cmp ver_total es sorted)

package_at : (vs : List Entry) (latest : Option Ver) → versions (object_of (map version_row vs)) ≡ Some vs → IfSome latest IsValid
    → package_info (package_json (record { versions = vs; latest = latest })) ≡ Some (record { versions = vs; latest = latest })
package_at vs None h valid = rw h
package_at vs (Some v) h valid = rw (h, version_back v valid)

-- a package file
pub package_back : (info : JsrPackageInfo) → HasVersions info → AreReadBack info.versions → package_info (package_json info) ≡ Some info
package_back info has reads = package_at info.versions info.latest (versions_back info.versions has.0 reads.0 reads.1) has.1

-- what is written is read, where it could be written
pub package_written : {E : Type 0} (r : Result Value E) (info : JsrPackageInfo) → HasVersions info → IfOk r (λ v. view v ≡ package_json info) → IfOk r (λ _. AreReadBack info.versions)
    → IfOk r (λ v. package_info (view v) ≡ Some info)
package_written (Ok v) info has value reads = ap package_info value ∙ package_back info has reads
package_written (Err e) info has value reads = tt

-- ---- version files

-- what is read of exports
record ExportsRead (d : Data) : Type 0 where
  found : Option Data
  is_read : unless_null whole_json d ≡ Some found
  is : or_null (λ e. e) found ≡ d

exports_read : (d : Data) → is_whole d ≡ true → ExportsRead d
exports_read null h = record { found = None; is_read = refl; is = refl }
exports_read (boolean b) h = record { found = Some (boolean b); is_read = refl; is = refl }
exports_read (number n) h = record { found = Some (number n); is_read = rw h; is = refl }
exports_read (string s) h = record { found = Some (string s); is_read = refl; is = refl }
exports_read (array ds) h = record { found = Some (array ds); is_read = rw h; is = refl }
exports_read (object ms) h = record { found = Some (object ms); is_read = rw h; is = refl }

graph_back : (g : Option Data) → is_graph g ≡ true → unless_null whole_json (or_null (λ d. d) g) ≡ Some g
graph_back None h = refl
graph_back (Some null) h = cc h
graph_back (Some (boolean b)) h = refl
graph_back (Some (number n)) h = rw h
graph_back (Some (string s)) h = refl
graph_back (Some (array ds)) h = rw h
graph_back (Some (object ms)) h = rw h

entry_json_back : (e : JsrPackageVersionManifestEntry) → manifest_entry (manifest_entry_json e) ≡ Some e
entry_json_back e = refl

pairs_back : (es : List (List ℕ × JsrPackageVersionManifestEntry)) → pairs_of manifest_entry (members_json manifest_entry_json es) ≡ Some es
pairs_back [] = refl
pairs_back (e ∷ es) = rw (pairs_back es)

sum_back : (sum : Option (List ℕ)) → unless_null text (or_null string sum) ≡ Some sum
sum_back None = refl
sum_back (Some s) = refl

both : (a b : Bool) → (a && b) ≡ true → (a ≡ true) × (b ≡ true)
both true b h = (refl, h)
both false b h = cc h

-- a version file
pub version_file_back : (info : VersionFile) → is_plain info ≡ true → version_info (version_json info) ≡ Some info
version_file_back info plain =
    let first = both _ _ plain in
    let graphs = both _ _ first.1 in
    let exports = exports_read info.exports first.0 in
    rw (
      exports.is_read,
      graph_back info.module_graph_1 graphs.0,
      graph_back info.module_graph_2 graphs.1,
      pairs_back info.manifest,
      sum_back info.lockfile_checksum,
      exports.is,
    )
