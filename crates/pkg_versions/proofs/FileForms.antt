-- What is read of a file of the registry can be read back.
use Rattle.std.proofs.Common.{◌≡◌, ℕ, Bool, true, false, ◌&&◌, List, [], Option, Some, None, Result, Ok, Err, option_map, option_and_then, codes, refl, sym, ap, subst, ◌∙◌}
use Rattle.std.specs.BTreeMap.{insert_entry}
use Rattle.std.specs.List.{All}
use Rattle.std.specs.Map.{keys_of}
use Rattle.std.specs.Prelude.{is_some, IfOk, IfSome, if◌then◌else◌}
use Rattle.std.specs.Result.{result_ok}
use Rattle.std.proofs.lemmas.List.Elements.{All-nil}
use Rattle.std.proofs.lemmas.Map.Views.{All-keys-insert_entry}
use Rattle.semver.specs.Grammar.{IsValid}
use Rattle.semver.specs.Parse.{version_parts}
use Rattle.semver.proofs.Grammar.{version_parts-sound}
use Rattle.serde_json.specs.Data.{Data, Members, no_members, member}
use Rattle.serde_json.specs.Find.{as_null, as_object, as_str, get}
use Rattle.json_forms.specs.Dictionary.{dictionary}
use Rattle.json_forms.specs.Form.{Form, text}
use Rattle.json_forms.specs.Member.{required}
use Rattle.spec_base.specs.Options.{by_option}
use Rattle.json_forms.specs.Whole.{is_whole}
use Rattle.semver_npm.specs.Versions.{Ver, ver_cmp, version_of}
use Rattle.pkg_versions.specs.ReadBack.{HasVersions, is_graph, is_plain}
use Rattle.pkg_versions.specs.RegistryFiles.{VersionFile, an_object, bad_file, info_version, json_of, manifest_entry, nullable, or_null, package_file, package_info, registry_file, unless_null, version, version_file, version_info, versions, versions_from, whole_json}
use Rattle.spec_base.specs.Refusal.{Answers}
use Rattle.spec_base.specs.declared.refusal.Fault.{Fault}
use Rattle.spec_base.specs.declared.refusal.Refusal.{Refusal}
use Rattle.pkg_versions.specs.FileViews.{file_of, file_view}
use Rattle.pkg_versions.specs.declared.version_info.JsrPackageVersionInfo.{JsrPackageVersionInfo}
use Rattle.pkg_versions.specs.declared.package_info.JsrPackageInfo.{JsrPackageInfo}
use Rattle.pkg_versions.specs.declared.package_info.JsrPackageInfoVersion.{JsrPackageInfoVersion}

-- ---- one step after another

module _ {A B : Type 0} where
  -- what a step led from
  record Led (f : A → Option B) (o : Option A) (y : B) : Type 0 where
    from : A
    is : o ≡ Some from
    to : f from ≡ Some y

  led : (f : A → Option B) (o : Option A) (y : B) → option_and_then f o ≡ Some y → Led f o y
  led f None y h = cc h
  led f (Some x) y h = record { from = x; is = refl; to = h }

form_by : {A : Type 0} (P : A → Type 0) (o : Option A) (x : A) → ((y : A) → o ≡ Some y → P y) → by_option o (Err bad_file) Ok ≡ Ok x → P x
form_by P None x holds h = cc h
form_by P (Some y) x holds h = let e : y ≡ x = cc in subst P e (holds y refl)

-- what holds of what has a form holds of a file of it
pub file_has : {A : Type 0} (f : Form A) (P : A → Type 0) → ((d : Data) (x : A) → f d ≡ Some x → P x) → (bytes : List ℕ) (x : A) → registry_file f bytes ≡ Ok x → P x
file_has f P holds bytes x h =
    form_by P (option_and_then f (json_of bytes)) x (λ y e. let l = led f (json_of bytes) y e in holds l.from y l.to) h

-- ---- package files

from_ok : {A E : Type 0} (r : Result A E) (x : A) → result_ok r ≡ Some x → r ≡ Ok x
from_ok (Ok y) x h = cc h
from_ok (Err e) x h = cc h

valid_text : (text : List ℕ) (v : Ver) → version_of text ≡ Some v → IsValid v
valid_text text v h = (version_parts-sound text v (from_ok (version_parts text) v h)).1

valid_version : (d : Data) (v : Ver) → version d ≡ Some v → IsValid v
valid_version d v h = let l = led version_of (as_str d) v h in valid_text l.from v l.to

valid_from : (found : List (Ver × JsrPackageInfoVersion)) (ms : Members) (r : List (Ver × JsrPackageInfoVersion)) → versions_from found ms ≡ Some r → All IsValid (keys_of found) → All IsValid (keys_of r)
unfolding versions_from
valid_from found no_members r h valid = let e : found ≡ r = cc in subst (λ es. All IsValid (keys_of es)) e valid
valid_from found (member k d ms) r h valid =
    let v = led _ (version_of k) r h in
    let entry = led _ (info_version d) r v.to in
    valid_from (insert_entry ver_cmp found v.from entry.from) ms r entry.to (All-keys-insert_entry ver_cmp v.from entry.from IsValid found valid (valid_text k v.from v.is))

module _ {A : Type 0} (f : Form A) (P : A → Type 0) (holds : (d : Data) (x : A) → f d ≡ Some x → P x) where
  value_by : (d : Data) (b : Bool) (r : Option A) (o : Option A) → f d ≡ r → (if b then Some None else option_map Some r) ≡ Some o → IfSome o P
  value_by d true r o e h = let n : None ≡ o = cc in subst (λ z. IfSome z P) n tt
  value_by d false None o e h = cc h
  value_by d false (Some x) o e h = let s : Some x ≡ o = cc in subst (λ z. IfSome z P) s (holds d x e)

  member_by : (m : Option Data) (o : Option A) → by_option m (Some None) (unless_null f) ≡ Some o → IfSome o P
  member_by None o h = let n : None ≡ o = cc in subst (λ z. IfSome z P) n tt
  member_by (Some d) o h = value_by d (is_some (as_null d)) (f d) o refl h

pub info_has : (d : Data) (info : JsrPackageInfo) → package_info d ≡ Some info → HasVersions info
info_has d info h =
    let vs = led _ (required versions (codes "versions") d) info h in
    let latest = led _ (nullable version (codes "latest") d) info vs.to in
    let ms = led versions (get (codes "versions") d) vs.from vs.is in
    let object = led (versions_from []) (as_object ms.from) vs.from ms.to in
    let e : record { versions = vs.from; latest = latest.from } ≡ info = cc latest.to in
    subst HasVersions e (
      valid_from [] object.from vs.from object.to (All-nil IsValid),
      member_by version IsValid valid_version (get (codes "latest") d) latest.from latest.is,
    )

-- ---- version files

whole_by : (d : Data) (b : Bool) (x : Data) → is_whole d ≡ b → (if b then Some d else None) ≡ Some x → is_whole x ≡ true
whole_by d true x e h = let s : d ≡ x = cc in ap is_whole (sym s) ∙ e
whole_by d false x e h = cc h

whole_read : (d x : Data) → whole_json d ≡ Some x → is_whole x ≡ true
whole_read d x h = whole_by d (is_whole d) x refl h

exports_have : (o : Option Data) → IfSome o (λ d. is_whole d ≡ true) → is_whole (or_null (λ e. e) o) ≡ true
exports_have None h = refl
exports_have (Some d) h = h

graph_by : (d : Data) (null whole : Bool) (g : Option Data) → is_some (as_null d) ≡ null → is_whole d ≡ whole
    → (if null then Some None else option_map Some (if whole then Some d else None)) ≡ Some g → is_graph g ≡ true
graph_by d true whole g n w h = let e : None ≡ g = cc in ap is_graph (sym e)
graph_by d false true g n w h = let e : Some d ≡ g = cc in ap is_graph (sym e) ∙ rw (n, w)
graph_by d false false g n w h = cc h

graph_at : (m : Option Data) (g : Option Data) → by_option m (Some None) (unless_null whole_json) ≡ Some g → is_graph g ≡ true
graph_at None g h = let e : None ≡ g = cc in ap is_graph (sym e)
graph_at (Some d) g h = graph_by d (is_some (as_null d)) (is_whole d) g refl refl h

all_three : (a b c : Bool) → a ≡ true → b ≡ true → c ≡ true → (a && (b && c)) ≡ true
all_three a b c h k l = rw (h, k, l)

pub version_info_has : (d : Data) (info : VersionFile) → version_info d ≡ Some info → is_plain info ≡ true
version_info_has d info h =
    let object = led _ (an_object d) info h in
    let exports = led _ (nullable whole_json (codes "exports") d) info object.to in
    let first = led _ (nullable whole_json (codes "moduleGraph1") d) info exports.to in
    let second = led _ (nullable whole_json (codes "moduleGraph2") d) info first.to in
    let manifest = led _ (required (dictionary manifest_entry) (codes "manifest") d) info second.to in
    let sum = led _ (nullable text (codes "lockfileChecksum") d) info manifest.to in
    let e : record { exports = or_null (λ e. e) exports.from; module_graph_1 = first.from; module_graph_2 = second.from; manifest = manifest.from; lockfile_checksum = sum.from } ≡ info = cc sum.to in
    ap is_plain (sym e) ∙ all_three _ _ _
    (exports_have exports.from (member_by whole_json (λ x. is_whole x ≡ true) whole_read (get (codes "exports") d) exports.from exports.is))
    (graph_at (get (codes "moduleGraph1") d) first.from first.is)
    (graph_at (get (codes "moduleGraph2") d) second.from second.is)

-- ---- answers

pub package_answered : (r : Result JsrPackageInfo (Refusal Fault)) (bytes : List ℕ) → Answers r (package_file bytes) → IfOk r HasVersions
package_answered (Ok info) bytes h = file_has package_info HasVersions info_has bytes info h
package_answered (Err e) bytes h = tt

pub version_answered : (r : Result JsrPackageVersionInfo (Refusal Fault)) (bytes : List ℕ) → Answers (file_view r) (version_file bytes) → IfOk r (λ info. is_plain (file_of info) ≡ true)
version_answered (Ok info) bytes h = file_has version_info (λ x. is_plain x ≡ true) version_info_has bytes (file_of info) h
version_answered (Err e) bytes h = tt
