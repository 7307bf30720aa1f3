-- What a version file says whose numbers are whole.
use Rattle.std.proofs.Common.{◌≡◌, ◌&&◌, ℕ, List, [], ◌∷◌, Bool, true, false, Option, Some, None, Ordering, Less, Equal, Greater, Result, Ok, Err, codes, if◌then◌else◌, is_some, option_and_then, option_map, IsUtf8, refl, ap, sym, ◌∙◌}
use Rattle.std.specs.Cmp.Lexicographic.{slice_cmp}
use Rattle.std.specs.Ordering.{nat_cmp, match_ordering}
use Rattle.serde_json.specs.Data.{Data, null, boolean, number, string, array, object, Members, no_members, member}
use Rattle.serde_json.specs.Find.{as_null, as_object, as_str, get, get_member}
use Rattle.serde_json.specs.Read.{read}
use Rattle.json_documents.specs.Whole.{is_whole, members_whole}
use Rattle.json_forms.specs.Form.{text}
use Rattle.json_forms.specs.Dictionary.{dictionary}
use Rattle.json_forms.specs.Member.{required}
use Rattle.spec_base.specs.Options.{by_option}
use Rattle.pkg_versions.specs.Exports.{exports_of, text_members}
use Rattle.pkg_versions.specs.RegistryFiles.{VersionFile as JsonFile, bad_file, json_of, manifest_entry, nullable, or_null, unless_null, version_file, version_info, whole_json}
use Rattle.pkg_versions.specs.declared.version_info.JsrPackageVersionManifestEntry.{JsrPackageVersionManifestEntry}
use Rattle.pkg_versions.proofs.RegistryLemmas.{json_read}
use Rattle.registry_files.specs.VersionFiles.{FileInfos, Named, exports_at, exports_by_name, infos_at, infos_of, own_sum, read_version_file, version_file_in, version_file_of}
use Rattle.registry_files.specs.declared.version_file.VersionFile.{VersionFile}

first_of : (a b : Bool) → a && b ≡ true → a ≡ true
first_of true b e = refl
first_of false b e = e

second_of : (a b : Bool) → a && b ≡ true → b ≡ true
second_of true b e = e
second_of false b e = absurd cc

-- ---- members of what is whole

member_whole : (k : List ℕ) (ms : Members) (e : Data) → members_whole ms ≡ true → get_member k ms ≡ Some e → is_whole e ≡ true
member_whole k no_members e whole at = absurd cc
member_whole k (member l d ms) e whole at = by (member_whole k ms e (second_of (is_whole d) (members_whole ms) whole)) (slice_cmp nat_cmp k l) at
  where
    by : (get_member k ms ≡ Some e → is_whole e ≡ true) → (o : Ordering) → match_ordering o (get_member k ms) (Some d) (get_member k ms) ≡ Some e → is_whole e ≡ true
    by behind Less there = behind there
    by behind Equal there =
        let same : d ≡ e = cc in
        ap is_whole (sym same) ∙ first_of (is_whole d) (members_whole ms) whole
    by behind Greater there = behind there

whole_at : (k : List ℕ) (d e : Data) → is_whole d ≡ true → get k d ≡ Some e → is_whole e ≡ true
whole_at k null e whole at = absurd cc
whole_at k (boolean b) e whole at = absurd cc
whole_at k (number n) e whole at = absurd cc
whole_at k (string s) e whole at = absurd cc
whole_at k (array ds) e whole at = absurd cc
whole_at k (object ms) e whole at = member_whole k ms e whole at

-- null stands for nothing
abbrev given_unless : Bool → Data → Option Data
given_unless true e = None
given_unless false e = Some e

abbrev unless_nothing : Option Data → Option Data
unless_nothing o = option_and_then (λ e. given_unless (is_some (as_null e)) e) o

nullable_whole : (k : List ℕ) (d : Data) → is_whole d ≡ true → nullable whole_json k d ≡ Some (unless_nothing (get k d))
nullable_whole k d whole = by (get k d) refl
  where
    by_null : (b : Bool) (e : Data) → is_whole e ≡ true → (if b then Some None else option_map Some (whole_json e)) ≡ Some (given_unless b e)
    by_null true e is = refl
    by_null false e is = rw is refl

    by : (o : Option Data) → get k d ≡ o → by_option o (Some None) (unless_null whole_json) ≡ Some (unless_nothing o)
    by None at = refl
    by (Some e) at = by_null (is_some (as_null e)) e (whole_at k d e whole at)

-- ---- exports and infos

exports_told : (o : Option Data) → exports_by_name (or_null (λ e. e) (unless_nothing o)) ≡ by_option o [] exports_by_name
exports_told None = refl
exports_told (Some null) = refl
exports_told (Some (boolean b)) = refl
exports_told (Some (number n)) = refl
exports_told (Some (string s)) = refl
exports_told (Some (array ds)) = refl
exports_told (Some (object ms)) = refl

infos_told : (o : Option Data) → infos_of (unless_nothing o) ≡ infos_of o
infos_told None = refl
infos_told (Some null) = refl
infos_told (Some (boolean b)) = refl
infos_told (Some (number n)) = refl
infos_told (Some (string s)) = refl
infos_told (Some (array ds)) = refl
infos_told (Some (object ms)) = refl

pub exports_text : (d : Data) (s : List ℕ) → as_str d ≡ Some s → exports_of d ≡ (codes ".", s) ∷ []
exports_text null s e = absurd cc
exports_text (boolean b) s e = absurd cc
exports_text (number n) s e = absurd cc
exports_text (string t) s e = cc
exports_text (array ds) s e = absurd cc
exports_text (object ms) s e = absurd cc

pub exports_object : (d : Data) (ms : Members) → as_object d ≡ Some ms → exports_of d ≡ text_members ms
exports_object null ms e = absurd cc
exports_object (boolean b) ms e = absurd cc
exports_object (number n) ms e = absurd cc
exports_object (string t) ms e = absurd cc
exports_object (array ds) ms e = absurd cc
exports_object (object ns) ms e = cc

pub exports_none : (d : Data) → as_str d ≡ None → as_object d ≡ None → exports_of d ≡ []
exports_none null e f = refl
exports_none (boolean b) e f = refl
exports_none (number n) e f = refl
exports_none (string t) e f = absurd cc
exports_none (array ds) e f = refl
exports_none (object ms) e f = absurd cc

-- ---- the file

abbrev pub file_with : Named → FileInfos → List (List ℕ × JsrPackageVersionManifestEntry) → List ℕ → VersionFile
file_with exports infos manifest sum = record { exports = exports; infos = infos; manifest = manifest; checksum = sum }

pub same_file : (e f : Named) (i j : FileInfos) (c d : List ℕ) (manifest : List (List ℕ × JsrPackageVersionManifestEntry)) → e ≡ f → i ≡ j → c ≡ d → file_with e i manifest c ≡ file_with f j manifest d
same_file e f i j c d manifest same_exports same_infos same_sum = rw (same_exports, same_infos, same_sum) refl

pub file_told : (bytes : List ℕ) (d : Data) (manifest : List (List ℕ × JsrPackageVersionManifestEntry)) (said : Option (List ℕ)) → is_whole d ≡ true → is_some (as_object d) ≡ true
    → required (dictionary manifest_entry) (codes "manifest") d ≡ Some manifest → nullable text (codes "lockfileChecksum") d ≡ Some said
    → option_map (version_file_of bytes) (version_info d) ≡ Some (file_with (exports_at d) (infos_at d) manifest (own_sum bytes said))
file_told bytes d manifest said whole is_object sums sum =
    rw (is_object, nullable_whole (codes "exports") d whole, nullable_whole (codes "moduleGraph1") d whole, nullable_whole (codes "moduleGraph2") d whole, sums, sum)
    (ap (λ (f : VersionFile). Some f) files)
  where
    files : version_file_of bytes (record { exports = or_null (λ e. e) (unless_nothing (get (codes "exports") d)); module_graph_1 = unless_nothing (get (codes "moduleGraph1") d); module_graph_2 = unless_nothing (get (codes "moduleGraph2") d); manifest = manifest; lockfile_checksum = said })
        ≡ file_with (exports_at d) (infos_at d) manifest (own_sum bytes said)
    files = rw (exports_told (get (codes "exports") d), infos_told (get (codes "moduleGraph2") d)) refl

-- a text's version file is that of its data
pub file_read : (bytes : List ℕ) (d : Data) (file : VersionFile) → IsUtf8 bytes → read bytes ≡ Some d → option_map (version_file_of bytes) (version_info d) ≡ Some file → version_file_in bytes ≡ Ok file
file_read bytes d file valid reads is = ap (λ (o : Option Data). read_version_file bytes (by_option (option_and_then version_info o) (Err bad_file) Ok)) (json_read bytes d valid reads) ∙ by (version_info d) is
  where
    by : (o : Option JsonFile) → option_map (version_file_of bytes) o ≡ Some file → read_version_file bytes (by_option o (Err bad_file) Ok) ≡ Ok file
    by None e = absurd cc
    by (Some f) e = cc
