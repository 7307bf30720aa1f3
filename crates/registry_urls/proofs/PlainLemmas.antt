-- A plain path stays as it is in the URL of a registry's folder.
use Rattle.std.proofs.Common.{◌≡◌, ℕ, ◌-◌, Bool, true, false, not, ◌==◌, List, [], ◌∷◌, ◌++◌, length, take, drop, None, refl, sym, ap, ◌∙◌, subst, inl, append_assoc, append-nil, arith, length-append}
use Rattle.std.specs.Prelude.{codes, nat_eq, unwrap_or, IsTrue}
use Rattle.std.specs.List.{concat, ends_with, suffix_len}
use Rattle.std.specs.Result.{result_unwrap_or}
use Rattle.std.proofs.lemmas.Grind.{flat_map-append}
use Rattle.std.proofs.lemmas.List.{take-append-drop, take_all}
use Rattle.std.proofs.lemmas.List.Elements.{All-nil, All-append}
use Rattle.std.proofs.lemmas.Slice.Eq.{bytes_eq-Decides}
use Rattle.url.specs.declared.scheme.SchemeType.{SchemeType}
use Rattle.url.specs.declared.scheme.SchemeType.TheVariants.{SpecialNotFile}
use Rattle.url.specs.Input.{trim_end}
use Rattle.url.specs.Scheme.{is_special}
use Rattle.url.specs.Path.{IsSegment, IsSegmentList, without_last_segment}
use Rattle.url.specs.Parts.{Parts, kind_of, has_authority, pieces, serialize, IsValid}
use Rattle.url.specs.Parser.{with_path, parse_url}
use Rattle.url.proofs.InputLemmas.{IsNot, rsplit_once_at}
use Rattle.url.proofs.PathLemmas.{without_last_valid}
use Rattle.url.proofs.RoundTrip.{body_text}
use Rattle.url.proofs.Theorems.{parse_url-serialize_special}
use Rattle.url.proofs.ValidLemmas.{hierarchical, special_has_authority, base_from_authority}
use Rattle.registry_urls.specs.Plain.{IsFolder, IsPlain}
use Rattle.registry_urls.specs.Registry.{is_web, folder, text_in, url_in}
use Rattle.registry_urls.proofs.CutLemmas.{suffix_within}
use Rattle.registry_urls.proofs.FolderLemmas.{authority, front, regroup_path, text_and_tail, web_kind}

-- two lists of segments, one behind the other
joined_after : (kind : SchemeType) (a b : List ℕ) → IsSegmentList kind a → IsSegmentList kind b → IsSegmentList kind (a ++ b)
joined_after kind a b first second = record {
  segments = first.segments ++ second.segments;
  joined = (λ i. first.joined i ++ second.joined i) ∙ sym (flat_map-append (λ s. 47 ∷ s) first.segments second.segments);
  each = All-append (IsSegment kind) first.segments second.segments first.each second.each;
}

-- the path without the `/` at its end
abbrev start : List ℕ → List ℕ
start path = take (length path - 1) path

path_end : (path : List ℕ) → ends_with nat_eq path (codes "/") ≡ true → path ≡ start path ++ 47 ∷ []
path_end path ends = sym (take-append-drop (length path - 1) path) ∙ ap (λ l. start path ++ l) (sym ((bytes_eq-Decides (codes "/") (drop (length path - 1) path)).0 ends))

start_valid : (kind : SchemeType) (path : List ℕ) → ends_with nat_eq path (codes "/") ≡ true → IsSegmentList kind path → IsSegmentList kind (start path)
start_valid kind path ends list =
    let cut = ap (λ p. without_last_segment p) (path_end path ends) ∙ ap (λ r. unwrap_or r.0 []) (rsplit_once_at 47 (start path) [] (All-nil (IsNot 47))) in
    subst (IsSegmentList kind) cut (without_last_valid kind path list)

-- the registry's URL with a longer path
abbrev longer : Parts → List ℕ → Parts
longer registry path = with_path registry (registry.path ++ path)

longer_path : (kind : SchemeType) (old path : List ℕ) → ends_with nat_eq old (codes "/") ≡ true → IsSegmentList kind old → IsSegmentList kind (47 ∷ path) → IsSegmentList kind (old ++ path)
longer_path kind old path ends list more =
    let is : old ++ path ≡ start old ++ 47 ∷ path = ap (λ p. p ++ path) (path_end old ends) ∙ append_assoc (start old) (47 ∷ []) path in
    subst (IsSegmentList kind) (sym is) (joined_after kind (start old) (47 ∷ path) (start_valid kind old ends list) more)

longer_valid : (registry : Parts) (path : List ℕ) → IsValid registry → kind_of registry ≡ SpecialNotFile → IsFolder registry → IsPlain path → IsValid (longer registry path)
longer_valid registry path valid kind folder plain =
    let has = special_has_authority registry valid.head (ap is_special kind) in
    let old = hierarchical registry valid.path (base_from_authority registry has) in
    let some = old.1 (ap is_special kind) in
    let len = length-append registry.path path in
    record {
      head = record {
        scheme = valid.head.scheme;
        username = valid.head.username;
        password = valid.head.password;
        host = valid.head.host;
        port = valid.head.port;
        bare = valid.head.bare;
      };
      path = inl (longer_path (kind_of registry) registry.path path folder.ends old.0 (subst (λ k. IsSegmentList k (47 ∷ path)) (sym kind) plain), λ _. omega arith);
      query = valid.query;
      fragment = valid.fragment;
    }

-- the text of a URL that ends with its path
text_of : (url : Parts) → has_authority url ≡ true → url.query ≡ None → url.fragment ≡ None → serialize url ≡ front url ++ url.path
text_of url has query fragment =
    let tail : concat (drop 11 (pieces url)) ≡ [] = rw (query, fragment) in
    text_and_tail url ∙ (λ i. body_text url has i ++ tail i) ∙ append-nil _ ∙ regroup_path url.scheme (authority url) url.path

longer_text : (registry : Parts) (path : List ℕ) → IsValid registry → kind_of registry ≡ SpecialNotFile → IsFolder registry → serialize (longer registry path) ≡ serialize registry ++ path
longer_text registry path valid kind folder =
    let has = special_has_authority registry valid.head (ap is_special kind) in
    text_of (longer registry path) has folder.query folder.fragment
    ∙ sym (append_assoc (front registry) registry.path path)
    ∙ ap (λ t. t ++ path) (sym (text_of registry has folder.query folder.fragment))

end_kept : (test : ℕ → Bool) (xs : List ℕ) → test 47 ≡ false → trim_end test (xs ++ 47 ∷ []) ≡ xs ++ 47 ∷ []
end_kept test xs fails =
    let within = suffix_within test xs [] 47 fails in
    take_all (length (xs ++ 47 ∷ []) - suffix_len test (xs ++ 47 ∷ [])) (xs ++ 47 ∷ []) (omega arith)

folder_whole : (registry : Parts) → IsValid registry → kind_of registry ≡ SpecialNotFile → IsFolder registry → folder registry ≡ serialize registry
folder_whole registry valid kind ends =
    let has = special_has_authority registry valid.head (ap is_special kind) in
    let test = λ (b : ℕ). not (b == 47) in
    let text = text_of registry has ends.query ends.fragment ∙ ap (λ p. front registry ++ p) (path_end registry.path ends.ends) ∙ sym (append_assoc (front registry) (start registry.path) (47 ∷ [])) in
    ap (trim_end test) text ∙ end_kept test (front registry ++ start registry.path) refl ∙ sym text

-- a plain path has the URL with that longer path
plain_url : (registry : Parts) (path : List ℕ) → IsValid registry → kind_of registry ≡ SpecialNotFile → IsFolder registry → IsPlain path → url_in registry path ≡ longer registry path
plain_url registry path valid kind ends plain =
    let text : text_in registry path ≡ serialize (longer registry path) = ap (λ t. t ++ path) (folder_whole registry valid kind ends) ∙ sym (longer_text registry path valid kind ends) in
    let parsed = ap (parse_url None) text ∙ parse_url-serialize_special (longer registry path) None (longer_valid registry path valid kind ends plain) kind in
    ap (λ r. result_unwrap_or r registry) parsed

-- so that its text is the registry's and the path
pub plain_stays : (registry : Parts) (path : List ℕ) → IsValid registry → IsTrue (is_web registry) → IsFolder registry → IsPlain path → serialize (url_in registry path) ≡ serialize registry ++ path
plain_stays registry path valid web ends plain =
    let kind = web_kind registry web in
    ap serialize (plain_url registry path valid kind ends plain) ∙ longer_text registry path valid kind ends
