-- Maps from texts, as the lists of their entries and as JSON objects.
use Rattle.std.proofs.Common.{◌≡◌, ℕ, List, [], ◌∷◌, ◌++◌, map, Some, option_map, Ordering, Less, Greater, String, string_bytes, string_cmp, refl, sym, ap, ◌∙◌}
use Rattle.std.proofs.lemmas.Cmp.{nat_list_cmp_total}
use Rattle.std.proofs.lemmas.List.{map-append}
use Rattle.std.specs.BTreeMap.{insert_entry}
use Rattle.std.specs.List.{AllByRecursion}
use Rattle.std.specs.List.Sorted.{IsStrictlySortedBy}
use Rattle.std.specs.Map.{keys_of}
use Rattle.std.specs.Ordering.{match_ordering, ordering_reverse}
use Rattle.serde_json.specs.Data.{Data, Members, member, put}
use Rattle.spec_base.specs.Shown.{shown, text_cmp}
use Rattle.json_forms.specs.Form.{Form}
use Rattle.json_forms.specs.Dictionary.{pairs_of, dictionary, members_json, dictionary_json}
use Rattle.json_forms.proofs.Options.{option_map-push}

-- ---- read in the order of the keys

pub pairs_of-push : {A : Type 0} (f : Form A) (k : List ℕ) (d : Data) (ms : Members) (v : A) (done : List (List ℕ × A))
    → f d ≡ Some v
    → option_map (λ es. done ++ es) (pairs_of f (member k d ms)) ≡ option_map (λ es. (done ++ (k, v) ∷ []) ++ es) (pairs_of f ms)
pairs_of-push f k d ms v done read = rw read (option_map-push done (k, v) (pairs_of f ms))

-- keys in the order of their texts
abbrev by_texts : {K : Type 0} → (K → List ℕ) → K → K → Ordering
by_texts text a b = text_cmp (text a) (text b)

module _ {K X : Type 0} (text : K → List ℕ) where
  below_middle : (x : K) (es : List (K × X)) (e : K × X) (more : List (K × X)) → AllByRecursion (λ y. by_texts text x y ≡ Less) (keys_of (es ++ e ∷ more)) → by_texts text x e.0 ≡ Less
  below_middle x [] e more h = h.0
  below_middle x (d ∷ es) e more h = below_middle x es e more h.1

  above_first : (first : K × X) (done : List (K × X)) (e : K × X) (more : List (K × X)) → AllByRecursion (λ y. by_texts text first.0 y ≡ Less) (keys_of (done ++ e ∷ more)) → by_texts text e.0 first.0 ≡ Greater
  above_first first done e more h = nat_list_cmp_total.antisymm (text e.0) (text first.0) ∙ ap ordering_reverse (below_middle first.0 done e more h)

  -- a key that is above those before it goes last
  pub insert_last : {V : Type 0} (found : List (List ℕ × V)) (done : List (K × X)) (e : K × X) (more : List (K × X)) (v : V)
      → map (λ p. p.0) found ≡ map (λ p. text p.0) done → IsStrictlySortedBy (by_texts text) (keys_of (done ++ e ∷ more))
      → insert_entry text_cmp found (text e.0) v ≡ found ++ (text e.0, v) ∷ []
  unfolding IsStrictlySortedBy
  insert_last [] [] e more v keys sorted = refl
  insert_last [] (d ∷ done) e more v keys sorted = absurd cc
  insert_last (f ∷ found) [] e more v keys sorted = absurd cc
  insert_last (f ∷ found) (d ∷ done) e more v keys sorted =
      let first : f.0 ≡ text d.0 = cc in
      let others : map (λ p. p.0) found ≡ map (λ p. text p.0) done = cc in
      ap (λ k. match_ordering (text_cmp (text e.0) k) ((text e.0, v) ∷ f ∷ found) ((f.0, v) ∷ found) (f ∷ insert_entry text_cmp found (text e.0) v)) first
      ∙ ap (λ o. match_ordering o ((text e.0, v) ∷ f ∷ found) ((f.0, v) ∷ found) (f ∷ insert_entry text_cmp found (text e.0) v)) (above_first d done e more sorted.0)
      ∙ ap (λ es. f ∷ es) (insert_last found done e more v others sorted.1)

  pub keys_last : {V : Type 0} (found : List (List ℕ × V)) (done : List (K × X)) (e : K × X) (v : V)
      → map (λ p. p.0) found ≡ map (λ p. text p.0) done → map (λ p. p.0) (found ++ (text e.0, v) ∷ []) ≡ map (λ p. text p.0) (done ++ e ∷ [])
  keys_last found done e v keys =
      map-append (λ p. p.0) found ((text e.0, v) ∷ []) ∙ ap (λ ks. ks ++ text e.0 ∷ []) keys ∙ sym (map-append (λ p. text p.0) done (e ∷ []))

-- ---- written in the order of the keys

pub put_last : {X Z : Type 0} (json : X → Data) (done : List (String Z × X)) (e : String Z × X) (more : List (String Z × X)) → IsStrictlySortedBy string_cmp (keys_of (done ++ e ∷ more))
    → put (string_bytes e.0) (json e.1) (members_json json (shown done)) ≡ members_json json (shown (done ++ e ∷ []))
unfolding IsStrictlySortedBy
put_last json [] e more sorted = refl
put_last json (first ∷ done) e more sorted =
    rw (above_first string_bytes first done e more sorted.0) (ap (member (string_bytes first.0) (json first.1)) (put_last json done e more sorted.1))

-- ---- what is written reads back

pairs_back : {A : Type 0} (f : Form A) (json : A → Data) (same : (x : A) → f (json x) ≡ Some x) (es : List (List ℕ × A)) → pairs_of f (members_json json es) ≡ Some es
pairs_back f json same [] = refl
pairs_back f json same (e ∷ es) = rw (same e.1, pairs_back f json same es)

pub dictionary_back : {A : Type 0} (f : Form A) (json : A → Data) (same : (x : A) → f (json x) ≡ Some x) (es : List (List ℕ × A)) → dictionary f (dictionary_json json es) ≡ Some es
dictionary_back f json same es = pairs_back f json same es
