-- Import records put one after another are grouped by their texts.
use Rattle.std.proofs.Common.{◌≡◌, ℕ, List, [], ◌∷◌, ◌++◌, Bool, true, false, not, ◌&&◌, ◌||◌, Option, None, Some, refl, sym, ap, ◌∙◌, true≢false, if◌then◌else◌, map, fold, bytes_eq}
use Rattle.std.proofs.lemmas.List.{append-nil, append_assoc}
use Rattle.std.proofs.lemmas.List.Elements.{filter-append}
use Rattle.std.proofs.lemmas.List.Folds.{list_any-append}
use Rattle.std.proofs.lemmas.List.Sums.{fold-append}
use Rattle.std.proofs.lemmas.Slice.Eq.{bytes_eq-Decides}
use Rattle.std.specs.Option.{unwrap_or, option_map_or}
use Rattle.std.specs.List.{list_any}
use Rattle.std.specs.Map.{lookup}
use Rattle.indexmap.specs.IndexMap.{insert_entry}
use Rattle.import_records.specs.declared.import_record.ImportRecord.{ImportRecord}
use Rattle.graph_errors.specs.declared.resolution.Resolution.{Resolution}
use Rattle.graph_errors.specs.declared.resolution.Resolution.TheVariants.{None as Nowhere}
use Rattle.import_records.specs.Dependencies.{dependency_of, with_text, add_text, texts_of, all_dependencies}
use Rattle.import_records.specs.Importing.{Importing}
use Rattle.import_records.specs.Growing.{grown, put, empty_dependency}
use Rattle.import_records.proofs.Offers.{grows}

-- ---- texts

same : (s t : List ℕ) → bytes_eq s t ≡ true → s ≡ t
same s t e = (bytes_eq-Decides s t).0 e

itself : (t : List ℕ) → bytes_eq t t ≡ true
itself t = (bytes_eq-Decides t t).1 refl

-- a test with its answer
on : {P : Type 0} (b : Bool) → (b ≡ true → P) → (b ≡ false → P) → P
on true f g = f refl
on false f g = g refl

or_false : (b : Bool) → (b || false) ≡ b
or_false true = refl
or_false false = refl

or_left : (b c : Bool) → (b || c) ≡ false → b ≡ false
or_left true c e = absurd (true≢false e)
or_left false c e = refl

or_right : (b c : Bool) → (b || c) ≡ false → c ≡ false
or_right true c e = absurd (true≢false e)
or_right false c e = e

and_left : (b c : Bool) → (b && c) ≡ true → b ≡ true
and_left true c e = refl
and_left false c e = absurd (true≢false (sym e))

and_right : (b c : Bool) → (b && c) ≡ true → c ≡ true
and_right true c e = e
and_right false c e = absurd (true≢false (sym e))

not_true : (b : Bool) → not b ≡ true → b ≡ false
not_true true e = absurd (true≢false (sym e))
not_true false e = refl

abbrev pub add : List (List ℕ) → List ℕ → List (List ℕ)
add ts k = if list_any (bytes_eq k) ts then ts else ts ++ k ∷ []

pub distinct : List (List ℕ) → Bool
distinct [] = true
distinct (t ∷ ts) = not (list_any (bytes_eq t) ts) && distinct ts

pub none_twice : distinct [] ≡ true
unfolding distinct
none_twice = refl

-- ---- an entry in a table of texts

-- a value for each text
abbrev pub table : {V : Type 0} → (List ℕ → V) → List (List ℕ) → List (List ℕ × V)
table F ts = map (λ t. (t, F t)) ts

module _ {V : Type 0} (F G : List ℕ → V) (k : List ℕ) (v : V) (at : G k ≡ v) (off : (t : List ℕ) → bytes_eq k t ≡ false → F t ≡ G t) where
  same_table : (ts : List (List ℕ)) → list_any (bytes_eq k) ts ≡ false → table F ts ≡ table G ts
  same_table [] e = refl
  same_table (t ∷ ts) e = λ i.
      (t, off t (or_left (bytes_eq k t) (list_any (bytes_eq k) ts) e) i)
      ∷ same_table ts (or_right (bytes_eq k t) (list_any (bytes_eq k) ts) e) i

  pub inserted : (ts : List (List ℕ)) → distinct ts ≡ true → insert_entry bytes_eq (table F ts) k v ≡ table G (add ts k)
  unfolding distinct
  inserted [] d = λ i. (k, sym at i) ∷ []
  inserted (t ∷ ts) d = on (bytes_eq k t) there (apart (inserted ts (and_right (not (list_any (bytes_eq t) ts)) (distinct ts) d)))
    where
      rest_none : bytes_eq k t ≡ true → list_any (bytes_eq k) ts ≡ false
      rest_none e =
          ap (λ x. list_any (bytes_eq x) ts) (same k t e)
          ∙ not_true (list_any (bytes_eq t) ts) (and_left (not (list_any (bytes_eq t) ts)) (distinct ts) d)

      there : bytes_eq k t ≡ true → insert_entry bytes_eq (table F (t ∷ ts)) k v ≡ table G (add (t ∷ ts) k)
      there e =
          ap (λ b. if b then (t, v) ∷ table F ts else (t, F t) ∷ insert_entry bytes_eq (table F ts) k v) e
          ∙ (λ i. (t, (sym at ∙ ap G (same k t e)) i) ∷ same_table ts (rest_none e) i)
          ∙ ap (λ b. table G (if b || list_any (bytes_eq k) ts then t ∷ ts else t ∷ ts ++ k ∷ [])) (sym e)

      push : (b : Bool) → (t, G t) ∷ table G (if b then ts else ts ++ k ∷ []) ≡ table G (if b then t ∷ ts else t ∷ (ts ++ k ∷ []))
      push true = refl
      push false = refl

      apart : insert_entry bytes_eq (table F ts) k v ≡ table G (add ts k) → bytes_eq k t ≡ false → insert_entry bytes_eq (table F (t ∷ ts)) k v ≡ table G (add (t ∷ ts) k)
      apart rest e =
          ap (λ b. if b then (t, v) ∷ table F ts else (t, F t) ∷ insert_entry bytes_eq (table F ts) k v) e
          ∙ (λ i. (t, off t e i) ∷ rest i)
          ∙ push (list_any (bytes_eq k) ts)
          ∙ ap (λ b. table G (if b || list_any (bytes_eq k) ts then t ∷ ts else t ∷ ts ++ k ∷ [])) (sym e)

-- a look-up in a table of texts
found : {V : Type 0} (F : List ℕ → V) (k : List ℕ) (ts : List (List ℕ)) → lookup (bytes_eq k) (table F ts) ≡ (if list_any (bytes_eq k) ts then Some (F k) else None)
found F k [] = refl
found F k (t ∷ ts) = on (bytes_eq k t) there (apart (found F k ts))
  where
    there : bytes_eq k t ≡ true → lookup (bytes_eq k) (table F (t ∷ ts)) ≡ (if list_any (bytes_eq k) (t ∷ ts) then Some (F k) else None)
    there e =
        ap (λ b. if b then Some (F t) else lookup (bytes_eq k) (table F ts)) e
        ∙ ap (λ s. Some (F s)) (sym (same k t e))
        ∙ ap (λ b. if b || list_any (bytes_eq k) ts then Some (F k) else None) (sym e)

    apart : lookup (bytes_eq k) (table F ts) ≡ (if list_any (bytes_eq k) ts then Some (F k) else None) → bytes_eq k t ≡ false → lookup (bytes_eq k) (table F (t ∷ ts)) ≡ (if list_any (bytes_eq k) (t ∷ ts) then Some (F k) else None)
    apart rest e =
        ap (λ b. if b then Some (F t) else lookup (bytes_eq k) (table F ts)) e
        ∙ rest
        ∙ ap (λ b. if b || list_any (bytes_eq k) ts then Some (F k) else None) (sym e)

-- ---- the texts stand once, and each record's text stands

differs : (s t : List ℕ) → bytes_eq s t ≡ false → bytes_eq t s ≡ false
differs s t e = on (bytes_eq t s) (λ f. absurd (true≢false (sym (itself s) ∙ ap (bytes_eq s) (sym (same t s f)) ∙ e))) (λ f. f)

distinct_push : (ts : List (List ℕ)) (k : List ℕ) → list_any (bytes_eq k) ts ≡ false → distinct ts ≡ true → distinct (ts ++ k ∷ []) ≡ true
unfolding distinct
distinct_push [] k e d = refl
distinct_push (t ∷ ts) k e d =
    ap (λ b. not b && distinct (ts ++ k ∷ []))
    (list_any-append (bytes_eq t) ts (k ∷ [])
    ∙ (λ i. not_true (list_any (bytes_eq t) ts) (and_left (not (list_any (bytes_eq t) ts)) (distinct ts) d) i
    || (differs k t (or_left (bytes_eq k t) (list_any (bytes_eq k) ts) e) i || false)))
    ∙ distinct_push ts k (or_right (bytes_eq k t) (list_any (bytes_eq k) ts) e) (and_right (not (list_any (bytes_eq t) ts)) (distinct ts) d)

pub distinct_add : (ts : List (List ℕ)) (k : List ℕ) → distinct ts ≡ true → distinct (add ts k) ≡ true
distinct_add ts k d =
    on (list_any (bytes_eq k) ts)
    (λ e. ap (λ b. distinct (if b then ts else ts ++ k ∷ [])) e ∙ d)
    (λ e. ap (λ b. distinct (if b then ts else ts ++ k ∷ [])) e ∙ distinct_push ts k e d)

distinct_texts : (ts : List (List ℕ)) (rs : List ImportRecord) → distinct ts ≡ true → distinct (fold add_text ts rs) ≡ true
distinct_texts ts [] d = d
distinct_texts ts (r ∷ rs) d = distinct_texts (add_text ts r) rs (distinct_add ts r.imported.specifier d)

-- a text that is not there after an addition was not there, and is not the one added
not_added : (ts : List (List ℕ)) (k t : List ℕ) → list_any (bytes_eq t) (add ts k) ≡ false → (list_any (bytes_eq t) ts ≡ false) × (bytes_eq t k ≡ false)
not_added ts k t e = on (list_any (bytes_eq k) ts) kept pushed
  where
    kept : list_any (bytes_eq k) ts ≡ true → (list_any (bytes_eq t) ts ≡ false) × (bytes_eq t k ≡ false)
    kept f =
        let old : list_any (bytes_eq t) ts ≡ false = sym (ap (λ b. list_any (bytes_eq t) (if b then ts else ts ++ k ∷ [])) f) ∙ e in
        (old, on (bytes_eq t k) (λ g. absurd (true≢false (sym f ∙ ap (λ x. list_any (bytes_eq x) ts) (sym (same t k g)) ∙ old))) (λ g. g))

    pushed : list_any (bytes_eq k) ts ≡ false → (list_any (bytes_eq t) ts ≡ false) × (bytes_eq t k ≡ false)
    pushed f =
        let both : (list_any (bytes_eq t) ts || (bytes_eq t k || false)) ≡ false =
        sym (list_any-append (bytes_eq t) ts (k ∷ [])) ∙ sym (ap (λ b. list_any (bytes_eq t) (if b then ts else ts ++ k ∷ [])) f) ∙ e in (
          or_left (list_any (bytes_eq t) ts) (bytes_eq t k || false) both,
          or_left (bytes_eq t k) false (or_right (list_any (bytes_eq t) ts) (bytes_eq t k || false) both),
        )

-- where a text does not stand, no record has it
none_with : (ts : List (List ℕ)) (rs : List ImportRecord) (t : List ℕ) → list_any (bytes_eq t) (fold add_text ts rs) ≡ false → (list_any (bytes_eq t) ts ≡ false) × (with_text t rs ≡ [])
none_with ts [] t e = (e, refl)
none_with ts (r ∷ rs) t e =
    let rest = none_with (add_text ts r) rs t e in
    let apart = not_added ts r.imported.specifier t rest.0 in
    (apart.0, (λ i. if apart.1 i then r ∷ with_text t rs else with_text t rs) ∙ rest.1)

-- ---- one record more

empty_is : (a : Importing) → dependency_of a [] ≡ empty_dependency
empty_is a = by a.with_types
  where
    by : (w : Bool) → record (dependency_of a []) {
      maybe_type = option_map_or (λ (o : Resolution × Option (List ℕ)). o.0) (if w then None else None) Nowhere;
      maybe_deno_types_specifier = option_map_or (λ (o : Resolution × Option (List ℕ)). o.1) (if w then None else None) None;
    } ≡ empty_dependency
    by true = refl
    by false = refl

step : (a : Importing) (rs : List ImportRecord) (r : ImportRecord) → put a (all_dependencies a rs) r ≡ all_dependencies a (rs ++ r ∷ [])
unfolding distinct all_dependencies
step a rs r =
    inserted (λ t. dependency_of a (with_text t rs)) (λ t. dependency_of a (with_text t (rs ++ r ∷ []))) r.imported.specifier
    (grown a (unwrap_or (lookup (bytes_eq r.imported.specifier) (all_dependencies a rs)) empty_dependency) r)
    at off (texts_of rs) (distinct_texts [] rs refl)
    ∙ ap (table (λ t. dependency_of a (with_text t (rs ++ r ∷ [])))) (sym (fold-append add_text [] rs (r ∷ [])))
  where
    here : List ℕ
    here = r.imported.specifier

    test : ImportRecord → Bool
    test x = bytes_eq r.imported.specifier x.imported.specifier

    now : with_text r.imported.specifier (rs ++ r ∷ []) ≡ with_text r.imported.specifier rs ++ r ∷ []
    now =
        filter-append (λ x. bytes_eq r.imported.specifier x.imported.specifier) rs (r ∷ [])
        ∙ ap (λ b. with_text r.imported.specifier rs ++ (if b then r ∷ [] else [])) (itself r.imported.specifier)

    before : unwrap_or (lookup (bytes_eq r.imported.specifier) (all_dependencies a rs)) empty_dependency ≡ dependency_of a (with_text r.imported.specifier rs)
    before =
        ap (λ o. unwrap_or o empty_dependency) (found (λ t. dependency_of a (with_text t rs)) r.imported.specifier (texts_of rs))
        ∙ on (list_any (bytes_eq r.imported.specifier) (texts_of rs))
        (λ e. ap (λ b. unwrap_or (if b then Some (dependency_of a (with_text r.imported.specifier rs)) else None) empty_dependency) e)
        (λ e. ap (λ b. unwrap_or (if b then Some (dependency_of a (with_text r.imported.specifier rs)) else None) empty_dependency) e
        ∙ sym (empty_is a) ∙ ap (dependency_of a) (sym ((none_with [] rs r.imported.specifier e).1)))

    at : dependency_of a (with_text r.imported.specifier (rs ++ r ∷ [])) ≡ grown a (unwrap_or (lookup (bytes_eq r.imported.specifier) (all_dependencies a rs)) empty_dependency) r
    at = ap (dependency_of a) now ∙ sym (grows a (with_text r.imported.specifier rs) r) ∙ ap (λ d. grown a d r) (sym before)

    off : (t : List ℕ) → bytes_eq r.imported.specifier t ≡ false → dependency_of a (with_text t rs) ≡ dependency_of a (with_text t (rs ++ r ∷ []))
    off t e = ap (dependency_of a)
        (sym (append-nil (with_text t rs))
        ∙ ap (λ b. with_text t rs ++ (if b then r ∷ [] else [])) (sym (differs r.imported.specifier t e))
        ∙ sym (filter-append (λ x. bytes_eq t x.imported.specifier) rs (r ∷ [])))

-- ---- all records

whole : (a : Importing) (done rs : List ImportRecord) → fold (put a) (all_dependencies a done) rs ≡ all_dependencies a (done ++ rs)
whole a done [] = ap (all_dependencies a) (sym (append-nil done))
whole a done (r ∷ rs) =
    ap (λ es. fold (put a) es rs) (step a done r)
    ∙ whole a (done ++ r ∷ []) rs
    ∙ ap (all_dependencies a) (append_assoc done (r ∷ []) rs)

-- the pass over the records makes the dependencies of each text's records
pub passed : (a : Importing) (rs : List ImportRecord) → fold (put a) [] rs ≡ all_dependencies a rs
unfolding all_dependencies
passed a rs = whole a [] rs
