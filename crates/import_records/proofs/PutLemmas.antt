-- An import record put at its place.
use Rattle.std.proofs.Common.{◌≡◌, ℕ, List, false, Option, None, Some, is_some, refl, sym, ap, ◌∙◌, true≢false, bytes_eq, position, slice_get}
use Rattle.std.specs.Prelude.{string_bytes}
use Rattle.std.specs.String.{string_eq}
use Rattle.std.specs.Option.{unwrap_or}
use Rattle.std.specs.declared.string.String.{String}
use Rattle.std.specs.Map.{lookup, keys_of, values_of}
use Rattle.indexmap.specs.IndexMap.{insert_entry, set_value_at}
use Rattle.spec_base.specs.Shown.{shown}
use Rattle.spec_base.proofs.ShownLemmas.{insert_shown, lookup_shown, change_shown, value_shown}
use Rattle.graph_dependencies.specs.declared.dependency.Dependency.{Dependency}
use Rattle.import_records.specs.declared.import_record.ImportRecord.{ImportRecord}
use Rattle.import_records.specs.Importing.{Importing}
use Rattle.import_records.specs.Growing.{empty_dependency, grown, put}

-- where the text stands, its dependency grows at its place
pub at_place : {A : Type 0} (a : Importing) (es : List (String A × Dependency)) (r : ImportRecord) (at : ℕ) (old new : Dependency) → Some at ≡ position (λ k. bytes_eq r.imported.specifier (string_bytes k)) (keys_of es) → Some old ≡ slice_get (values_of es) at → new ≡ grown a old r → shown (set_value_at es at new) ≡ put a (shown es) r
at_place a es r at old new place value grows =
    change_shown es r.imported.specifier at new place
    ∙ ap (λ v. insert_entry bytes_eq (shown es) r.imported.specifier v)
    (grows ∙ ap (λ o. grown a (unwrap_or o empty_dependency) r) (sym (value_shown es r.imported.specifier at old place value)))

no_value : {V : Type 0} (o : Option V) → is_some o ≡ false → o ≡ None
no_value None e = refl
no_value (Some v) e = absurd (true≢false e)

-- where the text doesn't stand, its dependency comes last
pub at_end : {A : Type 0} (a : Importing) (es : List (String A × Dependency)) (r : ImportRecord) (key : String A) (new : Dependency) (asked : List ℕ) → asked ≡ r.imported.specifier → is_some (lookup (λ k. bytes_eq asked (string_bytes k)) es) ≡ false → string_bytes key ≡ r.imported.specifier → new ≡ grown a empty_dependency r → shown (insert_entry string_eq es key new) ≡ put a (shown es) r
at_end a es r key new asked same none text grows =
    insert_shown es key new
    ∙ (λ i. insert_entry bytes_eq (shown es) (text i) (grows i))
    ∙ ap (λ o. insert_entry bytes_eq (shown es) r.imported.specifier (grown a (unwrap_or o empty_dependency) r))
    (sym (sym (lookup_shown r.imported.specifier es) ∙ no_value _ (ap (λ t. is_some (lookup (λ k. bytes_eq t (string_bytes k)) es)) (sym same) ∙ none)))
