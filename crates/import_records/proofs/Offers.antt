-- The first offer of a list with one record more, and the dependency of it.
use Rattle.std.proofs.Common.{◌≡◌, ℕ, List, [], ◌∷◌, ◌++◌, Bool, true, false, not, ◌&&◌, ◌||◌, Option, None, Some, Result, Ok, Err, refl, sym, ap, ◌∙◌, true≢false, if◌then◌else◌, map, codes}
use Rattle.std.proofs.lemmas.List.{append-nil, append_assoc, map-append}
use Rattle.std.proofs.lemmas.List.Folds.{list_any-append, list_all-append}
use Rattle.std.specs.Prelude.{option_and_then}
use Rattle.std.specs.Option.{option_or, option_map_or, unwrap_or, is_some}
use Rattle.std.specs.List.{list_any, list_all}
use Rattle.url.specs.Parts.{Parts}
use Rattle.spec_base.specs.declared.position.Range.{Range}
use Rattle.spec_base.specs.declared.position.ResolutionKind.{ResolutionKind}
use Rattle.spec_base.specs.declared.position.ResolutionKind.TheVariants.{Execution, Types}
use Rattle.spec_base.specs.declared.resolve_error.ResolveError.{ResolveError}
use Rattle.module_info.specs.Attributes.{attribute_text}
use Rattle.graph_dependencies.specs.declared.dependency.Dependency.{Dependency}
use Rattle.import_records.specs.declared.import_record.ImportRecord.{ImportRecord}
use Rattle.import_records.specs.declared.import_record.TypesText.{TypesText}
use Rattle.graph_errors.specs.declared.resolution.Resolution.{Resolution}
use Rattle.graph_errors.specs.declared.resolution.Resolution.TheVariants.{None as Nowhere, Ok as Leads, Err as Fails}
use Rattle.graph_errors.specs.declared.resolution.ResolutionError.TheVariants.{InvalidJsrHttpsTypesImport}
use Rattle.import_records.specs.Dependencies.{is_failure, same_target, first_offer, attribute_of, is_code, code_offer, code_of, is_dynamic, type_by, type_offer, type_of, dependency_of}
use Rattle.import_records.specs.Importing.{Importing}
use Rattle.graph_dependencies.specs.Kinds.{is_runtime}
use Rattle.import_records.specs.Growing.{with_attribute, with_code, with_type, with_import, take_offer, offered, grown}
use Rattle.graph_errors.specs.Resolutions.{is_nowhere, specifier_in, answered}
use Rattle.import_records.specs.Target.{Resolving, is_refused, permitted, target_by, target_of}

or_none : {B : Type 0} (o : Option B) → option_or o None ≡ o
or_none None = refl
or_none (Some x) = refl

or_assoc : {B : Type 0} (o p q : Option B) → option_or o (option_or p q) ≡ option_or (option_or o p) q
or_assoc None p q = refl
or_assoc (Some x) p q = refl

-- the offer of one record more counts where none came before
pub offer_snoc : {B : Type 0} (offer : List ImportRecord → ImportRecord → Option B) (before rs : List ImportRecord) (r : ImportRecord) → first_offer offer before (rs ++ r ∷ []) ≡ option_or (first_offer offer before rs) (offer (before ++ rs ++ r ∷ []) r)
offer_snoc offer before [] r =
    or_none (offer (before ++ r ∷ []) r) ∙ ap (λ b. offer (b ++ r ∷ []) r) (sym (append-nil before))
offer_snoc offer before (x ∷ xs) r =
    ap (option_or (offer (before ++ x ∷ []) x)) (offer_snoc offer (before ++ x ∷ []) xs r)
    ∙ or_assoc (offer (before ++ x ∷ []) x) (first_offer offer (before ++ x ∷ []) xs) (offer (before ++ x ∷ [] ++ xs ++ r ∷ []) r)
    ∙ ap (λ b. option_or (option_or (offer (before ++ x ∷ []) x) (first_offer offer (before ++ x ∷ []) xs)) (offer (b ++ r ∷ []) r)) (append_assoc before (x ∷ []) xs)

-- what holds of each offer holds of the first
offers_all : {B : Type 0} (offer : List ImportRecord → ImportRecord → Option B) (P : B → Type 0) → ((so_far : List ImportRecord) (r : ImportRecord) (b : B) → offer so_far r ≡ Some b → P b) → (before rs : List ImportRecord) (b : B) → first_offer offer before rs ≡ Some b → P b
offers_all offer P each before [] b e = absurd (true≢false (sym (ap is_some e)))
offers_all {B} offer P each before (x ∷ xs) b e =
    by (offer (before ++ x ∷ []) x) refl (offers_all offer P each (before ++ x ∷ []) xs b) e
  where
    by : (o : Option B) → offer (before ++ x ∷ []) x ≡ o → (first_offer offer (before ++ x ∷ []) xs ≡ Some b → P b) → option_or o (first_offer offer (before ++ x ∷ []) xs) ≡ Some b → P b
    by None p rest e = rest e
    by (Some y) p rest e = each (before ++ x ∷ []) x b (p ∙ e)

-- ---- each target stands

stands_answered : (text : List ℕ) (range : Range) (answer : Result Parts ResolveError) → is_nowhere (answered text range answer) ≡ false
stands_answered text range (Ok s) = refl
stands_answered text range (Err e) = refl

stands_led : (refused : Bool) (range : Range) (s : Parts) → is_nowhere (if refused then Fails (InvalidJsrHttpsTypesImport s range) else Leads (record { specifier = s; range = range })) ≡ false
stands_led true range s = refl
stands_led false range s = refl

stands_permitted : (m : Resolving) (text : List ℕ) (range : Range) (kind : ResolutionKind) (answer : Result Parts ResolveError) → is_nowhere (permitted m.nv_of text range kind answer) ≡ false
stands_permitted m text range kind (Ok s) = stands_led (is_refused m.nv_of kind range.specifier s) range s
stands_permitted m text range kind (Err e) = refl

stands_either : (m : Resolving) (text : List ℕ) (range : Range) (kind : ResolutionKind) (o : Option (Result Parts ResolveError)) → is_nowhere (target_by m text range kind o) ≡ false
stands_either m text range kind None = stands_permitted m text range kind (m.resolver.resolve text range kind)
stands_either m text range kind (Some answer) = stands_answered text range answer

pub target_stands : (m : Resolving) (text : List ℕ) (range : Range) (kind : ResolutionKind) (attribute : Option (List ℕ)) → is_nowhere (target_of m text range kind attribute) ≡ false
target_stands m text range kind attribute = stands_either m text range kind (option_and_then (m.resolver.by_attribute text range kind) attribute)

-- ---- the code

code_stands : (a : Importing) (so_far : List ImportRecord) (r : ImportRecord) (b : Resolution) → code_offer a so_far r ≡ Some b → is_nowhere b ≡ false
code_stands a so_far r b e =
    by (is_code a r) (target_of a.resolving r.imported.specifier r.imported.specifier_range Execution (attribute_of so_far))
    (target_stands a.resolving r.imported.specifier r.imported.specifier_range Execution (attribute_of so_far)) e
  where
    by : (c : Bool) (t : Resolution) → is_nowhere t ≡ false → (if c then Some t else None) ≡ Some b → is_nowhere b ≡ false
    by true t stands e = sym (ap (λ o. is_nowhere (unwrap_or o Nowhere)) e) ∙ stands
    by false t stands e = absurd (true≢false (sym (ap is_some e)))

-- there is no code exactly where there is no code record
has_code : (a : Importing) (before rs : List ImportRecord) → is_nowhere (unwrap_or (first_offer (code_offer a) before rs) Nowhere) ≡ not (list_any (is_code a) rs)
has_code a before [] = refl
has_code a before (x ∷ xs) =
    by (is_code a x) (target_of a.resolving x.imported.specifier x.imported.specifier_range Execution (attribute_of (before ++ x ∷ [])))
    (target_stands a.resolving x.imported.specifier x.imported.specifier_range Execution (attribute_of (before ++ x ∷ [])))
    (has_code a (before ++ x ∷ []) xs)
  where
    by : (c : Bool) (t : Resolution) → is_nowhere t ≡ false → is_nowhere (unwrap_or (first_offer (code_offer a) (before ++ x ∷ []) xs) Nowhere) ≡ not (list_any (is_code a) xs) → is_nowhere (unwrap_or (option_or (if c then Some t else None) (first_offer (code_offer a) (before ++ x ∷ []) xs)) Nowhere) ≡ not (c || list_any (is_code a) xs)
    by true t stands rest = stands
    by false t stands rest = rest

no_code : (a : Importing) (rs : List ImportRecord) → list_any (is_code a) rs ≡ false → list_all (λ r. not (is_code a r) || r.imported.is_dynamic) rs ≡ true
no_code a [] e = refl
no_code a (x ∷ xs) e = by (is_code a x) e (no_code a xs)
  where
    by : (c : Bool) → (c || list_any (is_code a) xs) ≡ false → (list_any (is_code a) xs ≡ false → list_all (λ r. not (is_code a r) || r.imported.is_dynamic) xs ≡ true) → ((not c || x.imported.is_dynamic) && list_all (λ r. not (is_code a r) || r.imported.is_dynamic) xs) ≡ true
    by true e rest = absurd (true≢false e)
    by false e rest = rest e

-- one code record more; `y` is whether there was one and `l` whether all were dynamic
code_cases : (d : Dependency) (o : Option Resolution) (t : Resolution) (c y l dynamic : Bool) → ((x : Resolution) → o ≡ Some x → is_nowhere x ≡ false) → is_nowhere (unwrap_or o Nowhere) ≡ not y → (y ≡ false → l ≡ true)
    → (if not c then record d { maybe_code = unwrap_or o Nowhere; is_dynamic = y && l }
    else (if is_nowhere (unwrap_or o Nowhere) then record d { maybe_code = t; is_dynamic = dynamic }
    else record d { maybe_code = unwrap_or o Nowhere; is_dynamic = (y && l) && dynamic }))
    ≡ record d {
      maybe_code = unwrap_or (option_or o (if c then Some t else None)) Nowhere;
      is_dynamic = (y || (c || false)) && (l && ((not c || dynamic) && true));
    }
code_cases d None t false true true dynamic stands has empty = refl
code_cases d None t false true false dynamic stands has empty = refl
code_cases d None t false false true dynamic stands has empty = refl
code_cases d None t false false false dynamic stands has empty = refl
code_cases d (Some x) t false true true dynamic stands has empty = refl
code_cases d (Some x) t false true false dynamic stands has empty = refl
code_cases d (Some x) t false false true dynamic stands has empty = refl
code_cases d (Some x) t false false false dynamic stands has empty = refl
code_cases d None t true true l dynamic stands has empty = absurd (true≢false has)
code_cases d None t true false true true stands has empty = refl
code_cases d None t true false true false stands has empty = refl
code_cases d None t true false false dynamic stands has empty = absurd (true≢false (sym (empty refl)))
code_cases d (Some x) t true true l dynamic stands has empty =
    ap (λ n. if n then record d { maybe_code = t; is_dynamic = dynamic }
    else record d { maybe_code = x; is_dynamic = l && dynamic }) (stands x refl)
    ∙ by l dynamic
  where
    by : (l dynamic : Bool) → record d { maybe_code = x; is_dynamic = l && dynamic } ≡ record d { maybe_code = x; is_dynamic = l && (dynamic && true) }
    by true true = refl
    by true false = refl
    by false dynamic = refl
code_cases d (Some x) t true false l dynamic stands has empty =
    absurd (true≢false (sym has ∙ stands x refl))

-- ---- the type

type_stands : (a : Importing) (so_far : List ImportRecord) (r : ImportRecord) (b : Resolution × Option (List ℕ)) → type_offer a so_far r ≡ Some b → is_nowhere b.0 ≡ false
type_stands a so_far r b e =
    by r.types_text
    (target_of a.resolving r.imported.specifier r.imported.specifier_range Types (if is_runtime r.imported.kind then attribute_of so_far else None))
    (target_stands a.resolving r.imported.specifier r.imported.specifier_range Types (if is_runtime r.imported.kind then attribute_of so_far else None)) e
  where
    first_is : Option (Resolution × Option (List ℕ)) → Bool
    first_is o = is_nowhere (option_map_or (λ p. p.0) o Nowhere)

    chosen : (c : Bool) (t : Resolution) → is_nowhere t ≡ false → (if c then None else Some (t, None)) ≡ Some b → is_nowhere b.0 ≡ false
    chosen true t stands e = absurd (true≢false (sym (ap is_some e)))
    chosen false t stands e = sym (ap (λ o. is_nowhere (option_map_or (λ p. p.0) o Nowhere)) e) ∙ stands

    by : (types : Option TypesText) (t : Resolution) → is_nowhere t ≡ false → type_by a r (code_of a so_far) t types ≡ Some b → is_nowhere b.0 ≡ false
    by (Some types) t stands e = sym (ap (λ o. is_nowhere (option_map_or (λ p. p.0) o Nowhere)) e) ∙ target_stands a.resolving types.text types.range Types None
    by None t stands e =
        chosen (is_runtime r.imported.kind && (same_target (specifier_in t) (specifier_in (code_of a so_far))
        || (r.imported.is_side_effect && is_failure t))) t stands e

type_cases : (d : Dependency) (w : Bool) (o p : Option (Resolution × Option (List ℕ))) → ((x : Resolution × Option (List ℕ)) → o ≡ Some x → is_nowhere x.0 ≡ false)
    → (if w && is_nowhere (option_map_or (λ x. x.0) (if w then o else None) Nowhere)
    then take_offer (record d {
      maybe_type = option_map_or (λ x. x.0) (if w then o else None) Nowhere;
      maybe_deno_types_specifier = option_map_or (λ x. x.1) (if w then o else None) None;
    }) p
    else record d {
      maybe_type = option_map_or (λ x. x.0) (if w then o else None) Nowhere;
      maybe_deno_types_specifier = option_map_or (λ x. x.1) (if w then o else None) None;
    })
    ≡ record d {
      maybe_type = option_map_or (λ x. x.0) (if w then option_or o p else None) Nowhere;
      maybe_deno_types_specifier = option_map_or (λ x. x.1) (if w then option_or o p else None) None;
    }
type_cases d false o p stands = refl
type_cases d true None None stands = refl
type_cases d true None (Some x) stands = refl
type_cases d true (Some x) p stands =
    ap (λ n. if n then take_offer (record d { maybe_type = x.0; maybe_deno_types_specifier = x.1 }) p
    else record d { maybe_type = x.0; maybe_deno_types_specifier = x.1 }) (stands x refl)

-- ---- the whole

-- the dependency of the records with the attribute, the code, and the type of one record more
with_next_attribute : Importing → List ImportRecord → ImportRecord → Dependency
with_next_attribute a rs r = record (dependency_of a rs) { maybe_attribute_type = attribute_of (rs ++ r ∷ []) }

with_next_code : Importing → List ImportRecord → ImportRecord → Dependency
with_next_code a rs r = record (dependency_of a rs) {
  maybe_attribute_type = attribute_of (rs ++ r ∷ []);
  maybe_code = code_of a (rs ++ r ∷ []);
  is_dynamic = is_dynamic a (rs ++ r ∷ []);
}

with_next_type : Importing → List ImportRecord → ImportRecord → Dependency
with_next_type a rs r = record (dependency_of a (rs ++ r ∷ [])) { imports = map (λ x. x.imported) rs }

attribute_step : (a : Importing) (rs : List ImportRecord) (r : ImportRecord) → with_attribute (dependency_of a rs) r ≡ with_next_attribute a rs r
unfolding with_attribute with_next_attribute
attribute_step a rs r =
    ap (λ t. record (dependency_of a rs) { maybe_attribute_type = t })
    (sym (offer_snoc (λ so_far x. attribute_text x.imported.attributes (codes "type")) [] rs r))

code_step : (a : Importing) (rs : List ImportRecord) (r : ImportRecord) → with_code a (with_next_attribute a rs r) r ≡ with_next_code a rs r
unfolding with_code with_next_attribute with_next_code
code_step a rs r =
    code_cases (record (dependency_of a rs) { maybe_attribute_type = attribute_of (rs ++ r ∷ []) })
    (first_offer (code_offer a) [] rs)
    (target_of a.resolving r.imported.specifier r.imported.specifier_range Execution (attribute_of (rs ++ r ∷ [])))
    (is_code a r) (list_any (is_code a) rs)
    (list_all (λ x. not (is_code a x) || x.imported.is_dynamic) rs) r.imported.is_dynamic
    (offers_all (code_offer a) (λ x. is_nowhere x ≡ false) (code_stands a) [] rs)
    (has_code a [] rs) (no_code a rs)
    ∙ (λ i. record (dependency_of a rs) {
      maybe_attribute_type = attribute_of (rs ++ r ∷ []);
      maybe_code = unwrap_or (sym (offer_snoc (code_offer a) [] rs r) i) Nowhere;
      is_dynamic = sym (list_any-append (is_code a) rs (r ∷ [])) i
          && sym (list_all-append (λ x. not (is_code a x) || x.imported.is_dynamic) rs (r ∷ [])) i;
    })

type_step : (a : Importing) (rs : List ImportRecord) (r : ImportRecord) → with_type a (with_next_code a rs r) r ≡ with_next_type a rs r
unfolding with_type with_next_code with_next_type
type_step a rs r =
    type_cases (record (dependency_of a (rs ++ r ∷ [])) { imports = map (λ x. x.imported) rs }) a.with_types
    (first_offer (type_offer a) [] rs) (type_offer a (rs ++ r ∷ []) r)
    (offers_all (type_offer a) (λ x. is_nowhere x.0 ≡ false) (type_stands a) [] rs)
    ∙ (λ i. record (dependency_of a (rs ++ r ∷ [])) {
      maybe_type = option_map_or (λ x. x.0) (if a.with_types then sym (offer_snoc (type_offer a) [] rs r) i else None) Nowhere;
      maybe_deno_types_specifier = option_map_or (λ x. x.1) (if a.with_types then sym (offer_snoc (type_offer a) [] rs r) i else None) None;
      imports = map (λ x. x.imported) rs;
    })

import_step : (a : Importing) (rs : List ImportRecord) (r : ImportRecord) → with_import (with_next_type a rs r) r ≡ dependency_of a (rs ++ r ∷ [])
unfolding with_next_type
import_step a rs r =
    ap (λ is. record (dependency_of a (rs ++ r ∷ [])) { imports = is }) (sym (map-append (λ x. x.imported) rs (r ∷ [])))

-- the dependency of a text's records grows as the pass makes it grow
pub grows : (a : Importing) (rs : List ImportRecord) (r : ImportRecord) → grown a (dependency_of a rs) r ≡ dependency_of a (rs ++ r ∷ [])
unfolding grown
grows a rs r =
    ap (λ d. with_import (with_type a (with_code a d r) r) r) (attribute_step a rs r)
    ∙ ap (λ d. with_import (with_type a d r) r) (code_step a rs r)
    ∙ ap (λ d. with_import d r) (type_step a rs r)
    ∙ import_step a rs r
