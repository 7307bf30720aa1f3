-- Where a build of the empty graph begins, and that this is what was given.
use Rattle.std.proofs.Common.{◌≡◌, List, [], ◌∷◌, ◌++◌, map, Bool, true, false, cond, ◌||◌, if◌then◌else◌, Option, None, Some, is_some, refl, sym, ap, ◌∙◌}
use Rattle.std.specs.Prelude.{IfSome}
use Rattle.std.specs.List.{list_any}
use Rattle.std.specs.Map.{lookup}
use Rattle.indexmap.proofs.SetLemmas.{keys_insert_entry}
use Rattle.indexmap.specs.IndexMap.{insert_entry}
use Rattle.indexmap.specs.IndexSet.{insert_all, insert_key}
use Rattle.url.specs.Parts.{Parts}
use Rattle.spec_base.specs.Specifier.{same_specifier}
use Rattle.import_records.specs.Target.{Resolving}
use Rattle.graph_dependencies.specs.declared.graph_import.GraphImport.{GraphImport}
use Rattle.graph_core.specs.Graph.{new_graph}
use Rattle.graph_dependencies.specs.declared.referrer_imports.ReferrerImports.{ReferrerImports}
use Rattle.graph_turns.specs.declared.unresolved_input.LeftOver.{LeftOver}
use Rattle.graph_turns.specs.declared.starting.ResolvedStart.{ResolvedStart}
use Rattle.graph_turns.specs.Machine.Runs.{begun_over}
use Rattle.graph_turns.specs.Promise.Runs.{left_of}
use Rattle.graph_turns.specs.Promise.Input.{Begins, Given, fresh_entry, imports_of, imports_with, resolved_import, roots_of, start_with, with_import}
use Rattle.graph_turns.specs.Machine.Starting.{IsResolved, told_entry, told_start}
use Rattle.graph_turns.specs.Machine.Turns.{begun}
use Rattle.graph_turns.specs.Promise.Told.{Told}

-- over the empty graph, turns begin where a build of what is given does
pub begun_told : (w : Told) (given : Given) → begun_over w.known (new_graph given.kind) (told_start w (left_of given)) ≡ begun w given
begun_told w given = refl

-- a build over the empty graph enters it as one of what is given
pub fresh_told : (w : Told) (given : Given) → told_entry w (new_graph given.kind) (left_of given) ≡ fresh_entry w given
fresh_told w given = refl

-- resolving keeps the referrers
same_referrers : (m : Resolving) (given : List ReferrerImports) → map (λ i. i.0) (map (resolved_import m) given) ≡ map (λ i. i.referrer) given
same_referrers m [] = refl
same_referrers m (i ∷ is) = ap (λ (l : List Parts). i.referrer ∷ l) (same_referrers m is)

pub told_resolved : (w : Told) (left : LeftOver) → IsResolved (Some w.resolving) left (told_start w left)
told_resolved w left = record { roots_are = refl; referrers_are = same_referrers w.resolving left.imports; imports_are = refl }

-- ---- the referrers of a start

abbrev Imports : Type 0
Imports = List (Parts × GraphImport)

abbrev referrers : Imports → List Parts
referrers imports = map (λ i. i.0) imports

-- imports stand under a referrer that is known
known_referrer : (es : Imports) (k : Parts) → is_some (lookup (same_specifier k) es) ≡ list_any (same_specifier k) (referrers es)
known_referrer [] k = refl
known_referrer (e ∷ es) k = by (same_specifier k e.0) (known_referrer es k)
  where
    by : (b : Bool) → is_some (lookup (same_specifier k) es) ≡ list_any (same_specifier k) (referrers es) → is_some (cond b (Some e.1) (lookup (same_specifier k) es)) ≡ (b || list_any (same_specifier k) (referrers es))
    by true rest = refl
    by false rest = rest

-- a referrer stays away where it is known, else it goes last
one_referrer : (es : Imports) (e : Parts × GraphImport) → referrers (with_import es e) ≡ insert_key same_specifier (referrers es) e.0
one_referrer es e = by (is_some (lookup (same_specifier e.0) es)) refl
  where
    by : (b : Bool) → is_some (lookup (same_specifier e.0) es) ≡ b → referrers (if b then es else insert_entry same_specifier es e.0 e.1) ≡ insert_key same_specifier (referrers es) e.0
    by true t = sym (ap (λ c. if c then referrers es else referrers es ++ e.0 ∷ []) (sym (known_referrer es e.0) ∙ t))
    by false f = keys_insert_entry same_specifier es e.0 e.1

all_referrers : (old given : Imports) → referrers (imports_with old given) ≡ insert_all same_specifier (referrers old) (referrers given)
all_referrers old [] = refl
all_referrers old (e ∷ es) = all_referrers (with_import old e) es ∙ ap (λ l. insert_all same_specifier l (referrers es)) (one_referrer old e)

-- what was left over with its imports resolved begins what was given
pub begins_of : (resolver : Option Resolving) (given : Given) (start : ResolvedStart) → IsResolved resolver (left_of given) start → Begins resolver given (start_with given.kind start.roots start.imports)
begins_of resolver given start resolved = record {
  kind_is = refl;
  roots_are = ap roots_of resolved.roots_are;
  referrers_are = all_referrers [] start.imports ∙ ap (insert_all same_specifier []) resolved.referrers_are;
  imports_are = told resolver resolved.imports_are;
}
  where
    told : (r : Option Resolving) → IfSome r (λ m. start.imports ≡ map (resolved_import m) given.imports) → IfSome r (λ m. imports_with [] start.imports ≡ imports_of m given.imports)
    told None is = tt
    told (Some m) is = ap (imports_with []) is
