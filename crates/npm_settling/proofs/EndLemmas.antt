-- How `npm:` specifiers get their slots at the end: what is listed for a requirement that was asked for, and some specifiers after others.
use Rattle.std.proofs.Common.{◌≡◌, ℕ, ◌+◌, ◌<◌, ◌++◌, ◌||◌, ◌&&◌, ◌∙◌, List, [], ◌∷◌, map, Bool, true, false, cond, if◌then◌else◌, Option, Some, None, Ok, refl, sym, ap, subst, ⊎_elim, get_or, length, take}
use Rattle.std.specs.List.{find, list_any}
use Rattle.std.specs.Prelude.{fold, zip, bytes_eq, is_some, not, IfSome, Result, ⊤}
use Rattle.std.proofs.lemmas.Bool.{true≢false, or_cases}
use Rattle.std.proofs.lemmas.Grind.{fold-append}
use Rattle.std.proofs.lemmas.List.{map-append, take_more}
use Rattle.std.proofs.lemmas.List.Folds.{list_any-append}
use Rattle.std.proofs.lemmas.Slice.Eq.{bytes_eq-Decides}
use Rattle.spec_base.specs.Options.{by_option}
use Rattle.spec_base.specs.declared.refusal.Fault.{Fault}
use Rattle.semver_npm.specs.declared.package.PackageReq.{PackageReq}
use Rattle.npm_resolver.specs.Results.{listed_result, npm_answer, same_requirement}
use Rattle.npm_resolver.specs.declared.types.NpmResolvePkgReqsResult.{NpmResolvePkgReqsResult}
use Rattle.npm_resolver.specs.declared.types.NpmTable.{NpmTable}
use Rattle.graph_core.specs.Graph.{has_slot, with_slot}
use Rattle.graph_core.specs.declared.graph.ModuleGraph.{ModuleGraph}
use Rattle.graph_core.specs.Npm.{dynamic_npm, is_none, listed_npm, npm_order, npm_put, npm_put_all, npm_requirements, static_npm, told_npm, told_npm_graph, told_npm_results, asks_npm_graph, with_npm_graph, with_requirement, ArePut, AreSettledTogether, IsNpmSettled, IsStaticAnswer, NpmResult, npm_result, npm_slot, whole_result}
use Rattle.module_slots.specs.declared.npm_load.NpmLoad.{NpmLoad}

-- ---- requirements

and_both : (a b : Bool) → (a && b) ≡ true → (a ≡ true) × (b ≡ true)
and_both true b e = (refl, e)
and_both false b e = absurd (true≢false (sym e))

-- the same by name and text is the same
pub same_parts : (a b : PackageReq) → a.name ≡ b.name → a.version_req ≡ b.version_req → a ≡ b
same_parts a b name text = ap (λ n. record a { name = n }) name ∙ ap (λ v. record b { version_req = v }) text

same_is : (a b : PackageReq) → same_requirement a b ≡ true → a ≡ b
same_is a b e =
    let parts = and_both (bytes_eq a.name b.name) (bytes_eq a.version_req b.version_req) e in
    same_parts a b ((bytes_eq-Decides a.name b.name).0 parts.0) ((bytes_eq-Decides a.version_req b.version_req).0 parts.1)

same_itself : (q : PackageReq) → same_requirement q q ≡ true
same_itself q = ap (λ b. b && bytes_eq q.version_req q.version_req) ((bytes_eq-Decides q.name q.name).1 refl) ∙ (bytes_eq-Decides q.version_req q.version_req).1 refl

-- what is listed for a requirement is what was answered about it, where it was asked for
listed_of : (f : PackageReq → NpmResult) (reqs : List PackageReq) (q : PackageReq) → list_any (same_requirement q) reqs ≡ true → listed_result (map (λ r. (r, f r)) reqs) q ≡ f q
listed_of f [] q e = absurd (true≢false (sym e))
listed_of f (r ∷ reqs) q e = by (listed_of f reqs q) (same_requirement r q) refl
  where
    by : (list_any (same_requirement q) reqs ≡ true → listed_result (map (λ r. (r, f r)) reqs) q ≡ f q) → (b : Bool) → same_requirement r q ≡ b → by_option {A = PackageReq × NpmResult} (cond b (Some (r, f r)) (find (λ e. same_requirement e.0 q) (map (λ r. (r, f r)) reqs))) (Ok tt) (λ e. e.1) ≡ f q
    by rest true t = ap f (same_is r q t)
    by rest false n = ⊎_elim
        (λ t. absurd (true≢false (sym (subst (λ z. same_requirement z q ≡ true) (same_is q r t) (same_itself q)) ∙ n)))
        rest
        (or_cases (same_requirement q r) (list_any (same_requirement q) reqs) e)

had_more : (q r : PackageReq) (reqs : List PackageReq) → list_any (same_requirement q) reqs ≡ true → list_any (same_requirement q) (with_requirement reqs r) ≡ true
had_more q r reqs e = by (list_any (same_requirement r) reqs)
  where
    by : (b : Bool) → list_any (same_requirement q) (if b then reqs else reqs ++ r ∷ []) ≡ true
    by true = e
    by false = list_any-append (same_requirement q) reqs (r ∷ []) ∙ ap (λ b. b || list_any (same_requirement q) (r ∷ [])) e

has_added : (q : PackageReq) (reqs : List PackageReq) → list_any (same_requirement q) (with_requirement reqs q) ≡ true
has_added q reqs = by (list_any (same_requirement q) reqs) refl
  where
    by : (b : Bool) → list_any (same_requirement q) reqs ≡ b → list_any (same_requirement q) (if b then reqs else reqs ++ q ∷ []) ≡ true
    by true e = e
    by false e =
        list_any-append (same_requirement q) reqs (q ∷ []) ∙ ap (λ b. b || list_any (same_requirement q) (q ∷ [])) e
        ∙ ap (λ b. b || false) (same_itself q)

abbrev with_item : List PackageReq → NpmLoad → List PackageReq
with_item reqs item = with_requirement reqs item.reference.inner.req

kept_through : (q : PackageReq) (items : List NpmLoad) (reqs : List PackageReq) → list_any (same_requirement q) reqs ≡ true → list_any (same_requirement q) (fold with_item reqs items) ≡ true
kept_through q [] reqs e = e
kept_through q (i ∷ is) reqs e = kept_through q is (with_item reqs i) (had_more q i.reference.inner.req reqs e)

-- what is listed for those that were asked for is what was answered about each
listed_all : (f : PackageReq → NpmResult) (items : List NpmLoad) (reqs all : List PackageReq) → all ≡ fold with_item reqs items → listed_npm (map (λ r. (r, f r)) all) items ≡ map (λ item. (item, f item.reference.inner.req)) items
listed_all f [] reqs all are = refl
listed_all f (i ∷ is) reqs all are =
    let q = i.reference.inner.req in
    let here = listed_of f all q (subst (λ a. list_any (same_requirement q) a ≡ true) (sym are) (kept_through q is (with_item reqs i) (has_added q reqs))) in
    ap (λ r. (i, r) ∷ listed_npm (map (λ r. (r, f r)) all) is) here ∙ ap (λ l. (i, f q) ∷ l) (listed_all f is (with_item reqs i) all are)

-- ---- what a resolver answers

zip_map : (f : PackageReq → NpmResult) (reqs : List PackageReq) → zip reqs (map f reqs) ≡ map (λ r. (r, f r)) reqs
zip_map f [] = refl
zip_map f (r ∷ reqs) = ap (λ l. (r, f r) ∷ l) (zip_map f reqs)

-- about requirements that are asked for together
pub answered_together : (table : Option NpmTable) (items : List NpmLoad) (reqs : List PackageReq) (answer : NpmResolvePkgReqsResult) (results : List (PackageReq × NpmResult)) (graph : Result ⊤ Fault) → reqs ≡ npm_requirements items → results ≡ zip reqs answer.results → graph ≡ answer.dep_graph_result → IfSome table (λ t. answer ≡ npm_answer t reqs) → IfSome table (λ t. IsStaticAnswer t items results graph)
answered_together None items reqs answer results graph are with_results with_graph said = tt
answered_together (Some t) items reqs answer results graph are with_results with_graph said = record {
  results_are = with_results ∙ ap (λ a. zip reqs a.results) said ∙ zip_map (listed_result t.packages) reqs ∙ ap (map (λ r. (r, listed_result t.packages r))) are;
  graph_is = with_graph ∙ ap (λ a. a.dep_graph_result) said;
}

none_behind : (rest : List NpmResult) (y : NpmResult) → [] ≡ rest ++ y ∷ [] → ⊥
none_behind [] y e = cc
none_behind (z ∷ rest) y e = cc

only_one : (rest : List NpmResult) (x y : NpmResult) → x ∷ [] ≡ rest ++ y ∷ [] → y ≡ x
only_one [] x y e = cc
only_one (z ∷ rest) x y e = absurd (none_behind rest y cc)

-- about one that is asked for alone
pub answered_alone : (table : Option NpmTable) (reqs : List PackageReq) (req : PackageReq) (answer : NpmResolvePkgReqsResult) (all rest : List NpmResult) (resolved r : NpmResult) → reqs ≡ req ∷ [] → all ≡ answer.results → all ≡ rest ++ resolved ∷ [] → r ≡ whole_result answer.dep_graph_result resolved → IfSome table (λ t. answer ≡ npm_answer t reqs) → IfSome table (λ t. r ≡ npm_result t req true)
answered_alone None reqs req answer all rest resolved r one are last is said = tt
answered_alone (Some t) reqs req answer all rest resolved r one are last is said =
    let named : all ≡ listed_result t.packages req ∷ [] = are ∙ ap (λ a. a.results) said ∙ ap (map (listed_result t.packages)) one in
    is ∙ ap (λ a. whole_result a.dep_graph_result resolved) said
    ∙ ap (whole_result t.graph) (only_one rest (listed_result t.packages req) resolved (sym named ∙ last))

-- ---- some after others

pub each_given : (f : NpmLoad → NpmResult) (items : List NpmLoad) → map (λ (e : NpmLoad × NpmResult). e.0) (map (λ item. (item, f item)) items) ≡ items
each_given f [] = refl
each_given f (i ∷ is) = ap (λ l. i ∷ l) (each_given f is)

-- one more gets its slot
pub put_more : (table : Option NpmTable) (dynamic : Bool) (old g new : ModuleGraph) (items : List NpmLoad) (item : NpmLoad) (r : NpmResult) → ArePut table dynamic old items g → new ≡ npm_put g (item, r) → IfSome table (λ t. new ≡ npm_put g (item, npm_result t item.reference.inner.req dynamic)) → ArePut table dynamic old (items ++ item ∷ []) new
put_more table dynamic old g new items item r put is told = record {
  results = put.results ++ (item, r) ∷ [];
  each = map-append (λ e. e.0) put.results ((item, r) ∷ []) ∙ ap (λ l. l ++ item ∷ []) put.each;
  is = is ∙ ap (λ x. npm_put x (item, r)) put.is ∙ sym (fold-append npm_put old put.results ((item, r) ∷ []));
  told = by table put.told told;
}
  where
    by : (o : Option NpmTable) → IfSome o (λ t. g ≡ npm_put_all old (told_npm t dynamic items)) → IfSome o (λ t. new ≡ npm_put g (item, npm_result t item.reference.inner.req dynamic)) → IfSome o (λ t. new ≡ npm_put_all old (told_npm t dynamic (items ++ item ∷ [])))
    by None before now = tt
    by (Some t) before now =
        let one : NpmLoad × NpmResult = (item, npm_result t item.reference.inner.req dynamic) in
        now ∙ ap (λ x. npm_put x one) before
        ∙ sym (ap (npm_put_all old) (map-append (λ i. (i, npm_result t i.reference.inner.req dynamic)) items (item ∷ [])) ∙ fold-append npm_put old (told_npm t dynamic items) (one ∷ []))

-- one more has a slot already
pub put_none : (table : Option NpmTable) (dynamic : Bool) (old g : ModuleGraph) (items : List NpmLoad) (item : NpmLoad) → ArePut table dynamic old items g → has_slot g item.specifier ≡ true → ArePut table dynamic old (items ++ item ∷ []) g
put_none table dynamic old g items item put there = put_more table dynamic old g g items item (Ok tt) put (stays (Ok tt)) (by table)
  where
    stays : (r : NpmResult) → g ≡ npm_put g (item, r)
    stays r = sym (ap (λ b. if b then g else with_slot g item.specifier (npm_slot item.specifier item.context item.reference r)) there)

    by : (o : Option NpmTable) → IfSome o (λ t. g ≡ npm_put g (item, npm_result t item.reference.inner.req dynamic))
    by None = tt
    by (Some t) = stays (npm_result t item.reference.inner.req dynamic)

module _ (table : Option NpmTable) (dynamic : Bool) (old g : ModuleGraph) (items : List NpmLoad) (i : ℕ) (item : NpmLoad) (below : i < length items) (at : item ≡ get_or items i item) (put : ArePut table dynamic old (take i items) g) where
  here : take i items ++ item ∷ [] ≡ take (i + 1) items
  here = ap (λ x. take i items ++ x ∷ []) at ∙ sym (take_more items i item below)

  -- those up to the next one
  pub taken_more : (new : ModuleGraph) (q : PackageReq) (r : NpmResult) → new ≡ npm_put g (item, r) → q ≡ item.reference.inner.req → IfSome table (λ t. r ≡ npm_result t q dynamic) → ArePut table dynamic old (take (i + 1) items) new
  taken_more new q r is named told = subst (λ l. ArePut table dynamic old l new) here (put_more table dynamic old g new (take i items) item r put is (by table told))
    where
      by : (o : Option NpmTable) → IfSome o (λ t. r ≡ npm_result t q dynamic) → IfSome o (λ t. new ≡ npm_put g (item, npm_result t item.reference.inner.req dynamic))
      by None said = tt
      by (Some t) said = is ∙ ap (λ x. npm_put g (item, x)) (said ∙ ap (λ z. npm_result t z dynamic) named)

  pub taken_none : has_slot g item.specifier ≡ true → ArePut table dynamic old (take (i + 1) items) g
  taken_none there = subst (λ l. ArePut table dynamic old l g) here (put_none table dynamic old g (take i items) item put there)

-- those that were asked for together
pub put_listed : (table : Option NpmTable) (old new : ModuleGraph) (items : List NpmLoad) (results : List (PackageReq × NpmResult)) (graph : Result ⊤ Fault) → IfSome table (λ t. IsStaticAnswer t items results graph) → new ≡ npm_put_all (with_npm_graph old (Some graph)) (listed_npm results items) → AreSettledTogether table old items new
put_listed table old new items results graph answered is = record {
  graph = graph;
  put = record {
    results = listed_npm results items;
    each = each_given (λ item. listed_result results item.reference.inner.req) items;
    is = is;
    told = by_results table answered;
  };
  graph_is = by_graph table answered;
}
  where
    by_results : (o : Option NpmTable) → IfSome o (λ t. IsStaticAnswer t items results graph) → IfSome o (λ t. new ≡ npm_put_all (with_npm_graph old (Some graph)) (told_npm t false items))
    by_results None a = tt
    by_results (Some t) a = is ∙ ap (npm_put_all (with_npm_graph old (Some graph)))
        (ap (λ l. listed_npm l items) a.results_are ∙ listed_all (listed_result t.packages) items [] (npm_requirements items) refl)

    by_graph : (o : Option NpmTable) → IfSome o (λ t. IsStaticAnswer t items results graph) → IfSome o (λ t. graph ≡ t.graph)
    by_graph None a = tt
    by_graph (Some t) a = a.graph_is

-- ---- all that wait

module _ (table : Option NpmTable) (items : List NpmLoad) (old : ModuleGraph) where
  -- those that aren't met behind a dynamic import, and then those that are
  pub settled_both : (middle new : ModuleGraph) → asks_npm_graph items ≡ true → AreSettledTogether table old (static_npm items) middle → ArePut table true middle (dynamic_npm items) new → IsNpmSettled table items old new
  settled_both middle new asks first after = record {
    results = first.put.results ++ after.results;
    graph = Some first.graph;
    each = map-append (λ e. e.0) first.put.results after.results ∙ ap (λ l. l ++ map (λ e. e.0) after.results) first.put.each ∙ ap (λ l. static_npm items ++ l) after.each;
    asks = sym asks;
    is = after.is ∙ ap (λ g. npm_put_all g after.results) first.put.is ∙ sym (fold-append npm_put (with_npm_graph old (Some first.graph)) first.put.results after.results);
    told = by table first.put.told after.told first.graph_is;
  }
    where
      by : (o : Option NpmTable) → IfSome o (λ t. middle ≡ npm_put_all (with_npm_graph old (Some first.graph)) (told_npm t false (static_npm items))) → IfSome o (λ t. new ≡ npm_put_all middle (told_npm t true (dynamic_npm items))) → IfSome o (λ t. first.graph ≡ t.graph) → IfSome o (λ t. new ≡ npm_put_all (with_npm_graph old (told_npm_graph t items)) (told_npm_results t items))
      by None a b g = tt
      by (Some t) a b g =
          b ∙ ap (λ m. npm_put_all m (told_npm t true (dynamic_npm items))) (a ∙ ap (λ r. npm_put_all (with_npm_graph old (Some r)) (told_npm t false (static_npm items))) g)
          ∙ sym (fold-append npm_put (with_npm_graph old (Some t.graph)) (told_npm t false (static_npm items)) (told_npm t true (dynamic_npm items)))
          ∙ sym (ap (λ o. npm_put_all (with_npm_graph old o) (told_npm_results t items)) (ap (λ b. if b then Some t.graph else None) asks))

  -- those that are alone
  pub settled_dynamic : (new : ModuleGraph) → asks_npm_graph items ≡ false → static_npm items ≡ [] → ArePut table true old (dynamic_npm items) new → IsNpmSettled table items old new
  settled_dynamic new asks none put = record {
    results = put.results;
    graph = None;
    each = put.each ∙ ap (λ l. l ++ dynamic_npm items) (sym none);
    asks = sym asks;
    is = put.is;
    told = by table put.told;
  }
    where
      by : (o : Option NpmTable) → IfSome o (λ t. new ≡ npm_put_all old (told_npm t true (dynamic_npm items))) → IfSome o (λ t. new ≡ npm_put_all (with_npm_graph old (told_npm_graph t items)) (told_npm_results t items))
      by None a = tt
      by (Some t) a =
          a ∙ ap (λ l. npm_put_all old (told_npm t false l ++ told_npm t true (dynamic_npm items))) (sym none)
          ∙ sym (ap (λ o. npm_put_all (with_npm_graph old o) (told_npm_results t items)) (ap (λ b. if b then Some t.graph else None) asks))

  no_static : (l : List NpmLoad) → is_none l ≡ true → l ≡ []
  no_static [] e = refl
  no_static (i ∷ is) e = absurd (true≢false (sym e))

  -- where the graph of all packages isn't asked about, all are behind dynamic imports
  pub none_static : asks_npm_graph items ≡ false → static_npm items ≡ []
  none_static asks = no_static (static_npm items) (by (is_none (static_npm items)) (is_none (dynamic_npm items)) asks)
    where
      by : (a b : Bool) → not a || b ≡ false → a ≡ true
      by true b e = refl
      by false b e = absurd (true≢false e)

  -- the same where both are told to be these
  module _ (statics dynamics : List NpmLoad) (are_static : statics ≡ static_npm items) (are_dynamic : dynamics ≡ dynamic_npm items) (asks : Bool) (asks_is : asks ≡ (not (is_none statics) || is_none dynamics)) where
    asks_so : asks_npm_graph items ≡ asks
    asks_so = sym (asks_is ∙ ap (λ l. not (is_none l) || is_none dynamics) are_static ∙ ap (λ l. not (is_none (static_npm items)) || is_none l) are_dynamic)

    pub settled_with : (middle new : ModuleGraph) → asks ≡ true → AreSettledTogether table old statics middle → ArePut table true middle dynamics new → IsNpmSettled table items old new
    settled_with middle new true_so first after = settled_both middle new (asks_so ∙ true_so)
        (subst (λ l. AreSettledTogether table old l middle) are_static first)
        (subst (λ l. ArePut table true middle l new) are_dynamic after)

    pub settled_without : (new : ModuleGraph) → asks ≡ false → ArePut table true old dynamics new → IsNpmSettled table items old new
    settled_without new false_so put = settled_dynamic new (asks_so ∙ false_so) (none_static (asks_so ∙ false_so)) (subst (λ l. ArePut table true old l new) are_dynamic put)
