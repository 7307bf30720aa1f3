-- What was found and the findings make a report.
use Rattle.std.proofs.Common.{◌≡◌, ℕ, suc, List, [], ◌∷◌, map, length, reverse, true, false, cond, refl, sym, ap, ◌∙◌, subst, inl, inr, ⊎_elim, arith}
use Rattle.std.specs.Borrow.{Bor}
use Rattle.std.specs.List.Sorted.{IsSorted, IsPermutation}
use Rattle.std.specs.Prelude.{flat_map}
use Rattle.std.proofs.lemmas.List.{length-map, length-reverse}
use Rattle.std.proofs.lemmas.List.Sorted.{IsPermutation-sym, length_permutation}
use Rattle.url.specs.Parts.{Parts}
use Rattle.spec_base.specs.Shown.{text_cmp}
use Rattle.spec_base.specs.Specifier.{specifier_text}
use Rattle.graph_core.specs.declared.graph.ModuleGraph.{ModuleGraph}
use Rattle.graph_walk.specs.Lent.{lent_texts}
use Rattle.graph_walk.specs.Lists.{Text, Among, Distinct}
use Rattle.graph_walk.specs.Options.{How}
use Rattle.graph_walk.specs.Order.{texts}
use Rattle.import_policy.specs.Breaches.{Breach, fits, edge_breaches, breaches_from, breaches}
use Rattle.import_policy.specs.Edges.{Edge, edges, targets}
use Rattle.import_policy.specs.Paths.{IsPath, starts}
use Rattle.import_policy.specs.Reports.{breach_of, IsClosureOf, IsReport}
use Rattle.import_policy.specs.Routes.{Route, ends, way_to, Finds}
use Rattle.import_policy.specs.Traced.{Trace, traced, trace, traces}
use Rattle.import_policy.specs.declared.finding.PolicyFinding.{PolicyFinding}
use Rattle.import_policy.specs.declared.rule.PolicyRule.{PolicyRule}
use Rattle.import_policy.proofs.Closed.{found_within, found_all}
use Rattle.import_policy.proofs.Members.{among_either, among_map, among_source}
use Rattle.import_policy.proofs.Ordered.{permuted, distinct_same}

-- ---- breaches are of the specifiers' edges

from_edge : (place : ℕ) (rules : List PolicyRule) (from : Text) (e : Edge) (b : Breach) → Among b (edge_breaches place rules from e) → b.from ≡ from
from_edge place [] from e b a = absurd a
from_edge place (rule ∷ rules) from e b a =
    let one : Breach = record { rule = place; from = from; edge = e } in
    ⊎_elim
    (λ h. elim (fits rule from e) as (λ t. Among b (cond t (one ∷ []) []) → b.from ≡ from) [
      | true ↦ λ k. ⊎_elim (λ same. ap (λ (x : Breach). x.from) same) absurd k
      | false ↦ λ k. absurd k
    ] h)
    (from_edge (suc place) rules from e b)
    (among_either b (cond (fits rule from e) (one ∷ []) []) (edge_breaches (suc place) rules from e) a)

from_edges : (rules : List PolicyRule) (from : Text) (es : List Edge) (b : Breach) → Among b (flat_map (edge_breaches 0 rules from) es) → b.from ≡ from
from_edges rules from [] b a = absurd a
from_edges rules from (e ∷ es) b a = ⊎_elim (from_edge 0 rules from e b) (from_edges rules from es b) (among_either b (edge_breaches 0 rules from e) _ a)

from_members : (g : ModuleGraph) (o : How) (rules : List PolicyRule) (ss : List Text) (b : Breach) → Among b (breaches g o rules ss) → Among b.from ss
from_members g o rules [] b a = absurd a
from_members g o rules (s ∷ ss) b a = ⊎_elim (λ h. inl (from_edges rules s (edges g o s) b h)) (λ h. inr (from_members g o rules ss b h)) (among_either b (breaches_from g o rules s) _ a)

-- ---- findings beside breaches

told : (fs : List PolicyFinding) → map (λ (t : Trace). t.breach) (map traced fs) ≡ map breach_of fs
told [] = refl
told (f ∷ fs) = ap (λ (l : List Breach). breach_of f ∷ l) (told fs)

untraced : (found : List Route) (bs : List Breach) → map (λ (t : Trace). t.breach) (traces found bs) ≡ bs
untraced found [] = refl
untraced found (b ∷ bs) = ap (λ (l : List Breach). b ∷ l) (untraced found bs)

module _ (g : ModuleGraph) (o : How) (roots : List Text) (rules : List PolicyRule) (found : List Route) (urls : List (Bor Parts)) (fs : List PolicyFinding)
    (finds : Finds (targets g o) (starts g o roots) found) (up : IsSorted text_cmp (lent_texts urls)) (same : IsPermutation (ends found) (lent_texts urls)) (all : map traced fs ≡ traces found (breaches g o rules (lent_texts urls))) where
  in_ends : (s : Text) → Among s (lent_texts urls) → Among s (ends found)
  in_ends s a = permuted (lent_texts urls) (ends found) s (IsPermutation-sym (ends found) (lent_texts urls) same) a

  is_closure : IsClosureOf g o roots (lent_texts urls)
  is_closure = record {
    within = λ s a. found_within g o roots found finds s (in_ends s a);
    all = λ s h. permuted (ends found) (lent_texts urls) s same (found_all g o roots found finds s h);
    order = up;
    once = let l = length_permutation (ends found) (lent_texts urls) same in
        distinct_same (ends found) (lent_texts urls) finds.once (λ s a. permuted (ends found) (lent_texts urls) s same a) (omega arith);
  }

  -- each finding has a path that was found, to a specifier that was found
  record Told (f : PolicyFinding) : Type 0 where
    there : Among (specifier_text f.from) (ends found)
    path : texts f.path ≡ reverse (way_to found (specifier_text f.from))

  told_one : (f : PolicyFinding) → Among f fs → Told f
  told_one f a =
      let s = among_source (trace found) (traced f) (breaches g o rules (lent_texts urls)) (subst (Among (traced f)) all (among_map traced f fs a)) in
      let b = s.of in
      let from : specifier_text f.from ≡ b.from = ap (λ (t : Trace). t.breach.from) s.is in
      let member = from_members g o rules (lent_texts urls) b s.one in
      record {
        there = in_ends (specifier_text f.from) (subst (λ (t : Text). Among t (lent_texts urls)) (sym from) member);
        path = ap (λ (t : Trace). t.path) s.is ∙ ap (λ (t : Text). reverse (way_to found t)) (sym from);
      }

  pub is_report : IsReport g o roots rules fs
  is_report = record {
    specifiers = lent_texts urls;
    closure = is_closure;
    breaches = sym (told fs) ∙ ap (map (λ (t : Trace). t.breach)) all ∙ untraced found (breaches g o rules (lent_texts urls));
    paths = λ f a. let t = told_one f a in subst (λ (p : List Text). IsPath g o roots p (specifier_text f.from)) (sym t.path) (finds.paths (specifier_text f.from) t.there);
    shortest = λ f a p h.
        let t = told_one f a in
        let short = finds.shortest (specifier_text f.from) t.there p h in
        let l = ap length t.path in
        let m = length-map f.path (λ (u : Parts). specifier_text u) in
        let n = length-reverse (way_to found (specifier_text f.from)) in
        omega arith;
  }
