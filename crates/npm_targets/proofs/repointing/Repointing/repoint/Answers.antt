use Rattle.std.proofs.Common.{◌≡◌, ◌++◌, List, ap, sym, subst, ◌∙◌}
use Rattle.std.specs.Prelude.{filter, flat_map}
use Rattle.std.specs.FinMap as finite
use Rattle.std.specs.List.{All}
use Rattle.std.proofs.lemmas.List.Elements.{All-nil}
use Rattle.graph_core.specs.declared.graph.ModuleGraph.{ModuleGraph}
use Rattle.module_slots.specs.declared.load.Load.{Load}
use Rattle.npm_targets.specs.Edges.{all_loads_again, is_npm, repointing}
use Rattle.npm_targets.specs.Graphs.{IsFromOutset, left_redirects, root_loads, slot_loads}
use Rattle.npm_targets.proofs.repointing.Repointing.repoint.Goals as goal

pub returns-clause-loads : goal.returns-clause-loads
returns-clause-loads g c = λ told.
    let how = repointing g.U.JsrUrlProvider.meaning g.R.Resolver.meaning c.args.self.now in
    let of_slots : List Load = flat_map (λ e. slot_loads how e.1) (finite.entries c.args.graph.now.slots) in
    let of_imports : List Load = flat_map (λ e. all_loads_again how e.1.dependencies) c.args.graph.now.imports in
    let rest = c.in_ok-repoint_slots.ensures.rest in
    let after_slots : c.repoint_slots.new.loads.items ≡ of_slots = c.in_ok-repoint_slots.ensures.loads told ∙ ap (λ ls. ls ++ of_slots) c.new-loads.ensures.items in
    let after_imports : c.repoint_imports.new.loads.items ≡ of_slots ++ of_imports =
    c.in_ok-repoint_imports.ensures.loads told ∙ (λ i. after_slots i ++ flat_map (λ e. all_loads_again how e.1.dependencies) (rest i).imports) in
    c.in_ok-repoint_roots.ensures.loads told
    ∙ (λ i. after_imports i ++ flat_map (root_loads how (c.in_ok-range.ensures i)) (filter is_npm (rest i).roots))

pub returns-clause-rest : goal.returns-clause-rest
returns-clause-rest g c =
    let rest = c.in_ok-repoint_slots.ensures.rest in
    let redirects = c.remove_redirects.ensures ∙ ap (λ (u : ModuleGraph). left_redirects u.redirects) rest in
    record {
      rest = λ i. record {
        roots = c.repoint_roots.new.roots;
        imports = c.repoint_imports.new.imports;
        redirects = redirects i;
        has_node_specifier = (rest i).has_node_specifier;
        packages = (rest i).packages;
        npm_dep_graph_result = (rest i).npm_dep_graph_result;
        kind = (rest i).kind;
        slots = c.repoint_slots.new.graph.slots;
      };
      slots = c.in_ok-repoint_slots.ensures.left;
      outset =
          c.in_ok-repoint_roots.ensures.outset (c.in_ok-repoint_imports.ensures.outset
          (c.in_ok-repoint_slots.ensures.outset (subst (All IsFromOutset) (sym c.new-loads.ensures.items) (All-nil IsFromOutset))));
    }
