use Rattle.std.proofs.Common.{rules, ◌≡◌}
use Rattle.graph_core.proofs.graph.ModuleGraph.try_clone.Goals as goal

pub returns : goal.returns
returns c =
    let npm : c.in_ok-npm_dep_graph_result.npm_dep_graph_result ≡ c.args.self.now.npm_dep_graph_result = search rules in
    λ i. record {
      roots = c.in_ok-roots.ensures i;
      imports = c.in_ok-imports.ensures i;
      redirects = c.in_ok-redirects.ensures i;
      has_node_specifier = c.args.self.now.has_node_specifier;
      packages = c.in_ok-packages.ensures i;
      npm_dep_graph_result = npm i;
      kind = c.args.self.now.kind;
      slots = c.in_ok-slots.ensures i;
    }
