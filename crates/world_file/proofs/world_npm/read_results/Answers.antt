use Rattle.std.proofs.Common.{◌≡◌, ◌++◌, Some, option_map, string_bytes, sym, ap, ◌∙◌}
use Rattle.spec_base.specs.Shown.{shown}
use Rattle.world_file.specs.WorldNpm.{package_req, package_results}
use Rattle.world_file.proofs.PackageLemmas.{results_pushed}
use Rattle.world_file.proofs.world_npm.read_results.Goals as goal

pub loop-text-preserved : goal.loop-text-preserved
loop-text-preserved c =
    let l = c.loop-text in
    let step = ap (λ es. option_map (λ results. l.results ++ results) (package_results (shown es))) c.in-Some.ensures.steps in
    let named : package_req (string_bytes c.in-Some.text.now) ≡ Some c.in_ok-req.req = ap package_req (sym c.as_str.ensures.value) ∙ c.in_ok-req.ensures in
    rw c.in_ok-push.ensures.ok (rw c.in_ok-load_result.ensures (l.invariant ∙ step ∙ results_pushed (string_bytes c.in-Some.text.now) c.in-Some.outcome.now (shown c.next.new.self) c.in_ok-req.req l.results named))
