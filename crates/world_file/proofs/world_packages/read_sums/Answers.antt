use Rattle.std.proofs.Common.{◌≡◌, ◌++◌, Some, option_map, string_bytes, sym, ap, ◌∙◌}
use Rattle.spec_base.specs.Shown.{shown}
use Rattle.world_file.specs.WorldPackages.{package_nv, package_sums}
use Rattle.world_file.proofs.PackageLemmas.{sums_pushed}
use Rattle.world_file.proofs.world_packages.read_sums.Goals as goal

pub loop-text-preserved : goal.loop-text-preserved
loop-text-preserved c =
    let l = c.loop-text in
    let step = ap (λ es. option_map (λ sums. l.sums ++ sums) (package_sums (shown es))) c.in-Some.ensures.steps in
    let named : package_nv (string_bytes c.in-Some.text.now) ≡ Some c.in_ok-nv.nv = ap package_nv (sym c.as_str.ensures.value) ∙ c.in_ok-nv.ensures in
    rw c.in_ok-push.ensures.ok (rw c.in_ok-try_clone.ensures (l.invariant ∙ step ∙ sums_pushed (string_bytes c.in-Some.text.now) c.in-Some.sum.now (shown c.next.new.self) c.in_ok-nv.nv l.sums named))
