-- What the locker knew it still knows, with what is left to tell it knows all that it is to know, and it is told nothing else. What
-- is left is in order, so that each version is told once.
use Rattle.std.proofs.Common.{◌≡◌, ℕ, List, Some}
use Rattle.std.specs.Prelude.{T}
use Rattle.std.specs.Option.{option_or}
use Rattle.std.specs.FinMap as finite
use Rattle.std.specs.FinMap.{find, is_sorted}
use Rattle.semver_npm.specs.Orders.{nv_cmp}
use Rattle.semver_npm.specs.declared.package.PackageNv.{PackageNv}
use Rattle.graph_turns.specs.Machine.Sums.{file_sum}
use Rattle.graph_turns.proofs.sums.tell_manifests.Given as goal

abbrev pub invariant-loop-nv : goal.invariant-loop-nv
invariant-loop-nv g l = record {
  kept : (nv : PackageNv) (sum : List ℕ) → finite.get (g.L.Locker.manifests l.fn.locker) nv ≡ Some sum → finite.get (g.L.Locker.manifests l.locker) nv ≡ Some sum;
  taught : (nv : PackageNv) → option_or (finite.get (g.L.Locker.manifests l.locker) nv) (file_sum (find nv_cmp nv l.nv-iterator)) ≡ option_or (finite.get (g.L.Locker.manifests l.fn.locker) nv) (file_sum (finite.get l.files nv));
  in_order : T (is_sorted nv_cmp l.nv-iterator);
  others : g.L.Locker.remote l.locker ≡ g.L.Locker.remote l.fn.locker;
}
