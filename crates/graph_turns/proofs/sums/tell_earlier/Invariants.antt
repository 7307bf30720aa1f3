-- What the locker knew it still knows, with what is left to tell it knows all that it is to know, and it is told nothing else.
use Rattle.std.proofs.Common.{◌≡◌, ℕ, List, Some}
use Rattle.std.specs.Option.{option_or}
use Rattle.std.specs.FinMap as finite
use Rattle.std.specs.FinMap.{find}
use Rattle.semver_npm.specs.Orders.{nv_cmp}
use Rattle.semver_npm.specs.declared.package.PackageNv.{PackageNv}
use Rattle.graph_turns.proofs.sums.tell_earlier.Given as goal

abbrev pub invariant-loop-nv : goal.invariant-loop-nv
invariant-loop-nv g l = record {
  kept : (nv : PackageNv) (sum : List ℕ) → finite.get (g.L.Locker.manifests l.fn.locker) nv ≡ Some sum → finite.get (g.L.Locker.manifests l.locker) nv ≡ Some sum;
  taught : (nv : PackageNv) → option_or (finite.get (g.L.Locker.manifests l.locker) nv) (find nv_cmp nv l.nv-iterator) ≡ option_or (finite.get (g.L.Locker.manifests l.fn.locker) nv) (finite.get l.manifests nv);
  others : g.L.Locker.remote l.locker ≡ g.L.Locker.remote l.fn.locker;
}
