-- What the locker knew it still knows, with what is left to tell it knows all that it is to know, and it is told nothing else.
use Rattle.std.proofs.Common.{◌≡◌, ℕ, List, Some}
use Rattle.std.specs.Option.{option_or}
use Rattle.std.specs.FinMap as finite
use Rattle.std.specs.FinMap.{find}
use Rattle.spec_base.specs.Shown.{text_cmp}
use Rattle.spec_base.specs.Specifier.{by_text}
use Rattle.graph_turns.proofs.sums.tell_all.Given as goal

abbrev pub invariant-loop-specifier : goal.invariant-loop-specifier
invariant-loop-specifier g l = record {
  kept : (k sum : List ℕ) → finite.get (g.L.Locker.remote l.fn.locker) k ≡ Some sum → finite.get (g.L.Locker.remote l.locker) k ≡ Some sum;
  taught : (k : List ℕ) → option_or (finite.get (g.L.Locker.remote l.locker) k) (find text_cmp k (by_text l.specifier-iterator)) ≡ option_or (finite.get (g.L.Locker.remote l.fn.locker) k) (finite.get l.sums k);
  others : g.L.Locker.manifests l.locker ≡ g.L.Locker.manifests l.fn.locker;
}
