-- What an iterator over a list gives is the list.
use Rattle.std.proofs.Common.{◌≡◌, Bor, Iter, List, map}
use Rattle.std.specs.Iterator.{Drains}
use Rattle.std.proofs.iter.Yields.{fronts, gives_Drains, slice_gives}

pub slice_drained : {A : Type 0} (s : Iter A) (vs : List (Bor A)) → Drains fronts s vs → map (λ v. v.now) vs ≡ s.rest.now
slice_drained s vs d = gives_Drains fronts (λ y. y.now) vs s.rest.now s (slice_gives s) d
