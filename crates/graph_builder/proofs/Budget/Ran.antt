-- What a run of turns keeps, what holds at its end, and which fault is left then.
pub use Rattle.graph_builder.proofs.Budget.Orderly.{IsRunFrom, Ordered, Orderly, begun_in, complete_end, complete_from, entry_is, first_run, is_first, only_entry, ordered, ordered_from, over_in, run_in}
pub use Rattle.graph_builder.proofs.Budget.Asked.{PutIn, asks_in_runs, put_in}
pub use Rattle.graph_builder.proofs.Budget.Reaching.{Reaching, ReachingBuild, ReachingIn, ReachingOnce, once_due, reaching, reaching_once}
pub use Rattle.graph_builder.proofs.Budget.Room.{no_room, no_room_once}
use Rattle.std.proofs.Common.{◌≡◌, ℕ, Option, Some, refl, subst}
use Rattle.std.specs.Prelude.{IfSome}
use Rattle.source_io.specs.declared.types.World.{World}
use Rattle.open_loads.specs.declared.fault.BuildFault.{BuildFault}
use Rattle.open_loads.specs.declared.fault.BuildFault.TheVariants as fault
use Rattle.graph_turns.specs.Promise.Told.{Told}

-- where a loader tells a world, it follows as many redirects as that says
pub most_told : (loader : Option World) (w : Told) (most : ℕ) → loader ≡ Some w.world → IfSome loader (λ v. most ≡ v.max_redirects) → most ≡ w.world.max_redirects
most_told loader w most told h = subst (λ o. IfSome o (λ v. most ≡ v.max_redirects)) told h

-- the one fault that is left
pub memory_left : (f : BuildFault) → (f ≡ fault.Budget → ⊥) → (f ≡ fault.Loader → ⊥) → f ≡ fault.Memory
memory_left fault.Memory b l = refl
memory_left fault.Budget b l = absurd (b refl)
memory_left fault.Loader b l = absurd (l refl)
