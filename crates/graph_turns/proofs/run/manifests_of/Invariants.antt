-- Those that are read and those of what is left are all.
use Rattle.std.proofs.Common.{◌≡◌}
use Rattle.std.specs.Prelude.{fold}
use Rattle.graph_turns.specs.Machine.Runs.{manifests_read, with_read}
use Rattle.graph_turns.proofs.run.manifests_of.Given as goal

abbrev pub invariant-loop-nv : goal.invariant-loop-nv
invariant-loop-nv l = manifests_read l.files ≡ fold with_read l.manifests l.nv-iterator
