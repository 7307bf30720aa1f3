use Rattle.std.proofs.Common.{◌≡◌, ℕ, List, Option, Some, sym, subst}
use Rattle.source_io.specs.declared.types.World.{World}
use Rattle.build_options.specs.Telling.{Telling, Tells}
use Rattle.graph_store.specs.declared.entry.StoreEntry.{StoreEntry}
use Rattle.graph_store.specs.Worlds.{store_world}
use Rattle.graph_turns.specs.Machine.Known.{Known}
use Rattle.graph_turns.specs.Promise.Told.{Told}
use Rattle.store_turns.proofs.twice.by_bytes.Goals as goal

-- by the entries that were read
read_tells : (es read : List StoreEntry) (n : ℕ) (telling : Telling) (known : Known) (told : Told) → read ≡ es → Tells (Some (store_world es n)) telling known told → Tells (Some (store_world read n)) telling known told
read_tells es read n telling known told same tells = subst (λ (x : List StoreEntry). Tells (Some (store_world x n)) telling known told) (sym same) tells

pub returns-in-Ok-replay : goal.returns-in-Ok-replay
returns-in-Ok-replay g c = λ told graph sums own put tells npm turned within writable.
    let here = read_tells _ _ c.args.max_redirects _ _ told (c.in-Ok.ensures.same writable) tells in
    let same = c.in-Ok-replay.ensures.same told graph sums own put here npm turned in
    record { graph_is = same.0; questions = same.1 }

pub returns-in-Ok : goal.returns-in-Ok
returns-in-Ok g c = λ told graph sums own put tells npm turned within writable.
    let here = read_tells _ _ c.args.max_redirects _ _ told (c.in-Ok.ensures.same writable) tells in
    c.in-Err-replay.ensures.memory told graph sums own put here turned within
