-- What comes next in a build.
use Rattle.std.specs.Prelude.{List, [], ◌∷◌, Bool, true, false, Option, Some, None, if◌then◌else◌}
use Rattle.graph_turns.specs.declared.next.Next.{Next}
use Rattle.graph_turns.specs.declared.next.Next.TheVariants.{Notes, Load, Wanted, Restart, Item, Versions, Exports, Deferred, Waiting, Dynamic, Content, End}
use Rattle.graph_turns.specs.declared.passes.Pass.{Pass}
use Rattle.graph_turns.specs.declared.state.State.{State}
use Rattle.graph_turns.specs.Machine.Runs.{is_due}

-- this one, where something is there
abbrev pub where_any : {A : Type 0} → List A → Next → Next → Next
where_any [] next rest = rest
where_any (x ∷ xs) next rest = next

-- nothing is open, and no pass goes on
abbrev pub next_entry : State → Next
next_entry s = where_any s.deferred Deferred (where_any s.waiting Waiting (where_any s.dynamic Dynamic (where_any s.contents Content End)))

-- no load is open, and no file is wanted
abbrev pub next_in : State → Option Pass → Next
next_in s None = next_entry s
next_in s (Some p) = if p.is_entering then Exports else where_any p.items Item Versions

-- what comes next
abbrev pub next_of : State → Next
next_of s = where_any s.notes Notes (where_any s.loads Load (where_any s.wanted Wanted (if is_due s.run then Restart else next_in s s.pass)))

-- it waits for an answer, or nothing is left
abbrev pub stands : Next → Bool
stands Notes = false
stands Load = true
stands Wanted = true
stands Restart = false
stands Item = false
stands Versions = false
stands Exports = false
stands Deferred = false
stands Waiting = false
stands Dynamic = false
stands Content = true
stands End = true

-- nothing is left
abbrev pub is_end : Next → Bool
is_end Notes = false
is_end Load = false
is_end Wanted = false
is_end Restart = false
is_end Item = false
is_end Versions = false
is_end Exports = false
is_end Deferred = false
is_end Waiting = false
is_end Dynamic = false
is_end Content = false
is_end End = true
