-- What comes next, and what stands in a state then.
use Rattle.std.proofs.Common.{◌≡◌, List, [], ◌∷◌, length, Bool, true, false, Option, None, Some, refl, ap, if◌then◌else◌, arith}
use Rattle.url.specs.Parts.{Parts}
use Rattle.graph_dependencies.specs.declared.graph_kind.GraphKind.{GraphKind}
use Rattle.module_slots.specs.declared.load.Load.{Load}
use Rattle.module_slots.specs.declared.load.LoadContext.{LoadContext}
use Rattle.graph_turns.specs.declared.dependencies.Note.{Note}
use Rattle.graph_turns.specs.declared.later_content.LaterContent.{LaterContent}
use Rattle.graph_turns.specs.declared.next.Next.{Next}
use Rattle.graph_turns.specs.declared.next.Next.TheVariants.{Notes, Load as ALoad, Wanted, Restart, Item, Versions, Exports, Deferred, Waiting, Dynamic, Content, End}
use Rattle.graph_turns.specs.declared.passes.Pass.{Pass}
use Rattle.graph_turns.specs.declared.registry.RegistryFile.{RegistryFile}
use Rattle.graph_turns.specs.declared.state.State.{State}
use Rattle.graph_turns.specs.declared.waiting.WaitingPackage.{WaitingPackage}
use Rattle.graph_turns.specs.Machine.Next.{next_entry, next_in, next_of, where_any}
use Rattle.graph_turns.specs.Machine.Runs.{is_due, told_for}
use Rattle.graph_turns.specs.Machine.Turns.{IsAtEnd, IsIdle, cost_by, next_cost, turn, turn_by}
use Rattle.graph_turns.specs.Promise.Told.{Told}

-- nothing is noted, open or wanted, and the build isn't to begin once more
pub record IsCalm (s : State) : Type 0 where
  pub no_note : s.notes ≡ []
  pub no_load : s.loads ≡ []
  pub no_file : s.wanted ≡ []
  pub not_due : is_due s.run ≡ false

-- and no pass goes on
pub record IsOutside (s : State) : Type 0 where
  pub calm : IsCalm s
  pub no_pass : s.pass ≡ None

-- what stands there, by what comes next
pub data NextIs (s : State) : Next → Type 0 where
  notes : {note : Note} {others : List Note} → s.notes ≡ note ∷ others → NextIs s Notes
  loads : {load : Load} {others : List Load} → s.notes ≡ [] → s.loads ≡ load ∷ others → NextIs s ALoad
  wanted : {file : RegistryFile} {others : List RegistryFile} → s.notes ≡ [] → s.loads ≡ [] → s.wanted ≡ file ∷ others → NextIs s Wanted
  restart : s.notes ≡ [] → s.loads ≡ [] → s.wanted ≡ [] → is_due s.run ≡ true → NextIs s Restart
  item : {p : Pass} {first : WaitingPackage} {others : List WaitingPackage} → IsCalm s → s.pass ≡ Some p → p.is_entering ≡ false → p.items ≡ first ∷ others → NextIs s Item
  versions : {p : Pass} → IsCalm s → s.pass ≡ Some p → p.is_entering ≡ false → p.items ≡ [] → NextIs s Versions
  exports : {p : Pass} → IsCalm s → s.pass ≡ Some p → p.is_entering ≡ true → NextIs s Exports
  deferred : {first : Parts × LoadContext} {others : List (Parts × LoadContext)} → IsOutside s → s.deferred ≡ first ∷ others → NextIs s Deferred
  waiting : {first : WaitingPackage} {others : List WaitingPackage} → IsOutside s → s.deferred ≡ [] → s.waiting ≡ first ∷ others → NextIs s Waiting
  dynamic : {first : Parts × Load} {others : List (Parts × Load)} → IsOutside s → s.deferred ≡ [] → s.waiting ≡ [] → s.dynamic ≡ first ∷ others → NextIs s Dynamic
  content : {first : LaterContent} {others : List LaterContent} → IsIdle s → s.contents ≡ first ∷ others → NextIs s Content
  ends : IsAtEnd s → NextIs s End

module _ (s : State) where
  idle : IsOutside s → s.deferred ≡ [] → s.waiting ≡ [] → s.dynamic ≡ [] → IsIdle s
  idle o d w y = record {
    none_open = o.calm.no_load;
    none_deferred = d;
    none_waits = y;
    none_noted = o.calm.no_note;
    none_wanted = o.calm.no_file;
    none_waiting = w;
    none_passing = o.no_pass;
    none_due = o.calm.not_due;
  }

  by_contents : IsIdle s → (xs : List LaterContent) → s.contents ≡ xs → NextIs s (where_any xs Content End)
  by_contents i [] e = ends (record { idle = i; none_comes = e })
  by_contents i (x ∷ xs) e = content i e

  by_dynamic : IsOutside s → s.deferred ≡ [] → s.waiting ≡ [] → (xs : List (Parts × Load)) → s.dynamic ≡ xs → NextIs s (where_any xs Dynamic (where_any s.contents Content End))
  by_dynamic o d w [] e = by_contents (idle o d w e) s.contents refl
  by_dynamic o d w (x ∷ xs) e = dynamic o d w e

  by_waiting : IsOutside s → s.deferred ≡ [] → (xs : List WaitingPackage) → s.waiting ≡ xs → NextIs s (where_any xs Waiting (where_any s.dynamic Dynamic (where_any s.contents Content End)))
  by_waiting o d [] e = by_dynamic o d e s.dynamic refl
  by_waiting o d (x ∷ xs) e = waiting o d e

  by_deferred : IsOutside s → (xs : List (Parts × LoadContext)) → s.deferred ≡ xs → NextIs s (where_any xs Deferred (where_any s.waiting Waiting (where_any s.dynamic Dynamic (where_any s.contents Content End))))
  by_deferred o [] e = by_waiting o e s.waiting refl
  by_deferred o (x ∷ xs) e = deferred o e

  by_items : IsCalm s → (p : Pass) → s.pass ≡ Some p → p.is_entering ≡ false → (xs : List WaitingPackage) → p.items ≡ xs → NextIs s (where_any xs Item Versions)
  by_items c p goes not_yet [] e = versions c goes not_yet e
  by_items c p goes not_yet (x ∷ xs) e = item c goes not_yet e

  by_entering : IsCalm s → (p : Pass) → s.pass ≡ Some p → (b : Bool) → p.is_entering ≡ b → NextIs s (if b then Exports else where_any p.items Item Versions)
  by_entering c p goes true e = exports c goes e
  by_entering c p goes false e = by_items c p goes e p.items refl

  by_pass : IsCalm s → (o : Option Pass) → s.pass ≡ o → NextIs s (next_in s o)
  by_pass c None e = by_deferred (record { calm = c; no_pass = e }) s.deferred refl
  by_pass c (Some p) e = by_entering c p e p.is_entering refl

  by_due : s.notes ≡ [] → s.loads ≡ [] → s.wanted ≡ [] → (b : Bool) → is_due s.run ≡ b → NextIs s (if b then Restart else next_in s s.pass)
  by_due n l w true e = restart n l w e
  by_due n l w false e = by_pass (record { no_note = n; no_load = l; no_file = w; not_due = e }) s.pass refl

  by_wanted : s.notes ≡ [] → s.loads ≡ [] → (xs : List RegistryFile) → s.wanted ≡ xs → NextIs s (where_any xs Wanted (if is_due s.run then Restart else next_in s s.pass))
  by_wanted n l [] e = by_due n l e (is_due s.run) refl
  by_wanted n l (x ∷ xs) e = wanted n l e

  by_loads : s.notes ≡ [] → (xs : List Load) → s.loads ≡ xs → NextIs s (where_any xs ALoad (where_any s.wanted Wanted (if is_due s.run then Restart else next_in s s.pass)))
  by_loads n [] e = by_wanted n e s.wanted refl
  by_loads n (x ∷ xs) e = loads n e

  by_notes : (xs : List Note) → s.notes ≡ xs → NextIs s (where_any xs Notes (where_any s.loads ALoad (where_any s.wanted Wanted (if is_due s.run then Restart else next_in s s.pass))))
  by_notes [] e = by_loads e s.loads refl
  by_notes (x ∷ xs) e = notes e

  pub how_next : NextIs s (next_of s)
  how_next = by_notes s.notes refl

-- a turn, and what it costs, by what comes next
pub turn_as : (told : Told) (kind : GraphKind) (s : State) (n : Next) → next_of s ≡ n → turn told kind s ≡ turn_by (told_for told s.run) kind s n
unfolding turn
turn_as told kind s n e = ap (turn_by (told_for told s.run) kind s) e

pub cost_as : (told : Told) (s : State) (n : Next) → next_of s ≡ n → next_cost told s ≡ cost_by (told_for told s.run) s n
cost_as told s n e = ap (cost_by (told_for told s.run) s) e

-- ---- by how many there are

pub where_some : {A : Type 0} (xs : List A) (next rest : Next) → (length xs ≡ 0 → ⊥) → next ≡ where_any xs next rest
where_some [] next rest some = absurd (some refl)
where_some (x ∷ xs) next rest some = refl

pub where_none : {A : Type 0} (xs : List A) (next rest : Next) → length xs ≡ 0 → rest ≡ where_any xs next rest
where_none [] next rest none = refl
where_none (x ∷ xs) next rest none = absurd (omega arith)
