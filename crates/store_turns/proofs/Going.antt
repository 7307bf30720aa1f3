-- What the steps of a build through a recorder keep.
use Rattle.std.proofs.Common.{◌≡◌, ℕ, List, Option, Some, None, refl, sym, ap, ◌∙◌, subst}
use Rattle.std.specs.Prelude.{IfSome}
use Rattle.std.proofs.lemmas.Option.{same_Some}
use Rattle.source_io.specs.Answers.{answer_of}
use Rattle.source_io.specs.declared.types.Answer.{Answer}
use Rattle.source_io.specs.declared.types.Question.{Question}
use Rattle.source_io.specs.declared.types.World.{World}
use Rattle.graph_core.specs.declared.graph.ModuleGraph.{ModuleGraph}
use Rattle.graph_turns.specs.declared.unresolved_input.LeftOver.{LeftOver}
use Rattle.graph_turns.specs.Promise.Told.{Told}
use Rattle.graph_builder.specs.Calls.Builds.{GoesBy}
use Rattle.graph_builder.specs.Calls.Steps.{BuildState}
use Rattle.open_loads.specs.Order.Means.{IsMeant, Means}
use Rattle.open_loads.specs.Order.Ordered.{asked_at, IsToldAnswer}
use Rattle.graph_store.specs.declared.entry.StoreEntry.{StoreEntry}
use Rattle.graph_store.specs.Recorded.{IsRecorded, Tickets, entry_for}
use Rattle.graph_store.specs.Worlds.{AreFrom}
use Rattle.store_turns.specs.Answering.{AreKept, Fits, IsStorable}
use Rattle.store_turns.specs.Driven.{KeepsGoing}
use Rattle.store_turns.proofs.Told.{PutsTold, fits_answer, fits_before, recorded_told}

told_at : (world : Option World) (w : World) (q : Question) (a : Answer) → world ≡ Some w → IfSome world (λ v. a ≡ answer_of v q) → a ≡ answer_of w q
told_at world w q a is told = subst (λ (o : Option World). IfSome o (λ v. a ≡ answer_of v q)) is told

module _ {O : Type 0} where
  pub going_none : (world : Option World) (means : Means) (es : List StoreEntry) (b : BuildState O) → KeepsGoing world means es b es b
  going_none world means es b = record {
    entries = λ kept. kept;
    fits = λ w v is storable kept f. f;
    by_world = λ told g given tells goes. goes;
    by_kept = λ w told g given is storable kept meant f goes. goes;
  }

  pub going_more : (world : Option World) (means : Means) (xs ys zs : List StoreEntry) (a b c : BuildState O) → KeepsGoing world means xs a ys b → KeepsGoing world means ys b zs c → KeepsGoing world means xs a zs c
  going_more world means xs ys zs a b c x y = record {
    entries = λ kept. y.entries (x.entries kept);
    fits = λ w v is storable kept f. x.fits w v is storable kept (y.fits w v is storable (x.entries kept) f);
    by_world = λ told g given tells goes. y.by_world told g given tells (x.by_world told g given tells goes);
    by_kept = λ w told g given is storable kept meant f goes.
        y.by_kept w told g given is storable (x.entries kept) meant f
        (x.by_kept w told g given is storable kept meant (y.fits w told.world is storable (x.entries kept) f) goes);
  }

  -- the same by a loader's world and what is told of another name
  pub going_as : (world as_world : Option World) (means as_means : Means) (xs ys : List StoreEntry) (a b : BuildState O) → as_world ≡ world → as_means ≡ means → KeepsGoing as_world as_means xs a ys b → KeepsGoing world means xs a ys b
  going_as world as_world means as_means xs ys a b same_world same_means k =
      subst (λ (m : Means). KeepsGoing world m xs a ys b) same_means (subst (λ (o : Option World). KeepsGoing o as_means xs a ys b) same_world k)

  -- a question was handed out, or none, and nothing was kept
  pub going_asked : (world : Option World) (means : Means) (old_es new_es : List StoreEntry) (old new : BuildState O) → new_es ≡ old_es
      → ((told : Told) (g : ModuleGraph) (given : LeftOver) → IsMeant means told g.kind → GoesBy told g given old → GoesBy told g given new)
      → KeepsGoing world means old_es old new_es new
  going_asked world means old_es new_es old new same step = record {
    entries = λ kept. subst (AreKept world) (sym same) kept;
    fits = λ w v is storable kept f. subst (λ (es : List StoreEntry). Fits es v) same f;
    by_world = λ told g given tells goes. step told g given tells.meant goes;
    by_kept = λ w told g given is storable kept meant f goes. step told g given meant goes;
  }

  -- a question was answered, and the answer was recorded
  pub going_answered : (world : Option World) (means : Means) (before after : Tickets) (old_es new_es : List StoreEntry) (old new : BuildState O) (t : ℕ) (a : Answer)
      → (r : IsRecorded world before after old_es new_es t a) → asked_at old.turns t ≡ Some r.question
      → ((told : Told) (g : ModuleGraph) (given : LeftOver) → IsMeant means told g.kind → GoesBy told g given old → IsToldAnswer (Some told.world) (asked_at old.turns t) a → GoesBy told g given new)
      → KeepsGoing world means old_es old new_es new
  going_answered world means before after old_es new_es old new t a r about step = record {
    entries = λ kept w is storable. (put w is storable (kept w is storable)).all;
    fits = λ w v is storable kept f. fits_before w v (entry_for r.question a) old_es new_es storable (kept w is storable) (put w is storable (kept w is storable)) f;
    by_world = λ told g given tells goes. step told g given tells.meant goes (right told.world (told_at world told.world r.question a tells.answers r.by_world));
    by_kept = λ w told g given is storable kept meant f goes.
        step told g given meant goes (right told.world (fits_answer w told.world r.question a old_es new_es storable (told_at world w r.question a is r.by_world) (put w is storable (kept w is storable)) f));
  }
    where
      put : (w : World) → world ≡ Some w → IsStorable w → AreFrom w old_es → PutsTold w (entry_for r.question a) old_es new_es
      put w is storable all = recorded_told w r.question a old_es new_es storable (told_at world w r.question a is r.by_world) r.records all

      right : (v : World) → a ≡ answer_of v r.question → IsToldAnswer (Some v) (asked_at old.turns t) a
      right v e = subst (λ (o : Option Question). IsToldAnswer (Some v) o a) (sym about) e
