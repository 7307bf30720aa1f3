-- What steps keep open and put into a store is about what a build reaches.
use Rattle.std.proofs.Common.{◌≡◌, ℕ, Bool, true, false, List, [], ◌∷◌, ◌++◌, Option, Some, refl, sym, ap, subst}
use Rattle.std.specs.Prelude.{IfSome}
use Rattle.std.specs.List.{AllByRecursion}
use Rattle.registry_urls.specs.Meaning.{RegistryMeaning}
use Rattle.source_io.specs.Answers.{purpose_of}
use Rattle.source_io.specs.Resolvers.{ResolverMeaning}
use Rattle.source_io.specs.Tickets.{Takes}
use Rattle.source_io.specs.declared.types.Answer.{Answer}
use Rattle.source_io.specs.declared.types.Question.{Question}
use Rattle.source_io.specs.declared.types.World.{World}
use Rattle.graph_core.specs.declared.graph.ModuleGraph.{ModuleGraph}
use Rattle.graph_store.specs.declared.entry.StoreEntry.{StoreEntry}
use Rattle.graph_store.specs.Order.{PutsIn, has_form}
use Rattle.graph_store.specs.Recorded.{IsRecorded, Records, RecordsAs, Tickets, entry_for}
use Rattle.graph_store.specs.Stores.{IsPutIn}
use Rattle.graph_turns.specs.declared.unresolved_input.LeftOver.{LeftOver}
use Rattle.graph_turns.specs.Promise.Told.{Told}
use Rattle.build_options.specs.declared.options.BuildOptions.{BuildOptions}
use Rattle.graph_builder.specs.Calls.Builds.{GoesBy, IsPutBy}
use Rattle.graph_builder.specs.Calls.Makers.{directions_in}
use Rattle.graph_builder.specs.Calls.Steps.{BuildState, KeepsBuild}
use Rattle.open_loads.specs.Order.Means.{Directions, IsMeant, Means}
use Rattle.store_turns.specs.Driven.{KeepsGoing}
use Rattle.store_turns.specs.Questions.{AreAbout, AreReached, IsAbout, KeepsReached}
use Rattle.store_turns.proofs.Told.{all_more}

-- ---- lists

all_end : {A : Type 0} (P : A → Type 0) (xs : List A) (x : A) → AllByRecursion P xs → P x → AllByRecursion P (xs ++ x ∷ [])
all_end P [] x all here = (here, tt)
all_end P (y ∷ xs) x all here = (all.0, all_end P xs x all.1 here)

all_take : {A : Type 0} (P : A → Type 0) (front back : List A) (x : A) → AllByRecursion P (front ++ x ∷ back) → P x × AllByRecursion P (front ++ back)
all_take P [] back x all = (all.0, all.1)
all_take P (y ∷ front) back x all = let rest = all_take P front back x all.1 in (rest.0, (all.0, rest.1))

-- ---- entries

module _ (told : Told) (g : ModuleGraph) (given : LeftOver) where
  puts_about : (e : StoreEntry) (old new : List StoreEntry) (added : Bool) → IsPutIn e old new added → IsAbout told g given e → AreAbout told g given old → AreAbout told g given new
  puts_about e old new true put here about =
      let at : PutsIn e old new = put.put in
      subst (AreAbout told g given) (sym at.is) (all_more (IsAbout told g given) at.front at.back e (subst (AreAbout told g given) at.was about) here)
  puts_about e old new false put here about = let same : new ≡ old = put.put in subst (AreAbout told g given) (sym same) about

  records_by : (q : Question) (a : Answer) (old new : List StoreEntry) (formed : Bool) → IsPutBy told g given q → RecordsAs q a old new formed → AreAbout told g given old → AreAbout told g given new
  records_by q a old new true here put about = puts_about (entry_for q a) old new put.0 put.1 (q, here, refl) about
  records_by q a old new false here same about = subst (AreAbout told g given) (sym same) about

  records_about : (q : Question) (a : Answer) (old new : List StoreEntry) → IsPutBy told g given q → Records q a old new → AreAbout told g given old → AreAbout told g given new
  records_about q a old new here put about = records_by q a old new (has_form (purpose_of q) a) here put about

-- ---- steps

module _ {O : Type 0} where
  pub reached_none : (world : Option World) (means : Means) (tickets : Tickets) (es : List StoreEntry) (b : BuildState O) → KeepsReached world means tickets es b tickets es
  reached_none world means tickets es b = λ told g given tells goes opened about. (opened, about)

  pub reached_more : (world : Option World) (means : Means) (ts us vs : Tickets) (xs ys zs : List StoreEntry) (a b : BuildState O) → KeepsGoing world means xs a ys b → KeepsReached world means ts xs a us ys → KeepsReached world means us ys b vs zs → KeepsReached world means ts xs a vs zs
  reached_more world means ts us vs xs ys zs a b goes x y = λ told g given tells start opened about.
      let mid = x told g given tells start opened about in
      y told g given tells (goes.by_world told g given tells start) mid.0 mid.1

  -- the same by a loader's world and what is told of another name
  pub reached_as : (world as_world : Option World) (means as_means : Means) (ts us : Tickets) (xs ys : List StoreEntry) (a : BuildState O) → as_world ≡ world → as_means ≡ means → KeepsReached as_world as_means ts xs a us ys → KeepsReached world means ts xs a us ys
  reached_as world as_world means as_means ts us xs ys a same_world same_means k =
      subst (λ (m : Means). KeepsReached world m ts xs a us ys) same_means (subst (λ (o : Option World). KeepsReached o as_means ts xs a us ys) same_world k)

  -- a question was handed out and asked
  pub reached_asked : (world : Option World) (means : Means) (tickets after : Tickets) (old_es new_es : List StoreEntry) (old : BuildState O) (next : Option (ℕ × Question)) (t : ℕ) (q : Question) → next ≡ Some (t, q) → after ≡ tickets ++ (t, q) ∷ [] → new_es ≡ old_es
      → ((told : Told) (g : ModuleGraph) (given : LeftOver) → IsMeant means told g.kind → GoesBy told g given old → IfSome next (λ p. IsPutBy told g given p.1))
      → KeepsReached world means tickets old_es old after new_es
  reached_asked world means tickets after old_es new_es old next t q is behind same step = λ told g given tells start opened about.
      let here : IsPutBy told g given q = subst (λ (o : Option (ℕ × Question)). IfSome o (λ p. IsPutBy told g given p.1)) is (step told g given tells.meant start) in (
        subst (AreReached told g given) (sym behind) (all_end (λ (p : ℕ × Question). IsPutBy told g given p.1) tickets (t, q) opened here),
        subst (AreAbout told g given) (sym same) about,
      )

  -- a question was answered, and the answer was recorded
  pub reached_answered : (world : Option World) (means : Means) (before after : Tickets) (old_es new_es : List StoreEntry) (old : BuildState O) (t : ℕ) (a : Answer) → IsRecorded world before after old_es new_es t a → KeepsReached world means before old_es old after new_es
  reached_answered world means before after old_es new_es old t a r = λ told g given tells start opened about.
      let takes : Takes t r.question before after = r.takes in
      let parts = all_take (λ (p : ℕ × Question). IsPutBy told g given p.1) takes.front takes.back (t, r.question) (subst (AreReached told g given) takes.was opened) in (
        subst (AreReached told g given) (sym takes.left) parts.1,
        records_about told g given r.question a old_es new_es parts.0 r.records about,
      )

-- a step keeps where texts lead
pub same_directions : {S L T U A R N C Q : Type 0} (registry : U → RegistryMeaning) (is_told : R → Bool) (meaning : R → ResolverMeaning) (old new : BuildState (BuildOptions S L T U A R N C Q)) → KeepsBuild old new → directions_in registry is_told meaning new ≡ directions_in registry is_told meaning old
same_directions {S} {L} {T} {U} {A} {R} {N} {C} {Q} registry is_told meaning old new k = ap (λ (o : BuildOptions S L T U A R N C Q). directions_in registry is_told meaning (record old { options = o })) k.options
