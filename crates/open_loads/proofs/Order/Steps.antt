-- Steps of a build in which no turn stands: what they leave, what is due behind them, and what was read and run before them.
use Rattle.std.proofs.Common.{◌≡◌, ℕ, true, false, List, [], ◌∷◌, ◌++◌, length, Option, None, Some, refl, sym, ap, ◌∙◌, subst, arith}
use Rattle.std.proofs.lemmas.List.Elements.{All-head, All-tail, All-weaker}
use Rattle.std.specs.List.{All}
use Rattle.std.specs.FinMap as finite
use Rattle.source_io.specs.declared.types.World.{World}
use Rattle.metadata_store.specs.declared.store.JsrMetadataStore.{JsrMetadataStore}
use Rattle.registry_urls.specs.Meaning.{RegistryMeaning}
use Rattle.registry_files.specs.Answers.{FileAnswer}
use Rattle.registry_files.specs.Kept.{Versions}
use Rattle.url.specs.Parts.{Parts}
use Rattle.module_slots.specs.declared.load.Load.{Load}
use Rattle.graph_turns.specs.declared.question_of.Asked.{Asked}
use Rattle.graph_turns.specs.declared.manner.Manner.TheVariants.{Asks as IsAskedAs}
use Rattle.graph_turns.specs.declared.registry.RegistryFile.{RegistryFile}
use Rattle.graph_turns.specs.declared.state.State.{State}
use Rattle.graph_turns.specs.Machine.Held.{AreNamed, IsHeld}
use Rattle.graph_turns.specs.Machine.Known.{Known}
use Rattle.graph_turns.specs.Machine.Manners.{manner_of}
use Rattle.graph_turns.specs.Machine.Runs.{setting_for}
use Rattle.graph_turns.specs.Machine.Turns.{manner_in}
use Rattle.graph_turns.specs.Promise.Versions.{is_stored}
use Rattle.graph_turns.proofs.Entering.Files.{FilesStay}
use Rattle.graph_turns.proofs.Entering.Held.{IsReadFor}
use Rattle.graph_turns.proofs.Entering.Manners.{asked_stays, read_stays}
use Rattle.open_loads.specs.Budget.Runs.{Passed, Runs, store_of}
use Rattle.open_loads.specs.Order.Asking.{AreAhead, AreStored, AreWanted, IsNext, file_url, through}
use Rattle.open_loads.specs.Order.Unused.{Due, content_dues, dues_of, file_dues, files_behind, loads_behind}
use Rattle.open_loads.specs.Order.Means.{Means}
use Rattle.open_loads.specs.Order.OpenLoads.{OpenLoads, known_now}
use Rattle.open_loads.specs.Order.Numbered.{filled_store}
use Rattle.open_loads.specs.Order.Ordered.{FitsTurn, IsAheadRead, IsStageRead, all_due}
use Rattle.open_loads.proofs.Order.Dues.{Adds, adds_both, adds_none, adds_over}

-- ---- what is due where no turn stands

-- behind the first questions of loads
abbrev pub others_at : OpenLoads → List (Option (ℕ × Parts)) → List ℕ → List Due
others_at b ws ts = file_dues (setting_for b.state.run) (known_now b) ws b.state.wanted ++ content_dues (known_now b) ts b.state.contents

abbrev pub dues_at : OpenLoads → List (Option (ℕ × Asked)) → List (Option (ℕ × Parts)) → List ℕ → List Due
dues_at b ps ws ts = dues_of (known_now b) ps b.state.loads ++ others_at b ws ts

abbrev pub due_idle : OpenLoads → List Due
due_idle b = dues_at b b.behind b.wanted b.later

-- ---- what is put ahead is put as its turn goes

-- one more at the end
pub ahead_end : (known : Known) (registry : RegistryMeaning) (s : State) (ps : List (Option (ℕ × Asked))) (p : ℕ × Asked) (front left : List Load) (load : Load) → length front ≡ length ps → manner_in known.sums registry s load ≡ IsAskedAs p.1 → AreAhead known registry s ps (front ++ load ∷ left) → AreAhead known registry s (ps ++ Some p ∷ []) (front ++ load ∷ left)
ahead_end known registry s [] p [] left load long e a = (e, tt)
ahead_end known registry s [] p (l ∷ front) left load long e a = absurd (omega arith)
ahead_end known registry s (q ∷ ps) p [] left load long e a = absurd (omega arith)
ahead_end known registry s (None ∷ ps) p (l ∷ front) left load long e a = ahead_end known registry s ps p front left load (omega arith) e a
ahead_end known registry s (Some q ∷ ps) p (l ∷ front) left load long e a = (a.0, ahead_end known registry s ps p front left load (omega arith) e a.1)

pub ahead_gap : (known : Known) (registry : RegistryMeaning) (s : State) (ps : List (Option (ℕ × Asked))) (front left : List Load) (load : Load) → length front ≡ length ps → AreAhead known registry s ps (front ++ load ∷ left) → AreAhead known registry s (ps ++ None ∷ []) (front ++ load ∷ left)
ahead_gap known registry s [] [] left load long a = tt
ahead_gap known registry s [] (l ∷ front) left load long a = absurd (omega arith)
ahead_gap known registry s (q ∷ ps) [] left load long a = absurd (omega arith)
ahead_gap known registry s (None ∷ ps) (l ∷ front) left load long a = ahead_gap known registry s ps front left load (omega arith) a
ahead_gap known registry s (Some q ∷ ps) (l ∷ front) left load long a = (a.0, ahead_gap known registry s ps front left load (omega arith) a.1)

-- in a state that knows the same files, before loads that came since
pub ahead_over : (known : Known) (registry : RegistryMeaning) (s u : State) (ps : List (Option (ℕ × Asked))) (loads added : List Load) → u.files ≡ s.files → AreAhead known registry s ps loads → AreAhead known registry u ps (loads ++ added)
ahead_over known registry s u [] loads added same a = tt
ahead_over known registry s u (p ∷ ps) [] added same a = absurd a
ahead_over known registry s u (None ∷ ps) (load ∷ loads) added same a = ahead_over known registry s u ps loads added same a
ahead_over known registry s u (Some p ∷ ps) (load ∷ loads) added same a = (
  ap (λ (f : Versions). manner_of known.sums registry (finite.get f) load.specifier load.context) same ∙ a.0,
  ahead_over known registry s u ps loads added same a.1,
)

-- with the same loads
pub ahead_same : (known : Known) (registry : RegistryMeaning) (s u : State) (ps : List (Option (ℕ × Asked))) (loads : List Load) → u.files ≡ s.files → AreAhead known registry s ps loads → AreAhead known registry u ps loads
ahead_same known registry s u [] loads same a = tt
ahead_same known registry s u (p ∷ ps) [] same a = absurd a
ahead_same known registry s u (None ∷ ps) (load ∷ loads) same a = ahead_same known registry s u ps loads same a
ahead_same known registry s u (Some p ∷ ps) (load ∷ loads) same a = (
  ap (λ (f : Versions). manner_of known.sums registry (finite.get f) load.specifier load.context) same ∙ a.0,
  ahead_same known registry s u ps loads same a.1,
)

-- whatever more is known
pub ahead_more : (known : Known) (registry : RegistryMeaning) (s u : State) (ps : List (Option (ℕ × Asked))) (loads : List Load) → FilesStay (finite.get s.files) (finite.get u.files) → All (IsReadFor s) loads → AreAhead known registry s ps loads → AreAhead known registry u ps loads
ahead_more known registry s u [] loads more all a = tt
ahead_more known registry s u (p ∷ ps) [] more all a = absurd a
ahead_more known registry s u (None ∷ ps) (load ∷ loads) more all a = ahead_more known registry s u ps loads more (All-tail (IsReadFor s) load loads all) a
ahead_more known registry s u (Some p ∷ ps) (load ∷ loads) more all a = (
  asked_stays known.sums registry (finite.get s.files) (finite.get u.files) more load.specifier load.context p.1 (All-head (IsReadFor s) load loads all) a.0,
  ahead_more known registry s u ps loads more (All-tail (IsReadFor s) load loads all) a.1,
)

-- so what it counts in stays read
read_one : (s u : State) → FilesStay (finite.get s.files) (finite.get u.files) → (o : Option (ℕ × Asked)) → IsAheadRead (finite.get s.files) o → IsAheadRead (finite.get u.files) o
read_one s u more None r = tt
read_one s u more (Some p) r = read_stays (finite.get s.files) (finite.get u.files) p.1.held more r

pub read_more : (s u : State) (ps : List (Option (ℕ × Asked))) → FilesStay (finite.get s.files) (finite.get u.files) → All (IsAheadRead (finite.get s.files)) ps → All (IsAheadRead (finite.get u.files)) ps
read_more s u ps more all = All-weaker (IsAheadRead (finite.get s.files)) (IsAheadRead (finite.get u.files)) (λ o r. read_one s u more o r) ps all

-- ---- questions about files, one more at the end

pub wanted_end : (known : Known) (registry : RegistryMeaning) (ps : List (Option (ℕ × Parts))) (p : ℕ × Parts) (front left : List RegistryFile) (file : RegistryFile) → length front ≡ length ps → (is_stored known.store file ≡ false) × (p.1 ≡ file_url registry file) → AreWanted known registry ps (front ++ file ∷ left) → AreWanted known registry (ps ++ Some p ∷ []) (front ++ file ∷ left)
wanted_end known registry [] p [] left file long e a = (e.0, e.1, tt)
wanted_end known registry [] p (f ∷ front) left file long e a = absurd (omega arith)
wanted_end known registry (q ∷ ps) p [] left file long e a = absurd (omega arith)
wanted_end known registry (None ∷ ps) p (f ∷ front) left file long e a = (a.0, wanted_end known registry ps p front left file (omega arith) e a.1)
wanted_end known registry (Some q ∷ ps) p (f ∷ front) left file long e a = (a.0, a.1, wanted_end known registry ps p front left file (omega arith) e a.2)

pub wanted_gap : (known : Known) (registry : RegistryMeaning) (ps : List (Option (ℕ × Parts))) (front left : List RegistryFile) (file : RegistryFile) → length front ≡ length ps → is_stored known.store file ≡ true → AreWanted known registry ps (front ++ file ∷ left) → AreWanted known registry (ps ++ None ∷ []) (front ++ file ∷ left)
wanted_gap known registry [] [] left file long e a = (e, tt)
wanted_gap known registry [] (f ∷ front) left file long e a = absurd (omega arith)
wanted_gap known registry (q ∷ ps) [] left file long e a = absurd (omega arith)
wanted_gap known registry (None ∷ ps) (f ∷ front) left file long e a = (a.0, wanted_gap known registry ps front left file (omega arith) e a.1)
wanted_gap known registry (Some q ∷ ps) (f ∷ front) left file long e a = (a.0, a.1, wanted_gap known registry ps front left file (omega arith) e a.2)

pub stored_end : (store : Option JsrMetadataStore) (ps : List (Option (ℕ × Parts))) (p : ℕ × Parts) (front left : List RegistryFile) (file : RegistryFile) → length front ≡ length ps → AreStored store ps (front ++ file ∷ left) → AreStored store (ps ++ Some p ∷ []) (front ++ file ∷ left)
stored_end store [] p [] left file long a = tt
stored_end store [] p (f ∷ front) left file long a = absurd (omega arith)
stored_end store (q ∷ ps) p [] left file long a = absurd (omega arith)
stored_end store (None ∷ ps) p (f ∷ front) left file long a = (a.0, stored_end store ps p front left file (omega arith) a.1)
stored_end store (Some q ∷ ps) p (f ∷ front) left file long a = stored_end store ps p front left file (omega arith) a

pub stored_gap : (store : Option JsrMetadataStore) (ps : List (Option (ℕ × Parts))) (front left : List RegistryFile) (file : RegistryFile) → length front ≡ length ps → is_stored store file ≡ true → AreStored store ps (front ++ file ∷ left) → AreStored store (ps ++ None ∷ []) (front ++ file ∷ left)
stored_gap store [] [] left file long e a = (e, tt)
stored_gap store [] (f ∷ front) left file long e a = absurd (omega arith)
stored_gap store (q ∷ ps) [] left file long e a = absurd (omega arith)
stored_gap store (None ∷ ps) (f ∷ front) left file long e a = (a.0, stored_gap store ps front left file (omega arith) e a.1)
stored_gap store (Some q ∷ ps) (f ∷ front) left file long e a = stored_gap store ps front left file (omega arith) e a

-- ---- what was read and run

-- the files of the versions that a state, and what is put ahead, count in were read
pub record AreRead (b : OpenLoads) : Type 0 where
  pub held : IsHeld b.state
  pub named : AreNamed (finite.get b.state.files)
  pub ahead_read : All (IsAheadRead (finite.get b.state.files)) b.behind

-- and what the turn that stands counts in
pub record IsStoodRead (b : OpenLoads) : Type 0 where
  pub held : IsHeld b.state
  pub named : AreNamed (finite.get b.state.files)
  pub stage_read : IsStageRead (finite.get b.state.files) b.stage
  pub ahead_read : All (IsAheadRead (finite.get b.state.files)) b.behind

-- a run leads to a state, and the given store is to get what that run leaves in it
pub record Led (most : ℕ) (known : Known) (told : Option World) (means : Means) (start : State) (store : Option JsrMetadataStore) (put : ℕ) (s : State) : Type 0 where
  pub past : List Passed
  pub run : Runs most known told means start past put s
  pub store_is : store ≡ store_of most known told means start run

abbrev pub LedTo : Option World → Means → State → ℕ → OpenLoads → Type 0
LedTo told means start put b = Led b.redirects b.known told means start (filled_store b.known.store b.added) put b.state

-- what is built where no turn stands
pub record Builds (told : Option World) (means : Means) (start : State) (put : ℕ) (b : OpenLoads) : Type 0 where
  pub led : LedTo told means start put b
  pub ahead : AreAhead (known_now b) means.registry b.state b.behind b.state.loads
  pub wanted : AreWanted (known_now b) means.registry b.wanted b.state.wanted

-- what is built where one does
pub record IsStoodOn (told : Option World) (means : Means) (start : State) (put : ℕ) (b : OpenLoads) : Type 0 where
  pub led : LedTo told means start put b
  pub next : IsNext told (known_now b) means.registry b.state b.stage
  pub ahead : AreAhead (known_now b) means.registry b.state b.behind (loads_behind b.stage b.state.loads)
  pub wanted : AreWanted (known_now b) means.registry b.wanted (files_behind b.stage b.state.wanted)

-- under other names of the same
pub led_as : (told : Option World) (means : Means) (start : State) (put : ℕ) (b new : OpenLoads) → new.redirects ≡ b.redirects → new.known ≡ b.known → new.added ≡ b.added → new.state ≡ b.state → LedTo told means start put b → LedTo told means start put new
led_as told means start put b new redirects known added state l =
    subst (λ (n : ℕ). Led n new.known told means start (filled_store new.known.store new.added) put new.state) (sym redirects)
    (subst (λ (k : Known). Led b.redirects k told means start (filled_store k.store new.added) put new.state) (sym known)
    (subst (λ (a : List (RegistryFile × FileAnswer)). Led b.redirects b.known told means start (filled_store b.known.store a) put new.state) (sym added)
    (subst (λ (s : State). Led b.redirects b.known told means start (filled_store b.known.store b.added) put s) (sym state) l)))

-- ---- steps

-- no turn stands behind it: what was due is due still, what came is queued, and what was read and run is
pub record Steps (means : Means) (b new : OpenLoads) : Type 0 where
  pub known : new.known ≡ b.known
  pub kept : new.kept ≡ b.kept
  pub taken : new.taken ≡ b.taken
  pub redirects : new.redirects ≡ b.redirects
  pub budget : new.max_loads ≡ b.max_loads
  pub added : new.added ≡ b.added
  pub adds : Adds b.kept b.taken b.max_loads b.queue b.queued (due_idle b) new.queue new.queued (due_idle new)
  pub read : AreRead b → AreRead new
  pub builds : (told : Option World) (start : State) (put : ℕ) → AreRead b → Builds told means start put b → Builds told means start put new

pub steps_none : (means : Means) (b : OpenLoads) → Steps means b b
steps_none means b = record {
  known = refl;
  kept = refl;
  taken = refl;
  redirects = refl;
  budget = refl;
  added = refl;
  adds = adds_none b.kept b.taken b.max_loads b.queue b.queued (due_idle b);
  read = λ r. r;
  builds = λ told start put r i. i;
}

pub steps_both : (means : Means) (a b c : OpenLoads) → Steps means a b → Steps means b c → Steps means a c
steps_both means a b c p q = record {
  known = q.known ∙ p.known;
  kept = q.kept ∙ p.kept;
  taken = q.taken ∙ p.taken;
  redirects = q.redirects ∙ p.redirects;
  budget = q.budget ∙ p.budget;
  added = q.added ∙ p.added;
  adds = adds_both a.kept a.taken a.max_loads p.adds (adds_over a.kept b.kept a.taken b.taken a.max_loads b.max_loads p.kept p.taken p.budget q.adds);
  read = λ r. q.read (p.read r);
  builds = λ told start put r i. q.builds told start put (p.read r) (p.builds told start put r i);
}

-- the next turn stands behind it, or nothing is left
pub record Follows (means : Means) (b new : OpenLoads) : Type 0 where
  pub known : new.known ≡ b.known
  pub kept : new.kept ≡ b.kept
  pub taken : new.taken ≡ b.taken
  pub redirects : new.redirects ≡ b.redirects
  pub budget : new.max_loads ≡ b.max_loads
  pub added : new.added ≡ b.added
  pub fits : FitsTurn new new.stage
  pub stored : AreStored (known_now new).store new.wanted (files_behind new.stage new.state.wanted)
  pub adds : Adds b.kept b.taken b.max_loads b.queue b.queued (due_idle b) new.queue new.queued (all_due new)
  pub none_through : through new.stage ≡ 0
  pub read : AreRead b → IsStoodRead new
  pub builds : (told : Option World) (start : State) (put : ℕ) → AreRead b → Builds told means start put b → IsStoodOn told means start put new

pub follows_after : (means : Means) (a b c : OpenLoads) → Steps means a b → Follows means b c → Follows means a c
follows_after means a b c p q = record {
  known = q.known ∙ p.known;
  kept = q.kept ∙ p.kept;
  taken = q.taken ∙ p.taken;
  redirects = q.redirects ∙ p.redirects;
  budget = q.budget ∙ p.budget;
  added = q.added ∙ p.added;
  fits = q.fits;
  stored = q.stored;
  adds = adds_both a.kept a.taken a.max_loads p.adds (adds_over a.kept b.kept a.taken b.taken a.max_loads b.max_loads p.kept p.taken p.budget q.adds);
  none_through = q.none_through;
  read = λ r. q.read (p.read r);
  builds = λ told start put r i. q.builds told start put (p.read r) (p.builds told start put r i);
}
