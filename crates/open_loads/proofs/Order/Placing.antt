-- First questions are put: of loads, of files of the registry, and of contents that come later.
use Rattle.std.proofs.Common.{◌≡◌, ℕ, zero, suc, ◌≤◌, List, [], ◌∷◌, ◌++◌, drop, length, Bool, true, false, None, Some, refl, sym, ap, ◌∙◌, subst, arith, append_assoc}
use Rattle.std.proofs.lemmas.List.Elements.{All-push}
use Rattle.std.specs.FinMap as finite
use Rattle.url.specs.Parts.{Parts}
use Rattle.module_slots.specs.declared.load.Load.{Load}
use Rattle.graph_turns.specs.declared.question_of.Asked.{Asked}
use Rattle.graph_turns.specs.declared.later_content.LaterContent.{LaterContent}
use Rattle.graph_turns.specs.declared.manner.Manner.{Manner}
use Rattle.graph_turns.specs.declared.manner.Manner.TheVariants.{Asks as IsAskedAs, Reads as ReadsFirst, Unread, Unsupported}
use Rattle.graph_turns.specs.declared.registry.RegistryFile.{RegistryFile}
use Rattle.graph_turns.specs.declared.state.State.{State}
use Rattle.graph_turns.specs.Machine.Runs.{setting_for}
use Rattle.graph_turns.specs.Promise.Contents.{content_question}
use Rattle.graph_turns.specs.Promise.Versions.{is_stored}
use Rattle.graph_turns.proofs.Entering.Manners.{asked_read}
use Rattle.open_loads.specs.Order.Asking.{AreAhead, AreStored, AreWanted, asked_question, file_url, wanted_question}
use Rattle.open_loads.specs.Order.Unused.{Due, content_dues, dues_of, file_dues}
use Rattle.open_loads.specs.Order.Means.{Means}
use Rattle.open_loads.specs.Order.OpenLoads.{OpenLoads, known_now}
use Rattle.open_loads.specs.Order.Numbered.{ahead_all, ahead_by, later_all, manner_at, one_ahead, one_later, one_wanted, wanted_all, wanted_by}
use Rattle.open_loads.specs.Order.Ordered.{IsAheadRead}
use Rattle.open_loads.proofs.Order.Dues.{adds_as, adds_none, adds_put, append_none, dues_ahead, dues_gap, dues_later, files_ahead, files_gap}
use Rattle.open_loads.proofs.Order.Opening.{length_more}
use Rattle.open_loads.proofs.Order.Steps.{Steps, ahead_end, ahead_gap, due_idle, others_at, steps_both, steps_none, stored_end, stored_gap, wanted_end, wanted_gap}

-- a list in two at a place
pub parted : {X : Type 0} (xs : List X) (n : ℕ) → n ≤ length xs → (front : List X) × (xs ≡ front ++ drop n xs) × (length front ≡ n)
parted xs zero le = ([], refl, refl)
parted [] (suc n) le = absurd (omega arith)
parted (x ∷ xs) (suc n) le = let rest = parted xs n (omega arith) in (x ∷ rest.0, ap (λ l. x ∷ l) rest.1, ap suc rest.2)

one_longer : {X Y : Type 0} (xs : List X) (ys : List Y) (x : X) (n : ℕ) → length xs ≡ length ys → n ≡ suc (length ys) → length (xs ++ x ∷ []) ≡ n
one_longer xs ys x n e more = length_more xs x ∙ ap suc e ∙ sym more

-- ---- loads

-- loads have their places, so many in all; the rest stays
pub record PutAhead (means : Means) (n : ℕ) (b new : OpenLoads) : Type 0 where
  pub steps : Steps means b new
  pub state : new.state ≡ b.state
  pub known : new.known ≡ b.known
  pub stage : new.stage ≡ b.stage
  pub wanted : new.wanted ≡ b.wanted
  pub later : new.later ≡ b.later
  pub long : length new.behind ≡ n

module _ (means : Means) (b : OpenLoads) (front left : List Load) (load : Load) (is : b.state.loads ≡ front ++ load ∷ left) (long : length front ≡ length b.behind) where
  -- the question of a load is put
  module _ (asked : Asked) (manner : manner_at means.registry b load ≡ IsAskedAs asked) where
    one_due : dues_of (known_now b) (b.behind ++ Some (b.queued, asked) ∷ []) b.state.loads ≡ dues_of (known_now b) b.behind b.state.loads ++ record { ticket = b.queued; question = asked_question (known_now b) load asked } ∷ []
    one_due =
        ap (dues_of (known_now b) (b.behind ++ Some (b.queued, asked) ∷ [])) is
        ∙ dues_ahead (known_now b) b.behind (b.queued, asked) front left load long
        ∙ ap (λ (ls : List Load). dues_of (known_now b) b.behind ls ++ record { ticket = b.queued; question = asked_question (known_now b) load asked } ∷ []) (sym is)

    all_dues : dues_of (known_now b) b.behind b.state.loads ++ record { ticket = b.queued; question = asked_question (known_now b) load asked } ∷ others_at b b.wanted b.later ≡ due_idle (ahead_by b load (IsAskedAs asked))
    all_dues =
        sym (append_assoc (dues_of (known_now b) b.behind b.state.loads) (record { ticket = b.queued; question = asked_question (known_now b) load asked } ∷ []) (others_at b b.wanted b.later))
        ∙ ap (λ (d : List Due). d ++ others_at b b.wanted b.later) (sym one_due)

    load_put : PutAhead means (suc (length b.behind)) b (ahead_by b load (IsAskedAs asked))
    load_put = record {
      steps = record {
        known = refl;
        kept = refl;
        taken = refl;
        redirects = refl;
        budget = refl;
        added = refl;
        adds = adds_as b.kept b.taken b.max_loads refl all_dues (adds_put b.kept b.taken b.max_loads b.queue b.queued (dues_of (known_now b) b.behind b.state.loads) (others_at b b.wanted b.later) (asked_question (known_now b) load asked));
        read = λ r. record {
          held = r.held;
          named = r.named;
          ahead_read = All-push (IsAheadRead (finite.get b.state.files)) b.behind (Some (b.queued, asked)) r.ahead_read (asked_read (known_now b).sums means.registry (finite.get b.state.files) load.specifier r.named load.context asked manner);
        };
        builds = λ told start put r i. record {
          led = i.led;
          ahead = subst (AreAhead (known_now b) means.registry b.state (b.behind ++ Some (b.queued, asked) ∷ [])) (sym is) (ahead_end (known_now b) means.registry b.state b.behind (b.queued, asked) front left load long manner (subst (AreAhead (known_now b) means.registry b.state b.behind) is i.ahead));
          wanted = i.wanted;
        };
      };
      state = refl;
      known = refl;
      stage = refl;
      wanted = refl;
      later = refl;
      long = length_more b.behind (Some (b.queued, asked));
    }

  -- or none is, before its turn
  load_skipped : PutAhead means (suc (length b.behind)) b (record b { behind = b.behind ++ None ∷ [] })
  load_skipped = record {
    steps = record {
      known = refl;
      kept = refl;
      taken = refl;
      redirects = refl;
      budget = refl;
      added = refl;
      adds = adds_as b.kept b.taken b.max_loads refl (ap (λ (d : List Due). d ++ others_at b b.wanted b.later) (sym same_dues)) (adds_none b.kept b.taken b.max_loads b.queue b.queued (due_idle b));
      read = λ r. record { held = r.held; named = r.named; ahead_read = All-push (IsAheadRead (finite.get b.state.files)) b.behind None r.ahead_read tt };
      builds = λ told start put r i. record {
        led = i.led;
        ahead = subst (AreAhead (known_now b) means.registry b.state (b.behind ++ None ∷ [])) (sym is) (ahead_gap (known_now b) means.registry b.state b.behind front left load long (subst (AreAhead (known_now b) means.registry b.state b.behind) is i.ahead));
        wanted = i.wanted;
      };
    };
    state = refl;
    known = refl;
    stage = refl;
    wanted = refl;
    later = refl;
    long = length_more b.behind None;
  }
    where
      same_dues : dues_of (known_now b) (b.behind ++ None ∷ []) b.state.loads ≡ dues_of (known_now b) b.behind b.state.loads
      same_dues = ap (dues_of (known_now b) (b.behind ++ None ∷ [])) is ∙ dues_gap (known_now b) b.behind front left load long ∙ ap (dues_of (known_now b) b.behind) (sym is)

  -- by how its turn goes
  load_placed : (m : Manner) → manner_at means.registry b load ≡ m → PutAhead means (suc (length b.behind)) b (ahead_by b load m)
  load_placed (IsAskedAs asked) manner = load_put asked manner
  load_placed (ReadsFirst nv) manner = load_skipped
  load_placed (Unread name e) manner = load_skipped
  load_placed Unsupported manner = load_skipped

module _ (means : Means) where
  ahead_none : (b : OpenLoads) → PutAhead means (length b.behind) b b
  ahead_none b = record { steps = steps_none means b; state = refl; known = refl; stage = refl; wanted = refl; later = refl; long = refl }

  ahead_both : (m n : ℕ) (a b c : OpenLoads) → PutAhead means m a b → PutAhead means n b c → PutAhead means n a c
  ahead_both m n a b c p q = record {
    steps = steps_both means a b c p.steps q.steps;
    state = q.state ∙ p.state;
    known = q.known ∙ p.known;
    stage = q.stage ∙ p.stage;
    wanted = q.wanted ∙ p.wanted;
    later = q.later ∙ p.later;
    long = q.long;
  }

  loads_put : (front left : List Load) (b : OpenLoads) → b.state.loads ≡ front ++ left → length front ≡ length b.behind → PutAhead means (length b.state.loads) b (ahead_all means.registry left b)
  unfolding ahead_all
  loads_put front [] b is long = subst (λ (n : ℕ). PutAhead means n b b) (sym (ap length is ∙ ap length (append_none front) ∙ long)) (ahead_none b)
  loads_put front (load ∷ left) b is long =
      let mid : OpenLoads = one_ahead means.registry b load in
      let one : PutAhead means (suc (length b.behind)) b mid = load_placed means b front left load is long (manner_at means.registry b load) refl in
      let more : PutAhead means (length mid.state.loads) mid (ahead_all means.registry left mid) =
      loads_put (front ++ load ∷ []) left mid (ap (λ (s : State). s.loads) one.state ∙ is ∙ sym (append_assoc front (load ∷ []) left)) (one_longer front b.behind load (length mid.behind) long one.long) in
      subst (λ (n : ℕ). PutAhead means n b (ahead_all means.registry left mid)) (ap (λ (s : State). length s.loads) one.state)
      (ahead_both (suc (length b.behind)) (length mid.state.loads) b mid (ahead_all means.registry left mid) one more)

  -- all loads have their places
  pub all_loads_put : (b : OpenLoads) → length b.behind ≤ length b.state.loads → PutAhead means (length b.state.loads) b (ahead_all means.registry (drop (length b.behind) b.state.loads) b)
  all_loads_put b le =
      let parts = parted b.state.loads (length b.behind) le in
      loads_put parts.0 (drop (length b.behind) b.state.loads) b parts.1 parts.2

-- ---- files of the registry

pub record PutWanted (means : Means) (n : ℕ) (b new : OpenLoads) : Type 0 where
  pub steps : Steps means b new
  pub state : new.state ≡ b.state
  pub known : new.known ≡ b.known
  pub stage : new.stage ≡ b.stage
  pub behind : new.behind ≡ b.behind
  pub later : new.later ≡ b.later
  pub long : length new.wanted ≡ n
  pub stored : AreStored (known_now b).store b.wanted b.state.wanted → AreStored (known_now new).store new.wanted new.state.wanted

module _ (means : Means) (b : OpenLoads) (front left : List RegistryFile) (file : RegistryFile) (is : b.state.wanted ≡ front ++ file ∷ left) (long : length front ≡ length b.wanted) where
  -- the place of its question
  abbrev file_place : ℕ × Parts
  file_place = (b.queued, file_url means.registry file)

  abbrev file_due : Due
  file_due = record { ticket = b.queued; question = wanted_question (setting_for b.state.run) (known_now b) file (file_url means.registry file) }

  abbrev first_files : List Due
  first_files = file_dues (setting_for b.state.run) (known_now b) b.wanted b.state.wanted

  abbrev all_contents : List Due
  all_contents = content_dues (known_now b) b.later b.state.contents

  abbrev all_first : List Due
  all_first = dues_of (known_now b) b.behind b.state.loads

  file_one_due : file_dues (setting_for b.state.run) (known_now b) (b.wanted ++ Some file_place ∷ []) b.state.wanted ≡ first_files ++ file_due ∷ []
  file_one_due =
      ap (file_dues (setting_for b.state.run) (known_now b) (b.wanted ++ Some file_place ∷ [])) is
      ∙ files_ahead (setting_for b.state.run) (known_now b) b.wanted file_place front left file long
      ∙ ap (λ (fs : List RegistryFile). file_dues (setting_for b.state.run) (known_now b) b.wanted fs ++ file_due ∷ []) (sym is)

  file_all_dues : (all_first ++ first_files) ++ file_due ∷ all_contents ≡ due_idle (wanted_by means.registry b file false)
  file_all_dues =
      append_assoc all_first first_files (file_due ∷ all_contents)
      ∙ ap (λ (d : List Due). all_first ++ d) (sym (append_assoc first_files (file_due ∷ []) all_contents) ∙ ap (λ (d : List Due). d ++ all_contents) (sym file_one_due))

  -- its question is put
  file_put : is_stored (known_now b).store file ≡ false → PutWanted means (suc (length b.wanted)) b (wanted_by means.registry b file false)
  file_put unknown = record {
    steps = record {
      known = refl;
      kept = refl;
      taken = refl;
      redirects = refl;
      budget = refl;
      added = refl;
      adds = adds_as b.kept b.taken b.max_loads (append_assoc all_first first_files all_contents) file_all_dues (adds_put b.kept b.taken b.max_loads b.queue b.queued (all_first ++ first_files) all_contents (wanted_question (setting_for b.state.run) (known_now b) file (file_url means.registry file)));
      read = λ r. record { held = r.held; named = r.named; ahead_read = r.ahead_read };
      builds = λ told start put r i. record {
        led = i.led;
        ahead = i.ahead;
        wanted = subst (AreWanted (known_now b) means.registry (b.wanted ++ Some file_place ∷ [])) (sym is) (wanted_end (known_now b) means.registry b.wanted file_place front left file long (unknown, refl) (subst (AreWanted (known_now b) means.registry b.wanted) is i.wanted));
      };
    };
    state = refl;
    known = refl;
    stage = refl;
    behind = refl;
    later = refl;
    long = length_more b.wanted (Some file_place);
    stored = λ a. subst (AreStored (known_now b).store (b.wanted ++ Some file_place ∷ [])) (sym is) (stored_end (known_now b).store b.wanted file_place front left file long (subst (AreStored (known_now b).store b.wanted) is a));
  }

  -- or the given store has its answer
  file_skipped : is_stored (known_now b).store file ≡ true → PutWanted means (suc (length b.wanted)) b (wanted_by means.registry b file true)
  file_skipped known = record {
    steps = record {
      known = refl;
      kept = refl;
      taken = refl;
      redirects = refl;
      budget = refl;
      added = refl;
      adds = adds_as b.kept b.taken b.max_loads refl (ap (λ (d : List Due). all_first ++ (d ++ all_contents)) (sym same_dues)) (adds_none b.kept b.taken b.max_loads b.queue b.queued (due_idle b));
      read = λ r. record { held = r.held; named = r.named; ahead_read = r.ahead_read };
      builds = λ told start put r i. record {
        led = i.led;
        ahead = i.ahead;
        wanted = subst (AreWanted (known_now b) means.registry (b.wanted ++ None ∷ [])) (sym is) (wanted_gap (known_now b) means.registry b.wanted front left file long known (subst (AreWanted (known_now b) means.registry b.wanted) is i.wanted));
      };
    };
    state = refl;
    known = refl;
    stage = refl;
    behind = refl;
    later = refl;
    long = length_more b.wanted None;
    stored = λ a. subst (AreStored (known_now b).store (b.wanted ++ None ∷ [])) (sym is) (stored_gap (known_now b).store b.wanted front left file long known (subst (AreStored (known_now b).store b.wanted) is a));
  }
    where
      same_dues : file_dues (setting_for b.state.run) (known_now b) (b.wanted ++ None ∷ []) b.state.wanted ≡ first_files
      same_dues = ap (file_dues (setting_for b.state.run) (known_now b) (b.wanted ++ None ∷ [])) is ∙ files_gap (setting_for b.state.run) (known_now b) b.wanted front left file long ∙ ap (file_dues (setting_for b.state.run) (known_now b) b.wanted) (sym is)

  file_placed : (z : Bool) → is_stored (known_now b).store file ≡ z → PutWanted means (suc (length b.wanted)) b (wanted_by means.registry b file z)
  file_placed true e = file_skipped e
  file_placed false e = file_put e

module _ (means : Means) where
  wanted_none : (b : OpenLoads) → PutWanted means (length b.wanted) b b
  wanted_none b = record { steps = steps_none means b; state = refl; known = refl; stage = refl; behind = refl; later = refl; long = refl; stored = λ a. a }

  wanted_both : (m n : ℕ) (a b c : OpenLoads) → PutWanted means m a b → PutWanted means n b c → PutWanted means n a c
  wanted_both m n a b c p q = record {
    steps = steps_both means a b c p.steps q.steps;
    state = q.state ∙ p.state;
    known = q.known ∙ p.known;
    stage = q.stage ∙ p.stage;
    behind = q.behind ∙ p.behind;
    later = q.later ∙ p.later;
    long = q.long;
    stored = λ s. q.stored (p.stored s);
  }

  files_put : (front left : List RegistryFile) (b : OpenLoads) → b.state.wanted ≡ front ++ left → length front ≡ length b.wanted → PutWanted means (length b.state.wanted) b (wanted_all means.registry left b)
  unfolding wanted_all
  files_put front [] b is long = subst (λ (n : ℕ). PutWanted means n b b) (sym (ap length is ∙ ap length (append_none front) ∙ long)) (wanted_none b)
  files_put front (file ∷ left) b is long =
      let mid : OpenLoads = one_wanted means.registry b file in
      let one : PutWanted means (suc (length b.wanted)) b mid = file_placed means b front left file is long (is_stored (known_now b).store file) refl in
      let more : PutWanted means (length mid.state.wanted) mid (wanted_all means.registry left mid) =
      files_put (front ++ file ∷ []) left mid (ap (λ (s : State). s.wanted) one.state ∙ is ∙ sym (append_assoc front (file ∷ []) left)) (one_longer front b.wanted file (length mid.wanted) long one.long) in
      subst (λ (n : ℕ). PutWanted means n b (wanted_all means.registry left mid)) (ap (λ (s : State). length s.wanted) one.state)
      (wanted_both (suc (length b.wanted)) (length mid.state.wanted) b mid (wanted_all means.registry left mid) one more)

  pub all_files_put : (b : OpenLoads) → length b.wanted ≤ length b.state.wanted → PutWanted means (length b.state.wanted) b (wanted_all means.registry (drop (length b.wanted) b.state.wanted) b)
  all_files_put b le =
      let parts = parted b.state.wanted (length b.wanted) le in
      files_put parts.0 (drop (length b.wanted) b.state.wanted) b parts.1 parts.2

-- ---- contents

pub record PutLater (means : Means) (n : ℕ) (b new : OpenLoads) : Type 0 where
  pub steps : Steps means b new
  pub state : new.state ≡ b.state
  pub known : new.known ≡ b.known
  pub stage : new.stage ≡ b.stage
  pub behind : new.behind ≡ b.behind
  pub wanted : new.wanted ≡ b.wanted
  pub long : length new.later ≡ n

module _ (means : Means) (b : OpenLoads) (front left : List LaterContent) (l : LaterContent) (is : b.state.contents ≡ front ++ l ∷ left) (long : length front ≡ length b.later) where
  abbrev content_due : Due
  content_due = record { ticket = b.queued; question = content_question (known_now b) l }

  abbrev before_first : List Due
  before_first = dues_of (known_now b) b.behind b.state.loads

  abbrev before_files : List Due
  before_files = file_dues (setting_for b.state.run) (known_now b) b.wanted b.state.wanted

  abbrev before_contents : List Due
  before_contents = content_dues (known_now b) b.later b.state.contents

  content_one_due : content_dues (known_now b) (b.later ++ b.queued ∷ []) b.state.contents ≡ before_contents ++ content_due ∷ []
  content_one_due =
      ap (content_dues (known_now b) (b.later ++ b.queued ∷ [])) is
      ∙ dues_later (known_now b) b.later b.queued front left l long
      ∙ ap (λ (ls : List LaterContent). content_dues (known_now b) b.later ls ++ content_due ∷ []) (sym is)

  content_all_dues : (before_first ++ (before_files ++ before_contents)) ++ content_due ∷ [] ≡ due_idle (one_later b l)
  content_all_dues =
      append_assoc before_first (before_files ++ before_contents) (content_due ∷ [])
      ∙ ap (λ (d : List Due). before_first ++ d) (append_assoc before_files before_contents (content_due ∷ []) ∙ ap (λ (d : List Due). before_files ++ d) (sym content_one_due))

  content_placed : PutLater means (suc (length b.later)) b (one_later b l)
  content_placed = record {
    steps = record {
      known = refl;
      kept = refl;
      taken = refl;
      redirects = refl;
      budget = refl;
      added = refl;
      adds = adds_as b.kept b.taken b.max_loads (append_none (before_first ++ (before_files ++ before_contents))) content_all_dues (adds_put b.kept b.taken b.max_loads b.queue b.queued (before_first ++ (before_files ++ before_contents)) [] (content_question (known_now b) l));
      read = λ r. record { held = r.held; named = r.named; ahead_read = r.ahead_read };
      builds = λ told start put r i. record { led = i.led; ahead = i.ahead; wanted = i.wanted };
    };
    state = refl;
    known = refl;
    stage = refl;
    behind = refl;
    wanted = refl;
    long = length_more b.later b.queued;
  }

module _ (means : Means) where
  later_none : (b : OpenLoads) → PutLater means (length b.later) b b
  later_none b = record { steps = steps_none means b; state = refl; known = refl; stage = refl; behind = refl; wanted = refl; long = refl }

  later_both : (m n : ℕ) (a b c : OpenLoads) → PutLater means m a b → PutLater means n b c → PutLater means n a c
  later_both m n a b c p q = record {
    steps = steps_both means a b c p.steps q.steps;
    state = q.state ∙ p.state;
    known = q.known ∙ p.known;
    stage = q.stage ∙ p.stage;
    behind = q.behind ∙ p.behind;
    wanted = q.wanted ∙ p.wanted;
    long = q.long;
  }

  contents_put : (front left : List LaterContent) (b : OpenLoads) → b.state.contents ≡ front ++ left → length front ≡ length b.later → PutLater means (length b.state.contents) b (later_all left b)
  unfolding later_all
  contents_put front [] b is long = subst (λ (n : ℕ). PutLater means n b b) (sym (ap length is ∙ ap length (append_none front) ∙ long)) (later_none b)
  contents_put front (l ∷ left) b is long =
      let mid : OpenLoads = one_later b l in
      let one : PutLater means (suc (length b.later)) b mid = content_placed means b front left l is long in
      let more : PutLater means (length b.state.contents) mid (later_all left mid) =
      contents_put (front ++ l ∷ []) left mid (is ∙ sym (append_assoc front (l ∷ []) left)) (one_longer front b.later l (length mid.later) long one.long) in
      later_both (suc (length b.later)) (length b.state.contents) b mid (later_all left mid) one more

  pub all_contents_put : (b : OpenLoads) → length b.later ≤ length b.state.contents → PutLater means (length b.state.contents) b (later_all (drop (length b.later) b.state.contents) b)
  all_contents_put b le =
      let parts = parted b.state.contents (length b.later) le in
      contents_put parts.0 (drop (length b.later) b.state.contents) b parts.1 parts.2
