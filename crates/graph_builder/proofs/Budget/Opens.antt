-- The questions that a state has to put before the next turn is through.
use Rattle.std.proofs.Common.{◌≡◌, ℕ, ◌+◌, List, [], ◌∷◌, length, Bool, true, false, if◌then◌else◌, Option, refl, sym, ap, ◌∙◌, subst, inl, inr, ⊎_elim, is_some, arith}
use Rattle.std.specs.List.{All, Contains}
use Rattle.std.proofs.lemmas.Bool.{true≢false}
use Rattle.std.proofs.lemmas.List.Elements.{All-cons, All-nil}
use Rattle.std.specs.FinMap as finite
use Rattle.spec_base.specs.Specifier.{specifier_text}
use Rattle.semver_npm.specs.declared.package.PackageNv.{PackageNv}
use Rattle.source_io.specs.declared.types.CacheSetting.{CacheSetting}
use Rattle.source_io.specs.declared.types.World.{World}
use Rattle.registry_urls.specs.Meaning.{RegistryMeaning}
use Rattle.module_slots.specs.declared.load.Load.{Load}
use Rattle.graph_turns.specs.declared.question_of.Asked.{Asked}
use Rattle.graph_turns.specs.declared.later_content.LaterContent.{LaterContent}
use Rattle.graph_turns.specs.declared.manner.Manner.{Manner}
use Rattle.graph_turns.specs.declared.manner.Manner.TheVariants.{Asks as IsAskedAs, Reads as ReadsFirst, Unread, Unsupported}
use Rattle.graph_turns.specs.declared.next.Next.TheVariants.{Load as ALoad}
use Rattle.graph_turns.specs.declared.registry.RegistryFile.{RegistryFile}
use Rattle.graph_turns.specs.declared.registry.RegistryFile.TheVariants.{Version}
use Rattle.graph_turns.specs.declared.state.State.{State}
use Rattle.graph_turns.specs.Machine.Known.{Known}
use Rattle.graph_turns.specs.Machine.Next.{next_of}
use Rattle.graph_turns.specs.Machine.Turns.{manner_in}
use Rattle.graph_turns.specs.Promise.Versions.{is_stored}
use Rattle.graph_turns.specs.Promise.Input.{EnteredGraph}
use Rattle.open_loads.specs.Budget.Open.{ahead_count, asked_count, file_count, load_count, open_by}
use Rattle.open_loads.specs.Budget.Runs.{Answered, Filled, LookedUp, Passed, Read}
use Rattle.open_loads.specs.declared.turn_stage.Stage.{Stage}
use Rattle.open_loads.specs.Order.Asking.{IsNext, through}
use Rattle.open_loads.specs.Order.Asking.IsNext.{rests, asks, asks_again_by, reads, looks, fills}
use Rattle.turn_laws.proofs.Budget.Contents.{HasContent, OnceContent}
use Rattle.turn_laws.proofs.Budget.Pairs.{HasPair}
use Rattle.turn_laws.proofs.Budget.Versions.{OnceRead, WasRead}
use Rattle.turn_laws.proofs.Budget.Wanted.{HasFile, OnceFile}
use Rattle.graph_turns.proofs.Entering.Loads.{HasLoad, Once}
use Rattle.graph_turns.proofs.Entering.Manners.{reads_is}
use Rattle.graph_builder.proofs.Budget.Orderly.{Orderly, answered_in, filled_in, looked_in, read_in}
use Rattle.graph_builder.proofs.Budget.Put.{HasPut, IsPlain, put_as, put_content, put_looked, put_none, put_once, put_twice, put_version}
use Rattle.graph_builder.proofs.Calls.Waiting.{contains_first, contains_later}

-- ---- the loads behind the first one that are asked about

-- a load with its first question, where it is asked about before all else
abbrev asked_before : Load → Manner → List Passed → List Passed
asked_before load (IsAskedAs asked) rest = Answered load asked ∷ rest
asked_before load (ReadsFirst nv) rest = rest
asked_before load (Unread name e) rest = rest
asked_before load Unsupported rest = rest

module _ (known : Known) (registry : RegistryMeaning) (s : State) where
  abbrev asked_ahead : List Load → List Passed
  asked_ahead [] = []
  asked_ahead (load ∷ loads) = asked_before load (manner_in known.sums registry s load) (asked_ahead loads)

  plain_ahead : (loads : List Load) → IsPlain (asked_ahead loads)
  plain_ahead [] = tt
  plain_ahead (load ∷ loads) = by (manner_in known.sums registry s load) (plain_ahead loads)
    where
      by : (m : Manner) → IsPlain (asked_ahead loads) → IsPlain (asked_before load m (asked_ahead loads))
      by (IsAskedAs asked) rest = rest
      by (ReadsFirst nv) rest = rest
      by (Unread name e) rest = rest
      by Unsupported rest = rest

  pub has_ahead : (setting : CacheSetting) (loader : Option World) (loads : List Load) → HasPut known registry setting loader (asked_ahead loads) (ahead_count known registry s loads)
  has_ahead setting loader [] = put_none
  has_ahead setting loader (load ∷ loads) = by (manner_in known.sums registry s load) (has_ahead setting loader loads)
    where
      by : (m : Manner) → HasPut known registry setting loader (asked_ahead loads) (ahead_count known registry s loads) → HasPut known registry setting loader (asked_before load m (asked_ahead loads)) (asked_count m + ahead_count known registry s loads)
      by (IsAskedAs asked) rest = put_once load asked rest
      by (ReadsFirst nv) rest = put_as rest (omega arith)
      by (Unread name e) rest = put_as rest (omega arith)
      by Unsupported rest = put_as rest (omega arith)

  -- they are among the loads
  pair_ahead : (loads : List Load) (k : List ℕ) (b : Bool) → HasPair k b (answered_in (asked_ahead loads)) → HasPair k b loads
  pair_ahead [] k b h = h
  pair_ahead (load ∷ loads) k b h = by (manner_in known.sums registry s load) (pair_ahead loads k b) h
    where
      by : (m : Manner) → (HasPair k b (answered_in (asked_ahead loads)) → HasPair k b loads) → HasPair k b (answered_in (asked_before load m (asked_ahead loads))) → HasPair k b (load ∷ loads)
      by (IsAskedAs asked) rest (inl e) = inl e
      by (IsAskedAs asked) rest (inr h) = inr (rest h)
      by (ReadsFirst nv) rest h = inr (rest h)
      by (Unread name e) rest h = inr (rest h)
      by Unsupported rest h = inr (rest h)

  load_ahead : (loads : List Load) (k : List ℕ) → HasLoad k (answered_in (asked_ahead loads)) → HasLoad k loads
  load_ahead [] k h = h
  load_ahead (load ∷ loads) k h = by (manner_in known.sums registry s load) (load_ahead loads k) h
    where
      by : (m : Manner) → (HasLoad k (answered_in (asked_ahead loads)) → HasLoad k loads) → HasLoad k (answered_in (asked_before load m (asked_ahead loads))) → HasLoad k (load ∷ loads)
      by (IsAskedAs asked) rest (inl e) = inl e
      by (IsAskedAs asked) rest (inr h) = inr (rest h)
      by (ReadsFirst nv) rest h = inr (rest h)
      by (Unread name e) rest h = inr (rest h)
      by Unsupported rest h = inr (rest h)

  once_ahead : (loads : List Load) → Once loads → Once (answered_in (asked_ahead loads))
  once_ahead [] once = tt
  once_ahead (load ∷ loads) once = by (manner_in known.sums registry s load) (once_ahead loads once.1)
    where
      by : (m : Manner) → Once (answered_in (asked_ahead loads)) → Once (answered_in (asked_before load m (asked_ahead loads)))
      by (IsAskedAs asked) rest = (λ h. once.0 (load_ahead loads (specifier_text load.specifier) h), rest)
      by (ReadsFirst nv) rest = rest
      by (Unread name e) rest = rest
      by Unsupported rest = rest

  -- no file is read and no content comes for them
  read_ahead : (loads : List Load) → read_in (asked_ahead loads) ≡ []
  read_ahead [] = refl
  read_ahead (load ∷ loads) = by (manner_in known.sums registry s load) (read_ahead loads)
    where
      by : (m : Manner) → read_in (asked_ahead loads) ≡ [] → read_in (asked_before load m (asked_ahead loads)) ≡ []
      by (IsAskedAs asked) rest = rest
      by (ReadsFirst nv) rest = rest
      by (Unread name e) rest = rest
      by Unsupported rest = rest

  looked_ahead : (loads : List Load) → looked_in (asked_ahead loads) ≡ []
  looked_ahead [] = refl
  looked_ahead (load ∷ loads) = by (manner_in known.sums registry s load) (looked_ahead loads)
    where
      by : (m : Manner) → looked_in (asked_ahead loads) ≡ [] → looked_in (asked_before load m (asked_ahead loads)) ≡ []
      by (IsAskedAs asked) rest = rest
      by (ReadsFirst nv) rest = rest
      by (Unread name e) rest = rest
      by Unsupported rest = rest

  filled_ahead : (loads : List Load) → filled_in (asked_ahead loads) ≡ []
  filled_ahead [] = refl
  filled_ahead (load ∷ loads) = by (manner_in known.sums registry s load) (filled_ahead loads)
    where
      by : (m : Manner) → filled_in (asked_ahead loads) ≡ [] → filled_in (asked_before load m (asked_ahead loads)) ≡ []
      by (IsAskedAs asked) rest = rest
      by (ReadsFirst nv) rest = rest
      by (Unread name e) rest = rest
      by Unsupported rest = rest

  -- what holds of each open load that is asked about, and of each file that is wanted
  abbrev IsOfAsked : (Passed → Type 0) → Type 0
  IsOfAsked P = (load : Load) (asked : Asked) → Contains s.loads load → manner_in known.sums registry s load ≡ IsAskedAs asked → P (Answered load asked)

  abbrev IsOfRead : (Passed → Type 0) → Type 0
  IsOfRead P = (load : Load) (nv : PackageNv) → Contains s.loads load → manner_in known.sums registry s load ≡ ReadsFirst nv → is_stored known.store (Version nv) ≡ false → P (Read nv)

  abbrev IsOfWanted : (Passed → Type 0) → Type 0
  IsOfWanted P = (f : RegistryFile) → HasFile f s.wanted → is_stored known.store f ≡ false → P (LookedUp f)

  abbrev IsOfContent : (Passed → Type 0) → Type 0
  IsOfContent P = (l : LaterContent) → Contains s.contents l → P (Filled l)

  all_ahead : (P : Passed → Type 0) (loads : List Load) → ((load : Load) → Contains loads load → Contains s.loads load) → IsOfAsked P → All P (asked_ahead loads)
  all_ahead P [] within each = All-nil P
  all_ahead P (load ∷ loads) within each = by (manner_in known.sums registry s load) refl (all_ahead P loads (λ l among. within l (contains_later load l loads among)) each)
    where
      by : (m : Manner) → manner_in known.sums registry s load ≡ m → All P (asked_ahead loads) → All P (asked_before load m (asked_ahead loads))
      by (IsAskedAs asked) e rest = All-cons P (Answered load asked) (asked_ahead loads) (each load asked (within load (contains_first load loads)) e) rest
      by (ReadsFirst nv) e rest = rest
      by (Unread name x) e rest = rest
      by Unsupported e rest = rest

-- ---- files that a pass wants

-- those whose answers don't stand in the given store
abbrev wants_in : Known → List RegistryFile → List Passed
wants_in known [] = []
wants_in known (file ∷ files) = if is_stored known.store file then wants_in known files else LookedUp file ∷ wants_in known files

module _ (known : Known) where
  -- what is so of them by each file
  by_wants : (P : List Passed → Type 0) (file : RegistryFile) (files : List RegistryFile) → P (wants_in known files) → P (LookedUp file ∷ wants_in known files) → P (wants_in known (file ∷ files))
  by_wants P file files less more = by (is_stored known.store file)
    where
      by : (b : Bool) → P (if b then wants_in known files else LookedUp file ∷ wants_in known files)
      by true = less
      by false = more

  plain_wants : (files : List RegistryFile) → IsPlain (wants_in known files)
  plain_wants [] = tt
  plain_wants (file ∷ files) = by_wants IsPlain file files (plain_wants files) (plain_wants files)

  has_wants : (registry : RegistryMeaning) (setting : CacheSetting) (loader : Option World) (files : List RegistryFile) → HasPut known registry setting loader (wants_in known files) (file_count known files)
  has_wants registry setting loader [] = put_none
  has_wants registry setting loader (file ∷ files) = by (is_stored known.store file) (has_wants registry setting loader files)
    where
      by : (b : Bool) → HasPut known registry setting loader (wants_in known files) (file_count known files) → HasPut known registry setting loader (if b then wants_in known files else LookedUp file ∷ wants_in known files) ((if b then 0 else 1) + file_count known files)
      by true rest = put_as rest (omega arith)
      by false rest = put_looked file rest

  answered_wants : (files : List RegistryFile) → answered_in (wants_in known files) ≡ []
  answered_wants [] = refl
  answered_wants (file ∷ files) = by_wants (λ l. answered_in l ≡ []) file files (answered_wants files) (answered_wants files)

  read_wants : (files : List RegistryFile) → read_in (wants_in known files) ≡ []
  read_wants [] = refl
  read_wants (file ∷ files) = by_wants (λ l. read_in l ≡ []) file files (read_wants files) (read_wants files)

  filled_wants : (files : List RegistryFile) → filled_in (wants_in known files) ≡ []
  filled_wants [] = refl
  filled_wants (file ∷ files) = by_wants (λ l. filled_in l ≡ []) file files (filled_wants files) (filled_wants files)

  -- they are among those
  looked_wants : (files : List RegistryFile) (f : RegistryFile) → HasFile f (looked_in (wants_in known files)) → HasFile f files
  looked_wants [] f h = h
  looked_wants (file ∷ files) f h = by_wants (λ l. HasFile f (looked_in l) → HasFile f (file ∷ files)) file files (λ g. inr (looked_wants files f g)) (λ g. ⊎_elim inl (λ r. inr (looked_wants files f r)) g) h

  once_wants : (files : List RegistryFile) → OnceFile files → OnceFile (looked_in (wants_in known files))
  once_wants [] once = tt
  once_wants (file ∷ files) once = by_wants (λ l. OnceFile (looked_in l)) file files (once_wants files once.1) (λ h. once.0 (looked_wants files file h), once_wants files once.1)

  all_wants : (s : State) (P : Passed → Type 0) (files : List RegistryFile) → ((f : RegistryFile) → HasFile f files → HasFile f s.wanted) → ((f : RegistryFile) → HasFile f s.wanted → is_stored known.store f ≡ false → P (LookedUp f)) → All P (wants_in known files)
  all_wants s P [] within each = All-nil P
  all_wants s P (file ∷ files) within each = by (is_stored known.store file) refl (all_wants s P files (λ f h. within f (inr h)) each)
    where
      by : (b : Bool) → is_stored known.store file ≡ b → All P (wants_in known files) → All P (if b then wants_in known files else LookedUp file ∷ wants_in known files)
      by true t rest = rest
      by false fresh rest = All-cons P (LookedUp file) (wants_in known files) (each file (within file (inl refl)) fresh) rest

-- ---- contents

abbrev comes_in : List LaterContent → List Passed
comes_in [] = []
comes_in (l ∷ ls) = Filled l ∷ comes_in ls

has_contents : (known : Known) (registry : RegistryMeaning) (setting : CacheSetting) (loader : Option World) (ls : List LaterContent) → HasPut known registry setting loader (comes_in ls) (length ls)
has_contents known registry setting loader [] = put_none
has_contents known registry setting loader (l ∷ ls) = put_as (put_content l (has_contents known registry setting loader ls)) (omega arith)

answered_none : (ls : List LaterContent) → answered_in (comes_in ls) ≡ []
answered_none [] = refl
answered_none (l ∷ ls) = answered_none ls

read_none : (ls : List LaterContent) → read_in (comes_in ls) ≡ []
read_none [] = refl
read_none (l ∷ ls) = read_none ls

looked_none : (ls : List LaterContent) → looked_in (comes_in ls) ≡ []
looked_none [] = refl
looked_none (l ∷ ls) = looked_none ls

plain_contents : (ls : List LaterContent) → IsPlain (comes_in ls)
plain_contents [] = tt
plain_contents (l ∷ ls) = plain_contents ls

filled_same : (ls : List LaterContent) → filled_in (comes_in ls) ≡ ls
filled_same [] = refl
filled_same (l ∷ ls) = ap (λ xs. l ∷ xs) (filled_same ls)

all_contents : (s : State) (P : Passed → Type 0) (ls : List LaterContent) → ((l : LaterContent) → Contains ls l → Contains s.contents l) → ((l : LaterContent) → Contains s.contents l → P (Filled l)) → All P (comes_in ls)
all_contents s P [] within each = All-nil P
all_contents s P (l ∷ ls) within each = All-cons P (Filled l) (comes_in ls) (each l (within l (contains_first l ls))) (all_contents s P ls (λ m among. within m (contains_later l m ls among)) each)

-- ---- all that is open

-- what a state is still to ask about, each once, and none of it was asked about
pub record Opens (loader : Option World) (known : Known) (registry : RegistryMeaning) (setting : CacheSetting) (s : State) (stage : Stage) : Type 1 where
  pub still : List Passed
  pub plain : IsPlain still
  pub has : HasPut known registry setting loader still (through stage + open_by known registry s (next_of s))
  pub pairs : (k : List ℕ) (b : Bool) → HasPair k b (answered_in still) → HasPair k b s.loads
  pub once_loads : Once (answered_in still)
  pub once_read : OnceRead (read_in still)
  pub fresh_read : (nv : PackageNv) → WasRead nv (read_in still) → finite.contains_key s.files nv ≡ true → ⊥
  pub looked : (f : RegistryFile) → HasFile f (looked_in still) → HasFile f s.wanted
  pub once_looked : OnceFile (looked_in still)
  pub apart : (nv : PackageNv) → WasRead nv (read_in still) → HasFile (Version nv) (looked_in still) → ⊥
  pub contents : (k : List ℕ) → HasContent k (filled_in still) → HasContent k s.contents
  pub once_contents : OnceContent (filled_in still)
  pub each : (P : Passed → Type 0) → IsOfAsked known registry s P → IsOfRead known registry s P → IsOfWanted known registry s P → IsOfContent known registry s P → All P still

module _ {early : Type 0} {by : Known} (loader : Option World) (known : Known) (registry : RegistryMeaning) (setting : CacheSetting) (o : EnteredGraph) (past : List Passed) (s : State) (now : Orderly early by registry o past s) where
  -- the first load is asked about, by one question or two, and those behind it
  of_first : (stage : Stage) (load : Load) (loads : List Load) (asked : Asked) → next_of s ≡ ALoad → s.loads ≡ load ∷ loads → manner_in known.sums registry s load ≡ IsAskedAs asked → HasPut known registry setting loader (Answered load asked ∷ asked_ahead known registry s loads) (through stage + (1 + ahead_count known registry s loads)) → Opens loader known registry setting s stage
  of_first stage load loads asked is e how has =
      let once : Once (load ∷ loads) = subst Once e now.counts.sound.once in
      let count : open_by known registry s (next_of s) ≡ 1 + ahead_count known registry s loads = ap (open_by known registry s) is ∙ ap (load_count known registry s) e in
      record {
        still = Answered load asked ∷ asked_ahead known registry s loads;
        plain = plain_ahead known registry s loads;
        has = put_as has (ap (λ n. through stage + n) count);
        pairs = λ k b h. subst (HasPair k b) (sym e) (⊎_elim inl (λ r. inr (pair_ahead known registry s loads k b r)) h);
        once_loads = (λ h. once.0 (load_ahead known registry s loads (specifier_text load.specifier) h), once_ahead known registry s loads once.1);
        once_read = subst OnceRead (sym (read_ahead known registry s loads)) tt;
        fresh_read = λ nv h t. subst (WasRead nv) (read_ahead known registry s loads) h;
        looked = λ f h. absurd (subst (HasFile f) (looked_ahead known registry s loads) h);
        once_looked = subst OnceFile (sym (looked_ahead known registry s loads)) tt;
        apart = λ nv h among. subst (WasRead nv) (read_ahead known registry s loads) h;
        contents = λ k h. absurd (subst (HasContent k) (filled_ahead known registry s loads) h);
        once_contents = subst OnceContent (sym (filled_ahead known registry s loads)) tt;
        each = λ P of_asked of_read of_wanted of_content.
            All-cons P (Answered load asked) (asked_ahead known registry s loads) (of_asked load asked (subst (λ (ls : List Load). Contains ls load) (sym e) (contains_first load loads)) how)
            (all_ahead known registry s P loads (λ l among. subst (λ (ls : List Load). Contains ls l) (sym e) (contains_later load l loads among)) of_asked);
      }

  pub opens : (stage : Stage) → IsNext loader known registry s stage → Opens loader known registry setting s stage
  opens stage (rests is) =
      let nothing : open_by known registry s (next_of s) ≡ 0 = ap (open_by known registry s) is in
      record {
        still = [];
        plain = tt;
        has = put_as put_none (omega (arith, nothing));
        pairs = λ k b h. absurd h;
        once_loads = tt;
        once_read = tt;
        fresh_read = λ nv h t. h;
        looked = λ f h. absurd h;
        once_looked = tt;
        apart = λ nv h among. h;
        contents = λ k h. absurd h;
        once_contents = tt;
        each = λ P of_asked of_read of_wanted of_content. All-nil P;
      }
  opens stage (asks {ticket} {asked} {load} {loads} is e how) = of_first stage load loads asked is e how (put_as (put_once load asked (has_ahead known registry s setting loader loads)) (omega arith))
  opens stage (asks_again_by {ticket} {asked} {first} {load} {loads} is e how right again) = of_first stage load loads asked is e how (put_as (put_twice load asked (first, right, again) (has_ahead known registry s setting loader loads)) (omega arith))
  opens stage (reads {ticket} {nv} {at} {load} {loads} is e how fresh at_is) =
      let once : Once (load ∷ loads) = subst Once e now.counts.sound.once in
      let unknown = (reads_is known.sums registry (finite.get s.files) load.specifier load.context nv how).unknown in
      let count : open_by known registry s (next_of s) ≡ 1 + ahead_count known registry s loads = ap (open_by known registry s) is ∙ ap (load_count known registry s) e in
      record {
        still = Read nv ∷ asked_ahead known registry s loads;
        plain = plain_ahead known registry s loads;
        has = put_as (put_version nv (has_ahead known registry s setting loader loads)) (omega (arith, count));
        pairs = λ k b h. subst (HasPair k b) (sym e) (inr (pair_ahead known registry s loads k b h));
        once_loads = once_ahead known registry s loads once.1;
        once_read = (λ h. subst (WasRead nv) (read_ahead known registry s loads) h, subst OnceRead (sym (read_ahead known registry s loads)) tt);
        fresh_read = λ q h t. ⊎_elim
            (λ same. true≢false (sym t ∙ ap (λ (x : PackageNv). finite.contains_key s.files x) same ∙ ap is_some unknown))
            (λ r. subst (WasRead q) (read_ahead known registry s loads) r)
            h;
        looked = λ f h. absurd (subst (HasFile f) (looked_ahead known registry s loads) h);
        once_looked = subst OnceFile (sym (looked_ahead known registry s loads)) tt;
        apart = λ q h among. subst (HasFile (Version q)) (looked_ahead known registry s loads) among;
        contents = λ k h. absurd (subst (HasContent k) (filled_ahead known registry s loads) h);
        once_contents = subst OnceContent (sym (filled_ahead known registry s loads)) tt;
        each = λ P of_asked of_read of_wanted of_content.
            All-cons P (Read nv) (asked_ahead known registry s loads) (of_read load nv (subst (λ (ls : List Load). Contains ls load) (sym e) (contains_first load loads)) how fresh)
            (all_ahead known registry s P loads (λ l among. subst (λ (ls : List Load). Contains ls l) (sym e) (contains_later load l loads among)) of_asked);
      }
  opens stage (looks {ticket} {at} {file} {files} is e fresh at_is) =
      let count : open_by known registry s (next_of s) ≡ file_count known s.wanted = ap (open_by known registry s) is in
      record {
        still = wants_in known s.wanted;
        plain = plain_wants known s.wanted;
        has = put_as (has_wants known registry setting loader s.wanted) (omega (arith, count));
        pairs = λ k b h. absurd (subst (HasPair k b) (answered_wants known s.wanted) h);
        once_loads = subst Once (sym (answered_wants known s.wanted)) tt;
        once_read = subst OnceRead (sym (read_wants known s.wanted)) tt;
        fresh_read = λ nv h t. subst (WasRead nv) (read_wants known s.wanted) h;
        looked = looked_wants known s.wanted;
        once_looked = once_wants known s.wanted now.counts.files.wanted_once;
        apart = λ nv h among. subst (WasRead nv) (read_wants known s.wanted) h;
        contents = λ k h. absurd (subst (HasContent k) (filled_wants known s.wanted) h);
        once_contents = subst OnceContent (sym (filled_wants known s.wanted)) tt;
        each = λ P of_asked of_read of_wanted of_content. all_wants known s P s.wanted (λ f among. among) of_wanted;
      }
  opens stage (fills {ticket} {l} {ls} is e) =
      let count : open_by known registry s (next_of s) ≡ length s.contents = ap (open_by known registry s) is in
      record {
        still = comes_in s.contents;
        plain = plain_contents s.contents;
        has = put_as (has_contents known registry setting loader s.contents) (omega (arith, count));
        pairs = λ k b h. absurd (subst (HasPair k b) (answered_none s.contents) h);
        once_loads = subst Once (sym (answered_none s.contents)) tt;
        once_read = subst OnceRead (sym (read_none s.contents)) tt;
        fresh_read = λ nv h t. subst (WasRead nv) (read_none s.contents) h;
        looked = λ f h. absurd (subst (HasFile f) (looked_none s.contents) h);
        once_looked = subst OnceFile (sym (looked_none s.contents)) tt;
        apart = λ nv h among. subst (WasRead nv) (read_none s.contents) h;
        contents = λ k h. subst (HasContent k) (filled_same s.contents) h;
        once_contents = subst OnceContent (sym (filled_same s.contents)) now.counts.contents.once;
        each = λ P of_asked of_read of_wanted of_content. all_contents s P s.contents (λ m among. among) of_content;
      }
