-- That nothing is left out where files of the registry and notes are kept, and where a content that comes later is stored.
use Rattle.std.proofs.Common.{◌≡◌, ◌≢◌, ℕ, List, [], ◌∷◌, fold, Bool, true, false, Option, None, Some, Result, Ok, Err, refl, sym, ap, ◌∙◌, subst, inl, inr, ⊎_elim, ◌⊎◌}
use Rattle.std.specs.FinMap as finite
use Rattle.spec_base.specs.Specifier.{specifier_text}
use Rattle.spec_base.specs.Options.{by_option}
use Rattle.semver_npm.specs.declared.package.PackageNv.{PackageNv}
use Rattle.pkg_records.specs.Kept.{with_dependency}
use Rattle.registry_urls.specs.Meaning.{RegistryMeaning}
use Rattle.registry_files.specs.Answers.{FileAnswer}
use Rattle.registry_files.specs.declared.kept_version.KeptVersion.{KeptVersion}
use Rattle.graph_errors.specs.declared.jsr_error.JsrLoadError.{JsrLoadError}
use Rattle.graph_core.specs.declared.graph.ModuleGraph.{ModuleGraph}
use Rattle.module_slots.specs.declared.load.Load.{Load}
use Rattle.module_slots.specs.declared.slot.Module.{Module}
use Rattle.module_slots.specs.declared.slot.ModuleSlot.{ModuleSlot}
use Rattle.module_slots.specs.declared.slot.ModuleSlot.TheVariants.{Module as Stands, Err as Failed, Pending}
use Rattle.slot_making.specs.Filled.{filled_slot}
use Rattle.module_slots.specs.Slots.{is_asset_slot}
use Rattle.graph_turns.specs.declared.dependencies.Note.{Note}
use Rattle.graph_turns.specs.declared.later_content.LaterContent.{LaterContent}
use Rattle.graph_turns.specs.declared.registry.RegistryFile.{RegistryFile}
use Rattle.graph_turns.specs.declared.registry.RegistryFile.TheVariants.{Package, PackageAgain, Version, Probe}
use Rattle.graph_turns.specs.declared.state.State.{State}
use Rattle.graph_turns.specs.Machine.Contents.{content_placed, filled_at}
use Rattle.graph_turns.specs.Machine.Files.{file_kept}
use Rattle.graph_turns.specs.Machine.RegistryFiles.{answer_kept, first_kept, wanted_kept}
use Rattle.graph_turns.specs.Machine.Waiting.{notes_added, with_noted}
use Rattle.graph_turns.specs.Promise.Contents.{content_error}
use Rattle.graph_turns.specs.Promise.Input.{EnteredGraph, starts}
use Rattle.graph_turns.specs.Promise.Versions.{kept_of}
use Rattle.graph_core.proofs.At.{cases_text, put_same, put_other}
use Rattle.graph_turns.proofs.Entering.Contents.{ContentPlaced, SlotFilled, how_content, how_filled}
use Rattle.graph_turns.proofs.Entering.Contents.ContentPlaced.{came, missed}
use Rattle.graph_turns.proofs.Entering.Contents.SlotFilled.{stands as stands_filled, gone}
use Rattle.graph_turns.proofs.Entering.Loads.{HasLoad}
use Rattle.graph_turns.proofs.Leading.Ways.{put_at}
use Rattle.turn_laws.proofs.Promise.Afresh.{IsFree}
use Rattle.turn_laws.proofs.Promise.Filling.{IsFilled, asset_unfilled, filled_before, filled_inside, filled_open, how_filled as how_slot, put_back}
use Rattle.turn_laws.proofs.Promise.Sound.{HasAwaited, IsLeft, IsWanted, Sound, asset_at, end_put, lead_put, nothing, shut_put, sound_beside, stands_put}
use Rattle.turn_laws.proofs.Promise.Storing.{Taken, settle, sound_put}

-- ---- packages

-- a graph with other packages
pub record HasSame (g u : ModuleGraph) : Type 0 where
  pub slots : u.slots ≡ g.slots
  pub redirects : u.redirects ≡ g.redirects
  pub starts_are : starts u ≡ starts g

one_noted : (registry : RegistryMeaning) (g : ModuleGraph) (note : Note) → HasSame g (with_noted registry g note)
one_noted registry g note = by (registry.nv_of note.referrer)
  where
    by : (found : Option PackageNv) → HasSame g (by_option found g (λ nv. record g { packages = with_dependency g.packages nv note.dependency }))
    by None = record { slots = refl; redirects = refl; starts_are = refl }
    by (Some nv) = record { slots = refl; redirects = refl; starts_are = refl }

pub all_noted : (registry : RegistryMeaning) (notes : List Note) (g : ModuleGraph) → HasSame g (fold (with_noted registry) g notes)
all_noted registry [] g = record { slots = refl; redirects = refl; starts_are = refl }
all_noted registry (note ∷ notes) g =
    let first = one_noted registry g note in
    let rest = all_noted registry notes (with_noted registry g note) in
    record { slots = rest.slots ∙ first.slots; redirects = rest.redirects ∙ first.redirects; starts_are = rest.starts_are ∙ first.starts_are }

module _ (o : EnteredGraph) (early : Type 0) where
  -- it doesn't hang on contents that are to come
  pub sound_contents : (excused : List ℕ → Type 0) (due : List Load) (s : State) (ls : List LaterContent) → Sound o early excused nothing due s → Sound o early excused nothing due (record s { contents = ls })
  sound_contents excused due s ls sound = sound_beside o early excused nothing due s (record s { contents = ls }) (record { slots = refl; redirects = refl; starts_are = refl; flags = refl; loads = refl }) refl refl refl refl sound

  pub taken_contents : (a : List ℕ) (s : State) (ls : List LaterContent) → Taken o early a s → Taken o early a (record s { contents = ls })
  taken_contents a s ls took = record { sound = sound_contents (λ k. k ≡ a) [] s ls took.sound; here = took.here; others = took.others }

  -- ---- files

  -- the file of a version is kept
  pub sound_file : (s : State) (nv : PackageNv) (read : Result KeptVersion JsrLoadError) → Sound o early nothing nothing [] s → Sound o early nothing nothing [] (file_kept s nv read)
  sound_file s nv (Err e) sound = sound_beside o early nothing nothing [] s (file_kept s nv (Err e)) (record { slots = refl; redirects = refl; starts_are = refl; flags = refl; loads = refl }) refl refl refl refl sound
  sound_file s nv (Ok v) sound = sound_beside o early nothing nothing [] s (file_kept s nv (Ok v)) (record { slots = refl; redirects = refl; starts_are = refl; flags = refl; loads = refl }) refl refl refl refl sound

  sound_answer : (registry : RegistryMeaning) (s : State) (file : RegistryFile) (answer : FileAnswer) → Sound o early nothing nothing [] s → Sound o early nothing nothing [] (answer_kept registry s file answer)
  sound_answer registry s (Package name) answer sound = sound_beside o early nothing nothing [] s (answer_kept registry s (Package name) answer) (record { slots = refl; redirects = refl; starts_are = refl; flags = refl; loads = refl }) refl refl refl refl sound
  sound_answer registry s (PackageAgain name) answer sound = sound_beside o early nothing nothing [] s (answer_kept registry s (PackageAgain name) answer) (record { slots = refl; redirects = refl; starts_are = refl; flags = refl; loads = refl }) refl refl refl refl sound
  sound_answer registry s (Probe nv) answer sound = sound_beside o early nothing nothing [] s (answer_kept registry s (Probe nv) answer) (record { slots = refl; redirects = refl; starts_are = refl; flags = refl; loads = refl }) refl refl refl refl sound
  sound_answer registry s (Version nv) answer sound = sound_file s nv (kept_of registry nv answer) sound

  -- what was answered about the first file that a pass wants is kept
  pub sound_wanted : (registry : RegistryMeaning) (s : State) (answer : FileAnswer) → Sound o early nothing nothing [] s → Sound o early nothing nothing [] (wanted_kept registry s answer)
  sound_wanted registry s answer sound = by s.wanted
    where
      by : (files : List RegistryFile) → Sound o early nothing nothing [] (first_kept registry s answer files)
      by [] = sound
      by (file ∷ files) = sound_answer registry (record s { wanted = files }) file answer
          (sound_beside o early nothing nothing [] s (record s { wanted = files }) (record { slots = refl; redirects = refl; starts_are = refl; flags = refl; loads = refl }) refl refl refl refl sound)

  -- ---- notes

  -- packages get what they depend on
  pub sound_notes : (registry : RegistryMeaning) (s : State) → Sound o early nothing nothing [] s → Sound o early nothing nothing [] (notes_added registry s)
  sound_notes registry s sound =
      let is = all_noted registry s.notes s.graph in
      sound_beside o early nothing nothing [] s (notes_added registry s) (record { slots = is.slots; redirects = is.redirects; starts_are = is.starts_are; flags = refl; loads = refl }) refl refl refl refl sound

  -- ---- contents

  -- a module gets its content where nothing stood at entry but what is asked for again: its edges stay
  sound_filled : (s : State) (k : List ℕ) (v u : ModuleSlot) → IsFilled v u → finite.get s.graph.slots k ≡ Some v → IsFree o k → Sound o early nothing nothing [] s → Sound o early nothing nothing [] (record s { graph = put_at s.graph k u })
  sound_filled s k v u how at free sound = record {
    given = sound.given;
    ends = λ x. ⊎_elim (λ e. inl (end_put s.graph k u x e)) (λ m. inr (m.0, lead_put s.graph k u (λ e. IsLeft [] s e ⊎ (HasAwaited s e ⊎ nothing e)) (λ e. IsLeft [] s e ⊎ (HasAwaited s e ⊎ nothing e)) x (λ e ne l. l) m.1)) (sound.ends x);
    asked = λ q b p. sound.asked q b (was_open q b p);
    held = λ q h. stands_put s.graph k u q (sound.held q h);
    shut = λ q h. shut_put s.graph k u q (λ same. filled_inside v u how (sym (ap asset_at at) ∙ subst (λ z. asset_at (finite.get s.graph.slots z) ≡ false) same (sound.shut q h))) (sound.shut q h);
    once = sound.once;
    keyed = sound.keyed;
    wanted = λ t w. ⊎_elim (λ l. inl (lead_put s.graph k u (λ e. HasAwaited s e ⊎ nothing e) (λ e. HasAwaited s e ⊎ nothing e) t (λ e ne m. m) l)) inr (sound.wanted t (was_wanted t w));
    plain = sound.plain;
    packages = sound.packages;
    entering = sound.entering;
  }
    where
      was_open : (q : List ℕ) (b : Bool) → finite.get (finite.insert s.graph.slots k u) q ≡ Some (Pending b) → finite.get s.graph.slots q ≡ Some (Pending b)
      was_open q b p = ⊎_elim
          (λ same.
          let here = subst (λ z. finite.get (finite.insert s.graph.slots k u) z ≡ Some (Pending b)) same p in
          let there = put_same s.graph.slots k u in
          let one : u ≡ Pending b = cc in
          subst (λ z. finite.get s.graph.slots z ≡ Some (Pending b)) (sym same) (at ∙ ap Some (filled_open v u b how one)))
          (λ ne. sym (put_other s.graph.slots k u q ne) ∙ p)
          (cases_text q k)

      -- the module at k wasn't there at entry
      fresh : (n m : Module) → u ≡ Stands n → v ≡ Stands m → (finite.get o.graph.slots k ≡ Some (Stands n) → ⊥) → finite.get o.graph.slots k ≡ Some (Stands m) → ⊥
      fresh n m now was new stood = by (is_asset_slot (Stands m)) refl
        where
          by : (b : Bool) → is_asset_slot (Stands m) ≡ b → ⊥
          by false f = free (Stands m) stood record { final = refl; inside = f }
          by true t =
              let same : u ≡ v = asset_unfilled v u how (ap is_asset_slot was ∙ t) in
              let one : Stands m ≡ Stands n = sym was ∙ sym same ∙ now in
              new (stood ∙ ap Some one)

      was_wanted : (t : List ℕ) → IsWanted o (record s { graph = put_at s.graph k u }) t → IsWanted o s t
      was_wanted t (inl r) = inl r
      was_wanted t (inr w) = ⊎_elim
          (λ same.
          let here = subst (λ z. finite.get (finite.insert s.graph.slots k u) z ≡ Some (Stands w.1)) same w.3 in
          let there = put_same s.graph.slots k u in
          let now : u ≡ Stands w.1 = cc in
          let before = filled_before v u w.1 how now in
          inr (
            k,
            before.module_was,
            w.2,
            at ∙ ap Some before.was,
            fresh w.1 before.module_was now before.was (subst (λ z. finite.get o.graph.slots z ≡ Some (Stands w.1) → ⊥) same w.4),
            subst (HasLoad t) (before.edges s.graph.kind s.flags.skip_dynamic_deps w.2) w.5,
          ))
          (λ ne. inr (w.0, w.1, w.2, sym (put_other s.graph.slots k u w.0 ne) ∙ w.3, w.4, w.5))
          (cases_text w.0 k)

  sound_slot_filled : (s : State) (l : LaterContent) (content : List ℕ) (u : ModuleGraph) → SlotFilled s.graph l.specifier content u → IsFree o (specifier_text l.specifier) → Sound o early nothing nothing [] s → Sound o early nothing nothing [] (record s { graph = u })
  sound_slot_filled s l content u (stands_filled {slot} at) free sound =
      subst (λ (g : ModuleGraph). Sound o early nothing nothing [] (record s { graph = g })) (sym (put_back s.graph l.specifier (filled_slot content slot)))
      (sound_filled s (specifier_text l.specifier) slot (filled_slot content slot) (how_slot content slot) at free sound)
  sound_slot_filled s l content u (gone e) free sound = sound

  sound_placed_content : (s : State) (l : LaterContent) (a : FileAnswer) (u : ModuleGraph) → ContentPlaced s.graph l a u → IsFree o (specifier_text l.specifier) → Sound o early nothing nothing [] s → Sound o early nothing nothing [] (record s { graph = u })
  sound_placed_content s l a u (came {content} is) free sound = sound_slot_filled s l content (filled_at s.graph l.specifier content) (how_filled s.graph l.specifier content) free sound
  sound_placed_content s l a u (missed none) free sound =
      let v : ModuleSlot = Failed (content_error l a) in
      settle o early (λ q. ⊥ × (q ≢ specifier_text l.specifier)) nothing [] (record s { graph = put_at s.graph (specifier_text l.specifier) v }) (λ k b p x. x.0)
      (sound_put o early nothing (specifier_text l.specifier) s v l.context sound refl (λ h. refl))

  -- whatever is answered about the first content that is to come
  pub sound_content : (s : State) (l : LaterContent) (ls : List LaterContent) (a : FileAnswer) → IsFree o (specifier_text l.specifier) → Sound o early nothing nothing [] s → Sound o early nothing nothing [] (record s { graph = content_placed s.graph l a; contents = ls })
  sound_content s l ls a free sound =
      sound_contents nothing [] (record s { graph = content_placed s.graph l a }) ls
      (sound_placed_content s l a (content_placed s.graph l a) (how_content s.graph l a) free sound)
