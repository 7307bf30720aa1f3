-- What is known where a content that comes later came, and that no module comes to be at hand alone.
use Rattle.std.proofs.Common.{◌≡◌, ℕ, List, Bool, true, false, refl, sym, ap, ◌∙◌, subst, inl, ⊎_elim}
use Rattle.std.proofs.lemmas.Bool.{true≢false}
use Rattle.std.specs.FinMap as finite
use Rattle.url.specs.Parts.{Parts}
use Rattle.spec_base.specs.Specifier.{specifier_text}
use Rattle.registry_files.specs.Answers.{FileAnswer}
use Rattle.source_io.specs.declared.types.Answer.{Answer}
use Rattle.graph_core.specs.declared.graph.ModuleGraph.{ModuleGraph}
use Rattle.module_slots.specs.declared.load.Load.{Load}
use Rattle.module_slots.specs.declared.slot.ModuleSlot.{ModuleSlot}
use Rattle.module_slots.specs.declared.slot.ModuleSlot.TheVariants.{Err as Failed}
use Rattle.slot_making.specs.Filled.{filled_slot}
use Rattle.module_slots.specs.Slots.{is_asset_slot}
use Rattle.graph_turns.specs.declared.later_content.LaterContent.{LaterContent}
use Rattle.graph_turns.specs.declared.state.State.{State}
use Rattle.graph_turns.specs.Machine.Contents.{content_placed, content_stored, filled_at}
use Rattle.graph_turns.specs.Promise.Contents.{content_error}
use Rattle.graph_turns.specs.Promise.Versions.{loaded}
use Rattle.graph_core.proofs.At.{cases_text, cut_other, put_other, put_same}
use Rattle.turn_laws.proofs.Budget.Loops.{NoLoop, loop_put}
use Rattle.turn_laws.proofs.Budget.Known.{Counted, IsKnown, hand_put, known_cut, known_put}
use Rattle.graph_turns.proofs.Entering.Contents.{ContentPlaced, ContentStored, SlotFilled, how_content, how_filled, how_stored}
use Rattle.graph_turns.proofs.Entering.Contents.ContentPlaced.{came, missed}
use Rattle.graph_turns.proofs.Entering.Contents.ContentStored.{none, first}
use Rattle.graph_turns.proofs.Entering.Contents.SlotFilled.{stands as stood, gone}
use Rattle.graph_turns.proofs.Leading.Ways.{cut_at, put_at, slot_put}
use Rattle.turn_laws.proofs.Promise.Filling.{filled_inside, how_filled as how_slot_filled, put_back}
use Rattle.turn_laws.proofs.Promise.Sound.{asset_at}

-- packages stay
filled_packages : (g : ModuleGraph) (s : Parts) (content : List ℕ) (u : ModuleGraph) → SlotFilled g s content u → u.packages ≡ g.packages
filled_packages g s content u (stood e) = refl
filled_packages g s content u (gone e) = refl

pub comes_packages : (g : ModuleGraph) (l : LaterContent) (a : FileAnswer) (u : ModuleGraph) → ContentPlaced g l a u → u.packages ≡ g.packages
comes_packages g l a u (came {content} e) = filled_packages g l.specifier content (filled_at g l.specifier content) (how_filled g l.specifier content)
comes_packages g l a u (missed e) = refl

-- what is known stays so
filled_known : (g : ModuleGraph) (s : Parts) (content : List ℕ) (u : ModuleGraph) → SlotFilled g s content u → (k : List ℕ) → IsKnown g k → IsKnown u k
filled_known g s content u (stood {slot} e) k known = ⊎_elim
    (λ same. subst (IsKnown (put_at (cut_at g (specifier_text s)) (specifier_text s) (filled_slot content slot))) (sym same) (inl (slot_put (cut_at g (specifier_text s)) (specifier_text s) (filled_slot content slot))))
    (λ ne. known_put (cut_at g (specifier_text s)) (specifier_text s) (filled_slot content slot) k (known_cut g (specifier_text s) k ne known))
    (cases_text k (specifier_text s))
filled_known g s content u (gone e) k known = known

pub comes_known : (g : ModuleGraph) (l : LaterContent) (a : FileAnswer) (u : ModuleGraph) → ContentPlaced g l a u → (k : List ℕ) → IsKnown g k → IsKnown u k
comes_known g l a u (came {content} e) k known = filled_known g l.specifier content (filled_at g l.specifier content) (how_filled g l.specifier content) k known
comes_known g l a u (missed e) k known = known_put g (specifier_text l.specifier) (Failed (content_error l a)) k known

-- ---- where a module is kept at hand alone

-- one that is at hand alone once its content came was so before
filled_asset : (content : List ℕ) (slot : ModuleSlot) → is_asset_slot (filled_slot content slot) ≡ true → is_asset_slot slot ≡ true
filled_asset content slot t = by (is_asset_slot slot) refl
  where
    by : (b : Bool) → is_asset_slot slot ≡ b → is_asset_slot slot ≡ true
    by true e = e
    by false f = absurd (true≢false (sym t ∙ filled_inside slot (filled_slot content slot) (how_slot_filled content slot) f))

filled_hand : (g : ModuleGraph) (s : Parts) (content : List ℕ) (u : ModuleGraph) → SlotFilled g s content u → (k : List ℕ) → asset_at (finite.get u.slots k) ≡ true → asset_at (finite.get g.slots k) ≡ true
filled_hand g s content u (stood {slot} e) k t = ⊎_elim
    (λ same.
    let now = ap (λ z. asset_at (finite.get (finite.insert (finite.remove g.slots (specifier_text s)) (specifier_text s) (filled_slot content slot)) z)) same ∙ ap asset_at (put_same (finite.remove g.slots (specifier_text s)) (specifier_text s) (filled_slot content slot)) in
    let before = ap (λ z. asset_at (finite.get g.slots z)) same ∙ ap asset_at e in
    before ∙ filled_asset content slot (sym now ∙ t))
    (λ ne. sym (ap asset_at (put_other (finite.remove g.slots (specifier_text s)) (specifier_text s) (filled_slot content slot) k ne ∙ cut_other g.slots (specifier_text s) k ne)) ∙ t)
    (cases_text k (specifier_text s))
filled_hand g s content u (gone e) k t = t

comes_hand : (g : ModuleGraph) (l : LaterContent) (a : FileAnswer) (u : ModuleGraph) → ContentPlaced g l a u → (k : List ℕ) → asset_at (finite.get u.slots k) ≡ true → asset_at (finite.get g.slots k) ≡ true
comes_hand g l a u (came {content} e) k t = filled_hand g l.specifier content (filled_at g l.specifier content) (how_filled g l.specifier content) k t
comes_hand g l a u (missed e) k t = ⊎_elim (λ here. absurd (true≢false (sym here.1))) (λ old. old) (hand_put g (specifier_text l.specifier) (Failed (content_error l a)) k t)

-- ---- circles of redirects without a slot

filled_loop : (g : ModuleGraph) (s : Parts) (content : List ℕ) (u : ModuleGraph) → SlotFilled g s content u → (k : List ℕ) → NoLoop g k → NoLoop u k
filled_loop g s content u (stood {slot} e) k free = subst (λ (h : ModuleGraph). NoLoop h k) (sym (put_back g s (filled_slot content slot))) (loop_put g (specifier_text s) (filled_slot content slot) k free)
filled_loop g s content u (gone e) k free = free

comes_loop : (g : ModuleGraph) (l : LaterContent) (a : FileAnswer) (u : ModuleGraph) → ContentPlaced g l a u → (k : List ℕ) → NoLoop g k → NoLoop u k
comes_loop g l a u (came {content} e) k free = filled_loop g l.specifier content (filled_at g l.specifier content) (how_filled g l.specifier content) k free
comes_loop g l a u (missed e) k free = loop_put g (specifier_text l.specifier) (Failed (content_error l a)) k free

-- ---- what was asked is counted still

pub counted_content : (asked : List Load) (s : State) (a : Answer) → Counted asked s → Counted asked (content_stored s a)
counted_content asked s a counted = by_stored (content_stored s a) (how_stored s a)
  where
    by_stored : (u : State) → ContentStored s a u → Counted asked u
    by_stored u (none e) = counted
    by_stored u (first {l} {ls} e) =
        let how = how_content s.graph l (loaded a) in
        record {
          known = λ k among. comes_known s.graph l (loaded a) (content_placed s.graph l (loaded a)) how k (counted.known k among);
          modules = counted.modules;
          assets = counted.assets;
          at_hand = λ k t. counted.at_hand k (comes_hand s.graph l (loaded a) (content_placed s.graph l (loaded a)) how k t);
          no_loop = λ k among. comes_loop s.graph l (loaded a) (content_placed s.graph l (loaded a)) how k (counted.no_loop k among);
        }
