-- How a content that comes later is stored.
use Rattle.std.proofs.Common.{◌≡◌, ℕ, List, [], ◌∷◌, Bool, true, false, Option, None, Some, Ok, Err, if◌then◌else◌, refl, sym, ap, ◌∙◌, subst, ⊎_elim}
use Rattle.std.specs.Cmp.Lexicographic.{nat_list_cmp_total}
use Rattle.std.specs.FinMap as finite
use Rattle.std.specs.FinMap.{IsAntisymmetric, nat_cmp-IsAntisymmetric, same_map, slice_cmp-IsAntisymmetric}
use Rattle.url.specs.Parts.{Parts}
use Rattle.spec_base.specs.Options.{by_option}
use Rattle.spec_base.specs.Shown.{text_cmp}
use Rattle.spec_base.specs.Specifier.{same_specifier, specifier_text}
use Rattle.source_io.specs.declared.types.Answer.{Answer}
use Rattle.source_io.specs.declared.types.LoadResponse.{LoadResponse}
use Rattle.source_io.specs.declared.types.LoadResponse.TheVariants.{External, Redirect, Module}
use Rattle.graph_errors.specs.declared.jsr_error.JsrLoadError.TheVariants.{RedirectInPackage}
use Rattle.registry_files.specs.Answers.{FileAnswer}
use Rattle.graph_core.specs.declared.graph.ModuleGraph.{ModuleGraph}
use Rattle.module_slots.specs.declared.slot.ModuleSlot.{ModuleSlot}
use Rattle.module_slots.specs.declared.slot.ModuleSlot.TheVariants.{Err as Failed}
use Rattle.slot_making.specs.Filled.{filled_slot}
use Rattle.graph_core.specs.Graph.{slot_at, with_slot, without_slot}
use Rattle.graph_turns.specs.declared.later_content.LaterContent.{LaterContent}
use Rattle.graph_turns.specs.declared.state.State.{State}
use Rattle.graph_turns.specs.Machine.Contents.{content_by, content_placed, content_stored, filled_at, refused_content}
use Rattle.graph_turns.specs.Promise.Contents.{content_error, content_told}
use Rattle.graph_turns.specs.Promise.Versions.{loaded}
use Rattle.graph_core.proofs.At.{cases_text, cut_other, cut_same}

-- none comes later, or the first one is placed
pub data ContentStored (s : State) (a : Answer) : State → Type 0 where
  none : s.contents ≡ [] → ContentStored s a s
  first : {l : LaterContent} {ls : List LaterContent} → s.contents ≡ l ∷ ls → ContentStored s a (record s { graph = content_placed s.graph l (loaded a); contents = ls })

pub how_stored : (s : State) (a : Answer) → ContentStored s a (content_stored s a)
how_stored s a = by s.contents refl
  where
    by : (ls : List LaterContent) → s.contents ≡ ls → ContentStored s a (content_by s ls a)
    by [] e = none e
    by (l ∷ ls) e = first e

pub first_stored : (s : State) (a : Answer) (l : LaterContent) (ls : List LaterContent) → s.contents ≡ l ∷ ls → content_stored s a ≡ record s { graph = content_placed s.graph l (loaded a); contents = ls }
first_stored s a l ls e = ap (λ x. content_by s x a) e

-- the module gets it, or an error takes its place
pub data ContentPlaced (g : ModuleGraph) (l : LaterContent) (a : FileAnswer) : ModuleGraph → Type 0 where
  came : {content : List ℕ} → content_told l a ≡ Some content → ContentPlaced g l a (filled_at g l.specifier content)
  missed : content_told l a ≡ None → ContentPlaced g l a (with_slot g l.specifier (Failed (content_error l a)))

pub how_content : (g : ModuleGraph) (l : LaterContent) (a : FileAnswer) → ContentPlaced g l a (content_placed g l a)
how_content g l (Ok (Some (Module content mtime name headers))) = by_name (same_specifier name l.specifier) refl
  where
    by_same : Bool → ModuleGraph
    by_same b = if b then filled_at g l.specifier content else refused_content g l (RedirectInPackage name)

    by_name : (b : Bool) → same_specifier name l.specifier ≡ b → ContentPlaced g l (Ok (Some (Module content mtime name headers))) (by_same (same_specifier name l.specifier))
    by_name true t = subst (ContentPlaced g l (Ok (Some (Module content mtime name headers)))) (sym (ap by_same t)) (came (ap (λ b. if b then Some content else None) t))
    by_name false f = subst (ContentPlaced g l (Ok (Some (Module content mtime name headers)))) (sym (ap by_same f)) (missed (ap (λ b. if b then Some content else None) f))
how_content g l (Ok (Some (External name))) = missed refl
how_content g l (Ok (Some (Redirect name))) = missed refl
how_content g l (Ok None) = missed refl
how_content g l (Err e) = missed refl

-- where a slot stands it is filled, else nothing changes
pub data SlotFilled (g : ModuleGraph) (s : Parts) (content : List ℕ) : ModuleGraph → Type 0 where
  stands : {slot : ModuleSlot} → slot_at g s ≡ Some slot → SlotFilled g s content (with_slot (without_slot g s) s (filled_slot content slot))
  gone : slot_at g s ≡ None → SlotFilled g s content g

pub how_filled : (g : ModuleGraph) (s : Parts) (content : List ℕ) → SlotFilled g s content (filled_at g s content)
how_filled g s content = by (slot_at g s) refl
  where
    by_slot : Option ModuleSlot → ModuleGraph
    by_slot o = by_option o g (λ slot. with_slot (without_slot g s) s (filled_slot content slot))

    by : (o : Option ModuleSlot) → slot_at g s ≡ o → SlotFilled g s content (filled_at g s content)
    by None e = subst (SlotFilled g s content) (sym (ap by_slot e)) (gone e)
    by (Some slot) e = subst (SlotFilled g s content) (sym (ap by_slot e)) (stands e)

exact : IsAntisymmetric text_cmp
exact = slice_cmp-IsAntisymmetric nat_cmp-IsAntisymmetric

-- where no slot stands, none is taken out
pub without_none : (g : ModuleGraph) (s : Parts) → slot_at g s ≡ None → without_slot g s ≡ g
without_none g s away =
    let k : List ℕ = specifier_text s in
    ap (λ slots. record g { slots = slots }) (same_map nat_list_cmp_total exact (finite.remove g.slots k) g.slots (λ q. ⊎_elim
    (λ same. subst (λ z. finite.get (finite.remove g.slots k) z ≡ finite.get g.slots z) (sym same) (cut_same g.slots k ∙ sym away))
    (λ ne. cut_other g.slots k q ne)
    (cases_text q k)))

-- so nothing changes there
pub filled_none : (g : ModuleGraph) (s : Parts) (content : List ℕ) → slot_at g s ≡ None → without_slot g s ≡ filled_at g s content
filled_none g s content away =
    without_none g s away ∙ sym (ap (λ (o : Option ModuleSlot). by_option o g (λ slot. with_slot (without_slot g s) s (filled_slot content slot))) away)
