-- What holds of graphs with notes of cached copies.
use Rattle.std.proofs.Common.{◌≡◌, ◌∙◌, ℕ, Bool, true, false, List, Option, None, Some, refl, ap, sym, is_some}
use Rattle.std.specs.Prelude.{OnOk, Result, Ok, Err}
use Rattle.std.specs.FinMap as finite
use Rattle.source_io.specs.declared.types.CacheInfo.{CacheInfo}
use Rattle.source_io.specs.declared.types.World.{World}
use Rattle.graph_core.specs.declared.graph.ModuleGraph.{ModuleGraph}
use Rattle.module_slots.specs.declared.slot.Module.TheVariants.{Js, Json, Wasm, Npm, Node, External}
use Rattle.module_slots.specs.declared.slot.ModuleSlot.{ModuleSlot}
use Rattle.module_slots.specs.declared.slot.NpmModule.{NpmModule}
use Rattle.module_slots.specs.declared.slot.ModuleSlot.TheVariants.{Module as Stands, Err as Failed, Pending}
use Rattle.cache_filling.specs.Copies.{has_copy}
use Rattle.cache_filling.specs.Filled.{IsFilledAt, with_info}
use Rattle.cache_filling.specs.Noted.{Noted, NotesCopies}

module _ {caches : Bool} {world : Option World} {u : ModuleGraph} where
  -- of what follows from what holds
  pub noted_so : {P Q : ModuleGraph → Type 0} → Noted caches world P u → ((g : ModuleGraph) → P g → Q g) → Noted caches world Q u
  noted_so noted so = record { bare = noted.bare; holds = so noted.bare noted.holds; notes = noted.notes }

pub on_ok_noted : (caches : Bool) (world : Option World) (u : ModuleGraph) {T E : Type 0} {P Q : ModuleGraph → Type 0} (r : Result T E) → OnOk r (Noted caches world P u) → ((g : ModuleGraph) → P g → Q g) → OnOk r (Noted caches world Q u)
on_ok_noted caches world u (Ok x) noted so = noted_so noted so
on_ok_noted caches world u (Err e) noted so = tt

-- ---- slots

filled_stands : (world : Option World) (o p : Option ModuleSlot) → IsFilledAt world o p → is_some p ≡ is_some o
filled_stands world None p is = ap is_some is
filled_stands world (Some slot) p is = ap is_some is.1

-- a slot without a copy is one that was so
still_same : (info : Option CacheInfo) (slot kept : ModuleSlot) → has_copy kept ≡ false → with_info info slot ≡ kept → slot ≡ kept
still_same info (Stands (Js m)) kept none is = let wrong : true ≡ false = ap has_copy is ∙ none in cc
still_same info (Stands (Json m)) kept none is = let wrong : true ≡ false = ap has_copy is ∙ none in cc
still_same info (Stands (Wasm m)) kept none is = let wrong : true ≡ false = ap has_copy is ∙ none in cc
still_same info (Stands (Npm m)) kept none is = is
still_same info (Stands (Node m)) kept none is = is
still_same info (Stands (External m)) kept none is = let wrong : true ≡ false = ap has_copy is ∙ none in cc
still_same info (Failed e) kept none is = is
still_same info (Pending own) kept none is = is

was_same : (world : Option World) (o p : Option ModuleSlot) (kept : ModuleSlot) → has_copy kept ≡ false → IsFilledAt world o p → p ≡ Some kept → o ≡ Some kept
was_same world None p kept none is at = is_none
  where
    is_none : None ≡ Some kept
    is_none = sym is ∙ at
was_same world (Some slot) p kept none is at =
    let now : Some is.0 ≡ Some kept = sym is.1 ∙ at in
    let same : is.0 ≡ kept = cc in
    ap (λ s. Some s) (still_same is.2.info slot kept none (sym is.2.filled ∙ same))

is_pending_now : (world : Option World) (o p : Option ModuleSlot) (asset : Bool) → IsFilledAt world o p → o ≡ Some (Pending asset) → p ≡ Some (Pending asset)
is_pending_now world None p asset is at = let wrong : None ≡ Some (Pending asset) = at in cc
is_pending_now world (Some slot) p asset is at =
    let same : slot ≡ Pending asset = cc in
    is.1 ∙ ap (λ s. Some s) (is.2.filled ∙ ap (with_info is.2.info) same)

-- ---- graphs

-- the other fields of a graph stay
pub notes_rest : (caches : Bool) (world : Option World) (g u : ModuleGraph) → NotesCopies caches world g u → u ≡ record g { slots = u.slots }
notes_rest true world g u filled = filled.rest
notes_rest false world g u same = same ∙ ap (λ (x : ModuleGraph). record g { slots = x.slots }) (sym same)

-- something stands where something stood
pub notes_stands : (caches : Bool) (world : Option World) (g u : ModuleGraph) → NotesCopies caches world g u → (t : List ℕ) → finite.contains_key u.slots t ≡ finite.contains_key g.slots t
notes_stands true world g u filled t = filled_stands world (finite.get g.slots t) (finite.get u.slots t) (filled.slots t)
notes_stands false world g u same t = ap (λ (x : ModuleGraph). finite.contains_key x.slots t) same

-- what is under way was so, and stays so
pub notes_pending : (caches : Bool) (world : Option World) (g u : ModuleGraph) → NotesCopies caches world g u → (t : List ℕ) (asset : Bool) → finite.get u.slots t ≡ Some (Pending asset) → finite.get g.slots t ≡ Some (Pending asset)
notes_pending true world g u filled t asset at = was_same world (finite.get g.slots t) (finite.get u.slots t) (Pending asset) refl (filled.slots t) at
notes_pending false world g u same t asset at = ap (λ (x : ModuleGraph). finite.get x.slots t) (sym same) ∙ at

pub notes_still_pending : (caches : Bool) (world : Option World) (g u : ModuleGraph) → NotesCopies caches world g u → (t : List ℕ) (asset : Bool) → finite.get g.slots t ≡ Some (Pending asset) → finite.get u.slots t ≡ Some (Pending asset)
notes_still_pending true world g u filled t asset at = is_pending_now world (finite.get g.slots t) (finite.get u.slots t) asset (filled.slots t) at
notes_still_pending false world g u same t asset at = ap (λ (x : ModuleGraph). finite.get x.slots t) same ∙ at

-- a package of npm was one
pub notes_npm : (caches : Bool) (world : Option World) (g u : ModuleGraph) → NotesCopies caches world g u → (t : List ℕ) (n : NpmModule) → finite.get u.slots t ≡ Some (Stands (Npm n)) → finite.get g.slots t ≡ Some (Stands (Npm n))
notes_npm true world g u filled t n at = was_same world (finite.get g.slots t) (finite.get u.slots t) (Stands (Npm n)) refl (filled.slots t) at
notes_npm false world g u same t n at = ap (λ (x : ModuleGraph). finite.get x.slots t) (sym same) ∙ at
