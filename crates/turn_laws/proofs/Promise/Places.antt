-- Where the modules stand whose contents are to come: their slots aren't asked for again.
use Rattle.std.proofs.Common.{◌≡◌, ◌≢◌, ℕ, List, ◌∷◌, Bool, true, false, if◌then◌else◌, Some, Result, Ok, Err, is_some, refl, sym, ap, ◌∙◌, subst, inl, ⊎_elim, ◌⊎◌}
use Rattle.std.proofs.lemmas.Bool.{true≢false}
use Rattle.std.specs.FinMap as finite
use Rattle.std.specs.List.{Contains}
use Rattle.url.specs.Parts.{Parts}
use Rattle.spec_base.specs.Specifier.{same_specifier, specifier_text}
use Rattle.registry_files.specs.declared.kept_version.KeptVersion.{KeptVersion}
use Rattle.graph_errors.specs.declared.jsr_error.JsrLoadError.{JsrLoadError}
use Rattle.graph_core.specs.declared.graph.ModuleGraph.{ModuleGraph}
use Rattle.module_slots.specs.declared.load.LoadContext.{LoadContext}
use Rattle.module_slots.specs.declared.slot.ModuleSlot.{ModuleSlot}
use Rattle.module_slots.specs.declared.slot.ModuleSlot.TheVariants.{Pending}
use Rattle.module_slots.specs.Slots.{is_asset_slot, is_pending}
use Rattle.graph_turns.specs.declared.later_content.LaterContent.{LaterContent}
use Rattle.graph_turns.specs.Machine.Files.{noted}
use Rattle.graph_turns.specs.Machine.Redirects.{moved, renamed}
use Rattle.graph_turns.specs.Promise.Explains.{IsExplained}
use Rattle.graph_turns.specs.Promise.Input.{EnteredGraph}
use Rattle.graph_turns.specs.Promise.Told.{Told}
use Rattle.graph_core.proofs.At.{cases_text, put_same, put_other, cut_other}
use Rattle.turn_laws.proofs.Entering.Placed.{Placed, asset_outside, not_pending, settled_here}
use Rattle.turn_laws.proofs.Entering.Placed.Placed.{there, stood}
use Rattle.graph_turns.proofs.Leading.Ways.{put_at, cut_at, redirect_to}
use Rattle.turn_laws.proofs.Promise.GraphKept.{IsAccounted, accounted_less, accounted_more, later_among}
use Rattle.turn_laws.proofs.Promise.Sound.{asset_at, shut_none}
use Rattle.turn_laws.proofs.Promise.Storing.{Moved, how_moved}
use Rattle.turn_laws.proofs.Promise.Storing.Moved.{cut, stays, put}
use Rattle.graph_turns.specs.Machine.Entering.{is_outside, is_shut}

module _ (w : Told) (given : EnteredGraph) where
  -- a slot that counts stands at a text, and is no load, and no module that is at hand alone
  pub record HasPlace (contents : List LaterContent) (g : ModuleGraph) (k : List ℕ) : Type 0 where
    pub slot : ModuleSlot
    pub here : finite.get g.slots k ≡ Some slot
    pub accounted : IsAccounted w given contents k slot
    pub final : is_pending slot ≡ false
    pub inside : is_asset_slot slot ≡ false

  -- so it is at each module whose content is to come
  abbrev pub HavePlaces : List LaterContent → ModuleGraph → Type 0
  HavePlaces contents g = (l : LaterContent) → Contains contents l → HasPlace contents g (specifier_text l.specifier)

  module _ (contents : List LaterContent) where
    -- one place in another graph that has the same there
    pub place_as : (g u : ModuleGraph) (k : List ℕ) → finite.get u.slots k ≡ finite.get g.slots k → HasPlace contents g k → HasPlace contents u k
    place_as g u k same place = record { slot = place.slot; here = same ∙ place.here; accounted = place.accounted; final = place.final; inside = place.inside }

    -- a slot that counts is put
    pub place_put : (g : ModuleGraph) (k : List ℕ) (v : ModuleSlot) → IsAccounted w given contents k v → is_pending v ≡ false → is_asset_slot v ≡ false → (q : List ℕ) → HasPlace contents g q → HasPlace contents (put_at g k v) q
    place_put g k v is final inside q place = ⊎_elim
        (λ same. subst (HasPlace contents (put_at g k v)) (sym same) record { slot = v; here = put_same g.slots k v; accounted = is; final = final; inside = inside })
        (λ ne. place_as g (put_at g k v) q (put_other g.slots k v q ne) place)
        (cases_text q k)

    pub places_put : (g : ModuleGraph) (k : List ℕ) (v : ModuleSlot) → IsAccounted w given contents k v → is_pending v ≡ false → is_asset_slot v ≡ false → HavePlaces contents g → HavePlaces contents (put_at g k v)
    places_put g k v is final inside places = λ l among. place_put g k v is final inside (specifier_text l.specifier) (places l among)

    -- any slot is put, but at a place
    place_beside : (g : ModuleGraph) (k : List ℕ) (v : ModuleSlot) (q : List ℕ) → q ≢ k → HasPlace contents g q → HasPlace contents (put_at g k v) q
    place_beside g k v q ne place = place_as g (put_at g k v) q (put_other g.slots k v q ne) place

    -- a load opens where it isn't shut out
    pub places_open : (g : ModuleGraph) (k : List ℕ) (c : LoadContext) → is_shut (finite.get g.slots k) c ≡ false → HavePlaces contents g → HavePlaces contents (put_at g k (Pending c.asset))
    places_open g k c free places = λ l among. let place = places l among in place_beside g k (Pending c.asset) (specifier_text l.specifier) (apart (specifier_text l.specifier) place) place
      where
        apart : (q : List ℕ) → HasPlace contents g q → q ≢ k
        apart q place same =
            let at : finite.get g.slots k ≡ Some place.slot = subst (λ z. finite.get g.slots z ≡ Some place.slot) same place.here in
            ⊎_elim
            (λ none. true≢false (sym (ap is_some at) ∙ none))
            (λ asset. true≢false (sym (sym (ap asset_at at) ∙ asset.0) ∙ place.inside))
            (shut_none (finite.get g.slots k) c free)

    -- a slot is put at its name
    pub place_placed : (g : ModuleGraph) (n : Parts) (v : ModuleSlot) (u : ModuleGraph) → Placed g n v u → IsAccounted w given contents (specifier_text n) v → is_pending v ≡ false → (q : List ℕ) → HasPlace contents g q → HasPlace contents u q
    place_placed g n v u (there free) is final q place = by (is_asset_slot v) refl
      where
        apart : is_asset_slot v ≡ true → q ≢ specifier_text n
        apart t same =
            let at : finite.get g.slots (specifier_text n) ≡ Some place.slot = subst (λ z. finite.get g.slots z ≡ Some place.slot) same place.here in
            true≢false (sym (settled_here (finite.get g.slots (specifier_text n)) place.slot at place.final) ∙ free (asset_outside v t))

        by : (b : Bool) → is_asset_slot v ≡ b → HasPlace contents (put_at g (specifier_text n) v) q
        by true t = place_beside g (specifier_text n) v q (apart t) place
        by false f = place_put g (specifier_text n) v is final f q place
    place_placed g n v u (stood outside settled) is final q place = place

    -- a slot that isn't at hand alone has its place then
    pub place_there : (g : ModuleGraph) (n : Parts) (v : ModuleSlot) (u : ModuleGraph) → Placed g n v u → is_asset_slot v ≡ false → is_outside v ≡ false → IsAccounted w given contents (specifier_text n) v → is_pending v ≡ false → HasPlace contents u (specifier_text n)
    place_there g n v u (there free) inside kept is final = record { slot = v; here = put_same g.slots (specifier_text n) v; accounted = is; final = final; inside = inside }
    place_there g n v u (stood outside settled) inside kept is final = absurd (true≢false (sym outside ∙ kept))

    -- a specifier is redirected
    place_moved : (g : ModuleGraph) (a n : Parts) (u : ModuleGraph) → Moved g a n u → (q : List ℕ) → HasPlace contents g q → HasPlace contents u q
    place_moved g a n u (cut {asset} pending) q place = place_as g (redirect_to (cut_at g (specifier_text a)) (specifier_text a) n) q (cut_other g.slots (specifier_text a) q apart) place
      where
        apart : q ≢ specifier_text a
        apart same =
            let at : finite.get g.slots (specifier_text a) ≡ Some place.slot = subst (λ z. finite.get g.slots z ≡ Some place.slot) same place.here in
            let one : place.slot ≡ Pending asset = cc in
            not_pending place.slot asset place.final one
    place_moved g a n u (stays still) q place = place
    place_moved g a n u (put still) q place = place_as g (redirect_to g (specifier_text a) n) q refl place

    pub places_moved : (g : ModuleGraph) (a n : Parts) → HavePlaces contents g → HavePlaces contents (moved g a n)
    places_moved g a n places = λ l among. place_moved g a n (moved g a n) (how_moved g a n) (specifier_text l.specifier) (places l among)

    pub places_renamed : (g : ModuleGraph) (a n : Parts) → HavePlaces contents g → HavePlaces contents (renamed g a n)
    places_renamed g a n places = by (same_specifier a n) refl
      where
        by : (b : Bool) → same_specifier a n ≡ b → HavePlaces contents (renamed g a n)
        by true t = subst (HavePlaces contents) (sym (ap (λ b. if b then g else moved g a n) t)) places
        by false f = subst (HavePlaces contents) (sym (ap (λ b. if b then g else moved g a n) f)) (places_moved g a n places)

    pub places_noted : (g : ModuleGraph) (read : Result KeptVersion JsrLoadError) → HavePlaces contents g → HavePlaces contents (noted g read)
    places_noted g (Err e) places = places
    places_noted g (Ok v) places = λ l among. place_as g (noted g (Ok v)) (specifier_text l.specifier) refl (places l among)

    pub places_as : (g u : ModuleGraph) → u.slots ≡ g.slots → HavePlaces contents g → HavePlaces contents u
    places_as g u same places = λ l among. place_as g u (specifier_text l.specifier) (ap (λ m. finite.get m (specifier_text l.specifier)) same) (places l among)

  -- with more contents to come
  pub place_more : (few many : List LaterContent) (g : ModuleGraph) (k : List ℕ) → ((l : LaterContent) → Contains few l → Contains many l) → HasPlace few g k → HasPlace many g k
  place_more few many g k more place = record { slot = place.slot; here = place.here; accounted = accounted_more w given few many more k place.slot place.accounted; final = place.final; inside = place.inside }

  -- once the first content came, an explained slot stands at its specifier
  pub places_less : (l : LaterContent) (ls : List LaterContent) (g : ModuleGraph) (v : ModuleSlot) → IsExplained w given (specifier_text l.specifier) v → is_pending v ≡ false → is_asset_slot v ≡ false → HavePlaces (l ∷ ls) g → HavePlaces ls (put_at g (specifier_text l.specifier) v)
  places_less l ls g v is final inside places = λ x among. place (specifier_text x.specifier) (places x (later_among l ls x among))
    where
      at : List ℕ
      at = specifier_text l.specifier

      there_now : HasPlace ls (put_at g at v) at
      there_now = record { slot = v; here = put_same g.slots at v; accounted = inl is; final = final; inside = inside }

      place : (q : List ℕ) → HasPlace (l ∷ ls) g q → HasPlace ls (put_at g at v) q
      place q old = ⊎_elim
          (λ same. subst (HasPlace ls (put_at g at v)) (sym same) there_now)
          (λ ne. record {
            slot = old.slot;
            here = put_other g.slots at v q ne ∙ old.here;
            accounted = ⊎_elim (λ same. absurd (ne same)) (λ rest. rest) (accounted_less w given l ls q old.slot old.accounted);
            final = old.final;
            inside = old.inside;
          })
          (cases_text q at)
