-- What stays explained of a graph, or awaits its content, and what may go of that which stood at entry.
use Rattle.std.proofs.Common.{◌≡◌, ℕ, List, [], ◌∷◌, get_or, Bool, true, false, if◌then◌else◌, Option, None, Some, Result, Ok, Err, refl, sym, ap, ◌∙◌, subst, inl, inr, ⊎_elim, ◌⊎◌, ◌≢◌, arith}
use Rattle.std.proofs.lemmas.Bool.{true≢false}
use Rattle.std.proofs.lemmas.List.Elements.{Contains-append_cases, Contains-append_right}
use Rattle.std.specs.FinMap as finite
use Rattle.std.specs.List.{Contains}
use Rattle.url.specs.Parts.{Parts}
use Rattle.spec_base.specs.Specifier.{same_specifier, specifier_text}
use Rattle.pkg_records.specs.Kept.{with_package}
use Rattle.pkg_records.specs.declared.package_specifiers.PackageSpecifiers.{PackageSpecifiers}
use Rattle.registry_files.specs.declared.kept_version.KeptVersion.{KeptVersion}
use Rattle.graph_errors.specs.declared.jsr_error.JsrLoadError.{JsrLoadError}
use Rattle.graph_core.specs.declared.graph.ModuleGraph.{ModuleGraph}
use Rattle.module_slots.specs.declared.load.LoadContext.{LoadContext}
use Rattle.module_slots.specs.declared.slot.ModuleSlot.{ModuleSlot}
use Rattle.module_slots.specs.declared.slot.ModuleSlot.TheVariants.{Pending}
use Rattle.graph_core.specs.Graph.{with_slot}
use Rattle.module_slots.specs.Slots.{is_asset_slot, is_pending}
use Rattle.graph_turns.specs.declared.later_content.LaterContent.{LaterContent}
use Rattle.graph_turns.specs.Promise.Explains.{Awaits, IsExplained, IsExplainedRedirect, HasExplainedRedirect}
use Rattle.graph_turns.specs.Promise.Input.{EnteredGraph}
use Rattle.graph_turns.specs.Promise.Told.{Told}
use Rattle.graph_turns.specs.Machine.Files.{noted}
use Rattle.graph_turns.specs.Machine.Redirects.{is_settled, moved, renamed}
use Rattle.graph_core.proofs.At.{cases_text, put_same, put_other, cut_same, cut_other}
use Rattle.turn_laws.proofs.Entering.Placed.{Placed, asset_outside, not_pending, settled_here}
use Rattle.turn_laws.proofs.Entering.Placed.Placed.{there, stood}
use Rattle.graph_turns.proofs.Leading.Ways.{put_at, cut_at, redirect_to}
use Rattle.turn_laws.proofs.Promise.Sound.{asset_at, marked, shut_none}
use Rattle.turn_laws.proofs.Promise.Storing.{Moved, how_moved}
use Rattle.turn_laws.proofs.Promise.Storing.Moved.{cut, stays, put}
use Rattle.graph_turns.specs.Machine.Entering.{gives_way, is_shut, placed}

pub renamed_self : (g : ModuleGraph) (a n : Parts) → same_specifier a n ≡ true → renamed g a n ≡ g
renamed_self g a n t = ap (λ b. if b then g else moved g a n) t

-- packages stay where a specifier is redirected, and where a slot is placed
packages_as_moved : (g : ModuleGraph) (a n : Parts) (u : ModuleGraph) → Moved g a n u → u.packages ≡ g.packages
packages_as_moved g a n u (cut pending) = refl
packages_as_moved g a n u (stays still) = refl
packages_as_moved g a n u (put still) = refl

pub packages_moved : (g : ModuleGraph) (a n : Parts) → (moved g a n).packages ≡ g.packages
packages_moved g a n = packages_as_moved g a n (moved g a n) (how_moved g a n)

pub packages_renamed : (g : ModuleGraph) (a n : Parts) → (renamed g a n).packages ≡ g.packages
packages_renamed g a n = by (same_specifier a n)
  where
    by : (b : Bool) → (if b then g else moved g a n).packages ≡ g.packages
    by true = refl
    by false = packages_moved g a n

pub packages_placed : (g : ModuleGraph) (n : Parts) (v : ModuleSlot) → (placed g n v).packages ≡ g.packages
packages_placed g n v = by (gives_way g n v)
  where
    by : (b : Bool) → (if b then g else with_slot g n v).packages ≡ g.packages
    by true = refl
    by false = refl

-- a load is under way
abbrev pub IsOpenSlot : ModuleSlot → Type 0
IsOpenSlot slot = (asset : Bool) × (slot ≡ Pending asset)

module _ (w : Told) (given : EnteredGraph) (contents : List LaterContent) where
  -- a slot is explained, or its content is to come
  abbrev pub IsAccounted : List ℕ → ModuleSlot → Type 0
  IsAccounted k slot = IsExplained w given k slot ⊎ Awaits w given contents k slot

  -- a slot stood so at entry or is explained, or its content is to come
  abbrev pub IsStoodOrAccounted : List ℕ → ModuleSlot → Type 0
  IsStoodOrAccounted k slot = (finite.get given.graph.slots k ≡ Some slot) ⊎ IsAccounted k slot

  -- such a slot that isn't pending stands at a text since, one that is at hand alone only where such a one stood
  pub record HasFinal (g : ModuleGraph) (k : List ℕ) (old : ModuleSlot) : Type 0 where
    pub slot : ModuleSlot
    pub here : finite.get g.slots k ≡ Some slot
    pub accounted : IsAccounted k slot
    pub final : is_pending slot ≡ false
    pub asset : is_asset_slot slot ≡ true → is_asset_slot old ≡ true

  -- a load is under way at a text, or an explained redirect stands there
  abbrev pub IsAskedAgain : ModuleGraph → List ℕ → Type 0
  IsAskedAgain g k = ((asset : Bool) × (finite.get g.slots k ≡ Some (Pending asset))) ⊎ HasExplainedRedirect w given g k

  -- what stood at a text at entry gave way to another slot, or was at hand alone and was asked for again
  abbrev pub IsGone : ModuleGraph → List ℕ → ModuleSlot → Type 0
  IsGone g k old = HasFinal g k old ⊎ ((is_asset_slot old ≡ true) × IsAskedAgain g k)

  pub record GraphKept (g : ModuleGraph) : Type 0 where
    pub kind : g.kind ≡ given.graph.kind
    pub slots : (k : List ℕ) (slot : ModuleSlot) → finite.get g.slots k ≡ Some slot → IsOpenSlot slot ⊎ IsStoodOrAccounted k slot
    pub redirects : (k : List ℕ) (n : Parts) → finite.get g.redirects k ≡ Some n → (finite.get given.graph.redirects k ≡ Some n) ⊎ IsExplainedRedirect w given k n
    pub slots_stay : (k : List ℕ) (old : ModuleSlot) → finite.get given.graph.slots k ≡ Some old → is_pending old ≡ false → (finite.get g.slots k ≡ Some old) ⊎ IsGone g k old
    pub redirects_stay : (k : List ℕ) (n : Parts) → finite.get given.graph.redirects k ≡ Some n → (finite.get g.redirects k ≡ Some n) ⊎ HasExplainedRedirect w given g k

  -- what is gone at a text is so in another graph that has the same there
  gone_as : (g u : ModuleGraph) (k : List ℕ) (old : ModuleSlot) → finite.get u.slots k ≡ finite.get g.slots k → (HasExplainedRedirect w given g k → HasExplainedRedirect w given u k) → IsGone g k old → IsGone u k old
  gone_as g u k old same redirect gone = ⊎_elim
      (λ f. inl record { slot = f.slot; here = same ∙ f.here; accounted = f.accounted; final = f.final; asset = f.asset })
      (λ a. inr (a.0, ⊎_elim (λ p. inl (p.0, same ∙ p.1)) (λ r. inr (redirect r)) a.1))
      gone

  -- a slot at k, where what stood there at entry is gone then
  kept_slot : (g : ModuleGraph) (k : List ℕ) (slot : ModuleSlot) → GraphKept g → IsOpenSlot slot ⊎ IsAccounted k slot → ((old : ModuleSlot) → finite.get given.graph.slots k ≡ Some old → is_pending old ≡ false → IsGone (put_at g k slot) k old) → GraphKept (put_at g k slot)
  kept_slot g k slot kept is gone_there = record { kind = kept.kind; slots = at; redirects = kept.redirects; slots_stay = still; redirects_stay = kept.redirects_stay }
    where
      at : (q : List ℕ) (v : ModuleSlot) → finite.get (finite.insert g.slots k slot) q ≡ Some v → IsOpenSlot v ⊎ IsStoodOrAccounted q v
      at q v e = ⊎_elim (λ same. at_k same) (λ ne. kept.slots q v (sym (put_other g.slots k slot q ne) ∙ e)) (cases_text q k)
        where
          at_k : q ≡ k → IsOpenSlot v ⊎ IsStoodOrAccounted q v
          at_k same =
              let found : finite.get (finite.insert g.slots k slot) k ≡ Some v = subst (λ x. finite.get (finite.insert g.slots k slot) x ≡ Some v) same e in
              let there = put_same g.slots k slot in
              let one : slot ≡ v = cc in
              ⊎_elim (λ p. inl (p.0, sym one ∙ p.1)) (λ x. inr (inr (subst (λ z. IsAccounted z v) (sym same) (subst (IsAccounted k) one x)))) is

      still : (q : List ℕ) (old : ModuleSlot) → finite.get given.graph.slots q ≡ Some old → is_pending old ≡ false → (finite.get (finite.insert g.slots k slot) q ≡ Some old) ⊎ IsGone (put_at g k slot) q old
      still q old e final = ⊎_elim
          (λ same. inr (subst (λ z. IsGone (put_at g k slot) z old) (sym same) (gone_there old (subst (λ z. finite.get given.graph.slots z ≡ Some old) same e) final)))
          (λ ne. ⊎_elim (λ s. inl (put_other g.slots k slot q ne ∙ s)) (λ r. inr (gone_as g (put_at g k slot) q old (put_other g.slots k slot q ne) (λ h. h) r)) (kept.slots_stay q old e final))
          (cases_text q k)

  -- a slot that isn't at hand alone
  pub kept_put : (g : ModuleGraph) (k : List ℕ) (slot : ModuleSlot) → GraphKept g → IsAccounted k slot → is_pending slot ≡ false → is_asset_slot slot ≡ false → GraphKept (put_at g k slot)
  kept_put g k slot kept is final not_asset = kept_slot g k slot kept (inr is)
      (λ old e f. inl record { slot = slot; here = put_same g.slots k slot; accounted = is; final = final; asset = λ t. absurd (true≢false (sym t ∙ not_asset)) })

  -- a slot that is at hand alone, where none is settled
  kept_asset : (g : ModuleGraph) (k : List ℕ) (slot : ModuleSlot) → GraphKept g → IsAccounted k slot → is_pending slot ≡ false → is_settled (finite.get g.slots k) ≡ false → GraphKept (put_at g k slot)
  kept_asset g k slot kept is final free = kept_slot g k slot kept (inr is)
      (λ old e f. inl record { slot = slot; here = put_same g.slots k slot; accounted = is; final = final; asset = λ t. was old e f })
    where
      was : (old : ModuleSlot) → finite.get given.graph.slots k ≡ Some old → is_pending old ≡ false → is_asset_slot old ≡ true
      was old e f = ⊎_elim
          (λ s. absurd (true≢false (sym (settled_here (finite.get g.slots k) old s f) ∙ free)))
          (λ gone. ⊎_elim (λ x. absurd (true≢false (sym (settled_here (finite.get g.slots k) x.slot x.here x.final) ∙ free))) (λ a. a.0) gone)
          (kept.slots_stay k old e f)

  -- a slot at a name
  pub kept_placed : (g : ModuleGraph) (n : Parts) (v : ModuleSlot) (u : ModuleGraph) → Placed g n v u → GraphKept g → IsAccounted (specifier_text n) v → is_pending v ≡ false → GraphKept u
  kept_placed g n v u (there free) kept is final = by (is_asset_slot v) refl
    where
      by : (b : Bool) → is_asset_slot v ≡ b → GraphKept (put_at g (specifier_text n) v)
      by true t = kept_asset g (specifier_text n) v kept is final (free (asset_outside v t))
      by false f = kept_put g (specifier_text n) v kept is final f
  kept_placed g n v u (stood o t) kept is final = kept

  -- a pending slot where none stands, or one that is asked for again
  pub kept_open : (g : ModuleGraph) (k : List ℕ) (c : LoadContext) → GraphKept g → is_shut (finite.get g.slots k) c ≡ false → GraphKept (put_at g k (Pending c.asset))
  kept_open g k c kept free = kept_slot g k (Pending c.asset) kept (inl (c.asset, refl))
      (λ old e f. inr (was old e f, inl (c.asset, put_same g.slots k (Pending c.asset))))
    where
      -- what stands there is asked for again
      again : (v : ModuleSlot) → finite.get g.slots k ≡ Some v → is_asset_slot v ≡ true
      again v e = ⊎_elim
          (λ none. absurd (let there : finite.contains_key g.slots k ≡ true = ap is_found e in true≢false (sym there ∙ none)))
          (λ a. sym (ap asset_at e) ∙ a.0)
          (shut_none (finite.get g.slots k) c free)
        where
          is_found : Option ModuleSlot → Bool
          is_found None = false
          is_found (Some x) = true

      was : (old : ModuleSlot) → finite.get given.graph.slots k ≡ Some old → is_pending old ≡ false → is_asset_slot old ≡ true
      was old e f = ⊎_elim (again old) (λ gone. ⊎_elim (λ x. x.asset (again x.slot x.here)) (λ a. a.0) gone) (kept.slots_stay k old e f)

  -- ---- redirects

  -- an explained redirect stays explained where another one comes
  redirect_still : (g : ModuleGraph) (k : List ℕ) (n : Parts) → IsExplainedRedirect w given k n → (q : List ℕ) → HasExplainedRedirect w given g q → HasExplainedRedirect w given (redirect_to g k n) q
  redirect_still g k n has q r = ⊎_elim
      (λ same. subst (HasExplainedRedirect w given (redirect_to g k n)) (sym same) (n, put_same g.redirects k n, has))
      (λ ne. (r.0, put_other g.redirects k n q ne ∙ r.1, r.2))
      (cases_text q k)

  redirects_with : (g : ModuleGraph) (k : List ℕ) (n : Parts) → GraphKept g → IsExplainedRedirect w given k n → (q : List ℕ) (m : Parts) → finite.get (finite.insert g.redirects k n) q ≡ Some m → (finite.get given.graph.redirects q ≡ Some m) ⊎ IsExplainedRedirect w given q m
  redirects_with g k n kept has q m e = ⊎_elim (λ same. inr (at_k same)) (λ ne. kept.redirects q m (sym (put_other g.redirects k n q ne) ∙ e)) (cases_text q k)
    where
      at_k : q ≡ k → IsExplainedRedirect w given q m
      at_k same =
          let found : finite.get (finite.insert g.redirects k n) k ≡ Some m = subst (λ x. finite.get (finite.insert g.redirects k n) x ≡ Some m) same e in
          let there = put_same g.redirects k n in
          let one : n ≡ m = cc in
          subst (λ x. IsExplainedRedirect w given x m) (sym same) (subst (IsExplainedRedirect w given k) one has)

  redirects_stay_with : (g : ModuleGraph) (k : List ℕ) (n : Parts) → GraphKept g → IsExplainedRedirect w given k n → (q : List ℕ) (m : Parts) → finite.get given.graph.redirects q ≡ Some m → (finite.get (finite.insert g.redirects k n) q ≡ Some m) ⊎ HasExplainedRedirect w given (redirect_to g k n) q
  redirects_stay_with g k n kept has q m e = ⊎_elim
      (λ same. inr (subst (HasExplainedRedirect w given (redirect_to g k n)) (sym same) (n, put_same g.redirects k n, has)))
      (λ ne. ⊎_elim (λ s. inl (put_other g.redirects k n q ne ∙ s)) (λ r. inr (redirect_still g k n has q r)) (kept.redirects_stay q m e))
      (cases_text q k)

  -- a redirect behind the slots that stand
  kept_redirect : (g : ModuleGraph) (k : List ℕ) (n : Parts) → GraphKept g → IsExplainedRedirect w given k n → GraphKept (redirect_to g k n)
  kept_redirect g k n kept has = record {
    kind = kept.kind;
    slots = kept.slots;
    redirects = redirects_with g k n kept has;
    slots_stay = λ q old e f. ⊎_elim inl (λ gone. inr (gone_as g (redirect_to g k n) q old refl (redirect_still g k n has q) gone)) (kept.slots_stay q old e f);
    redirects_stay = redirects_stay_with g k n kept has;
  }

  -- a redirect in the place of a pending slot
  kept_cut : (g : ModuleGraph) (k : List ℕ) (n : Parts) (asset : Bool) → finite.get g.slots k ≡ Some (Pending asset) → GraphKept g → IsExplainedRedirect w given k n → GraphKept (redirect_to (cut_at g k) k n)
  kept_cut g k n asset pending kept has = record {
    kind = kept.kind;
    slots = at;
    redirects = redirects_with g k n kept has;
    slots_stay = still;
    redirects_stay = redirects_stay_with g k n kept has;
  }
    where
      u : ModuleGraph
      u = redirect_to (cut_at g k) k n

      at : (q : List ℕ) (v : ModuleSlot) → finite.get (finite.remove g.slots k) q ≡ Some v → IsOpenSlot v ⊎ IsStoodOrAccounted q v
      at q v e = ⊎_elim (λ same. absurd (at_k same)) (λ ne. kept.slots q v (sym (cut_other g.slots k q ne) ∙ e)) (cases_text q k)
        where
          at_k : q ≡ k → ⊥
          at_k same =
              let found : finite.get (finite.remove g.slots k) k ≡ Some v = subst (λ x. finite.get (finite.remove g.slots k) x ≡ Some v) same e in
              let none = cut_same g.slots k in
              cc

      -- only a load stood there
      final_there : (v : ModuleSlot) → finite.get g.slots k ≡ Some v → is_pending v ≡ false → ⊥
      final_there v e f = let one : v ≡ Pending asset = cc in not_pending v asset f one

      here : (old : ModuleSlot) → finite.get given.graph.slots k ≡ Some old → is_pending old ≡ false → IsGone (redirect_to (cut_at g k) k n) k old
      here old e f = ⊎_elim
          (λ s. absurd (final_there old s f))
          (λ gone. ⊎_elim (λ x. absurd (final_there x.slot x.here x.final)) (λ a. inr (a.0, inr (n, put_same g.redirects k n, has))) gone)
          (kept.slots_stay k old e f)

      still : (q : List ℕ) (old : ModuleSlot) → finite.get given.graph.slots q ≡ Some old → is_pending old ≡ false → (finite.get (finite.remove g.slots k) q ≡ Some old) ⊎ IsGone (redirect_to (cut_at g k) k n) q old
      still q old e f = ⊎_elim
          (λ same. inr (subst (λ z. IsGone u z old) (sym same) (here old (subst (λ z. finite.get given.graph.slots z ≡ Some old) same e) f)))
          (λ ne. ⊎_elim (λ s. inl (cut_other g.slots k q ne ∙ s)) (λ r. inr (gone_as g u q old (cut_other g.slots k q ne) (redirect_still g k n has q) r)) (kept.slots_stay q old e f))
          (cases_text q k)

  pub kept_marked : (g : ModuleGraph) → GraphKept g → GraphKept (marked g)
  kept_marked g kept = record {
    kind = kept.kind;
    slots = kept.slots;
    redirects = kept.redirects;
    slots_stay = λ q old e f. ⊎_elim inl (λ gone. inr (gone_as g (marked g) q old refl (λ h. h) gone)) (kept.slots_stay q old e f);
    redirects_stay = kept.redirects_stay;
  }

  -- a graph with other packages
  pub kept_packages : (g : ModuleGraph) (p : PackageSpecifiers) → GraphKept g → GraphKept (record g { packages = p })
  kept_packages g p kept = record {
    kind = kept.kind;
    slots = kept.slots;
    redirects = kept.redirects;
    slots_stay = λ q old e f. ⊎_elim inl (λ gone. inr (gone_as g (record g { packages = p }) q old refl (λ h. h) gone)) (kept.slots_stay q old e f);
    redirects_stay = kept.redirects_stay;
  }

  -- a graph that knows another version
  pub kept_noted : (g : ModuleGraph) (read : Result KeptVersion JsrLoadError) → GraphKept g → GraphKept (noted g read)
  kept_noted g (Err e) kept = kept
  kept_noted g (Ok v) kept = kept_packages g (with_package g.packages v.nv) kept

  kept_as : (g : ModuleGraph) (a n : Parts) (u : ModuleGraph) → Moved g a n u → GraphKept g → IsExplainedRedirect w given (specifier_text a) n → GraphKept u
  kept_as g a n u (cut {asset} pending) all has = kept_cut g (specifier_text a) n asset pending all has
  kept_as g a n u (stays still) all has = all
  kept_as g a n u (put still) all has = kept_redirect g (specifier_text a) n all has

  pub kept_moved : (g : ModuleGraph) (a n : Parts) → GraphKept g → IsExplainedRedirect w given (specifier_text a) n → GraphKept (moved g a n)
  kept_moved g a n all has = kept_as g a n (moved g a n) (how_moved g a n) all has

  pub kept_renamed : (g : ModuleGraph) (a n : Parts) → GraphKept g → IsExplainedRedirect w given (specifier_text a) n → GraphKept (renamed g a n)
  kept_renamed g a n all has = by_name (same_specifier a n) refl
    where
      by_name : (b : Bool) → same_specifier a n ≡ b → GraphKept (renamed g a n)
      by_name true t = subst GraphKept (sym (ap (λ b. if b then g else moved g a n) t)) all
      by_name false f = subst GraphKept (sym (ap (λ b. if b then g else moved g a n) f)) (kept_moved g a n all has)

-- where each slot that counts by some contents does so by others
pub kept_by : (w : Told) (given : EnteredGraph) (few many : List LaterContent) (g : ModuleGraph) → ((k : List ℕ) (slot : ModuleSlot) → finite.get g.slots k ≡ Some slot → IsAccounted w given few k slot → IsAccounted w given many k slot) → GraphKept w given few g → GraphKept w given many g
kept_by w given few many g counts kept = record {
  kind = kept.kind;
  slots = λ k slot e. ⊎_elim inl (λ x. inr (⊎_elim inl (λ a. inr (counts k slot e a)) x)) (kept.slots k slot e);
  redirects = kept.redirects;
  slots_stay = λ k old e f. ⊎_elim inl (λ gone. inr (⊎_elim
      (λ x. inl record { slot = x.slot; here = x.here; accounted = counts k x.slot x.here x.accounted; final = x.final; asset = x.asset })
      inr
      gone)) (kept.slots_stay k old e f);
  redirects_stay = kept.redirects_stay;
}

-- ---- contents that come

-- one of the rest is among all
pub later_among : (l : LaterContent) (ls : List LaterContent) (x : LaterContent) → Contains ls x → Contains (l ∷ ls) x
later_among l ls x among = Contains-append_right (l ∷ []) ls x among

module _ (w : Told) (given : EnteredGraph) where
  -- with more contents to come
  pub accounted_more : (few many : List LaterContent) → ((l : LaterContent) → Contains few l → Contains many l) → (k : List ℕ) (slot : ModuleSlot) → IsAccounted w given few k slot → IsAccounted w given many k slot
  accounted_more few many more k slot a = ⊎_elim inl (λ x. inr record { later = x.later; among = more x.later x.among; is_later = x.is_later; named = x.named; slot_is = x.slot_is }) a

  pub kept_more : (few many : List LaterContent) (g : ModuleGraph) → ((l : LaterContent) → Contains few l → Contains many l) → GraphKept w given few g → GraphKept w given many g
  kept_more few many g more kept = kept_by w given few many g (λ k slot e a. accounted_more few many more k slot a) kept

  -- one of some is the first or among the rest
  first_or : (l : LaterContent) (ls : List LaterContent) (x : LaterContent) → Contains (l ∷ ls) x → (l ≡ x) ⊎ Contains ls x
  first_or l ls x among = ⊎_elim
      (λ one. let first : one.0 ≡ 0 = omega (arith, one.1) in inl (subst (λ k. get_or (l ∷ []) k x ≡ x) first one.2))
      inr
      (Contains-append_cases (l ∷ []) ls x among)

  -- once the first content came, a slot at another text counts by the rest
  pub accounted_less : (l : LaterContent) (ls : List LaterContent) (k : List ℕ) (slot : ModuleSlot) → IsAccounted w given (l ∷ ls) k slot → (k ≡ specifier_text l.specifier) ⊎ IsAccounted w given ls k slot
  accounted_less l ls k slot a = ⊎_elim
      (λ x. inr (inl x))
      (λ x. ⊎_elim
      (λ same. inl (sym x.named ∙ ap (λ (y : LaterContent). specifier_text y.specifier) (sym same)))
      (λ rest. inr (inr record { later = x.later; among = rest; is_later = x.is_later; named = x.named; slot_is = x.slot_is }))
      (first_or l ls x.later x.among))
      a

  -- and at its own, where an explained slot stands
  pub kept_less : (l : LaterContent) (ls : List LaterContent) (g : ModuleGraph) → ((slot : ModuleSlot) → finite.get g.slots (specifier_text l.specifier) ≡ Some slot → IsExplained w given (specifier_text l.specifier) slot) → GraphKept w given (l ∷ ls) g → GraphKept w given ls g
  kept_less l ls g here kept = kept_by w given (l ∷ ls) ls g
      (λ k slot e a. ⊎_elim
      (λ same. inl (subst (λ z. IsExplained w given z slot) (sym same) (here slot (subst (λ z. finite.get g.slots z ≡ Some slot) same e))))
      (λ rest. rest)
      (accounted_less l ls k slot a))
      kept
