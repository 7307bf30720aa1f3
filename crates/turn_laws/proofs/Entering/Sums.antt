-- The sums that are kept once that of a slot was added.
use Rattle.std.proofs.Common.{◌≡◌, ℕ, List, Bool, true, false, if◌then◌else◌, Option, None, Some, sym, ◌∙◌, subst, inl, inr, ⊎_elim, ◌⊎◌}
use Rattle.std.specs.FinMap as finite
use Rattle.url.specs.Parts.{Parts}
use Rattle.spec_base.specs.Specifier.{specifier_text}
use Rattle.source_sums.specs.Sums.{KnownSums}
use Rattle.module_slots.specs.declared.slot.ModuleSlot.{ModuleSlot}
use Rattle.semver_npm.specs.declared.package.PackageNv.{PackageNv}
use Rattle.graph_turns.specs.Machine.Sums.{slot_sum, sum_in, sums_with, with_sum}
use Rattle.graph_core.proofs.At.{cases_text, put_same, put_other}
use Rattle.graph_turns.specs.Machine.Entering.{sums_by}

-- a sum stood there, or is the one that was added at its name
added : (sums : KnownSums) (name : Parts) (new : Option (List ℕ)) (k sum : List ℕ) → finite.get (with_sum sums name new) k ≡ Some sum → (finite.get sums k ≡ Some sum) ⊎ ((k ≡ specifier_text name) × (new ≡ Some sum))
added sums name None k sum e = inl e
added sums name (Some new) k sum e = by (finite.contains_key sums (specifier_text name)) e
  where
    by : (b : Bool) → finite.get (if b then sums else finite.insert sums (specifier_text name) new) k ≡ Some sum → (finite.get sums k ≡ Some sum) ⊎ ((k ≡ specifier_text name) × (Some new ≡ Some sum))
    by true at = inl at
    by false at = ⊎_elim
        (λ same. inr (same, sym (put_same sums (specifier_text name) new) ∙ subst (λ z. finite.get (finite.insert sums (specifier_text name) new) z ≡ Some sum) same at))
        (λ ne. inl (sym (put_other sums (specifier_text name) new k ne) ∙ at))
        (cases_text k (specifier_text name))

-- a sum stood there, or is that of the slot at its name
sum_with : (sums : Option KnownSums) (name : Parts) (slot : ModuleSlot) (k sum : List ℕ) → sum_in (sums_with sums name slot) k ≡ Some sum → (sum_in sums k ≡ Some sum) ⊎ ((k ≡ specifier_text name) × (slot_sum slot ≡ Some sum))
sum_with None name slot k sum e = inl e
sum_with (Some sums) name slot k sum e = added sums name (slot_sum slot) k sum e

pub sum_added : (held : Option PackageNv) (sums : Option KnownSums) (name : Parts) (slot : ModuleSlot) (k sum : List ℕ) → sum_in (sums_by held sums name slot) k ≡ Some sum → (sum_in sums k ≡ Some sum) ⊎ ((k ≡ specifier_text name) × (slot_sum slot ≡ Some sum))
sum_added None sums name slot k sum e = sum_with sums name slot k sum e
sum_added (Some nv) sums name slot k sum e = inl e
