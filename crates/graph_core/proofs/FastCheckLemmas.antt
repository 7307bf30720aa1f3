-- What stands at a text after what a fast check found was stored at a specifier.
use Rattle.std.proofs.Common.{◌≡◌, ℕ, true, false, cond, List, [], ◌∷◌, length, Bool, Option, None, Some, bytes_eq, is_some, sym, ap, ◌∙◌, refl}
use Rattle.std.proofs.lemmas.Map.Text.{is_eq-slice_cmp}
use Rattle.std.proofs.lemmas.Slice.Eq.{bytes_eq-Decides}
use Rattle.std.specs.Prelude.{option_map}
use Rattle.std.specs.Option.{option_or}
use Rattle.std.specs.Ordering.{eq_by_cmp, is_eq}
use Rattle.std.specs.Cmp.{Equal-is}
use Rattle.std.specs.Cmp.Lexicographic.{nat_list_cmp_total, nat_list_eq_equiv}
use Rattle.std.specs.Map.{lookup, set_value}
use Rattle.std.specs.FinMap as finite
use Rattle.std.specs.BTreeSet.{BTreeSet}
use Rattle.std.specs.FinMap.{FinMap, find, get-from_entries, IsAntisymmetric, nat_cmp-IsAntisymmetric, slice_cmp-IsAntisymmetric}
use Rattle.url.specs.Parts.{Parts}
use Rattle.spec_base.specs.Options.{by_option}
use Rattle.spec_base.specs.Shown.{text_cmp}
use Rattle.spec_base.specs.Specifier.{by_text, same_specifier, specifier_text}
use Rattle.specifier_index.specs.SpecifierTable.{IsCovered}
use Rattle.module_slots.specs.declared.fast_check.FastCheckTypeModuleSlot.{FastCheckTypeModuleSlot}
use Rattle.module_slots.specs.declared.slot.Module.TheVariants.{Js, Json, Wasm, Npm, Node, External}
use Rattle.module_slots.specs.declared.slot.ModuleSlot.{ModuleSlot}
use Rattle.module_slots.specs.declared.slot.ModuleSlot.TheVariants.{Module as Stands, Err as Failed, Pending}
use Rattle.graph_core.specs.FastChecks.{checked_slot, found_at, last_found, with_found}

-- of two that were found the later one stays
checked_twice : (a b : FastCheckTypeModuleSlot) (slot : ModuleSlot) → checked_slot b (checked_slot a slot) ≡ checked_slot b slot
checked_twice a b (Stands (Js m)) = refl
checked_twice a b (Stands (Json m)) = refl
checked_twice a b (Stands (Wasm m)) = refl
checked_twice a b (Stands (Npm m)) = refl
checked_twice a b (Stands (Node m)) = refl
checked_twice a b (Stands (External m)) = refl
checked_twice a b (Failed e) = refl
checked_twice a b (Pending is_asset) = refl

found_twice : (later first : Option FastCheckTypeModuleSlot) (slot : Option ModuleSlot) → option_map (with_found later) (option_map (with_found first) slot) ≡ option_map (with_found (option_or later first)) slot
found_twice None None None = refl
found_twice None None (Some slot) = refl
found_twice None (Some a) None = refl
found_twice None (Some a) (Some slot) = refl
found_twice (Some b) None None = refl
found_twice (Some b) None (Some slot) = refl
found_twice (Some b) (Some a) None = refl
found_twice (Some b) (Some a) (Some slot) = ap (λ x. Some x) (checked_twice a b slot)

pub nothing_found : (slot : Option ModuleSlot) → option_map (with_found None) slot ≡ slot
nothing_found None = refl
nothing_found (Some slot) = refl

exact : IsAntisymmetric text_cmp
exact = slice_cmp-IsAntisymmetric nat_cmp-IsAntisymmetric

-- texts that compare equal are one text
one_key : (q k : List ℕ) → eq_by_cmp text_cmp q k ≡ true → q ≡ k
one_key q k t = exact q k ((Equal-is (text_cmp q k)).0 t)

-- texts of the same bytes are one text
one_text : (a b : List ℕ) → bytes_eq a b ≡ true → a ≡ b
one_text a b e = (bytes_eq-Decides a b).0 e

-- two texts that differ, the other way round
other_text : (a b : List ℕ) → bytes_eq a b ≡ false → bytes_eq b a ≡ false
other_text a b e = nat_list_eq_equiv.symm b a ∙ e

in_front : {A B : Type 0} (o : Option B) (e : A) (es : List A) (f : B → List A) → by_option o (e ∷ es) (λ b. e ∷ f b) ≡ e ∷ by_option o es f
in_front None e es f = refl
in_front (Some b) e es f = refl

module _ (k : Parts) (found : FastCheckTypeModuleSlot) where
  -- the entries with what was found at the specifier
  abbrev stored : List (Parts × ModuleSlot) → List (Parts × ModuleSlot)
  stored es = by_option (lookup (same_specifier k) es) es (λ slot. set_value (same_specifier k) es (checked_slot found slot))

  -- what is found at a text, where it is told whether that is the specifier's
  at_text : (t : List ℕ) (b : Bool) → bytes_eq t (specifier_text k) ≡ b → found_at k found t ≡ cond b (Some found) None
  at_text t b e = ap (λ x. cond x (Some found) None) e

  find_stored : (es : List (Parts × ModuleSlot)) (t : List ℕ) → find text_cmp t (by_text (stored es)) ≡ option_map (with_found (found_at k found t)) (find text_cmp t (by_text es))
  unfolding specifier_text
  find_stored [] t = refl
  find_stored (e ∷ es) t = by (bytes_eq (specifier_text k) (specifier_text e.0)) refl (eq_by_cmp text_cmp t (specifier_text e.0)) refl (find_stored es t)
    where
      rest : Option ModuleSlot
      rest = find text_cmp t (by_text es)

      -- the entries where it is told whether the first one is at the specifier
      among : Bool → List (Parts × ModuleSlot)
      among s = by_option (cond s (Some e.1) (lookup (same_specifier k) es)) (e ∷ es) (λ slot. cond s ((e.0, checked_slot found slot) ∷ es) (e ∷ set_value (same_specifier k) es (checked_slot found slot)))

      by : (s : Bool) → bytes_eq (specifier_text k) (specifier_text e.0) ≡ s → (b : Bool) → eq_by_cmp text_cmp t (specifier_text e.0) ≡ b
          → find text_cmp t (by_text (stored es)) ≡ option_map (with_found (found_at k found t)) rest
          → find text_cmp t (by_text (among s)) ≡ option_map (with_found (found_at k found t)) (cond b (Some e.1) rest)
      by true s true b more =
          let own : bytes_eq t (specifier_text k) ≡ true = sym (is_eq-slice_cmp t (specifier_text k)) ∙ ap (eq_by_cmp text_cmp t) (one_text (specifier_text k) (specifier_text e.0) s) ∙ b in
          ap (λ x. cond x (Some (checked_slot found e.1)) rest) b ∙ sym (ap (λ f. option_map (with_found f) (Some e.1)) (at_text t true own))
      by true s false b more =
          let other : bytes_eq t (specifier_text k) ≡ false = sym (is_eq-slice_cmp t (specifier_text k)) ∙ ap (eq_by_cmp text_cmp t) (one_text (specifier_text k) (specifier_text e.0) s) ∙ b in
          ap (λ x. cond x (Some (checked_slot found e.1)) rest) b ∙ sym (ap (λ f. option_map (with_found f) rest) (at_text t false other) ∙ nothing_found rest)
      by false s true b more =
          let other : bytes_eq t (specifier_text k) ≡ false = ap (λ x. bytes_eq x (specifier_text k)) (one_key t (specifier_text e.0) b) ∙ other_text (specifier_text k) (specifier_text e.0) s in
          ap (λ xs. find text_cmp t (by_text xs)) (in_front (lookup (same_specifier k) es) e es (λ slot. set_value (same_specifier k) es (checked_slot found slot)))
          ∙ ap (λ x. cond x (Some e.1) (find text_cmp t (by_text (stored es)))) b ∙ sym (ap (λ f. option_map (with_found f) (Some e.1)) (at_text t false other))
      by false s false b more =
          ap (λ xs. find text_cmp t (by_text xs)) (in_front (lookup (same_specifier k) es) e es (λ slot. set_value (same_specifier k) es (checked_slot found slot)))
          ∙ ap (λ x. cond x (Some e.1) (find text_cmp t (by_text (stored es)))) b ∙ more

  -- what stands at a text then
  pub get_stored : (es : List (Parts × ModuleSlot)) (t : List ℕ) → finite.get (finite.from_entries {R = text_cmp} (by_text (stored es))) t ≡ option_map (with_found (found_at k found t)) (finite.get (finite.from_entries {R = text_cmp} (by_text es)) t)
  get_stored es t =
      get-from_entries nat_list_cmp_total (by_text (stored es)) t ∙ find_stored es t
      ∙ ap (option_map (with_found (found_at k found t))) (sym (get-from_entries nat_list_cmp_total (by_text es) t))

-- the slots by their specifiers
abbrev pub slots_of : List (Parts × ModuleSlot) → List ℕ → Option ModuleSlot
slots_of es t = finite.get (finite.from_entries {R = text_cmp} (by_text es)) t

-- one more of those that are left was stored
pub stored_one : (es fs : List (Parts × ModuleSlot)) (e : Parts × FastCheckTypeModuleSlot) (left : List (Parts × FastCheckTypeModuleSlot)) (t : List ℕ)
    → fs ≡ by_option (lookup (same_specifier e.0) es) es (λ slot. set_value (same_specifier e.0) es (checked_slot e.1 slot))
    → option_map (with_found (last_found (e ∷ left) t)) (slots_of es t) ≡ option_map (with_found (last_found left t)) (slots_of fs t)
unfolding last_found
stored_one es fs e left t is =
    sym (found_twice (last_found left t) (found_at e.0 e.1 t) (slots_of es t))
    ∙ sym (ap (λ xs. option_map (with_found (last_found left t)) (slots_of xs t)) is ∙ ap (option_map (with_found (last_found left t))) (get_stored e.0 e.1 es t))

-- nothing is left
pub stored_all : (slot : Option ModuleSlot) (t : List ℕ) → option_map (with_found (last_found [] t)) slot ≡ slot
unfolding last_found
stored_all slot t = nothing_found slot

pub none_left : {A : Type 0} (xs : List A) → length xs ≡ 0 → xs ≡ []
none_left [] e = refl
none_left (x ∷ xs) e = cc

-- a specifier has a slot still
still_some : (later : Option FastCheckTypeModuleSlot) (slot : Option ModuleSlot) → is_some (option_map (with_found later) slot) ≡ is_some slot
still_some later None = refl
still_some later (Some slot) = refl

-- so that the order covers what was stored
pub covered_stored : (order : BTreeSet Parts) (values new : FinMap text_cmp ModuleSlot) (later : List ℕ → Option FastCheckTypeModuleSlot) → ((t : List ℕ) → finite.get new t ≡ option_map (with_found (later t)) (finite.get values t)) → IsCovered order values → IsCovered order new
covered_stored order values new later is covers q has = covers q (sym (ap is_some (is q) ∙ still_some (later q) (finite.get values q)) ∙ has)
