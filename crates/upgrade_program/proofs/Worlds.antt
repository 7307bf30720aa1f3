-- Bytes have a text in version 2 exactly where they are a world file.
use Rattle.std.proofs.Common.{◌≡◌, ℕ, List, Bool, true, false, Option, Some, None, if◌then◌else◌, option_and_then, refl, sym, ◌∙◌}
use Rattle.std.specs.Prelude.{◌≤◌, ◌++◌, [], length, IfSome, IsSome, Ok}
use Rattle.std.proofs.Common.{ap, subst}
use Rattle.std.proofs.lemmas.List.{append-nil}
use Rattle.byte_io.specs.Reading.{IsReadAll, ReadsAll, most_bytes}
use Rattle.upgrade_program.specs.Upgrade.{IsUpgradeOf, IsWorldRead, SaysOfFault}
use Rattle.upgrade_program.specs.declared.upgrade_fault.UpgradeFault.TheVariants.{NotAWorld}
use Rattle.std.specs.Str.{is_utf8}
use Rattle.json_forms.specs.Form.{◌>>=◌}
use Rattle.serde_json.specs.Data.{Data}
use Rattle.serde_json.specs.Read.{read}
use Rattle.world_file.specs.WorldFile.{whole_input, world_of}
use Rattle.world_file.specs.declared.input.Input.{Input}
use Rattle.world_upgrade.specs.Upgraded.{upgraded_text, upgraded_value, upgraded}

value_none : (d : Data) (o : Option Input) → (o >>= λ i. Some (upgraded_text d i.world.answers)) ≡ None → o ≡ None
value_none d None h = refl
value_none d (Some i) h = absurd (let wrong : Some (upgraded_text d i.world.answers) ≡ None = h in cc)

none_value : (d : Data) (o : Option Input) → o ≡ None → (o >>= λ i. Some (upgraded_text d i.world.answers)) ≡ None
none_value d None h = refl
none_value d (Some i) h = absurd (let wrong : Some i ≡ None = h in cc)

none_by : (b : Bool) (o : Option Data) → (if b then option_and_then upgraded_value o else None) ≡ None → (if b then option_and_then whole_input o else None) ≡ None
none_by false o h = refl
none_by true None h = refl
none_by true (Some d) h = value_none d (whole_input d) h

none_so : (b : Bool) (o : Option Data) → (if b then option_and_then whole_input o else None) ≡ None → (if b then option_and_then upgraded_value o else None) ≡ None
none_so false o h = refl
none_so true None h = refl
none_so true (Some d) h = none_value d (whole_input d) h

-- bytes without a text in version 2 are no world file
pub no_world : (bytes : List ℕ) → upgraded bytes ≡ None → world_of bytes ≡ None
unfolding upgraded world_of
no_world bytes none = none_by (is_utf8 bytes) (read bytes) none

no_text : (bytes : List ℕ) → world_of bytes ≡ None → upgraded bytes ≡ None
unfolding upgraded world_of
no_text bytes none = none_so (is_utf8 bytes) (read bytes) none

some_unless : (o : Option Input) → (o ≡ None → ⊥) → IsSome o
some_unless None h = absurd (h refl)
some_unless (Some i) h = refl

-- and bytes with one are
pub is_world : (bytes text : List ℕ) → upgraded bytes ≡ Some text → IsSome (world_of bytes)
is_world bytes text is = some_unless (world_of bytes) (λ none. (let wrong : None ≡ Some text = sym (no_text bytes none) ∙ is in cc))

-- what was read whole is all that the source had
whole : (bytes got : List ℕ) (now : Option (List ℕ)) → ReadsAll bytes now (Ok got) → (now ≡ Some []) × (got ≡ bytes) × (length bytes ≤ most_bytes)
whole bytes got now all =
    let taken : bytes ≡ all.taken = all.parts ∙ ap (λ (r : List ℕ). all.taken ++ r) all.ends.1 ∙ append-nil all.taken in (
      all.leaves ∙ ap Some all.ends.1,
      all.ends.0 ∙ sym taken,
      subst (λ (b : List ℕ). length b ≤ most_bytes) (sym taken) all.ends.2,
    )

module _ (told now : Option (List ℕ)) (got slice : List ℕ) (same : slice ≡ got) where
  -- a text that was made of what was read whole
  pub text_read : (text : List ℕ) → IsReadAll told now (Ok got) → IsUpgradeOf slice text → IfSome told (λ bytes. IsWorldRead bytes now × IsUpgradeOf bytes text)
  text_read text = text_by told
    where
      text_by : (o : Option (List ℕ)) → IsReadAll o now (Ok got) → IsUpgradeOf slice text → IfSome o (λ bytes. IsWorldRead bytes now × IsUpgradeOf bytes text)
      text_by None all is = tt
      text_by (Some bytes) all is =
          let parts = whole bytes got now all in
          let made : IsUpgradeOf bytes text = subst (λ (b : List ℕ). IsUpgradeOf b text) (same ∙ parts.1) is in
          ((parts.0, is_world bytes text made.is, parts.2), made)

  -- and no world
  pub none_read : IsReadAll told now (Ok got) → upgraded slice ≡ None → IfSome told (λ bytes. SaysOfFault bytes now NotAWorld)
  none_read = none_by_told told
    where
      none_by_told : (o : Option (List ℕ)) → IsReadAll o now (Ok got) → upgraded slice ≡ None → IfSome o (λ bytes. SaysOfFault bytes now NotAWorld)
      none_by_told None all none = tt
      none_by_told (Some bytes) all none =
          let parts = whole bytes got now all in
          (parts.0, subst (λ (b : List ℕ). world_of b ≡ None) (same ∙ parts.1) (no_world slice none), parts.2)
