-- The tokens of a graph, member by member.
use Rattle.std.proofs.Common.{◌≡◌, ℕ, List, [], ◌∷◌, ◌++◌, Option, None, Some, length, refl, ap, ◌∙◌}
use Rattle.std.specs.Prelude.{codes, option_map}
use Rattle.serde_json.proofs.OnLiterals.{serde_json_on_literals}
use Rattle.serde_json.specs.Data.{Data}
use Rattle.url.specs.Parts.{Parts, serialize}
use Rattle.spec_base.specs.Specifier.{specifier_text, by_text}
use Rattle.spec_base.specs.declared.position.Range.{Range}
use Rattle.json_forms.specs.Rows.{Rows, object_of, list_json, if_any}
use Rattle.json_tokens.specs.Tokens.{data_tokens, member_tokens, list_tokens}
use Rattle.json_tokens.proofs.RowTokens.{Tokens, one_item}
use Rattle.module_slots.specs.declared.slot.ModuleSlot.{ModuleSlot}
use Rattle.graph_json.specs.GraphJson.{mode_json, span_json, resolution_rows, by_slot, slot_json}

-- the members of a target in the order of their keys
abbrev pub target_rows : Data → Range → Rows
target_rows value r = (codes "resolutionMode", option_map mode_json r.resolution_mode) ∷ (codes "span", Some (span_json r.range)) ∷ (codes "specifier", Some value) ∷ []

in_order : (mode : Option Data) (span value : Data) → object_of ((codes "specifier", Some value) ∷ (codes "resolutionMode", mode) ∷ (codes "span", Some span) ∷ []) ≡ object_of ((codes "resolutionMode", mode) ∷ (codes "span", Some span) ∷ (codes "specifier", Some value) ∷ [])
unfolding serde_json_on_literals
in_order None span value = refl
in_order (Some d) span value = refl

pub target_same : (value : Data) (r : Range) → object_of (resolution_rows (codes "specifier") value r) ≡ object_of (target_rows value r)
target_same value r = in_order (option_map mode_json r.resolution_mode) (span_json r.range) value

-- a list that isn't empty stands
pub some_listed : {A : Type 0} (name : List ℕ) (f : A → Data) (xs : List A) → ¬ (length xs ≡ 0) → member_tokens name (Some (list_json f xs)) ≡ member_tokens name (if_any f xs)
some_listed name f [] h = absurd (h refl)
some_listed name f (x ∷ xs) h = refl

-- one more slot is written
pub one_slot_text : (all before after : Tokens) (s : Parts) (slot : ModuleSlot) (left rest : List (Parts × ModuleSlot)) (key : List ℕ) → all ≡ before ++ list_tokens slot_json (by_text left) → left ≡ (s, slot) ∷ rest → key ≡ serialize s → after ≡ before ++ data_tokens (by_slot key slot)
    → all ≡ after ++ list_tokens slot_json (by_text rest)
unfolding specifier_text
one_slot_text all before after s slot left rest key is split text wrote =
    one_item slot_json all before after (serialize s, slot) (by_text left) (by_text rest) is (ap by_text split) (wrote ∙ ap (λ k. before ++ data_tokens (by_slot k slot)) text)
