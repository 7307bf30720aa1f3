use Rattle.std.proofs.Common.{◌≡◌, ℕ, List, Bool, true, false, Option, Some, None, IsUtf8, if◌then◌else◌, option_and_then, string_bytes, String, Global, refl, ap, sym, subst, ◌∙◌, rules}
use Rattle.std.proofs.lemmas.Result.{IfOk-weaker}
use Rattle.std.proofs.lemmas.Str.{IsUtf8-from_is_utf8, is_utf8-from_IsUtf8, IsUtf8-string_bytes}
use Rattle.std.specs.Str.{is_utf8}
use Rattle.serde_json.specs.Read.{read}
use Rattle.serde_json.specs.View.{view}
use Rattle.world_file.specs.WorldFile.{whole_input, world_of}
use Rattle.world_upgrade.specs.Upgraded.{upgraded_value, upgraded, Writes}
use Rattle.world_upgrade.proofs.upgrade.upgraded.Goals as goal

-- a text is what its JSON is
world_by_read : (t : List ℕ) → IsUtf8 t → world_of t ≡ option_and_then whole_input (read t)
unfolding world_of
world_by_read t valid = rw (is_utf8-from_IsUtf8 t valid) refl

upgraded_by_read : (t : List ℕ) → IsUtf8 t → upgraded t ≡ option_and_then upgraded_value (read t)
unfolding upgraded
upgraded_by_read t valid = rw (is_utf8-from_IsUtf8 t valid) refl

none_unless : (b : Bool) (o : Option (List ℕ)) → (b ≡ true → o ≡ None) → (if b then o else None) ≡ None
none_unless true o h = h refl
none_unless false o h = refl

upgraded-none : (bytes : List ℕ) → (IsUtf8 bytes → read bytes ≡ None) → upgraded bytes ≡ None
unfolding upgraded
upgraded-none bytes h = none_unless (is_utf8 bytes) _ (λ e. ap (option_and_then upgraded_value) (h (IsUtf8-from_is_utf8 bytes e)))

pub returns-in-Ok-clause-text : goal.returns-in-Ok-clause-text
returns-in-Ok-clause-text c =
    subst (Writes c.upgraded_value.result) (sym (upgraded_by_read c.args.bytes.now c.in-Ok.ensures.ok.0 ∙ ap (option_and_then upgraded_value) c.in-Ok.ensures.ok.1)) c.upgraded_value.ensures.text

pub returns-in-Ok-clause-same_world : goal.returns-in-Ok-clause-same_world
returns-in-Ok-clause-same_world c =
    IfOk-weaker c.upgraded_value.result _ _
    (λ s same. world_by_read (string_bytes s) (IsUtf8-string_bytes s) ∙ same ∙ sym (world_by_read c.args.bytes.now c.in-Ok.ensures.ok.0 ∙ ap (option_and_then whole_input) c.in-Ok.ensures.ok.1))
    c.upgraded_value.ensures.same

pub returns-in-Ok-clause-settled : goal.returns-in-Ok-clause-settled
returns-in-Ok-clause-settled c =
    IfOk-weaker c.upgraded_value.result _ _ (λ s settled. upgraded_by_read (string_bytes s) (IsUtf8-string_bytes s) ∙ settled) c.upgraded_value.ensures.settled

pub returns-else-is_memory-clause-text : goal.returns-else-is_memory-clause-text
returns-else-is_memory-clause-text c = upgraded-none c.args.bytes.now (c.in-Err.ensures.err (search rules))
