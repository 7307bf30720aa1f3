use Rattle.std.proofs.Common.{◌≡◌, ℕ, List, Option, ap, ◌∙◌}
use Rattle.std.specs.BTreeMap.{insert_entry, is_at}
use Rattle.std.specs.Map.{lookup, remove_entry}
use Rattle.std.specs.Prelude.{string_bytes}
use Rattle.std.specs.String.{string_cmp}
use Rattle.std.specs.declared.string.String.{String}
use Rattle.spec_base.specs.Shown.{shown, text_cmp}
use Rattle.world_answers.specs.EntryModules.{joined, with_header}
use Rattle.world_answers.specs.declared.entry_modules.Header.{Header}
use Rattle.world_answers.proofs.HeaderLemmas.{lookup_named, remove_named, insert_named}
use Rattle.world_answers.proofs.entry_modules.put_header.Goals as goal

-- what was taken out and put in again, seen on the list of entries
header_put : {A : Type 0} (es left put : List (String A × List ℕ)) (h : Header) (query : List ℕ) (key : String A) (before : Option (List ℕ)) (value : List ℕ)
    → query ≡ h.name
    → before ≡ lookup (is_at (λ k. text_cmp query (string_bytes k))) es
    → left ≡ remove_entry (is_at (λ k. text_cmp query (string_bytes k))) es
    → value ≡ joined before h.value
    → string_bytes key ≡ h.name
    → put ≡ insert_entry string_cmp left key value
    → shown put ≡ with_header (shown es) h
header_put es left put h query key before value same found rest is named puts =
    let there : before ≡ lookup (is_at (text_cmp h.name)) (shown es) =
    found ∙ lookup_named query es ∙ ap (λ n. lookup (is_at (text_cmp n)) (shown es)) same in
    let others : shown left ≡ remove_entry (is_at (text_cmp h.name)) (shown es) =
    ap shown rest ∙ remove_named query es ∙ ap (λ n. remove_entry (is_at (text_cmp n)) (shown es)) same in
    ap shown puts ∙ insert_named left key value
    ∙ (λ i. insert_entry text_cmp (others i) (named i) ((is ∙ ap (λ b. joined b h.value) there) i))

pub returns : goal.returns
returns c =
    header_put c.args.found.now.entries c.remove-before.new.self.entries c.insert.new.self.entries c.args.header c.as_str.result.now c.into_string.result c.remove-before.result c.in_ok-value.value
    c.as_str.ensures c.remove-before.ensures.value c.remove-before.ensures.entries c.in_ok-value.ensures c.into_string.ensures c.in_ok-insert.ensures.entries
