use Rattle.std.proofs.Common.{◌≡◌, ◌++◌, option_map}
use Rattle.serde_json.specs.View as serde
use Rattle.json_documents.specs.Documents.{items_left}
use Rattle.json_forms.specs.Form.{items_of, specifier}
use Rattle.world_file.proofs.known_specifiers.read_list.Given as goal

-- what is read so far, and what is left to read, are the whole
abbrev pub invariant-loop-item : goal.invariant-loop-item
invariant-loop-item l =
    items_of specifier (serde.items_of (items_left l.initial.item-iterator))
    ≡ option_map (λ vs. l.roots.items ++ vs) (items_of specifier (serde.items_of (items_left l.item-iterator)))
