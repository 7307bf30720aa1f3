use Rattle.std.proofs.Common.{◌≡◌, ℕ, List, ◌++◌, map, option_map, Bor}
use Rattle.json_documents.specs.Documents.{named}
use Rattle.json_documents.specs.declared.value.Json.{Json}
use Rattle.json_forms.specs.Dictionary.{pairs_of}
use Rattle.json_forms.proofs.dictionary.read_members.Given as goal

-- what is read so far, with the keys passed, and what is left to read are the whole
abbrev pub invariant-loop-key : goal.invariant-loop-key
invariant-loop-key g l =
    (done : List (Bor (List ℕ) × Json)) × (l.initial.key-iterator ≡ done ++ l.key-iterator)
    × (map (λ e. e.0) l.found ≡ map (λ e. e.0.now) done)
    × (pairs_of g.V.Form.form (named l.members.entries) ≡ option_map (λ es. l.found ++ es) (pairs_of g.V.Form.form (named l.key-iterator)))
