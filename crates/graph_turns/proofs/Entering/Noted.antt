-- Dependencies that were noted, as packages get them one by one.
use Rattle.std.proofs.Common.{◌≡◌, List, [], ◌∷◌, sym, ap, ◌∙◌}
use Rattle.std.specs.Prelude.{fold}
use Rattle.registry_urls.specs.Meaning.{RegistryMeaning}
use Rattle.graph_turns.specs.declared.dependencies.Note.{Note}
use Rattle.graph_turns.specs.declared.state.State.{State}
use Rattle.graph_turns.specs.Machine.Waiting.{notes_added, with_noted}

pub one_noted : (registry : RegistryMeaning) (s u : State) (note : Note) (rest : List Note) → s.notes ≡ note ∷ rest → u ≡ record s { notes = rest; graph = with_noted registry s.graph note } → notes_added registry s ≡ notes_added registry u
one_noted registry s u note rest stands is =
    ap (λ (l : List Note). record s { graph = fold (with_noted registry) s.graph l; notes = [] }) stands ∙ sym (ap (notes_added registry) is)

pub all_noted : (registry : RegistryMeaning) (s : State) → s.notes ≡ [] → notes_added registry s ≡ s
all_noted registry s none =
    ap (λ (l : List Note). record s { graph = fold (with_noted registry) s.graph l; notes = [] }) none ∙ ap (λ (l : List Note). record s { notes = l }) (sym none)
