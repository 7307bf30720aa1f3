-- How the answers of a world are found.
use Rattle.std.specs.Prelude.{◌≡◌, ℕ, slice_get, option_map, List, Option, None, Some, if◌then◌else◌}
use Rattle.std.specs.FinMap.{FinMap}
use Rattle.std.specs.List.Sorted.{IsStrictlySortedBy-prop}
use Rattle.std.proofs.Props.{props}
use Rattle.url.specs.Parts.{Parts}
use Rattle.spec_base.specs.Options.{then_by}
use Rattle.spec_base.specs.Places.{with_first, IsIndex}
use Rattle.spec_base.specs.Shown.{text_cmp}
use Rattle.spec_base.specs.Specifier.{specifier_text}
use Rattle.source_io.specs.Answers.{lists_for, same_purpose}
use Rattle.source_io.specs.AnswerOrder.{AreRising}
use Rattle.source_io.specs.declared.answer_places.AnswerPlaces.{AnswerPlaces}
use Rattle.source_io.specs.declared.answer_places.AnswerPlaces.TheVariants.{Rising, Noted}
use Rattle.source_io.specs.declared.noted_places.NotedPlaces.{NotedPlaces}
use Rattle.source_io.specs.declared.types.Answer.{Answer}
use Rattle.source_io.specs.declared.types.Purpose.{Purpose}
use Rattle.source_io.specs.declared.types.Purpose.TheVariants.{LoadUse, EnsureUse, LoadReload, EnsureReload, LoadOnly}

-- the places of first answers for a purpose, with one more entry at a place
abbrev pub with_entry : Purpose → FinMap text_cmp ℕ → Parts × Purpose × Answer → ℕ → FinMap text_cmp ℕ
with_entry p places e place = if same_purpose e.1 p then with_first places (specifier_text e.0) place else places

-- the answer at a place
abbrev pub answer_at : List (Parts × Purpose × Answer) → Option ℕ → Option Answer
answer_at es place = option_map (λ e. e.2) (then_by place (slice_get es))

-- the places of first answers by specifier, for each purpose
abbrev pub places_for : Purpose → NotedPlaces → FinMap text_cmp ℕ
places_for LoadUse places = places.load_use
places_for EnsureUse places = places.ensure_use
places_for LoadReload places = places.load_reload
places_for EnsureReload places = places.ensure_reload
places_for LoadOnly places = places.load_only

-- they lead to the first answer of each specifier for each purpose
abbrev pub AreNoted : List (Parts × Purpose × Answer) → NotedPlaces → Type 0
AreNoted es places = (p : Purpose) → IsIndex (lists_for p) es (places_for p places)

-- the places that are kept beside the answers
abbrev pub kept_places : AnswerPlaces → Option NotedPlaces
kept_places Rising = None
kept_places (Noted places) = Some places

-- the answers rise where nothing is kept beside them, and else their places are noted
pub record IsAnswerIndex (es : List (Parts × Purpose × Answer)) (places : AnswerPlaces) : Type 0 where
  pub rising : kept_places places ≡ None → AreRising es
  pub noted : (kept : NotedPlaces) → kept_places places ≡ Some kept → AreNoted es kept

-- how it is shown that this is a fact
pub ruleset index_props = (props, IsStrictlySortedBy-prop)
