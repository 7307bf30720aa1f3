use Rattle.std.proofs.Common.{◌≡◌, get_or, rules}
use Rattle.std.proofs.lemmas.Fn.{always_returns_same}
use Rattle.std.specs.Cmp.Lexicographic.{slice_cmp}
use Rattle.std.specs.Ordering.{nat_cmp}
use Rattle.url.specs.Parts.{Parts, serialize}
use Rattle.world_answers.proofs.KeyLemmas.{same_text}
use Rattle.world_answers.proofs.known_specifiers.key_of.Goals as goal

pub returns-in-Ok : goal.returns-in-Ok
returns-in-Ok c =
    let t = c.args.text.now in
    let by = λ (k : Parts). slice_cmp nat_cmp (serialize k) t in
    let equal = c.in-Ok.ensures.position by (always_returns_same _ (λ a r. r ≡ by a.0.now) _ (λ a r f' k. search rules)) in
    let same : serialize (get_or c.args.keys.now c.in-Ok.place c.index-keys-place.result) ≡ t = same_text _ t (equal c.index-keys-place.result) in
    search (rules, same)
