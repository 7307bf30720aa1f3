use Rattle.std.proofs.Common.{◌≡◌, [], ◌∷◌, ◌++◌, map, ℤ, string_bytes, String, Global, sym, ap, ◌∙◌, append_assoc, append-nil, rules}
use Rattle.std.proofs.lemmas.List.{map-append}
use Rattle.spec_base.specs.Shown.{shown}
use Rattle.version_dates.specs.declared.newest_date.PrefixDate.{PrefixDate}
use Rattle.world_file.specs.WorldRegistry.{dated}
use Rattle.world_file.proofs.world_registry.limits.Goals as goal

pub loop-key-preserved : goal.loop-key-preserved
loop-key-preserved c =
    let l = c.loop-key in
    let done = l.invariant.0 in
    let e : String Global × ℤ = (c.in-Some.key.now, c.in-Some.at.now) in
    let left = c.next.new.self in
    let all : c.into_iter-key-iterator.result ≡ done ++ e ∷ left = l.invariant.1 ∙ ap (λ es. done ++ es) c.in-Some.ensures.steps in
    let one : PrefixDate = record { prefix = c.in_ok-prefix.prefix; date = record { 0 = c.as_instant.result } } in
    let named : dated one ≡ (string_bytes e.0, e.1) = search rules in
    let placed : c.push.new.self ≡ l.found ++ one ∷ [] = search rules in (
      done ++ e ∷ [],
      all ∙ sym (append_assoc done (e ∷ []) left),
      ap (map dated) placed ∙ map-append dated l.found (one ∷ []) ∙ ap (λ ds. ds ++ dated one ∷ []) l.invariant.2
          ∙ ap (λ d. shown done ++ d ∷ []) named ∙ sym (map-append (λ (x : String Global × ℤ). (string_bytes x.0, x.1)) done (e ∷ [])),
    )

pub returns : goal.returns
returns c =
    let l = c.loop-key in
    let done = l.invariant.0 in
    let whole : c.into_iter-key-iterator.result ≡ c.as_map.result.now.entries = search rules in
    let all : c.as_map.result.now.entries ≡ done = sym whole ∙ l.invariant.1 ∙ ap (λ es. done ++ es) c.in-None.ensures.steps.0 ∙ append-nil done in
    l.invariant.2 ∙ ap shown (sym all) ∙ c.as_map.ensures
