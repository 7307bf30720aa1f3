use Rattle.std.proofs.Common.{◌≡◌, false, rules, tests, sym, ◌∙◌}
use Rattle.std.specs.Prelude.{codes, IsTrue}
use Rattle.registry_urls.specs.Registry.{is_web}
use Rattle.url.specs.Parts.{has_host}
use Rattle.world_answers.proofs.ReadBack.{web_read, file_read}
use Rattle.world_answers.proofs.known_specifiers.is_read_back.Goals as goal
use Rattle.world_answers.proofs.known_specifiers.is_read_back.Goals.{then-eq-via-then-eq, then-eq-via-else-eq+then-eq-2}

pub returns-then-eq : goal.returns-then-eq
returns-then-eq c =
    let url = c.args.url.now in
    let web : IsTrue (is_web url) = elim c.then-eq.branch [
      | then-eq-via-then-eq w ↦ let a = w.if-eq.true in let b = c.eq.ensures in search (rules, tests)
      | then-eq-via-else-eq+then-eq-2 w ↦ let a = w.if-eq-2.true in let b = w.eq-else-eq.ensures in search (rules, tests)
    ] in
    λ is. web_read url c.scheme-scheme.ensures.valid web

pub returns : goal.returns
returns c =
    let url = c.args.url.now in
    let file : url.scheme ≡ codes "file" = search rules in
    let none : has_host url ≡ false = sym c.has_host.ensures ∙ c.if-has_host.false in
    λ is. file_read url c.scheme-scheme.ensures.valid file none (search rules)
