use Rattle.std.proofs.Common.{◌∙◌, ◌&&◌, ap, bytes_eq}
use Rattle.std.specs.Cmp.Lexicographic.{pointwise}
use Rattle.spec_base.specs.Shown.{shown}
use Rattle.spec_base.proofs.SortedLemmas.{equal_shown}
use Rattle.spec_base.proofs.sorted_texts.SortedTextsPartialEq.eq.Goals as goal

pub returns : goal.returns
returns g c =
    let same = pointwise (λ p q. bytes_eq p.0 q.0 && g.V.PartialEq.eq p.1 q.1) in
    c.eq.ensures ∙ equal_shown g.V.PartialEq.eq c.self.inside.map.entries c.other.inside.map.entries
    ∙ ap (λ es. same es (shown c.other.inside.map.entries)) c.self.view_is
    ∙ ap (same c.args.self.now) c.other.view_is
