use Rattle.std.proofs.Common.{◌≡◌, ℕ, List, [], ◌∷◌, ◌++◌, ap, ◌∙◌, arith, string_bytes, String, Global}
use Rattle.serde_json.specs.Read.{read}
use Rattle.serde_json.specs.View.{view}
use Rattle.world_upgrade.proofs.LineLemmas.{read_line}
use Rattle.world_upgrade.proofs.Sizes.{whole_no_float}
use Rattle.world_upgrade.proofs.upgrade.line_of.Goals as goal

pub returns-clause-text : goal.returns-clause-text
returns-clause-text c =
    let pushed = c.in_ok-push.ensures.bytes ∙ ap (λ b. string_bytes c.in_ok-text.text ++ b) (c.in_ok-push.ensures.ascii (omega arith)) in
    pushed ∙ ap (λ t. t ++ 10 ∷ []) (c.in_ok-text.ensures.text (whole_no_float (view c.args.value.now) c.requires.whole))

pub returns-clause-reads : goal.returns-clause-reads
returns-clause-reads c =
    let pushed = c.in_ok-push.ensures.bytes ∙ ap (λ b. string_bytes c.in_ok-text.text ++ b) (c.in_ok-push.ensures.ascii (omega arith)) in
    ap read pushed ∙ read_line (string_bytes c.in_ok-text.text) c.in_ok-text.ensures.compact ∙ c.in_ok-text.ensures.reads_back c.requires.nests
