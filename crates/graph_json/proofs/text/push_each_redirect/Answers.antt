use Rattle.std.proofs.Common.{◌++◌, Some, ap, ◌∙◌, rules}
use Rattle.serde_json.specs.Data.{string}
use Rattle.json_tokens.specs.Tokens.{member_tokens}
use Rattle.graph_json.proofs.RisingRows.{one_redirect_text}
use Rattle.graph_json.proofs.text.push_each_redirect.Goals as goal

pub loop-specifier-preserved : goal.loop-specifier-preserved
loop-specifier-preserved c =
    let l = c.loop-specifier in
    let key = c.as_str.result.now in
    one_redirect_text _ l.out _ c.in-Some.specifier.now c.in-Some.target.now l.specifier-iterator c.next.new.self key
    l.invariant (search rules) c.as_str.ensures.value
    (c.in_ok-text_member.ensures ∙ ap (λ t. l.out ++ member_tokens key (Some (string t))) c.as_str-in-loop-specifier.ensures.value)
