-- What is written and the tokens of what is left make the whole.
use Rattle.std.proofs.Common.{◌≡◌, ◌++◌, map}
use Rattle.std.specs.FinMap as finite
use Rattle.spec_base.specs.Specifier.{by_text}
use Rattle.json_tokens.specs.Tokens.{rows_tokens}
use Rattle.graph_json.specs.GraphJson.{redirect_row}
use Rattle.graph_json.proofs.text.push_each_redirect.Given as goal

abbrev pub invariant-loop-specifier : goal.invariant-loop-specifier
invariant-loop-specifier l = l.fn.out ++ rows_tokens (map redirect_row (finite.entries l.redirects)) ≡ l.out ++ rows_tokens (map redirect_row (by_text l.specifier-iterator))
