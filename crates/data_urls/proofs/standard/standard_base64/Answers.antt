use Rattle.std.proofs.Common.{arith, ap, subst, ◌∙◌}
use Rattle.spec_base.specs.Refusal.{Reads}
use Rattle.data_urls.specs.Base64.{base64_of}
use Rattle.data_urls.proofs.SpellingLemmas.{answer_spells, encoding_is_read}
use Rattle.data_urls.proofs.standard.standard_base64.Goals as goal

pub returns-clause-spells : goal.returns-clause-spells
returns-clause-spells c =
    answer_spells c.args.text.now c.decoded.result (λ i. omega (arith, c.type_inv.text i)) (rw c.as_bytes.ensures.value at c.decoded.ensures)

pub returns-clause-encoded : goal.returns-clause-encoded
returns-clause-encoded c = λ bytes is_padded small e.
    subst (λ o. Reads c.decoded.result o) (ap base64_of (c.as_bytes.ensures.value ∙ e) ∙ encoding_is_read bytes is_padded small) c.decoded.ensures
