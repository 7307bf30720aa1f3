use Rattle.std.proofs.Common.{◌≡◌, ◌==◌, drop, get_or, true, false, sym, ap, ◌∙◌, arith, take_all, length-drop}
use Rattle.fast_float.specs.Text.{scan}
use Rattle.serde_json.specs.Read.{number_of, number_from}
use Rattle.json_documents.proofs.numbers.read_number.Goals as goal

pub returns-then-is_negative : goal.returns-then-is_negative
unfolding number_of
returns-then-is_negative c =
    let bytes = c.as_bytes-bytes.result.now in
    let minus : (get_or bytes 0 0 == 45) ≡ true = sym c.if-is_negative.ensures.value in
    let behind : c.scan.result ≡ scan (drop 1 bytes) = c.scan.ensures.parts ∙ ap scan (take_all _ (drop 1 bytes) (omega (arith, length-drop 1 bytes))) in
    let is : number_from true (scan (drop 1 bytes)) ≡ number_of bytes = rw minus in
    c.negative.ensures ∙ ap (number_from true) behind ∙ is ∙ ap number_of c.as_bytes-bytes.ensures.value

pub returns-else-is_negative : goal.returns-else-is_negative
unfolding number_of
returns-else-is_negative c =
    let bytes = c.as_bytes-bytes.result.now in
    let plain : (get_or bytes 0 0 == 45) ≡ false = sym c.if-is_negative.ensures.value in
    let is : number_from false (scan bytes) ≡ number_of bytes = rw plain in
    c.unsigned.ensures ∙ ap (number_from false) c.scan-else-is_negative.ensures.parts ∙ is ∙ ap number_of c.as_bytes-bytes.ensures.value
