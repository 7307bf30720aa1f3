use Rattle.std.proofs.lemmas.List.{take_rest}
use Rattle.data_urls.proofs.MarkLemmas.{with_mark, without_mark}
use Rattle.data_urls.proofs.data_url.before_mark.Goals as goal

pub returns-then-is_mark : goal.returns-then-is_mark
returns-then-is_mark c =
    let e = rw (take_rest, c.as_bytes-bytes.ensures.value) at c.if-is_mark.ensures.value in
    rw (c.range.ensures.value, c.as_bytes-bytes.ensures.value) (with_mark c.args.head.now e)

pub returns-else-is_mark : goal.returns-else-is_mark
returns-else-is_mark c =
    let e = rw (take_rest, c.as_bytes-bytes.ensures.value) at c.if-is_mark.ensures.value in
    without_mark c.args.head.now e
