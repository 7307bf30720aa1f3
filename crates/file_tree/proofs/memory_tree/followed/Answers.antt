use Rattle.std.proofs.Common.{Some, None, lit<, sym, ap, ◌∙◌}
use Rattle.std.proofs.lemmas.Str.Pattern.{split_parts}
use Rattle.file_tree.proofs.ListingLemmas.{followed_before, followed_all}
use Rattle.file_tree.proofs.memory_tree.followed.Goals as goal

pub returns-in_ok-from_str-in-Some : goal.returns-in_ok-from_str-in-Some
returns-in_ok-from_str-in-Some c =
    let r = split_parts 47 c.args.part.now (Some (c.in-Some.name, c.in-Some.field-0-1)) c.in-Some.ensures.cases (lit< tt) in
    ap Some c.in_ok-from_str-in-Some.ensures
    ∙ sym (followed_before c.args.part.now c.in-Some.name.now c.in-Some.field-0-1.now r.0 r.1)

pub returns-in-None : goal.returns-in-None
returns-in-None c =
    sym (followed_all c.args.part.now (split_parts 47 c.args.part.now None c.in-None.ensures.cases (lit< tt)))
