use Rattle.std.proofs.Common.{Some, None, lit<}
use Rattle.std.proofs.lemmas.Str.Pattern.{split_parts}
use Rattle.file_tree.proofs.PathLemmas.{first_name_all, first_name_before}
use Rattle.file_tree.proofs.memory_tree.name_of.Goals as goal

pub returns-in-Some : goal.returns-in-Some
returns-in-Some c =
    let r = split_parts 47 c.args.part.now (Some (c.in-Some.name, c.in-Some.field-0-1)) c.in-Some.ensures.cases (lit< tt) in
    first_name_before c.args.part.now c.in-Some.name.now c.in-Some.field-0-1.now r.0 r.1

pub returns-in-None : goal.returns-in-None
returns-in-None c =
    first_name_all c.args.part.now (split_parts 47 c.args.part.now None c.in-None.ensures.cases (lit< tt))
