use Rattle.std.proofs.Common.{sym, ap, ◌∙◌, ◌++◌, lit<}
use Rattle.std.proofs.lemmas.Str.Pattern.{strip_prefix_char}
use Rattle.file_tree.proofs.PathLemmas.{below_stripped, below_none}
use Rattle.file_tree.proofs.tree.below.Goals as goal

pub returns-in-Some : goal.returns-in-Some
returns-in-Some c =
    let h = c.in-Some.ensures.cases in
    below_stripped c.args.directory.now c.args.path.now c.in-Some.part.now c.strip_prefix-in-Some.result
    (h.1.1 ∙ ap (λ l. c.args.directory.now ++ l) (sym h.2))
    (strip_prefix_char 47 c.in-Some.part.now c.strip_prefix-in-Some.result c.strip_prefix-in-Some.ensures.cases (lit< tt))

pub returns-in-None : goal.returns-in-None
returns-in-None c =
    sym (below_none c.args.directory.now c.args.path.now (λ part e. c.in-None.ensures.cases _ e))
