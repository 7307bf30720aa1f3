use Rattle.std.proofs.Common.{◌≡◌, ◌∙◌, ap, sym, length, vec_len, eqb, arith, ◌∷◌, [], ◌++◌, flat_map}
use Rattle.file_tree.specs.Walk.{files_in, directories_in}
use Rattle.file_tree.proofs.WalkLemmas.{all_found_first, all_found_next, reach_next}
use Rattle.file_tree.proofs.walk.files_below.Goals as goal

pub levels-init : goal.levels-init
levels-init g c =
    all_found_first (g.T.FileTree.paths c.args.tree.now) c.args.directory.now c.new-files.result.items c.in_ok-level.level.items c.new-files.ensures.items
    (c.in_ok-level.ensures.items ∙ ap (λ d. d ∷ []) c.in_ok-from_str.ensures)

pub levels-smaller : goal.levels-smaller
levels-smaller g c =
    let counted : length c.levels.level.items ≡ vec_len c.levels.level = omega (arith, c.levels.level.ok.0) in
    reach_next (g.T.FileTree.paths c.args.tree.now) c.levels.level.items c.in_ok-level-2.level.items (ap (λ n. eqb n 0) counted ∙ sym c.levels-test.ensures)
    (c.in_ok-level-2.ensures.next ∙ ap (flat_map (directories_in (g.T.FileTree.paths c.args.tree.now))) c.deref.ensures.value)

pub levels-preserved : goal.levels-preserved
levels-preserved g c =
    all_found_next (g.T.FileTree.paths c.args.tree.now) c.args.directory.now c.levels.files.items c.levels.level.items c.next_level.new.files.items c.in_ok-level-2.level.items c.levels.invariant
    (c.in_ok-level-2.ensures.found ∙ ap (λ l. c.levels.files.items ++ flat_map (files_in (g.T.FileTree.paths c.args.tree.now)) l) c.deref.ensures.value)
    (c.in_ok-level-2.ensures.next ∙ ap (flat_map (directories_in (g.T.FileTree.paths c.args.tree.now))) c.deref.ensures.value)
