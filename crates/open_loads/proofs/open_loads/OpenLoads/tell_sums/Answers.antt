use Rattle.open_loads.proofs.Order.Telling.{files_kept, files_taught, still_as, sums_kept, sums_learned, sums_taught, told_both}
use Rattle.open_loads.proofs.open_loads.OpenLoads.tell_sums.Goals as goal

pub returns-in_err-tell_sources-clause-manifests_kept : goal.returns-in_err-tell_sources-clause-manifests_kept
returns-in_err-tell_sources-clause-manifests_kept g c = still_as c.args.self.now.known.manifests c.tell_sources.new.self.known.manifests c.tell_sources.ensures.others

pub returns-in_err-tell_files-clause-same : goal.returns-in_err-tell_files-clause-same
returns-in_err-tell_files-clause-same g c = told_both c.args.self.now c.tell_sources.new.self c.tell_files.new.self c.tell_sources.ensures.same c.tell_files.ensures.same

pub returns-in_err-tell_files-clause-kept : goal.returns-in_err-tell_files-clause-kept
returns-in_err-tell_files-clause-kept g c = sums_kept c.args.self.now c.tell_sources.new.self c.tell_files.new.self c.tell_sources.ensures.same c.tell_files.ensures.same c.tell_files.ensures.others c.tell_sources.ensures.kept

pub returns-in_err-tell_files-clause-manifests_kept : goal.returns-in_err-tell_files-clause-manifests_kept
returns-in_err-tell_files-clause-manifests_kept g c = files_kept c.args.self.now c.tell_sources.new.self c.tell_files.new.self c.tell_sources.ensures.same c.tell_files.ensures.same c.tell_sources.ensures.others c.tell_files.ensures.kept

pub returns-clause-same : goal.returns-clause-same
returns-clause-same g c = told_both c.args.self.now c.tell_sources.new.self c.tell_files.new.self c.tell_sources.ensures.same c.tell_files.ensures.same

pub returns-clause-taught : goal.returns-clause-taught
returns-clause-taught g c = sums_taught c.args.self.now c.tell_sources.new.self c.tell_files.new.self c.tell_sources.ensures.same c.tell_files.ensures.same c.tell_files.ensures.others c.in_ok-tell_sources.ensures.taught

pub returns-clause-kept : goal.returns-clause-kept
returns-clause-kept g c = sums_kept c.args.self.now c.tell_sources.new.self c.tell_files.new.self c.tell_sources.ensures.same c.tell_files.ensures.same c.tell_files.ensures.others c.tell_sources.ensures.kept

pub returns-clause-manifests : goal.returns-clause-manifests
returns-clause-manifests g c = files_taught c.args.self.now c.tell_sources.new.self c.tell_files.new.self c.tell_sources.ensures.same c.tell_files.ensures.same c.tell_sources.ensures.others c.in_ok-tell_files.ensures.taught

pub returns-clause-manifests_kept : goal.returns-clause-manifests_kept
returns-clause-manifests_kept g c = files_kept c.args.self.now c.tell_sources.new.self c.tell_files.new.self c.tell_sources.ensures.same c.tell_files.ensures.same c.tell_sources.ensures.others c.tell_files.ensures.kept

pub returns-in_err-tell_files-clause-learned : goal.returns-in_err-tell_files-clause-learned
returns-in_err-tell_files-clause-learned g c = sums_learned c.args.self.now c.tell_sources.new.self c.tell_files.new.self c.tell_sources.ensures.same c.tell_files.ensures.same c.tell_files.ensures.others c.tell_sources.ensures.learned

pub returns-clause-learned : goal.returns-clause-learned
returns-clause-learned g c = sums_learned c.args.self.now c.tell_sources.new.self c.tell_files.new.self c.tell_sources.ensures.same c.tell_files.ensures.same c.tell_files.ensures.others c.tell_sources.ensures.learned
