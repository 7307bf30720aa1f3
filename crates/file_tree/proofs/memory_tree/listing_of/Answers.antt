use Rattle.std.proofs.Common.{◌∙◌, ap, sym, arith, string_bytes}
use Rattle.file_tree.specs.Tree.{name_towards}
use Rattle.file_tree.specs.Listing.{directory_towards}
use Rattle.file_tree.proofs.TextSets.{added_next, added_all, mapped_names}
use Rattle.file_tree.proofs.memory_tree.listing_of.Goals as goal

pub loop-path-preserved : goal.loop-path-preserved
loop-path-preserved c = record {
  names = added_next (λ path. name_towards c.args.directory.now (string_bytes path)) c.args.paths.now c.loop-path.path-index c.path-item.result c.loop-path.listing.names c.put_path.new.listing.names (name_towards c.args.directory.now c.deref.result.now) (omega arith) c.path-item.is c.loop-path.invariant.names
      (ap (name_towards c.args.directory.now) c.deref.ensures) c.in_ok-put_path.ensures.names;
  directories = added_next (λ path. directory_towards c.args.directory.now (string_bytes path)) c.args.paths.now c.loop-path.path-index c.path-item.result c.loop-path.listing.directories c.put_path.new.listing.directories (directory_towards c.args.directory.now c.deref.result.now) (omega arith) c.path-item.is c.loop-path.invariant.directories
      (ap (directory_towards c.args.directory.now) c.deref.ensures) c.in_ok-put_path.ensures.directories;
}

pub returns-clause-names : goal.returns-clause-names
returns-clause-names c =
    added_all (λ path. name_towards c.args.directory.now (string_bytes path)) c.args.paths.now c.loop-path.path-index c.loop-path.listing.names (omega arith) c.loop-path.invariant.names
    ∙ sym (mapped_names (name_towards c.args.directory.now) string_bytes c.args.paths.now)

pub returns-clause-directories : goal.returns-clause-directories
returns-clause-directories c =
    added_all (λ path. directory_towards c.args.directory.now (string_bytes path)) c.args.paths.now c.loop-path.path-index c.loop-path.listing.directories (omega arith) c.loop-path.invariant.directories
    ∙ sym (mapped_names (directory_towards c.args.directory.now) string_bytes c.args.paths.now)
