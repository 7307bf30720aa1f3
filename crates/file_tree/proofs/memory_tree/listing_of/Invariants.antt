-- The names towards the paths so far.
use Rattle.std.proofs.Common.{◌≡◌, string_bytes, take, filter_map}
use Rattle.file_tree.specs.Tree.{ascending, name_towards}
use Rattle.file_tree.specs.Listing.{directory_towards}
use Rattle.file_tree.proofs.memory_tree.listing_of.Given as goal

abbrev pub invariant-loop-path : goal.invariant-loop-path
invariant-loop-path l = record {
  names : l.listing.names ≡ ascending (filter_map (λ path. name_towards l.directory (string_bytes path)) (take l.path-index l.paths));
  directories : l.listing.directories ≡ ascending (filter_map (λ path. directory_towards l.directory (string_bytes path)) (take l.path-index l.paths));
}
