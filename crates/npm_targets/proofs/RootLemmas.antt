-- The specifiers of a set, put into another one after the other.
use Rattle.std.proofs.Common.{◌≡◌, List, []}
use Rattle.std.specs.Prelude.{fold}
use Rattle.std.specs.List.{IsDistinct}
use Rattle.std.specs.Cmp.{on_equiv}
use Rattle.std.specs.Cmp.Lexicographic.{nat_list_eq_equiv}
use Rattle.indexmap.specs.IndexSet.{insert_key}
use Rattle.indexmap.proofs.SetLemmas.{set_all_distinct}
use Rattle.url.specs.Parts.{Parts, serialize}
use Rattle.spec_base.specs.Specifier.{same_specifier}

-- where each stands once, they come out in their order
pub all_inserted : (ks : List Parts) → IsDistinct same_specifier ks → fold (insert_key same_specifier) [] ks ≡ ks
all_inserted ks d = set_all_distinct (on_equiv serialize nat_list_eq_equiv) [] ks d
