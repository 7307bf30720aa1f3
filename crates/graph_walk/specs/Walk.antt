-- The words of a walk's public clauses, for the crates above.
pub use Rattle.graph_walk.specs.Options.{How, how}
pub use Rattle.graph_walk.specs.Order.{Entry, WalkView, entry_at, walk_order, rest, steps_left, texts}
pub use Rattle.graph_walk.specs.Closure.{Closure, GivesClosure}
pub use Rattle.graph_walk.specs.EntryValue.{item_value}
pub use Rattle.graph_walk.specs.Errors.{entry_errors, error_list, validity}
