-- Whether data holds whole numbers alone.
pub use Rattle.json_documents.specs.Whole.{is_whole, items_whole, members_whole}
