pub mod KnownSpecifiers
pub mod WorldModules
pub mod WorldSources
pub mod SourceMembers
pub mod EntryModules
pub mod AnswerEntries
pub mod AnswerOrder
pub mod WorldAnswers
