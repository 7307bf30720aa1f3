pub mod Choice
pub mod Greater
pub mod Views
pub mod RegistryFiles
pub mod Exports
pub mod ExportViews
pub mod FileViews
pub mod ReadBack
