pub mod JsrErrors
pub mod Errors
pub mod ErrorParts
pub mod Resolutions
pub mod Included
