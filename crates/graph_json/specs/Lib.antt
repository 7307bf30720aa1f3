pub mod GraphJson
