mod Words
mod Again
mod Packages
mod Made
mod ErrorLines
mod Left
