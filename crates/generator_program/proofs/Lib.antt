mod Calm
mod Ends
mod Generated
