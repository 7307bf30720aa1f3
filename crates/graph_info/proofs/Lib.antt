mod Finishes
mod Statuses
mod Words
