mod Calls
mod Causes
mod Ending
mod Pieces
mod Runs
mod Steps
mod Tasks
