mod Histories
mod Settling
mod Held
mod Calls
mod Ending
