mod Logs
mod Seats
