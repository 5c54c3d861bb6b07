mod Found
mod Tries
mod Obeys
mod Sessions
mod Drops
