mod Agree
mod Ring
mod Placed
mod Joined
