-- What the contracts of the program cite.
pub mod Came
pub mod Moved
pub mod Reached
pub mod Sending
