-- Laws of the writing loop: links and slots taken, the pieces by their place, what the two loops keep, and how a call may start them.
pub mod Links
pub mod Pieces
pub mod Clearing
pub mod Going
pub mod Accepted
