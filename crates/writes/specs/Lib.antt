-- What the writing loop's functions promise: each step, and the state in which the loop may start.
pub mod Steps
pub mod Ready
