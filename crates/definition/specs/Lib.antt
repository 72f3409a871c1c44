-- What every call means, over lists of bytes. Read top to bottom.
pub mod Numbers
pub mod Tests
pub mod Settings
pub mod Slots
pub mod FreeList
pub mod Chains
pub mod Parts
pub mod Effect
pub mod Answers
pub mod Calls
pub mod Sound
pub mod Ledger
pub mod Run
pub mod Figures
