-- Demand 3 over the definition. What is promised: Owners (the sentence that Sound says), OneCall, Sequences, Frame, Spared,
-- OtherChains, Room, Refused, Numbers, Fresh, ChainOfFour. The others are how it is shown, lowest first.
pub mod Owners
pub mod Invariant
pub mod Effects
pub mod SoundTables
pub mod Rewritten
pub mod Agrees
pub mod LedgerTests
pub mod WritesAgree
pub mod ReadsAgree
pub mod Recount
pub mod ChangeAgrees
pub mod OneCall
pub mod Sequences
pub mod Sources
pub mod Laid
pub mod Frame
pub mod Spared
pub mod OtherChains
pub mod Refused
pub mod Numbers
pub mod Room
pub mod Fresh
pub mod ChainOfFour
