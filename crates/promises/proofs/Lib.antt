-- Demands 1 and 3 said of the code, of the table's calls and of the C functions, and tightness. What is promised: EachCall, Histories, Tight,
-- StationTight, StationParts, Dummies. Performed (the table's calls) and Exported (the C functions) are what they speak of.
pub mod Performed
pub mod Exported
pub mod Histories
pub mod EachCall
pub mod Tight
pub mod StationTight
pub mod StationParts
pub mod Dummies
