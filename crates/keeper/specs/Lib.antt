-- what a reader has to believe
pub mod Descriptions
pub mod Intervals
pub mod Rules
-- lemmas: an impl proves the laws of its trait in src/, where only files of specs/ can be cited
pub mod Sound
pub mod Between
pub mod Ext
pub mod Results
pub mod PlainKeeperLemmas
