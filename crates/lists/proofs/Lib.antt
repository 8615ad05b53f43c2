-- The laws of lists.
-- Truth, order, bounds
pub mod Truth
pub mod Between
-- Lists of numbers: members, counts, order
pub mod Members
pub mod Counts
pub mod Each
pub mod Rising
pub mod Passing
pub mod Sharing
pub mod Bounds
-- Lists of any items
pub mod Inserts
-- Lists in areas
pub mod Pads
pub mod Groups
-- Turns of the code's loops
pub mod Scanning
pub mod Fitting
pub mod Inserting
pub mod Keeping
