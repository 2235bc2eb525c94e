pub mod Bounded
pub mod Cuttable
pub mod Operations
pub mod Places
