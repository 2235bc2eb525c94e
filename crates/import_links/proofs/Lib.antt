mod NameFaults
mod NumberSteps
mod Refused
pub mod Stable
mod JoinSteps
mod Fewer
mod Firsts
mod MergeSteps
mod Twins
