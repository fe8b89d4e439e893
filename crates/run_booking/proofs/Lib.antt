mod Step4
mod Turn
mod InRange
mod Decided
