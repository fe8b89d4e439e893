pub mod LastStep
