pub mod Duration
