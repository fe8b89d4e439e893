pub mod Pairing
pub mod Report
pub mod PairingLaws
pub mod PairsModel
