pub mod StoredInC
