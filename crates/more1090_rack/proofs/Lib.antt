pub mod FlatIsLeft
