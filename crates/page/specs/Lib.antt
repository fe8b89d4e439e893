pub mod Line
pub mod TensModel
pub mod Pages
pub mod Fields
pub mod ReadBack
