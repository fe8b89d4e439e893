pub mod Answer
pub mod MakeModel
