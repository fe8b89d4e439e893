pub mod PlanModel
pub mod ProgressModel
