pub mod OnPlan
