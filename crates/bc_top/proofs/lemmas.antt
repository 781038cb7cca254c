pub mod CallLemmas
pub mod ChangeCountLemmas
pub mod EndCompletenessLemmas
pub mod GenerationLemmas
pub mod ScheduleLemmas
