pub mod EdgeHolderLemmas
pub mod NextGenerationLemmas
pub mod OrderRuleLemmas
pub mod SeatsAgreeLemmas
pub mod RolesViewLemmas
