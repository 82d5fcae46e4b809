pub mod TallyLaws
pub mod TallyLemmas
