pub mod GroupLaws
pub mod GroupFacts
pub mod GroupCases
pub mod GroupComputes
pub mod GroupKept
