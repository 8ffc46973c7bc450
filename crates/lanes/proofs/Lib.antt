pub mod Laws
pub mod MaskLaws
pub mod RowLaws
pub mod Cases
