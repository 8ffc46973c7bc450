pub mod BigEndianLaws
pub mod LayoutLaws
