pub mod SheetText
pub mod Put
