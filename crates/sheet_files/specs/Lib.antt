pub mod SheetFiles
