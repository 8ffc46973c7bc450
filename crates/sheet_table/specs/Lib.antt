pub mod SheetTable
