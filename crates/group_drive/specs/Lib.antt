pub mod GroupDrives
