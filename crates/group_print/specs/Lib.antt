pub mod GroupPrint
