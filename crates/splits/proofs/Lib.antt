pub mod SplitGoes
