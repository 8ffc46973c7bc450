pub mod Mark
pub mod Traces
