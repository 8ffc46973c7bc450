mod Tracing
mod Cases
