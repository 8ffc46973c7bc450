pub mod CardLaws
pub mod RoundTrip
pub mod Cases
