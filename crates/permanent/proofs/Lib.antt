pub mod Constants
pub mod RoundTrip
