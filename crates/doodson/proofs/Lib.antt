pub mod Digits
pub mod RoundTrip
