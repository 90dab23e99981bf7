pub mod ReadCalls
pub mod WriteCalls
pub mod RoundTrips
pub mod Promises
